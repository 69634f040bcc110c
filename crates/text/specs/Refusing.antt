-- A fault where there is one, else the value.
use Rattle.std.specs.Prelude.{◌≡◌, Some, None, Ok, Err, MatchResult, Option, Result}

abbrev pub unless : {E X : Type 0} → Option E → X → Result X E
unless (Some f) x = Err f
unless None x = Ok x

-- the same of an answer whose value is known by a fact alone
abbrev pub Answers : {E X : Type 0} → Option E → (X → Type 0) → Result X E → Type 0
Answers fault P r = MatchResult r (λ v. (fault ≡ None) × P v) (λ f. fault ≡ Some f)
