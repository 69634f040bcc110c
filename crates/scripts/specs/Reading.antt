-- What a script means: its outcome, built and printed at `show`.
use Rattle.std.specs.Prelude.{◌≡◌, ℕ, List, Ok, Err, Option, Result}
use Rattle.text.specs.Refusing.{unless}
use Rattle.builders.specs.Builds.{Judged}
use Rattle.builders.specs.declared.builds.BuildFault.{BuildFault}
use Rattle.scripts.specs.Outcomes.{Outcome, refused, shown, outcome}
use Rattle.scripts.specs.Records.{record_of}
use Rattle.scripts.specs.Steps.{Drawn, drawn}
use Rattle.scripts.specs.declared.faults.ScriptFault.TheVariants.{Build}
use Rattle.scripts.specs.declared.faults.ScriptRefusal.{ScriptRefusal}
use Rattle.scripts.specs.declared.faults.ScriptError.{ScriptError}
use Rattle.scripts.specs.declared.faults.ScriptError.TheVariants.{Refused, NoMemory}

-- the buffer has this many tokens
abbrev pub token_limit : ℕ
token_limit = 1024

-- what building answers of what the lines have made
abbrev pub Built : Drawn → Result ℕ BuildFault → Type 0
Built (drawn text labels nodes depth to) answer = Judged depth nodes text labels token_limit answer

-- the same with the fault as the script's, at a line
abbrev pub BuiltAt : ℕ → Drawn → Result ℕ ScriptRefusal → Type 0
BuiltAt line d (Ok n) = Built d (Ok n)
BuiltAt line d (Err f) = (fault : BuildFault) × (Built d (Err fault) × (f ≡ record { line = line; fault = Build fault }))

abbrev pub printed : Drawn → ℕ → List ℕ
printed (drawn text labels nodes depth to) tokens = record_of text labels nodes tokens

-- at `show` the build's answer comes first, and then a line that follows
abbrev pub judged : Drawn → ℕ → Option ScriptRefusal → Result ℕ BuildFault → Result (List ℕ) ScriptRefusal
judged d line next (Ok tokens) = unless next (printed d tokens)
judged d line next (Err fault) = Err (record { line = line; fault = Build fault })

abbrev pub Settles : Outcome → Result (List ℕ) ScriptRefusal → Type 0
Settles (refused f) answer = answer ≡ Err f
Settles (shown d line next) answer = (built : Result ℕ BuildFault) × (Built d built × (answer ≡ judged d line next built))

-- the record that the script prints, or its refusal
abbrev pub Means : List ℕ → Result (List ℕ) ScriptRefusal → Type 0
Means script answer = Settles (outcome script) answer

-- a refusal is the outcome's, and want of memory says nothing of it
abbrev pub Fails : Outcome → ScriptError → Type 0
Fails o (Refused f) = Settles o (Err f)
Fails o NoMemory = Unit {0}
