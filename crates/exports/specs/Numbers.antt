-- A verdict as one number.
use Rattle.std.specs.Prelude.{◌≡◌, ℕ, List, Ok, Err, Result}
use Rattle.text.specs.declared.faults.TextFault.{TextFault}
use Rattle.text.specs.Faults.{text_refusal}
use Rattle.text.specs.Verdicts.{Tested}

-- 0 for none, else the refusal's number
abbrev pub number : Result (Unit {0}) TextFault → ℕ
number (Ok _) = 0
number (Err f) = (text_refusal f).number

abbrev pub numbered : List ℕ → ℕ → Type 0
numbered text n = (r : Result (Unit {0}) TextFault) × (Tested text r × (n ≡ number r))
