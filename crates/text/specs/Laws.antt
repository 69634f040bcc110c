-- What holds of every text beside the verdict on it.
use Rattle.std.specs.Prelude.{◌≡◌, ℕ, List, length, IsUtf8, Result}
use Rattle.text.specs.declared.faults.TextFault.{TextFault}
use Rattle.text.specs.Characters.{characters}
use Rattle.text.specs.Splits.{Splits, WellFormed}
use Rattle.text.specs.Verdicts.{Tested}

pub record TextLaws (text : List ℕ) : Type 0 where
  -- only one verdict will do
  pub one_verdict : (r s : Result (Unit {0}) TextFault) → Tested text r → Tested text s → r ≡ s
  -- a text splits in one way
  pub one_split : (ss ts : List (List ℕ)) → Splits ss text → Splits ts text → ss ≡ ts
  -- into as many sequences as it has characters
  pub counted : (ss : List (List ℕ)) → Splits ss text → length ss ≡ characters text
  -- and the table's texts are the encodings of Unicode scalar values
  pub unicode : (WellFormed text → IsUtf8 text) × (IsUtf8 text → WellFormed text)
