-- A word by its kind, its place in the line and its bytes.
use Rattle.std.specs.Prelude.{ℕ, List}
use Rattle.scripts.specs.declared.words.Word.{Word}
use Rattle.scripts.specs.declared.words.Word.TheVariants.{Keyword, Number, Rest}

pub data Part : Type 0 where
  key : ℕ → List ℕ → Part
  numeral : ℕ → List ℕ → Part
  tail : ℕ → List ℕ → Part

abbrev pub word_of : Word → Part
word_of (Keyword place bytes) = key place bytes.now
word_of (Number place text) = numeral place text.now
word_of (Rest place bytes) = tail place bytes.now

abbrev pub part_bytes : Part → List ℕ
part_bytes (key place bytes) = bytes
part_bytes (numeral place bytes) = bytes
part_bytes (tail place bytes) = bytes
