-- What a sequence's first byte says of its length.
use Rattle.std.specs.Prelude.{◌≡◌, ℕ, List, ◌∷◌, length}
use Rattle.text.specs.Table.{Sequence}
use Rattle.text.specs.declared.sequences.SequenceLength.{SequenceLength}
use Rattle.text.specs.declared.sequences.SequenceLength.TheVariants.{One, Two, Three, Four}

abbrev pub count : SequenceLength → ℕ
count One = 1
count Two = 2
count Three = 3
count Four = 4

-- the sequences that begin with the byte a, of which there are some, have n bytes
pub record LengthOf (a n : ℕ) : Type 0 where
  pub every : (s : List ℕ) → Sequence (a ∷ s) → length (a ∷ s) ≡ n
  pub some : (s : List ℕ) × Sequence (a ∷ s)

-- no sequence begins with the byte a
abbrev pub LeadsNone : ℕ → Type 0
LeadsNone a = (s : List ℕ) → Sequence (a ∷ s) → ⊥
