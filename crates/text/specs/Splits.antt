-- A text is well-formed when it splits into sequences of the table.
use Rattle.std.specs.Prelude.{◌≡◌, ℕ, ◌<◌, ◌≤◌, List, ◌++◌, length, take, ◌≢◌, All}
use Rattle.std.specs.List.{flat_map}
use Rattle.text.specs.Table.{Sequence}

-- the sequences ss, one after the other, are the text
pub record Splits (ss : List (List ℕ)) (text : List ℕ) : Type 0 where
  pub each : All Sequence ss
  pub whole : flat_map (λ s. s) ss ≡ text

abbrev pub WellFormed : List ℕ → Type 0
WellFormed text = (ss : List (List ℕ)) × Splits ss text

-- the first n bytes are well-formed, and no more are
pub record Longest (text : List ℕ) (n : ℕ) : Type 0 where
  pub within : n ≤ length text
  pub split : WellFormed (take n text)
  pub last : (m : ℕ) → m ≤ length text → WellFormed (take m text) → m ≤ n

-- the text is one sequence, and then t
abbrev pub Front : List ℕ → List ℕ → Type 0
Front text t = (s : List ℕ) × (Sequence s × (text ≡ s ++ t))

-- the text begins with no sequence
abbrev pub FrontsNone : List ℕ → Type 0
FrontsNone text = (s t : List ℕ) → Sequence s → text ≢ s ++ t

-- the text is some whole sequences, and then t
abbrev pub Skipped : List ℕ → List ℕ → Type 0
Skipped text t = (s : List ℕ) × (WellFormed s × (text ≡ s ++ t))

-- and at least one of them
abbrev pub Passed : List ℕ → List ℕ → Type 0
Passed text t = Skipped text t × (length t < length text)
