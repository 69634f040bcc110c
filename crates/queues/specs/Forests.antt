-- Forests of pairs, the nodes that list one, and the queue that one writes.
use Rattle.std.specs.Prelude.{ℕ, ◌+◌, List, [], ◌∷◌, ◌++◌}

-- a pair with its span, what else it carries, the forest inside it, and the forest after it
pub data Forest (X : Type 0) : Type 0 where
  none : Forest X
  pair : (start end : ℕ) (x : X) (inner rest : Forest X) → Forest X

abbrev pub pairs : {X : Type 0} → Forest X → ℕ
pairs none = 0
pairs (pair start end x inner rest) = 1 + pairs inner + pairs rest

-- two tokens for each pair
abbrev pub tokens : {X : Type 0} → Forest X → ℕ
tokens none = 0
tokens (pair start end x inner rest) = 2 + tokens inner + tokens rest

-- a line of a listing: a pair, and how deep it lies
pub record Row (X : Type 0) : Type 0 where
  pub start : ℕ
  pub end : ℕ
  pub depth : ℕ
  pub x : X

-- each pair, then what lies inside it one deeper, then what comes after it
abbrev pub listed : {X : Type 0} → ℕ → Forest X → List (Row X)
listed d none = []
listed d (pair start end x inner rest) = record { start = start; end = end; depth = d; x = x } ∷ (listed (d + 1) inner ++ listed d rest)

-- a token: where a pair starts, and where it ends with what it carries; each with a link and a position
pub data Mark (X : Type 0) : Type 0 where
  starts : (link position : ℕ) → Mark X
  ends : (link position : ℕ) (x : X) → Mark X

-- the queue of a forest whose first token has the index i: each pair's Start, its inner pairs and its End, linked to each other
abbrev pub written : {X : Type 0} → ℕ → Forest X → List (Mark X)
written i none = []
written i (pair start end x inner rest) =
    starts (i + 1 + tokens inner) start ∷ (written (i + 1) inner ++ ends i end x ∷ written (i + 1 + tokens inner + 1) rest)
