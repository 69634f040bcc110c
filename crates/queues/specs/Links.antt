-- The two tokens of a pair link to each other.
use Rattle.std.specs.Prelude.{◌≡◌, ℕ, ◌<◌, List, length, Some}
use Rattle.std.specs.List.{slice_get}
use Rattle.queues.specs.Forests.{Forest, Mark, starts, ends, written}

pub record Linked {X : Type 0} (marks : List (Mark X)) : Type 0 where
  -- what a Start links to is a later End that links back
  pub start : (k j p : ℕ) → slice_get marks k ≡ Some (starts j p) → (q : ℕ) × (x : X) × (slice_get marks j ≡ Some (ends k q x)) × (k < j) × (j < length marks)
  -- what an End links to is an earlier Start that links back
  pub end : (k j q : ℕ) (x : X) → slice_get marks k ≡ Some (ends j q x) → (p : ℕ) × (slice_get marks j ≡ Some (starts k p)) × (j < k)

-- so in the queue of any forest
abbrev pub Links : Type 0 → Type 0
Links X = (f : Forest X) → Linked (written 0 f)
