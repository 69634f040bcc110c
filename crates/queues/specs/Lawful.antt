-- Which lists of depths are lawful.
use Rattle.std.specs.Prelude.{◌≡◌, ℕ, ◌+◌, ◌<◌, ◌≤◌, ◌&&◌, List, [], ◌∷◌, length, Some, None, Option, nat_le, slice_index, if◌then◌else◌}
use Rattle.std.specs.Option.{option_or}

-- the first depth is 0, and no later one exceeds 255 or the one before by over 1
pub record Lawful (depths : List ℕ) : Type 0 where
  pub first : 0 < length depths → slice_index depths 0 ≡ 0
  pub deep : (k : ℕ) → k < length depths → slice_index depths k ≤ 255
  pub step : (k : ℕ) → k + 1 < length depths → slice_index depths (k + 1) ≤ slice_index depths k + 1

-- the first index whose depth is not allowed, in depths that begin at the index i and the first of which may be at most `most`
abbrev pub unlawful_from : (most i : ℕ) → List ℕ → Option ℕ
unlawful_from most i [] = None
unlawful_from most i (d ∷ ds) =
    if nat_le d most && nat_le d 255 then unlawful_from (d + 1) (i + 1) ds else Some i

abbrev pub unlawful : List ℕ → Option ℕ
unlawful depths = unlawful_from 0 0 depths

-- the greatest depth that may come next, after a node of this depth or after none
abbrev pub most_after : Option ℕ → ℕ
most_after None = 0
most_after (Some d) = d + 1

-- the first unlawful index once a depth comes at the index `at`
abbrev pub fault_after : Option ℕ → (most at depth : ℕ) → Option ℕ
fault_after fault most at depth =
    option_or fault (if nat_le depth most && nat_le depth 255 then None else Some at)
