-- Bytes cut at a byte.
use Rattle.std.specs.Prelude.{ℕ, List, ◌==◌}
use Rattle.std.specs.List.{before_first, after_first}

-- the bytes before the first `stop`, or all where there is none
abbrev pub up_to : ℕ → List ℕ → List ℕ
up_to stop bs = before_first (λ b. b == stop) bs

-- the bytes after the first `stop`, or none where there is none
abbrev pub behind : ℕ → List ℕ → List ℕ
behind stop bs = after_first (λ b. b == stop) bs
