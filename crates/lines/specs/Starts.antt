-- The line starts of a text.
use Rattle.std.specs.Prelude.{ℕ, ◌+◌, Bool, if◌then◌else◌, List, [], ◌∷◌, ◌==◌}

abbrev pub line_feed : ℕ → Bool
line_feed b = b == 10

-- the offset after each LF of bytes that begin at the offset i
abbrev pub after : ℕ → List ℕ → List ℕ
after i [] = []
after i (b ∷ bs) = if line_feed b then (i + 1) ∷ after (i + 1) bs else after (i + 1) bs

-- 0, and the offset after each LF
abbrev pub starts : List ℕ → List ℕ
starts text = 0 ∷ after 0 text
