-- The line starts that a table's buffer holds. It names no type of the code, so that the table's own file can cite it.
use Rattle.std.specs.Prelude.{ℕ, List, ◌∷◌, take, drop}

-- 0, and as many after the buffer's first entry as are noted
abbrev pub noted : List ℕ → ℕ → List ℕ
noted buffer more = 0 ∷ take more (drop 1 buffer)
