-- The line and the column of an offset.
use Rattle.std.specs.Prelude.{ℕ, ◌+◌, ◌-◌, List, count_by, nat_le, slice_index}
use Rattle.std.specs.List.{between}
use Rattle.text.specs.Characters.{characters}
use Rattle.lines.specs.Starts.{starts}

-- how many of the rising starts are at or before the offset
abbrev pub upto : ℕ → List ℕ → ℕ
upto at ss = count_by (λ s. nat_le s at) ss

-- the line is that number, and the column 1 plus the characters since the last of them
abbrev pub line_col_by : List ℕ → List ℕ → ℕ → ℕ × ℕ
line_col_by ss text at = (upto at ss, 1 + characters (between (slice_index ss (upto at ss - 1)) at text))

abbrev pub line_col : List ℕ → ℕ → ℕ × ℕ
line_col text at = line_col_by (starts text) text at
