-- The characters of bytes, well-formed or not, and where they begin.
use Rattle.std.specs.Prelude.{ℕ, Bool, not, ◌&&◌, ◌||◌, List, length, count_by, ◌==◌, nat_le, nat_lt, slice_index}

-- from 80 to BF hex: the byte goes on with a character
abbrev pub continues : ℕ → Bool
continues b = nat_le 0x80 b && nat_le b 0xBF

-- any other byte begins one
abbrev pub begins : ℕ → Bool
begins b = not (continues b)

abbrev pub characters : List ℕ → ℕ
characters bytes = count_by begins bytes

-- 0, the length, and below the length where a character begins
abbrev pub boundary : List ℕ → ℕ → Bool
boundary text i = i == 0 || (i == length text || (nat_lt i (length text) && begins (slice_index text i)))
