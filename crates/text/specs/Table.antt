-- Table 3-7 of the Unicode Standard, well-formed UTF-8 byte sequences.
use Rattle.std.specs.Prelude.{◌≡◌, ℕ, ◌≤◌, List, [], ◌∷◌}

-- from low to high, both included
abbrev pub In : ℕ → ℕ → ℕ → Type 0
In low high x = (low ≤ x) × (x ≤ high)

-- the rows, top to bottom, each with its code points
pub data Sequence : List ℕ → Type 0 where
  -- U+0000..U+007F
  row1 : {a : ℕ} → In 0x00 0x7F a → Sequence (a ∷ [])
  -- U+0080..U+07FF
  row2 : {a b : ℕ} → In 0xC2 0xDF a → In 0x80 0xBF b → Sequence (a ∷ b ∷ [])
  -- U+0800..U+0FFF
  row3 : {a b c : ℕ} → In 0xE0 0xE0 a → In 0xA0 0xBF b → In 0x80 0xBF c → Sequence (a ∷ b ∷ c ∷ [])
  -- U+1000..U+CFFF
  row4 : {a b c : ℕ} → In 0xE1 0xEC a → In 0x80 0xBF b → In 0x80 0xBF c → Sequence (a ∷ b ∷ c ∷ [])
  -- U+D000..U+D7FF
  row5 : {a b c : ℕ} → In 0xED 0xED a → In 0x80 0x9F b → In 0x80 0xBF c → Sequence (a ∷ b ∷ c ∷ [])
  -- U+E000..U+FFFF
  row6 : {a b c : ℕ} → In 0xEE 0xEF a → In 0x80 0xBF b → In 0x80 0xBF c → Sequence (a ∷ b ∷ c ∷ [])
  -- U+10000..U+3FFFF
  row7 : {a b c d : ℕ} → In 0xF0 0xF0 a → In 0x90 0xBF b → In 0x80 0xBF c → In 0x80 0xBF d → Sequence (a ∷ b ∷ c ∷ d ∷ [])
  -- U+40000..U+FFFFF
  row8 : {a b c d : ℕ} → In 0xF1 0xF3 a → In 0x80 0xBF b → In 0x80 0xBF c → In 0x80 0xBF d → Sequence (a ∷ b ∷ c ∷ d ∷ [])
  -- U+100000..U+10FFFF
  row9 : {a b c d : ℕ} → In 0xF4 0xF4 a → In 0x80 0x8F b → In 0x80 0xBF c → In 0x80 0xBF d → Sequence (a ∷ b ∷ c ∷ d ∷ [])

-- the column of second bytes, for the rows that begin with a
abbrev pub Second : ℕ → ℕ → Type 0
Second a b =
    (a ≡ 0xE0 → In 0xA0 0xBF b) × ((a ≡ 0xED → In 0x80 0x9F b) × ((a ≡ 0xF0 → In 0x90 0xBF b) × ((a ≡ 0xF4 → In 0x80 0x8F b) × In 0x80 0xBF b)))
