-- The numbers of a line, and what they are worth.
use Rattle.std.specs.Prelude.{if◌then◌else◌, ℕ, ◌+◌, ◌-◌, ◌*◌, ◌^◌, ◌&&◌, List, [], ◌∷◌, length, drop, Some, None, Ok, Err, Option, Result, nat_le, nat_lt}
use Rattle.std.specs.Char.{is_ascii_digit}
use Rattle.std.specs.Option.{option_and_then, option_map, ok_or}
use Rattle.scripts.specs.Parts.{up_to}
use Rattle.scripts.specs.declared.numbers.Found.{Found}
use Rattle.scripts.specs.declared.numbers.Misread.{Misread}
use Rattle.scripts.specs.declared.numbers.Pair.{Pair}

-- a number with one digit more; none where the byte is no digit or the number is over 4,294,967,295
abbrev pub shifted : ℕ → ℕ → Option ℕ
shifted value byte =
    if is_ascii_digit byte && nat_lt (value * 10 + (byte - 48)) (2 ^ 32)
    then Some (value * 10 + (byte - 48))
    else None

-- the number that digits make after those that have made this value
abbrev pub value_from : ℕ → List ℕ → Option ℕ
value_from value [] = Some value
value_from value (b ∷ bs) = option_and_then (λ more. value_from more bs) (shifted value b)

-- there is one digit at least
abbrev pub number_of : List ℕ → Option ℕ
number_of [] = None
number_of (b ∷ bs) = value_from 0 (b ∷ bs)

-- a number that ends here
abbrev pub found_at : (end value : ℕ) → Found
found_at end value = record { value = value; end = end }

-- the number that begins at this offset: the bytes up to the next space or the line's end
abbrev pub number_at : List ℕ → ℕ → Result Found Misread
number_at line place =
    let text = up_to 32 (drop place line) in
    ok_or (option_map (found_at (place + length text)) (number_of text)) (record { at = place })

-- the number after the space at this offset
abbrev pub number_after : List ℕ → ℕ → Result Found Misread
number_after line space =
    if nat_le (length line) space then Err (record { at = length line })
    else number_at line (space + 1)

-- what the value of a result leads to
abbrev pub and_then : {X Y E : Type 0} → Result X E → (X → Result Y E) → Result Y E
and_then (Ok x) goes = goes x
and_then (Err e) goes = Err e

-- three numbers after a keyword of four bytes, and the line's end
abbrev pub pair_of : List ℕ → Result Pair Misread
pair_of line =
    and_then (number_after line 4) (λ code.
    and_then (number_after line code.end) (λ start.
    and_then (number_after line start.end) (λ end.
    if nat_lt end.end (length line) then Err (record { at = 0 })
    else Ok (record { code = code.value; start = start.value; end = end.value }))))
