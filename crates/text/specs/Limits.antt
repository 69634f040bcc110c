-- How long a text may be.
use Rattle.std.specs.Prelude.{ℕ, if◌then◌else◌, List, length, Ok, Err, Result, nat_lt}
use Rattle.text.specs.declared.faults.TooLong.{TooLong}

abbrev pub text_limit : ℕ
text_limit = 1048576

-- a text over the limit is refused with its length
abbrev pub limited : List ℕ → Result (Unit {0}) TooLong
limited text = if nat_lt text_limit (length text) then Err (record { length = length text }) else Ok tt
