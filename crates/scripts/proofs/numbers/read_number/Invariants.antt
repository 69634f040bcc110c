use Rattle.std.proofs.Common.{◌≡◌, drop}
use Rattle.scripts.specs.Numbers.{number_of, value_from}
use Rattle.scripts.proofs.numbers.read_number.Given as goal

-- the digits that are left make the same number
abbrev pub invariant-loop-byte : goal.invariant-loop-byte
invariant-loop-byte l = value_from l.value (drop l.byte-index l.text) ≡ number_of l.text
