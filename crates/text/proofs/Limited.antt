-- What the limit's test says of a text.
use Rattle.std.proofs.Common.{◌≡◌, ℕ, ◌<◌, ◌≤◌, List, length, Ok, Err, arith}
use Rattle.std.proofs.lemmas.Bool.Decides.{nat_tests}
use Rattle.text.specs.declared.faults.TooLong.{TooLong}
use Rattle.text.specs.Limits.{text_limit, limited}

pub limited_ok : (text : List ℕ) (x : Unit {0}) → limited text ≡ Ok x → length text ≤ text_limit
limited_ok text x e = grind (arith, nat_tests)

pub limited_err : (text : List ℕ) (f : TooLong) → limited text ≡ Err f → (text_limit < length text) × (f.length ≡ length text)
limited_err text f e = grind (arith, nat_tests)
