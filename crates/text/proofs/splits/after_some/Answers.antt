use Rattle.std.proofs.Common.{ℕ, ◌<◌, List, ◌∷◌, Some, None, Option, arith, Bor, MatchOption}
use Rattle.std.proofs.lemmas.Bool.Decides.{nat_tests}
use Rattle.text.specs.Splits.{Front, FrontsNone, Passed}
use Rattle.text.proofs.Blocks.{skipped_first}
use Rattle.text.proofs.Joins.{passed_front, skipped_more, skipped_length}
use Rattle.text.proofs.splits.after_some.Goals as goal

passed : (xs : List ℕ) (r : Option (Bor (List ℕ))) → MatchOption r (FrontsNone xs) (λ t. Front xs t.now) → MatchOption r (FrontsNone xs) (λ t. Passed xs t.now)
passed xs None f = f
passed xs (Some t) f = passed_front xs t.now f

pub returns-then-not-is_ascii : goal.returns-then-not-is_ascii
returns-then-not-is_ascii c = passed c.args.text.now c.after_sequence.result c.after_sequence.ensures

-- the first byte, the blocks after it, and the bytes after those
pub returns : goal.returns
returns c =
    let cut = c.in_ok-first.ensures.cases in
    let low : c.in_ok-first.first.now < 0x80 = grind (arith, nat_tests) in
    let s = skipped_more c.after_blocks.ensures c.after_bytes.ensures in
    (rw cut.0 (skipped_more (skipped_first (c.in_ok-first.first.now ∷ c.in_ok-first.rest.now) (omega arith) low) s), omega (arith, skipped_length s, cut.1))
