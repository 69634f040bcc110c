use Rattle.std.proofs.Common.{◌<◌, ◌≤◌, take, arith}
use lib.Bits.{bit_or}
use lib.Lanes.{fold_l}
use Rattle.std.proofs.lemmas.List.{take_rest, take-take}
use Rattle.text.proofs.Blocks.{skipped_ascii}
use Rattle.text.proofs.Joins.{skipped_more}
use Rattle.text.proofs.ascii.after_blocks.Goals as goal

pub loop-rest-preserved : goal.loop-rest-preserved
loop-rest-preserved c =
    let rest = c.loop-rest.rest.now in
    let s : 64 ≤ 64 = omega arith in
    let h : fold_l bit_or 0 (take 64 (take 64 rest)) < 128 = c.if-lanes-ge128.false in
    rw take_rest (skipped_more c.loop-rest.invariant (skipped_ascii 64 rest (rw take-take at h)))
