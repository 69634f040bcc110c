use Rattle.std.proofs.Common.{◌<◌, ◌≤◌, length, get_or, rules}
use Rattle.std.proofs.lemmas.List.{take_rest}
use Rattle.text.proofs.Blocks.{skipped_first}
use Rattle.text.proofs.Joins.{skipped_more}
use Rattle.text.proofs.ascii.after_bytes.Goals as goal

pub loop-rest-preserved : goal.loop-rest-preserved
loop-rest-preserved c =
    let rest = c.loop-rest.rest.now in
    let some : 1 ≤ length rest = search rules in
    let low : get_or rest 0 0 < 0x80 = search rules in
    rw take_rest (skipped_more c.loop-rest.invariant (skipped_first rest some low))
