use Rattle.std.proofs.Common.{◌+◌, ◌-◌, ◌<◌, ◌≤◌, length, subst, arith}
use Rattle.text.specs.Splits.{Longest}
use Rattle.text.proofs.Joins.{longest_passed, longest_stop}
use Rattle.text.proofs.splits.longest_split.Goals as goal

pub loop-more-init : goal.loop-more-init
loop-more-init c = (omega arith, λ n l. subst (Longest c.args.text.now) (omega arith) l)

pub loop-more-smaller : goal.loop-more-smaller
loop-more-smaller c = c.in-Some.ensures.1

pub loop-more-preserved : goal.loop-more-preserved
loop-more-preserved c =
    let text = c.args.text.now in
    let rest = c.loop-more.rest.now in
    let more = c.in-Some.more.now in
    let p = c.in-Some.ensures in
    let h : length more < length rest = p.1 in
    let k : length rest ≤ length text = c.loop-more.invariant.0 in
    (omega arith, λ n l. subst (Longest text) (omega arith) (c.loop-more.invariant.1 (length rest - length more + n) (longest_passed rest more n p l)))

pub returns : goal.returns
returns c =
    let text = c.args.text.now in
    let rest = c.loop-more.rest.now in
    subst (Longest text) (omega arith) (c.loop-more.invariant.1 0 (longest_stop rest c.in_default.ensures))
