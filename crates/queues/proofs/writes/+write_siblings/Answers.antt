use Rattle.std.proofs.Common.{◌<◌, length, arith, rules}
use Rattle.queues.proofs.Writing.{step, inside, opened, going_on, all_written}
use Rattle.queues.proofs.writes.+write_siblings.Goals as goal

pub overflow_add-depth : goal.overflow_add-depth
overflow_add-depth g t c = omega (arith, (step c.requires c.loop-node.invariant c.in-Some.ensures).shallow)

pub write_siblings-inner-requires : goal.write_siblings-inner-requires
write_siblings-inner-requires g t c κs within =
    let s = step c.requires c.loop-node.invariant c.in-Some.ensures in
    (omega (arith, s.within), (within.0, (within.1, record { f = s.inner; rest = s.rest; ahead = s.nested; fits = omega (arith, s.fits, c.loop-node.auto.out); few = s.few; small = omega (arith, s.small); deep = c.requires.deep })))

pub overflow_cast-out : goal.overflow_cast-out
overflow_cast-out g t c =
    let s = inside c.requires c.loop-node.invariant c.in-Some.ensures c.write_siblings-inner.ensures in
    omega arith

pub offset_bounds-out-at : goal.offset_bounds-out-at
offset_bounds-out-at g t c =
    let s = inside c.requires c.loop-node.invariant c.in-Some.ensures c.write_siblings-inner.ensures in
    let h : c.loop-node.at.token < length c.args.out.now = omega arith in search rules

pub bounds-out-at : goal.bounds-out-at
bounds-out-at g t c =
    let s = inside c.requires c.loop-node.invariant c.in-Some.ensures c.write_siblings-inner.ensures in
    omega (arith, c.loop-node.auto.out, c.write_siblings-inner.auto.out)

pub offset_bounds-out-inner : goal.offset_bounds-out-inner
offset_bounds-out-inner g t c =
    let s = inside c.requires c.loop-node.invariant c.in-Some.ensures c.write_siblings-inner.ensures in
    let h : c.write_siblings-inner.result.token < length c.args.out.now = omega arith in search rules

pub bounds-out-inner : goal.bounds-out-inner
bounds-out-inner g t c =
    let s = inside c.requires c.loop-node.invariant c.in-Some.ensures c.write_siblings-inner.ensures in
    let h : c.write_siblings-inner.result.token < length c.write_siblings-inner.new.out = omega (arith, c.loop-node.auto.out, c.write_siblings-inner.auto.out) in
    search rules

pub overflow_add-at-in-Some-2 : goal.overflow_add-at-in-Some-2
overflow_add-at-in-Some-2 g t c =
    let s = inside c.requires c.loop-node.invariant c.in-Some.ensures c.write_siblings-inner.ensures in
    omega arith

pub loop-node-smaller : goal.loop-node-smaller
loop-node-smaller g t c =
    let s = inside c.requires c.loop-node.invariant c.in-Some.ensures c.write_siblings-inner.ensures in
    omega arith

pub loop-node-preserved : goal.loop-node-preserved
loop-node-preserved g t c =
    let s = inside c.requires c.loop-node.invariant c.in-Some.ensures c.write_siblings-inner.ensures in
    let h : c.write_siblings-inner.result.token < length c.loop-node.out = omega (arith, c.loop-node.auto.out) in (
      omega (arith, c.loop-node.invariant.0),
      λ f rest a.
          let u = c.loop-node.invariant.1 f rest a in
          let o = opened _ _ _ c.in-Some.node u.g rest c.in-Some.ensures u.ahead in
          going_on c.in-Some.node _ c.write_siblings-inner.result.token _ u o h (c.write_siblings-inner.ensures o.inner _ o.nested),
    )

pub returns : goal.returns
returns g t c = λ f rest a. all_written c.in_default.ensures (c.loop-node.invariant.1 f rest a)
