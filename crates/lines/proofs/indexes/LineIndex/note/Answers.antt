use Rattle.std.proofs.Common.{set, sym, subst, arith}
use Rattle.std.proofs.lemmas.List.{length-set}
use Rattle.std.specs.List.Sorted.{IsStrictlyIncreasing}
use Rattle.lines.proofs.Noting.{noted_skip, noted_more, noted_room, noted_all, rising_starts}
use Rattle.lines.proofs.indexes.LineIndex.note.Goals as goal
use Rattle.lines.proofs.indexes.LineIndex.note.Goals.{then-b-eq10, else-b-eq10}

pub bounds-self-n : goal.bounds-self-n
bounds-self-n c = (noted_room c.args.self.now.line_offsets.now (omega arith) c.if-b-eq10.true c.requires.count c.requires.room c.loop-i.invariant.0).1

pub loop-i-preserved : goal.loop-i-preserved
loop-i-preserved c =
    let text = c.args.text.now in
    let i = c.loop-i.i in
    let n = c.loop-i.n in
    let old = set c.args.self.now.line_offsets.now 0 0 in
    let buffer = c.loop-i.self.line_offsets.now in
    let inv = c.loop-i.invariant in
    elim c.if-b-eq10.branch [
      | then-b-eq10 w ↦
          let room = noted_room c.args.self.now.line_offsets.now (omega arith) w.if-b-eq10.true c.requires.count c.requires.room inv.0 in
          rw (w.self-is, w.n-is) (noted_more text i n old buffer (omega arith) w.if-b-eq10.true room.0 inv.0, inv.1)
      | else-b-eq10 w ↦ rw (w.self-is, w.n-is) (noted_skip text i n old buffer (omega arith) w.if-b-eq10.false inv.0, inv.1)
    ]

pub invariant_of-self-3 : goal.invariant_of-self-3
invariant_of-self-3 c =
    let old = c.args.self.now.line_offsets.now in
    let p = c.loop-i.invariant.0 in
    let all = noted_all old c.loop-i-test.false c.requires.count p in
    record { fits = omega (arith, p.long, length-set old 0 0); rises = subst IsStrictlyIncreasing (sym all.1) (rising_starts c.args.text.now) }

pub returns : goal.returns
returns c =
    let all = noted_all c.args.self.now.line_offsets.now c.loop-i-test.false c.requires.count c.loop-i.invariant.0 in
    record { starts = all.1; buffer = all.0; lender = c.loop-i.invariant.1.1 }
