use Rattle.std.proofs.Common.{subst}
use Rattle.scripts.specs.Cursors.{Takes}
use Rattle.scripts.proofs.Cursors.{kind_at}
use Rattle.scripts.proofs.reading.first_kind.Goals as goal

pub returns : goal.returns
returns c =
    let n = subst (Takes c.args.lines.now c.take_line.new.self) c.in_ok-line.ensures.ok_part c.take_line.ensures in
    kind_at n c.requires.line c.requires.size c.read_kind.result c.refusal.result c.ok_or-2.result c.read_kind.ensures c.refusal.ensures c.ok_or-2.ensures.value
