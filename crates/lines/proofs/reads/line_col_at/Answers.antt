use Rattle.std.proofs.Common.{◌-◌, ◌∙◌, arith}
use Rattle.lines.proofs.Reading.{line_col_cut}
use Rattle.lines.proofs.reads.line_col_at.Goals as goal

pub returns : goal.returns
returns c =
    let text = c.args.text.now in
    c.read_line_col.ensures ∙ line_col_cut text c.args.pos (c.min-end.result - 0) (omega (arith, c.min-end.ensures))
