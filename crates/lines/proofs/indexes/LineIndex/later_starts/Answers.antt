use Rattle.std.proofs.Common.{sym, ◌∙◌}
use Rattle.text.proofs.Limited.{limited_ok}
use Rattle.lines.proofs.Noting.{fault_short, fault_none}
use Rattle.lines.proofs.indexes.LineIndex.later_starts.Goals as goal

pub returns-then-self-later : goal.returns-then-self-later
returns-then-self-later c =
    fault_short c.args.text.now c.args.self.now.line_offsets.now c.count_line_feeds-later.result (sym c.within_limit.ensures ∙ c.in_ok-within_limit.was) c.count_line_feeds-later.ensures.value c.if-self-later.true

pub returns : goal.returns
returns c =
    let text = c.args.text.now in
    let ok = sym c.within_limit.ensures ∙ c.in_ok-within_limit.was in
    let count = c.count_line_feeds-later.ensures.value in
    (fault_none text c.args.self.now.line_offsets.now c.count_line_feeds-later.result ok count c.if-self-later.false, (limited_ok text tt ok, (count, c.if-self-later.false)))
