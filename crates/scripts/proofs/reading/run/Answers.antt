use Rattle.std.proofs.Common.{sym, ap, ◌∙◌}
use Rattle.scripts.specs.Cursors.{outcome_of}
use Rattle.scripts.proofs.reading.run.Goals as goal

pub returns : goal.returns
returns g c =
    let lines = c.args.lines in
    let e = ap (λ d. outcome_of g.R.RuleType.CODES d lines) (sym c.new-drawing.ensures) ∙ c.in_ok-number.ensures.outcome in
    rw e c.finish.ensures
