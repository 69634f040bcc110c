use Rattle.std.proofs.Common.{refl, sym, ◌∙◌}
use Rattle.std.proofs.lemmas.Result.{err_from_is_err_and}
use Rattle.scripts.specs.Commands.{order_of}
use Rattle.scripts.specs.Steps.{stepped}
use Rattle.scripts.proofs.Cursors.{command_refused, ends_at, goes_on, ordered, stops_at}
use Rattle.scripts.proofs.Settled.{settled, stopped}
use Rattle.scripts.proofs.reading.gather.Goals as goal

pub returns-in_err-command-clause-outcome : goal.returns-in_err-command-clause-outcome
returns-in_err-command-clause-outcome g c =
    let p = err_from_is_err_and c.from_residual.result c.from_residual.ensures.1 in
    let e = command_refused c.in-Some.ensures g.R.RuleType.CODES c.loop-line.drawing c.in_err-command.field-0.0 c.in_err-command.ensures in
    rw (p.1, p.2) (settled (sym c.loop-line.invariant ∙ e) refl)

pub returns-then-ends-clause-outcome : goal.returns-then-ends-clause-outcome
returns-then-ends-clause-outcome g c =
    let o = order_of c.in_ok-command.command in
    sym c.loop-line.invariant
    ∙ ends_at c.in-Some.ensures g.R.RuleType.CODES c.loop-line.drawing o (ordered c.in-Some.line o c.in_ok-command.ensures) c.if-ends.ensures

pub loop-line-preserved : goal.loop-line-preserved
loop-line-preserved g c =
    let o = order_of c.in_ok-command.command in
    sym (goes_on c.in-Some.ensures g.R.RuleType.CODES c.loop-line.drawing c.step.new.self o (ordered c.in-Some.line o c.in_ok-command.ensures) c.if-ends.ensures c.in_ok-step.ensures)
    ∙ c.loop-line.invariant

pub returns-in_err-step-clause-outcome : goal.returns-in_err-step-clause-outcome
returns-in_err-step-clause-outcome g c =
    let p = err_from_is_err_and c.from_residual-in_err-step.result c.from_residual-in_err-step.ensures.1 in
    let o = order_of c.in_ok-command.command in
    rw (p.1, p.2)
    (stopped c.in-Some.line.number c.in_err-step.field-0.0 (stepped g.R.RuleType.CODES o c.loop-line.drawing)
    (λ f e. sym c.loop-line.invariant ∙ stops_at c.in-Some.ensures g.R.RuleType.CODES c.loop-line.drawing o f (ordered c.in-Some.line o c.in_ok-command.ensures) c.if-ends.ensures e)
    c.in_err-step.ensures)
