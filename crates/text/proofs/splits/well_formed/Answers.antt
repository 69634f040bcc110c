use Rattle.std.proofs.Common.{sym, ◌∙◌, subst}
use Rattle.std.proofs.lemmas.List.{take_all}
use Rattle.std.proofs.lemmas.Result.{err_from_is_err_and}
use Rattle.text.specs.Splits.{WellFormed}
use Rattle.text.proofs.Lawful.{text_laws}
use Rattle.text.proofs.Limited.{limited_ok, limited_err}
use Rattle.text.proofs.splits.well_formed.Goals as goal

pub returns-in_err-within_limit : goal.returns-in_err-within_limit
returns-in_err-within_limit c =
    let text = c.args.text.now in
    let f = c.in_err-within_limit.field-0.0 in
    let p = err_from_is_err_and c.from_residual.result c.from_residual.ensures.1 in
    rw (p.1, p.2) (record { verdict = limited_err text f (sym c.within_limit.ensures ∙ c.in_err-within_limit.was); laws = text_laws text })

pub returns-then-end-text : goal.returns-then-end-text
returns-then-end-text c =
    let text = c.args.text.now in
    let h = limited_ok text tt (sym c.within_limit.ensures ∙ c.in_ok-within_limit.was) in
    record { verdict = (h, (c.longest_split-end.ensures, c.if-end-text.true)); laws = text_laws text }

pub returns : goal.returns
returns c =
    let text = c.args.text.now in
    let h = limited_ok text tt (sym c.within_limit.ensures ∙ c.in_ok-within_limit.was) in
    let w = subst WellFormed (take_all c.longest_split-end.result text c.if-end-text.false) c.longest_split-end.ensures.split in
    record { verdict = (h, w); laws = text_laws text }
