use Rattle.std.proofs.Common.{ℕ, ◌+◌, ◌-◌, length, Ok, Err, refl, ap, ◌∙◌, subst}
use Rattle.std.proofs.lemmas.Result.{err_from_is_err_and}
use Rattle.text.specs.Refusing.{unless}
use Rattle.scripts.specs.Lines.{lines}
use Rattle.scripts.specs.Outcomes.{after_show}
use Rattle.scripts.specs.Reading.{BuiltAt, printed}
use Rattle.scripts.proofs.Settled.{drawn_as, ends, fails, follows}
use Rattle.scripts.proofs.reading.finish.Goals as goal

pub returns-in_err-tokens : goal.returns-in_err-tokens
returns-in_err-tokens g c =
    let p = err_from_is_err_and c.from_residual.result c.from_residual.ensures.1 in
    let b = c.drawing.inside.draft.builder in
    let is = drawn_as b.depth b.to_tag c.deref.ensures.value c.deref-2.ensures.value refl ∙ c.drawing.view_is in
    let l = c.args.lines in
    rw (p.1, p.2)
    (fails c.args.number c.args.drawing (after_show (c.args.number + 1) (l.size - length l.rest.now) (lines l.rest.now)) c.in_err-tokens.field-0.0
    (subst (λ d. BuiltAt c.args.number d (Err c.in_err-tokens.field-0.0)) is c.in_err-tokens.ensures))

pub returns-in_err-check_end : goal.returns-in_err-check_end
returns-in_err-check_end g c =
    let p = err_from_is_err_and c.from_residual-in_err-check_end.result c.from_residual-in_err-check_end.ensures.1 in
    let b = c.drawing.inside.draft.builder in
    let is = drawn_as b.depth b.to_tag c.deref.ensures.value c.deref-2.ensures.value refl ∙ c.drawing.view_is in
    let l = c.args.lines in
    let next = λ (k : ℕ). after_show k (l.size - length l.rest.now) (lines l.rest.now) in
    rw (p.1, p.2)
    (follows c.args.number c.in_ok-tokens.tokens c.args.drawing (next (c.args.number + 1)) c.in_err-check_end.field-0.0
    (subst (λ d. BuiltAt c.args.number d (Ok c.in_ok-tokens.tokens)) is c.in_ok-tokens.ensures)
    (c.in_err-check_end.ensures ∙ ap (λ (k : ℕ). unless (next k) (tt {0})) c.requires.line))

pub returns : goal.returns
returns g c =
    let b = c.drawing.inside.draft.builder in
    let is = drawn_as b.depth b.to_tag c.deref.ensures.value c.deref-2.ensures.value refl ∙ c.drawing.view_is in
    let l = c.args.lines in
    let next = λ (k : ℕ). after_show k (l.size - length l.rest.now) (lines l.rest.now) in
    ends c.args.number c.in_ok-tokens.tokens c.args.drawing (next (c.args.number + 1)) _
    (subst (λ d. BuiltAt c.args.number d (Ok c.in_ok-tokens.tokens)) is c.in_ok-tokens.ensures)
    (c.in_ok-check_end.ensures ∙ ap (λ (k : ℕ). unless (next k) (tt {0})) c.requires.line)
    (c.in_ok-record.ensures ∙ ap (λ d. printed d c.in_ok-tokens.tokens) is)
