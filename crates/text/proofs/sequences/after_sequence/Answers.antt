use Rattle.std.proofs.Common.{◌≡◌, ◌<◌, length, get_or, ap, ◌∙◌, arith, rules}
use Rattle.std.proofs.lemmas.List.{take_rest}
use Rattle.std.proofs.lemmas.Bool.Decides.{not_from_Decides}
use Rattle.text.specs.Sequences.{count}
use Rattle.text.proofs.Shapes.{led, led_of, parts_front, front2, front3, front4}
use Rattle.text.proofs.sequences.after_sequence.Goals as goal
use Rattle.text.proofs.sequences.after_sequence.Goals.{in_default-text-2-via-then-text-lt3, in_default-text-2-via-in-len3-up+then-second_fits-2+else-tail_fits, in_default-text-2-via-in-len3-up+else-second_fits-2}

pub returns-in-len2-up : goal.returns-in-len2-up
returns-in-len2-up c =
    let first : c.in_ok-lead.lead.now ≡ get_or c.args.text.now 0 0 = search rules in
    let n : led (get_or c.args.text.now 0 0) ≡ 2 = rw (← first) (led_of c.in_ok-sequence_length.ensures ∙ ap count c.in-Two.is) in
    rw take_rest (front2 c.args.text.now c.in-len2-up.len_at_least n (c.second_fits.ensures.0 c.if-second_fits.true))

pub returns-in-len3-up : goal.returns-in-len3-up
returns-in-len3-up c =
    let first : c.in_ok-lead.lead.now ≡ get_or c.args.text.now 0 0 = search rules in
    let n : led (get_or c.args.text.now 0 0) ≡ 3 = rw (← first) (led_of c.in_ok-sequence_length.ensures ∙ ap count c.in-Three.is) in
    rw take_rest (front3 c.args.text.now c.in-len3-up.len_at_least n (c.second_fits-in-Three.ensures.0 c.if-second_fits-2.true) (c.tail_fits.ensures.0 c.if-tail_fits.true))

pub returns-in-len4-up : goal.returns-in-len4-up
returns-in-len4-up c =
    let first : c.in_ok-lead.lead.now ≡ get_or c.args.text.now 0 0 = search rules in
    let n : led (get_or c.args.text.now 0 0) ≡ 4 = rw (← first) (led_of c.in_ok-sequence_length.ensures ∙ ap count c.in-Four.is) in
    rw take_rest (front4 c.args.text.now c.in-len4-up.len_at_least n (c.second_fits-in-Four.ensures.0 c.if-second_fits-3.true) (c.tail_fits-then-second_fits-3.ensures.0 c.if-tail_fits-2.true) (c.tail_fits-then-tail_fits-2.ensures.0 c.if-tail_fits-3.true))

-- too short, or a byte that does not fit its column
pub returns-in_default-text-2 : goal.returns-in_default-text-2
returns-in_default-text-2 c s t q e =
    let p = parts_front s t q e in
    let first : c.in_ok-lead.lead.now ≡ get_or c.args.text.now 0 0 = search rules in
    let n : led (get_or c.args.text.now 0 0) ≡ 3 = rw (← first) (led_of c.in_ok-sequence_length.ensures ∙ ap count c.in-Three.is) in
    elim c.in_default-text-2.branch [
      | in_default-text-2-via-then-text-lt3 w ↦ let h : length c.args.text.now < 3 = search rules in omega (arith, p.long)
      | in_default-text-2-via-in-len3-up+then-second_fits-2+else-tail_fits w ↦ not_from_Decides _ w.tail_fits.ensures w.if-tail_fits.false (p.third (omega arith))
      | in_default-text-2-via-in-len3-up+else-second_fits-2 w ↦ not_from_Decides _ w.second_fits-in-Three.ensures w.if-second_fits-2.false (p.second (omega arith))
    ]
