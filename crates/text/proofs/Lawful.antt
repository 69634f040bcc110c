-- The laws of texts: one split, as many sequences as characters, one verdict.
use Rattle.std.proofs.Common.{◌≡◌, ℕ, ◌≤◌, cond, List, [], ◌∷◌, ◌++◌, length, Ok, Err, Result, sym, refl, ap, ◌∙◌, subst, arith}
use Rattle.std.proofs.lemmas.List.{take_all}
use Rattle.std.proofs.lemmas.List.Sums.{sum_by-append}
use Rattle.std.proofs.lemmas.Bool.Decides.{nat_tests}
use Rattle.text.specs.declared.faults.TextFault.{TextFault}
use Rattle.text.specs.declared.faults.TextFault.TheVariants.{Long, Malformed}
use Rattle.text.specs.Verdicts.{Tested}
use Rattle.std.specs.List.{flat_map, All}
use Rattle.std.proofs.lemmas.List.Elements.{All-head, All-tail}
use Rattle.text.specs.Characters.{characters, begins}
use Rattle.text.specs.Table.{Sequence, row1, row2, row3, row4, row5, row6, row7, row8, row9}
use Rattle.text.specs.Splits.{Splits, WellFormed, Longest}
use Rattle.text.specs.Laws.{TextLaws}
use Rattle.text.proofs.Shapes.{parts}
use Rattle.text.proofs.Joins.{same_first}
use Rattle.text.proofs.Unicode.{to_utf8, from_utf8}

-- a sequence is not empty
never_empty : {s : List ℕ} → Sequence s → (t : List ℕ) → s ++ t ≡ [] → ⊥
never_empty {s} q t e = let p = parts q t in omega (arith, p.some, p.long, ap length e)

one_way : (ss ts : List (List ℕ)) → All Sequence ss → All Sequence ts → flat_map (λ x. x) ss ≡ flat_map (λ x. x) ts → ss ≡ ts
one_way [] [] a b e = refl
one_way [] (t ∷ ts) a b e = absurd (never_empty (All-head Sequence t ts b) (flat_map (λ x. x) ts) (sym e))
one_way (s ∷ ss) [] a b e = absurd (never_empty (All-head Sequence s ss a) (flat_map (λ x. x) ss) e)
one_way (s ∷ ss) (t ∷ ts) a b e = let f = same_first (All-head Sequence s ss a) (All-head Sequence t ts b) e in ap (λ x. x ∷ ss) f.0 ∙ ap (λ y. t ∷ y) (one_way ss ts (All-tail Sequence s ss a) (All-tail Sequence t ts b) f.1)

pub one_split : (text : List ℕ) (ss ts : List (List ℕ)) → Splits ss text → Splits ts text → ss ≡ ts
one_split text ss ts p q = one_way ss ts p.each q.each (p.whole ∙ sym q.whole)

-- a sequence is one character
one_character : {s : List ℕ} → Sequence s → characters s ≡ 1
one_character (row1 p) = grind (arith, nat_tests)
one_character (row2 p q) = grind (arith, nat_tests)
one_character (row3 p q r) = grind (arith, nat_tests)
one_character (row4 p q r) = grind (arith, nat_tests)
one_character (row5 p q r) = grind (arith, nat_tests)
one_character (row6 p q r) = grind (arith, nat_tests)
one_character (row7 p q r u) = grind (arith, nat_tests)
one_character (row8 p q r u) = grind (arith, nat_tests)
one_character (row9 p q r u) = grind (arith, nat_tests)

counted_joined : (ss : List (List ℕ)) → All Sequence ss → length ss ≡ characters (flat_map (λ x. x) ss)
counted_joined [] a = refl
counted_joined (s ∷ ss) a = omega (arith, counted_joined ss (All-tail Sequence s ss a), one_character (All-head Sequence s ss a), sum_by-append (λ b. cond (begins b) 1 0) s (flat_map (λ x. x) ss))

pub counted : (text : List ℕ) (ss : List (List ℕ)) → Splits ss text → length ss ≡ characters text
counted text ss p = counted_joined ss p.each ∙ ap characters p.whole

-- where a text splits whole, no longest split ends before its end
whole_longest : {text : List ℕ} {n : ℕ} → WellFormed text → Longest text n → length text ≤ n
whole_longest {text} w l = l.last (length text) (omega arith) (subst WellFormed (sym (take_all (length text) text (omega arith))) w)

pub one_verdict : (text : List ℕ) (r s : Result (Unit {0}) TextFault) → Tested text r → Tested text s → r ≡ s
one_verdict text (Ok x) (Ok y) p q = refl
one_verdict text (Ok x) (Err (Long f)) p q = absurd (omega arith)
one_verdict text (Ok x) (Err (Malformed at)) p q = absurd (omega (arith, whole_longest p.1 q.1.0))
one_verdict text (Err (Long f)) (Ok y) p q = absurd (omega arith)
one_verdict text (Err (Long f)) (Err (Long g)) p q = ap (λ n. Err (Long (record { length = n }))) (p.1 ∙ sym q.1)
one_verdict text (Err (Long f)) (Err (Malformed at)) p q = absurd (omega arith)
one_verdict text (Err (Malformed at)) (Ok y) p q = absurd (omega (arith, whole_longest q.1 p.1.0))
one_verdict text (Err (Malformed at)) (Err (Long f)) p q = absurd (omega arith)
one_verdict text (Err (Malformed at)) (Err (Malformed to)) p q =
    let k = p.1.0 in
    let l = q.1.0 in
    let m : at ≤ to = l.last at k.within k.split in
    let n : to ≤ at = k.last to l.within l.split in
    let e : at ≡ to = omega arith in
    ap (λ i. Err (Malformed i)) e

pub text_laws : (text : List ℕ) → TextLaws text
text_laws text = record { one_verdict = one_verdict text; one_split = one_split text; counted = counted text; unicode = (to_utf8 text, from_utf8 text) }
