-- Splits one after the other, and the longest split of a text after one of its fronts.
use Rattle.std.proofs.Common.{◌≡◌, ℕ, ◌+◌, ◌-◌, ◌≤◌, ◌⊎◌, List, [], ◌∷◌, ◌++◌, length, get_or, take, drop, sym, refl, ap, ◌∙◌, subst, inl, inr, arith}
use Rattle.std.specs.List.{flat_map, All}
use Rattle.std.proofs.lemmas.List.Elements.{All-append, All-cons, All-head, All-nil, All-tail}
use Rattle.std.proofs.lemmas.List.{length-append, length-take-le, take-append-drop, append_assoc, append-nil, append_cancel_left, take_at}
use Rattle.std.proofs.lemmas.Grind.{flat_map-append}
use Rattle.std.proofs.Math.Seq.{take-append-add}
use Rattle.text.specs.Table.{Sequence}
use Rattle.text.specs.Splits.{WellFormed, Longest, Front, FrontsNone, Skipped, Passed}
use Rattle.text.proofs.Shapes.{led, parts, length_led}

pub split_nil : WellFormed []
split_nil = ([], record { each = All-nil Sequence; whole = refl })

pub split_more : {s t : List ℕ} → Sequence s → WellFormed t → WellFormed (s ++ t)
split_more {s} q w = (s ∷ w.0, record { each = All-cons Sequence s w.0 q w.1.each; whole = ap (λ r. s ++ r) w.1.whole })

pub split_one : {s : List ℕ} → Sequence s → WellFormed s
split_one {s} q = subst WellFormed (append-nil s) (split_more q split_nil)

-- a text that splits is empty, or a sequence and a text that splits
pub record Begun (xs : List ℕ) : Type 0 where
  pub s : List ℕ
  pub t : List ℕ
  pub first : Sequence s
  pub more : WellFormed t
  pub is : xs ≡ s ++ t

pub begun : {xs : List ℕ} → WellFormed xs → (xs ≡ []) ⊎ Begun xs
begun ([], p) = inl (sym p.whole)
begun (s ∷ ss, p) = inr (record { s = s; t = flat_map (λ x. x) ss; first = All-head Sequence s ss p.each; more = (ss, record { each = All-tail Sequence s ss p.each; whole = refl }); is = sym p.whole })

-- of two sequences that begin one text, both are the same
pub same_first : {s s' t t' : List ℕ} → Sequence s → Sequence s' → s ++ t ≡ s' ++ t' → (s ≡ s') × (t ≡ t')
same_first {s} {s'} {t} {t'} q q' e =
    let long : length s' ≡ length s = length_led q' t' ∙ ap (λ y. led (get_or y 0 0)) (sym e) ∙ sym (length_led q t) in
    let same : s ≡ s' = sym (take_at s t (length s) refl) ∙ ap (λ y. take (length s) y) e ∙ take_at s' t' (length s) long in
    (same, append_cancel_left s t t' (e ∙ ap (λ y. y ++ t') (sym same)))

-- the longest split after a front that splits: what m bytes split is the front's sequences and then some of the rest's
longest_after : (ss : List (List ℕ)) → All Sequence ss → (t : List ℕ) (n : ℕ) → Longest t n → (m : ℕ) → m ≤ length (flat_map (λ x. x) ss ++ t) → WellFormed (take m (flat_map (λ x. x) ss ++ t)) → m ≤ length (flat_map (λ x. x) ss) + n
longest_after [] a t n l m h w = omega (arith, l.last m h w)
longest_after (s ∷ ss) a t n l m h w =
    elim (begun w) [
      | inl e ↦ omega (arith, ap length e, length-take-le m ((s ++ flat_map (λ x. x) ss) ++ t) h)
      | inr b ↦
          let xs = (s ++ flat_map (λ x. x) ss) ++ t in
          let rest = flat_map (λ x. x) ss ++ t in
          let whole : s ++ rest ≡ b.s ++ (b.t ++ drop m xs) = sym (append_assoc s (flat_map (λ x. x) ss) t) ∙ sym (take-append-drop m xs) ∙ ap (λ y. y ++ drop m xs) b.is ∙ append_assoc b.s b.t (drop m xs) in
          let same = same_first (All-head Sequence s ss a) b.first whole in
          let cut : take (length b.t) rest ≡ b.t = ap (λ y. take (length b.t) y) same.1 ∙ take_at b.t (drop m xs) (length b.t) refl in
          let fits : length b.t ≤ length rest = omega (arith, ap length same.1, length-append b.t (drop m xs)) in
          let less : length b.t ≤ length (flat_map (λ x. x) ss) + n = longest_after ss (All-tail Sequence s ss a) t n l (length b.t) fits (subst WellFormed (sym cut) b.more) in
          omega (arith, length-take-le m xs h, ap length b.is, length-append b.s b.t, ap length same.0, length-append s (flat_map (λ x. x) ss))
    ]

pub split_append : {s t : List ℕ} → WellFormed s → WellFormed t → WellFormed (s ++ t)
split_append {s} (ss, p) (ts, r) =
    (ss ++ ts, record { each = All-append Sequence ss ts p.each r.each; whole = flat_map-append (λ x. x) ss ts ∙ ap (λ y. y ++ flat_map (λ x. x) ts) p.whole ∙ ap (λ y. s ++ y) r.whole })

pub longest_passed : (xs t : List ℕ) (n : ℕ) → Passed xs t → Longest t n → Longest xs (length xs - length t + n)
longest_passed xs t n ((s, (w, e)), less) l =
    let long : length xs ≡ length s + length t = ap length e ∙ length-append s t in
    let k : length s + n ≡ length xs - length t + n = omega arith in
    subst (λ ys. Longest ys (length xs - length t + n)) (sym e)
    (subst (Longest (s ++ t)) k
    (record {
      within = omega (arith, length-append s t, l.within);
      split = subst WellFormed (sym (take-append-add s t n)) (split_append w l.split);
      last = subst (λ y. (m : ℕ) → m ≤ length (y ++ t) → WellFormed (take m (y ++ t)) → m ≤ length y + n) w.1.whole (longest_after w.0 w.1.each t n l);
    }))

pub longest_stop : (xs : List ℕ) → FrontsNone xs → Longest xs 0
longest_stop xs f =
    record {
      within = omega arith;
      split = split_nil;
      last = λ m h w. elim (begun w) [
        | inl e ↦ omega (arith, length-take-le m xs h, ap length e)
        | inr b ↦ absurd (f b.s (b.t ++ drop m xs) b.first (sym (take-append-drop m xs) ∙ ap (λ y. y ++ drop m xs) b.is ∙ append_assoc b.s b.t (drop m xs)))
      ];
    }

pub passed_front : (xs t : List ℕ) → Front xs t → Passed xs t
passed_front xs t (s, (q, e)) = ((s, (split_one q, e)), omega (arith, (parts q t).some, ap length e, length-append s t))

pub skipped_more : {xs ys zs : List ℕ} → Skipped xs ys → Skipped ys zs → Skipped xs zs
skipped_more {xs} {ys} {zs} (s, (w, e)) (t, (v, f)) = (s ++ t, (split_append w v, e ∙ ap (λ r. s ++ r) f ∙ sym (append_assoc s t zs)))

pub skipped_length : {xs ys : List ℕ} → Skipped xs ys → length ys ≤ length xs
skipped_length {xs} {ys} (s, (w, e)) = omega (arith, ap length e, length-append s ys)
