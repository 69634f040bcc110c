-- A part of a list without its first or its last element.
use Rattle.std.proofs.Common.{◌≡◌, ℕ, zero, suc, ◌+◌, ◌-◌, ◌<◌, ◌≤◌, List, [], ◌∷◌, ◌++◌, length, get_or, take, drop, Some, None, Option, sym, ap, ◌∙◌, arith}
use Rattle.std.specs.Iterator.{YieldsFirst, YieldsLast}
use Rattle.std.specs.List.{slice_get, slice_range}
use Rattle.std.proofs.lemmas.List.{drop_more, get_or-drop, length-drop, take_more}
use Rattle.std.proofs.lemmas.Option.{get_or_from_slice_get}

within : {A : Type 0} (xs : List A) (i : ℕ) → i < length xs → None ≡ slice_get xs i → ⊥
within [] i l e = omega arith
within (x ∷ xs) zero l e = cc
within (x ∷ xs) (suc i) l e = within xs i (omega arith) e

pub range_first : {A : Type 0} (xs : List A) (i j : ℕ) (r : Option A) → i < j → j ≤ length xs → r ≡ slice_get xs i → YieldsFirst (λ rest. rest) (slice_range xs i j) r (slice_range xs (i + 1) j)
range_first xs i j None l h e = absurd (within xs i (omega arith) e)
range_first xs i j (Some x) l h e =
    let d : drop i xs ≡ x ∷ drop (i + 1) xs = drop_more xs i x (omega arith) ∙ ap (λ y. y ∷ drop (i + 1) xs) (get_or_from_slice_get xs i x x (sym e)) in
    let k : j - i ≡ suc (j - (i + 1)) = omega arith in
    ap (λ n. take n (drop i xs)) k ∙ ap (take (suc (j - (i + 1)))) d

pub range_last : {A : Type 0} (xs : List A) (i k : ℕ) (r : Option A) → i ≤ k → k < length xs → r ≡ slice_get xs k → YieldsLast (λ rest. rest) (slice_range xs i (k + 1)) r (slice_range xs i k)
range_last xs i k None l h e = absurd (within xs k h e)
range_last xs i k (Some x) l h e =
    let n : k + 1 - i ≡ (k - i) + 1 = omega arith in
    let at : i + (k - i) ≡ k = omega arith in
    let y : get_or (drop i xs) (k - i) x ≡ x = get_or-drop i xs (k - i) x ∙ ap (λ n. get_or xs n x) at ∙ get_or_from_slice_get xs k x x (sym e) in
    ap (λ n. take n (drop i xs)) n
    ∙ take_more (drop i xs) (k - i) x (omega (arith, length-drop i xs))
    ∙ ap (λ z. slice_range xs i k ++ z ∷ []) y
