-- The links of a queue, from any first index on.
use Rattle.std.proofs.Common.{◌≡◌, ℕ, zero, suc, ◌+◌, ◌-◌, ◌<◌, List, [], ◌∷◌, ◌++◌, length, Some, sym, refl, ap, ◌∙◌, subst, inl, inr, arith}
use Rattle.std.specs.List.{slice_get}
use Rattle.std.proofs.lemmas.Bool.Decides.{leb_tells}
use Rattle.std.proofs.lemmas.Option.{slice_get_within}
use Rattle.queues.specs.Forests.{Forest, none, pair, Mark, starts, ends, tokens, written}
use Rattle.queues.specs.Links.{Links}
use Rattle.queues.proofs.Counts.{length-written}

nth_left : {A : Type 0} (xs ys : List A) (k : ℕ) → k < length xs → slice_get (xs ++ ys) k ≡ slice_get xs k
nth_left [] ys k h = absurd (omega arith)
nth_left (x ∷ xs) ys zero h = refl
nth_left (x ∷ xs) ys (suc k) h = nth_left xs ys k (omega arith)

nth_right : {A : Type 0} (xs ys : List A) (n k : ℕ) → n ≡ length xs + k → slice_get (xs ++ ys) n ≡ slice_get ys k
nth_right [] ys n k e = let h : n ≡ k = omega arith in ap (slice_get ys) h
nth_right (x ∷ xs) ys zero k e = absurd (omega arith)
nth_right (x ∷ xs) ys (suc n) k e = nth_right xs ys n k (omega arith)

-- the mark at k of a queue whose first index is i has at its link the other mark of its pair
abbrev Meets : {X : Type 0} → (i : ℕ) (marks : List (Mark X)) (k : ℕ) → Mark X → Type 0
Meets {X} i marks k (starts j p) = (n : ℕ) × (q : ℕ) × (x : X) × (j ≡ i + n) × (k < n) × (slice_get marks n ≡ Some (ends (i + k) q x))
Meets {X} i marks k (ends j q x) = (n : ℕ) × (p : ℕ) × (j ≡ i + n) × (n < k) × (slice_get marks n ≡ Some (starts (i + k) p))

-- the same in a longer queue, where this part begins at the index o
meets_in : {X : Type 0} (i o b : ℕ) (part marks : List (Mark X)) (k k' : ℕ) (m : Mark X) → b ≡ i + o → k' ≡ o + k → ((n : ℕ) (v : Mark X) → slice_get part n ≡ Some v → slice_get marks (o + n) ≡ Some v) → Meets b part k m → Meets i marks k' m
meets_in i o b part marks k k' (starts j p) eb ek at (n, q, x, l, h, s) =
    let z : b + k ≡ i + k' = omega arith in
    (o + n, q, x, omega arith, omega arith, at n (ends (b + k) q x) s ∙ ap (λ z. Some (ends z q x)) z)
meets_in i o b part marks k k' (ends j q x) eb ek at (n, p, l, h, s) =
    let z : b + k ≡ i + k' = omega arith in
    (o + n, p, omega arith, omega arith, at n (starts (b + k) p) s ∙ ap (λ z. Some (starts z p)) z)

meets : {X : Type 0} (i : ℕ) (f : Forest X) (k : ℕ) (m : Mark X) → slice_get (written i f) k ≡ Some m → Meets i (written i f) k m
meets i none k m e = cc
meets {X} i (pair start end x inner after) zero m e =
    let t : ℕ = tokens inner in
    let w : List (Mark X) = written (i + 1) inner in
    let v : List (Mark X) = written (i + 1 + t + 1) after in
    let marks : List (Mark X) = starts (i + 1 + t) start ∷ (w ++ ends i end x ∷ v) in
    let s : starts (i + 1 + t) start ≡ m = cc in
    let z : i ≡ i + 0 = omega arith in
    let r : slice_get (w ++ ends i end x ∷ v) t ≡ Some (ends (i + 0) end x) = nth_right w (ends i end x ∷ v) t 0 (omega (arith, length-written (i + 1) inner)) ∙ ap (λ k. Some (ends k end x)) z in
    let P : Mark X → Type 0 = Meets i marks 0 in
    let here : P (starts (i + 1 + t) start) = (suc t, end, x, omega arith, omega arith, r) in
    subst P s here
meets {X} i (pair start end x inner after) (suc k) m e =
    let t : ℕ = tokens inner in
    let w : List (Mark X) = written (i + 1) inner in
    let v : List (Mark X) = written (i + 1 + t + 1) after in
    let marks : List (Mark X) = starts (i + 1 + t) start ∷ (w ++ ends i end x ∷ v) in
    let long : length w ≡ t = length-written (i + 1) inner in
    elim (leb_tells (suc k) t) [
      | inl a ↦
          let at : (n : ℕ) (u : Mark X) → slice_get w n ≡ Some u → slice_get marks (1 + n) ≡ Some u = λ n u h.
          let l : n < length w = slice_get_within w n u h in
          let z : 1 + n ≡ suc n = omega arith in
          ap (slice_get marks) z ∙ nth_left w (ends i end x ∷ v) n l ∙ h in
          let l : k < length w = omega (arith, a.1) in
          meets_in i 1 (i + 1) w marks k (suc k) m refl (omega arith) at (meets (i + 1) inner k m (sym (nth_left w (ends i end x ∷ v) k l) ∙ e))
      | inr a ↦ elim (leb_tells k t) [
        | inl b ↦
            let y : slice_get (w ++ ends i end x ∷ v) k ≡ Some (ends i end x) = nth_right w (ends i end x ∷ v) k 0 (omega (arith, a.1, b.1)) in
            let s : ends i end x ≡ m = cc in
            let z : i + 1 + t ≡ i + suc k = omega (arith, a.1, b.1) in
            let P : Mark X → Type 0 = Meets i marks (suc k) in
            let here : P (ends i end x) = (0, start, omega arith, omega arith, ap (λ j. Some (starts j start)) z) in
            subst P s here
        | inr b ↦
            let k' : ℕ = k - (t + 1) in
            let at : (n : ℕ) (u : Mark X) → slice_get v n ≡ Some u → slice_get marks (1 + t + 1 + n) ≡ Some u = λ n u h.
            let z : 1 + t + 1 + n ≡ suc (t + suc n) = omega arith in
            ap (slice_get marks) z ∙ nth_right w (ends i end x ∷ v) (t + suc n) (suc n) (omega arith) ∙ h in
            let r : slice_get (w ++ ends i end x ∷ v) k ≡ slice_get v k' = nth_right w (ends i end x ∷ v) k (suc k') (omega (arith, b.1)) in
            meets_in i (1 + t + 1) (i + 1 + t + 1) v marks k' (suc k) m (omega arith) (omega (arith, b.1)) at (meets (i + 1 + t + 1) after k' m (sym r ∙ e))
      ]
    ]

pub linked : {X : Type 0} → Links X
linked {X} f =
    let marks : List (Mark X) = written 0 f in
    record {
      start = λ k j p e.
          let (n, q, x, l, h, s) = meets 0 f k (starts j p) e in
          let a : n ≡ j = omega arith in
          let b : 0 + k ≡ k = omega arith in
          let t : slice_get marks j ≡ Some (ends k q x) = ap (slice_get marks) (sym a) ∙ s ∙ ap (λ z. Some (ends z q x)) b in
          (q, x, t, omega arith, slice_get_within marks j (ends k q x) t);
      end = λ k j q x e.
          let (n, p, l, h, s) = meets 0 f k (ends j q x) e in
          let a : n ≡ j = omega arith in
          let b : 0 + k ≡ k = omega arith in
          (p, ap (slice_get marks) (sym a) ∙ s ∙ ap (λ z. Some (starts z p)) b, omega arith);
    }
