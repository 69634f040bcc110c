-- Putting a list in place of as many elements of another.
use Rattle.std.proofs.Common.{◌≡◌, ℕ, suc, ◌+◌, ◌<◌, List, [], ◌∷◌, ◌++◌, length, get_or, take, drop, set, sym, refl, ap, ◌∙◌, subst, arith}
use Rattle.std.proofs.lemmas.List.{append_assoc, length-append, length-drop, length_push, length-take-le, take-append-drop, take_at, drop_at, drop-drop, set_at, drop_more}
use Rattle.queues.specs.Writes.{put}

-- behind a first part
pub put_at : {A : Type 0} (p q xs : List A) (n : ℕ) → length p ≡ n → put n xs (p ++ q) ≡ p ++ (xs ++ drop (length xs) q)
put_at p q xs n e =
    let t : take n (p ++ q) ≡ p = take_at p q n e in
    let u : drop (n + length xs) (p ++ q) ≡ drop (length xs) q = sym (drop-drop (length xs) n (p ++ q)) ∙ ap (drop (length xs)) (drop_at p q n e) in
    ap (λ l. l ++ (xs ++ drop (n + length xs) (p ++ q))) t ∙ ap (λ l. p ++ (xs ++ l)) u

pub put_none : {A : Type 0} (n : ℕ) (out : List A) → put n [] out ≡ out
put_none n out = ap (λ k. take n out ++ drop k out) (omega arith) ∙ take-append-drop n out

put_parts : {A : Type 0} (p : List A) (o : A) (m : List A) (v : A) (r : List A) (i : ℕ) (a b : A) (xs ys : List A) → length p ≡ i → length m ≡ length xs → put i (a ∷ (xs ++ b ∷ ys)) (p ++ o ∷ (m ++ v ∷ r)) ≡ put (i + 1 + length xs + 1) ys (set (set (put (i + 1) xs (p ++ o ∷ (m ++ v ∷ r))) i a) (i + 1 + length xs) b)
put_parts p o m v r i a b xs ys e n =
    let out : List _ = p ++ o ∷ (m ++ v ∷ r) in
    let k : length (xs ++ b ∷ ys) ≡ length m + suc (length ys) = omega (arith, length-append xs (b ∷ ys)) in
    let d : drop (length (xs ++ b ∷ ys)) (m ++ v ∷ r) ≡ drop (length ys) r = ap (λ z. drop z (m ++ v ∷ r)) k ∙ sym (drop-drop (suc (length ys)) (length m) (m ++ v ∷ r)) ∙ ap (drop (suc (length ys))) (drop_at m (v ∷ r) (length m) refl) in
    let left : put i (a ∷ (xs ++ b ∷ ys)) out ≡ p ++ (a ∷ ((xs ++ b ∷ ys) ++ drop (length ys) r)) = put_at p (o ∷ (m ++ v ∷ r)) (a ∷ (xs ++ b ∷ ys)) i e ∙ ap (λ z. p ++ (a ∷ ((xs ++ b ∷ ys) ++ z))) d in
    let x₁ : put (i + 1) xs out ≡ p ++ o ∷ (xs ++ v ∷ r) =
    ap (put (i + 1) xs) (sym (append_assoc p (o ∷ []) (m ++ v ∷ r)))
    ∙ put_at (p ++ o ∷ []) (m ++ v ∷ r) xs (i + 1) (omega (arith, length_push p o))
    ∙ append_assoc p (o ∷ []) (xs ++ drop (length xs) (m ++ v ∷ r))
    ∙ ap (λ z. p ++ (o ∷ (xs ++ z))) (drop_at m (v ∷ r) (length xs) n) in
    let x₂ : set (put (i + 1) xs out) i a ≡ (p ++ a ∷ xs) ++ v ∷ r =
    ap (λ z. set z i a) x₁ ∙ set_at p o (xs ++ v ∷ r) a i e ∙ sym (append_assoc p (a ∷ xs) (v ∷ r)) in
    let x₃ : set (set (put (i + 1) xs out) i a) (i + 1 + length xs) b ≡ ((p ++ a ∷ xs) ++ b ∷ []) ++ r =
    ap (λ z. set z (i + 1 + length xs) b) x₂ ∙ set_at (p ++ a ∷ xs) v r b (i + 1 + length xs) (omega (arith, length-append p (a ∷ xs))) ∙ sym (append_assoc (p ++ a ∷ xs) (b ∷ []) r) in
    let x₄ : put (i + 1 + length xs + 1) ys (set (set (put (i + 1) xs out) i a) (i + 1 + length xs) b) ≡ ((p ++ a ∷ xs) ++ b ∷ []) ++ (ys ++ drop (length ys) r) =
    ap (put (i + 1 + length xs + 1) ys) x₃ ∙ put_at ((p ++ a ∷ xs) ++ b ∷ []) r ys (i + 1 + length xs + 1) (omega (arith, length-append p (a ∷ xs), length_push (p ++ a ∷ xs) b)) in
    let s : p ++ (a ∷ ((xs ++ b ∷ ys) ++ drop (length ys) r)) ≡ ((p ++ a ∷ xs) ++ b ∷ []) ++ (ys ++ drop (length ys) r) = simp append_assoc in
    left ∙ s ∙ sym x₄

-- an element, what is put behind it, the element behind that, and then the others
pub put_pair : {A : Type 0} (i : ℕ) (a b : A) (xs ys out : List A) → i + 1 + length xs < length out → put i (a ∷ (xs ++ b ∷ ys)) out ≡ put (i + 1 + length xs + 1) ys (set (set (put (i + 1) xs out) i a) (i + 1 + length xs) b)
put_pair i a b xs ys out h =
    let q : List _ = drop (i + 1) out in
    let long : length xs < length q = omega (arith, length-drop (i + 1) out) in
    let e : q ≡ take (length xs) q ++ get_or q (length xs) a ∷ drop (length xs + 1) q = sym (take-append-drop (length xs) q) ∙ ap (λ z. take (length xs) q ++ z) (drop_more q (length xs) a long) in
    let s : out ≡ take i out ++ get_or out i a ∷ (take (length xs) q ++ get_or q (length xs) a ∷ drop (length xs + 1) q) = sym (take-append-drop i out) ∙ ap (λ z. take i out ++ z) (drop_more out i a (omega arith) ∙ ap (λ z. get_or out i a ∷ z) e) in
    let F : List _ → Type 0 = λ z. put i (a ∷ (xs ++ b ∷ ys)) z ≡ put (i + 1 + length xs + 1) ys (set (set (put (i + 1) xs z) i a) (i + 1 + length xs) b) in
    subst F (sym s) (put_parts (take i out) (get_or out i a) (take (length xs) q) (get_or q (length xs) a) (drop (length xs + 1) q) i a b xs ys (length-take-le i out (omega arith)) (length-take-le (length xs) q (omega arith)))
