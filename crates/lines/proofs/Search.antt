-- How many rising starts are at or before an offset.
use Rattle.std.proofs.Common.{◌≡◌, ℕ, zero, suc, ◌+◌, ◌-◌, ◌<◌, ◌≤◌, true, false, cond, leb, leb-true, List, [], ◌∷◌, length, get_or, drop, refl, ◌∙◌, arith, le-leb}
use borrow.Author.Tests.{lt-leb}
use Rattle.std.proofs.lemmas.List.{length-drop, length-take-le}
use Rattle.std.proofs.lemmas.List.Sums.{sum_by-cons}
use Rattle.std.specs.List.Sorted.{IsNonDecreasing, IsPartitionPoint, IsStrictlyIncreasing}
use Rattle.std.proofs.lemmas.List.Kept.{AllPairs-from_increasing}
use Rattle.std.proofs.lemmas.List.Sorted.{IsNonDecreasingBy-from_all_adjacent}
use Rattle.std.proofs.lemmas.Bool.Decides.{nat_tests}
use Rattle.lines.specs.LineCols.{upto}
use Rattle.lines.specs.Noted.{noted}

pub upto_none : (at : ℕ) (xs : List ℕ) → ((k : ℕ) → k < length xs → at < get_or xs k 0) → upto at xs ≡ 0
upto_none at [] h = refl
upto_none at (x ∷ xs) h =
    let e : leb x at ≡ false = lt-leb x at (h 0 (omega arith)) in
    sum_by-cons (λ s. cond (leb s at) 1 0) x xs ∙ rw e (omega (arith, upto_none at xs (λ k l. h (suc k) (omega arith))))

-- the first n are at or before the offset, and the others past it
pub upto_is : (at : ℕ) (xs : List ℕ) (n : ℕ) → n ≤ length xs → ((k : ℕ) → k < n → get_or xs k 0 ≤ at) → ((k : ℕ) → n ≤ k → k < length xs → at < get_or xs k 0) → upto at xs ≡ n
upto_is at xs zero l b p = upto_none at xs (λ k h. p k (omega arith) h)
upto_is at [] (suc n) l b p = absurd (omega arith)
upto_is at (x ∷ xs) (suc n) l b p =
    let e : leb x at ≡ true = le-leb x at (b 0 (omega arith)) in
    sum_by-cons (λ s. cond (leb s at) 1 0) x xs ∙ rw e (omega (arith, upto_is at xs n (omega arith) (λ k h. b (suc k) (omega arith)) (λ k h m. p (suc k) (omega arith) (omega arith))))

-- numbers that rise after 0 do not fall
pub never_fall : (xs : List ℕ) → IsStrictlyIncreasing (0 ∷ xs) → IsNonDecreasing xs
never_fall xs r =
    IsNonDecreasingBy-from_all_adjacent (λ x. x) xs (λ k d l. omega (arith, AllPairs-from_increasing (0 ∷ xs) r (suc k) (suc (k + 1)) d (omega arith) (omega arith)))

-- where the starts after the first are split in those at or before the offset and those past it
abbrev pub Splits : ℕ → List ℕ → ℕ → Type 0
Splits at xs n = IsPartitionPoint (λ x. leb x at ≡ true) (λ x. leb x at ≡ false) xs n

pub front_below : (at : ℕ) (xs : List ℕ) (n : ℕ) → Splits at xs n → (k : ℕ) → k < 1 + n → get_or (0 ∷ xs) k 0 ≤ at
front_below at xs n p zero h = omega arith
front_below at xs n p (suc k) h = leb-true _ _ (p.0 k 0 (omega arith) (omega arith))

rest_past : (at : ℕ) (xs : List ℕ) (n : ℕ) → Splits at xs n → (k : ℕ) → 1 + n ≤ k → k < length (0 ∷ xs) → at < get_or (0 ∷ xs) k 0
rest_past at xs n p zero h l = absurd (omega arith)
rest_past at xs n p (suc k) h l = grind (arith, nat_tests, p.1 k 0 (omega arith) (omega arith))

pub upto_split : (at : ℕ) (xs : List ℕ) (n : ℕ) → n ≤ length xs → Splits at xs n → upto at (0 ∷ xs) ≡ 1 + n
upto_split at xs n l p = upto_is at (0 ∷ xs) (1 + n) (omega arith) (front_below at xs n p) (rest_past at xs n p)

pub length-noted : (buffer : List ℕ) (more : ℕ) → more ≤ length buffer - 1 → length (noted buffer more) ≡ more + 1
length-noted buffer more h =
    let l : more ≤ length (drop 1 buffer) = omega (arith, length-drop 1 buffer) in
    omega (arith, length-take-le more (drop 1 buffer) l)
