-- The table by lengths: a sequence's length is a function of its first byte, and its other bytes fit their columns.
use Rattle.std.proofs.Common.{◌≡◌, ℕ, ◌≤◌, cond, leb, List, [], ◌∷◌, ◌++◌, length, get_or, take, drop, sym, ap, ◌∙◌, subst, inl, inr, arith}
use Rattle.std.proofs.lemmas.List.{take_more, take-append-drop}
use Rattle.std.proofs.lemmas.Bool.Decides.{nat_tests, leb_tells}
use Rattle.text.specs.Table.{In, Second, Sequence, row1, row2, row3, row4, row5, row6, row7, row8, row9}
use Rattle.text.specs.Sequences.{LengthOf}
use Rattle.text.specs.Splits.{Front}

-- the length by the first byte, 0 where no row begins with it
unfoldable pub led : ℕ → ℕ
led a = cond (leb a 0x7F) 1 (cond (leb a 0xC1) 0 (cond (leb a 0xDF) 2 (cond (leb a 0xEF) 3 (cond (leb a 0xF4) 4 0))))

pub data Shape : List ℕ → Type 0 where
  one : {a : ℕ} → led a ≡ 1 → Shape (a ∷ [])
  two : {a b : ℕ} → led a ≡ 2 → Second a b → Shape (a ∷ b ∷ [])
  three : {a b c : ℕ} → led a ≡ 3 → Second a b → In 0x80 0xBF c → Shape (a ∷ b ∷ c ∷ [])
  four : {a b c d : ℕ} → led a ≡ 4 → Second a b → In 0x80 0xBF c → In 0x80 0xBF d → Shape (a ∷ b ∷ c ∷ d ∷ [])

pub shape : {s : List ℕ} → Sequence s → Shape s
unfolding led
shape (row1 p) = one (grind (arith, nat_tests))
shape (row2 p q) = two (grind (arith, nat_tests)) (grind (arith, nat_tests))
shape (row3 p q r) = three (grind (arith, nat_tests)) (grind (arith, nat_tests)) r
shape (row4 p q r) = three (grind (arith, nat_tests)) (grind (arith, nat_tests)) r
shape (row5 p q r) = three (grind (arith, nat_tests)) (grind (arith, nat_tests)) r
shape (row6 p q r) = three (grind (arith, nat_tests)) (grind (arith, nat_tests)) r
shape (row7 p q r u) = four (grind (arith, nat_tests)) (grind (arith, nat_tests)) r u
shape (row8 p q r u) = four (grind (arith, nat_tests)) (grind (arith, nat_tests)) r u
shape (row9 p q r u) = four (grind (arith, nat_tests)) (grind (arith, nat_tests)) r u

pub row : {s : List ℕ} → Shape s → Sequence s
unfolding led
row (one e) = row1 (omega arith, grind (arith, nat_tests))
row (two e s) = row2 (grind (arith, nat_tests), grind (arith, nat_tests)) (grind arith, grind arith)
row (three {a} e s r) =
    elim (leb_tells a 0xE0) [
      | inl h ↦ row3 (grind (arith, nat_tests), omega arith) (grind (arith, nat_tests), grind (arith, nat_tests)) r
      | inr h ↦ elim (leb_tells a 0xEC) [
        | inl i ↦ row4 (omega arith, omega arith) (grind arith, grind arith) r
        | inr i ↦ elim (leb_tells a 0xED) [
          | inl j ↦ row5 (omega arith, omega arith) (grind arith, grind arith) r
          | inr j ↦ row6 (omega arith, grind (arith, nat_tests)) (grind arith, grind arith) r
        ]
      ]
    ]
row (four {a} e s r u) =
    elim (leb_tells a 0xF0) [
      | inl h ↦ row7 (grind (arith, nat_tests), omega arith) (grind (arith, nat_tests), grind (arith, nat_tests)) r u
      | inr h ↦ elim (leb_tells a 0xF3) [
        | inl i ↦ row8 (omega arith, omega arith) (grind arith, grind arith) r u
        | inr i ↦ row9 (omega arith, grind (arith, nat_tests)) (grind (arith, nat_tests), grind (arith, nat_tests)) r u
      ]
    ]

-- what the bytes at a front that is a sequence are
pub record Parts (xs : List ℕ) (n : ℕ) : Type 0 where
  pub some : 1 ≤ n
  pub long : n ≤ length xs
  pub leads : led (get_or xs 0 0) ≡ n
  pub second : 2 ≤ n → Second (get_or xs 0 0) (get_or xs 1 0)
  pub third : 3 ≤ n → In 0x80 0xBF (get_or xs 2 0)
  pub fourth : 4 ≤ n → In 0x80 0xBF (get_or xs 3 0)

parts_of : {s : List ℕ} → Shape s → (t : List ℕ) → Parts (s ++ t) (length s)
parts_of (one e) t = record { some = omega arith; long = omega arith; leads = e; second = λ h. absurd (omega arith); third = λ h. absurd (omega arith); fourth = λ h. absurd (omega arith) }
parts_of (two e s) t = record { some = omega arith; long = omega arith; leads = e; second = λ h. s; third = λ h. absurd (omega arith); fourth = λ h. absurd (omega arith) }
parts_of (three e s r) t = record { some = omega arith; long = omega arith; leads = e; second = λ h. s; third = λ h. r; fourth = λ h. absurd (omega arith) }
parts_of (four e s r u) t = record { some = omega arith; long = omega arith; leads = e; second = λ h. s; third = λ h. r; fourth = λ h. u }

pub parts : {s : List ℕ} → Sequence s → (t : List ℕ) → Parts (s ++ t) (length s)
parts q t = parts_of (shape q) t

-- the same of a text that a sequence begins
pub parts_front : {xs : List ℕ} (s t : List ℕ) → Sequence s → xs ≡ s ++ t → Parts xs (led (get_or xs 0 0))
parts_front s t q e =
    let p = parts q t in
    subst (λ ys. Parts ys (led (get_or ys 0 0))) (sym e) (subst (Parts (s ++ t)) (sym p.leads) p)

pub length_led : {s : List ℕ} → Sequence s → (t : List ℕ) → length s ≡ led (get_or (s ++ t) 0 0)
length_led q t = sym (parts q t).leads

-- a second byte for each first one
second_some : (a : ℕ) → (b : ℕ) × Second a b
second_some a = (cond (leb a 0xE0) 0xBF (cond (leb a 0xED) 0x80 (cond (leb a 0xF0) 0xBF 0x80)), grind (arith, nat_tests))

-- a sequence for each first byte that has one
some_led : (a n : ℕ) → led a ≡ n → 1 ≤ n → n ≤ 4 → (s : List ℕ) × Sequence (a ∷ s)
some_led a n e some most =
    let b = second_some a in
    let tail : In 0x80 0xBF 0x80 = (omega arith, omega arith) in
    elim (leb_tells n 1) [
      | inl h ↦ ([], row (one (omega arith)))
      | inr h ↦ elim (leb_tells n 2) [
        | inl i ↦ (b.0 ∷ [], row (two (omega arith) b.1))
        | inr i ↦ elim (leb_tells n 3) [
          | inl j ↦ (b.0 ∷ 0x80 ∷ [], row (three (omega arith) b.1 tail))
          | inr j ↦ (b.0 ∷ 0x80 ∷ 0x80 ∷ [], row (four (omega arith) b.1 tail tail))
        ]
      ]
    ]

pub length_of : (a n : ℕ) → led a ≡ n → 1 ≤ n → n ≤ 4 → LengthOf a n
length_of a n e some most = record { every = λ t p. length_led p [] ∙ e; some = some_led a n e some most }

pub led_of : {a n : ℕ} → LengthOf a n → led a ≡ n
led_of l = sym (length_led l.some.1 []) ∙ l.every l.some.0 l.some.1

-- a front of each length
cut : (xs : List ℕ) (n : ℕ) (s : List ℕ) → take n xs ≡ s → Sequence s → Front xs (drop n xs)
cut xs n s e q = (s, (q, sym (take-append-drop n xs) ∙ ap (λ p. p ++ drop n xs) e))

first1 : (xs : List ℕ) → 1 ≤ length xs → take 1 xs ≡ get_or xs 0 0 ∷ []
first1 xs l = take_more xs 0 0 l

first2 : (xs : List ℕ) → 2 ≤ length xs → take 2 xs ≡ get_or xs 0 0 ∷ get_or xs 1 0 ∷ []
first2 xs l = take_more xs 1 0 l ∙ ap (λ p. p ++ get_or xs 1 0 ∷ []) (first1 xs (omega arith))

first3 : (xs : List ℕ) → 3 ≤ length xs → take 3 xs ≡ get_or xs 0 0 ∷ get_or xs 1 0 ∷ get_or xs 2 0 ∷ []
first3 xs l = take_more xs 2 0 l ∙ ap (λ p. p ++ get_or xs 2 0 ∷ []) (first2 xs (omega arith))

first4 : (xs : List ℕ) → 4 ≤ length xs → take 4 xs ≡ get_or xs 0 0 ∷ get_or xs 1 0 ∷ get_or xs 2 0 ∷ get_or xs 3 0 ∷ []
first4 xs l = take_more xs 3 0 l ∙ ap (λ p. p ++ get_or xs 3 0 ∷ []) (first3 xs (omega arith))

pub front2 : (xs : List ℕ) → 2 ≤ length xs → led (get_or xs 0 0) ≡ 2 → Second (get_or xs 0 0) (get_or xs 1 0) → Front xs (drop 2 xs)
front2 xs l e s = cut xs 2 _ (first2 xs l) (row (two e s))

pub front3 : (xs : List ℕ) → 3 ≤ length xs → led (get_or xs 0 0) ≡ 3 → Second (get_or xs 0 0) (get_or xs 1 0) → In 0x80 0xBF (get_or xs 2 0) → Front xs (drop 3 xs)
front3 xs l e s r = cut xs 3 _ (first3 xs l) (row (three e s r))

pub front4 : (xs : List ℕ) → 4 ≤ length xs → led (get_or xs 0 0) ≡ 4 → Second (get_or xs 0 0) (get_or xs 1 0) → In 0x80 0xBF (get_or xs 2 0) → In 0x80 0xBF (get_or xs 3 0) → Front xs (drop 4 xs)
front4 xs l e s r u = cut xs 4 _ (first4 xs l) (row (four e s r u))
