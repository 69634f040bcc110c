-- Bytes whose union is below 80 hex are each a sequence of one byte.
use Rattle.std.proofs.Common.{ℕ, ◌<◌, ◌≤◌, List, [], ◌∷◌, length, get_or, take, drop, sym, refl, arith}
use lib.Bits.{bit_or}
use lib.Lanes.{fold_l}
use Rattle.std.specs.List.{All}
use Rattle.std.proofs.lemmas.List.Elements.{All-cons, All-head, All-nil, All-tail, All-weaker}
use Rattle.std.proofs.lemmas.List.{take-append-drop}
use Rattle.std.proofs.lemmas.Nat.{le_or_l, le_or_r}
use Rattle.text.specs.Table.{row1}
use Rattle.text.specs.Splits.{WellFormed, Skipped}
use Rattle.text.proofs.Joins.{split_nil, split_more, split_one}

-- the union of a list is no less than any of it
union_most : (a : ℕ) (xs : List ℕ) → (a ≤ fold_l bit_or a xs) × All (λ x. x ≤ fold_l bit_or a xs) xs
union_most a [] = (omega arith, All-nil (λ x. x ≤ a))
union_most a (x ∷ xs) =
    let h = union_most (bit_or a x) xs in
    let p : a ≤ bit_or a x = le_or_l a x in
    let q : x ≤ bit_or a x = le_or_r a x in
    (omega (arith, h.0), All-cons (λ y. y ≤ fold_l bit_or (bit_or a x) xs) x xs (omega (arith, h.0)) h.1)

split_ascii : (xs : List ℕ) → All (λ x. x ≤ 0x7F) xs → WellFormed xs
split_ascii [] a = split_nil
split_ascii (x ∷ xs) a = split_more (row1 (omega arith, All-head (λ y. y ≤ 0x7F) x xs a)) (split_ascii xs (All-tail (λ y. y ≤ 0x7F) x xs a))

pub skipped_ascii : (n : ℕ) (xs : List ℕ) → fold_l bit_or 0 (take n xs) < 0x80 → Skipped xs (drop n xs)
skipped_ascii n xs o =
    let low = All-weaker (λ x. x ≤ fold_l bit_or 0 (take n xs)) (λ x. x ≤ 0x7F) (λ x h. omega arith) (take n xs) (union_most 0 (take n xs)).1 in
    (take n xs, (split_ascii (take n xs) low, sym (take-append-drop n xs)))

pub skipped_first : (xs : List ℕ) → 1 ≤ length xs → get_or xs 0 0 < 0x80 → Skipped xs (drop 1 xs)
skipped_first [] some low = absurd (omega arith)
skipped_first (x ∷ xs) some low = (x ∷ [], (split_one (row1 (omega arith, omega arith)), refl))
