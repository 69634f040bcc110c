-- The line and the column of an offset are those at the end of the bytes before it: as many LFs, and the characters after the last.
use Rattle.std.proofs.Common.{◌≡◌, ℕ, zero, suc, ◌+◌, ◌-◌, ◌<◌, ◌≤◌, min, Bool, true, false, cond, List, [], ◌∷◌, ◌++◌, length, get_or, take, drop, sym, refl, ap, ◌∙◌, inl, inr, arith, ne_eqb}
use Rattle.std.specs.List.{between}
use Rattle.std.proofs.lemmas.List.{append-nil, drop_all, drop-take, get_or-drop, get_or_append_left, get_or-append_right, get_or_push, length-append, length_push, length-drop, length-take, length-take-le, take_all, take-append-drop, take_more}
use Rattle.std.proofs.lemmas.Bool.Decides.{leb_tells}
use Rattle.text.specs.Characters.{characters}
use Rattle.lines.specs.LineCols.{upto, line_col}
use Rattle.lines.specs.Starts.{line_feed, after, starts}
use Rattle.lines.proofs.Noting.{above_after, after-append, starts_note}
use Rattle.lines.proofs.Search.{upto_is}

-- the last line start of bytes, and the characters after it
abbrev pub last_start : List ℕ → ℕ
last_start p = get_or (starts p) (length (starts p) - 1) 0

abbrev pub last_line : List ℕ → ℕ
last_line p = characters (drop (last_start p) p)

-- no start is past the end
most_cond : (i n : ℕ) (t : Bool) (xs : List ℕ) → i + 1 ≤ n → ((k : ℕ) → k < length xs → get_or xs k 0 ≤ n) → (k : ℕ) → k < length (cond t ((i + 1) ∷ xs) xs) → get_or (cond t ((i + 1) ∷ xs) xs) k 0 ≤ n
most_cond i n true xs h a zero l = h
most_cond i n true xs h a (suc k) l = a k (omega arith)
most_cond i n false xs h a k l = a k l

after_most : (i : ℕ) (xs : List ℕ) (k : ℕ) → k < length (after i xs) → get_or (after i xs) k 0 ≤ i + length xs
after_most i [] k l = absurd (omega arith)
after_most i (x ∷ xs) k l = most_cond i (i + length (x ∷ xs)) (line_feed x) (after (i + 1) xs) (omega arith) (λ j h. omega (arith, after_most (i + 1) xs j h)) k l

starts_most : (p : List ℕ) (k : ℕ) → k < length (starts p) → get_or (starts p) k 0 ≤ length p
starts_most p zero l = omega arith
starts_most p (suc k) l = omega (arith, after_most 0 p k (omega arith))

pub last_most : (p : List ℕ) → last_start p ≤ length p
last_most p = starts_most p (length (starts p) - 1) (omega arith)

-- the starts at or before an offset are those of the bytes before it
module _ (text : List ℕ) (at : ℕ) where
  abbrev front : List ℕ
  front = take at text

  split_starts : starts text ≡ starts front ++ after (0 + length front) (drop at text)
  split_starts = ap starts (sym (take-append-drop at text)) ∙ ap (λ ys. 0 ∷ ys) (after-append 0 front (drop at text))

  at_most : (k : ℕ) → k < length (starts front) → get_or (starts text) k 0 ≤ at
  at_most k l = omega (arith, ap (λ z. get_or z k 0) split_starts, get_or_append_left (starts front) (after (0 + length front) (drop at text)) 0 k l, starts_most front k l, length-take at text)

  past : (k : ℕ) → length (starts front) ≤ k → k < length (starts text) → at < get_or (starts text) k 0
  past k h l =
      let rest = after (0 + length front) (drop at text) in
      let n = length (starts front) in
      let e = ap (λ z. get_or z k 0) split_starts ∙ get_or-append_right (starts front) rest n k 0 refl h in
      let lt : k - n < length rest = omega (arith, ap length split_starts, length-append (starts front) rest) in
      elim (leb_tells at (length text)) [
        | inl i ↦ omega (arith, e, (above_after (0 + length front) (drop at text)).above (k - n) lt, length-take-le at text i.1)
        | inr i ↦ absurd (omega (arith, ap (λ z. length (after (0 + length front) z)) (drop_all at text (omega arith))))
      ]

  pub upto_front : upto at (starts text) ≡ length (starts front)
  upto_front = upto_is at (starts text) (length (starts front)) (omega (arith, ap length split_starts, length-append (starts front) (after (0 + length front) (drop at text)))) at_most past

  last_front : get_or (starts text) (upto at (starts text) - 1) 0 ≡ last_start front
  last_front =
      ap (λ n. get_or (starts text) (n - 1) 0) upto_front
      ∙ ap (λ z. get_or z (length (starts front) - 1) 0) split_starts
      ∙ get_or_append_left (starts front) (after (0 + length front) (drop at text)) 0 (length (starts front) - 1) (omega arith)

  between_front : between (last_start front) at text ≡ drop (last_start front) front
  between_front =
      let h : last_start front ≤ at = omega (arith, last_most front, length-take at text) in
      let e : last_start front + (at - last_start front) ≡ at = omega arith in
      sym (drop-take (last_start front) (at - last_start front) text) ∙ ap (λ n. drop (last_start front) (take n text)) e

  pub line_col_front : line_col text at ≡ (length (starts front), 1 + last_line front)
  line_col_front =
      let e : characters (between (get_or (starts text) (upto at (starts text) - 1) 0) at text) ≡ last_line front = ap (λ n. characters (between n at text)) last_front ∙ ap characters between_front in
      (λ i. (upto_front i, 1 + e i))

-- without an LF no line starts after the first
after_none : (i : ℕ) (xs : List ℕ) → ((k : ℕ) → k < length xs → get_or xs k 0 ≡ 10 → ⊥) → after i xs ≡ []
after_none i [] h = refl
after_none i (x ∷ xs) h = rw (ne_eqb x 10 (h 0 (omega arith))) (after_none (i + 1) xs (λ k l. h (suc k) (omega arith)))

last_cut : (p : List ℕ) (n : ℕ) → n ≤ length p → ((k : ℕ) → n ≡ k + 1 → get_or p k 0 ≡ 10) → last_start (take n p) ≡ n
last_cut p zero l h = refl
last_cut p (suc k) l h =
    let q = take k p in
    let one : suc k ≡ k + 1 = omega arith in
    let long : length q ≡ k = length-take-le k p (omega arith) in
    let e : starts (take (suc k) p) ≡ starts q ++ (length q + 1) ∷ [] = ap (λ n. starts (take n p)) one ∙ ap starts (take_more p k 0 (omega arith)) ∙ starts_note q (get_or p k 0) (h k one) in
    let s = starts q ++ (length q + 1) ∷ [] in
    ap (λ z. get_or z (length z - 1) 0) e ∙ get_or_push (starts q) (length q + 1) 0 (length s - 1) (omega (arith, length_push (starts q) (length q + 1))) ∙ omega arith

-- where no LF follows, no line starts after
pub starts_front : (p : List ℕ) (n : ℕ) → n ≤ length p → ((k : ℕ) → n ≤ k → k < length p → get_or p k 0 ≡ 10 → ⊥) → starts p ≡ starts (take n p)
starts_front p n l a =
    let none : after (0 + length (take n p)) (drop n p) ≡ [] = after_none _ (drop n p) (λ k i e. a (n + k) (omega arith) (omega (arith, length-drop n p)) (sym (get_or-drop n p k 0) ∙ e)) in
    split_starts p n ∙ ap (λ ys. starts (take n p) ++ ys) none ∙ append-nil (starts (take n p))

-- the last line starts after the last LF, or at 0
pub last_start_is : (p : List ℕ) (n : ℕ) → n ≤ length p → ((k : ℕ) → n ≡ k + 1 → get_or p k 0 ≡ 10) → ((k : ℕ) → n ≤ k → k < length p → get_or p k 0 ≡ 10 → ⊥) → last_start p ≡ n
last_start_is p n l h a = ap (λ z. get_or z (length z - 1) 0) (starts_front p n l a) ∙ last_cut p n l h

-- reading the bytes before an offset, as far as there are any, gives its line and column
pub line_col_cut : (text : List ℕ) (at n : ℕ) → n ≡ min (length text) at → line_col (take n text) (length (take n text)) ≡ line_col text at
line_col_cut text at n e =
    let p = take n text in
    let same : take (length p) p ≡ take at text =
    take_all (length p) p (omega arith)
    ∙ elim (leb_tells at (length text)) as (λ z. take n text ≡ take at text) [
      | inl i ↦ ap (λ k. take k text) (omega arith)
      | inr i ↦ take_all n text (omega arith) ∙ sym (take_all at text (omega arith))
    ] in
    line_col_front p (length p) ∙ ap (λ q. (length (starts q), 1 + last_line q)) same ∙ sym (line_col_front text at)
