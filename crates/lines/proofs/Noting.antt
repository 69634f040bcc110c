-- The line starts of a part and of the bytes after it.
use Rattle.std.proofs.Common.{◌≡◌, ℕ, zero, suc, ◌+◌, ◌<◌, ◌≤◌, Bool, true, false, cond, List, [], ◌∷◌, ◌++◌, length, get_or, take, drop, set, Some, None, Ok, count_by, sym, refl, ap, ◌∙◌, add-zero, arith, eq-eqb, ne_eqb}
use Rattle.std.proofs.lemmas.List.{append_assoc, append-nil, drop_more, drop-set-lt, take_all, length_push, length-set, length-take-le, set_at, take_at, take_more, take-append-drop}
use Rattle.std.proofs.lemmas.List.Sums.{count_by_more_yes, sum_by-append, sum_by-cons}
use Rattle.std.proofs.lemmas.Bool.Decides.{nat_tests}
use Rattle.std.specs.List.Sorted.{IsStrictlyIncreasing}
use Rattle.lines.specs.Noted.{noted}
use Rattle.text.specs.Limits.{limited}
use Rattle.lines.specs.declared.faults.LineFault.TheVariants.{Short}
use Rattle.lines.specs.Fills.{over, fill_fault}
use Rattle.lines.specs.Starts.{line_feed, after, starts}

cond-append : (t : Bool) (x : ℕ) (xs ys : List ℕ) → cond t (x ∷ (xs ++ ys)) (xs ++ ys) ≡ cond t (x ∷ xs) xs ++ ys
cond-append true x xs ys = refl
cond-append false x xs ys = refl

pub after-append : (i : ℕ) (xs ys : List ℕ) → after i (xs ++ ys) ≡ after i xs ++ after (i + length xs) ys
after-append i [] ys = rw add-zero refl
after-append i (x ∷ xs) ys =
    let k : i + 1 + length xs ≡ i + suc (length xs) = omega arith in
    rw (after-append (i + 1) xs ys, k) (cond-append (line_feed x) (i + 1) (after (i + 1) xs) (after (i + suc (length xs)) ys))

-- one byte more
pub starts_skip : (xs : List ℕ) (b : ℕ) → (b ≡ 10 → ⊥) → starts (xs ++ b ∷ []) ≡ starts xs
starts_skip xs b h = ap (λ ys. 0 ∷ ys) (after-append 0 xs (b ∷ []) ∙ rw (ne_eqb b 10 h) (append-nil (after 0 xs)))

pub starts_note : (xs : List ℕ) (b : ℕ) → b ≡ 10 → starts (xs ++ b ∷ []) ≡ starts xs ++ (length xs + 1) ∷ []
starts_note xs b h =
    let k : 0 + length xs + 1 ≡ length xs + 1 = omega arith in
    ap (λ ys. 0 ∷ ys) (after-append 0 xs (b ∷ []) ∙ rw (eq-eqb b 10 h, k) refl)

-- as many as there are LFs
length-cond : (t : Bool) (x : ℕ) (xs : List ℕ) → length (cond t (x ∷ xs) xs) ≡ cond t 1 0 + length xs
length-cond true x xs = omega arith
length-cond false x xs = omega arith

pub length-after : (i : ℕ) (xs : List ℕ) → length (after i xs) ≡ count_by line_feed xs
length-after i [] = refl
length-after i (x ∷ xs) =
    length-cond (line_feed x) (i + 1) (after (i + 1) xs)
    ∙ ap (λ n. cond (line_feed x) 1 0 + n) (length-after (i + 1) xs)
    ∙ sym (sum_by-cons (λ b. cond (line_feed b) 1 0) x xs)

-- after the first i bytes: their starts at the front of the buffer, and the rest of it as it was
pub record Noted (text : List ℕ) (i n : ℕ) (old buffer : List ℕ) : Type 0 where
  pub count : n ≡ length (starts (take i text))
  pub holds : buffer ≡ starts (take i text) ++ drop n old
  pub long : length buffer ≡ length old

pub noted_skip : (text : List ℕ) (i n : ℕ) (old buffer : List ℕ) → i < length text → (get_or text i 0 ≡ 10 → ⊥) → Noted text i n old buffer → Noted text (i + 1) n old buffer
noted_skip text i n old buffer l h p =
    let e : starts (take (i + 1) text) ≡ starts (take i text) = ap starts (take_more text i 0 l) ∙ starts_skip (take i text) (get_or text i 0) h in
    record { count = p.count ∙ sym (ap length e); holds = p.holds ∙ ap (λ s. s ++ drop n old) (sym e); long = p.long }

pub noted_more : (text : List ℕ) (i n : ℕ) (old buffer : List ℕ) → i < length text → get_or text i 0 ≡ 10 → n < length old → Noted text i n old buffer → Noted text (i + 1) (n + 1) old (set buffer n (i + 1))
noted_more text i n old buffer l h room p =
    let s = starts (take i text) in
    let le : i ≤ length text = omega arith in
    let e : starts (take (i + 1) text) ≡ s ++ (i + 1) ∷ [] = ap starts (take_more text i 0 l) ∙ starts_note (take i text) (get_or text i 0) h ∙ ap (λ k. s ++ (k + 1) ∷ []) (length-take-le i text le) in
    record {
      count = omega (arith, p.count, ap length e, length_push s (i + 1));
      holds =
          ap (λ b. set b n (i + 1)) (p.holds ∙ ap (λ r. s ++ r) (drop_more old n 0 room))
          ∙ set_at s (get_or old n 0) (drop (n + 1) old) (i + 1) n (sym p.count)
          ∙ sym (append_assoc s ((i + 1) ∷ []) (drop (n + 1) old))
          ∙ ap (λ r. r ++ drop (n + 1) old) (sym e);
      long = length-set buffer n (i + 1) ∙ p.long;
    }

-- before an LF there is room for one more start: those of a front are among those of the whole
pub noted_room : {text : List ℕ} {i n : ℕ} (old : List ℕ) {buffer : List ℕ} {later : ℕ} → i < length text → get_or text i 0 ≡ 10 → later ≡ count_by line_feed text → later < length old → Noted text i n (set old 0 0) buffer → (n < length (set old 0 0)) × (n < length buffer)
noted_room {text} {i} {n} old l h k room p =
    let le : i ≤ length text = omega arith in
    let lt : n < length (set old 0 0) = omega (arith, p.count, length-set old 0 0, length-after 0 (take i text), count_by_more_yes line_feed text i 0 l (eq-eqb (get_or text i 0) 10 h), ap (count_by line_feed) (take-append-drop (i + 1) text), sum_by-append (λ b. cond (line_feed b) 1 0) (take (i + 1) text) (drop (i + 1) text)) in
    (lt, omega (arith, p.long))

-- at the end: what the buffer holds, whose first entry was set before, and what a table of all but the first start has
pub noted_all : {text : List ℕ} {i n : ℕ} (old : List ℕ) {buffer : List ℕ} {later : ℕ} → length text ≤ i → later ≡ count_by line_feed text → Noted text i n (set old 0 0) buffer → (buffer ≡ over text old) × (noted buffer later ≡ starts text)
noted_all {text} {i} {n} old {buffer} {later} l k p =
    let e : take i text ≡ text = take_all i text l in
    let m : n ≡ length (starts text) = p.count ∙ ap (λ t. length (starts t)) e in
    let lt : 0 < n = omega arith in
    let all : buffer ≡ over text old = p.holds ∙ ap (λ t. starts t ++ drop n (set old 0 0)) e ∙ ap (λ r. starts text ++ r) (drop-set-lt n old 0 0 lt ∙ ap (λ m. drop m old) m) in
    let cut : take later (after 0 text ++ drop (length (starts text)) old) ≡ after 0 text = take_at (after 0 text) (drop (length (starts text)) old) later (length-after 0 text ∙ sym k) in
    (all, ap (λ b. noted b later) all ∙ ap (λ s. 0 ∷ s) cut)

-- above m, and rising
pub record Above (m : ℕ) (xs : List ℕ) : Type 0 where
  pub above : (k : ℕ) → k < length xs → m < get_or xs k 0
  pub rises : IsStrictlyIncreasing xs

above_at : (m x : ℕ) (xs : List ℕ) → m < x → Above x xs → (k : ℕ) → k < length (x ∷ xs) → m < get_or (x ∷ xs) k 0
above_at m x xs h a zero l = h
above_at m x xs h a (suc k) l = omega (arith, a.above k (omega arith))

rises_cons : (x : ℕ) (xs : List ℕ) → Above x xs → IsStrictlyIncreasing (x ∷ xs)
rises_cons x xs a zero l = a.above 0 (omega arith)
rises_cons x xs a (suc k) l =
    let e : suc k + 1 ≡ suc (k + 1) = omega arith in
    rw e (a.rises k (omega arith))

above_cond : (i : ℕ) (t : Bool) (xs : List ℕ) → Above (i + 1) xs → Above i (cond t ((i + 1) ∷ xs) xs)
above_cond i true xs a = record { above = above_at i (i + 1) xs (omega arith) a; rises = rises_cons (i + 1) xs a }
above_cond i false xs a = record { above = λ k l. omega (arith, a.above k l); rises = a.rises }

pub above_after : (i : ℕ) (xs : List ℕ) → Above i (after i xs)
above_after i [] = record { above = λ k l. absurd (omega arith); rises = λ k l. absurd (omega arith) }
above_after i (b ∷ xs) = above_cond i (line_feed b) (after (i + 1) xs) (above_after (i + 1) xs)

pub rising_starts : (text : List ℕ) → IsStrictlyIncreasing (starts text)
rising_starts text = rises_cons 0 (after 0 text) (above_after 0 text)

-- what the two tests of a fill tell
pub fault_short : (text buffer : List ℕ) (later : ℕ) → limited text ≡ Ok tt → later ≡ count_by line_feed text → length buffer ≤ later → fill_fault text buffer ≡ Some (Short (later + 1))
fault_short text buffer later e k h =
    let n : length (starts text) ≡ later + 1 = omega (arith, length-after 0 text) in
    rw (e, n) (grind (arith, nat_tests))

pub fault_none : (text buffer : List ℕ) (later : ℕ) → limited text ≡ Ok tt → later ≡ count_by line_feed text → later < length buffer → fill_fault text buffer ≡ None
fault_none text buffer later e k h =
    let n : length (starts text) ≡ later + 1 = omega (arith, length-after 0 text) in
    rw (e, n) (grind (arith, nat_tests))
