-- One line of a script after another.
use Rattle.std.proofs.Common.{◌≡◌, ℕ, ◌+◌, ◌-◌, ◌≤◌, true, false, eqb, ◌⊎◌, List, [], ◌∷◌, length, Some, None, Ok, Err, refl, sym, ap, inl, inr, arith}
use Rattle.std.proofs.Math.Numerals.{add-one, one-add}
use Rattle.std.specs.List.{onto_first, position_or_len}
use Rattle.std.proofs.lemmas.Bool.{cases_Bool, cases_lt}
use Rattle.std.proofs.lemmas.Option.{some_pair_parts, none-some}
use Rattle.std.proofs.lemmas.List.{drop_all, length-drop, length-take}
use Rattle.scripts.specs.Parts.{up_to, behind}
use Rattle.scripts.specs.Lines.{lines, first_line}
use Rattle.scripts.specs.Commands.{Order, ending, line_order}
use Rattle.scripts.specs.Kinds.{kind_codes, kind_of}
use Rattle.scripts.specs.Steps.{Drawn, stepped}
use Rattle.scripts.specs.declared.faults.ScriptFault.{ScriptFault}
use Rattle.scripts.specs.declared.kinds.Kind.{Kind}
use Rattle.scripts.specs.declared.numbers.Misread.{Misread}
use Rattle.scripts.specs.Outcomes.{refused, shown, line_refusal, after_show, blank, body, left, shown_before, started}

-- the first line and the lines after it
pub lines_step : (b : ℕ) (bs : List ℕ) → lines (b ∷ bs) ≡ up_to 10 (b ∷ bs) ∷ lines (behind 10 (b ∷ bs))
lines_step b [] = elim (cases_Bool (eqb b 10)) [ inl e ↦ rw e | inr e ↦ rw e ]
lines_step b (d ∷ bs) =
    elim (cases_Bool (eqb b 10)) [
      | inl e ↦ rw e
      | inr e ↦ rw e (simp (one-add, add-one) (simp (one-add, add-one) at (ap (onto_first b) (lines_step d bs))))
    ]

-- either nothing stands behind the stop, or the parts make up the whole
parts_length : (stop : ℕ) (bs : List ℕ) → (behind stop bs ≡ []) ⊎ (length bs ≡ length (up_to stop bs) + 1 + length (behind stop bs))
parts_length stop bs =
    let n = position_or_len (λ b. eqb b stop) bs in
    elim (cases_lt n (length bs)) [
      | inl h ↦ inr (omega (arith, length-take n bs, length-drop (n + 1) bs))
      | inr h ↦ inl (drop_all (n + 1) bs (omega arith))
    ]

-- a line taken off: its lines, its length, and where the next one begins
pub record Taken (rest line after : List ℕ) : Type 0 where
  pub first : lines rest ≡ line ∷ lines after
  pub place : (after ≡ []) ⊎ (length rest ≡ length line + 1 + length after)

pub taken : (rest line after : List ℕ) → Some (line, after) ≡ first_line rest → Taken rest line after
taken [] line after e = absurd (none-some (line, after) (sym e))
taken (b ∷ bs) line after e =
    let p = some_pair_parts line (up_to 10 (b ∷ bs)) after (behind 10 (b ∷ bs)) e in
    rw (p.0, p.1) (record { first = lines_step b bs; place = parts_length 10 (b ∷ bs) })

-- what only looks at a place where a line begins there
moved : {Y : Type 0} (F : ℕ → List (List ℕ) → Y) → ((p q : ℕ) → F p [] ≡ F q []) → (size : ℕ) (rest line after : List ℕ) → length rest ≤ size → Taken rest line after → F (size - length rest + length line + 1) (lines after) ≡ F (size - length after) (lines after)
moved F same size rest line after h t =
    elim t.place [
      | inl e ↦ rw e (same _ _)
      | inr e ↦ let p : size - length rest + length line + 1 ≡ size - length after = omega arith in ap (λ n. F n (lines after)) p
    ]

-- a line that is done, that ends the script, that is not done, or that is none
pub adds : (codes size n : ℕ) (d d' : Drawn) (rest line after : List ℕ) (o : Order) → length rest ≤ size → Taken rest line after → Ok o ≡ line_order line → false ≡ ending o → stepped codes o d ≡ Ok d' → left codes size n d rest ≡ left codes size (n + 1) d' after
adds codes size n d d' rest line after o h t is goes step =
    rw (t.first, ← is, ← goes, step) (moved (λ p ls. body codes size p (n + 1) d' ls) (λ p q. refl) size rest line after h t)

pub shows : (codes size n : ℕ) (d : Drawn) (rest line after : List ℕ) (o : Order) → length rest ≤ size → Taken rest line after → Ok o ≡ line_order line → true ≡ ending o → left codes size n d rest ≡ shown_before size n d after
shows codes size n d rest line after o h t is ends =
    rw (t.first, ← is, ← ends) (ap (shown d n) (moved (after_show (n + 1)) (λ p q. refl) size rest line after h t))

pub stops : (codes size n : ℕ) (d : Drawn) (rest line after : List ℕ) (o : Order) (f : ScriptFault) → Taken rest line after → Ok o ≡ line_order line → false ≡ ending o → stepped codes o d ≡ Err f → left codes size n d rest ≡ refused (record { line = n; fault = f })
stops codes size n d rest line after o f t is goes step = rw (t.first, ← is, ← goes, step)

pub refuses : (codes size n : ℕ) (e : Misread) (d : Drawn) (rest line after : List ℕ) → Taken rest line after → Err e ≡ line_order line → left codes size n d rest ≡ refused (line_refusal n (size - length rest + e.at))
refuses codes size n e d rest line after t is = rw (t.first, ← is)

pub kinds : (script line after : List ℕ) (k : Kind) → Taken script line after → Some k ≡ kind_of line → started script ≡ left (kind_codes k) (length script) 2 blank after
kinds script line after k t is =
    let m = moved (λ p ls. body (kind_codes k) (length script) p 2 blank ls) (λ p q. refl) (length script) script line after (omega arith) t in
    let z : length script - length script + length line + 1 ≡ length line + 1 = omega arith in
    rw (t.first, ← is) (rw z at m)

pub unkind : (script line after : List ℕ) → Taken script line after → None ≡ kind_of line → started script ≡ refused (line_refusal 1 0)
unkind script line after t is = rw (t.first, ← is)
