-- The laws of a script: its lines joined again, and a script that is written out read back.
use Rattle.std.proofs.Common.{◌≡◌, ℕ, ◌+◌, ◌≤◌, false, eqb, List, [], ◌∷◌, ◌++◌, length, None, codes, Result, sym, refl, ap, ◌∙◌, inl, inr, append_assoc, append-nil, arith}
use Rattle.std.specs.List.{flat_map, onto_first, All}
use Rattle.std.proofs.lemmas.List.Elements.{All-cons, All-head, All-nil, All-tail}
use Rattle.std.proofs.lemmas.Bool.{cases_Bool, eqb-true}
use Rattle.builders.specs.declared.builds.BuildFault.{BuildFault}
use Rattle.scripts.specs.Lines.{lines}
use Rattle.scripts.specs.Outcomes.{shown, body, started, outcome, script_limit}
use Rattle.scripts.specs.Steps.{drawn}
use Rattle.scripts.specs.Reading.{Built, Means, judged}
use Rattle.scripts.specs.Laws.{Unbroken, with_lf, completed, Piece, bytes, newline, piece_line, piece_text, text_of, written, ScriptLaws}
use Rattle.scripts.specs.declared.kinds.Kind.{Kind}
use Rattle.scripts.specs.declared.kinds.Kind.TheVariants.{Plant, Grammar}
use Rattle.scripts.proofs.Settled.{one_answer, within}
use Rattle.scripts.proofs.Turns.{lines_step}

abbrev NotFeed : ℕ → Type 0
NotFeed b = eqb b 10 ≡ false

-- no line has an LF
unbroken_first : (b : ℕ) (ls : List (List ℕ)) → eqb b 10 ≡ false → All Unbroken ls → All Unbroken (onto_first b ls)
unbroken_first b [] h all = All-cons Unbroken (b ∷ []) [] (All-cons NotFeed b [] h (All-nil NotFeed)) (All-nil Unbroken)
unbroken_first b (l ∷ ls) h all = All-cons Unbroken (b ∷ l) ls (All-cons NotFeed b l h (All-head Unbroken l ls all)) (All-tail Unbroken l ls all)

unbroken : (bs : List ℕ) → All Unbroken (lines bs)
unbroken [] = All-nil Unbroken
unbroken (b ∷ bs) =
    elim (cases_Bool (eqb b 10)) [
      | inl e ↦ rw e (All-cons Unbroken [] (lines bs) (All-nil NotFeed) (unbroken bs))
      | inr e ↦ let all = unbroken_first b (lines bs) e (unbroken bs) in rw e all
    ]

-- the lines with an LF each
rejoined : (bs : List ℕ) → flat_map with_lf (lines bs) ≡ completed bs
rejoined [] = refl
rejoined (b ∷ []) =
    elim (cases_Bool (eqb b 10)) [
      | inl e ↦ let z = eqb-true b 10 e in rw (e, z)
      | inr e ↦ rw e
    ]
rejoined (b ∷ d ∷ bs) =
    let again = rejoined (d ∷ bs) in
    elim (cases_Bool (eqb b 10)) [
      | inl e ↦ let z = eqb-true b 10 e in rw e (ap (λ l. 10 ∷ l) again ∙ ap (λ n. n ∷ completed (d ∷ bs)) (sym z))
      | inr e ↦ rw e (rw (lines_step d bs) (ap (λ l. b ∷ l) (rw (lines_step d bs) at again)))
    ]

-- a line in front of a script
in_line : (l rest : List ℕ) → Unbroken l → lines (with_lf l ++ rest) ≡ l ∷ lines rest
in_line [] rest h = refl
in_line (b ∷ bs) rest h = let e : eqb b 10 ≡ false = All-head NotFeed b bs h in rw e (ap (onto_first b) (in_line bs rest (All-tail NotFeed b bs h)))

-- the line of a piece is read as that piece
piece_read : (codes size place n : ℕ) (text : List ℕ) (p : Piece) (ls : List (List ℕ)) → body codes size place n (drawn text [] [] 0 None) (piece_line p ∷ ls) ≡ body codes size (place + length (piece_line p) + 1) (n + 1) (drawn (text ++ piece_text p) [] [] 0 None) ls
piece_read codes size place n text (bytes bs) ls = refl
piece_read codes size place n text newline ls = refl

abbrev piece_lines : List Piece → List ℕ
piece_lines ps = flat_map (λ p. with_lf (piece_line p)) ps

abbrev Whole : Piece → Type 0
Whole p = Unbroken (piece_line p)

abbrev end : List ℕ
end = with_lf (codes "show")

-- the lines of the pieces, and `show`
said : (many size place n : ℕ) (text : List ℕ) (ps : List Piece) → All (λ p. Unbroken (piece_line p)) ps → body many size place n (drawn text [] [] 0 None) (lines (piece_lines ps ++ end)) ≡ shown (drawn (text ++ flat_map piece_text ps) [] [] 0 None) (length ps + n) None
said many size place n text [] h =
    let a = append-nil text in
    let z : 0 + n ≡ n = omega arith in
    rw (a, z)
said many size place n text (p ∷ ps) h =
    let e : lines (piece_lines (p ∷ ps) ++ end) ≡ piece_line p ∷ lines (piece_lines ps ++ end) = ap lines (append_assoc (with_lf (piece_line p)) (piece_lines ps) end) ∙ in_line (piece_line p) (piece_lines ps ++ end) (All-head Whole p ps h) in
    let next = said many size (place + length (piece_line p) + 1) (n + 1) (text ++ piece_text p) ps (All-tail Whole p ps h) in
    let count : length ps + (n + 1) ≡ length (p ∷ ps) + n = omega arith in
    ap (body many size place n (drawn text [] [] 0 None)) e
    ∙ piece_read many size place n text p (lines (piece_lines ps ++ end))
    ∙ next
    ∙ ap (λ t. shown (drawn t [] [] 0 None) (length ps + (n + 1)) None) (append_assoc text (piece_text p) (flat_map piece_text ps))
    ∙ ap (λ m. shown (drawn (text ++ flat_map piece_text (p ∷ ps)) [] [] 0 None) m None) count

kind_read : (k : Kind) (ps : List Piece) → All (λ p. Unbroken (piece_line p)) ps → started (written k ps) ≡ shown (text_of ps) (length ps + 2) None
kind_read Plant ps h = said 12 (length (written Plant ps)) 6 2 [] ps h
kind_read Grammar ps h = said 65536 (length (written Grammar ps)) 8 2 [] ps h

round_trip : (script : List ℕ) (k : Kind) (ps : List Piece) → script ≡ written k ps → All (λ p. Unbroken (piece_line p)) ps → length script ≤ script_limit → (built : Result ℕ BuildFault) → Built (text_of ps) built → Means script (judged (text_of ps) (length ps + 2) None built)
round_trip script k ps is all small built tested =
    let o : outcome script ≡ shown (text_of ps) (length ps + 2) None = within script small ∙ ap started is ∙ kind_read k ps all in
    rw o (built, (tested, refl))

pub script_laws : (script : List ℕ) → ScriptLaws script
script_laws script =
    record { one_meaning = one_answer (outcome script); unbroken = unbroken script; rejoined = rejoined script; round_trip = round_trip script }
