-- The lines of a script: each is ended by LF (10), and the last one's LF may be missing.
use Rattle.std.specs.Prelude.{if◌then◌else◌, ℕ, List, [], ◌∷◌, Some, None, Option, ◌==◌}
use Rattle.std.specs.List.{onto_first}
use Rattle.std.specs.Borrow.{Bor}
use Rattle.scripts.specs.Parts.{up_to, behind}

abbrev pub lines : List ℕ → List (List ℕ)
lines [] = []
lines (b ∷ bs) = if b == 10 then [] ∷ lines bs else onto_first b (lines bs)

-- the first line, and the script after it
abbrev pub first_line : List ℕ → Option (List ℕ × List ℕ)
first_line [] = None
first_line (b ∷ bs) = Some (up_to 10 (b ∷ bs), behind 10 (b ∷ bs))

abbrev pub cut : Bor (List ℕ) × Bor (List ℕ) → List ℕ × List ℕ
cut p = (p.0.now, p.1.now)
