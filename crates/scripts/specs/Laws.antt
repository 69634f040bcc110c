-- What holds of every script beside what it means.
use Rattle.std.specs.Prelude.{◌≡◌, ℕ, ◌+◌, ◌≤◌, false, if◌then◌else◌, List, [], ◌∷◌, ◌++◌, length, None, codes, Result, ◌==◌}
use Rattle.std.specs.List.{flat_map, All}
use Rattle.builders.specs.declared.builds.BuildFault.{BuildFault}
use Rattle.scripts.specs.Kinds.{kind_name}
use Rattle.scripts.specs.Lines.{lines}
use Rattle.scripts.specs.Outcomes.{script_limit}
use Rattle.scripts.specs.Reading.{Built, Means, judged}
use Rattle.scripts.specs.Steps.{Drawn, drawn}
use Rattle.scripts.specs.declared.faults.ScriptRefusal.{ScriptRefusal}
use Rattle.scripts.specs.declared.kinds.Kind.{Kind}

-- no LF
abbrev pub Unbroken : List ℕ → Type 0
Unbroken l = All (λ b. (b == 10) ≡ false) l

abbrev pub with_lf : List ℕ → List ℕ
with_lf l = l ++ 10 ∷ []

-- the script with the LF that its last line may lack
abbrev pub completed : List ℕ → List ℕ
completed [] = []
completed (b ∷ []) = b ∷ (if b == 10 then [] else 10 ∷ [])
completed (b ∷ d ∷ bs) = b ∷ completed (d ∷ bs)

-- what the lines between the first and `show` say
pub data Piece : Type 0 where
  bytes : List ℕ → Piece
  newline : Piece

abbrev pub piece_line : Piece → List ℕ
piece_line (bytes bs) = codes "text " ++ bs
piece_line newline = codes "next"

abbrev pub piece_text : Piece → List ℕ
piece_text (bytes bs) = bs
piece_text newline = 10 ∷ []

-- the script of a kind and some pieces
abbrev pub written : Kind → List Piece → List ℕ
written k ps = with_lf (kind_name k) ++ (flat_map (λ p. with_lf (piece_line p)) ps ++ with_lf (codes "show"))

-- a text, and no pairs
abbrev pub text_of : List Piece → Drawn
text_of ps = drawn (flat_map piece_text ps) [] [] 0 None

pub record ScriptLaws (script : List ℕ) : Type 0 where
  -- no other answer would do
  pub one_meaning : (a b : Result (List ℕ) ScriptRefusal) → Means script a → Means script b → a ≡ b
  -- the lines have no LF, and with one each they are the script again
  pub unbroken : All Unbroken (lines script)
  pub rejoined : flat_map with_lf (lines script) ≡ completed script
  -- a script that is written out of lines shows its pieces' bytes with no pairs, as the build at its last line finds them
  pub round_trip : (k : Kind) (ps : List Piece) → script ≡ written k ps → All (λ p. Unbroken (piece_line p)) ps → length script ≤ script_limit → (built : Result ℕ BuildFault) → Built (text_of ps) built → Means script (judged (text_of ps) (length ps + 2) None built)
