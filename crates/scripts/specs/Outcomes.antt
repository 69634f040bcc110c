-- What a script comes to, line by line, before it is built.
use Rattle.std.specs.Prelude.{ℕ, ◌+◌, ◌-◌, if◌then◌else◌, List, [], ◌∷◌, length, take, Some, None, Ok, Err, count_by, Option, Result, nat_lt}
use Rattle.std.specs.Option.{option_map_or}
use Rattle.lines.specs.Starts.{line_feed}
use Rattle.scripts.specs.Commands.{Order, ending, line_order}
use Rattle.scripts.specs.Kinds.{kind_codes, kind_of}
use Rattle.scripts.specs.Lines.{lines}
use Rattle.scripts.specs.Steps.{Drawn, drawn, stepped}
use Rattle.scripts.specs.declared.faults.ScriptFault.{ScriptFault}
use Rattle.scripts.specs.declared.faults.ScriptFault.TheVariants.{Other}
use Rattle.scripts.specs.declared.faults.ScriptRefusal.{ScriptRefusal}
use Rattle.scripts.specs.declared.numbers.Misread.{Misread}

-- a script has at most this many bytes
abbrev pub script_limit : ℕ
script_limit = 32768

-- refused for a line that is another or missing, for a number, or for the size
abbrev pub line_refusal : ℕ → ℕ → ScriptRefusal
line_refusal line place = record { line = line; fault = Other place }

-- refused at a line; or shown: what the lines have made and the line of `show`, and how a line after it is refused
pub data Outcome : Type 0 where
  refused : ScriptRefusal → Outcome
  shown : Drawn → ℕ → Option ScriptRefusal → Outcome

-- no line may follow `show`
abbrev pub after_show : ℕ → ℕ → List (List ℕ) → Option ScriptRefusal
after_show line place [] = None
after_show line place (l ∷ ls) = Some (line_refusal line place)

-- what is wrong with a line, or its order
abbrev pub ordered : Result Order Misread → (ℕ → Outcome) → (Order → Outcome) → Outcome
ordered (Err e) other goes = other e.at
ordered (Ok order) other goes = goes order

-- a step that is refused, or what it makes
abbrev pub made : Result Drawn ScriptFault → ℕ → (Drawn → Outcome) → Outcome
made (Err f) line goes = refused (record { line = line; fault = f })
made (Ok d) line goes = goes d

-- the lines from the one with this number on, which begins at this place; the earlier ones made `d`, of rules with this many codes.
-- A missing line would begin at the script's size.
abbrev pub body : (codes size place line : ℕ) → Drawn → List (List ℕ) → Outcome
body codes size place line d [] = refused (line_refusal line size)
body codes size place line d (l ∷ ls) =
    ordered (line_order l)
    (λ at. refused (line_refusal line (place + at)))
    (λ order. if ending order
    then shown d line (after_show (line + 1) (place + length l + 1) ls)
    else made (stepped codes order d) line (λ more. body codes size (place + length l + 1) (line + 1) more ls))

-- nothing is made yet
abbrev pub blank : Drawn
blank = drawn [] [] [] 0 None

-- the first line names the kind
abbrev pub headed : ℕ → List (List ℕ) → Outcome
headed size [] = refused (line_refusal 1 size)
headed size (l ∷ ls) =
    option_map_or (λ kind. body (kind_codes kind) size (length l + 1) 2 blank ls) (kind_of l) (refused (line_refusal 1 0))

-- the same of a script, and of what is left of one of this size
abbrev pub started : List ℕ → Outcome
started script = headed (length script) (lines script)

abbrev pub left : (codes size line : ℕ) → Drawn → (rest : List ℕ) → Outcome
left codes size line d rest = body codes size (size - length rest) line d (lines rest)

abbrev pub shown_before : (size line : ℕ) → Drawn → (after : List ℕ) → Outcome
shown_before size line d after = shown d line (after_show (line + 1) (size - length after) (lines after))

-- the number of the line in which the byte after these stands
abbrev pub line_after : List ℕ → ℕ
line_after bytes = count_by line_feed bytes + 1

-- a script over the limit is refused at the first byte over it
abbrev pub sized : List ℕ → Result (Unit {0}) ScriptRefusal
sized script =
    if nat_lt script_limit (length script)
    then Err (line_refusal (line_after (take script_limit script)) script_limit)
    else Ok tt

abbrev pub unless : Result (Unit {0}) ScriptRefusal → Outcome → Outcome
unless (Ok _) o = o
unless (Err f) o = refused f

-- the size comes before all else
abbrev pub outcome : List ℕ → Outcome
outcome script = unless (sized script) (started script)
