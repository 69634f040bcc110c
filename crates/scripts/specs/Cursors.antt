-- What is left of a script, and taking a line off it.
use Rattle.std.specs.Prelude.{◌≡◌, ℕ, ◌+◌, ◌-◌, length, Some, None, Option, Result}
use Rattle.std.specs.Result.{result_map_both}
use Rattle.scripts.specs.Commands.{Order, line_order}
use Rattle.scripts.specs.declared.faults.ScriptRefusal.{ScriptRefusal}
use Rattle.scripts.specs.Lines.{first_line}
use Rattle.scripts.specs.Outcomes.{Outcome, left, line_refusal, shown_before}
use Rattle.scripts.specs.Steps.{Drawn}
use Rattle.scripts.specs.declared.cursor.Cursor.{Cursor}
use Rattle.scripts.specs.declared.cursor.Line.{Line}

-- what is wrong with a line, or its order
abbrev pub order_at : Line → Result Order ScriptRefusal
order_at l = result_map_both (λ o. o) (λ e. line_refusal l.number (l.place + e.at)) (line_order l.bytes.now)

-- the line that is taken, and what is left after it
pub record IsNext (before after : Cursor) (l : Line) : Type 0 where
  pub first : Some (l.bytes.now, after.rest.now) ≡ first_line before.rest.now
  pub number : l.number ≡ before.line
  pub place : l.place ≡ before.size - length before.rest.now
  pub line : after.line ≡ before.line + 1
  pub size : after.size ≡ before.size

-- a line, or none where nothing is left
abbrev pub Takes : Cursor → Cursor → Option Line → Type 0
Takes before after None = (first_line before.rest.now ≡ None) × (after ≡ before)
Takes before after (Some l) = IsNext before after l

-- what the lines left come to, after those that made `d`, of rules with this many codes
abbrev pub outcome_of : (codes : ℕ) → Drawn → Cursor → Outcome
outcome_of codes d c = left codes c.size c.line d c.rest.now

-- what the lines made up to `show`, with this number, comes to before those left
abbrev pub shown_of : (number : ℕ) → Drawn → Cursor → Outcome
shown_of number d c = shown_before c.size number d c.rest.now
