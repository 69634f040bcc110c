-- What making a position answers.
use Rattle.std.specs.Prelude.{◌≡◌, ℕ, List, Result}
use Rattle.text.specs.Refusing.{Answers}
use Rattle.spans.specs.declared.faults.SpanFault.{SpanFault}
use Rattle.spans.specs.Opened.{span_fault}
use Rattle.lines.specs.declared.positions.Position.{Position}

-- p is that offset of the text; its type says that it is a boundary
pub record IsPosition (text : List ℕ) (at : ℕ) (p : Position) : Type 0 where
  pub input : p.input.now ≡ text
  pub pos : p.pos ≡ at

-- refused as the empty span there is
abbrev pub PositionOpened : List ℕ → ℕ → Result Position SpanFault → Type 0
PositionOpened text at r = Answers (span_fault text at at) (IsPosition text at) r
