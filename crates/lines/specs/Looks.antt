-- What asking for a line and a column answers.
use Rattle.std.specs.Prelude.{ℕ, List, Result}
use Rattle.text.specs.Refusing.{unless}
use Rattle.spans.specs.declared.faults.SpanFault.{SpanFault}
use Rattle.spans.specs.Opened.{span_fault}
use Rattle.lines.specs.LineCols.{line_col, line_col_by}

-- by a table's starts, whatever text they are of
abbrev pub looked_up : List ℕ → List ℕ → ℕ → Result (ℕ × ℕ) SpanFault
looked_up ss text at = unless (span_fault text at at) (line_col_by ss text at)

-- by a position of the text: the same refusal, and the position's own line and column
abbrev pub read_at : List ℕ → ℕ → Result (ℕ × ℕ) SpanFault
read_at text at = unless (span_fault text at at) (line_col text at)
