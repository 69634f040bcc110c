-- The bytes of a record.
use Rattle.std.specs.Prelude.{ℕ, List, [], ◌∷◌, ◌++◌, length, take, drop, Some, None, decimal, Option}
use Rattle.std.specs.List.{flat_map}
use Rattle.std.specs.Option.{option_map_or}
use Rattle.spans.specs.Opened.{span_fault}
use Rattle.lines.specs.LineCols.{line_col}
use Rattle.queues.specs.declared.records.Node.{Node}
use Rattle.queues.specs.declared.tokens.Tag.{Tag}
use Rattle.scripts.specs.declared.records.Row.{Row}
use Rattle.scripts.specs.declared.records.Tally.{Tally}

-- how many pairs and tokens there are
abbrev pub tally_line : Tally → List ℕ
tally_line t = decimal t.pairs ++ (32 ∷ (decimal t.tokens ++ (10 ∷ [])))

-- six numbers, a space after each
abbrev pub row_start : Row → List ℕ
row_start r = decimal r.depth ++ (32 ∷ (decimal r.code ++ (32 ∷ (decimal r.start ++ (32 ∷ (decimal r.end ++ (32 ∷ (decimal r.line ++ (32 ∷ (decimal r.column ++ (32 ∷ [])))))))))))

-- the line and the column; 0 and 0 where no character begins, which no sound span has for its start
abbrev pub place_of : List ℕ → ℕ → ℕ × ℕ
place_of text at = option_map_or (λ _. (0, 0)) (span_fault text at at) (line_col text at)

abbrev pub row_of : List ℕ → Node ℕ → Row
row_of text n = record { depth = n.depth; code = n.rule; start = n.start; end = n.end; line = (place_of text n.start).0; column = (place_of text n.start).1 }

-- `-` for no tag, else `=` and the tag; and LF
abbrev pub tag_bytes : List ℕ → Option Tag → List ℕ
tag_bytes labels None = 45 ∷ 10 ∷ []
tag_bytes labels (Some t) = 61 ∷ (take t.length (drop t.place labels) ++ (10 ∷ []))

abbrev pub node_line : (text labels : List ℕ) → Node ℕ → List ℕ
node_line text labels n = row_start (row_of text n) ++ tag_bytes labels n.tag

abbrev pub node_lines : (text labels : List ℕ) → List (Node ℕ) → List ℕ
node_lines text labels nodes = flat_map (node_line text labels) nodes

abbrev pub record_of : (text labels : List ℕ) → List (Node ℕ) → ℕ → List ℕ
record_of text labels nodes tokens = tally_line (record { pairs = length nodes; tokens = tokens }) ++ node_lines text labels nodes
