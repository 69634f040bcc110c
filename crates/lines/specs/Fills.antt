-- What filling a line table does.
use Rattle.std.specs.Prelude.{◌≡◌, ℕ, ◌<◌, ◌≤◌, if◌then◌else◌, List, ◌++◌, length, drop, Some, None, count_by, OnErr, Option, Result, nat_lt}
use Rattle.std.specs.Option.{option_map, option_or}
use Rattle.std.specs.Result.{result_err}
use Rattle.text.specs.Limits.{limited, text_limit}
use Rattle.text.specs.Refusing.{Answers}
use Rattle.lines.specs.declared.faults.LineFault.{LineFault}
use Rattle.lines.specs.declared.faults.LineFault.TheVariants.{Long, Short}
use Rattle.lines.specs.declared.indexes.LineIndex.{LineIndex}
use Rattle.lines.specs.Noted.{noted}
use Rattle.lines.specs.Starts.{line_feed, starts}

-- the line starts of a table
abbrev pub starts_of : LineIndex → List ℕ
starts_of t = noted t.line_offsets.now t.more

-- the starts of the text at the front of a buffer, past which it stays
abbrev pub over : List ℕ → List ℕ → List ℕ
over text buffer = starts text ++ drop (length (starts text)) buffer

-- a buffer shorter than needed
abbrev pub room_fault : ℕ → ℕ → Option LineFault
room_fault room needed = if nat_lt room needed then Some (Short needed) else None

-- the limit's refusal, else the buffer's
abbrev pub fill_fault : List ℕ → List ℕ → Option LineFault
fill_fault text buffer =
    option_or (option_map Long (result_err (limited text))) (room_fault (length buffer) (length (starts text)))

-- there is room in the table's buffer: the starts after the first, as many as LFs, fit behind it
abbrev pub Roomed : List ℕ → LineIndex → Result ℕ LineFault → Type 0
Roomed text t r =
    Answers
    (fill_fault text t.line_offsets.now)
    (λ later. (length text ≤ text_limit) × ((later ≡ count_by line_feed text) × (later < length t.line_offsets.now)))
    r

-- a table before and later; refused, it stays whole
abbrev pub Filled : List ℕ → LineIndex → LineIndex → Result (Unit {0}) LineFault → Type 0
Filled text before later r =
    Answers
    (fill_fault text before.line_offsets.now)
    (λ _. (starts_of later ≡ starts text) × (later.line_offsets.now ≡ over text before.line_offsets.now))
    r
    × OnErr r (later ≡ before)
