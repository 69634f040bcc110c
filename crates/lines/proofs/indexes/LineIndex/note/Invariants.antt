use Rattle.std.proofs.Common.{◌≡◌}
use Rattle.lines.proofs.Noting.{Noted}
use Rattle.lines.proofs.indexes.LineIndex.note.Given as goal

-- the starts of the bytes passed are noted, in the same buffer, and the table is 0 alone as yet
abbrev pub invariant-loop-i : goal.invariant-loop-i
invariant-loop-i l =
    Noted l.text l.i l.n l.initial.self.line_offsets.now l.self.line_offsets.now
    × ((l.self.more ≡ 0) × (l.self.line_offsets.ghost_name ≡ l.initial.self.line_offsets.ghost_name))
