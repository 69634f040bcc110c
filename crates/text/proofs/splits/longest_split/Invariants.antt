use Rattle.std.proofs.Common.{ℕ, ◌+◌, ◌-◌, ◌≤◌, length}
use Rattle.text.specs.Splits.{Longest}
use Rattle.text.proofs.splits.longest_split.Given as goal

-- the longest split of what is left, after what was passed, is the text's
abbrev pub invariant-loop-more : goal.invariant-loop-more
invariant-loop-more l = (length l.rest ≤ length l.text) × ((n : ℕ) → Longest l.rest n → Longest l.text (length l.text - length l.rest + n))

abbrev pub decreases-loop-more : goal.decreases-loop-more
decreases-loop-more l = length l.rest
