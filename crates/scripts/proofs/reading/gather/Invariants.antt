use Rattle.std.proofs.Common.{◌≡◌, length}
use Rattle.scripts.specs.Cursors.{outcome_of}
use Rattle.scripts.proofs.reading.gather.Given as goal

-- what is left of the script gives the same outcome
abbrev pub invariant-loop-line : goal.invariant-loop-line
invariant-loop-line g l = outcome_of g.R.RuleType.CODES l.drawing l.lines ≡ outcome_of g.R.RuleType.CODES l.initial.drawing l.initial.lines

abbrev pub decreases-loop-line : goal.decreases-loop-line
decreases-loop-line g l = length l.lines.rest.now
