use Rattle.std.proofs.Common.{length}
use Rattle.text.specs.Splits.{Skipped}
use Rattle.text.proofs.ascii.after_bytes.Given as goal

abbrev pub invariant-loop-rest : goal.invariant-loop-rest
invariant-loop-rest l = Skipped l.text l.rest

abbrev pub decreases-loop-rest : goal.decreases-loop-rest
decreases-loop-rest l = length l.rest
