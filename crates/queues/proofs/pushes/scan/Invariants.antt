use Rattle.std.proofs.Common.{◌≡◌, drop}
use Rattle.queues.specs.Lawful.{most_after, unlawful, unlawful_from}
use Rattle.queues.specs.Records.{depths}
use Rattle.queues.proofs.pushes.scan.Given as goal

-- what is left gives the same answer
abbrev pub invariant-loop-i : goal.invariant-loop-i
invariant-loop-i g l = unlawful_from (most_after l.before) l.i (depths (drop l.i l.nodes)) ≡ unlawful (depths l.nodes)
