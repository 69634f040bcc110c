use Rattle.std.proofs.Common.{◌≡◌}
use Rattle.builders.specs.Builds.{tag_fault}
use Rattle.builders.proofs.checks.check_tags.Given as goal

-- what is left gives the same answer
abbrev pub invariant-loop-node : goal.invariant-loop-node
invariant-loop-node g l = tag_fault l.labels l.node-iterator ≡ tag_fault l.labels (g.N.Nodes.list l.nodes)
