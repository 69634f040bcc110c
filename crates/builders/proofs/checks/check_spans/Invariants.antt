use Rattle.std.proofs.Common.{◌≡◌, ◌+◌, length}
use Rattle.builders.specs.Builds.{node_fault_from}
use Rattle.builders.proofs.checks.check_spans.Given as goal

-- what is left gives the same answer
abbrev pub invariant-loop-i : goal.invariant-loop-i
invariant-loop-i g l =
    let nodes = g.N.Nodes.list l.nodes in
    (l.i-counter + length l.node-iterator ≡ length nodes)
    × (node_fault_from l.text l.i-counter l.node-iterator ≡ node_fault_from l.text 0 nodes)
