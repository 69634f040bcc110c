-- The list that a lent slice means.
use Rattle.std.specs.Prelude.{List, take}
use Rattle.queues.specs.declared.records.Node.{Node}
use Rattle.queues.specs.declared.slices.SliceNodes.{SliceNodes}

-- the nodes at its front
abbrev pub nodes_of : {R : Type 0} → SliceNodes R → List (Node R)
nodes_of s = take s.len s.nodes.now
