use Rattle.std.proofs.Common.{◌-◌, length}
use Rattle.queues.proofs.Writing.{Turn}
use Rattle.queues.proofs.writes.+write_siblings.Given as goal

abbrev pub decreases-write_siblings : goal.decreases-write_siblings
decreases-write_siblings g l = length (g.N.Nodes.list l.nodes.now) - l.from.node

abbrev pub invariant-loop-node : goal.invariant-loop-node
invariant-loop-node g l = Turn (g.N.Nodes.list l.nodes) l.depth l.initial.at.node l.initial.at.token l.initial.out l.at.node l.at.token l.out

abbrev pub decreases-loop-node : goal.decreases-loop-node
decreases-loop-node g l = length (g.N.Nodes.list l.nodes) - l.at.node
