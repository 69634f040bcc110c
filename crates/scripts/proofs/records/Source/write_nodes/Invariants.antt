use Rattle.std.proofs.Common.{◌≡◌, ◌++◌, take, vec_items}
use Rattle.scripts.specs.Records.{node_lines}
use Rattle.scripts.specs.Steps.{coding}
use Rattle.scripts.proofs.records.Source.write_nodes.Given as goal

-- the lines of the nodes passed are written
abbrev pub invariant-loop-node : goal.invariant-loop-node
invariant-loop-node g l =
    vec_items l.out
    ≡ vec_items l.initial.out
    ++ node_lines l.self.text.now l.self.labels.now (coding g.R.RuleType.coded (take l.node-index l.node-items))
