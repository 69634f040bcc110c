use Rattle.std.proofs.Common.{vec_items}
use Rattle.scripts.specs.Records.{node_line}
use Rattle.scripts.proofs.Written.{row_more}
use Rattle.scripts.proofs.records.Source.write_nodes.Goals as goal

pub loop-node-preserved : goal.loop-node-preserved
loop-node-preserved g c =
    row_more (node_line c.args.self.now.text.now c.args.self.now.labels.now) g.R.RuleType.coded (vec_items c.args.out.now) (vec_items c.loop-node.out) (vec_items c.write_node.new.out) c.as_slice-node-items.result.now c.loop-node.node-index c.node-item.result c.loop-node-test.true c.node-item.is c.loop-node.invariant c.in_ok-write_node.ensures
