use Rattle.std.proofs.Common.{sym, ap, refl, ◌∙◌}
use Rattle.queues.specs.Lawful.{unlawful}
use Rattle.queues.proofs.Kept.{kept_depths}
use Rattle.queues.proofs.pushes.SliceNodesNodes.set_tag.Goals as goal

pub invariant_of-self-clause-known : goal.invariant_of-self-clause-known
invariant_of-self-clause-known g c =
    let t = c.args.self.now in
    t.known ∙ sym (ap unlawful (kept_depths t.nodes.now t.len c.args.i c.index-self-i.result _ c.if-i-self.true t.within refl))
