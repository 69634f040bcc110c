use Rattle.std.proofs.Common.{◌≡◌, ◌-◌, ◌<◌, length, take, rules, arith, ◌∙◌}
use Rattle.std.specs.List.{slice_get}
use Rattle.std.specs.Option.{option_map}
use Rattle.std.proofs.lemmas.Grind.{common_steps}
use Rattle.queues.proofs.Kept.{push_fault}
use Rattle.queues.proofs.pushes.SliceNodesNodes.push.Goals as goal

pub invariant_of-self-clause-known : goal.invariant_of-self-clause-known
invariant_of-self-clause-known g c =
    let t = c.args.self.now in
    let ns = take t.len t.nodes.now in
    let room : t.len < length t.nodes.now = grind (arith, common_steps) in
    let before : c.map-before.result ≡ option_map (λ n. n.depth) (slice_get ns (length ns - 1)) = search rules in
    c.first_fault-fault.ensures ∙ push_fault t.nodes.now t.len c.args.last.now c.map-before.result t.fault room before t.known
