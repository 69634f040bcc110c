use Rattle.std.proofs.Common.{rules, ap, ◌∙◌}
use Rattle.queues.specs.Records.{depths}
use Rattle.builders.specs.Calls.{last_at}
use Rattle.builders.proofs.Lasts.{found}
use Rattle.builders.proofs.closes.last_at.Goals as goal

pub returns : goal.returns
returns g c =
    found _ _ c.args.depth (λ x b q k. search rules) c.iter.result _ c.rposition.result c.rposition.ensures.ran
    ∙ ap (λ ns. last_at c.args.depth (depths ns)) c.iter.ensures.nodes
