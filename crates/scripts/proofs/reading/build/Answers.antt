use Rattle.std.proofs.Common.{rules, ℕ, Err, ap, ◌∙◌, subst}
use Rattle.queues.specs.Slices.{nodes_of}
use Rattle.std.proofs.lemmas.Result.{err_from_is_err_and, MatchResult-weaker}
use Rattle.builders.specs.Builds.{Judged}
use Rattle.builders.specs.Queues.{fault_of}
use Rattle.scripts.specs.Steps.{coding, drawn}
use Rattle.scripts.proofs.Building.{coding-judged}
use Rattle.scripts.proofs.Settled.{built_at}
use Rattle.scripts.proofs.reading.build.Goals as goal

pub returns : goal.returns
returns g c =
    let b = c.args.builder in
    let text = c.args.source.now.text.now in
    let labels = c.args.source.now.labels.now in
    let nodes = nodes_of c.args.source.now.nodes.now in
    let coded = coding g.R.RuleType.coded nodes in
    let j = coding-judged g.R.RuleType.coded b.depth nodes text labels _ (fault_of c.build.result) c.build.ensures.answer in
    built_at c.args.line (drawn text labels coded b.depth b.to_tag) c.build.result c.map_err.result
    (subst (λ (n : ℕ). Judged b.depth coded text labels n (fault_of c.build.result)) c.requires j)
    (MatchResult-weaker c.build.result c.map_err.ensures.cases (λ x h. h) (λ e h. let p = err_from_is_err_and c.map_err.result h in p.1 ∙ ap Err (search rules)))
