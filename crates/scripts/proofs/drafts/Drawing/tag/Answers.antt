use Rattle.std.proofs.Common.{◌≡◌, length, vec_items, ◌∙◌}
use Rattle.queues.specs.Slices.{nodes_of}
use Rattle.std.proofs.lemmas.Result.{err_from_is_err_and}
use Rattle.queues.specs.declared.tokens.Tag.{Tag}
use Rattle.builders.specs.Calls.{tag_fault}
use Rattle.scripts.proofs.Stepping.{call_refused, tag_done, tag_same}
use Rattle.scripts.proofs.drafts.Drawing.tag.Goals as goal

pub returns-in_err-tag : goal.returns-in_err-tag
returns-in_err-tag g c =
    let p = err_from_is_err_and c.from_residual-in_err-tag.result c.from_residual-in_err-tag.ensures.1 in
    let s = c.self.inside in
    let ns = nodes_of s.nodes in
    let place = c.in_ok-small.ensures ∙ c.len.ensures ∙ s.draft.labels.ok.0 in
    let t : Tag = record { place = length (vec_items s.draft.labels); length = length c.args.bytes.now } in
    let e = c.in_err-tag.ensures.fault in
    rw (← c.self.view_is, p.1, p.2)
    (call_refused (tag_fault s.draft.builder.to_tag t ns) _ (tag_same g.R.RuleType.coded s.draft.builder.to_tag t ns) c.in_err-tag.field-0.0 _ (rw (place, c.in_ok-small-2.ensures) at e))

pub returns : goal.returns
returns g c =
    let s = c.self.inside in
    let place = c.in_ok-small.ensures ∙ c.len.ensures ∙ s.draft.labels.ok.0 in
    let t : Tag = record { place = c.in_ok-small.field-0; length = c.in_ok-small-2.field-0 } in
    let is : t ≡ record { place = length (vec_items s.draft.labels); length = length c.args.bytes.now } = rw (place, c.in_ok-small-2.ensures) in
    rw (← c.self.view_is)
    (tag_done g.R.RuleType.coded (nodes_of s.nodes) (nodes_of c.tag.new.nodes) g.R.RuleType.CODES s.draft.builder.depth s.draft.builder.to_tag t (vec_items s.draft.text) (vec_items s.draft.labels) (vec_items c.extend_from_slice.new.self) c.args.bytes.now is c.in_ok-extend_from_slice.ensures.items c.in_ok-tag.ensures.fault c.in_ok-tag.ensures.nodes)
