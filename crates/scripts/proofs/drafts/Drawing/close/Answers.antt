use Rattle.std.proofs.Common.{vec_items}
use Rattle.queues.specs.Slices.{nodes_of}
use Rattle.std.proofs.lemmas.Result.{err_from_is_err_and}
use Rattle.builders.specs.Calls.{close_fault}
use Rattle.scripts.proofs.Stepping.{call_refused, close_done, close_same}
use Rattle.scripts.proofs.drafts.Drawing.close.Goals as goal

pub returns-in_err-close : goal.returns-in_err-close
returns-in_err-close g c =
    let p = err_from_is_err_and c.from_residual.result c.from_residual.ensures.1 in
    let s = c.self.inside in
    let ns = nodes_of s.nodes in
    rw (← c.self.view_is, p.1, p.2)
    (call_refused (close_fault s.draft.builder.depth ns) _ (close_same g.R.RuleType.coded s.draft.builder.depth ns) c.in_err-close.field-0.0 _ c.in_err-close.ensures.fault)

pub returns : goal.returns
returns g c =
    let s = c.self.inside in
    rw (← c.self.view_is)
    (close_done g.R.RuleType.coded (nodes_of s.nodes) g.R.RuleType.CODES s.draft.builder c.close.new.self (vec_items s.draft.text) (vec_items s.draft.labels) c.in_ok-close.ensures.fault c.in_ok-close.ensures.depth c.in_ok-close.ensures.tags)
