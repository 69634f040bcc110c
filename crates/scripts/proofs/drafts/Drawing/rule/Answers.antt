use Rattle.std.proofs.Common.{length, leb, Err, vec_items, sym, ap, ◌∙◌}
use Rattle.queues.specs.Slices.{nodes_of}
use Rattle.std.proofs.lemmas.Result.{err_from_is_err_and}
use Rattle.builders.specs.Calls.{append_fault}
use Rattle.scripts.proofs.Stepping.{append_done, append_same, call_done, call_refused, unruled}
use Rattle.scripts.proofs.drafts.Drawing.rule.Goals as goal

pub returns-in_err-check_rule : goal.returns-in_err-check_rule
returns-in_err-check_rule g c =
    let p = err_from_is_err_and c.from_residual-in_err-check_rule.result c.from_residual-in_err-check_rule.ensures.1 in
    let f = g.R.RuleType.coded in
    let s = c.self.inside in
    let ns = nodes_of s.nodes in
    let full = leb (length s.nodes.nodes.now) s.nodes.len in
    rw (← c.self.view_is, p.1, p.2) (call_refused (append_fault full ns) _ (append_same f full ns c.in_ok-check_count.ensures) c.in_err-check_rule.field-0.0 _ c.in_err-check_rule.ensures)

pub returns-in_err-rule : goal.returns-in_err-rule
returns-in_err-rule g c =
    let p = err_from_is_err_and c.from_residual-in_err-rule.result c.from_residual-in_err-rule.ensures.1 in
    let f = g.R.RuleType.coded in
    let s = c.self.inside in
    let ns = nodes_of s.nodes in
    let full = leb (length s.nodes.nodes.now) s.nodes.len in
    rw (← c.self.view_is, p.1, p.2)
    (call_done (append_fault full ns) _ (append_same f full ns c.in_ok-check_count.ensures) _ c.in_ok-check_rule.ensures
    ∙ unruled g.R.RuleType.CODES c.args.pair.code _ c.in_err-rule.ensures.0
    ∙ ap Err (sym c.in_err-rule.ensures.1))

pub returns : goal.returns
returns g c =
    let s = c.self.inside in
    rw (← c.self.view_is)
    (append_done g.R.RuleType.coded (leb (length s.nodes.nodes.now) s.nodes.len) (nodes_of s.nodes) (nodes_of c.rule.new.nodes) c.in_ok-rule.rule g.R.RuleType.CODES c.args.pair s.draft.builder c.rule.new.self (vec_items s.draft.text) (vec_items s.draft.labels) c.in_ok-check_count.ensures c.in_ok-check_rule.ensures c.in_ok-rule.ensures (g.met.R.RuleType.below c.in_ok-rule.rule) c.in_ok-rule-2.ensures.nodes c.in_ok-rule-2.ensures.depth c.in_ok-rule-2.ensures.tags)
