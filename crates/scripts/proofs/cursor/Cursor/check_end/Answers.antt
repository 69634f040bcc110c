use Rattle.std.proofs.Common.{◌≡◌, ◌-◌, length, ap, ◌∙◌, Err, arith}
use Rattle.scripts.proofs.Cursors.{followed}
use Rattle.scripts.proofs.cursor.Cursor.check_end.Goals as goal

pub returns : goal.returns
returns c =
    let s = c.args.self.now in
    let some : length s.rest.now ≡ 0 → ⊥ = grind arith in
    ap Err c.refuse.ensures ∙ followed s.line (s.size - length s.rest.now) s.rest.now some
