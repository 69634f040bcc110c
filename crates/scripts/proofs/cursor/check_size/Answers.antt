use Rattle.std.proofs.Common.{sym, arith}
use Rattle.std.proofs.lemmas.List.{length-take-le}
use Rattle.scripts.proofs.Rewritten.{script_laws}
use Rattle.scripts.proofs.cursor.check_size.Goals as goal

pub slice_bounds-line_after-end : goal.slice_bounds-line_after-end
slice_bounds-line_after-end c = sym (length-take-le 32768 c.args.script.now (omega (arith, c.if-script-gt-LIMIT.true)))

pub line_after-requires : goal.line_after-requires
line_after-requires c = omega (arith, length-take-le 32768 c.args.script.now (omega (arith, c.if-script-gt-LIMIT.true)))

pub returns-then-script-gt-LIMIT-clause-laws : goal.returns-then-script-gt-LIMIT-clause-laws
returns-then-script-gt-LIMIT-clause-laws c = script_laws c.args.script.now

pub returns-clause-laws : goal.returns-clause-laws
returns-clause-laws c = script_laws c.args.script.now
