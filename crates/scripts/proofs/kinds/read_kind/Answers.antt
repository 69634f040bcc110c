use Rattle.std.proofs.Common.{codes, arith, rules}
use Rattle.std.proofs.lemmas.Slice.Eq.{text_from_reads}
use Rattle.scripts.proofs.kinds.read_kind.Goals as goal

pub returns-in-plant : goal.returns-in-plant
returns-in-plant c = rw (text_from_reads c.args.line.now (codes "plant") (omega arith) (search rules))

pub returns-in-grammar : goal.returns-in-grammar
returns-in-grammar c = rw (text_from_reads c.args.line.now (codes "grammar") (omega arith) (search rules))
