use Rattle.std.proofs.Common.{codes, arith, rules}
use Rattle.std.proofs.lemmas.Slice.Eq.{text_from_reads}
use Rattle.scripts.proofs.commands.read_bare.Goals as goal

pub returns-in-close : goal.returns-in-close
returns-in-close c = rw (text_from_reads c.args.line.now (codes "close") (omega arith) (search rules))
