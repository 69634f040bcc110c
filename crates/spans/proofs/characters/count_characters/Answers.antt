use Rattle.std.proofs.Common.{rules, arith, ◌^◌}
use Rattle.std.proofs.lemmas.Iterator.{YieldsList-from_slice}
use Rattle.std.proofs.lemmas.Iterator.Adapters.{fits_from_length, at_most_from_yields_List}
use Rattle.std.proofs.lemmas.List.Sums.{count_by-le-length}
use Rattle.text.specs.Characters.{begins}
use Rattle.spans.proofs.characters.count_characters.Goals as goal

-- each byte adds 1 at most
pub sum-requires-clause-fits : goal.sum-requires-clause-fits
sum-requires-clause-fits c =
    fits_from_length _ _ (2 ^ 63) (2 ^ 64) (at_most_from_yields_List (YieldsList-from_slice c.args.bytes.now cc) (omega arith)) c.map.ensures.closure (omega arith) (λ x r q k. search rules)

pub returns-clause-bound : goal.returns-clause-bound
returns-clause-bound c = grind (arith, count_by-le-length begins c.args.bytes.now)
