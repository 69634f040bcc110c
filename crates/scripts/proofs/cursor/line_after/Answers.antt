use Rattle.std.proofs.Common.{rules, arith, ◌^◌}
use Rattle.std.proofs.lemmas.Iterator.{YieldsList-from_slice}
use Rattle.std.proofs.lemmas.Iterator.Adapters.{fits_from_length, at_most_from_yields_List}
use Rattle.std.proofs.lemmas.List.Sums.{count_by-le-length}
use Rattle.lines.specs.Starts.{line_feed}
use Rattle.scripts.proofs.cursor.line_after.Goals as goal

-- each byte adds 1 at most
pub sum-feeds-requires-clause-fits : goal.sum-feeds-requires-clause-fits
sum-feeds-requires-clause-fits c =
    fits_from_length _ _ (2 ^ 63) (2 ^ 64) (at_most_from_yields_List (YieldsList-from_slice c.args.front.now cc) (omega arith)) c.map.ensures.closure (omega arith) (λ x r q k. search rules)

pub overflow_cast-result : goal.overflow_cast-result
overflow_cast-result c = grind (arith, c.requires, count_by-le-length line_feed c.args.front.now)

pub overflow_add-result : goal.overflow_add-result
overflow_add-result c = grind (arith, c.requires, count_by-le-length line_feed c.args.front.now)
