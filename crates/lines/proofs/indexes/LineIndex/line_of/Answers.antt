use Rattle.std.proofs.Common.{◌≡◌, ◌+◌, ◌-◌, ◌∷◌, leb, length, sym, ap, ◌∙◌, subst, arith, rules}
use Rattle.std.specs.List.Sorted.{IsStrictlyIncreasing}
use Rattle.std.proofs.lemmas.List.Sorted.{IsPartitionPoint-from_clause, IsPartitionedBy-leb}
use Rattle.lines.specs.Fills.{starts_of}
use Rattle.lines.specs.LineCols.{upto}
use Rattle.lines.proofs.Search.{Splits, front_below, length-noted, never_fall, upto_split}
use Rattle.lines.proofs.indexes.LineIndex.line_of.Goals as goal

pub returns : goal.returns
returns c =
    let t = c.args.self.now in
    let at = c.args.pos in
    let later = c.later.result.now in
    let n = c.partition_point.result in
    let is : starts_of t ≡ 0 ∷ later = ap (λ ys. 0 ∷ ys) (sym c.later.ensures) in
    let rises : IsStrictlyIncreasing (0 ∷ later) = subst IsStrictlyIncreasing is t.rises in
    let parted = IsPartitionedBy-leb (λ x. x) later at (never_fall later rises) in
    let point : Splits at later n = IsPartitionPoint-from_clause (λ x. leb x at) _ _ c.partition_point.ensures.partitioned parted (λ a r q k. search rules) in
    record {
      count = sym (ap (upto at) is ∙ upto_split at later n c.partition_point.ensures.bound point);
      some = omega arith;
      within = omega (arith, c.partition_point.ensures.bound, ap length is, length-noted t.line_offsets.now t.more t.fits);
      last = rw is (front_below at later n point (1 + n - 1) (omega arith));
    }
