-- From what the checks say to what the build answers, and the laws of builds.
use Rattle.std.proofs.Common.{◌≡◌, ℕ, ◌*◌, ◌<◌, ◌≤◌, List, [], ◌∷◌, map, length, get_or, Result, sym, refl, ap, ◌∙◌, subst, arith}
use Rattle.std.proofs.lemmas.List.{length-map}
use Rattle.text.proofs.Lawful.{one_verdict}
use Rattle.queues.specs.declared.records.Node.{Node}
use Rattle.queues.specs.Forests.{Forest, Row, listed, tokens}
use Rattle.queues.specs.Lawful.{Lawful}
use Rattle.queues.specs.Records.{Carried, depths, row_of, rows}
use Rattle.queues.specs.Writes.{Lists}
use Rattle.queues.proofs.Counts.{length-listed, two_each}
use Rattle.queues.proofs.Depths.{listed_lawful}
use Rattle.queues.proofs.Linking.{linked}
use Rattle.queues.proofs.Trees.{lawful_forest}
use Rattle.queues.proofs.Whole.{depths-rows}
use Rattle.builders.specs.declared.builds.BuildFault.{BuildFault}
use Rattle.builders.specs.Builds.{Judged, judged}
use Rattle.builders.specs.Laws.{BuildLaws}

-- a build has one answer
one_answer : {R : Type 0} (depth : ℕ) (nodes : List (Node R)) (text labels : List ℕ) (room : ℕ) (a b : Result ℕ BuildFault) → Judged depth nodes text labels room a → Judged depth nodes text labels room b → a ≡ b
one_answer depth nodes text labels room a b (v, (t, e)) (w, (u, d)) = e ∙ ap (λ z. judged z depth nodes text labels room) (one_verdict text v w t u) ∙ sym d

-- a list has as many pairs as nodes
pub two_tokens : {R : Type 0} (nodes : List (Node R)) (f : Forest (Carried R)) → Lists nodes f → 2 * length nodes ≡ tokens f
two_tokens nodes f l = omega (arith, two_each f, length-listed 0 f, ap length l, length-map nodes row_of)

-- a row tells its node
back : {R : Type 0} → Row (Carried R) → Node R
back r = record { rule = r.x.0; start = r.start; end = r.end; depth = r.depth; tag = r.x.1 }

back_rows : {R : Type 0} (nodes : List (Node R)) → map back (rows nodes) ≡ nodes
unfolding back
back_rows [] = refl
back_rows (n ∷ ns) = ap (λ ms. n ∷ ms) (back_rows ns)

pub build_laws : (R : Type 0) → BuildLaws R
build_laws R =
    record {
      lawful = λ nodes l. lawful_forest (rows nodes) (subst Lawful (depths-rows nodes) l);
      listed = λ nodes f l deep.
          let e : map (λ r. r.depth) (listed 0 f) ≡ depths nodes = ap (map (λ r. r.depth)) l ∙ sym (depths-rows nodes) in
          subst Lawful e (listed_lawful f (subst (λ ds. (k : ℕ) → k < length ds → get_or ds k 0 ≤ 255) (sym e) deep));
      same_list = λ ms ns f l m. sym (back_rows ms) ∙ ap (map back) (sym l ∙ m) ∙ back_rows ns;
      linked = linked;
      two_each = two_each;
      one_answer = one_answer;
    }
