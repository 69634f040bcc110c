-- A build has no part in the codes.
use Rattle.std.proofs.Common.{◌≡◌, ℕ, ◌+◌, ◌*◌, cond, List, [], ◌∷◌, length, Some, Ok, Err, Result, refl, ap, ◌∙◌}
use Rattle.text.specs.declared.faults.TextFault.{TextFault}
use Rattle.text.specs.Refusing.{unless}
use Rattle.spans.specs.Sound.{spanned}
use Rattle.queues.specs.declared.records.Node.{Node}
use Rattle.builders.specs.Builds.{Judged, at_node, judged, node_fault_from, rest_fault, tag_fault, tag_fits, tag_place}
use Rattle.builders.specs.declared.builds.BuildFault.{BuildFault}
use Rattle.builders.specs.declared.builds.BuildFault.TheVariants.{Tag}
use Rattle.scripts.specs.Steps.{coding}
use Rattle.scripts.proofs.Stepping.{coding-depths, coding-length}

tags_same : {R : Type 0} (f : R → ℕ) (labels : ℕ) (ns : List (Node R)) → tag_fault labels (coding f ns) ≡ tag_fault labels ns
tags_same f labels [] = refl
tags_same f labels (n ∷ ns) = ap (λ o. cond (tag_fits labels n.tag) o (Some (Tag (tag_place n.tag)))) (tags_same f labels ns)

spans_same : {R : Type 0} (f : R → ℕ) (text : List ℕ) (i : ℕ) (ns : List (Node R)) → node_fault_from text i (coding f ns) ≡ node_fault_from text i ns
spans_same f text i [] = refl
spans_same f text i (n ∷ ns) = ap (λ o. at_node i (spanned text n.start n.end) o) (spans_same f text (i + 1) ns)

rest_same : {R : Type 0} (f : R → ℕ) (depth : ℕ) (ns : List (Node R)) (text labels : List ℕ) (room : ℕ) → rest_fault depth (coding f ns) text labels room ≡ rest_fault depth ns text labels room
rest_same f depth ns text labels room = rw (tags_same f (length labels) ns, spans_same f text 0 ns, coding-depths f ns, coding-length f ns)

judged_same : {R : Type 0} (f : R → ℕ) (v : Result (Unit {0}) TextFault) (depth : ℕ) (ns : List (Node R)) (text labels : List ℕ) (room : ℕ) → judged v depth (coding f ns) text labels room ≡ judged v depth ns text labels room
judged_same f (Err e) depth ns text labels room = refl
judged_same f (Ok x) depth ns text labels room = ap (λ o. unless o (2 * length (coding f ns))) (rest_same f depth ns text labels room) ∙ ap (λ k. unless (rest_fault depth ns text labels room) (2 * k)) (coding-length f ns)

pub coding-judged : {R : Type 0} (f : R → ℕ) (depth : ℕ) (ns : List (Node R)) (text labels : List ℕ) (room : ℕ) (r : Result ℕ BuildFault) → Judged depth ns text labels room r → Judged depth (coding f ns) text labels room r
coding-judged f depth ns text labels room r j = (j.0, (j.1.0, rw (judged_same f j.0 depth ns text labels room) j.1.1))
