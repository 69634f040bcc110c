-- The lines of a record, one after another.
use Rattle.std.proofs.Common.{◌≡◌, ℕ, ◌+◌, ◌<◌, List, [], ◌∷◌, ◌++◌, length, get_or, take, sym, ap, ◌∙◌}
use Rattle.std.specs.List.{flat_map}
use Rattle.std.proofs.lemmas.List.{flat_map_more, map_push, take_more}
use Rattle.queues.specs.declared.records.Node.{Node}
use Rattle.scripts.specs.Steps.{coded_node, coding}

-- a node's line goes behind those of the nodes before it
pub row_more : {R : Type 0} (F : Node ℕ → List ℕ) (f : R → ℕ) (init out out' : List ℕ) (ns : List (Node R)) (i : ℕ) (n : Node R) → i < length ns → n ≡ get_or ns i n → out ≡ init ++ flat_map F (coding f (take i ns)) → out' ≡ out ++ F (coded_node f n) → out' ≡ init ++ flat_map F (coding f (take (i + 1) ns))
row_more F f init out out' ns i n h is before more =
    let front : take (i + 1) ns ≡ take i ns ++ n ∷ [] = take_more ns i n h ∙ ap (λ m. take i ns ++ m ∷ []) (sym is) in
    more
    ∙ ap (λ l. l ++ F (coded_node f n)) before
    ∙ flat_map_more F init (coding f (take i ns)) (coded_node f n)
    ∙ ap (λ l. init ++ flat_map F l) (sym (ap (coding f) front ∙ map_push (coded_node f) (take i ns) n))
