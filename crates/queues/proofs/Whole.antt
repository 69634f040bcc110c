-- Writing all that lawful nodes list.
use Rattle.std.proofs.Common.{◌≡◌, ℕ, ◌+◌, ◌*◌, ◌<◌, ◌≤◌, List, [], ◌++◌, map, length, get_or, drop, Some, None, sym, ap, ◌∙◌, arith}
use Rattle.std.specs.List.{slice_get}
use Rattle.std.proofs.lemmas.List.{append-nil, get_or-map, length-map}
use Rattle.std.proofs.lemmas.Simd.{map-map}
use Rattle.std.proofs.lemmas.Option.{get_or_from_slice_get, slice_get_within}
use Rattle.queues.specs.declared.records.Node.{Node}
use Rattle.queues.specs.declared.tokens.Token.{Token}
use Rattle.queues.specs.Forests.{Forest, pairs, tokens, listed, written}
use Rattle.queues.specs.Lawful.{unlawful}
use Rattle.queues.specs.Records.{Carried, row_of, rows, depths, queue}
use Rattle.queues.specs.Writes.{Ahead, Ready, Wrote, Lists, One}
use Rattle.queues.proofs.Counts.{length-listed, length-queue, two_each}
use Rattle.queues.proofs.Depths.{unlawful_none}
use Rattle.queues.proofs.Trees.{listed_same, forest_listed}

pub depths-rows : {R : Type 0} (nodes : List (Node R)) → depths nodes ≡ map (λ r. r.depth) (rows nodes)
depths-rows nodes = sym (map-map (λ r. r.depth) row_of nodes)

pub one_forest : {R : Type 0} (nodes : List (Node R)) → unlawful (depths nodes) ≡ None → One nodes
one_forest nodes e =
    let f = forest_listed (rows nodes) (ap unlawful (sym (depths-rows nodes)) ∙ e) in
    record { forest = f.0; lists = f.1; only = λ g h. listed_same 0 g f.0 (h ∙ sym f.1) }

pub ahead_all : {R : Type 0} (nodes : List (Node R)) (f : Forest (Carried R)) → Lists nodes f → Ahead nodes 0 0 f []
ahead_all nodes f e = record { splits = sym e ∙ sym (append-nil (listed 0 f)); ends = tt }

depth_small : {R : Type 0} (nodes : List (Node R)) → unlawful (depths nodes) ≡ None → (k : ℕ) (n : Node R) → slice_get nodes k ≡ Some n → n.depth ≤ 255
depth_small nodes e k n h =
    let l : k < length nodes = slice_get_within nodes k n h in
    let d : get_or (depths nodes) k 0 ≡ n.depth = get_or-map (λ n. n.depth) nodes k n 0 l ∙ ap (λ z. z.depth) (get_or_from_slice_get nodes k n n h) in
    omega (arith, ((unlawful_none (depths nodes)).0 e).deep k (omega (arith, length-map nodes (λ n. n.depth))))

pub ready_all : {R : Type 0} (nodes : List (Node R)) (room : ℕ) → unlawful (depths nodes) ≡ None → length nodes ≤ 65536 → 2 * length nodes ≤ room → Ready nodes 0 0 0 room
ready_all nodes room e few h =
    let o = one_forest nodes e in
    let p : pairs o.forest ≡ length nodes = sym (length-listed 0 o.forest) ∙ ap length o.lists ∙ length-map nodes row_of in
    let t : tokens o.forest ≡ 2 * pairs o.forest = two_each o.forest in
    record {
      f = o.forest;
      rest = [];
      ahead = ahead_all nodes o.forest o.lists;
      fits = omega arith;
      few = omega arith;
      small = omega arith;
      deep = depth_small nodes e;
    }

pub wrote_all : {R : Type 0} {f : Forest (Carried R)} {node token : ℕ} {out out' : List (Token R)} → Wrote f 0 0 node token out out' → out' ≡ queue (written 0 f) ++ drop (tokens f) out
wrote_all {f = f} {out = out} w =
    let e : 0 + length (queue (written 0 f)) ≡ tokens f = omega (arith, length-queue 0 f) in
    w.result ∙ ap (λ k. queue (written 0 f) ++ drop k out) e
