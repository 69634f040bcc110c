-- Writing one pair and going on behind it.
use Rattle.std.proofs.Common.{◌≡◌, ℕ, zero, suc, ◌+◌, ◌<◌, ◌≤◌, List, [], ◌∷◌, ◌++◌, map, length, get_or, drop, set, Some, None, Option, sym, refl, ap, ◌∙◌, subst, arith}
use Rattle.std.specs.List.{slice_get}
use Rattle.std.proofs.lemmas.List.{append_assoc, drop_at, drop-drop, drop-map, drop_more, map-append}
use Rattle.std.proofs.lemmas.Option.{get_or_from_slice_get, slice_get_within}
use Rattle.std.proofs.lemmas.Bool.Decides.{nat_tests}
use Rattle.queues.specs.declared.records.Node.{Node}
use Rattle.queues.specs.declared.tokens.Tag.{Tag}
use Rattle.queues.specs.declared.tokens.Token.{Token}
use Rattle.queues.specs.declared.tokens.Token.TheVariants.{Start, End}
use Rattle.queues.specs.Forests.{Forest, none, pair, Row, ends, pairs, tokens, listed, written}
use Rattle.queues.specs.Records.{Carried, row_of, rows, queue, token_of}
use Rattle.queues.specs.Writes.{of_depth, put, Above, Ahead, Ready, Wrote}
use Rattle.queues.proofs.Trees.{above_more}
use Rattle.queues.proofs.Counts.{length-listed, length-queue}
use Rattle.queues.proofs.Putting.{put_none, put_pair}

of_depth_lem : {R : Type 0} (o : Option (Node R)) (d : ℕ) (n : Node R) → Some n ≡ of_depth o d → (o ≡ Some n) × (n.depth ≡ d)
of_depth_lem None d n e = cc
of_depth_lem (Some m) d n e = grind (arith, nat_tests)

of_depth_some : {R : Type 0} (n : Node R) (d : ℕ) → n.depth ≡ d → of_depth (Some n) d ≡ Some n
of_depth_some n d e = grind (arith, nat_tests)

-- what stands first in the rest of a mapped list
map-drop-first : {X Y : Type 0} (f : X → Y) (xs : List X) (i : ℕ) (y : Y) (ys : List Y) → drop i (map f xs) ≡ y ∷ ys → (x : X) × ((slice_get xs i ≡ Some x) × (f x ≡ y))
map-drop-first f [] zero y ys e = cc
map-drop-first f [] (suc i) y ys e = cc
map-drop-first f (x ∷ xs) zero y ys e = (x, (refl, ap (λ l. get_or l 0 y) e))
map-drop-first f (x ∷ xs) (suc i) y ys e = map-drop-first f xs i y ys e

-- a node of depth d ahead of the forest g is its first pair
pub record Opened {R : Type 0} (nodes : List (Node R)) (node d : ℕ) (n : Node R) (g : Forest (Carried R)) (rest : List (Row (Carried R))) : Type 0 where
  pub inner : Forest (Carried R)
  pub after : Forest (Carried R)
  pub is : g ≡ pair n.start n.end (n.rule, n.tag) inner after
  pub nested : Ahead nodes (node + 1) (d + 1) inner (listed d after ++ rest)
  pub next : Ahead nodes (node + 1 + pairs inner) d after rest

pub at_node_lem : {R : Type 0} (nodes : List (Node R)) (node d : ℕ) (n : Node R) → Some n ≡ of_depth (slice_get nodes node) d → (slice_get nodes node ≡ Some n) × (n.depth ≡ d) × (node < length nodes)
at_node_lem nodes node d n e =
    let o = of_depth_lem (slice_get nodes node) d n e in
    (o.0, o.1, slice_get_within nodes node n o.0)

rows_ahead : {R : Type 0} (nodes : List (Node R)) (node : ℕ) (n : Node R) → slice_get nodes node ≡ Some n → drop node (rows nodes) ≡ row_of n ∷ drop (node + 1) (rows nodes)
rows_ahead nodes node n e =
    drop-map row_of node nodes
    ∙ ap (map row_of) (drop_more nodes node n (slice_get_within nodes node n e) ∙ ap (λ m. m ∷ drop (node + 1) nodes) (get_or_from_slice_get nodes node n n e))
    ∙ ap (λ l. row_of n ∷ l) (sym (drop-map row_of (node + 1) nodes))

pub opened : {R : Type 0} (nodes : List (Node R)) (node d : ℕ) (n : Node R) (g : Forest (Carried R)) (rest : List (Row (Carried R))) → Some n ≡ of_depth (slice_get nodes node) d → Ahead nodes node d g rest → Opened nodes node d n g rest
opened nodes node d n none rest e a =
    let o = at_node_lem nodes node d n e in
    let s : rest ≡ row_of n ∷ drop (node + 1) (rows nodes) = sym a.splits ∙ rows_ahead nodes node n o.0 in
    let h : n.depth < d = subst (Above d) s a.ends in
    absurd (omega (arith, o.1))
opened nodes node d n (pair start end x inner after) rest e a =
    let o = at_node_lem nodes node d n e in
    let row : Row (Carried _) = record { start = start; end = end; depth = d; x = x } in
    let s : row_of n ∷ drop (node + 1) (rows nodes) ≡ row ∷ ((listed (d + 1) inner ++ listed d after) ++ rest) = sym (rows_ahead nodes node n o.0) ∙ a.splits in
    let first : row ≡ row_of n = sym (ap (λ l. get_or l 0 row) s) in
    let t : drop (node + 1) (rows nodes) ≡ listed (d + 1) inner ++ (listed d after ++ rest) = ap (drop 1) s ∙ append_assoc (listed (d + 1) inner) (listed d after) rest in
    record {
      inner = inner;
      after = after;
      is = ap (λ r. pair r.start r.end r.x inner after) first;
      nested = record { splits = t; ends = above_more d after rest a.ends };
      next = record {
        splits = sym (drop-drop (pairs inner) (node + 1) (rows nodes)) ∙ ap (drop (pairs inner)) t ∙ drop_at (listed (d + 1) inner) (listed d after ++ rest) (pairs inner) (length-listed (d + 1) inner);
        ends = a.ends;
      };
    }

-- with no such node ahead, the forest is over
pub closed : {R : Type 0} (nodes : List (Node R)) (node d : ℕ) (g : Forest (Carried R)) (rest : List (Row (Carried R))) → None ≡ of_depth (slice_get nodes node) d → Ahead nodes node d g rest → g ≡ none
closed nodes node d none rest e a = refl
closed nodes node d (pair start end x inner after) rest e a =
    let m = map-drop-first row_of nodes node (record { start = start; end = end; depth = d; x = x }) ((listed (d + 1) inner ++ listed d after) ++ rest) a.splits in
    let f : None ≡ Some m.0 = e ∙ ap (λ o. of_depth o d) m.1.0 ∙ of_depth_some m.0 d (ap (λ r. r.depth) m.1.1) in
    cc

-- what is left to write gives the same result as all of it did
pub record Going {R : Type 0} (nodes : List (Node R)) (d node₀ token₀ : ℕ) (out₀ : List (Token R)) (f : Forest (Carried R)) (rest : List (Row (Carried R))) (node token : ℕ) (out : List (Token R)) : Type 0 where
  pub g : Forest (Carried R)
  pub ahead : Ahead nodes node d g rest
  pub same_node : node + pairs g ≡ node₀ + pairs f
  pub same_token : token + tokens g ≡ token₀ + tokens f
  pub same_result : put token (queue (written token g)) out ≡ put token₀ (queue (written token₀ f)) out₀

-- what a turn of the loop keeps: for each forest that lies ahead at the start
abbrev pub Turn : {R : Type 0} (nodes : List (Node R)) (d node₀ token₀ : ℕ) (out₀ : List (Token R)) (node token : ℕ) (out : List (Token R)) → Type 0
Turn {R} nodes d node₀ token₀ out₀ node token out =
    (node₀ ≤ node) × ((f : Forest (Carried R)) (rest : List (Row (Carried R))) → Ahead nodes node₀ d f rest → Going nodes d node₀ token₀ out₀ f rest node token out)

-- a pair is written by its inner forest, its two tokens, and what comes after it
write_one : {R : Type 0} (token j start end : ℕ) (rule : R) (tag : Option Tag) (inner after : Forest (Carried R)) (out mid : List (Token R)) → j ≡ token + 1 + tokens inner → mid ≡ put (token + 1) (queue (written (token + 1) inner)) out → j < length out → put (j + 1) (queue (written (j + 1) after)) (set (set mid token (Start j start)) j (End token end rule tag)) ≡ put token (queue (written token (pair start end (rule, tag) inner after))) out
write_one {R} token j start end rule tag inner after out mid e m h =
    let k : ℕ = token + 1 + tokens inner in
    let a : Token R = Start k start in
    let b : Token R = End token end rule tag in
    let xs : List (Token R) = queue (written (token + 1) inner) in
    let ys : List (Token R) = queue (written (k + 1) after) in
    let n : length xs ≡ tokens inner = length-queue (token + 1) inner in
    let p : k ≡ token + 1 + length xs = omega arith in
    let q : map token_of (written (token + 1) inner ++ ends token end (rule, tag) ∷ written (k + 1) after) ≡ xs ++ b ∷ ys = map-append token_of (written (token + 1) inner) (ends token end (rule, tag) ∷ written (k + 1) after) in
    ap (λ z. put (z + 1) (queue (written (z + 1) after)) (set (set mid token (Start z start)) z b)) e
    ∙ ap (λ z. put (k + 1) ys (set (set z token a) k b)) m
    ∙ ap (λ z. put (z + 1) ys (set (set (put (token + 1) xs out) token a) z b)) p
    ∙ sym (put_pair token a b xs ys out (omega arith))
    ∙ sym (ap (λ l. put token (a ∷ l) out) q)

pub going_on : {R : Type 0} {nodes : List (Node R)} {d node₀ token₀ : ℕ} {out₀ : List (Token R)} {f : Forest (Carried R)} {rest : List (Row (Carried R))} {node token : ℕ} {out : List (Token R)} (n : Node R) (node' j : ℕ) (mid : List (Token R)) (t : Going nodes d node₀ token₀ out₀ f rest node token out) (o : Opened nodes node d n t.g rest) → j < length out → Wrote o.inner (node + 1) (token + 1) node' j out mid
    → Going nodes d node₀ token₀ out₀ f rest node' (j + 1) (set (set mid token (Start j n.start)) j (End token n.end n.rule n.tag))
going_on {nodes = nodes} {d = d} {rest = rest} {node = node} {token = token} {out = out} n node' j mid t o room w =
    let ps : pairs t.g ≡ 1 + pairs o.inner + pairs o.after = ap pairs o.is in
    let ts : tokens t.g ≡ 2 + tokens o.inner + tokens o.after = ap tokens o.is in
    record {
      g = o.after;
      ahead = subst (λ k. Ahead nodes k d o.after rest) (sym w.next_node) o.next;
      same_node = omega (arith, w.next_node, t.same_node);
      same_token = omega (arith, w.next_token, t.same_token);
      same_result = write_one token j n.start n.end n.rule n.tag o.inner o.after out mid w.next_token w.result room ∙ ap (λ z. put token (queue (written token z)) out) (sym o.is) ∙ t.same_result;
    }

pub all_written : {R : Type 0} {nodes : List (Node R)} {d node₀ token₀ : ℕ} {out₀ : List (Token R)} {f : Forest (Carried R)} {rest : List (Row (Carried R))} {node token : ℕ} {out : List (Token R)} → None ≡ of_depth (slice_get nodes node) d → Going nodes d node₀ token₀ out₀ f rest node token out → Wrote f node₀ token₀ node token out₀ out
all_written {nodes = nodes} {d = d} {rest = rest} {node = node} {token = token} {out = out} e t =
    let z : t.g ≡ none = closed nodes node d t.g rest e t.ahead in
    record {
      next_node = omega (arith, ap pairs z, t.same_node);
      next_token = omega (arith, ap tokens z, t.same_token);
      result = sym (put_none token out) ∙ ap (λ g. put token (queue (written token g)) out) (sym z) ∙ t.same_result;
    }

-- what the numbers of a turn are, at a node of depth d
pub record Step {R : Type 0} (nodes : List (Node R)) (node token d room : ℕ) : Type 0 where
  pub inner : Forest (Carried R)
  pub rest : List (Row (Carried R))
  pub nested : Ahead nodes (node + 1) (d + 1) inner rest
  pub fits : token + 1 + tokens inner < room
  pub small : token + 1 + tokens inner < 131072
  pub few : node + 1 + pairs inner ≤ 65536
  pub shallow : d ≤ 255
  pub within : node < length nodes

pub step : {R : Type 0} {nodes : List (Node R)} {d node₀ token₀ room : ℕ} {out₀ : List (Token R)} {node token : ℕ} {out : List (Token R)} {n : Node R} → Ready nodes node₀ token₀ d room → Turn nodes d node₀ token₀ out₀ node token out → Some n ≡ of_depth (slice_get nodes node) d → Step nodes node token d room
step {nodes = nodes} {d = d} {node = node} {token = token} {n = n} p t e =
    let u = t.1 p.f p.rest p.ahead in
    let o = opened nodes node d n u.g p.rest e u.ahead in
    let ps : pairs u.g ≡ 1 + pairs o.inner + pairs o.after = ap pairs o.is in
    let ts : tokens u.g ≡ 2 + tokens o.inner + tokens o.after = ap tokens o.is in
    let h = at_node_lem nodes node d n e in
    record {
      inner = o.inner;
      rest = listed d o.after ++ p.rest;
      nested = o.nested;
      fits = omega (arith, u.same_token, p.fits);
      small = omega (arith, u.same_token, p.small);
      few = omega (arith, u.same_node, p.few);
      shallow = omega (arith, p.deep node n h.0, h.1);
      within = h.2;
    }

-- where the call for the pairs inside leads
pub record Inside {R : Type 0} (nodes : List (Node R)) (node token room node' token' : ℕ) : Type 0 where
  pub within : node < length nodes
  pub onward : node < node'
  pub later : token < token'
  pub fits : token' < room
  pub small : token' < 131072

pub inside : {R : Type 0} {nodes : List (Node R)} {d node₀ token₀ room : ℕ} {out₀ : List (Token R)} {node token : ℕ} {out : List (Token R)} {n : Node R} {node' token' : ℕ} {mid : List (Token R)} → Ready nodes node₀ token₀ d room → Turn nodes d node₀ token₀ out₀ node token out → Some n ≡ of_depth (slice_get nodes node) d → ((f : Forest (Carried R)) (rest : List (Row (Carried R))) → Ahead nodes (node + 1) (d + 1) f rest → Wrote f (node + 1) (token + 1) node' token' out mid) → Inside nodes node token room node' token'
inside p t e call =
    let s = step p t e in
    let w = call s.inner s.rest s.nested in
    record { within = s.within; onward = omega (arith, w.next_node); later = omega (arith, w.next_token); fits = omega (arith, w.next_token, s.fits); small = omega (arith, w.next_token, s.small) }
