-- What writing a queue from a list of nodes does.
use Rattle.std.specs.Prelude.{◌≡◌, ℕ, ◌+◌, ◌*◌, ◌<◌, ◌≤◌, Bool, not, ◌&&◌, List, [], ◌∷◌, ◌++◌, length, take, drop, is_some, Some, None, Option, ◌==◌, nat_le, if◌then◌else◌}
use Rattle.std.specs.List.{slice_get}
use Rattle.queues.specs.declared.records.Node.{Node}
use Rattle.queues.specs.declared.tokens.Token.{Token}
use Rattle.queues.specs.Forests.{Forest, Row, pairs, tokens, listed, written}
use Rattle.queues.specs.Lawful.{unlawful}
use Rattle.queues.specs.Records.{Carried, depths, rows, queue}

-- a node, if it has this depth
abbrev pub of_depth : {R : Type 0} → Option (Node R) → ℕ → Option (Node R)
of_depth None depth = None
of_depth (Some n) depth = if n.depth == depth then Some n else None

-- these in place of as many from the index i on
abbrev pub put : {A : Type 0} → ℕ → List A → List A → List A
put i xs out = take i out ++ (xs ++ drop (i + length xs) out)

-- the first row is less deep than d, or there is none
abbrev pub Above : {X : Type 0} → ℕ → List (Row X) → Type 0
Above d [] = Unit {0}
Above d (r ∷ rs) = r.depth < d

-- from the index `node` on, the nodes list f at depth d, and then what is less deep
pub record Ahead {R : Type 0} (nodes : List (Node R)) (node d : ℕ) (f : Forest (Carried R)) (rest : List (Row (Carried R))) : Type 0 where
  pub splits : drop node (rows nodes) ≡ listed d f ++ rest
  pub ends : Above d rest

-- there is such a forest, with room for its tokens, and all numbers fit
pub record Ready {R : Type 0} (nodes : List (Node R)) (node token d room : ℕ) : Type 0 where
  pub f : Forest (Carried R)
  pub rest : List (Row (Carried R))
  pub ahead : Ahead nodes node d f rest
  pub fits : token + tokens f ≤ room
  pub few : node + pairs f ≤ 65536
  pub small : token + tokens f ≤ 131072
  pub deep : (k : ℕ) (n : Node R) → slice_get nodes k ≡ Some n → n.depth ≤ 255

-- where writing f from there leads, and what stands there after it
pub record Wrote {R : Type 0} (f : Forest (Carried R)) (node token node' token' : ℕ) (out out' : List (Token R)) : Type 0 where
  pub next_node : node' ≡ node + pairs f
  pub next_token : token' ≡ token + tokens f
  pub result : out' ≡ put token (queue (written token f)) out

-- the nodes list this forest
abbrev pub Lists : {R : Type 0} → List (Node R) → Forest (Carried R) → Type 0
Lists nodes f = listed 0 f ≡ rows nodes

-- they list one forest and no other
pub record One {R : Type 0} (nodes : List (Node R)) : Type 0 where
  pub forest : Forest (Carried R)
  pub lists : Lists nodes forest
  pub only : (f : Forest (Carried R)) → Lists nodes f → f ≡ forest

-- the queue of each forest that the nodes list, of which there is one, stands at the front, and past it all stays
abbrev pub Writes : {R : Type 0} → List (Node R) → (out out' : List (Token R)) → Type 0
Writes {R} nodes out out' = (f : Forest (Carried R)) → Lists nodes f → out' ≡ queue (written 0 f) ++ drop (tokens f) out

-- lawful nodes, not too many, with room for their tokens
abbrev pub writable : {R : Type 0} → List (Node R) → ℕ → Bool
writable nodes room = not (is_some (unlawful (depths nodes))) && (nat_le (length nodes) 65536 && nat_le (2 * length nodes) room)
