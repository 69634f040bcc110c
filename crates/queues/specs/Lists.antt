-- Lists of nodes after a change.
use Rattle.std.specs.Prelude.{ℕ, zero, suc, List, [], ◌∷◌, None, Some, Option}
use Rattle.queues.specs.declared.records.Node.{Node}
use Rattle.queues.specs.declared.tokens.Tag.{Tag}

-- a node with another tag
abbrev pub with_tag : {R : Type 0} → Node R → Tag → Node R
with_tag n t = record n { tag = Some t }

-- the node at i has the tag t, if there is one, and the others stay
abbrev pub retagged : {R : Type 0} → List (Node R) → ℕ → Tag → List (Node R)
retagged [] i t = []
retagged (n ∷ ns) zero t = with_tag n t ∷ ns
retagged (n ∷ ns) (suc i) t = n ∷ retagged ns i t

-- the node at the index has the tag t, where there is an index
abbrev pub tagged_at : {R : Type 0} → Option ℕ → Tag → List (Node R) → List (Node R)
tagged_at None t nodes = nodes
tagged_at (Some i) t nodes = retagged nodes i t
