-- What the code's nodes and tokens are in a listing and in a queue.
use Rattle.std.specs.Prelude.{ℕ, List, map, Option}
use Rattle.queues.specs.declared.records.Node.{Node}
use Rattle.queues.specs.declared.tokens.Tag.{Tag}
use Rattle.queues.specs.declared.tokens.Token.{Token}
use Rattle.queues.specs.declared.tokens.Token.TheVariants.{Start, End}
use Rattle.queues.specs.Forests.{Row, Mark, starts, ends}

-- a pair carries its rule, and a tag or none
abbrev pub Carried : Type 0 → Type 0
Carried R = R × Option Tag

abbrev pub row_of : {R : Type 0} → Node R → Row (Carried R)
row_of n = record { start = n.start; end = n.end; depth = n.depth; x = (n.rule, n.tag) }

abbrev pub rows : {R : Type 0} → List (Node R) → List (Row (Carried R))
rows nodes = map row_of nodes

abbrev pub depths : {R : Type 0} → List (Node R) → List ℕ
depths nodes = map (λ n. n.depth) nodes

abbrev pub token_of : {R : Type 0} → Mark (Carried R) → Token R
token_of (starts link position) = Start link position
token_of (ends link position x) = End link position x.0 x.1

abbrev pub queue : {R : Type 0} → List (Mark (Carried R)) → List (Token R)
queue marks = map token_of marks
