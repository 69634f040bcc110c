-- What each call of a builder refuses, and what it does to the list.
use Rattle.std.specs.Prelude.{ℕ, ◌+◌, ◌-◌, Bool, ◌||◌, List, [], ◌∷◌, ◌++◌, length, Some, None, Option, is_some, ◌==◌, nat_le, nat_lt, if◌then◌else◌}
use Rattle.std.specs.Option.{option_map, option_or}
use Rattle.queues.specs.declared.records.Node.{Node}
use Rattle.queues.specs.Lawful.{unlawful}
use Rattle.queues.specs.declared.tokens.Tag.{Tag}
use Rattle.queues.specs.Records.{depths}
use Rattle.builders.specs.declared.faults.BuilderFault.{BuilderFault}
use Rattle.builders.specs.declared.faults.BuilderFault.TheVariants.{Full, Deep, Outermost, Untagged, LongTag, Unlawful, Missing}

abbrev pub unlawful_fault : {R : Type 0} → List (Node R) → Option BuilderFault
unlawful_fault nodes = option_map Unlawful (unlawful (depths nodes))

-- no node can be added: the list takes none, or has 65,536
abbrev pub full_fault : {R : Type 0} → Bool → List (Node R) → Option BuilderFault
full_fault full nodes = if full || nat_le 65536 (length nodes) then Some (Full (length nodes)) else None

abbrev pub append_fault : {R : Type 0} → Bool → List (Node R) → Option BuilderFault
append_fault full nodes = option_or (full_fault full nodes) (unlawful_fault nodes)

abbrev pub open_fault : {R : Type 0} → Bool → ℕ → List (Node R) → Option BuilderFault
open_fault full depth nodes =
    option_or (full_fault full nodes)
    (option_or (if depth == 255 then Some (Deep depth) else None) (unlawful_fault nodes))

-- the list with a pair more, untagged
abbrev pub grown : {R : Type 0} → List (Node R) → R → (start end depth : ℕ) → List (Node R)
grown nodes rule start end depth = nodes ++ record { rule = rule; start = start; end = end; depth = depth; tag = None } ∷ []

-- the last index of a depth, in depths that begin at the index i
abbrev pub last_from : (depth i : ℕ) → List ℕ → Option ℕ
last_from depth i [] = None
last_from depth i (d ∷ ds) = option_or (last_from depth (i + 1) ds) (if d == depth then Some i else None)

abbrev pub last_at : ℕ → List ℕ → Option ℕ
last_at depth ds = last_from depth 0 ds

-- the list has to have a node of the depth above
abbrev pub close_fault : {R : Type 0} → ℕ → List (Node R) → Option BuilderFault
close_fault depth nodes =
    option_or (if depth == 0 then Some (Outermost (length nodes)) else None)
    (option_or (unlawful_fault nodes)
    (if is_some (last_at (depth - 1) (depths nodes)) then None else Some (Missing (length nodes))))

-- why the pair to tag, if there is one, cannot take the tag
abbrev pub tag_fault : {R : Type 0} → Option ℕ → Tag → List (Node R) → Option BuilderFault
tag_fault None t nodes = Some (Untagged (length nodes))
tag_fault (Some node) t nodes =
    option_or (if nat_lt 255 t.length then Some (LongTag t.place) else None)
    (option_or (unlawful_fault nodes) (if nat_le (length nodes) node then Some (Missing (length nodes)) else None))
