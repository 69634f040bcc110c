-- What building a queue answers.
use Rattle.std.specs.Prelude.{◌≡◌, ℕ, ◌+◌, ◌*◌, Bool, true, ◌&&◌, List, [], ◌∷◌, length, Some, None, Ok, Err, Option, Result, nat_le, nat_lt, if◌then◌else◌}
use Rattle.std.specs.Option.{option_map, option_or}
use Rattle.std.specs.Result.{result_err}
use Rattle.text.specs.Refusing.{unless}
use Rattle.text.specs.declared.faults.TextFault.{TextFault}
use Rattle.text.specs.Verdicts.{Tested}
use Rattle.spans.specs.declared.faults.UnsoundSpan.{UnsoundSpan}
use Rattle.spans.specs.Sound.{spanned}
use Rattle.queues.specs.declared.records.Node.{Node}
use Rattle.queues.specs.declared.tokens.Tag as queue-tag
use Rattle.queues.specs.Lawful.{unlawful}
use Rattle.queues.specs.Records.{depths}
use Rattle.builders.specs.declared.builds.BuildFault.{BuildFault}
use Rattle.builders.specs.declared.builds.NodeFault.{NodeFault}
use Rattle.builders.specs.declared.builds.BuildFault.TheVariants.{Text, Labels, Many, Tag, Open, Unlawful, Span, Short}

-- a tag is none, or at most 255 bytes that lie within the labels
abbrev pub tag_fits : ℕ → Option queue-tag.Tag → Bool
tag_fits labels None = true
tag_fits labels (Some t) = nat_le t.length 255 && nat_le (t.place + t.length) labels

abbrev pub tag_place : Option queue-tag.Tag → ℕ
tag_place None = 0
tag_place (Some t) = t.place

abbrev pub tag_fault : {R : Type 0} → ℕ → List (Node R) → Option BuildFault
tag_fault labels [] = None
tag_fault labels (n ∷ ns) =
    if tag_fits labels n.tag then tag_fault labels ns else Some (Tag (tag_place n.tag))

-- the fault of a node's span, else those of the others
abbrev pub at_node : ℕ → Result (Unit {0}) UnsoundSpan → Option NodeFault → Option NodeFault
at_node node r others = option_or (option_map (λ f. record { node = node; fault = f }) (result_err r)) others

abbrev pub node_fault_from : {R : Type 0} → List ℕ → ℕ → List (Node R) → Option NodeFault
node_fault_from text i [] = None
node_fault_from text i (n ∷ ns) = at_node i (spanned text n.start n.end) (node_fault_from text (i + 1) ns)

-- what is refused of a builder at this depth, once the text has passed its test; two tokens are needed for each node
abbrev pub rest_fault : {R : Type 0} → (depth : ℕ) → List (Node R) → (text labels : List ℕ) → (room : ℕ) → Option BuildFault
rest_fault depth nodes text labels room =
    option_or (if nat_lt 65536 (length labels) then Some (Labels (length labels)) else None)
    (option_or (if nat_lt 65536 (length nodes) then Some (Many (length nodes)) else None)
    (option_or (tag_fault (length labels) nodes)
    (option_or (if nat_lt 0 depth then Some (Open depth) else None)
    (option_or (option_map Unlawful (unlawful (depths nodes)))
    (option_or (option_map Span (node_fault_from text 0 nodes))
    (if nat_lt room (2 * length nodes) then Some (Short (2 * length nodes)) else None))))))

-- the text's own refusal comes first, then the other faults; else the number of tokens
abbrev pub judged : {R : Type 0} → Result (Unit {0}) TextFault → (depth : ℕ) → List (Node R) → (text labels : List ℕ) → (room : ℕ) → Result ℕ BuildFault
judged (Err f) depth nodes text labels room = Err (Text f)
judged (Ok _) depth nodes text labels room = unless (rest_fault depth nodes text labels room) (2 * length nodes)

-- the answer of a build
abbrev pub Judged : {R : Type 0} → (depth : ℕ) → List (Node R) → (text labels : List ℕ) → (room : ℕ) → Result ℕ BuildFault → Type 0
Judged depth nodes text labels room r = (verdict : Result (Unit {0}) TextFault) × (Tested text verdict × (r ≡ judged verdict depth nodes text labels room))
