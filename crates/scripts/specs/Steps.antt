-- What each order does to what the lines before it have made.
use Rattle.std.specs.Prelude.{◌≡◌, ℕ, ◌+◌, ◌-◌, ◌<◌, ◌≤◌, Bool, false, if◌then◌else◌, List, [], ◌∷◌, ◌++◌, length, map, Some, None, Ok, Err, Option, Result, nat_le}
use Rattle.std.specs.Option.{option_map_or}
use Rattle.queues.specs.declared.records.Node.{Node}
use Rattle.queues.specs.Lists.{tagged_at}
use Rattle.queues.specs.Records.{depths}
use Rattle.builders.specs.Calls.{append_fault, close_fault, grown, last_at, open_fault, tag_fault}
use Rattle.builders.specs.declared.faults.BuilderFault.{BuilderFault}
use Rattle.builders.specs.declared.faults.BuilderFault.TheVariants.{Full}
use Rattle.scripts.specs.Commands.{Order, says, breaks, adds, opens, closes, tags, shows}
use Rattle.scripts.specs.declared.faults.ScriptError.{ScriptError}
use Rattle.scripts.specs.declared.faults.ScriptError.TheVariants.{Refused, NoMemory}
use Rattle.scripts.specs.declared.faults.ScriptFault.{ScriptFault}
use Rattle.scripts.specs.declared.faults.ScriptFault.TheVariants.{Builder, NoRule}
use Rattle.scripts.specs.declared.problems.Problem.{Problem}
use Rattle.scripts.specs.declared.problems.Problem.TheVariants.{Fault, NoRoom}

-- a script has at most this many nodes
abbrev pub node_limit : ℕ
node_limit = 512

-- what the lines so far have made: the text, the labels, the nodes with their rules' codes, the depth and the pair to tag
pub data Drawn : Type 0 where
  drawn : (text labels : List ℕ) → List (Node ℕ) → (depth : ℕ) → (to : Option ℕ) → Drawn

-- a list of nodes by their rules' codes
abbrev pub coded_node : {R : Type 0} → (R → ℕ) → Node R → Node ℕ
coded_node coded n = record { rule = coded n.rule; start = n.start; end = n.end; depth = n.depth; tag = n.tag }

abbrev pub coding : {R : Type 0} → (R → ℕ) → List (Node R) → List (Node ℕ)
coding coded nodes = map (coded_node coded) nodes

-- the builder's fault, if any, comes first
abbrev pub refusing : Option BuilderFault → Result Drawn ScriptFault → Result Drawn ScriptFault
refusing fault d = option_map_or (λ f. Err (Builder f)) fault d

-- then a code without a rule
abbrev pub ruled : (codes code : ℕ) → Drawn → Result Drawn ScriptFault
ruled codes code d = if nat_le codes code then Err (NoRule code) else Ok d

-- a tag's bytes go behind the labels before it; there are this many codes
abbrev pub stepped : (codes : ℕ) → Order → Drawn → Result Drawn ScriptFault
stepped codes (says bytes) (drawn text labels nodes depth to) = Ok (drawn (text ++ bytes) labels nodes depth to)
stepped codes breaks (drawn text labels nodes depth to) = Ok (drawn (text ++ 10 ∷ []) labels nodes depth to)
stepped codes (adds p) (drawn text labels nodes depth to) =
    refusing (append_fault (nat_le node_limit (length nodes)) nodes)
    (ruled codes p.code (drawn text labels (grown nodes p.code p.start p.end depth) depth (Some (length nodes))))
stepped codes (opens p) (drawn text labels nodes depth to) =
    refusing (open_fault (nat_le node_limit (length nodes)) depth nodes)
    (ruled codes p.code (drawn text labels (grown nodes p.code p.start p.end depth) (depth + 1) None))
stepped codes closes (drawn text labels nodes depth to) =
    refusing (close_fault depth nodes) (Ok (drawn text labels nodes (depth - 1) (last_at (depth - 1) (depths nodes))))
stepped codes (tags bytes) (drawn text labels nodes depth to) =
    refusing (tag_fault to (record { place = length labels; length = length bytes }) nodes)
    (Ok (drawn text (labels ++ bytes) (tagged_at to (record { place = length labels; length = length bytes }) nodes) depth to))
stepped codes shows d = Ok d

-- a fault is what is meant, and want of memory says nothing of it
abbrev pub Stops : Result Drawn ScriptFault → Problem → Type 0
Stops meant (Fault f) = meant ≡ Err f
Stops meant NoRoom = Unit {0}

-- a step does what is meant
abbrev pub Steps : Result Drawn ScriptFault → Drawn → Result (Unit {0}) Problem → Type 0
Steps meant d (Ok _) = meant ≡ Ok d
Steps meant d (Err p) = Stops meant p

-- a list of fewer nodes than a script may have takes another
abbrev pub Roomy : {R : Type 0} → Bool → List (Node R) → Result (Unit {0}) Problem → Type 0
Roomy full nodes (Ok _) = (full ≡ false) × (length nodes < node_limit)
Roomy full nodes (Err (Fault f)) = (node_limit ≤ length nodes) × (f ≡ Builder (Full (length nodes)))
Roomy full nodes (Err NoRoom) = Unit {0}

abbrev pub error_at : ℕ → Problem → ScriptError
error_at line (Fault f) = Refused (record { line = line; fault = f })
error_at line NoRoom = NoMemory

-- the same of a line's step, with the refusal at the line
abbrev pub StopsAt : ℕ → Result Drawn ScriptFault → ScriptError → Type 0
StopsAt line meant (Refused f) = (f.line ≡ line) × (meant ≡ Err f.fault)
StopsAt line meant NoMemory = Unit {0}

abbrev pub StepsAt : ℕ → Result Drawn ScriptFault → Drawn → Result (Unit {0}) ScriptError → Type 0
StepsAt line meant d (Ok _) = meant ≡ Ok d
StepsAt line meant d (Err e) = StopsAt line meant e
