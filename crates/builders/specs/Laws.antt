-- What holds of every list of nodes, of every forest and of every build.
use Rattle.std.specs.Prelude.{◌≡◌, ℕ, ◌*◌, ◌<◌, ◌≤◌, List, length, Result, slice_index}
use Rattle.queues.specs.declared.records.Node.{Node}
use Rattle.queues.specs.Forests.{Forest, pairs, tokens}
use Rattle.queues.specs.Lawful.{Lawful}
use Rattle.queues.specs.Links.{Links}
use Rattle.queues.specs.Records.{Carried, depths}
use Rattle.queues.specs.Writes.{Lists}
use Rattle.builders.specs.declared.builds.BuildFault.{BuildFault}
use Rattle.builders.specs.Builds.{Judged}

pub record BuildLaws (R : Type 0) : Type 0 where
  -- a list is lawful exactly when a forest lists it and no depth is over 255
  pub lawful : (nodes : List (Node R)) → Lawful (depths nodes) → (f : Forest (Carried R)) × Lists nodes f
  pub listed : (nodes : List (Node R)) (f : Forest (Carried R)) → Lists nodes f → ((k : ℕ) → k < length (depths nodes) → slice_index (depths nodes) k ≤ 255) → Lawful (depths nodes)
  -- two lists of one forest are the same
  pub same_list : (ms ns : List (Node R)) (f : Forest (Carried R)) → Lists ms f → Lists ns f → ms ≡ ns
  -- the two tokens of a pair link to each other, and there are no others
  pub linked : Links (Carried R)
  pub two_each : (f : Forest (Carried R)) → tokens f ≡ 2 * pairs f
  -- a build has one answer
  pub one_answer : (depth : ℕ) (nodes : List (Node R)) (text labels : List ℕ) (room : ℕ) (a b : Result ℕ BuildFault) → Judged depth nodes text labels room a → Judged depth nodes text labels room b → a ≡ b
