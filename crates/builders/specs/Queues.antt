-- What a build leaves.
use Rattle.std.specs.Prelude.{◌≡◌, ℕ, List, Ok, Err, Result}
use Rattle.queues.specs.declared.records.Node.{Node}
use Rattle.queues.specs.Forests.{Forest, tokens}
use Rattle.queues.specs.Records.{Carried}
use Rattle.queues.specs.Writes.{Lists}
use Rattle.builders.specs.declared.builds.BuildFault.{BuildFault}
use Rattle.builders.specs.declared.builds.RefusedBuild.{RefusedBuild}

-- the answer without the builder that a refusal hands back
abbrev pub fault_of : Result ℕ RefusedBuild → Result ℕ BuildFault
fault_of (Ok n) = Ok n
fault_of (Err b) = Err b.fault

-- as many tokens as the forest has that the nodes list
abbrev pub Counts : {R : Type 0} → List (Node R) → ℕ → Type 0
Counts {R} nodes n = (f : Forest (Carried R)) → Lists nodes f → n ≡ tokens f
