-- What an outcome comes to at the test of its text.
use Rattle.std.proofs.Common.{◌≡◌, ℕ, ◌≤◌, List, length, Some, None, Ok, Err, Option, Result, MatchResult, sym, refl, ap, ◌∙◌, arith}
use Rattle.std.proofs.lemmas.Bool.{le-ltb}
use Rattle.text.specs.Refusing.{unless}
use Rattle.text.proofs.Lawful.{one_verdict}
use Rattle.builders.specs.Builds.{judged as built}
use Rattle.builders.specs.Queues.{fault_of}
use Rattle.builders.specs.declared.builds.BuildFault.{BuildFault}
use Rattle.builders.specs.declared.builds.RefusedBuild.{RefusedBuild}
use Rattle.queues.specs.declared.records.Node.{Node}
use Rattle.scripts.specs.Outcomes.{Outcome, refused, shown, outcome, script_limit, sized, started}
use Rattle.scripts.specs.Reading.{Built, BuiltAt, Fails, Settles, judged, printed, token_limit}
use Rattle.scripts.specs.Steps.{Drawn, StopsAt, drawn}
use Rattle.scripts.specs.declared.faults.ScriptFault.{ScriptFault}
use Rattle.scripts.specs.declared.faults.ScriptFault.TheVariants.{Build}
use Rattle.scripts.specs.declared.faults.ScriptError.{ScriptError}
use Rattle.scripts.specs.declared.faults.ScriptError.TheVariants.{Refused, NoMemory}
use Rattle.scripts.specs.declared.faults.ScriptRefusal.{ScriptRefusal}

-- the size comes first
pub under : (script : List ℕ) → length script ≤ script_limit → Ok tt ≡ sized script
under script h = rw (le-ltb script_limit (length script) h)

pub within : (script : List ℕ) → length script ≤ script_limit → outcome script ≡ started script
within script h = rw (← under script h)

pub settled : {o : Outcome} {f g : ScriptRefusal} → o ≡ refused f → g ≡ f → Settles o (Err g)
settled e is = rw e (ap Err is)

pub stopped : {o : Outcome} (n : ℕ) (e : ScriptError) (meant : Result Drawn ScriptFault) → ((f : ScriptFault) → meant ≡ Err f → o ≡ refused (record { line = n; fault = f })) → StopsAt n meant e → Fails o e
stopped n (Refused f) meant by s = settled (by f.fault s.1) (ap (λ (k : ℕ). record { line = k; fault = f.fault }) s.0)
stopped n NoMemory meant by s = tt

-- a draft by parts that are what its own are
pub drawn_as : {text text' labels labels' : List ℕ} {nodes nodes' : List (Node ℕ)} (depth : ℕ) (to : Option ℕ) → text ≡ text' → labels ≡ labels' → nodes ≡ nodes' → drawn text labels nodes depth to ≡ drawn text' labels' nodes' depth to
drawn_as depth to a b c = cc

-- what a build answers, as the script's
pub built_at : (line : ℕ) (d : Drawn) (r : Result ℕ RefusedBuild) (s : Result ℕ ScriptRefusal) → Built d (fault_of r) → MatchResult r (λ n. s ≡ Ok n) (λ b. s ≡ Err (record { line = line; fault = Build b.fault })) → BuiltAt line d s
built_at line d (Ok n) s p is = rw is p
built_at line d (Err b) s p is = rw is (b.fault, (p, refl))

-- the three ways at `show`
pub fails : (line : ℕ) (d : Drawn) (next : Option ScriptRefusal) (f : ScriptRefusal) → BuiltAt line d (Err f) → Settles (shown d line next) (Err f)
fails line d next f p = (Err p.0, (p.1.0, ap Err p.1.1))

pub follows : (line n : ℕ) (d : Drawn) (next : Option ScriptRefusal) (f : ScriptRefusal) → BuiltAt line d (Ok n) → Err f ≡ unless next (tt {0}) → Settles (shown d line next) (Err f)
follows line n d None f p is = let z : ◌≡◌ {A = ℕ} 0 1 = cc in absurd (omega arith)
follows line n d (Some g) f p is = let same : f ≡ g = cc in (Ok n, (p, ap Err same))

pub ends : (line n : ℕ) (d : Drawn) (next : Option ScriptRefusal) (bytes : List ℕ) → BuiltAt line d (Ok n) → Ok tt ≡ unless next (tt {0}) → bytes ≡ printed d n → Settles (shown d line next) (Ok bytes)
ends line n d None bytes p none is = (Ok n, (p, ap Ok is))
ends line n d (Some g) bytes p none is = let z : ◌≡◌ {A = ℕ} 0 1 = cc in absurd (omega arith)

one_built : (d : Drawn) (a b : Result ℕ BuildFault) → Built d a → Built d b → a ≡ b
one_built (drawn text labels nodes depth to) a b p q =
    p.1.1 ∙ ap (λ v. built v depth nodes text labels token_limit) (one_verdict text p.0 q.0 p.1.0 q.1.0) ∙ sym q.1.1

pub one_answer : (o : Outcome) (a b : Result (List ℕ) ScriptRefusal) → Settles o a → Settles o b → a ≡ b
one_answer (refused f) a b p q = p ∙ sym q
one_answer (shown d line next) a b p q = p.1.1 ∙ ap (judged d line next) (one_built d p.0 q.0 p.1.0 q.1.0) ∙ sym q.1.1
