-- What an order does, by the list of nodes and by their codes.
use Rattle.std.proofs.Common.{◌≡◌, ℕ, zero, suc, ◌+◌, ◌-◌, ◌<◌, ◌≤◌, Bool, false, leb, List, [], ◌∷◌, ◌++◌, length, Some, None, Ok, Err, Option, Result, sym, refl, ap, ◌∙◌, arith}
use Rattle.std.proofs.lemmas.Bool.{le-leb, lt-leb}
use Rattle.std.proofs.lemmas.List.{length-map, map_push}
use Rattle.std.proofs.lemmas.Simd.{map-map}
use Rattle.text.specs.Refusing.{unless}
use Rattle.queues.specs.declared.records.Node.{Node}
use Rattle.queues.specs.declared.tokens.Tag.{Tag}
use Rattle.queues.specs.Lists.{retagged, tagged_at}
use Rattle.queues.specs.Records.{depths}
use Rattle.builders.specs.Calls.{append_fault, close_fault, grown, last_at, open_fault, tag_fault}
use Rattle.builders.specs.declared.builder.PairsBuilder.{PairsBuilder}
use Rattle.builders.specs.declared.faults.BuilderFault.{BuilderFault}
use Rattle.scripts.specs.Commands.{adds, closes, opens, tags}
use Rattle.scripts.specs.Steps.{Drawn, drawn, Roomy, Stops, coded_node, coding, node_limit, refusing, ruled, stepped}
use Rattle.scripts.specs.declared.faults.ScriptFault.{ScriptFault}
use Rattle.scripts.specs.declared.faults.ScriptFault.TheVariants.{Builder, NoRule}
use Rattle.scripts.specs.declared.numbers.Pair.{Pair}
use Rattle.scripts.specs.declared.problems.Problem.TheVariants.{Fault}

-- the codes have no part in the depths, the length, the tags
pub coding-depths : {R : Type 0} (f : R → ℕ) (ns : List (Node R)) → depths (coding f ns) ≡ depths ns
coding-depths f ns = map-map (λ n. n.depth) (coded_node f) ns

pub coding-length : {R : Type 0} (f : R → ℕ) (ns : List (Node R)) → length (coding f ns) ≡ length ns
coding-length f ns = length-map ns (coded_node f)

coding-grown : {R : Type 0} (f : R → ℕ) (ns : List (Node R)) (x : R) (s e d : ℕ) → coding f (grown ns x s e d) ≡ grown (coding f ns) (f x) s e d
coding-grown f ns x s e d = map_push (coded_node f) ns (record { rule = x; start = s; end = e; depth = d; tag = None })

coding-retagged : {R : Type 0} (f : R → ℕ) (ns : List (Node R)) (i : ℕ) (t : Tag) → coding f (retagged ns i t) ≡ retagged (coding f ns) i t
coding-retagged f [] i t = refl
coding-retagged f (n ∷ ns) zero t = refl
coding-retagged f (n ∷ ns) (suc i) t = ap (λ l. coded_node f n ∷ l) (coding-retagged f ns i t)

coding-tagged : {R : Type 0} (f : R → ℕ) (to : Option ℕ) (t : Tag) (ns : List (Node R)) → coding f (tagged_at to t ns) ≡ tagged_at to t (coding f ns)
coding-tagged f None t ns = refl
coding-tagged f (Some i) t ns = coding-retagged f ns i t

-- a fault, or done
abbrev answered : Option BuilderFault → Result (Unit {0}) BuilderFault
answered o = unless o tt

-- by what the checks answer
faulty : (o : Option BuilderFault) (f : BuilderFault) → Err f ≡ answered o → o ≡ Some f
faulty None f e = let z : ◌≡◌ {A = ℕ} 0 1 = cc in absurd (omega arith)
faulty (Some g) f e = cc

faultless : (o : Option BuilderFault) → Ok tt ≡ answered o → o ≡ None
faultless None e = refl
faultless (Some g) e = let z : ◌≡◌ {A = ℕ} 0 1 = cc in absurd (omega arith)

-- a call whose fault is that of the list by its codes
module _ (o meant : Option BuilderFault) (same : meant ≡ o) where
  pub call_refused : (g : BuilderFault) (rest : Result Drawn ScriptFault) → Err g ≡ answered o → Stops (refusing meant rest) (Fault (Builder g))
  call_refused g rest e = ap (λ x. refusing x rest) (same ∙ faulty o g e)

  pub call_done : (rest : Result Drawn ScriptFault) → Ok tt ≡ answered o → refusing meant rest ≡ rest
  call_done rest e = ap (λ x. refusing x rest) (same ∙ faultless o e)

-- the faults are the same: of a list with room, and whatever the list
pub append_same : {R : Type 0} (f : R → ℕ) (full : Bool) (ns : List (Node R)) → Roomy full ns (Ok tt) → append_fault (leb node_limit (length (coding f ns))) (coding f ns) ≡ append_fault full ns
append_same f full ns room = let is = room.0 in rw (coding-depths f ns, coding-length f ns, lt-leb node_limit (length ns) room.1, is)

pub open_same : {R : Type 0} (f : R → ℕ) (full : Bool) (d : ℕ) (ns : List (Node R)) → Roomy full ns (Ok tt) → open_fault (leb node_limit (length (coding f ns))) d (coding f ns) ≡ open_fault full d ns
open_same f full d ns room = let is = room.0 in rw (coding-depths f ns, coding-length f ns, lt-leb node_limit (length ns) room.1, is)

pub close_same : {R : Type 0} (f : R → ℕ) (d : ℕ) (ns : List (Node R)) → close_fault d (coding f ns) ≡ close_fault d ns
close_same f d ns = rw (coding-depths f ns, coding-length f ns)

pub tag_same : {R : Type 0} (f : R → ℕ) (to : Option ℕ) (t : Tag) (ns : List (Node R)) → tag_fault to t (coding f ns) ≡ tag_fault to t ns
tag_same f None t ns = rw (coding-length f ns)
tag_same f (Some node) t ns = rw (coding-depths f ns, coding-length f ns)

-- a code that no rule has
pub unruled : (codes code : ℕ) (d : Drawn) → codes ≤ code → ruled codes code d ≡ Err (NoRule code)
unruled codes code d h = rw (le-leb codes code h)

-- or the pair
pub added : {R : Type 0} (f : R → ℕ) (ns ns' : List (Node R)) (x : R) (codes code start end depth depth' : ℕ) (to : Option ℕ) (b' : PairsBuilder) (text labels : List ℕ) → f x ≡ code → f x < codes → ns' ≡ grown ns x start end depth → b'.depth ≡ depth' → b'.to_tag ≡ to → ruled codes code (drawn text labels (grown (coding f ns) code start end depth) depth' to) ≡ Ok (drawn text labels (coding f ns') b'.depth b'.to_tag)
added f ns ns' x codes code start end depth depth' to b' text labels is below nodes deep to_tag =
    let l : leb codes code ≡ false = lt-leb codes code (omega (arith, is, below)) in
    let m : coding f ns' ≡ grown (coding f ns) code start end depth = ap (coding f) nodes ∙ coding-grown f ns x start end depth ∙ ap (λ k. grown (coding f ns) k start end depth) is in
    rw (l, m, deep, to_tag)

pub append_done : {R : Type 0} (f : R → ℕ) (full : Bool) (ns ns' : List (Node R)) (x : R) (codes : ℕ) (p : Pair) (b b' : PairsBuilder) (text labels : List ℕ) → Roomy full ns (Ok tt) → Ok tt ≡ answered (append_fault full ns) → f x ≡ p.code → f x < codes → ns' ≡ grown ns x p.start p.end b.depth → b'.depth ≡ b.depth → b'.to_tag ≡ Some (length ns) → stepped codes (adds p) (drawn text labels (coding f ns) b.depth b.to_tag) ≡ Ok (drawn text labels (coding f ns') b'.depth b'.to_tag)
append_done f full ns ns' x codes p b b' text labels room e is below nodes deep to_tag =
    call_done (append_fault full ns) _ (append_same f full ns room) (ruled codes p.code (drawn text labels (grown (coding f ns) p.code p.start p.end b.depth) b.depth (Some (length (coding f ns))))) e
    ∙ ap (λ n. ruled codes p.code (drawn text labels (grown (coding f ns) p.code p.start p.end b.depth) b.depth (Some n))) (coding-length f ns)
    ∙ added f ns ns' x codes p.code p.start p.end b.depth b.depth (Some (length ns)) b' text labels is below nodes deep to_tag

pub open_done : {R : Type 0} (f : R → ℕ) (full : Bool) (ns ns' : List (Node R)) (x : R) (codes : ℕ) (p : Pair) (b b' : PairsBuilder) (text labels : List ℕ) → Roomy full ns (Ok tt) → Ok tt ≡ answered (open_fault full b.depth ns) → f x ≡ p.code → f x < codes → ns' ≡ grown ns x p.start p.end b.depth → b'.depth ≡ b.depth + 1 → b'.to_tag ≡ None → stepped codes (opens p) (drawn text labels (coding f ns) b.depth b.to_tag) ≡ Ok (drawn text labels (coding f ns') b'.depth b'.to_tag)
open_done f full ns ns' x codes p b b' text labels room e is below nodes deep to_tag =
    call_done (open_fault full b.depth ns) _ (open_same f full b.depth ns room) (ruled codes p.code (drawn text labels (grown (coding f ns) p.code p.start p.end b.depth) (b.depth + 1) None)) e
    ∙ added f ns ns' x codes p.code p.start p.end b.depth (b.depth + 1) None b' text labels is below nodes deep to_tag

-- the end of a pair
pub close_done : {R : Type 0} (f : R → ℕ) (ns : List (Node R)) (codes : ℕ) (b b' : PairsBuilder) (text labels : List ℕ) → Ok tt ≡ answered (close_fault b.depth ns) → b'.depth ≡ b.depth - 1 → b'.to_tag ≡ last_at (b.depth - 1) (depths ns) → stepped codes closes (drawn text labels (coding f ns) b.depth b.to_tag) ≡ Ok (drawn text labels (coding f ns) b'.depth b'.to_tag)
close_done f ns codes b b' text labels e deep to_tag =
    call_done (close_fault b.depth ns) _ (close_same f b.depth ns) (Ok (drawn text labels (coding f ns) (b.depth - 1) (last_at (b.depth - 1) (depths (coding f ns))))) e
    ∙ ap (λ ds. Ok (drawn text labels (coding f ns) (b.depth - 1) (last_at (b.depth - 1) ds))) (coding-depths f ns)
    ∙ rw (deep, to_tag)

-- a tag
pub tag_done : {R : Type 0} (f : R → ℕ) (ns ns' : List (Node R)) (codes depth : ℕ) (to : Option ℕ) (t : Tag) (text labels labels' bytes : List ℕ) → t ≡ record { place = length labels; length = length bytes } → labels' ≡ labels ++ bytes → Ok tt ≡ answered (tag_fault to t ns) → ns' ≡ tagged_at to t ns → stepped codes (tags bytes) (drawn text labels (coding f ns) depth to) ≡ Ok (drawn text labels' (coding f ns') depth to)
tag_done f ns ns' codes depth to t text labels labels' bytes is more e nodes =
    ap (λ (u : Tag). refusing (tag_fault to u (coding f ns)) (Ok (drawn text (labels ++ bytes) (tagged_at to u (coding f ns)) depth to))) (sym is)
    ∙ call_done (tag_fault to t ns) _ (tag_same f to t ns) (Ok (drawn text (labels ++ bytes) (tagged_at to t (coding f ns)) depth to)) e
    ∙ ap (λ l. Ok (drawn text l (tagged_at to t (coding f ns)) depth to)) (sym more)
    ∙ ap (λ l. Ok (drawn text labels' l depth to)) (sym (ap (coding f) nodes ∙ coding-tagged f to t ns))
