-- Looking for the last node of a depth from the end.
use Rattle.std.proofs.Common.{◌≡◌, ℕ, suc, ◌+◌, Bool, true, false, cond, eqb, List, [], ◌∷◌, ◌++◌, length, Some, None, Option, sym, refl, ap, ◌∙◌, subst, add-zero, arith}
use Rattle.std.specs.Fn.{Called, Mut}
use Rattle.std.specs.Iterator.{Yields, YieldsLast, FindsPositionBack}
use Rattle.std.specs.List.{FoldsTo}
use Rattle.std.specs.Option.{option_or}
use Rattle.std.proofs.lemmas.List.{length_push, map_push, length-map}
use Rattle.queues.specs.declared.records.Node.{Node}
use Rattle.queues.specs.Records.{depths}
use Rattle.builders.specs.Calls.{last_at, last_from}

or_none : (a : Option ℕ) → option_or a None ≡ a
or_none None = refl
or_none (Some x) = refl

or_assoc : (a b c : Option ℕ) → option_or (option_or a b) c ≡ option_or a (option_or b c)
or_assoc None b c = refl
or_assoc (Some x) b c = refl

-- the last depth is looked at first
last_push : (depth i : ℕ) (ds : List ℕ) (d : ℕ) → last_from depth i (ds ++ d ∷ []) ≡ option_or (cond (eqb d depth) (Some (i + length ds)) None) (last_from depth i ds)
last_push depth i [] d = rw (add-zero, or_none (cond (eqb d depth) (Some i) None)) refl
last_push depth i (x ∷ ds) d =
    let k : i + 1 + length ds ≡ i + suc (length ds) = omega arith in
    ap (λ o. option_or o (cond (eqb x depth) (Some i) None)) (last_push depth (i + 1) ds d ∙ ap (λ n. option_or (cond (eqb d depth) (Some n) None) (last_from depth (i + 1) ds)) k)
    ∙ or_assoc (cond (eqb d depth) (Some (i + suc (length ds))) None) (last_from depth (i + 1) ds) (cond (eqb x depth) (Some i) None)

module _ {R : Type 0} (depth : ℕ) (ns ms : List (Node R)) (n : Node R) (e : ns ≡ ms ++ n ∷ []) where
  last_node : (b : Bool) → b ≡ eqb n.depth depth → last_at depth (depths ns) ≡ option_or (cond b (Some (length ms)) None) (last_at depth (depths ms))
  last_node b t =
      let k : 0 + length (depths ms) ≡ length ms = omega (arith, length-map ms (λ m. m.depth)) in
      ap (λ l. last_at depth (depths l)) e ∙ ap (last_at depth) (map_push (λ m. m.depth) ms n) ∙ last_push depth 0 (depths ms) n.depth
      ∙ ap (λ k. option_or (cond (eqb n.depth depth) (Some k) None) (last_at depth (depths ms))) k
      ∙ ap (λ t. option_or (cond t (Some (length ms)) None) (last_at depth (depths ms))) (sym t)

-- a closure that tests a node's depth finds the last node of that depth
module _ {R F : Type 0} (g : Mut F (Node R × Unit {0}) Bool) (f : F) (depth : ℕ) (tests : (x : Node R) (b : Bool) (q : F) → Called g f (x, tt) b q → (q ≡ f) × (b ≡ eqb x.depth depth)) where
  -- passing over nodes of other depths
  pub record Passed (s t : List (Node R)) (count : ℕ) (j : F) : Type 0 where
    pub kept : j ≡ f
    pub same : last_at depth (depths s) ≡ last_at depth (depths t)
    pub counted : length s ≡ length t + count

  passed : (xs : List (Node R)) (s t : List (Node R)) (i j : F) → i ≡ f → Yields (YieldsLast (λ rest. rest)) s xs t → FoldsTo (λ p x q. Called g p (x, tt) false q) i xs j → Passed s t (length xs) j
  passed [] s t i j e y c =
      record {
        kept = sym c ∙ e;
        same = ap (λ z. last_at depth (depths z)) y;
        counted = omega (arith, ap length y);
      }
  passed (x ∷ xs) s t i j e (s', step, y) (q, here, c) =
      let a = tests x false q (subst (λ k. Called g k (x, tt) false q) e here) in
      let p = passed xs s' t q j a.0 y c in
      record {
        kept = p.kept;
        same = last_node depth s s' x step false a.1 ∙ p.same;
        counted = omega (arith, p.counted, ap length step, length_push s' x);
      }

  pub found : (s u : List (Node R)) (r : Option ℕ) → FindsPositionBack (YieldsLast (λ rest. rest)) g s f (length s) r u → r ≡ last_at depth (depths s)
  found s u r (xs, None, j, (t, y, step), c, e) =
      let p = passed xs s t f j refl y c in
      e ∙ sym (ap (λ z. last_at depth (depths z)) step.0) ∙ sym p.same
  found s u None (xs, Some x, j, (t, y, step), c, e) = absurd e.0
  found s u (Some i) (xs, Some x, j, (t, y, step), c, e) =
      let p = passed xs s t f j refl y c in
      let a = tests x true e.1.0 (subst (λ k. Called g k (x, tt) true e.1.0) p.kept e.1.1) in
      let k : i ≡ length u = omega (arith, e.0, p.counted, ap length step, length_push u x) in
      ap Some k ∙ sym (last_node depth t u x step true a.1) ∙ sym p.same
