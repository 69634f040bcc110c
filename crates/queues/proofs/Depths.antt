-- Which depths are lawful, from the first index that is not.
use Rattle.std.proofs.Common.{◌≡◌, ℕ, zero, suc, ◌+◌, ◌<◌, ◌≤◌, List, [], ◌∷◌, ◌++◌, map, length, get_or, None, sym, refl, subst, arith}
use Rattle.std.proofs.lemmas.List.{append_assoc, append-nil}
use Rattle.std.proofs.lemmas.Bool.Decides.{nat_tests}
use Rattle.queues.specs.Forests.{Forest, none, pair, Row, listed}
use Rattle.queues.specs.Lawful.{Lawful, unlawful_from, unlawful}

-- what is allowed at the first index, and what follows from that
pub allowed : (most i d : ℕ) (ds : List ℕ) → unlawful_from most i (d ∷ ds) ≡ None → (d ≤ most) × (d ≤ 255) × (unlawful_from (d + 1) (i + 1) ds ≡ None)
allowed most i d ds e = grind (arith, nat_tests)

-- no later one exceeds the one before by over 1
pub record Steps (most : ℕ) (ds : List ℕ) : Type 0 where
  pub first : 0 < length ds → get_or ds 0 0 ≤ most
  pub step : (k : ℕ) → suc k < length ds → get_or ds (suc k) 0 ≤ get_or ds k 0 + 1

step_cons : (d : ℕ) (ds : List ℕ) → Steps (d + 1) ds → (k : ℕ) → suc k < length (d ∷ ds) → get_or (d ∷ ds) (suc k) 0 ≤ get_or (d ∷ ds) k 0 + 1
step_cons d ds s zero h = s.first (omega arith)
step_cons d ds s (suc k) h = s.step k (omega arith)

steps_cons : (most d : ℕ) (ds : List ℕ) → d ≤ most → Steps (d + 1) ds → Steps most (d ∷ ds)
steps_cons most d ds l s = record { first = λ h. l; step = step_cons d ds s }

steps_rest : (most d : ℕ) (ds : List ℕ) → Steps most (d ∷ ds) → Steps (d + 1) ds
steps_rest most d ds s = record { first = λ h. s.step 0 (omega arith); step = λ k h. s.step (suc k) (omega arith) }

abbrev Deep : List ℕ → Type 0
Deep ds = (k : ℕ) → k < length ds → get_or ds k 0 ≤ 255

deep_cons : (d : ℕ) (ds : List ℕ) → d ≤ 255 → Deep ds → Deep (d ∷ ds)
deep_cons d ds l s zero h = l
deep_cons d ds l s (suc k) h = s k (omega arith)

none_steps : (most i : ℕ) (ds : List ℕ) → unlawful_from most i ds ≡ None → Steps most ds × Deep ds
none_steps most i [] e = (record { first = λ h. absurd (omega arith); step = λ k h. absurd (omega arith) }, λ k h. absurd (omega arith))
none_steps most i (d ∷ ds) e =
    let a = allowed most i d ds e in
    let r = none_steps (d + 1) (i + 1) ds a.2 in
    (steps_cons most d ds a.0 r.0, deep_cons d ds a.1 r.1)

steps_none : (most i : ℕ) (ds : List ℕ) → Steps most ds → Deep ds → unlawful_from most i ds ≡ None
steps_none most i [] s h = refl
steps_none most i (d ∷ ds) s h =
    let a : d ≤ most = s.first (omega arith) in
    let b : d ≤ 255 = h 0 (omega arith) in
    let r = steps_none (d + 1) (i + 1) ds (steps_rest most d ds s) (λ k l. h (suc k) (omega arith)) in
    grind (arith, nat_tests)

steps_lawful : (ds : List ℕ) → Steps 0 ds → Deep ds → Lawful ds
steps_lawful ds s h =
    record {
      first = λ l. omega (arith, s.first l);
      deep = h;
      step = λ k l. let e : suc k ≡ k + 1 = omega arith in subst (λ z. get_or ds z 0 ≤ get_or ds k 0 + 1) e (s.step k (omega arith));
    }

none_lawful : (ds : List ℕ) → unlawful ds ≡ None → Lawful ds
none_lawful ds e = let r = none_steps 0 0 ds e in steps_lawful ds r.0 r.1

lawful_none : (ds : List ℕ) → Lawful ds → unlawful ds ≡ None
lawful_none ds w =
    steps_none 0 0 ds
    (record { first = λ l. omega (arith, w.first l); step = λ k l. let e : k + 1 ≡ suc k = omega arith in subst (λ z. get_or ds z 0 ≤ get_or ds k 0 + 1) e (w.step k (omega arith)) })
    w.deep

pub unlawful_none : (ds : List ℕ) → (unlawful ds ≡ None → Lawful ds) × (Lawful ds → unlawful ds ≡ None)
unlawful_none ds = (none_lawful ds, lawful_none ds)

-- a listing goes down by one level at a time
listed_steps : {X : Type 0} (d : ℕ) (f : Forest X) (most : ℕ) (rest : List (Row X)) → d ≤ most → ((m : ℕ) → d ≤ m → Steps m (map (λ r. r.depth) rest)) → Steps most (map (λ r. r.depth) (listed d f ++ rest))
listed_steps d none most rest l h = h most l
listed_steps d (pair start end x inner after) most rest l h =
    steps_cons most d (map (λ r. r.depth) ((listed (d + 1) inner ++ listed d after) ++ rest)) l
    (subst (λ z. Steps (d + 1) (map (λ r. r.depth) z)) (sym (append_assoc (listed (d + 1) inner) (listed d after) rest))
    (listed_steps (d + 1) inner (d + 1) (listed d after ++ rest) (omega arith) (λ m k. listed_steps d after m rest (omega arith) h)))

pub listed_lawful : {X : Type 0} (f : Forest X) → Deep (map (λ r. r.depth) (listed 0 f)) → Lawful (map (λ r. r.depth) (listed 0 f))
listed_lawful f h =
    steps_lawful (map (λ r. r.depth) (listed 0 f))
    (subst (λ z. Steps 0 (map (λ r. r.depth) z)) (append-nil (listed 0 f))
    (listed_steps 0 f 0 [] (omega arith) (λ m l. record { first = λ h. absurd (omega arith); step = λ k h. absurd (omega arith) })))
    h
