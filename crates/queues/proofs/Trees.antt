-- A listing tells its forest, and lawful depths list one.
use Rattle.std.proofs.Common.{◌≡◌, ℕ, zero, suc, ◌+◌, ◌<◌, ◌≤◌, List, [], ◌∷◌, ◌++◌, map, get_or, drop, None, sym, refl, ap, ◌∙◌, subst, arith}
use Rattle.std.proofs.lemmas.List.{append_assoc, append-nil}
use Rattle.queues.specs.Forests.{Forest, none, pair, Row, listed}
use Rattle.queues.specs.Lawful.{unlawful_from, unlawful, Lawful}
use Rattle.queues.specs.Writes.{Above}
use Rattle.queues.proofs.Depths.{allowed, unlawful_none}

pub above_more : {X : Type 0} (d : ℕ) (f : Forest X) (rest : List (Row X)) → Above d rest → Above (d + 1) (listed d f ++ rest)
above_more d none [] h = tt
above_more d none (r ∷ rest) h = omega arith
above_more d (pair start end x inner after) rest h = omega arith

-- where a listing ends is told by what comes after it being less deep
listed_split : {X : Type 0} (d : ℕ) (f g : Forest X) (xs ys : List (Row X)) → Above d xs → Above d ys → listed d f ++ xs ≡ listed d g ++ ys → (f ≡ g) × (xs ≡ ys)
listed_split d none none xs ys a b e = (refl, e)
listed_split d none (pair start end x inner after) xs ys a b e = let h : d < d = subst (Above d) e a in absurd (omega arith)
listed_split d (pair start end x inner after) none xs ys a b e = let h : d < d = subst (Above d) (sym e) b in absurd (omega arith)
listed_split {X} d (pair start end x inner after) (pair start' end' x' inner' after') xs ys a b e =
    let row : Row X = record { start = start; end = end; depth = d; x = x } in
    let row' : Row X = record { start = start'; end = end'; depth = d; x = x' } in
    let first : row ≡ row' = ap (λ l. get_or l 0 row) e in
    let t : listed (d + 1) inner ++ (listed d after ++ xs) ≡ listed (d + 1) inner' ++ (listed d after' ++ ys) =
    sym (append_assoc (listed (d + 1) inner) (listed d after) xs) ∙ ap (drop 1) e ∙ append_assoc (listed (d + 1) inner') (listed d after') ys in
    let i = listed_split (d + 1) inner inner' (listed d after ++ xs) (listed d after' ++ ys) (above_more d after xs a) (above_more d after' ys b) t in
    let r = listed_split d after after' xs ys a b i.1 in
    (ap (λ z. pair z.start z.end z.x inner after) first ∙ ap (λ z. pair start' end' x' z after) i.0 ∙ ap (pair start' end' x' inner') r.0, r.1)

pub listed_same : {X : Type 0} (d : ℕ) (f g : Forest X) → listed d f ≡ listed d g → f ≡ g
listed_same d f g e = (listed_split d f g [] [] tt tt (ap (λ l. l ++ []) e)).0

-- how many levels lie open at the end of a listing
abbrev open_levels : {X : Type 0} → Forest X → ℕ
open_levels none = 0
open_levels (pair start end x inner none) = open_levels inner + 1
open_levels (pair start end x inner (pair start' end' x' inner' after')) = open_levels (pair start' end' x' inner' after')

-- a pair more at the end, so many levels deep
abbrev snoc : {X : Type 0} → (start end d : ℕ) (x : X) → Forest X → Forest X
snoc start end d x none = pair start end x none none
snoc start end zero x (pair start' end' x' inner after) = pair start' end' x' inner (snoc start end zero x after)
snoc start end (suc d) x (pair start' end' x' inner none) = pair start' end' x' (snoc start end d x inner) none
snoc start end (suc d) x (pair start' end' x' inner (pair start'' end'' x'' inner'' after'')) =
    pair start' end' x' inner (snoc start end (suc d) x (pair start'' end'' x'' inner'' after''))

open_behind : {X : Type 0} (start end : ℕ) (x : X) (inner : Forest X) (start' end' d : ℕ) (x' : X) (f : Forest X) → open_levels (pair start end x inner (snoc start' end' d x' f)) ≡ open_levels (snoc start' end' d x' f)
open_behind start end x inner start' end' d x' none = refl
open_behind start end x inner start' end' zero x' (pair a b y i r) = refl
open_behind start end x inner start' end' (suc d) x' (pair a b y i none) = refl
open_behind start end x inner start' end' (suc d) x' (pair a b y i (pair a' b' y' i' r')) = refl

open_snoc : {X : Type 0} (start end d : ℕ) (x : X) (f : Forest X) → d ≤ open_levels f → open_levels (snoc start end d x f) ≡ d + 1
open_snoc start end d x none h = omega arith
open_snoc start end zero x (pair a b y i none) h = omega arith
open_snoc start end zero x (pair a b y i (pair a' b' y' i' r')) h =
    open_behind a b y i start end zero x (pair a' b' y' i' r') ∙ open_snoc start end zero x (pair a' b' y' i' r') (omega arith)
open_snoc start end (suc d) x (pair a b y i none) h = omega (arith, open_snoc start end d x i (omega arith))
open_snoc start end (suc d) x (pair a b y i (pair a' b' y' i' r')) h =
    open_behind a b y i start end (suc d) x (pair a' b' y' i' r') ∙ open_snoc start end (suc d) x (pair a' b' y' i' r') h

abbrev row_at : {X : Type 0} → (start end : ℕ) (x : X) (d : ℕ) → Row X
row_at start end x d = record { start = start; end = end; depth = d; x = x }

listed-snoc : {X : Type 0} (k start end d : ℕ) (x : X) (f : Forest X) → d ≤ open_levels f → listed k (snoc start end d x f) ≡ listed k f ++ row_at start end x (k + d) ∷ []
listed-snoc k start end d x none h = let e : k ≡ k + d = omega arith in ap (λ z. row_at start end x z ∷ []) e
listed-snoc k start end zero x (pair a b y i r) h =
    ap (λ z. row_at a b y k ∷ (listed (k + 1) i ++ z)) (listed-snoc k start end zero x r (omega arith))
    ∙ ap (λ z. row_at a b y k ∷ z) (sym (append_assoc (listed (k + 1) i) (listed k r) (row_at start end x (k + 0) ∷ [])))
listed-snoc k start end (suc d) x (pair a b y i none) h =
    let e : k + 1 + d ≡ k + suc d = omega arith in
    ap (λ z. row_at a b y k ∷ (z ++ [])) (listed-snoc (k + 1) start end d x i (omega arith) ∙ ap (λ z. listed (k + 1) i ++ row_at start end x z ∷ []) e)
    ∙ ap (λ z. row_at a b y k ∷ z) (append-nil (listed (k + 1) i ++ row_at start end x (k + suc d) ∷ []) ∙ ap (λ z. z ++ row_at start end x (k + suc d) ∷ []) (sym (append-nil (listed (k + 1) i))))
listed-snoc k start end (suc d) x (pair a b y i (pair a' b' y' i' r')) h =
    ap (λ z. row_at a b y k ∷ (listed (k + 1) i ++ z)) (listed-snoc k start end (suc d) x (pair a' b' y' i' r') h)
    ∙ ap (λ z. row_at a b y k ∷ z) (sym (append_assoc (listed (k + 1) i) (listed k (pair a' b' y' i' r')) (row_at start end x (k + suc d) ∷ [])))

build : {X : Type 0} (n : ℕ) (f : Forest X) (rs : List (Row X)) → unlawful_from (open_levels f) n (map (λ r. r.depth) rs) ≡ None → (g : Forest X) × (listed 0 g ≡ listed 0 f ++ rs)
build n f [] e = (f, sym (append-nil (listed 0 f)))
build n f (r ∷ rs) e =
    let a = allowed (open_levels f) n r.depth (map (λ r. r.depth) rs) e in
    let f' : Forest _ = snoc r.start r.end r.depth r.x f in
    let o : r.depth + 1 ≡ open_levels f' = sym (open_snoc r.start r.end r.depth r.x f a.0) in
    let z : 0 + r.depth ≡ r.depth = omega arith in
    let l : listed 0 f' ≡ listed 0 f ++ r ∷ [] = listed-snoc 0 r.start r.end r.depth r.x f a.0 ∙ ap (λ k. listed 0 f ++ row_at r.start r.end r.x k ∷ []) z in
    let b = build (n + 1) f' rs (subst (λ k. unlawful_from k (n + 1) (map (λ r. r.depth) rs) ≡ None) o a.2) in
    (b.0, b.1 ∙ ap (λ l. l ++ rs) l ∙ append_assoc (listed 0 f) (r ∷ []) rs)

-- depths with no unlawful index list a forest
pub forest_listed : {X : Type 0} (rs : List (Row X)) → unlawful (map (λ r. r.depth) rs) ≡ None → (f : Forest X) × (listed 0 f ≡ rs)
forest_listed rs e = build 0 none rs e

pub lawful_forest : {X : Type 0} (rs : List (Row X)) → Lawful (map (λ r. r.depth) rs) → (f : Forest X) × (listed 0 f ≡ rs)
lawful_forest rs w = forest_listed rs ((unlawful_none (map (λ r. r.depth) rs)).1 w)
