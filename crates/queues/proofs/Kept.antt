-- A list at the front of a slice, after a node more and after another tag.
use Rattle.std.proofs.Common.{◌≡◌, ℕ, zero, suc, ◌+◌, ◌-◌, ◌<◌, ◌≤◌, Bool, true, false, cond, ◌&&◌, leb, List, [], ◌∷◌, ◌++◌, length, get_or, take, drop, set, Some, None, Option, sym, refl, ap, ◌∙◌, add-zero, arith}
use Rattle.std.specs.Option.{option_map}
use Rattle.std.specs.List.{last_or, slice_get}
use Rattle.std.proofs.lemmas.List.{drop_more, length-map, length-take-le, map_push, take_more_set}
use Rattle.queues.specs.declared.records.Node.{Node}
use Rattle.queues.specs.declared.tokens.Tag.{Tag}
use Rattle.queues.specs.Lawful.{fault_after, most_after, unlawful, unlawful_from}
use Rattle.queues.specs.Lists.{retagged, with_tag}
use Rattle.queues.specs.Records.{depths}

-- the first unlawful index after one depth more at the end
push_cond : (t : Bool) (o : Option ℕ) (i most at d : ℕ) → cond t (fault_after o most at d) (Some i) ≡ fault_after (cond t o (Some i)) most at d
push_cond true o i most at d = refl
push_cond false o i most at d = refl

unlawful_push : (before : Option ℕ) (i : ℕ) (ds : List ℕ) (d : ℕ) → unlawful_from (most_after before) i (ds ++ d ∷ []) ≡ fault_after (unlawful_from (most_after before) i ds) (most_after (last_or before ds)) (i + length ds) d
unlawful_push before i [] d = rw add-zero refl
unlawful_push before i (e ∷ ds) d =
    let k : i + 1 + length ds ≡ i + suc (length ds) = omega arith in
    let t = leb e (most_after before) && leb e 255 in
    ap (λ o. cond t o (Some i)) (unlawful_push (Some e) (i + 1) ds d ∙ ap (λ n. fault_after (unlawful_from (e + 1) (i + 1) ds) (most_after (last_or (Some e) ds)) n d) k)
    ∙ push_cond t (unlawful_from (e + 1) (i + 1) ds) i (most_after (last_or (Some e) ds)) (i + suc (length ds)) d

-- the depth of the last of some nodes
last_depth : {R : Type 0} (before : Option ℕ) (m : Node R) (ns : List (Node R)) → last_or before (depths (m ∷ ns)) ≡ option_map (λ n. n.depth) (slice_get (m ∷ ns) (length ns))
last_depth before m [] = refl
last_depth before m (n ∷ ns) = last_depth (Some m.depth) n ns

pub front_last : {R : Type 0} (ns : List (Node R)) → last_or None (depths ns) ≡ option_map (λ n. n.depth) (slice_get ns (length ns - 1))
front_last [] = refl
front_last (m ∷ ns) = let e : length (m ∷ ns) - 1 ≡ length ns = omega arith in rw e (last_depth None m ns)

-- a node more
pub push_fault : {R : Type 0} (xs : List (Node R)) (len : ℕ) (n : Node R) (before fault : Option ℕ) → len < length xs → before ≡ option_map (λ m. m.depth) (slice_get (take len xs) (length (take len xs) - 1)) → fault ≡ unlawful (depths (take len xs)) → fault_after fault (most_after before) len n.depth ≡ unlawful (depths (take (len + 1) (set xs len n)))
push_fault xs len n before fault l b f =
    let ds = depths (take len xs) in
    let le : len ≤ length xs = omega arith in
    let k : len ≡ 0 + length ds = omega (arith, length-map (take len xs) (λ m. m.depth), length-take-le len xs le) in
    let pushed : unlawful (ds ++ n.depth ∷ []) ≡ unlawful (depths (take (len + 1) (set xs len n))) = ap unlawful (sym (map_push (λ m. m.depth) (take len xs) n)) ∙ ap (λ ms. unlawful (depths ms)) (sym (take_more_set xs len n l)) in
    (λ i. fault_after (f i) (most_after ((b ∙ sym (front_last (take len xs))) i)) (k i) n.depth) ∙ sym (unlawful_push None 0 ds n.depth) ∙ pushed

-- another tag
pub retag_front : {R : Type 0} (xs : List (Node R)) (len i : ℕ) (d : Node R) (t : Tag) → i < len → len ≤ length xs → take len (set xs i (with_tag (get_or xs i d) t)) ≡ retagged (take len xs) i t
retag_front [] len i d t l h = absurd (omega arith)
retag_front (x ∷ xs) zero i d t l h = absurd (omega arith)
retag_front (x ∷ xs) (suc len) zero d t l h = refl
retag_front (x ∷ xs) (suc len) (suc i) d t l h = ap (λ ys. x ∷ ys) (retag_front xs len i d t (omega arith) (omega arith))

pub retag_past : {R : Type 0} (xs : List (Node R)) (len i : ℕ) (t : Tag) → len ≤ i → retagged (take len xs) i t ≡ take len xs
retag_past xs zero i t h = refl
retag_past [] (suc len) i t h = refl
retag_past (x ∷ xs) (suc len) zero t h = absurd (omega arith)
retag_past (x ∷ xs) (suc len) (suc i) t h = ap (λ ys. x ∷ ys) (retag_past xs len i t (omega arith))

-- another node of the same depth
pub kept_depths : {R : Type 0} (xs : List (Node R)) (len i : ℕ) (d m : Node R) → i < len → len ≤ length xs → m.depth ≡ (get_or xs i d).depth → depths (take len (set xs i m)) ≡ depths (take len xs)
kept_depths [] len i d m l h e = absurd (omega arith)
kept_depths (x ∷ xs) zero i d m l h e = absurd (omega arith)
kept_depths (x ∷ xs) (suc len) zero d m l h e = ap (λ k. k ∷ depths (take len xs)) e
kept_depths (x ∷ xs) (suc len) (suc i) d m l h e = ap (λ ks. x.depth ∷ ks) (kept_depths xs len i d m (omega arith) (omega arith) e)

-- the depths from a node on
pub depths_more : {R : Type 0} (nodes : List (Node R)) (i : ℕ) (n : Node R) → i < length nodes → n ≡ get_or nodes i n → depths (drop i nodes) ≡ n.depth ∷ depths (drop (i + 1) nodes)
depths_more nodes i n l e = ap depths (drop_more nodes i n l) ∙ ap (λ m. m.depth ∷ depths (drop (i + 1) nodes)) (sym e)
