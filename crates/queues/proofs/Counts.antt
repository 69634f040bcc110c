-- How long a listing and a queue are.
use Rattle.std.proofs.Common.{◌≡◌, ℕ, ◌+◌, ◌*◌, ◌∷◌, length, refl, ◌∙◌, arith}
use Rattle.std.proofs.lemmas.List.{length-append, length-map}
use Rattle.queues.specs.Forests.{Forest, none, pair, ends, pairs, tokens, listed, written}
use Rattle.queues.specs.Records.{Carried, queue, token_of}

pub length-listed : {X : Type 0} (d : ℕ) (f : Forest X) → length (listed d f) ≡ pairs f
length-listed d none = refl
length-listed d (pair start end x inner rest) =
    omega (arith, length-append (listed (d + 1) inner) (listed d rest), length-listed (d + 1) inner, length-listed d rest)

pub length-written : {X : Type 0} (i : ℕ) (f : Forest X) → length (written i f) ≡ tokens f
length-written i none = refl
length-written i (pair start end x inner rest) =
    let j : ℕ = i + 1 + tokens inner + 1 in
    omega (arith, length-append (written (i + 1) inner) (ends i end x ∷ written j rest), length-written (i + 1) inner, length-written j rest)

pub two_each : {X : Type 0} (f : Forest X) → tokens f ≡ 2 * pairs f
two_each none = refl
two_each (pair start end x inner rest) = omega (arith, two_each inner, two_each rest)

pub length-queue : {R : Type 0} (i : ℕ) (f : Forest (Carried R)) → length (queue (written i f)) ≡ tokens f
length-queue i f = length-map (written i f) token_of ∙ length-written i f
