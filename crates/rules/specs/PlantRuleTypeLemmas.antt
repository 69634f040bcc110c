-- Each code below twelve has its rule: a rule in a list whose codes go up by one from k on.
use Rattle.std.specs.Prelude.{◌≡◌, ℕ, zero, suc, ◌+◌, ◌<◌, Bool, true, ◌&&◌, IsTrue, List, [], ◌∷◌, length, ◌==◌}
use Rattle.std.proofs.Common.{arith}
use Rattle.std.proofs.lemmas.Grind.{common_steps}
use Rattle.rules.specs.declared.plant.PlantRule.{PlantRule}
use Rattle.rules.specs.Codes.{plant_code}

-- whether the rules have the codes from k on
abbrev pub in_turn : ℕ → List PlantRule → Bool
in_turn k [] = true
in_turn k (x ∷ xs) = plant_code x == k && in_turn (suc k) xs

pub nth : (k n : ℕ) (xs : List PlantRule) → IsTrue (in_turn k xs) → n < length xs → (x : PlantRule) × (plant_code x ≡ k + n)
nth k n [] t h = absurd (omega arith)
nth k zero (x ∷ xs) t h = (x, grind (arith, common_steps))
nth k (suc n) (x ∷ xs) t h =
    let r = nth (suc k) n xs (grind (arith, common_steps)) (omega arith) in
    (r.0, omega (arith, r.1))
