-- The number and the place of each refusal of a script, and the line that is printed of it.
use Rattle.std.specs.Prelude.{ℕ, List, ◌∷◌, ◌++◌, codes, decimal}
use Rattle.text.specs.declared.refusals.Refusal.{Refusal}
use Rattle.builders.specs.Faults.{builder_refusal, build_refusal}
use Rattle.scripts.specs.declared.faults.ScriptFault.{ScriptFault}
use Rattle.scripts.specs.declared.faults.ScriptFault.TheVariants.{Other, NoRule, Builder, Build}
use Rattle.scripts.specs.declared.faults.ScriptRefusal.{ScriptRefusal}

abbrev pub refusal_of : ScriptFault → Refusal
-- 18, another or a missing line, a wrong number, or the size: at the offset in the script
refusal_of (Other place) = record { number = 18; place = place }
-- 17, code without a rule: at the code
refusal_of (NoRule code) = record { number = 17; place = code }
-- else as the builder refuses
refusal_of (Builder fault) = builder_refusal fault
refusal_of (Build fault) = build_refusal fault

-- `refused NUMBER PLACE LINE`
abbrev pub refusal_line : ScriptRefusal → List ℕ
refusal_line f = codes "refused " ++ (decimal (refusal_of f.fault).number ++ (32 ∷ (decimal (refusal_of f.fault).place ++ (32 ∷ decimal f.line))))
