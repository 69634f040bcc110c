-- The number and the place of each refusal of a line table.
use Rattle.text.specs.declared.refusals.Refusal.{Refusal}
use Rattle.text.specs.Faults.{too_long_refusal}
use Rattle.lines.specs.declared.faults.LineFault.{LineFault}
use Rattle.lines.specs.declared.faults.LineFault.TheVariants.{Long, Short}

-- 12, buffer too short: at the amount needed
abbrev pub line_refusal : LineFault → Refusal
line_refusal (Long f) = too_long_refusal f
line_refusal (Short needed) = record { number = 12; place = needed }
