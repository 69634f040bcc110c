-- The number and the place of each refusal of a text.
use Rattle.text.specs.declared.refusals.Refusal.{Refusal}
use Rattle.text.specs.declared.faults.TooLong.{TooLong}
use Rattle.text.specs.declared.faults.TextFault.{TextFault}
use Rattle.text.specs.declared.faults.TextFault.TheVariants.{Long, Malformed}

-- 1, text over the limit: at its length
abbrev pub too_long_refusal : TooLong → Refusal
too_long_refusal f = record { number = 1; place = f.length }

-- 2, text not well-formed: at the offset of the first bad sequence
abbrev pub text_refusal : TextFault → Refusal
text_refusal (Long f) = too_long_refusal f
text_refusal (Malformed at) = record { number = 2; place = at }
