-- The number and the place of each refusal of a span.
use Rattle.text.specs.declared.refusals.Refusal.{Refusal}
use Rattle.text.specs.Faults.{too_long_refusal}
use Rattle.spans.specs.declared.faults.UnsoundSpan.{UnsoundSpan}
use Rattle.spans.specs.declared.faults.SpanFault.{SpanFault}
use Rattle.spans.specs.declared.faults.SpanFault.TheVariants.{Long, Unsound}

-- 11, unsound span: at its start offset
abbrev pub unsound_refusal : UnsoundSpan → Refusal
unsound_refusal f = record { number = 11; place = f.start }

-- 1, text over the limit, comes first
abbrev pub span_refusal : SpanFault → Refusal
span_refusal (Long f) = too_long_refusal f
span_refusal (Unsound f) = unsound_refusal f
