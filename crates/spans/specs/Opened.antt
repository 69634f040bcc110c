-- What making a span answers.
use Rattle.std.specs.Prelude.{◌≡◌, ℕ, List, Option, Result}
use Rattle.std.specs.Option.{option_map, option_or}
use Rattle.std.specs.Result.{result_err}
use Rattle.text.specs.Limits.{limited}
use Rattle.text.specs.Refusing.{Answers}
use Rattle.spans.specs.declared.faults.SpanFault.{SpanFault}
use Rattle.spans.specs.declared.faults.SpanFault.TheVariants.{Long, Unsound}
use Rattle.spans.specs.declared.spans.Span.{Span}
use Rattle.spans.specs.Sound.{spanned}

-- the limit's refusal, else the span's
abbrev pub span_fault : List ℕ → ℕ → ℕ → Option SpanFault
span_fault text start end =
    option_or (option_map Long (result_err (limited text))) (option_map Unsound (result_err (spanned text start end)))

-- s is that span of the text; its type says that it is sound
pub record IsSpan (text : List ℕ) (from to : ℕ) (s : Span) : Type 0 where
  pub input : s.input.now ≡ text
  pub start : s.start ≡ from
  pub end : s.end ≡ to

abbrev pub Opened : List ℕ → ℕ → ℕ → Result Span SpanFault → Type 0
Opened text start end r = Answers (span_fault text start end) (IsSpan text start end) r
