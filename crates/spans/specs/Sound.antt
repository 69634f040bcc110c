-- Which spans of a text are sound, and why one is not.
use Rattle.std.specs.Prelude.{◌≡◌, ℕ, ◌≤◌, true, if◌then◌else◌, not, List, length, Some, None, Option, Result, nat_lt}
use Rattle.std.specs.Option.{option_map}
use Rattle.text.specs.Characters.{boundary}
use Rattle.text.specs.Refusing.{unless}
use Rattle.spans.specs.declared.faults.SpanCause.{SpanCause}
use Rattle.spans.specs.declared.faults.SpanCause.TheVariants.{StartAfterEnd, EndPastText, StartInCharacter, EndInCharacter}
use Rattle.spans.specs.declared.faults.UnsoundSpan.{UnsoundSpan}

-- start ≤ end ≤ length, and both are boundaries
pub record Sound (text : List ℕ) (start end : ℕ) : Type 0 where
  pub order : start ≤ end
  pub within : end ≤ length text
  pub starts : boundary text start ≡ true
  pub ends : boundary text end ≡ true

-- the first cause that is true, or none
abbrev pub cause : List ℕ → ℕ → ℕ → Option SpanCause
cause text start end =
    if nat_lt end start then Some StartAfterEnd
    else if nat_lt (length text) end then Some EndPastText
    else if not (boundary text start) then Some StartInCharacter
    else if not (boundary text end) then Some EndInCharacter
    else None

-- a span with a cause is refused with its start and that cause
abbrev pub spanned : List ℕ → ℕ → ℕ → Result (Unit {0}) UnsoundSpan
spanned text start end = unless (option_map (λ why. record { start = start; cause = why }) (cause text start end)) tt
