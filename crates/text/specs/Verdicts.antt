-- What the test for a well-formed text answers.
use Rattle.std.specs.Prelude.{◌≡◌, ℕ, ◌<◌, ◌≤◌, List, length, Ok, Err, Result}
use Rattle.text.specs.declared.faults.TextFault.{TextFault}
use Rattle.text.specs.declared.faults.TextFault.TheVariants.{Long, Malformed}
use Rattle.text.specs.Limits.{text_limit}
use Rattle.text.specs.Splits.{WellFormed, Longest}

-- A text over the limit is refused with its length.
-- Within it the answer is Ok exactly when a split exists; else the place is where the longest split ends.
abbrev pub Tested : List ℕ → Result (Unit {0}) TextFault → Type 0
Tested text (Ok _) = (length text ≤ text_limit) × WellFormed text
Tested text (Err (Long f)) = (text_limit < length text) × (f.length ≡ length text)
Tested text (Err (Malformed at)) = (length text ≤ text_limit) × (Longest text at × (at < length text))
