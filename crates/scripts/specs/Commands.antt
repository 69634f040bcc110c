-- What a line after the first orders.
use Rattle.std.specs.Prelude.{if◌then◌else◌, ℕ, Bool, true, false, List, drop, Ok, Err, codes, Result, Option, Some, None}
use Rattle.std.specs.Option.{option_map_or}
use Rattle.std.specs.Result.{result_map_both}
use Rattle.std.specs.Str.{bytes_eq}
use Rattle.scripts.specs.Numbers.{pair_of}
use Rattle.scripts.specs.Parts.{up_to}
use Rattle.scripts.specs.declared.commands.Command.{Command}
use Rattle.scripts.specs.declared.commands.Verb.{Verb}
use Rattle.scripts.specs.declared.commands.Verb.TheVariants as verb
use Rattle.scripts.specs.declared.commands.Command.TheVariants.{Text, Next, Rule, Open, Close, Tag, Show}
use Rattle.scripts.specs.declared.numbers.Misread.{Misread}
use Rattle.scripts.specs.declared.numbers.Pair.{Pair}

pub data Order : Type 0 where
  says : List ℕ → Order
  breaks : Order
  adds : Pair → Order
  opens : Pair → Order
  closes : Order
  tags : List ℕ → Order
  shows : Order

abbrev pub order_of : Command → Order
order_of (Text bytes) = says bytes.now
order_of Next = breaks
order_of (Rule pair) = adds pair
order_of (Open pair) = opens pair
order_of Close = closes
order_of (Tag bytes) = tags bytes.now
order_of Show = shows

abbrev pub orderly : {E : Type 0} → Result Command E → Result Order E
orderly r = result_map_both order_of (λ e. e) r

abbrev pub ending : Order → Bool
ending shows = true
ending _ = false

-- the order that a line's three numbers give
abbrev pub pair_order : (Pair → Order) → List ℕ → Result Order Misread
pair_order order line = result_map_both order (λ e. e) (pair_of line)

-- the lines that are one word
abbrev pub bare_order : List ℕ → Option Order
bare_order line =
    if bytes_eq line (codes "next") then Some breaks
    else if bytes_eq line (codes "show") then Some shows
    else if bytes_eq line (codes "close") then Some closes
    else None

abbrev pub verb_of : List ℕ → Option Verb
verb_of word =
    if bytes_eq word (codes "text") then Some verb.Text
    else if bytes_eq word (codes "tag") then Some verb.Tag
    else if bytes_eq word (codes "rule") then Some verb.Rule
    else if bytes_eq word (codes "open") then Some verb.Open
    else None

-- by the word before the first space: bytes after one space, or three numbers
abbrev pub verb_order : List ℕ → Option Verb → Result Order Misread
verb_order line (Some verb.Text) = Ok (says (drop 5 line))
verb_order line (Some verb.Tag) = Ok (tags (drop 4 line))
verb_order line (Some verb.Rule) = pair_order adds line
verb_order line (Some verb.Open) = pair_order opens line
verb_order line None = Err (record { at = 0 })

-- or the offset in the line of what is wrong with it
abbrev pub line_order : List ℕ → Result Order Misread
line_order line = option_map_or Ok (bare_order line) (verb_order line (verb_of (up_to 32 line)))
