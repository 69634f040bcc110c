use Rattle.std.proofs.Common.{◌≡◌, ◌+◌, length, drop, take, sym, ap, ◌∙◌, arith, rules}
use Rattle.std.proofs.lemmas.List.{take_all, take_rest}
use Rattle.text.specs.Characters.{characters}
use Rattle.lines.specs.Starts.{starts}
use Rattle.lines.proofs.Noting.{length-after}
use Rattle.lines.proofs.Reading.{last_line, last_start, last_start_is, line_col_front, starts_front}
use Rattle.lines.proofs.reads.read_line_col.Goals as goal

pub returns : goal.returns
returns c =
    let text = c.args.text.now in
    let from = c.map_or-from.result in
    let last : last_start text ≡ from = last_start_is text from (search rules) (search rules) (search rules) in
    let front : starts text ≡ starts (take from text) = starts_front text from (search rules) (search rules) in
    let line : 1 + c.count_line_feeds.result ≡ length (starts text) = omega (arith, c.count_line_feeds.ensures.value, length-after 0 (take from text), ap length front) in
    let column : c.count_characters.result ≡ last_line text = c.count_characters.ensures.value ∙ ap characters (take_rest text from) ∙ ap (λ n. characters (drop n text)) (sym last) in
    (λ i. (line i, 1 + column i)) ∙ sym (line_col_front text (length text) ∙ ap (λ q. (length (starts q), 1 + last_line q)) (take_all (length text) text (omega arith)))
