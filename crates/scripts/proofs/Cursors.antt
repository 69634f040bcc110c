-- A line taken off what is left of a script, and what the lines left come to.
use Rattle.std.proofs.Common.{◌≡◌, ℕ, ◌+◌, true, false, List, [], ◌∷◌, length, Some, None, Ok, Err, Option, Result, sym, refl, ap, ◌∙◌, MatchResult, ok_or, arith}
use Rattle.std.specs.Result.{result_map_both}
use Rattle.text.specs.Refusing.{unless}
use Rattle.scripts.specs.Commands.{Order, ending, line_order}
use Rattle.scripts.specs.Cursors.{IsNext, order_at, outcome_of, shown_of}
use Rattle.scripts.specs.Kinds.{kind_codes, kind_of}
use Rattle.scripts.specs.Lines.{lines}
use Rattle.scripts.specs.Outcomes.{after_show, blank, line_refusal, refused, started}
use Rattle.scripts.specs.Steps.{Drawn, stepped}
use Rattle.scripts.specs.declared.cursor.Cursor.{Cursor}
use Rattle.scripts.specs.declared.cursor.Line.{Line}
use Rattle.scripts.specs.declared.faults.ScriptFault.{ScriptFault}
use Rattle.scripts.specs.declared.faults.ScriptRefusal.{ScriptRefusal}
use Rattle.scripts.specs.declared.kinds.Kind.{Kind}
use Rattle.scripts.specs.declared.numbers.Misread.{Misread}
use Rattle.scripts.proofs.Turns.{lines_step, Taken, taken, adds, shows, stops, refuses, kinds, unkind}

-- where anything is left, a line is
pub followed : (line place : ℕ) (rest : List ℕ) → (length rest ≡ 0 → ⊥) → Err (line_refusal line place) ≡ unless (after_show line place (lines rest)) (tt {0})
followed line place [] h = absurd (h refl)
followed line place (b ∷ bs) h = rw (lines_step b bs)

-- a line's order, without what its refusal would be
pub ordered : (l : Line) (o : Order) → Ok o ≡ order_at l → Ok o ≡ line_order l.bytes.now
ordered l o is = of (line_order l.bytes.now) is
  where
    of : (r : Result Order Misread) → Ok o ≡ result_map_both (λ o. o) (λ e. line_refusal l.number (l.place + e.at)) r → Ok o ≡ r
    of (Ok k) e = cc
    of (Err m) e = let z : ◌≡◌ {A = ℕ} 0 1 = cc in absurd (omega arith)

module _ {before after : Cursor} {l : Line} (n : IsNext before after l) where
  pub took : Taken before.rest.now l.bytes.now after.rest.now
  took = taken before.rest.now l.bytes.now after.rest.now n.first

  -- a line that is done, that ends the script, that is not done, and that is another
  pub goes_on : (codes : ℕ) (d d' : Drawn) (o : Order) → Ok o ≡ line_order l.bytes.now → false ≡ ending o → stepped codes o d ≡ Ok d' → outcome_of codes d before ≡ outcome_of codes d' after
  goes_on codes d d' o is goes step = rw (n.size, n.line) (adds codes before.size before.line d d' before.rest.now l.bytes.now after.rest.now o before.within took is goes step)

  pub ends_at : (codes : ℕ) (d : Drawn) (o : Order) → Ok o ≡ line_order l.bytes.now → true ≡ ending o → outcome_of codes d before ≡ shown_of l.number d after
  ends_at codes d o is ends = rw (n.size, n.number) (shows codes before.size before.line d before.rest.now l.bytes.now after.rest.now o before.within took is ends)

  pub stops_at : (codes : ℕ) (d : Drawn) (o : Order) (f : ScriptFault) → Ok o ≡ line_order l.bytes.now → false ≡ ending o → stepped codes o d ≡ Err f → outcome_of codes d before ≡ refused (record { line = l.number; fault = f })
  stops_at codes d o f is goes step = rw n.number (stops codes before.size before.line d before.rest.now l.bytes.now after.rest.now o f took is goes step)

  pub refused_at : (codes : ℕ) (d : Drawn) (e : Misread) → Err e ≡ line_order l.bytes.now → outcome_of codes d before ≡ refused (line_refusal l.number (l.place + e.at))
  refused_at codes d e is = rw (n.number, n.place) (refuses codes before.size before.line e d before.rest.now l.bytes.now after.rest.now took is)

  pub command_refused : (codes : ℕ) (d : Drawn) (f : ScriptRefusal) → Err f ≡ order_at l → outcome_of codes d before ≡ refused f
  command_refused codes d f is = of (line_order l.bytes.now) refl is
    where
      of : (r : Result Order Misread) → r ≡ line_order l.bytes.now → Err f ≡ result_map_both (λ o. o) (λ e. line_refusal l.number (l.place + e.at)) r → outcome_of codes d before ≡ refused f
      of (Ok o) e is = let z : ◌≡◌ {A = ℕ} 0 1 = cc in absurd (omega arith)
      of (Err m) e is = let same : f ≡ line_refusal l.number (l.place + m.at) = cc in refused_at codes d m e ∙ ap refused (sym same)

  -- the first line of a script
  pub kind_at : before.line ≡ 1 → before.size ≡ length before.rest.now → (o : Option Kind) (f : ScriptRefusal) (r : Result Kind ScriptRefusal) → o ≡ kind_of l.bytes.now → f ≡ line_refusal l.number (l.place + 0) → r ≡ ok_or o f → MatchResult r (λ kind. started before.rest.now ≡ outcome_of (kind_codes kind) blank after) (λ g. started before.rest.now ≡ refused g)
  kind_at one whole (Some k) f r is wrong e =
      let s : after.size ≡ length before.rest.now = n.size ∙ whole in
      let m : after.line ≡ 2 = omega (arith, n.line) in
      rw e (rw (s, m) (kinds before.rest.now l.bytes.now after.rest.now k took is))
  kind_at one whole None f r is wrong e =
      let p : l.place + 0 ≡ 0 = omega (arith, n.place) in
      let m : l.number ≡ 1 = n.number ∙ one in
      rw e (unkind before.rest.now l.bytes.now after.rest.now took is ∙ ap refused (sym (rw (m, p) at wrong)))
