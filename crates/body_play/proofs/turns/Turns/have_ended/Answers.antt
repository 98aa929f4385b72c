use Rattle.std.proofs.Common.{◌≡◌, ℕ, ◌<◌, true, false, List, length, inl, inr, ap, ◌∙◌, arith}
use Rattle.std.specs.Prelude.{Option, None}
use Rattle.std.proofs.lemmas.Bool.{cases_lt}
use Rattle.std.proofs.lemmas.List.{get_or_past}
use Rattle.body_play.specs.declared.turn.Turn.{Turn}
use Rattle.body_play.specs.Turns.{Turns, row_ended, row_of}
use Rattle.body_play.proofs.Rows.{ended-row, row-ended}
use Rattle.body_play.proofs.turns.Turns.have_ended.Goals as goal

-- what holds of the rows that are there holds of all
each-row : (h : ℕ) (rows : List (Option Turn)) → ((q : ℕ) → q < length rows → row_ended h (row_of rows q) ≡ true) → (q : ℕ) → row_ended h (row_of rows q) ≡ true
each-row h rows all q = elim (cases_lt q (length rows)) [
  | inl low ↦ all q low
  | inr high ↦ ap (row_ended h) (get_or_past rows q None high)
]

pub returns-then-not-row_has_ended-clause-left : goal.returns-then-not-row_has_ended-clause-left
returns-then-not-row_has_ended-clause-left c = λ g past at no all.
    let v : Turns = c.args.self.now in
    let ended : row_ended v.horizon (row_of v.rows c.loop-row.row-index) ≡ true = ended-row g past v c.loop-row.row-index at all in
    let yes : c.row_has_ended.result ≡ true =
    c.row_has_ended.ensures ∙ ap (λ n. row_ended n (row_of c.deref-row-items.result.now c.loop-row.row-index)) (ap (λ (w : Turns). w.horizon) c.self.view_is)
    ∙ ap (λ (rows : List (Option Turn)). row_ended v.horizon (row_of rows c.loop-row.row-index)) (c.deref-row-items.ensures.value ∙ ap (λ (w : Turns). w.rows) c.self.view_is) ∙ ended in
    let found : c.row_has_ended.result ≡ false = c.if-not-row_has_ended.true in
    cc

pub returns-clause-ended : goal.returns-clause-ended
returns-clause-ended c = λ g past at yes q there.
    let v : Turns = c.args.self.now in
    let rows : c.deref-row-items.result.now ≡ v.rows = c.deref-row-items.ensures.value ∙ ap (λ (w : Turns). w.rows) c.self.view_is in
    row-ended g past v q at there (each-row v.horizon v.rows (λ p low. c.loop-row.invariant p (omega (arith, low, ap length rows, c.loop-row-test.false))) q)
