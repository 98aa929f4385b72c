use Rattle.std.proofs.Common.{◌≡◌, ◌∙◌, sym, ap, false}
use Rattle.std.specs.Prelude.{Option, None, Some, slice_set}
use Rattle.std.specs.Option.{is_some}
use Rattle.body_play.specs.declared.turn.Turn.{Turn}
use Rattle.body_play.specs.Turns.{Turns}
use Rattle.body_play.proofs.Rows.{looked-further, looked-past}
use Rattle.body_play.proofs.turns.Turns.look.Goals as goal

none-there : (o : Option Turn) → is_some o ≡ false → o ≡ None
none-there None h = cc
none-there (Some t) h = cc

pub returns-then-is_some : goal.returns-then-is_some
returns-then-is_some c = λ g past step qs at told.
    looked-further g past step qs c.args.self.now at c.args.cpu.0 c.args.is_none told c.row-row.result (sym c.row-row.ensures) (sym c.is_some.ensures ∙ c.if-is_some.true) c.put.new.self
    (c.put.ensures ∙ ap (λ (o : Option Turn). let w : Turns = record c.args.self.now { rows = slice_set c.args.self.now.rows c.args.cpu.0 o } in w) c.seen.ensures)

pub returns-else-is_some : goal.returns-else-is_some
returns-else-is_some c = λ g past step qs at told.
    looked-past g past step qs c.args.self.now at c.args.cpu.0 (sym c.row-row.ensures ∙ none-there c.row-row.result (sym c.is_some.ensures ∙ c.if-is_some.false))
