use Rattle.std.proofs.Common.{◌∙◌, ◌+◌, ◌∷◌, ◌++◌, [], Bool, ap, refl, sym}
use Rattle.std.specs.Prelude.{if◌then◌else◌}
use Rattle.chart_feed.specs.EntryClocks.{EntriesKept}
use Rattle.chart_feed.proofs.Clocked.{noted}
use Rattle.chart_feed.proofs.entry_clocks.EntryClocks.note.Goals as goal

pub returns-in_ok-push : goal.returns-in_ok-push
returns-in_ok-push c = λ cs is.
    let old : EntriesKept = record { count = c.self.inside.count; first = c.self.inside.first; clocks = c.self.inside.clocks.items; after = c.self.inside.after } in
    noted c.args.window cs c.args.clock old c.push.new.self.items (c.self.view_is ∙ is)
    (c.in_ok-push.ensures.items ∙ ap (λ (b : Bool). if b then (old.clocks ++ c.args.clock ∷ []) else old.clocks) (sym c.if-is_in.true ∙ c.is_in.ensures))
    (c.self.inside.count + 1) c.first_after-self-inside.result c.after_window-self-inside.result refl c.first_after-self-inside.ensures c.after_window-self-inside.ensures

pub returns-else-is_in : goal.returns-else-is_in
returns-else-is_in c = λ cs is.
    let old : EntriesKept = record { count = c.self.inside.count; first = c.self.inside.first; clocks = c.self.inside.clocks.items; after = c.self.inside.after } in
    noted c.args.window cs c.args.clock old old.clocks (c.self.view_is ∙ is)
    (ap (λ (b : Bool). if b then (old.clocks ++ c.args.clock ∷ []) else old.clocks) (sym c.if-is_in.false ∙ c.is_in.ensures))
    (c.self.inside.count + 1) c.first_after-self-inside.result c.after_window-self-inside.result refl c.first_after-self-inside.ensures c.after_window-self-inside.ensures
