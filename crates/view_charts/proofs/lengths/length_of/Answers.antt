use Rattle.std.proofs.Common.{[], ◌∙◌, ◌+◌, ap, arith, length, refl, sym}
use Rattle.rt_plays.specs.Groups.{group_of, past}
use Rattle.rt_model.specs.Histories.{past_from, past_of}
use Rattle.rt_model.specs.Past.{now}
use Rattle.chart_texts.specs.Windows.{length_on}
use Rattle.view_charts.proofs.Longest.{entries-long, now-low, ticks-long}
use Rattle.view_charts.proofs.lengths.length_of.Goals as goal

pub overflow_add-result : goal.overflow_add-result
unfolding past_of
overflow_add-result c =
    let h = c.args.group.now in
    let low = now-low (group_of h) (group_of h) h.entries c.entries.ensures.steps in
    omega (arith, low, c.clock_after.ensures (group_of h) [] refl ∙ ap (λ es. now (past_from (group_of h) [] es)) c.entries.ensures.entries)

pub returns-in-Ticks : goal.returns-in-Ticks
unfolding past_of
returns-in-Ticks c =
    let h = c.args.group.now in
    ap (λ n. n + 1) (c.clock_after.ensures (group_of h) [] refl ∙ ap (λ es. now (past_from (group_of h) [] es)) c.entries.ensures.entries) ∙ sym (ticks-long (past h)) ∙ ap (λ a. length_on a (past h)) (sym c.in-Ticks.is)

pub returns-in-Entries : goal.returns-in-Entries
returns-in-Entries c =
    let h = c.args.group.now in
    ap length c.entries-in-Entries.ensures.entries ∙ sym (entries-long (group_of h) h.entries) ∙ ap (λ a. length_on a (past h)) (sym c.in-Entries.is)
