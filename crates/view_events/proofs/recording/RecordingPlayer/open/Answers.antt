use Rattle.std.proofs.Common.{◌∙◌, [], ap, arith, length, map, subst, sym}
use Rattle.rt_base.specs.declared.ResvNo.{ResvNo}
use Rattle.rt_task.specs.declared.Parts.{Parts}
use Rattle.rt_plays.proofs.SetLimits.{sets_are_in_limits}
use Rattle.rt_model.specs.Group.{Group}
use Rattle.chart_texts.specs.Charts.{group_resvs}
use Rattle.span_feed.specs.Feeds.{IsFed}
use Rattle.view_events.proofs.recording.RecordingPlayer.open.Goals as goal

pub tasks_of-requires : goal.tasks_of-requires
tasks_of-requires c = omega (arith, (sets_are_in_limits c.args.setup.now c.parts-parts.ensures.valid).few_tasks, ap (λ (p : Parts). length p.tasks) c.parts-parts.ensures.parts)

pub resvs_of-requires : goal.resvs_of-requires
resvs_of-requires c = omega (arith, (sets_are_in_limits c.args.setup.now c.parts-parts.ensures.valid).few_resvs, ap (λ (p : Parts). length p.resvs) c.parts-parts.ensures.parts)

pub open-requires-2-clause-resvs : goal.open-requires-2-clause-resvs
open-requires-2-clause-resvs c =
    ap (map (λ (r : ResvNo). r.0)) c.as_slice-3.ensures.value ∙ c.in_ok-resvs.ensures
    ∙ ap (λ (p : Parts). let g : Group = record { setup = p; number = c.args.group.0 } in group_resvs g) c.parts-parts.ensures.parts
    ∙ ap group_resvs (sym (c.afresh.ensures.group ∙ c.in_ok-replay.ensures.group))

pub returns-clause-opened : goal.returns-clause-opened
returns-clause-opened c = (
  c.in_ok-replay.ensures.group,
  record {
    at = c.in_ok-replay.ensures.opened;
    fed = subst (λ (g : Group). IsFed g [] c.in_ok-feed.feed) c.afresh.ensures.group c.in_ok-feed.ensures;
    kept = c.in_ok-times.ensures.opened;
    tasks =
        c.in_ok-times.ensures.count ∙ ap length c.as_slice-4.ensures ∙ ap (λ (p : Parts). length p.tasks) c.parts-parts.ensures.parts
        ∙ sym (ap (λ (g : Group). length g.setup.tasks) c.in_ok-replay.ensures.group);
  },
)
