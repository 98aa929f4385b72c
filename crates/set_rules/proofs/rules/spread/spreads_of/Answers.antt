use Rattle.std.proofs.Common.{◌≡◌, ◌+◌, ◌<◌, List, length, get_or, cond, map, ap, sym, subst, ◌∙◌}
use Rattle.rt_base.specs.declared.SemNo.{SemNo}
use Rattle.rt_task.specs.declared.draft.DraftTask.{DraftTask}
use Rattle.set_rules.specs.declared.rules.spread.Spread.{Spread}
use Rattle.std.proofs.lemmas.List.{take_all}
use Rattle.rt_task.specs.RuleWords.{has}
use Rattle.set_rules.specs.inside.Spreads.{spread_of, added, clusters_among}
use Rattle.set_rules.proofs.SpreadLaws.{spread-task, clusters_sharing-all, get_or-written}
use Rattle.set_rules.proofs.rules.spread.spreads_of.Goals as goal

pub loop-p-init : goal.loop-p-init
loop-p-init c = record {
  count = c.in_ok-spreads.ensures.count ∙ ap length c.as_slice.ensures;
  spreads = λ i e h. c.in_ok-spreads.ensures.unused c.args.d.now i e (subst (λ n. i < n) (sym (ap length c.as_slice.ensures)) h);
}

pub loop-p-preserved : goal.loop-p-preserved
loop-p-preserved c = record {
  count = c.loop-p.invariant.count;
  spreads = λ i e h.
      let d = c.args.d.now in
      let now : List Spread = c.as_mut_slice.result.now in
      let new : List Spread = c.add_task.new.spreads in
      let x : DraftTask = c.p-item.result in
      let same : now ≡ c.loop-p.spreads.items = c.as_mut_slice.ensures.value in
      let count : length now ≡ c.loop-p.spreads.len = c.as_mut_slice.ensures.len in
      let step = c.add_task.ensures i e (subst (λ n. i < n) (sym (count ∙ c.loop-p.invariant.count)) h) in
      let plain : get_or new i e ≡ cond (has (i + 1) (map (λ (s : SemNo). s.0) x.uses)) (added d (get_or c.loop-p.spreads.items i e) x.cluster) (get_or c.loop-p.spreads.items i e) =
      step ∙ ap (λ (us : List SemNo). cond (has (i + 1) (map (λ (s : SemNo). s.0) us)) (added d (get_or now i e) x.cluster) (get_or now i e)) c.as_slice-in-loop-p.ensures
      ∙ ap (λ (zs : List Spread). cond (has (i + 1) (map (λ (s : SemNo). s.0) x.uses)) (added d (get_or zs i e) x.cluster) (get_or zs i e)) same in
      get_or-written c.loop-p.spreads.len new _ i e (c.add_task.auto.spreads ∙ count)
      ∙ spread-task d (i + 1) c.loop-p.p-index c.as_slice-p-items.result.now x (get_or c.loop-p.spreads.items i e) (get_or new i e) c.loop-p-test.true c.p-item.is (c.loop-p.invariant.spreads i e h) plain;
}

pub returns-clause-spreads : goal.returns-clause-spreads
returns-clause-spreads c = λ i e h.
    c.loop-p.invariant.spreads i e h
    ∙ ap (λ (ts : List DraftTask). spread_of c.args.d.now (clusters_among ts (i + 1))) (take_all c.loop-p.p-index c.as_slice-p-items.result.now c.loop-p-test.false ∙ c.as_slice-p-items.ensures)
    ∙ ap (spread_of c.args.d.now) (clusters_sharing-all c.args.d.now (i + 1))
