use Rattle.std.proofs.Common.{◌≡◌, ◌≤◌, ◌+◌, ◌∷◌, ℕ, List, [], length, get_or, sym, ap, ◌∙◌, subst, arith, length-append}
use Rattle.std.proofs.lemmas.List.{get_or_default}
use Rattle.rt_base.specs.declared.TheConstants.{MOST_STEPS}
use Rattle.rt_task.specs.declared.Parts.{Parts}
use Rattle.rt_rules.specs.declared.history.Entry.{Entry}
use Rattle.rt_model.specs.Group.{Group}
use Rattle.rt_model.specs.Histories.{IsLegal}
use Rattle.rt_plays.specs.Plays.{group_count, group_with}
use Rattle.rt_plays.specs.Groups.{AreStepsOf, GroupHistory, group_of}
use Rattle.set_plays.specs.declared.group_steps.GroupSteps.TheVariants.{Again}
use Rattle.set_plays.specs.GroupSteps.{AreStepsIn, group_told}
use Rattle.set_plays.proofs.GroupLaws.{all-push}
use Rattle.trace_text.proofs.GroupLaws.{groups-counted}
use Rattle.trace_text.proofs.LineLaws.{history_group}
use Rattle.trace_writer.proofs.GroupSequence.{legal-told, told-again}
use Rattle.trace_writer.proofs.engines.steps_again.Goals as goal

pub loop-group-preserved : goal.loop-group-preserved
loop-group-preserved c =
    let p : Parts = c.args.setup.now in
    let i : ℕ = c.loop-group.group-index in
    let item : GroupHistory = c.group-item.result in
    let es : List Entry = c.entries.result.now in
    let same : group_of item ≡ group_with p i = ap group_of c.group-item.is ∙ history_group p c.args.groups.now i item c.requires.groups c.loop-group-test.true in
    let steps : AreStepsOf (group_with p i) es = subst (AreStepsOf (group_with p i)) (sym c.entries.ensures.entries) (subst (λ (g : Group). AreStepsOf g item.entries) same c.entries.ensures.steps) in
    let few : length es ≤ MOST_STEPS = omega (arith, ap length c.entries.ensures.entries, c.entries.ensures.room) in
    let legal : IsLegal (group_with p i) es = subst (IsLegal (group_with p i)) (sym c.entries.ensures.entries) (subst (λ (g : Group). IsLegal g item.entries) same c.entries.ensures.legal) in
    let longer = c.in_ok-push.ensures.items in
    record {
      count = omega (arith, ap length longer, c.loop-group.invariant.count, length-append c.loop-group.steps.items (Again c.entries.result ∷ []));
      theirs = all-push (λ n x. AreStepsIn (group_with p n) x) c.loop-group.steps.items c.push.new.self.items i (Again c.entries.result) longer c.loop-group.invariant.count c.loop-group.invariant.theirs (steps, few);
      told = λ n d h low.
          all-push (λ m x. group_told p m x ≡ (get_or c.args.groups.now m h).entries) c.loop-group.steps.items c.push.new.self.items i (Again c.entries.result) longer c.loop-group.invariant.count
          (λ m e inside. c.loop-group.invariant.told m e h inside)
          (legal-told (group_with p i) [] es legal ∙ c.entries.ensures.entries ∙ ap (λ (x : GroupHistory). x.entries) (c.group-item.is ∙ get_or_default c.args.groups.now i item h c.loop-group-test.true))
          n d low;
    }

pub returns-clause-steps : goal.returns-clause-steps
returns-clause-steps c =
    let all : length c.args.groups.now ≡ group_count c.args.setup.now = groups-counted c.args.setup.now c.args.groups.now c.parts-parts.ensures.valid c.requires.groups in
    record { count = omega (arith, c.loop-group.invariant.count, c.loop-group-test.false, c.loop-group.auto.group-index-end, all); steps = c.loop-group.invariant.theirs }

pub returns-clause-told : goal.returns-clause-told
returns-clause-told c =
    told-again c.args.setup.now c.args.groups.now c.loop-group.steps.items 0 (omega (arith, c.loop-group.invariant.count, c.loop-group-test.false, c.loop-group.auto.group-index-end))
    (λ n d h low. subst (λ m. group_told c.args.setup.now m (get_or c.loop-group.steps.items n d) ≡ (get_or c.args.groups.now n h).entries) (let e : n ≡ 0 + n = omega arith in e) (c.loop-group.invariant.told n d h low))
