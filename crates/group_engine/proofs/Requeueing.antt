-- Putting the changed clients where they stand, one after the other.
use Rattle.std.proofs.Common.{◌≡◌, ℕ, ◌+◌, ◌<◌, ◌++◌, true, List, [], ◌∷◌, length, get_or, take, sym, ap, ◌∙◌, arith}
use Rattle.std.proofs.lemmas.List.{get_or-map, length-map, take_more}
use Rattle.rt_base.specs.TaskNos.{numbers}
use Rattle.rt_base.specs.declared.TaskNo.{TaskNo}
use Rattle.rt_rules.specs.Numbers.{has}
use Rattle.rt_task.specs.declared.Parts.{Parts}
use Rattle.group_core.specs.Facts.{WithRoom}
use Rattle.group_engine.specs.declared.state.GroupState.{GroupState}
use Rattle.group_engine.specs.inside.Touching.{CanRequeue, CanRequeueAll, all_requeued, requeued}
use Rattle.group_engine.proofs.UpdateLaws.{others-requeued}
use Rattle.group_engine.proofs.Updating.{all_requeued-push, can-requeue-all}
use Rattle.group_core.proofs.Words.{item-has}

-- some of the changed clients stand where they should
module _ (p : Parts) (start s : GroupState) (i : ℕ) (state_is : s ≡ all_requeued p (take i start.core.facts.resvs.changed) start) (ts : List TaskNo) (are : numbers ts ≡ s.core.facts.resvs.changed) where
  changed-same : numbers ts ≡ start.core.facts.resvs.changed
  changed-same = are ∙ ap (λ (x : GroupState). x.core.facts.resvs.changed) state_is ∙ ap (λ (c : WithRoom). c.facts.resvs.changed) (others-requeued p (take i start.core.facts.resvs.changed) start).core_same

  pub as-long : length ts ≡ length start.core.facts.resvs.changed
  as-long = sym (length-map ts (λ (t : TaskNo). t.0)) ∙ ap length changed-same

  module _ (low : i < length ts) where
    abbrev next : TaskNo
    next = get_or ts i (record { 0 = 0 })

    pub next-can : CanRequeueAll p start.core.facts.resvs.changed start → CanRequeue p next.0 s
    next-can can =
        let among : has next.0 start.core.facts.resvs.changed ≡ true = ap (has next.0) (sym changed-same) ∙ item-has ts i (record { 0 = 0 }) low in
        rw state_is (can-requeue-all p next.0 (take i start.core.facts.resvs.changed) start (can next.0 among))

    pub next-requeued : requeued p next.0 s ≡ all_requeued p (take (i + 1) start.core.facts.resvs.changed) start
    next-requeued =
        let number : next.0 ≡ get_or start.core.facts.resvs.changed i 0 = sym (get_or-map (λ (t : TaskNo). t.0) ts i (record { 0 = 0 }) 0 low) ∙ ap (λ xs. get_or xs i 0) changed-same in
        let more : take (i + 1) start.core.facts.resvs.changed ≡ take i start.core.facts.resvs.changed ++ get_or start.core.facts.resvs.changed i 0 ∷ [] = take_more start.core.facts.resvs.changed i 0 (omega (arith, low, as-long)) in
        ap (requeued p next.0) state_is
        ∙ sym (all_requeued-push p (take i start.core.facts.resvs.changed) next.0 start)
        ∙ ap (λ n. all_requeued p (take i start.core.facts.resvs.changed ++ n ∷ []) start) number
        ∙ ap (λ xs. all_requeued p xs start) (sym more)
