use Rattle.std.proofs.Common.{sym, ap, ◌∙◌}
use Rattle.std.proofs.lemmas.List.{take-map}
use Rattle.rt_rules.specs.Keys.{Ranked}
use Rattle.rt_rules.specs.Rankings.{tasks_of}
use Rattle.ready_queue.proofs.ReadyQueue.copy_first.Goals as goal

pub returns-clause-first : goal.returns-clause-first
returns-clause-first c =
    rw (← c.self.view_is) (c.copy_tasks.ensures.tasks ∙ ap tasks_of (c.as_slice.ensures ∙ c.self.invariant.0.top_is) ∙ sym (take-map (λ (r : Ranked). r.task) _ _))
