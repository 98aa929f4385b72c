use Rattle.std.proofs.Common.{◌≡◌, ◌++◌, ◌∷◌, [], List, Bool, false, Some, sym, ap, ◌∙◌, subst, arith}
use Rattle.rt_base.specs.TaskNos.{numbers}
use Rattle.rt_rules.specs.declared.history.Reply.TheVariants as replies
use Rattle.group_jobs.proofs.KeptMoves.{task-range}
use Rattle.split_rules.specs.PartHistories.{past_of}
use Rattle.split_rules.specs.PartSems.{awaiting}
use Rattle.split_rules.specs.Partitions.{part_group}
use Rattle.split_rules.specs.declared.SplitAct.TheVariants as split
use Rattle.split_rules.specs.declared.SplitEntry.{SplitEntry}
use Rattle.part_state.specs.States.{PartState}
use Rattle.part_player.specs.Kept.{IsKept}
use Rattle.part_player.specs.Players.{past_at, take_entry}
use Rattle.part_player.proofs.FinishLaws as laws
use Rattle.part_player.proofs.player.Player.take.Goals as goal

pub take-requires-clause-low : goal.take-requires-clause-low
take-requires-clause-low c =
    let waits = subst (λ a. awaiting c.args.task.0 (past_at a) ≡ Some c.args.sem.0) (sym c.self.view_is) c.requires.waits in
    let still = ap (λ a. a.begun) c.self.view_is ∙ c.requires.still in
    (task-range _ c.args.task.0 (laws.waiter-there _ _ _ _ _ _ _ _ _ c.self.invariant c.args.sem c.args.no c.args.task waits still)).0

pub take-requires-clause-high : goal.take-requires-clause-high
take-requires-clause-high c =
    let k = c.self.invariant in
    let waits = subst (λ a. awaiting c.args.task.0 (past_at a) ≡ Some c.args.sem.0) (sym c.self.view_is) c.requires.waits in
    let still = ap (λ a. a.begun) c.self.view_is ∙ c.requires.still in
    let high = (task-range _ c.args.task.0 (laws.waiter-there _ _ _ _ _ _ _ _ _ k c.args.sem c.args.no c.args.task waits still)).1 in
    let count = (laws.stands-still _ _ _ _ _ _ _ _ _ k still).kept.jobs_length in
    omega (arith, high, count)

pub invariant_of-self : goal.invariant_of-self
invariant_of-self c =
    let i = c.self.inside in
    let k = c.self.invariant in
    let waits = subst (λ a. awaiting c.args.task.0 (past_at a) ≡ Some c.args.sem.0) (sym c.self.view_is) c.requires.waits in
    let still = ap (λ a. a.begun) c.self.view_is ∙ c.requires.still in
    let clock = c.clock.ensures ∙ (laws.stands-still _ _ _ _ _ _ _ _ _ k still).kept.clock_is in
    let made : List SplitEntry = i.entries.items ++ take_entry (past_of (part_group i.setup i.cpu.0) i.cpu.0 i.entries.items) c.args.sem c.args.no c.args.task ∷ [] in
    let added : c.push_reserved.new.self.items ≡ made =
    c.push_reserved.ensures.items ∙ ap (λ n. i.entries.items ++ record { tick = record { 0 = n }; act = split.Take c.args.sem c.args.no c.args.task; reply = replies.Done } ∷ []) clock in
    subst (λ (es : List SplitEntry). IsKept i.setup i.cpu.0 es i.begun i.script.items i.played (numbers i.tasks.items) i.ceilings c.take.new.self) (sym added)
    (subst (λ (b : Bool). IsKept i.setup i.cpu.0 made b i.script.items i.played (numbers i.tasks.items) i.ceilings c.take.new.self) (sym still)
    (subst (λ (s : PartState). IsKept i.setup i.cpu.0 made false i.script.items i.played (numbers i.tasks.items) i.ceilings s) (sym (c.take.ensures c.args.no))
    (laws.taken _ _ _ _ _ _ _ _ _ k c.args.sem c.args.no c.args.task waits still)))
