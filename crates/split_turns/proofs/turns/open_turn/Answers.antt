use Rattle.std.proofs.Common.{◌≡◌, ◌+◌, ◌-◌, ◌<◌, ◌≤◌, ℕ, List, length, map, Some, sym, ap, ◌∙◌, arith}
use Rattle.std.specs.Prelude.{filter, slice_index_or, sum_by}
use Rattle.std.proofs.lemmas.List.{get_or_default}
use Rattle.rt_task.specs.declared.Cluster.{Cluster}
use Rattle.rt_task.specs.declared.Parts.{Parts}
use Rattle.rt_task.specs.declared.Sem.{Sem}
use Rattle.rt_task.specs.declared.Step.{Step}
use Rattle.rt_rules.specs.Numbers.{numbers_from}
use Rattle.rt_model.specs.Group.{no_sem, protocol, sem, task}
use Rattle.rt_plays.specs.Drives.{steps_given}
use Rattle.rt_plays.specs.Plays.{group_with}
use Rattle.rt_plays.specs.Room.{processor_count}
use Rattle.rt_plays.specs.Scripts.{script}
use Rattle.turn_cell.specs.SeatViews.{fresh_seats}
use Rattle.split_rules.specs.SemHistories.{seat_of}
use Rattle.split_laws.specs.Counts.{names_sem}
use Rattle.split_inbox.specs.Sums.{sum_of}
use Rattle.set_books.specs.SetBooks.{rule_of}
use Rattle.split_turns.specs.SplitTurns.{quota, quotas}
use Rattle.split_turns.proofs.ListLaws.{kept-within, length-mapped, lengths-within, map-same, script-count}
use Rattle.split_turns.proofs.SetLaws.{book-same}
use Rattle.split_turns.proofs.turns.open_turn.Goals as goal

pub counts-requires : goal.counts-requires
counts-requires c =
    let few = c.steps_of.ensures.few in
    let kept = kept-within (names_sem c.args.sem.0) c.steps_of.result.now in
    let uses = ap length c.in_ok-uses.ensures in
    let all = ap length c.as_slice-2.ensures.value in
    omega (arith, few, kept, uses, all)

pub overflow_cast-len : goal.overflow_cast-len
overflow_cast-len c =
    let few = c.steps_of.ensures.few in
    let kept = kept-within (names_sem c.args.sem.0) c.steps_of.result.now in
    let uses = ap length c.in_ok-uses.ensures in
    let all = ap length c.as_slice-2.ensures.value in
    let len = c.as_slice-2.ensures.len in
    let is = c.len.ensures in
    omega (arith, few, kept, uses, all, len, is)

pub open-requires-clause-tasks : goal.open-requires-clause-tasks
open-requires-clause-tasks c =
    let p : Parts = c.args.parts.now in
    let all_homes = ap length c.requires.homes ∙ length-mapped (λ t. seat_of (group_with p 0) t) 0 (length p.tasks + 1) in
    let all_prios = ap length c.in_ok-prios.ensures ∙ length-mapped (λ t. (task (group_with p 0) t).prio) 0 (length p.tasks + 1) in
    let few = c.requires.limits.few_tasks in
    (all_homes ∙ sym all_prios, omega (arith, all_prios, few))

pub open-requires-clause-room : goal.open-requires-clause-room
open-requires-clause-room c =
    let sum = ap sum_of c.in_ok-quotas.ensures in
    let within = lengths-within c.as_slice-2.result.now 0 c.cpu_count-cpus.result in
    let len = c.as_slice-2.ensures.len in
    let is = c.len.ensures in
    let low : sum_of c.in_ok-quotas.quotas.items ≤ c.len.result = omega (arith, sum, within, len, is) in
    low

pub returns : goal.returns
unfolding protocol sem
returns c =
    let p : Parts = c.args.parts.now in
    let s : ℕ = c.args.sem.0 in
    let cpus : c.cpu_count-cpus.result ≡ processor_count p = c.cpu_count-cpus.ensures ∙ ap (λ (ks : List Cluster). sum_by (λ (k : Cluster). k.cpus) ks) c.as_slice.ensures in
    let uses : c.as_slice-2.result.now ≡ filter (λ (x : Step). names_sem s x.act) (steps_given p.drive) =
    c.as_slice-2.ensures.value ∙ c.in_ok-uses.ensures ∙ ap (λ (xs : List Step). filter (λ (x : Step). names_sem s x.act) xs) c.steps_of.ensures.steps in
    let counted : c.in_ok-quotas.quotas.items ≡ quotas p s =
    c.in_ok-quotas.ensures
    ∙ ap (λ (xs : List Step). map (λ q. length (script xs q)) (numbers_from 0 c.cpu_count-cpus.result)) uses
    ∙ map-same (λ q. length (script (filter (λ (x : Step). names_sem s x.act) (steps_given p.drive)) q)) (quota p s)
    (λ q. script-count (names_sem s) q (steps_given p.drive)) (numbers_from 0 c.cpu_count-cpus.result)
    ∙ ap (λ n. map (quota p s) (numbers_from 0 n)) cpus in
    let low : s - 1 < length c.as_slice-3.result.now = let l = c.requires.low in let h = c.requires.high in let e = ap length c.as_slice-3.ensures in omega (arith, l, h, e) in
    let rule : c.rule_of-rule.result ≡ rule_of (protocol (group_with p 0) s) =
    c.rule_of-rule.ensures
    ∙ ap (λ (x : Sem). rule_of x.protocol) (get_or_default c.as_slice-3.result.now (s - 1) c.index-as_slice-sem.result no_sem low
    ∙ ap (λ (xs : List Sem). slice_index_or xs (s - 1) no_sem) c.as_slice-3.ensures) in
    record {
      cpus = c.in_ok-turn.ensures.turn.0 ∙ cpus;
      book = c.in_ok-turn.ensures.turn.1 ∙ ap Some (c.in_ok-book.ensures.about ∙ book-same c.args.sem _ _ _ _ _ _ _ _ rule c.requires.homes c.in_ok-prios.ensures counted);
      seats = c.in_ok-turn.ensures.seats ∙ ap (fresh_seats c.in_ok-turn.turn.cell) cpus;
    }
