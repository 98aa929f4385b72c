use Rattle.std.proofs.Common.{◌≡◌, ◌+◌, ◌-◌, ◌<◌, ◌++◌, ℕ, true, [], List, length, get_or, refl, sym, ap, ◌∙◌, arith, eqb-true}
use Rattle.std.specs.Prelude.{filter, ◌==◌}
use Rattle.std.proofs.lemmas.List.{append-nil, get_or_read}
use Rattle.rt_base.specs.TaskNos.{numbers}
use Rattle.rt_task.specs.declared.Cluster.{Cluster}
use Rattle.rt_task.specs.declared.Parts.{Parts}
use Rattle.rt_task.specs.declared.Task.{Task}
use Rattle.rt_rules.specs.Numbers.{numbers_from}
use Rattle.rt_rules.proofs.BoolLaws.{unless}
use Rattle.rt_rules.proofs.MemberLaws.{equal_self}
use Rattle.rt_model.specs.Group.{no_task}
use Rattle.rank_afresh.proofs.SetLists.{is_of, kept-one, left-one, of-read, tasks-are}
use Rattle.rank_afresh.proofs.listing.list_group.Goals as goal
use Rattle.rank_afresh.proofs.listing.list_group.Goals.{then-clusters-task, else-clusters-task}

same-test : (m n : ℕ) → m ≡ n → m == n ≡ true
same-test m n e = rw e (equal_self n)

pub loop-i-preserved : goal.loop-i-preserved
loop-i-preserved c =
    let p : Parts = c.args.parts.now in
    let items : List Task = c.as_slice-task-items.result.now in
    let n : ℕ = length items in
    let i : ℕ = c.loop-i.i in
    let row : Task = c.task-item.result in
    let some : 0 < n - i = omega (arith, c.loop-i-test.true) in
    let same : n - i - 1 ≡ n - (i + 1) = omega arith in
    let inside : i < length p.tasks = omega (arith, c.loop-i-test.true, ap (λ (us : List Task). length us) c.as_slice-task-items.ensures) in
    let is : row ≡ get_or p.tasks i no_task = get_or_read p.tasks i row inside (c.task-item.is ∙ ap (λ (us : List Task). get_or us i row) c.as_slice-task-items.ensures) no_task in
    let there : row.cluster.0 < length c.as_slice-clusters.result.now = let low = (c.requires.limits.tasks_in i inside).cluster_there in omega (arith, low, ap (λ (t : Task). t.cluster.0) is, ap (λ (ks : List Cluster). length ks) c.as_slice-clusters.ensures) in
    let read : (d : Cluster) → is_of p c.args.group.0 (i + 1) ≡ ((get_or c.as_slice-clusters.result.now row.cluster.0 d).group.0 == c.args.group.0) =
    λ d. of-read p c.args.group.0 i items row c.as_slice-clusters.result.now d c.as_slice-task-items.ensures c.loop-i-test.true c.task-item.is c.as_slice-clusters.ensures there in
    elim c.if-clusters-task.branch [
      | then-clusters-task w ↦ record {
        leads = rw (← same, w.list-is) (kept-one (is_of p c.args.group.0) _ c.loop-i.list.items w.push_reserved.new.self.items (record { 0 = i + 1 }) (n - i) some c.loop-i.invariant.leads (read _ ∙ same-test _ _ w.if-clusters-task.true) w.push_reserved.ensures.items);
        few = rw w.list-is (omega (arith, w.push_reserved.ensures.len, c.loop-i.invariant.few));
        room = rw w.list-is (w.push_reserved.ensures.capacity ∙ c.loop-i.invariant.room);
      }
      | else-clusters-task w ↦ record {
        leads = rw (← same, w.list-is) (left-one (is_of p c.args.group.0) _ c.loop-i.list.items c.loop-i.list.items (record { 0 = i + 1 }) (n - i) some c.loop-i.invariant.leads (read _ ∙ unless _ (λ h. w.if-clusters-task.false (eqb-true _ _ h))) refl);
        few = rw w.list-is (omega (arith, c.loop-i.invariant.few));
        room = rw w.list-is c.loop-i.invariant.room;
      }
    ]

pub returns-clause-items : goal.returns-clause-items
returns-clause-items c =
    let p : Parts = c.args.parts.now in
    let n : ℕ = length c.as_slice-task-items.result.now in
    let none : n - c.loop-i.i ≡ 0 = omega (arith, c.loop-i-test.false) in
    let left : filter (is_of p c.args.group.0) (numbers_from (c.loop-i.i + 1) (n - c.loop-i.i)) ≡ [] = ap (λ m. filter (is_of p c.args.group.0) (numbers_from (c.loop-i.i + 1) m)) none in
    let whole : numbers c.loop-i.list.items ≡ numbers c.loop-i.list.items ++ filter (is_of p c.args.group.0) (numbers_from (c.loop-i.i + 1) (n - c.loop-i.i)) = rw left (sym (append-nil (numbers c.loop-i.list.items))) in
    whole ∙ c.loop-i.invariant.leads ∙ ap (λ (us : List Task). filter (is_of p c.args.group.0) (numbers_from 1 (length us))) c.as_slice-task-items.ensures ∙ sym (tasks-are p c.args.group.0)
