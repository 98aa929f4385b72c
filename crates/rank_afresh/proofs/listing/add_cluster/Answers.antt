use Rattle.std.proofs.Common.{◌≡◌, ◌+◌, ◌-◌, ◌<◌, ℕ, true, length, refl, ◌∙◌, arith, eqb-true}
use Rattle.std.specs.Prelude.{◌==◌}
use Rattle.rt_task.specs.declared.Parts.{Parts}
use Rattle.rt_rules.proofs.BoolLaws.{unless}
use Rattle.rt_rules.proofs.MemberLaws.{equal_self}
use Rattle.rank_afresh.proofs.SetLists.{at_home, home-read, kept-one, left-one}
use Rattle.rank_afresh.proofs.listing.add_cluster.Goals as goal
use Rattle.rank_afresh.proofs.listing.add_cluster.Goals.{then-task-home, else-task-home}

same-test : (m n : ℕ) → m ≡ n → m == n ≡ true
same-test m n e = rw e (equal_self n)

pub loop-i-preserved : goal.loop-i-preserved
loop-i-preserved c =
    let p : Parts = c.args.parts.now in
    let n : ℕ = length c.as_slice-task-items.result.now in
    let i : ℕ = c.loop-i.i in
    let some : 0 < n - i = omega (arith, c.loop-i-test.true) in
    let same : n - i - 1 ≡ n - (i + 1) = omega arith in
    let read = home-read p c.in-Some.home.0 i c.as_slice-task-items.result.now c.task-item.result c.as_slice-task-items.ensures c.loop-i-test.true c.task-item.is in
    elim c.if-task-home.branch [
      | then-task-home w ↦ record {
        leads = rw (← same, w.list-is) (kept-one (at_home p c.in-Some.home.0) _ c.loop-i.list.items w.push_reserved.new.self.items (record { 0 = i + 1 }) (n - i) some c.loop-i.invariant.leads (read ∙ same-test _ _ w.if-task-home.true) w.push_reserved.ensures.items);
        few = rw w.list-is (omega (arith, w.push_reserved.ensures.len, c.loop-i.invariant.few));
        room = rw w.list-is (w.push_reserved.ensures.capacity ∙ c.loop-i.invariant.room);
      }
      | else-task-home w ↦ record {
        leads = rw (← same, w.list-is) (left-one (at_home p c.in-Some.home.0) _ c.loop-i.list.items c.loop-i.list.items (record { 0 = i + 1 }) (n - i) some c.loop-i.invariant.leads (read ∙ unless _ (λ h. w.if-task-home.false (eqb-true _ _ h))) refl);
        few = rw w.list-is (omega (arith, c.loop-i.invariant.few));
        room = rw w.list-is c.loop-i.invariant.room;
      }
    ]
