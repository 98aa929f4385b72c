use Rattle.std.proofs.Common.{IsSome}
use Rattle.std.specs.FinMap as map
use Rattle.std.specs.Ordering.{nat_cmp}
use Rattle.std.specs.BTreeMap as tree
use Rattle.job_budget.specs.Accounts.{charged}
use Rattle.job_budget.proofs.AccountLaws.{get_entries, from_entries-updated, from_entries-replaced}
use Rattle.job_budget.proofs.Budgets.charge.Goals as goal
use Rattle.job_budget.proofs.Budgets.charge.Goals.{in-Some, in_default}

pub returns : goal.returns
returns c = elim c.match-get_mut.branch [
  | in-Some w ↦
      let found = w.in-Some.ensures.value in
      let there : IsSome (tree.get nat_cmp c.self.inside.accounts c.args.task.0) = rw (← found) in
      let each = ((c.get_mut.follows.holds (charged w.in-Some.account.now)).3 there).0 in
      rw (← c.self.view_is, w.self-inside-is, w.saturating_add-account.ensures) (record {
        account = rw (get_entries, ← found) (from_entries-updated _ _ c.args.task.0 (charged w.in-Some.account.now) each);
        same_tasks = from_entries-replaced _ _ c.args.task.0 w.in-Some.account.now _ found each;
      })
  | in_default w ↦
      let has : IsSome (map.get (map.from_entries {R = nat_cmp} c.self.inside.accounts.entries) c.args.task.0) = rw c.self.view_is c.requires in
      let there : IsSome (tree.get nat_cmp c.self.inside.accounts c.args.task.0) = rw get_entries at has in
      let none = w.in_default.ensures.value in
      absurd (let clash = rw (← none) at there in cc)
]
