use Rattle.std.proofs.Common.{◌≡◌, ◌<◌, ℕ, true, List, sym, ap, ◌∙◌, subst, take, take_all, get_or}
use Rattle.rt_base.specs.TaskNos.{numbers}
use Rattle.rt_base.specs.declared.TaskNo.{TaskNo}
use Rattle.rt_rules.specs.Numbers.{has}
use Rattle.rank_afresh.specs.Visits.{IsHome, IsVisited, VisitFacts}
use Rattle.rank_afresh.proofs.Visiting.{homes-more, more-again}
use Rattle.rank_afresh.proofs.visits.Visits.add_homes.Goals as goal

pub loop-task-preserved : goal.loop-task-preserved
loop-task-preserved c =
    let v : VisitFacts = c.loop-task.self in
    let w : VisitFacts = c.add.new.self in
    let ts : List TaskNo = c.args.tasks.now in
    let i : ℕ = c.loop-task.task-index in
    let was : List ℕ = c.args.self.now.task_homes in
    let same : c.as_slice.result.now ≡ was = c.as_slice.ensures.value ∙ ap (λ (x : VisitFacts). x.task_homes) c.self.view_is ∙ ap (λ (x : VisitFacts). x.task_homes) c.loop-task.invariant.more.rest in
    record {
      more = more-again c.args.self.now v w c.loop-task.invariant.more c.add.ensures.more;
      homes = homes-more v w was ts i (record { 0 = 0 }) c.loop-task-test.true c.add.ensures.more c.loop-task.invariant.homes (λ n low here.
          c.add.ensures.added n (c.home_at-home.ensures n (subst (λ (hs : List ℕ). IsHome hs (get_or ts i (record { 0 = 0 })).0 n) (sym same) here))
          (subst (λ m. n < m) (ap (λ (x : VisitFacts). x.count) c.add.ensures.more.rest) low));
    }

pub returns-clause-homes : goal.returns-clause-homes
returns-clause-homes c = λ t h.
    let all : take c.loop-task.task-index c.args.tasks.now ≡ c.args.tasks.now = take_all c.loop-task.task-index c.args.tasks.now c.loop-task-test.false in
    subst (λ (hs : List ℕ). IsVisited c.loop-task.self hs t) (sym (ap (λ (x : VisitFacts). x.task_homes) c.loop-task.invariant.more.rest))
    (c.loop-task.invariant.homes t (subst (λ (us : List TaskNo). has t (numbers us) ≡ true) (sym all) h))
