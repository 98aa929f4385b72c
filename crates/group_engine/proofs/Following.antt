-- The clusters follow what an act makes its processor run.
use Rattle.std.proofs.Common.{◌≡◌, ℕ, Bool, true, false, not, ◌||◌, ◌&&◌, refl, sym, ap, ◌∙◌, subst}
use Rattle.std.specs.Prelude.{Option, None, Some, if◌then◌else◌, is_some, slice_index}
use Rattle.rt_base.specs.declared.TaskNo.{TaskNo}
use Rattle.rt_task.specs.declared.Act.{Act}
use Rattle.rt_task.specs.declared.Act.TheVariants as acts
use Rattle.rt_task.specs.declared.Kind.{Kind}
use Rattle.rt_task.specs.declared.Kind.TheVariants.{Periodic, Sporadic}
use Rattle.rt_task.specs.declared.Op.{Op}
use Rattle.rt_task.specs.declared.Op.TheVariants as ops
use Rattle.rt_task.specs.RuleWords.{is_stacked}
use Rattle.rt_task.specs.Validity.{IsValid}
use Rattle.rt_rules.specs.declared.history.Reply.{Reply}
use Rattle.rt_rules.specs.declared.history.Reply.TheVariants as replies
use Rattle.rt_rules.specs.Numbers.{has, is, is_empty, same}
use Rattle.rt_model.specs.Answers.{answer, arrival_answer, do_answer, is_granted, last_work, lock_answer, nests, no_budget, op_answer, unless_holding, unlock_answer, work_answer}
use Rattle.rt_model.specs.Group.{Group, cluster_with, clusters, declares, protocol}
use Rattle.rt_model.specs.Holders.{holder, holds, last_granted}
use Rattle.rt_model.specs.Links.{linked}
use Rattle.rt_model.specs.NonPreemptive.{non_preemptive}
use Rattle.rt_model.specs.Outcomes.{past_act}
use Rattle.rt_model.specs.Past.{Acted, Past, accepted, now}
use Rattle.rt_model.specs.Reachable.{IsReachable}
use Rattle.rt_model.specs.Runs.{leaves, runs, runs_by}
use Rattle.rt_model.specs.Steps.{IsActOf}
use Rattle.rt_plays.specs.Homes.{IsProcessorOf}
use Rattle.link_table.specs.Linked.{with_run}
use Rattle.group_jobs.specs.Facts.{CpuFacts}
use Rattle.group_jobs.specs.FactMoves.{CountsNothing, IsArrived, with_act}
use Rattle.group_jobs.specs.Kept.{cpu_of}
use Rattle.group_jobs.specs.Replies.{irq_reply, np_of}
use Rattle.group_jobs.proofs.CpuSteps.{cpu_is_counted, refused_stays}
use Rattle.group_jobs.proofs.JobSteps.{arrival_is_counted, others_count_nothing}
use Rattle.cluster_table.specs.Clusters.{KeptCluster, after_take, left_by}
use Rattle.cluster_table.specs.Table.{Table, changed_at}
use Rattle.group_core.specs.Facts.{Facts}
use Rattle.group_core.proofs.Acts.{reply-is, step-inside}
use Rattle.group_core.proofs.Looking.{runs-there}
use Rattle.group_engine.specs.declared.state.GroupState.{GroupState}
use Rattle.group_engine.specs.State.{IsAt}
use Rattle.group_engine.specs.inside.Touching.{run_updated}
use Rattle.group_engine.proofs.Interrupting.{between-irq}
use Rattle.group_engine.proofs.Running.{between-run, between-still}
use Rattle.group_engine.proofs.Settling.{HasClusterBetween}

-- ---- an answer to an operation or an arrival makes its processor run nothing else

abbrev Keeps : Reply → Type 0
Keeps r = (o : Option ℕ) → runs_by r o ≡ o

keeps-if : (b : Bool) (r r' : Reply) → Keeps r → Keeps r' → Keeps (if b then r else r')
keeps-if true r r' h k = h
keeps-if false r r' h k = k

keeps-two : (a b : Bool) (x y z : Reply) → Keeps x → Keeps y → Keeps z → Keeps (if a then x else (if b then y else z))
keeps-two a b x y z h k l = keeps-if a x (if b then y else z) h (keeps-if b y z k l)

keeps-rest : (g : Group) (t : ℕ) (np : Bool) (past : Past) → Keeps (if np then replies.InNp else unless_holding g t past)
unfolding unless_holding
keeps-rest g t np past = keeps-two np (is_empty (holds g t past)) replies.InNp replies.Done replies.Holding (λ o. refl) (λ o. refl) (λ o. refl)

keeps-lock : (g : Group) (s t : ℕ) (np : Bool) (past : Past) → Keeps (if np then replies.InNp else lock_answer g s t past)
unfolding lock_answer
keeps-lock g s t np past =
    let granted : Reply = if is_granted g (protocol g s) s t past then replies.Granted else replies.Queued in
    let nested : Bool = nests g (protocol g s) s t past in
    keeps-two np (not (declares g t s)) replies.InNp replies.NotDeclared (if nested then replies.Nested else granted) (λ o. refl) (λ o. refl)
    (keeps-two nested (is_granted g (protocol g s) s t past) replies.Nested replies.Granted replies.Queued (λ o. refl) (λ o. refl) (λ o. refl))

op-keeps : (g : Group) (op : Op) (q t : ℕ) (np : Bool) (past : Past) → Keeps (op_answer g op q t np past)
unfolding op_answer work_answer unlock_answer
op-keeps g ops.Work q t np past =
    keeps-two (same (last_work q past) (Some (now past))) (no_budget g g.setup.plugin t past) replies.Spent replies.NoBudget replies.Done (λ o. refl) (λ o. refl) (λ o. refl)
op-keeps g (ops.Lock s) q t np past = keeps-lock g s.0 t np past
op-keeps g (ops.Unlock s) q t np past =
    keeps-two (not (is t (holder g s.0 past))) (is_stacked (protocol g s.0) && not (is s.0 (last_granted g t past))) replies.NotHeld replies.NotLast replies.Done (λ o. refl) (λ o. refl) (λ o. refl)
op-keeps g (ops.Sleep n) q t np past = keeps-rest g t np past
op-keeps g ops.NpOn q t np past = keeps-if np replies.InNp replies.Done (λ o. refl) (λ o. refl)
op-keeps g ops.NpOff q t np past = keeps-if np replies.Done replies.NotInNp (λ o. refl) (λ o. refl)
op-keeps g ops.End q t np past = keeps-rest g t np past

do-keeps : (g : Group) (op : Op) (q : ℕ) (past : Past) → Keeps (answer g q (acts.Do op) past)
unfolding answer do_answer
do-keeps g op q past = by_run (runs q past)
  where
    by_run : (o : Option ℕ) → Keeps (do_answer g op q o past)
    by_run None = λ o. refl
    by_run (Some t) = op-keeps g op q t (non_preemptive t past) past

-- ---- what a processor runs after an act of it

arrival-done : (g : Group) (kind : Kind) (t : ℕ) (past : Past) → accepted (arrival_answer g kind t past) ≡ true → arrival_answer g kind t past ≡ replies.Done
unfolding arrival_answer
arrival-done g Periodic t past h = cc
arrival-done g Sporadic t past h = by_case _ h
  where
    by_case : (b : Bool) → accepted (if b then replies.Done else replies.TooEarly) ≡ true → (if b then replies.Done else replies.TooEarly) ≡ replies.Done
    by_case true k = refl
    by_case false k = cc

arrive-done : (g : Group) (q : ℕ) (t : TaskNo) (past : Past) → accepted (answer g q (acts.Arrive t) past) ≡ true → answer g q (acts.Arrive t) past ≡ replies.Done
unfolding answer
arrive-done g q t past h = arrival-done g _ t.0 past h

tick-done : (g : Group) (q : ℕ) (past : Past) → answer g q acts.Tick past ≡ replies.Done
unfolding answer
tick-done g q past = refl

module _ (g : Group) (valid : IsValid g.setup) (q : ℕ) (past : Past) (made : IsReachable g past) where
  tick-runs : runs q (with_act g q acts.Tick past) ≡ runs q past
  tick-runs =
      let nothing : CountsNothing g q acts.Tick past = (others_count_nothing g q past).0 in
      ap (λ (c : CpuFacts). c.runs) (cpu_is_counted g q acts.Tick past).own ∙ rw (tick-done g q past, nothing.ends_none) refl

  refused-runs : (act : Act) → accepted (answer g q act past) ≡ false → runs q (with_act g q act past) ≡ runs q past
  refused-runs act h = ap (λ (c : CpuFacts). c.runs) ((refused_stays g past valid made q act h).cpus q)

  arrive-runs : (t : TaskNo) → runs q (with_act g q (acts.Arrive t) past) ≡ runs q past
  arrive-runs t = by_reply (accepted (answer g q (acts.Arrive t) past)) refl
    where
      by_reply : (b : Bool) → accepted (answer g q (acts.Arrive t) past) ≡ b → runs q (with_act g q (acts.Arrive t) past) ≡ runs q past
      by_reply true e =
          let arrived : IsArrived g q t past = arrival_is_counted g q t past e in
          ap (λ (c : CpuFacts). c.runs) (cpu_is_counted g q (acts.Arrive t) past).own ∙ rw (arrived.ends_none, arrive-done g q t past e) refl
      by_reply false e = refused-runs (acts.Arrive t) e

  -- an operation leaves what its processor runs, or leaves it with nothing
  do-runs : (op : Op) (t : ℕ) → runs q (with_act g q (acts.Do op) past) ≡ Some t → runs q (with_act g q (acts.Do op) past) ≡ runs q past
  do-runs op t h =
      by_case (is_some (past_act g q (acts.Do op) past).ended || leaves (acts.Do op) (answer g q (acts.Do op) past)) (ap (λ (c : CpuFacts). c.runs) (cpu_is_counted g q (acts.Do op) past).own)
    where
      by_case : (b : Bool) → runs q (with_act g q (acts.Do op) past) ≡ (if b then None else runs_by (answer g q (acts.Do op) past) (runs q past))
          → runs q (with_act g q (acts.Do op) past) ≡ runs q past
      by_case true e = let none : None ≡ Some t = sym e ∙ h in cc
      by_case false e = e ∙ do-keeps g op q past (runs q past)

-- ---- the clusters

module _ (g : Group) (q : ℕ) (inside : IsProcessorOf g q) (past : Past) (s : GroupState) (at : IsAt g past s) where
  abbrev f : Facts
  f = s.core.facts

  valid : IsValid g.setup
  valid = at.core_fit.valid

  home-is : slice_index s.clusters.homes q ≡ cluster_with g q
  home-is = at.homes_are.are q inside

  abbrev AreBetween : Act → Table → Type 0
  AreBetween act t = (c : ℕ) → has c (clusters g) ≡ true → HasClusterBetween g c (Acted (past_act g q act past)) past t

  op-with_run : (op : Op) (reply : Reply) (o : Option ℕ) → o ≡ runs q (with_act g q (acts.Do op) past) → AreBetween (acts.Do op) (run_updated q (acts.Do op) reply o s.clusters)
  op-with_run op reply None is =
      subst (λ c. AreBetween (acts.Do op) (changed_at c (left_by q) s.clusters)) (sym home-is)
      (between-run g q inside (acts.Do op) past s at (changed_at (cluster_with g q) (left_by q) s.clusters) (left_by q) refl
      (λ k h i. ap (λ o. let x : KeptCluster = record k { linked = with_run k.linked q o } in x) is))
  op-with_run op reply (Some t) is = between-still g q (acts.Do op) past s at (do-runs g valid q past at.core_at.reachable op t (sym is))

  irq-is : IsActOf g acts.Irq → irq_reply (linked g q past) (runs q past) (np_of f.kept (cpu_of f.kept q).runs) ≡ answer g q acts.Irq past
  irq-is of =
      ap (λ o. irq_reply (linked g q past) o (np_of f.kept (cpu_of f.kept q).runs)) (sym (runs-there g f _ _ at.core_fit q inside past at.core_at))
      ∙ reply-is g f _ _ at.core_fit past at.core_at q acts.Irq (step-inside g q acts.Irq inside of) of (linked g q past) refl

  -- once the cluster of the processor has what that runs after the act, they are between
  pub between-with_run : (act : Act) → IsActOf g act → (reply : Reply) → reply ≡ answer g q act past → (o : Option ℕ) → o ≡ runs q (with_act g q act past)
      → AreBetween act (run_updated q act reply o s.clusters)
  between-with_run acts.Tick of reply told o is = between-still g q acts.Tick past s at (tick-runs g valid q past at.core_at.reachable)
  between-with_run acts.Irq of reply told o is = by_reply (accepted reply) refl
    where
      by_reply : (b : Bool) → accepted reply ≡ b → AreBetween acts.Irq (if b then changed_at (slice_index s.clusters.homes q) (after_take q false) s.clusters else s.clusters)
      by_reply true e =
          subst (λ c. AreBetween acts.Irq (changed_at c (after_take q false) s.clusters)) (sym home-is)
          (between-irq g q inside past s at (np_of f.kept (cpu_of f.kept q).runs) (irq-is of) (ap accepted (sym told) ∙ e))
      by_reply false e = between-still g q acts.Irq past s at (refused-runs g valid q past at.core_at.reachable acts.Irq (ap accepted (sym told) ∙ e))
  between-with_run (acts.Arrive t) of reply told o is = between-still g q (acts.Arrive t) past s at (arrive-runs g valid q past at.core_at.reachable t)
  between-with_run (acts.Do op) of reply told o is = op-with_run op reply o is

pub homes-with_run : (q : ℕ) (act : Act) (reply : Reply) (o : Option ℕ) (t : Table) → (run_updated q act reply o t).homes ≡ t.homes
homes-with_run q acts.Tick reply o t = refl
homes-with_run q acts.Irq reply o t = by_reply (accepted reply)
  where
    by_reply : (b : Bool) → (if b then changed_at (slice_index t.homes q) (after_take q false) t else t).homes ≡ t.homes
    by_reply true = refl
    by_reply false = refl
homes-with_run q (acts.Arrive u) reply o t = refl
homes-with_run q (acts.Do op) reply None t = refl
homes-with_run q (acts.Do op) reply (Some u) t = refl
