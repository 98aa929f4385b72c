-- The clusters after an interrupt that is accepted.
use Rattle.std.proofs.Common.{◌≡◌, ℕ, Bool, true, false, not, ◌&&◌, refl, sym, ap, ◌∙◌}
use Rattle.std.specs.Prelude.{Option, None, Some, if◌then◌else◌, is_some}
use Rattle.rt_task.specs.declared.Act.TheVariants as acts
use Rattle.rt_rules.specs.declared.history.Reply.TheVariants as replies
use Rattle.rt_rules.specs.Numbers.{has, same}
use Rattle.rt_model.specs.Answers.{answer}
use Rattle.rt_model.specs.Group.{Group, cluster_with, clusters}
use Rattle.rt_model.specs.Links.{linked}
use Rattle.rt_model.specs.Outcomes.{past_act}
use Rattle.rt_model.specs.Past.{Acted, Past, accepted, now}
use Rattle.rt_model.specs.Runs.{runs}
use Rattle.rt_plays.specs.Homes.{IsProcessorOf}
use Rattle.link_table.specs.Linked.{Linked, after_irq, is_pending, link_of, runs_on, with_run}
use Rattle.group_jobs.specs.Facts.{CpuFacts, cpu_facts}
use Rattle.group_jobs.specs.FactMoves.{CountsNothing, with_act}
use Rattle.group_jobs.specs.Moves.{cpu_after}
use Rattle.group_jobs.specs.Replies.{irq_reply, run_reply}
use Rattle.group_jobs.proofs.CpuSteps.{cpu_is_counted}
use Rattle.group_jobs.proofs.JobSteps.{others_count_nothing}
use Rattle.cluster_table.specs.Clusters.{KeptCluster, after_take}
use Rattle.cluster_table.specs.Table.{changed_at}
use Rattle.group_engine.specs.declared.state.GroupState.{GroupState}
use Rattle.group_engine.specs.State.{IsAt, IsClusterAt}
use Rattle.group_engine.proofs.Running.{between-run, link-read, runs-read}
use Rattle.group_engine.proofs.Settling.{HasClusterBetween}

-- an interrupt that is accepted makes the processor run its link, which it did not run before
irq-accepted : (link running : Option ℕ) (np : Bool) → accepted (irq_reply link running np) ≡ true → (same link running ≡ false) × (irq_reply link running np ≡ run_reply link)
irq-accepted link running np = by_cases (same link running) np
  where
    by_cases : (b n : Bool) → accepted (if not b then (if n then replies.Deferred else run_reply link) else replies.Quiet) ≡ true
        → (b ≡ false) × ((if not b then (if n then replies.Deferred else run_reply link) else replies.Quiet) ≡ run_reply link)
    by_cases true n h = cc
    by_cases false true h = cc
    by_cases false false h = (refl, refl)

-- so it does in the table of links
after-pending : (l : Linked) (q : ℕ) → is_pending l q ≡ true → after_irq l q false ≡ with_run l q (link_of l q)
after-pending l q h = by_cases (is_pending l q) (is_some (runs_on l q)) h
  where
    by_cases : (a b : Bool) → a ≡ true → (if a && not (b && false) then with_run l q (link_of l q) else l) ≡ with_run l q (link_of l q)
    by_cases true true h = refl
    by_cases true false h = refl
    by_cases false b h = cc

module _ (g : Group) (q : ℕ) (inside : IsProcessorOf g q) (past : Past) (s : GroupState) (at : IsAt g past s) (np : Bool)
    (answer_is : irq_reply (linked g q past) (runs q past) np ≡ answer g q acts.Irq past) (done : accepted (answer g q acts.Irq past) ≡ true) where
  abbrev after : Past
  after = with_act g q acts.Irq past

  taken : (same (linked g q past) (runs q past) ≡ false) × (irq_reply (linked g q past) (runs q past) np ≡ run_reply (linked g q past))
  taken = irq-accepted (linked g q past) (runs q past) np (ap accepted answer_is ∙ done)

  -- what the processor runs after it
  runs-then : runs q after ≡ linked g q past
  runs-then =
      let nothing : CountsNothing g q acts.Irq past = (others_count_nothing g q past).1 in
      let told_is : answer g q acts.Irq past ≡ run_reply (linked g q past) = sym answer_is ∙ taken.1 in
      ap (λ (c : CpuFacts). c.runs) (cpu_is_counted g q acts.Irq past).own ∙ rw (nothing.ends_none, told_is) (by_link (linked g q past))
    where
      by_link : (o : Option ℕ) → (cpu_after (now past) acts.Irq (run_reply o) false (cpu_facts q past)).runs ≡ o
      by_link None = refl
      by_link (Some t) = refl

  change-own : (k : KeptCluster) → IsClusterAt g (cluster_with g q) past k → after_take q false k ≡ record k { linked = with_run k.linked q (runs q after) }
  change-own k is =
      let link : link_of k.linked q ≡ linked g q past = link-read g q inside past s at k is in
      let pending : is_pending k.linked q ≡ true = rw (link, runs-read g q inside past s at k is, taken.0) refl in
      ap (λ l. let x : KeptCluster = record k { linked = l } in x) (after-pending k.linked q pending ∙ ap (with_run k.linked q) (link ∙ sym runs-then))

  pub between-irq : (c : ℕ) → has c (clusters g) ≡ true → HasClusterBetween g c (Acted (past_act g q acts.Irq past)) past (changed_at (cluster_with g q) (after_take q false) s.clusters)
  between-irq =
      between-run g q inside acts.Irq past s at (changed_at (cluster_with g q) (after_take q false) s.clusters) (after_take q false) refl (λ k h is. change-own k is)
