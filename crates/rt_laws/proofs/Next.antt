-- What the next event of a past does: who asks and who frees, and that a task which holds or waits goes on.
use Rattle.std.proofs.Common.{false, inl, inr, refl, true, ℕ, ◌∷◌, ◌≡◌, ◌⊎◌}
use Rattle.std.specs.Prelude.{Some}
use Rattle.rt_task.specs.declared.Act.TheVariants as acts
use Rattle.rt_task.specs.declared.Act.{Act}
use Rattle.rt_task.specs.declared.Op.TheVariants as ops
use Rattle.rt_rules.specs.Numbers.{has, is}
use Rattle.rt_rules.specs.SemState.{Asks}
use Rattle.rt_model.specs.Answers.{answer}
use Rattle.rt_model.specs.Group.{Group, sems}
use Rattle.rt_model.specs.Holders.{holder, sem_state}
use Rattle.rt_model.specs.Reachable.{IsReachable}
use Rattle.rt_model.specs.Outcomes.{past_act}
use Rattle.rt_model.specs.Past.{Acted, Event, Past, accepted, did, ends_job, now, sem_act}
use Rattle.rt_model.specs.Runs.{runs}
use Rattle.rt_model.specs.Semaphores.{cluster_of}
use Rattle.rt_model.specs.Sleep.{sleep_end}
use Rattle.rt_rules.proofs.BoolLaws.{clash, unless}
use Rattle.rt_laws.proofs.semaphores.Asked.{Asked, Freed, asked, freed}
use Rattle.rt_laws.proofs.jobs.Endings.{sleep-holds_nothing, sleep-is}
use Rattle.rt_laws.proofs.jobs.Engaged.{engaged, engaged-cases, engaged-step}
use Rattle.rt_laws.proofs.semaphores.Holding.{holds-none}
use Rattle.rt_laws.proofs.jobs.JobEnds.{ended-free}
use Rattle.rt_laws.proofs.Moves.{IsMove, clock_moves, cpu_acts}
use Rattle.rt_laws.proofs.srp.SrpState.{kept}
use Rattle.rt_laws.proofs.semaphores.Requests.{asks}
use Rattle.rt_laws.proofs.Rules.{MeetsRules}
use Rattle.rt_laws.proofs.jobs.Running.{running}

-- a task that holds or waits after an event does not fall asleep in it
awake-act : (g : Group) → MeetsRules g → {past : Past} → IsReachable g past → (q t s : ℕ) (act : Act) → has s (sems g) ≡ true → engaged g t s (Acted (past_act g q act past) ∷ past) ≡ true → sleep_end (now past) (did t (Acted (past_act g q act past))) ≡ 0
awake-act g rules {past} made q t s act there h = split (sleep-is g q t (now past) act past)
  where
    asleep : (n : ℕ) → act ≡ acts.Do (ops.Sleep n) → accepted (answer g q act past) ≡ true → runs q past ≡ Some t → (engaged g t s past ≡ true) ⊎ (sem_act (Acted (past_act g q act past)) ≡ Asks t s) → ⊥
    asleep n k a r (inr m) = let b : act ≡ acts.Do (ops.Lock (asks g q act past t s m).number) = (asks g q act past t s m).is_lock in cc
    asleep n k a r (inl m) = further (engaged-cases g t s past (kept g rules (cluster_of g s) made) m)
      where
        further : (is t (holder g s past) ≡ true) ⊎ (has t (sem_state g s past).waiting ≡ true) → ⊥
        further (inl o) = clash _ o (holds-none g t s past (sleep-holds_nothing g q t n past r (rw k at a)) there)
        further (inr o) = clash _ o ((running g rules made q t r).waits_none s there)

    split : (sleep_end (now past) (did t (Acted (past_act g q act past))) ≡ 0) ⊎ ((n : ℕ) × (act ≡ acts.Do (ops.Sleep n)) × (accepted (answer g q act past) ≡ true) × (runs q past ≡ Some t)) → sleep_end (now past) (did t (Acted (past_act g q act past))) ≡ 0
    split (inl k) = k
    split (inr k) = absurd (asleep k.0 k.1 k.2 k.3 (engaged-step g t s (Acted (past_act g q act past)) past h))

-- what the next event does: who asks, who frees, and that whoever is engaged after it goes on and stays awake
pub record IsNext (g : Group) (e : Event) (past : Past) : Type 0 where
  pub asked : Asked g e past
  pub freed : Freed g e past
  pub goes_on : (t s : ℕ) → has s (sems g) ≡ true → engaged g t s (e ∷ past) ≡ true → ends_job t e ≡ false
  pub awake : (t s : ℕ) → has s (sems g) ≡ true → engaged g t s (e ∷ past) ≡ true → sleep_end (now past) (did t e) ≡ 0

-- so does each move
pub next : (g : Group) → MeetsRules g → {past : Past} {e : Event} → IsReachable g past → IsMove g past e → IsNext g e past
next g rules {past} {e} made move = record {
  asked = asked g rules made move;
  freed = freed g move;
  goes_on = goes_on e move;
  awake = awake e move;
}
  where
    goes_on : (e : Event) → IsMove g past e → (t s : ℕ) → has s (sems g) ≡ true → engaged g t s (e ∷ past) ≡ true → ends_job t e ≡ false
    goes_on e (clock_moves tick) t s there h = refl
    goes_on e (cpu_acts q a) t s there h = unless _ (λ k. ended-free g rules made q t s a there k h)

    awake : (e : Event) → IsMove g past e → (t s : ℕ) → has s (sems g) ≡ true → engaged g t s (e ∷ past) ≡ true → sleep_end (now past) (did t e) ≡ 0
    awake e (clock_moves tick) t s there h = refl
    awake e (cpu_acts q a) t s there h = awake-act g rules made q t s a there h
