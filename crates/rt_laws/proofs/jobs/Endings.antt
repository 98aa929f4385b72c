-- How a job ends or falls asleep: by an End, by force or by a Sleep, each of a task that holds nothing.
use Rattle.std.proofs.Common.{Bool, [], ap, eqb-true, false, inl, inr, leb-true, not, refl, true, ℕ, ◌&&◌, ◌∷◌, ◌≡◌, ◌≤◌, ◌⊎◌}
use Rattle.std.specs.Prelude.{None, Option, Some, if◌then◌else◌, nat_le}
use Rattle.rt_task.specs.declared.Act.TheVariants as acts
use Rattle.rt_task.specs.declared.Act.{Act}
use Rattle.rt_task.specs.declared.Op.TheVariants as ops
use Rattle.rt_task.specs.declared.Op.{Op}
use Rattle.rt_task.specs.declared.Protocol.TheVariants.{Fmlp, Mpcp, Omlp, Pcp, Srp}
use Rattle.rt_task.specs.declared.Protocol.{Protocol}
use Rattle.rt_rules.specs.declared.history.Reply.TheVariants as replies
use Rattle.rt_rules.specs.Fmlp.{fmlp_after}
use Rattle.rt_rules.specs.Mpcp.{mpcp_after}
use Rattle.rt_rules.specs.Numbers.{is, is_empty}
use Rattle.rt_rules.specs.Omlp.{omlp_after, omlp_sem_state}
use Rattle.rt_rules.specs.Pcp.{pcp_after, pcp_sem_state}
use Rattle.rt_rules.specs.SemState.{SemState, in_line}
use Rattle.rt_rules.specs.Srp.{srp_after, srp_sem_state}
use Rattle.rt_model.specs.Answers.{answer, do_answer, op_answer, unless_holding}
use Rattle.rt_model.specs.BaseKeys.{above}
use Rattle.rt_model.specs.Ceilings.{above_ceiling, at_cluster, pcp}
use Rattle.rt_model.specs.Group.{Group, cpus, protocol, task}
use Rattle.rt_model.specs.Holders.{holder, holds, sem_state, sem_state_by}
use Rattle.rt_model.specs.Jobs.{used}
use Rattle.rt_model.specs.NonPreemptive.{non_preemptive}
use Rattle.rt_model.specs.Outcomes.{attempt, ended, ended_by, is_spent, past_act}
use Rattle.rt_model.specs.Past.{Acted, Event, Past, accepted, did, operation, sem_act}
use Rattle.rt_model.specs.Runs.{runs}
use Rattle.rt_model.specs.Semaphores.{at_sem, cluster_of, fmlp, mpcp, omlp}
use Rattle.rt_model.specs.Sleep.{sleep_end}
use Rattle.rt_model.specs.StackPolicy.{srp, srp_at}
use Rattle.rt_rules.proofs.MemberLaws.{is-some}

-- the state of a semaphore depends on the request of an event alone
pub sem_state-sem_act : (g : Group) (s : ℕ) (e f : Event) (past : Past) → sem_act e ≡ sem_act f → sem_state g s (e ∷ past) ≡ sem_state g s (f ∷ past)
unfolding sem_state sem_state_by fmlp omlp mpcp pcp srp
sem_state-sem_act g s e f past h = by_protocol (protocol g s)
  where
    by_protocol : (p : Protocol) → sem_state_by g p s (e ∷ past) ≡ sem_state_by g p s (f ∷ past)
    by_protocol Fmlp = ap (λ x. in_line (fmlp_after (at_sem s x) (fmlp g s past))) h
    by_protocol Omlp = ap (λ x. omlp_sem_state (omlp_after (cpus g (cluster_of g s)) (above g past) (at_sem s x) (omlp g s past))) h
    by_protocol Mpcp = ap (λ x. mpcp_after (above g past) (at_sem s x) (mpcp g s past)) h
    by_protocol Srp = ap (λ x. srp_sem_state s (srp_after (srp_at g (cluster_of g s) x) (srp g (cluster_of g s) past))) h
    by_protocol Pcp = ap (λ x. pcp_sem_state s (pcp_after (above g []) (above_ceiling g) (at_cluster g (cluster_of g s) x) (pcp g (cluster_of g s) past))) h

pub holder-sem_act : (g : Group) (s : ℕ) (e f : Event) (past : Past) → sem_act e ≡ sem_act f → holder g s (e ∷ past) ≡ holder g s (f ∷ past)
unfolding holder
holder-sem_act g s e f past h = ap (λ (x : SemState). x.holder) (sem_state-sem_act g s e f past h)

pub ended-how : (g : Group) (q t : ℕ) (act : Act) (past : Past) → is t (past_act g q act past).ended ≡ true → (accepted (answer g q act past) ≡ true) × ((act ≡ acts.Do ops.End) ⊎ (is_spent g t (Acted (attempt g q act past) ∷ past) ≡ true))
unfolding past_act ended ended_by
ended-how g q t act past h = by_case (accepted (answer g q act past)) h
  where
    by_force : (u : ℕ) (b : Bool) → is_spent g u (Acted (attempt g q act past) ∷ past) ≡ b → is t (if b then Some u else None) ≡ true → is_spent g t (Acted (attempt g q act past) ∷ past) ≡ true
    by_force u true e k = rw (eqb-true t u k) e
    by_force u false e k = cc

    by_op : (op : Op) (o : Option ℕ) → is t (ended_by g (acts.Do op) o (attempt g q act past) past) ≡ true → (acts.Do op ≡ acts.Do ops.End) ⊎ (is_spent g t (Acted (attempt g q act past) ∷ past) ≡ true)
    by_op ops.End o k = inl refl
    by_op op None k = cc
    by_op op (Some u) k = inr (by_force u _ refl k)

    by_act : (a : Act) → is t (ended_by g a (runs q past) (attempt g q act past) past) ≡ true → (a ≡ acts.Do ops.End) ⊎ (is_spent g t (Acted (attempt g q act past) ∷ past) ≡ true)
    by_act acts.Tick k = cc
    by_act acts.Irq k = cc
    by_act (acts.Arrive u) k = cc
    by_act (acts.Do op) k = by_op op (runs q past) k

    by_case : (b : Bool) → is t (if b then ended_by g act (runs q past) (attempt g q act past) past else None) ≡ true → (b ≡ true) × ((act ≡ acts.Do ops.End) ⊎ (is_spent g t (Acted (attempt g q act past) ∷ past) ≡ true))
    by_case true k = (refl, by_act act k)
    by_case false k = cc

pub spent-parts : (enforce le empty np : Bool) → enforce && (le && (empty && not np)) ≡ true → (enforce ≡ true) × (le ≡ true) × (empty ≡ true) × (np ≡ false)
spent-parts true true true false h = (refl, refl, refl, refl)
spent-parts true true true true h = cc
spent-parts true true false np h = cc
spent-parts true false empty np h = cc
spent-parts false le empty np h = cc

pub end-holds_nothing : (g : Group) (q t : ℕ) (past : Past) → runs q past ≡ Some t → accepted (answer g q (acts.Do ops.End) past) ≡ true → is_empty (holds g t past) ≡ true
unfolding answer do_answer op_answer unless_holding
end-holds_nothing g q t past r a = by_cases (non_preemptive t past) (is_empty (holds g t past)) (rw r at a)
  where
    by_cases : (np b : Bool) → accepted (if np then replies.InNp else (if b then replies.Done else replies.Holding)) ≡ true → b ≡ true
    by_cases true b k = cc
    by_cases false true k = refl
    by_cases false false k = cc

-- a job that is ended by force
pub record IsSpent (g : Group) (t : ℕ) (past : Past) : Type 0 where
  pub enforced : (task g t).enforce ≡ true
  pub used_up : (task g t).cost ≤ used t past
  pub empty : is_empty (holds g t past) ≡ true
  pub preemptive : non_preemptive t past ≡ false

pub spent-facts : (g : Group) (t : ℕ) (past : Past) → is_spent g t past ≡ true → IsSpent g t past
unfolding is_spent
spent-facts g t past h =
    let q = spent-parts (task g t).enforce (nat_le (task g t).cost (used t past)) (is_empty (holds g t past)) (non_preemptive t past) h in
    record { enforced = q.0; used_up = leb-true (task g t).cost (used t past) q.1; empty = q.2; preemptive = q.3 }

pub same_request : (g : Group) (q : ℕ) (act : Act) (past : Past) → sem_act (Acted (past_act g q act past)) ≡ sem_act (Acted (attempt g q act past))
unfolding past_act attempt
same_request g q act past = refl

-- an accepted Sleep comes from a task that holds nothing
pub sleep-holds_nothing : (g : Group) (q t n : ℕ) (past : Past) → runs q past ≡ Some t → accepted (answer g q (acts.Do (ops.Sleep n)) past) ≡ true → is_empty (holds g t past) ≡ true
unfolding answer do_answer op_answer unless_holding
sleep-holds_nothing g q t n past r a = by_cases (non_preemptive t past) (is_empty (holds g t past)) (rw r at a)
  where
    by_cases : (np b : Bool) → accepted (if np then replies.InNp else (if b then replies.Done else replies.Holding)) ≡ true → b ≡ true
    by_cases true b k = cc
    by_cases false true k = refl
    by_cases false false k = cc

-- an act that takes a task's sleep further is an accepted Sleep of that task
pub sleep-is : (g : Group) (q t clock : ℕ) (act : Act) (past : Past) → (sleep_end clock (did t (Acted (past_act g q act past))) ≡ 0) ⊎ ((n : ℕ) × (act ≡ acts.Do (ops.Sleep n)) × (accepted (answer g q act past) ≡ true) × (runs q past ≡ Some t))
unfolding past_act
sleep-is g q t clock act past = by_case (is t (runs q past)) refl (accepted (answer g q act past))
  where
    by_op : (op : Op) → runs q past ≡ Some t → (sleep_end clock (Some op) ≡ 0) ⊎ ((n : ℕ) × (acts.Do op ≡ acts.Do (ops.Sleep n)) × (true ≡ true) × (runs q past ≡ Some t))
    by_op ops.Work r = inl refl
    by_op (ops.Lock n) r = inl refl
    by_op (ops.Unlock n) r = inl refl
    by_op (ops.Sleep n) r = inr (n, refl, refl, r)
    by_op ops.NpOn r = inl refl
    by_op ops.NpOff r = inl refl
    by_op ops.End r = inl refl

    by_act : (a : Act) → runs q past ≡ Some t → (sleep_end clock (operation a) ≡ 0) ⊎ ((n : ℕ) × (a ≡ acts.Do (ops.Sleep n)) × (true ≡ true) × (runs q past ≡ Some t))
    by_act acts.Tick r = inl refl
    by_act acts.Irq r = inl refl
    by_act (acts.Arrive u) r = inl refl
    by_act (acts.Do op) r = by_op op r

    by_case : (b : Bool) → is t (runs q past) ≡ b → (c : Bool) → (sleep_end clock (if b && c then operation act else None) ≡ 0) ⊎ ((n : ℕ) × (act ≡ acts.Do (ops.Sleep n)) × (c ≡ true) × (runs q past ≡ Some t))
    by_case true e true = by_act act (is-some t (runs q past) e)
    by_case true e false = inl refl
    by_case false e c = inl refl
