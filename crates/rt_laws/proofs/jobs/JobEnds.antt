-- A job that holds or waits does not end: it ends by an End, or by force, and then it holds nothing and waits for nothing.
use Rattle.std.proofs.Common.{Bool, arith, false, inl, inr, leb-false, not, refl, true, ℕ, ◌&&◌, ◌+◌, ◌<◌, ◌∙◌, ◌∷◌, ◌≡◌, ◌≤◌, ◌⊎◌}
use Rattle.std.specs.Prelude.{None, Option, Some, if◌then◌else◌, nat_le}
use Rattle.rt_base.specs.declared.SemNo.{SemNo}
use Rattle.rt_task.specs.declared.Act.TheVariants as acts
use Rattle.rt_task.specs.declared.Act.{Act}
use Rattle.rt_task.specs.declared.Op.TheVariants as ops
use Rattle.rt_task.specs.declared.Op.{Op}
use Rattle.rt_rules.specs.Numbers.{has, is, is_empty}
use Rattle.rt_rules.specs.SemState.{Asks, Frees, Neither}
use Rattle.rt_model.specs.Answers.{answer, is_granted}
use Rattle.rt_model.specs.Group.{Group, protocol, sems, task, tasks}
use Rattle.rt_model.specs.Holders.{holder, holds, sem_state}
use Rattle.rt_model.specs.Jobs.{this_job, used}
use Rattle.rt_model.specs.Reachable.{IsReachable, acted}
use Rattle.rt_model.specs.NonPreemptive.{non_preemptive, np_after}
use Rattle.rt_model.specs.Outcomes.{attempt, ended, ended_by, is_spent, past_act}
use Rattle.rt_model.specs.Past.{Acted, Clock, Event, Past, PastAct, accepted, did, ends_job, is_work, operation, sem_act, sem_act_of}
use Rattle.rt_model.specs.Runs.{runs}
use Rattle.rt_model.specs.Semaphores.{cluster_of}
use Rattle.rt_rules.proofs.BoolLaws.{clash}
use Rattle.rt_rules.proofs.MemberLaws.{equal_self, is-some, none-empty}
use Rattle.rt_model.proofs.Steps.{used-step}
use Rattle.rt_laws.proofs.semaphores.Asked.{Freed, freed}
use Rattle.rt_laws.proofs.jobs.Endings.{IsSpent, end-holds_nothing, ended-how, holder-sem_act, same_request, spent-facts}
use Rattle.rt_laws.proofs.jobs.Engaged.{IsKept, engaged, engaged-cases, engaged-step, holder-stays}
use Rattle.rt_laws.proofs.semaphores.Holding.{holds-none, one-holds}
use Rattle.rt_laws.proofs.Moves.{IsMove, by_moves, clock_moves, cpu_acts, moved}
use Rattle.rt_laws.proofs.semaphores.Requests.{IsAsk, IsUnlock, asks, unlock-of}
use Rattle.rt_laws.proofs.Rules.{MeetsRules}
use Rattle.rt_laws.proofs.srp.SrpState.{kept}
use Rattle.rt_laws.proofs.jobs.Running.{IsRunning, ended-runs, running}
use Rattle.rt_laws.proofs.semaphores.Waiting.{waiting-step}

-- ---- what a request says of the operation

-- who frees a semaphore does an operation
frees-did : (t s : ℕ) (e : Event) → sem_act e ≡ Frees t s → did t e ≡ None → ⊥
frees-did t s (Clock tick) h k = cc
frees-did t s (Acted d) h k = by_case (accepted d.reply) h k
  where
    by_case : (b : Bool) → (if b then sem_act_of d.act d.task else Neither) ≡ Frees t s → (if is t d.task && b then operation d.act else None) ≡ None → ⊥
    by_case true m z =
        let u : IsUnlock d.act d.task t s = unlock-of d.act d.task t s m in
        let y : Some (ops.Unlock u.number) ≡ None = rw (u.is_task, u.is_unlock, equal_self t) at z in
        cc
    by_case false m z = cc

-- ---- what a task holds

-- who frees nothing and holds nothing after a move held nothing before it
held-nothing : (g : Group) → (t : ℕ) (e : Event) (past : Past) → Freed g e past → ((c : ℕ) → IsKept g c (e ∷ past)) → ((s : ℕ) → sem_act e ≡ Frees t s → ⊥) → is_empty (holds g t (e ∷ past)) ≡ true → is_empty (holds g t past) ≡ true
held-nothing g t e past frees kept quiet h = none-empty (holds g t past) (λ s k. held s (one-holds g t s past k))
  where
    held : (s : ℕ) → (has s (sems g) ≡ true) × (is t (holder g s past) ≡ true) → ⊥
    held s k = split (holder-stays g t s e past frees (kept (cluster_of g s)) k.1)
      where
        split : (is t (holder g s (e ∷ past)) ≡ true) ⊎ (sem_act e ≡ Frees t s) → ⊥
        split (inl m) = clash _ m (holds-none g t s (e ∷ past) h k.0)
        split (inr m) = quiet s m

-- ---- how a job ends

-- an operation that ends no job leaves its task unspent
own-unspent : (g : Group) (q t : ℕ) (act : Act) (op : Op) (past : Past) → did t (Acted (past_act g q act past)) ≡ Some op → ends_job t (Acted (past_act g q act past)) ≡ false → is_spent g t (Acted (past_act g q act past) ∷ past) ≡ false
unfolding past_act ended ended_by attempt
own-unspent g q t act op past h k = by_case (accepted (answer g q act past)) refl (is t (runs q past)) refl h k
  where
    made_with : Option ℕ → PastAct
    made_with o = record { cpu = q; act = act; task = runs q past; reply = answer g q act past; ended = o }

    by_force : (b : Bool) → is_spent g t (Acted (made_with None) ∷ past) ≡ b → is t (if b then Some t else None) ≡ false → is_spent g t (Acted (made_with (if b then Some t else None)) ∷ past) ≡ false
    by_force true e m = absurd (clash _ (equal_self t) m)
    by_force false e m = e

    by_op : (x : Op) → is t (ended_by g (acts.Do x) (Some t) (made_with None) past) ≡ false → is_spent g t (Acted (made_with (ended_by g (acts.Do x) (Some t) (made_with None) past)) ∷ past) ≡ false
    by_op ops.End m = absurd (clash _ (equal_self t) m)
    by_op op m = by_force _ refl m

    by_act : (a : Act) (o : Option ℕ) → o ≡ Some t → operation a ≡ Some op → is t (ended_by g a o (made_with None) past) ≡ false → is_spent g t (Acted (made_with (ended_by g a o (made_with None) past)) ∷ past) ≡ false
    by_act acts.Tick o e x m = cc
    by_act acts.Irq o e x m = cc
    by_act (acts.Arrive u) o e x m = cc
    by_act (acts.Do y) o e x m = rw e (by_op y (rw e at m))

    by_case : (b : Bool) → accepted (answer g q act past) ≡ b → (c : Bool) → is t (runs q past) ≡ c → (if c && b then operation act else None) ≡ Some op → is t (if b then ended_by g act (runs q past) (made_with None) past else None) ≡ false → is_spent g t (Acted (made_with (if b then ended_by g act (runs q past) (made_with None) past else None)) ∷ past) ≡ false
    by_case true a true r x m = by_act act (runs q past) (is-some t (runs q past) r) x m
    by_case true a false r x m = cc
    by_case false a true r x m = cc
    by_case false a false r x m = cc

-- ---- an enforced job that holds nothing and is preemptive has budget left

-- an enforced task that holds nothing and is preemptive has used less than its cost
abbrev IsUnspent : Group → Past → Type 0
IsUnspent g past = (t : ℕ) → has t (tasks g) ≡ true → (task g t).enforce ≡ true → is_empty (holds g t past) ≡ true → non_preemptive t past ≡ false → used t past < (task g t).cost

unspent-parts : (enforce le empty np : Bool) → enforce && (le && (empty && not np)) ≡ false → enforce ≡ true → empty ≡ true → np ≡ false → le ≡ false
unspent-parts enforce le empty np h a b c = by_case le (rw (a, b, c) at h)
  where
    by_case : (x : Bool) → x && true ≡ false → x ≡ false
    by_case true k = k
    by_case false k = refl

unspent-step : (g : Group) → MeetsRules g → (e : Event) (past : Past) → Freed g e past → ((c : ℕ) → IsKept g c (e ∷ past)) → ((t : ℕ) (op : Op) → did t e ≡ Some op → ends_job t e ≡ false → is_spent g t (e ∷ past) ≡ false) → IsUnspent g past → IsUnspent g (e ∷ past)
unfolding non_preemptive is_spent
unspent-step g rules e past frees kept own before t there en empty np = by_case (ends_job t e) refl (did t e) refl (used-step t e past) np
  where
    by_case : (b : Bool) → ends_job t e ≡ b → (o : Option Op) → did t e ≡ o → used t (e ∷ past) ≡ (if b then 0 else (if is_work o then used t past + 1 else used t past)) → (if b then false else np_after o (non_preemptive t past)) ≡ false → used t (e ∷ past) < (task g t).cost
    by_case true k o d u n = let cost : 1 ≤ (task g t).cost = rules.has_cost t there in omega (arith, u, cost)
    by_case false k None d u n = let less : used t past < (task g t).cost = before t there en (held-nothing g t e past frees kept (λ s f. frees-did t s e f d) empty) n in omega (arith, u, less)
    by_case false k (Some op) d u n = leb-false (task g t).cost (used t (e ∷ past)) (unspent-parts (task g t).enforce (nat_le (task g t).cost (used t (e ∷ past))) (is_empty (holds g t (e ∷ past))) (non_preemptive t (e ∷ past)) (own t op d k) en empty np)

unspent-move : (g : Group) {past : Past} {e : Event} → IsMove g past e → (t : ℕ) (op : Op) → did t e ≡ Some op → ends_job t e ≡ false → is_spent g t (e ∷ past) ≡ false
unspent-move g (clock_moves tick) t op d k = cc
unspent-move g {past} (cpu_acts q a) t op d k = own-unspent g q t a op past d k

-- so it is after every move
unspent : (g : Group) → MeetsRules g → {past : Past} → IsReachable g past → IsUnspent g past
unfolding used this_job
unspent g rules made = by_moves g (IsUnspent g) (λ t there en empty np. let cost : 1 ≤ (task g t).cost = rules.has_cost t there in cost) (λ past e made move before. unspent-step g rules e past (freed g move) (λ c. kept g rules c (moved g made move)) (unspent-move g move) before) made

-- ---- a job that ends holds nothing and waits for nothing

lock_works_not : (t : ℕ) (d : PastAct) (n : SemNo) → d.act ≡ acts.Do (ops.Lock n) → is_work (did t (Acted d)) ≡ false
lock_works_not t d n h = rw h (by_case (is t d.task && accepted d.reply))
  where
    by_case : (b : Bool) → is_work (if b then Some (ops.Lock n) else None) ≡ false
    by_case true = refl
    by_case false = refl

used-lock : (g : Group) (q t : ℕ) (act : Act) (past : Past) (n : SemNo) → act ≡ acts.Do (ops.Lock n) → used t (Acted (attempt g q act past) ∷ past) ≡ used t past
unfolding attempt
used-lock g q t act past n h = used-step t (Acted (attempt g q act past)) past ∙ rw (lock_works_not t (attempt g q act past) n h)

-- whose job ends in an event is engaged nowhere after it
pub ended-free : (g : Group) → MeetsRules g → {past : Past} → IsReachable g past → (q t s : ℕ) (act : Act) → has s (sems g) ≡ true → is t (past_act g q act past).ended ≡ true → engaged g t s (Acted (past_act g q act past) ∷ past) ≡ true → ⊥
ended-free g rules {past} made q t s act there h engaged_after = by_how how.1
  where
    e : Event
    e = Acted (past_act g q act past)

    r : runs q past ≡ Some t
    r = ended-runs g q t act past h

    run : IsRunning g q t past
    run = running g rules made q t r

    how : (accepted (answer g q act past) ≡ true) × ((act ≡ acts.Do ops.End) ⊎ (is_spent g t (Acted (attempt g q act past) ∷ past) ≡ true))
    how = ended-how g q t act past h

    at_end : act ≡ acts.Do ops.End → (engaged g t s past ≡ true) ⊎ (sem_act e ≡ Asks t s) → ⊥
    at_end k (inr m) = let a : IsAsk g q act past t s = asks g q act past t s m in let b : act ≡ acts.Do (ops.Lock a.number) = a.is_lock in cc
    at_end k (inl m) = split (engaged-cases g t s past (kept g rules (cluster_of g s) made) m)
      where
        empty : is_empty (holds g t past) ≡ true
        empty = end-holds_nothing g q t past r (rw k at how.0)

        split : (is t (holder g s past) ≡ true) ⊎ (has t (sem_state g s past).waiting ≡ true) → ⊥
        split (inl n) = clash _ n (holds-none g t s past empty there)
        split (inr n) = clash _ n (run.waits_none s there)

    by_force : IsSpent g t (Acted (attempt g q act past) ∷ past) → (is t (holder g s (e ∷ past)) ≡ true) ⊎ (has t (sem_state g s (e ∷ past)).waiting ≡ true) → ⊥
    by_force spent (inl n) = clash _ (rw (holder-sem_act g s e (Acted (attempt g q act past)) past (same_request g q act past)) at n) (holds-none g t s (Acted (attempt g q act past) ∷ past) spent.empty there)
    by_force spent (inr n) = split (waiting-step g rules t s e past n)
      where
        empty_after : is_empty (holds g t (e ∷ past)) ≡ true
        empty_after = none-empty (holds g t (e ∷ past)) (λ o k. let w = one-holds g t o (e ∷ past) k in clash _ (rw (holder-sem_act g o e (Acted (attempt g q act past)) past (same_request g q act past)) at w.1) (holds-none g t o (Acted (attempt g q act past) ∷ past) spent.empty w.0))

        split : (has t (sem_state g s past).waiting ≡ true) ⊎ (sem_act e ≡ Asks t s) × (is_granted g (protocol g s) s t past ≡ false) → ⊥
        split (inl m) = clash _ m (run.waits_none s there)
        split (inr m) =
            let a : IsAsk g q act past t s = asks g q act past t s m.0 in
            let asks_it : sem_act e ≡ Asks t s = m.0 in
            let empty : is_empty (holds g t past) ≡ true = held-nothing g t e past (freed g {past = past} (cpu_acts q act)) (λ c. kept g rules c (acted q act made)) (λ o k. cc) empty_after in
            let less : used t past < (task g t).cost = unspent g rules made t run.member spent.enforced empty a.preemptive in
            let same : used t (Acted (attempt g q act past) ∷ past) ≡ used t past = used-lock g q t act past a.number a.is_lock in
            absurd (omega (arith, less, same, spent.used_up))

    by_how : (act ≡ acts.Do ops.End) ⊎ (is_spent g t (Acted (attempt g q act past) ∷ past) ≡ true) → ⊥
    by_how (inl k) = at_end k (engaged-step g t s e past engaged_after)
    by_how (inr k) = by_force (spent-facts g t _ k) (engaged-cases g t s (e ∷ past) (kept g rules (cluster_of g s) (acted q act made)) engaged_after)
