-- What an act that asks for a semaphore or frees it says of the past before it.
use Rattle.std.proofs.Common.{Bool, false, not, refl, true, ℕ, ◌&&◌, ◌≡◌}
use Rattle.std.specs.Prelude.{Option, Some, if◌then◌else◌}
use Rattle.rt_base.specs.declared.SemNo.{SemNo}
use Rattle.rt_task.specs.RuleWords.{is_stacked}
use Rattle.rt_task.specs.declared.Act.TheVariants as acts
use Rattle.rt_task.specs.declared.Act.{Act}
use Rattle.rt_task.specs.declared.Op.TheVariants as ops
use Rattle.rt_rules.specs.declared.history.Reply.TheVariants as replies
use Rattle.rt_rules.specs.Numbers.{is}
use Rattle.rt_rules.specs.SemState.{Asks, Frees, Neither}
use Rattle.rt_model.specs.Answers.{answer, do_answer, is_granted, lock_answer, nests, op_answer, unlock_answer}
use Rattle.rt_model.specs.Group.{Group, declares, protocol}
use Rattle.rt_model.specs.Holders.{holder, last_granted}
use Rattle.rt_model.specs.NonPreemptive.{non_preemptive}
use Rattle.rt_model.specs.Outcomes.{past_act}
use Rattle.rt_model.specs.Past.{Acted, Past, accepted, sem_act, sem_act_of}
use Rattle.rt_model.specs.Runs.{runs}

-- an accepted Lock
pub record IsAsk (g : Group) (q : ℕ) (act : Act) (past : Past) (t s : ℕ) : Type 0 where
  pub runs_it : runs q past ≡ Some t
  pub number : SemNo
  pub is_lock : act ≡ acts.Do (ops.Lock number)
  pub is_sem : number.0 ≡ s
  pub declared : declares g t s ≡ true
  pub unnested : nests g (protocol g s) s t past ≡ false
  pub preemptive : non_preemptive t past ≡ false
  pub reply : answer g q act past ≡ (if is_granted g (protocol g s) s t past then replies.Granted else replies.Queued)

-- an accepted Unlock
pub record IsFree (g : Group) (q : ℕ) (act : Act) (past : Past) (t s : ℕ) : Type 0 where
  pub runs_it : runs q past ≡ Some t
  pub number : SemNo
  pub is_unlock : act ≡ acts.Do (ops.Unlock number)
  pub is_sem : number.0 ≡ s
  pub held : is t (holder g s past) ≡ true
  pub newest : is_stacked (protocol g s) ≡ true → is s (last_granted g t past) ≡ true

lock-cases : (np d n gr : Bool) → accepted (if np then replies.InNp else (if not d then replies.NotDeclared else (if n then replies.Nested else (if gr then replies.Granted else replies.Queued)))) ≡ true → (np ≡ false) × (d ≡ true) × (n ≡ false)
lock-cases true d n gr h = cc
lock-cases false false n gr h = cc
lock-cases false true true gr h = cc
lock-cases false true false gr h = (refl, refl, refl)

asks-lock : (g : Group) (q : ℕ) (n : SemNo) (past : Past) (t : ℕ) → runs q past ≡ Some t → accepted (answer g q (acts.Do (ops.Lock n)) past) ≡ true → IsAsk g q (acts.Do (ops.Lock n)) past t n.0
unfolding answer do_answer op_answer lock_answer
asks-lock g q n past t r a =
    let facts = lock-cases (non_preemptive t past) (declares g t n.0) (nests g (protocol g n.0) n.0 t past) (is_granted g (protocol g n.0) n.0 t past) (rw r at a) in
    record {
      runs_it = r;
      number = n;
      is_lock = refl;
      is_sem = refl;
      declared = facts.1;
      unnested = facts.2;
      preemptive = facts.0;
      reply = rw (r, facts.0, facts.1, facts.2);
    }

unlock-cases : (h p l : Bool) → accepted (if not h then replies.NotHeld else (if p && not l then replies.NotLast else replies.Done)) ≡ true → (h ≡ true) × (p ≡ true → l ≡ true)
unlock-cases false p l k = cc
unlock-cases true true true k = (refl, λ e. refl)
unlock-cases true true false k = cc
unlock-cases true false l k = (refl, λ e. cc)

frees-unlock : (g : Group) (q : ℕ) (n : SemNo) (past : Past) (t : ℕ) → runs q past ≡ Some t → accepted (answer g q (acts.Do (ops.Unlock n)) past) ≡ true → IsFree g q (acts.Do (ops.Unlock n)) past t n.0
unfolding answer do_answer op_answer unlock_answer
frees-unlock g q n past t r a =
    let facts = unlock-cases (is t (holder g n.0 past)) (is_stacked (protocol g n.0)) (is n.0 (last_granted g t past)) (rw r at a) in
    record {
      runs_it = r;
      number = n;
      is_unlock = refl;
      is_sem = refl;
      held = facts.0;
      newest = facts.1;
    }

-- an act that asks is a Lock of the task that runs
record IsLock (a : Act) (o : Option ℕ) (t s : ℕ) : Type 0 where
  number : SemNo
  is_lock : a ≡ acts.Do (ops.Lock number)
  is_sem : number.0 ≡ s
  is_task : o ≡ Some t

lock-of : (a : Act) (o : Option ℕ) (t s : ℕ) → sem_act_of a o ≡ Asks t s → IsLock a o t s
lock-of (acts.Do (ops.Lock n)) (Some u) t s h = let same : u ≡ t = cc in let same_sem : n.0 ≡ s = cc in record { number = n; is_lock = refl; is_sem = same_sem; is_task = rw same }
lock-of (acts.Do (ops.Unlock n)) (Some u) t s h = cc
lock-of a o t s h = cc

-- an act that frees is an Unlock of the task that runs
pub record IsUnlock (a : Act) (o : Option ℕ) (t s : ℕ) : Type 0 where
  pub number : SemNo
  pub is_unlock : a ≡ acts.Do (ops.Unlock number)
  pub is_sem : number.0 ≡ s
  pub is_task : o ≡ Some t

pub unlock-of : (a : Act) (o : Option ℕ) (t s : ℕ) → sem_act_of a o ≡ Frees t s → IsUnlock a o t s
unlock-of (acts.Do (ops.Unlock n)) (Some u) t s h = let same : u ≡ t = cc in let same_sem : n.0 ≡ s = cc in record { number = n; is_unlock = refl; is_sem = same_sem; is_task = rw same }
unlock-of (acts.Do (ops.Lock n)) (Some u) t s h = cc
unlock-of a o t s h = cc

lock-asks : (g : Group) (q : ℕ) (past : Past) (t s : ℕ) (act : Act) (n : SemNo) → act ≡ acts.Do (ops.Lock n) → n.0 ≡ s → runs q past ≡ Some t → accepted (answer g q act past) ≡ true → IsAsk g q act past t s
lock-asks g q past t s act n e same r a = rw (e, ← same) (asks-lock g q n past t r (rw e at a))

unlock-frees : (g : Group) (q : ℕ) (past : Past) (t s : ℕ) (act : Act) (n : SemNo) → act ≡ acts.Do (ops.Unlock n) → n.0 ≡ s → runs q past ≡ Some t → accepted (answer g q act past) ≡ true → IsFree g q act past t s
unlock-frees g q past t s act n e same r a = rw (e, ← same) (frees-unlock g q n past t r (rw e at a))

ask-of : (g : Group) (q : ℕ) (past : Past) (t s : ℕ) (act : Act) (b : Bool) → accepted (answer g q act past) ≡ b → (if b then sem_act_of act (runs q past) else Neither) ≡ Asks t s → IsAsk g q act past t s
ask-of g q past t s act true a h =
    let k : IsLock act (runs q past) t s = lock-of act (runs q past) t s h in
    lock-asks g q past t s act k.number k.is_lock k.is_sem k.is_task a
ask-of g q past t s act false a h = cc

free-of : (g : Group) (q : ℕ) (past : Past) (t s : ℕ) (act : Act) (b : Bool) → accepted (answer g q act past) ≡ b → (if b then sem_act_of act (runs q past) else Neither) ≡ Frees t s → IsFree g q act past t s
free-of g q past t s act true a h =
    let k : IsUnlock act (runs q past) t s = unlock-of act (runs q past) t s h in
    unlock-frees g q past t s act k.number k.is_unlock k.is_sem k.is_task a
free-of g q past t s act false a h = cc

-- an event that asks is an accepted Lock
pub asks : (g : Group) (q : ℕ) (act : Act) (past : Past) (t s : ℕ) → sem_act (Acted (past_act g q act past)) ≡ Asks t s → IsAsk g q act past t s
unfolding past_act
asks g q act past t s h = ask-of g q past t s act (accepted (answer g q act past)) refl h

-- an event that frees is an accepted Unlock
pub frees : (g : Group) (q : ℕ) (act : Act) (past : Past) (t s : ℕ) → sem_act (Acted (past_act g q act past)) ≡ Frees t s → IsFree g q act past t s
unfolding past_act
frees g q act past t s h = free-of g q past t s act (accepted (answer g q act past)) refl h
