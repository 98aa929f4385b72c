-- Which tasks' waits and keys a move leaves.
use Rattle.std.proofs.Common.{◌≡◌, ℕ, Bool, true, false, refl}
use Rattle.std.specs.Prelude.{◌==◌, ◌∷◌, None, Some, if◌then◌else◌, ◌⊎◌}
use Rattle.std.proofs.Common.{inl, inr}
use Rattle.rt_base.specs.declared.SemNo.{SemNo}
use Rattle.rt_task.specs.declared.Act.{Act}
use Rattle.rt_task.specs.declared.Act.TheVariants as acts
use Rattle.rt_task.specs.declared.Op.TheVariants as ops
use Rattle.rt_rules.specs.Numbers.{is}
use Rattle.rt_rules.specs.SemState.{Asks, Frees}
use Rattle.rt_model.specs.Answers.{answer, is_granted}
use Rattle.rt_model.specs.Group.{Group, protocol}
use Rattle.rt_model.specs.Holders.{awaits}
use Rattle.rt_model.specs.Outcomes.{attempt, ended, ended_by, is_spent, past_act}
use Rattle.rt_model.specs.Past.{Acted, Event, Past, accepted, sem_act}
use Rattle.rt_model.specs.Runs.{runs}
use Rattle.rt_laws.proofs.Moves.{IsMove, clock_moves, cpu_acts, last_move}
use Rattle.rt_laws.proofs.semaphores.Requests.{IsAsk, IsFree, asks, frees}
use Rattle.rt_changes.specs.HoldChanges.{IsServed, KeepsHolds}
use Rattle.rt_changes.specs.KeyChanges.{renews}
use Rattle.rt_changes.specs.Owners.{is_touched, sem_of}
use Rattle.rt_changes.proofs.HoldChanges.{lock_grants, lock_queues, unlock_releases}
use Rattle.rt_changes.proofs.KeyChanges.{effective_key_stays}
use Rattle.rt_changes.proofs.SemChanges.{quiet_move_leaves_sems}
use Rattle.group_sems.specs.Leaving.{LockLeaves, OwnsNeither, QuietLeaves, UnlockLeaves}

pub quiet_leaves : QuietLeaves
quiet_leaves g e past valid made u h fresh = record {
  awaited = (quiet_move_leaves_sems g e past valid made h).awaited u;
  key = effective_key_stays g e past valid made u fresh (rw h refl);
}

-- ---- a Lock and an Unlock renew no job but the task's own

not-ended : (u t : ℕ) (b : Bool) → u == t ≡ false → is u (if b then Some t else None) ≡ false
not-ended u t true h = h
not-ended u t false h = refl

not-ended-if : (u t : ℕ) (a b : Bool) → u == t ≡ false → is u (if a then (if b then Some t else None) else None) ≡ false
not-ended-if u t true b h = not-ended u t b h
not-ended-if u t false b h = refl

lock-ends : (g : Group) (q t u : ℕ) (n : SemNo) (past : Past) → runs q past ≡ Some t → u == t ≡ false → is u (ended g q (acts.Do (ops.Lock n)) past) ≡ false
unfolding ended ended_by
lock-ends g q t u n past r h = rw r (not-ended-if u t (accepted (answer g q (acts.Do (ops.Lock n)) past)) (is_spent g t (Acted (attempt g q (acts.Do (ops.Lock n)) past) ∷ past)) h)

unlock-ends : (g : Group) (q t u : ℕ) (n : SemNo) (past : Past) → runs q past ≡ Some t → u == t ≡ false → is u (ended g q (acts.Do (ops.Unlock n)) past) ≡ false
unfolding ended ended_by
unlock-ends g q t u n past r h = rw r (not-ended-if u t (accepted (answer g q (acts.Do (ops.Unlock n)) past)) (is_spent g t (Acted (attempt g q (acts.Do (ops.Unlock n)) past) ∷ past)) h)

lock-fresh : (g : Group) (q t u : ℕ) (a : Act) (n : SemNo) (past : Past) → a ≡ acts.Do (ops.Lock n) → runs q past ≡ Some t → u == t ≡ false → renews u (Acted (past_act g q a past)) ≡ false
unfolding past_act
lock-fresh g q t u a n past same r h = rw (same, lock-ends g q t u n past r h) refl

unlock-fresh : (g : Group) (q t u : ℕ) (a : Act) (n : SemNo) (past : Past) → a ≡ acts.Do (ops.Unlock n) → runs q past ≡ Some t → u == t ≡ false → renews u (Acted (past_act g q a past)) ≡ false
unfolding past_act
unlock-fresh g q t u a n past same r h = rw (same, unlock-ends g q t u n past r h) refl

pub lock-renews-not : (g : Group) (past : Past) (e : Event) → IsMove g past e → (t s u : ℕ) → sem_act e ≡ Asks t s → u == t ≡ false → renews u e ≡ false
lock-renews-not g past e (clock_moves tick) t s u h ne = cc
lock-renews-not g past e (cpu_acts q a) t s u h ne = let k : IsAsk g q a past t s = asks g q a past t s h in lock-fresh g q t u a k.number past k.is_lock k.runs_it ne

pub unlock-renews-not : (g : Group) (past : Past) (e : Event) → IsMove g past e → (t s u : ℕ) → sem_act e ≡ Frees t s → u == t ≡ false → renews u e ≡ false
unlock-renews-not g past e (clock_moves tick) t s u h ne = cc
unlock-renews-not g past e (cpu_acts q a) t s u h ne = let k : IsFree g q a past t s = frees g q a past t s h in unlock-fresh g q t u a k.number past k.is_unlock k.runs_it ne

-- ---- who owns the semaphore neither before nor after is not touched

pub untouched : (g : Group) (u s : ℕ) (e : Event) (past : Past) → sem_of (sem_act e) ≡ Some s → OwnsNeither g u s e past → is_touched g u e past ≡ false
untouched g u s e past h k = rw (h, k.before, k.after) refl

pub lock_leaves : LockLeaves
lock_leaves g e past valid made t s u h ne k = record {
  awaited = by_grant (is_granted g (protocol g s) s t past) refl;
  key = effective_key_stays g e past valid made u (lock-renews-not g past e (last_move g made).1 t s u h ne) (untouched g u s e past (rw h refl) k);
}
  where
    by_grant : (b : Bool) → is_granted g (protocol g s) s t past ≡ b → awaits g u (e ∷ past) ≡ awaits g u past
    by_grant true m = let q : KeepsHolds g u e past = (lock_grants g e past valid made t s h m).others u ne in q.awaited
    by_grant false m = (lock_queues g e past valid made t s h m).others u ne

pub unlock_leaves : UnlockLeaves
unlock_leaves g e past valid made t s u h ne k none = record {
  awaited = split ((unlock_releases g e past valid made t s h).others u ne);
  key = effective_key_stays g e past valid made u (unlock-renews-not g past e (last_move g made).1 t s u h ne) (untouched g u s e past (rw h refl) k);
}
  where
    split : KeepsHolds g u e past ⊎ ((r : ℕ) × IsServed g u r e past) → awaits g u (e ∷ past) ≡ awaits g u past
    split (inl q) = q.awaited
    split (inr q) = absurd (none q.0 q.1)
