-- What runs, holds and waits are tasks of the group, which declare what they hold and wait for.
use Rattle.std.proofs.Common.{◌≡◌, ℕ, Bool, true, false, not, ◌⊎◌, inl, inr, List, [], ◌∷◌, Option, None, Some, refl, sym, ap, subst, eqb-true}
use Rattle.std.specs.Prelude.{◌==◌, if◌then◌else◌, is_some, unwrap_or}
use Rattle.rt_base.specs.declared.Ask.{Ask}
use Rattle.rt_base.specs.declared.Ask.TheVariants as asks
use Rattle.rt_base.specs.declared.SemNo.{SemNo}
use Rattle.rt_task.specs.declared.Act.{Act}
use Rattle.rt_task.specs.declared.Act.TheVariants as acts
use Rattle.rt_task.specs.declared.Op.{Op}
use Rattle.rt_task.specs.declared.Op.TheVariants as ops
use Rattle.rt_rules.specs.declared.history.Reply.{Reply}
use Rattle.rt_rules.specs.declared.history.Reply.TheVariants as replies
use Rattle.rt_rules.specs.Numbers.{has, same}
use Rattle.rt_rules.proofs.BoolLaws.{both}
use Rattle.rt_rules.proofs.LinkLaws.{has-link_at}
use Rattle.rt_rules.proofs.MemberLaws.{equal_self, has-filter, some-is}
use Rattle.rt_model.specs.Group.{Group, declares, home, tasks}
use Rattle.rt_model.specs.Group as group
use Rattle.rt_model.specs.Past.{Acted, Clock}
use Rattle.rt_model.specs.Runs.{runs}
use Rattle.split_rules.specs.PartAnswers.{answer, asked, do_answer, irq_answer, lock_answer, op_answer, part_act, unlock_answer}
use Rattle.split_rules.specs.PartHistories.{IsEntryAt, IsEntryBy, IsLegalFrom, after, after_entry, past_from, past_of}
use Rattle.split_rules.specs.PartLinks as part
use Rattle.split_rules.specs.PartLinks.{linked, links, pending}
use Rattle.split_rules.specs.PartPast.{Asks, Claim, Deed, Frees, Gets, Moved, PartPast, TaskDeed, Took, deed_in, deed_of, moves}
use Rattle.split_rules.specs.PartSems.{awaited_after, awaited_by, awaiting, held_after, held_by, holding}
use Rattle.split_rules.specs.declared.SplitAct.{SplitAct}
use Rattle.split_rules.specs.declared.SplitAct.TheVariants as split
use Rattle.split_rules.specs.declared.SplitEntry.{SplitEntry}
use Rattle.split_laws.proofs.EntryLaws.{do-runs, irq-runs, none-deed, none-some, runs_now}
use Rattle.split_laws.proofs.PartLinkLaws.{links-top, top-eligible}
use Rattle.split_laws.specs.Users.{AreUsers, IsUser, LegalPastHasUsers}

-- a deed by which a task comes to hold or to wait is one of a user
abbrev IsUsingBy : Deed → Type 0 → Type 0
IsUsingBy (Asks a) X = X
IsUsingBy (Gets n) X = X
IsUsingBy Frees X = Unit {0}

abbrev IsUsing : Group → Option TaskDeed → Type 0
IsUsing g None = Unit {0}
IsUsing g (Some d) = IsUsingBy d.deed (IsUser g d.task d.sem)

same-some : (s r : ℕ) → Some s ≡ Some r → s ≡ r
same-some s r e = ap (λ o. unwrap_or o 0) e

module _ (g : Group) (t : ℕ) where
  held-using : (s : ℕ) (x : Deed) (h : Option ℕ) → ((r : ℕ) → h ≡ Some r → IsUser g t r) → IsUsingBy x (IsUser g t s)
      → (r : ℕ) → held_after s x h ≡ Some r → IsUser g t r
  held-using s (Asks asks.Granted) h before u r e = subst (λ n. IsUser g t n) (same-some s r e) u
  held-using s (Asks asks.Queued) h before u r e = before r e
  held-using s (Gets n) h before u r e = subst (λ m. IsUser g t m) (same-some s r e) u
  held-using s Frees h before u r e = absurd (none-some e)

  awaited-using : (s : ℕ) (x : Deed) (h : Option ℕ) → ((r : ℕ) → h ≡ Some r → IsUser g t r) → IsUsingBy x (IsUser g t s)
      → (r : ℕ) → awaited_after s x h ≡ Some r → IsUser g t r
  awaited-using s (Asks asks.Granted) h before u r e = before r e
  awaited-using s (Asks asks.Queued) h before u r e = subst (λ n. IsUser g t n) (same-some s r e) u
  awaited-using s (Gets n) h before u r e = absurd (none-some e)
  awaited-using s Frees h before u r e = before r e

  held-by : (o : Option TaskDeed) (h : Option ℕ) → IsUsing g o → ((r : ℕ) → h ≡ Some r → IsUser g t r)
      → (r : ℕ) → held_by t o h ≡ Some r → IsUser g t r
  held-by None h u before = before
  held-by (Some d) h u before = by_case (d.task == t) refl
    where
      by_case : (b : Bool) → d.task == t ≡ b → (r : ℕ) → (if b then held_after d.sem d.deed h else h) ≡ Some r → IsUser g t r
      by_case true e = held-using d.sem d.deed h before (subst (λ n. IsUsingBy d.deed (IsUser g n d.sem)) (eqb-true d.task t e) u)
      by_case false e = before

  awaited-by : (o : Option TaskDeed) (h : Option ℕ) → IsUsing g o → ((r : ℕ) → h ≡ Some r → IsUser g t r)
      → (r : ℕ) → awaited_by t o h ≡ Some r → IsUser g t r
  awaited-by None h u before = before
  awaited-by (Some d) h u before = by_case (d.task == t) refl
    where
      by_case : (b : Bool) → d.task == t ≡ b → (r : ℕ) → (if b then awaited_after d.sem d.deed h else h) ≡ Some r → IsUser g t r
      by_case true e = awaited-using d.sem d.deed h before (subst (λ n. IsUsingBy d.deed (IsUser g n d.sem)) (eqb-true d.task t e) u)
      by_case false e = before

module _ (g : Group) (q : ℕ) (a : Ask) (past : PartPast) where
  lock-using : (s : SemNo) (t : ℕ) → has t (tasks g) ≡ true → (b : Bool) → declares g t s.0 ≡ b → (h : Option ℕ)
      → IsUsing g (deed_of (acts.Do (ops.Lock s)) (if not b then replies.NotDeclared else (if is_some h then replies.Nested else asked a)) (Some t))
  lock-using s t there false e h = tt
  lock-using s t there true e (Some r) = tt
  lock-using s t there true e None = by_ask a
    where
      by_ask : (x : Ask) → IsUsing g (deed_of (acts.Do (ops.Lock s)) (asked x) (Some t))
      by_ask asks.Granted = record { there = there; declared = e }
      by_ask asks.Queued = record { there = there; declared = e }

  unlock-using : (s : SemNo) (t : ℕ) (b : Bool) → IsUsing g (deed_of (acts.Do (ops.Unlock s)) (if b then replies.Done else replies.NotHeld) (Some t))
  unlock-using s t true = tt
  unlock-using s t false = tt

  op-using : (op : Op) (t : ℕ) → has t (tasks g) ≡ true → IsUsing g (deed_of (acts.Do op) (op_answer g q op t a past) (Some t))
  unfolding op_answer lock_answer unlock_answer
  op-using ops.Work t there = tt
  op-using (ops.Lock s) t there = lock-using s t there (declares g t s.0) refl (holding t past)
  op-using (ops.Unlock s) t there = unlock-using s t (same (holding t past) (Some s.0))
  op-using (ops.Sleep n) t there = tt
  op-using ops.NpOn t there = tt
  op-using ops.NpOff t there = tt
  op-using ops.End t there = tt

  do-using : (op : Op) (o : Option ℕ) → ((t : ℕ) → o ≡ Some t → has t (tasks g) ≡ true) → IsUsing g (deed_of (acts.Do op) (do_answer g q op o a past) o)
  unfolding do_answer
  do-using op None runs = subst (IsUsing g) (sym (none-deed op)) tt
  do-using op (Some t) runs = op-using op t (runs t refl)

  act-using : (act : Act) → ((t : ℕ) → runs q (moves past) ≡ Some t → has t (tasks g) ≡ true)
      → IsUsing g (deed_of act (answer g q act a past) (runs q (moves past)))
  unfolding answer
  act-using acts.Tick runs = tt
  act-using acts.Irq runs = tt
  act-using (acts.Arrive t) runs = tt
  act-using (acts.Do op) runs' = do-using op (runs q (moves past)) runs'

  link-in : (t : ℕ) → linked g q past ≡ Some t → has t (tasks g) ≡ true
  unfolding linked part.tasks group.tasks_of
  link-in t h =
      let top = top-eligible g q t past (links-top g q t past (has-link_at t (links g q past) _ (some-is t _ h))) in
      (both (has t (tasks g)) _ (rw (has-filter (λ u. home g u == part.part g q) t (tasks g)) at top.0)).0

  act-runs-in : (act : Act) → ((t : ℕ) → runs q (moves past) ≡ Some t → has t (tasks g) ≡ true) → (t : ℕ)
      → runs_now act (answer g q act a past) (runs q (moves past)) ≡ Some t → has t (tasks g) ≡ true
  unfolding answer irq_answer
  act-runs-in acts.Tick ran t k = ran t k
  act-runs-in acts.Irq ran t k = by_part (irq-runs g q a past t (pending g q past) (runs q (moves past)) k)
    where
      by_part : (linked g q past ≡ Some t) ⊎ (runs q (moves past) ≡ Some t) → has t (tasks g) ≡ true
      by_part (inl h) = link-in t h
      by_part (inr h) = ran t h
  act-runs-in (acts.Arrive u) ran t k = ran t k
  act-runs-in (acts.Do op) ran t k = ran t (do-runs g q a past t op (runs q (moves past)) k).ran

module _ (g : Group) (q : ℕ) (past : PartPast) (are : AreUsers g q past) where
  users-clock : (tick : ℕ) → AreUsers g q (Moved (Clock tick) ∷ past)
  unfolding runs holding awaiting
  users-clock tick = record { runs_in = are.runs_in; holders = are.holders; waiters = are.waiters }

  users-took : (k : Claim) → awaiting k.task past ≡ Some k.sem → AreUsers g q (Took k ∷ past)
  unfolding holding awaiting
  users-took k waits =
      let using : IsUsing g (deed_in (Took k)) = are.waiters k.task k.sem waits in
      record {
        runs_in = are.runs_in;
        holders = λ t. held-by g t (deed_in (Took k)) (holding t past) using (are.holders t);
        waiters = λ t. awaited-by g t (deed_in (Took k)) (awaiting t past) using (are.waiters t);
      }

  users-act : (act : Act) (a : Ask) (reply : Reply) → reply ≡ answer g q act a past → AreUsers g q (Moved (Acted (part_act g q act reply past)) ∷ past)
  unfolding part_act holding awaiting runs
  users-act act a reply is_reply =
      subst (λ (r : Reply). AreUsers g q (Moved (Acted (part_act g q act r past)) ∷ past)) (sym is_reply)
      (let o : Option TaskDeed = deed_of act (answer g q act a past) (runs q (moves past)) in
      let using : IsUsing g o = act-using g q a past act are.runs_in in
      record {
        runs_in = λ t h. act-runs-in g q a past act are.runs_in t (rw (equal_self q) at h);
        holders = λ t. held-by g t o (holding t past) using (are.holders t);
        waiters = λ t. awaited-by g t o (awaiting t past) using (are.waiters t);
      })

users-opening : (g : Group) (q : ℕ) → AreUsers g q []
unfolding holding awaiting runs
users-opening g q = record {
  runs_in = λ t h. absurd (none-some h);
  holders = λ t s h. absurd (none-some h);
  waiters = λ t s h. absurd (none-some h);
}

users-entry : (g : Group) (q : ℕ) (past : PartPast) → AreUsers g q past → (e : SplitEntry) → IsEntryAt g q past e → AreUsers g q (after g q e past)
unfolding after
users-entry g q past are e h = by_act e.act h
  where
    by_act : (x : SplitAct) → IsEntryBy g q x past e → AreUsers g q (after_entry g q x e past)
    by_act (split.Plain act) h = users-act g q (Moved (Clock e.tick.0) ∷ past) (users-clock g q past are e.tick.0) act h.0 e.reply h.1
    by_act (split.Take s n t) h = users-took g q past are (record { sem = s.0; no = n; task = t.0 }) h.0

legal-users : (g : Group) (q : ℕ) (es : List SplitEntry) (past : PartPast) → AreUsers g q past → IsLegalFrom g q past es → AreUsers g q (past_from g q past es)
unfolding past_from
legal-users g q [] past are h = are
legal-users g q (e ∷ es) past are h = legal-users g q es (after g q e past) (users-entry g q past are e h.0) h.1

pub legal_past_has_users : LegalPastHasUsers
unfolding past_of
legal_past_has_users g q es h = legal-users g q es [] (users-opening g q) h
