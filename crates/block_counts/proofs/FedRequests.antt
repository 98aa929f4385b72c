-- What one entry makes of the requests so far.
use Rattle.std.proofs.Common.{All, Bool, List, [], ap, arith, false, length, length-append, refl, subst, sym, true, ℕ, ◌++◌, ◌+◌, ◌-◌, ◌<◌, ◌∙◌, ◌∷◌, ◌≡◌, ◌≤◌}
use Rattle.std.proofs.lemmas.List.{length-map, length-set}
use Rattle.std.proofs.lemmas.List.Elements.{All-map, All-push}
use Rattle.std.specs.Prelude.{None, Option, Some, if◌then◌else◌, slice_index_or, slice_set}
use Rattle.rt_task.specs.declared.Act.TheVariants as acts
use Rattle.rt_task.specs.declared.Act.{Act}
use Rattle.rt_task.specs.declared.Op.TheVariants as ops
use Rattle.rt_task.specs.declared.Op.{Op}
use Rattle.rt_task.specs.declared.Parts.{Parts}
use Rattle.rt_rules.specs.declared.history.Entry.{Entry}
use Rattle.rt_rules.specs.declared.history.Reply.{Reply}
use Rattle.rt_rules.specs.SemState.{Asks, Neither, SemAct}
use Rattle.rt_model.specs.Blocking.{bound}
use Rattle.rt_model.specs.Group.{Group}
use Rattle.rt_model.specs.Histories.{after, reply_to}
use Rattle.rt_model.specs.Past.{Past, accepted, entries_in, sem_act_of}
use Rattle.rt_changes.specs.CountLaws.{act_of}
use Rattle.rt_changes.specs.Tallies.{Tally, Waiter, act_by, counted, counted_at, fed, tallies}
use Rattle.rt_changes.proofs.requests.Laws.{entry_feeds}
use Rattle.block_counts.specs.GroupRequests.{GroupRequests, IsAt, IsBetween, IsFit, NamesKnown, group_of}
use Rattle.block_counts.specs.Bounding.{IsSemOf, IsTaskOf}
use Rattle.block_counts.specs.Positions.{IsFew}
use Rattle.block_counts.proofs.PositionLaws.{counted_at-keeps, few-counted, positions-counted, positions-push}

-- who asks, and for what, is there
pub names-known : (p : Parts) (act : Act) (reply : Reply) (o : Option ℕ) (t s : ℕ) → Asks t s ≡ act_by act reply o → NamesKnown p act o → IsTaskOf p t × IsSemOf p s
names-known p act reply o t s h names = by_reply (accepted reply) h
  where
    by_op : (op : Op) (u : Option ℕ) → Asks t s ≡ sem_act_of (acts.Do op) u → NamesKnown p (acts.Do op) u → IsTaskOf p t × IsSemOf p s
    by_op (ops.Lock n) (Some u) k known = let same : u ≡ t = cc in let same_sem : n.0 ≡ s = cc in (subst (IsTaskOf p) same known.0, subst (IsSemOf p) same_sem known.1)
    by_op (ops.Lock n) None k known = cc
    by_op (ops.Unlock n) (Some u) k known = cc
    by_op (ops.Unlock n) None k known = cc
    by_op ops.Work u k known = cc
    by_op (ops.Sleep n) u k known = cc
    by_op ops.NpOn u k known = cc
    by_op ops.NpOff u k known = cc
    by_op ops.End u k known = cc

    by_act : (a : Act) → Asks t s ≡ sem_act_of a o → NamesKnown p a o → IsTaskOf p t × IsSemOf p s
    by_act acts.Tick k known = cc
    by_act acts.Irq k known = cc
    by_act (acts.Arrive u) k known = cc
    by_act (acts.Do op) k known = by_op op o k known

    by_reply : (b : Bool) → Asks t s ≡ (if b then sem_act_of act o else Neither) → IsTaskOf p t × IsSemOf p s
    by_reply true k = by_act act k names
    by_reply false k = cc

All-weaker : (P Q : Tally → Type 0) → ((x : Tally) → P x → Q x) → (xs : List Tally) → All P xs → All Q xs
All-weaker P Q f xs all = λ k d low. f _ (all k d low)

pub fit-asked : (p : Parts) (x : Tally) (xs : List Tally) (positions : List (Option ℕ)) (room more entries spare : ℕ) → IsFit p xs positions room entries spare → 0 < spare → x.no ≡ entries → x.ends ≡ 0 → x.ends_all ≡ 0 → x.task < length positions → room ≤ more → IsFit p (xs ++ x ∷ []) (slice_set positions x.task (Some (length xs))) more (entries + 1) (spare - 1)
fit-asked p x xs positions room more entries spare fit left no_is no_ends no_all there grows = record {
  valid = fit.valid;
  positions_are = positions-push entries x xs positions fit.positions_are fit.numbered no_is there;
  positions_length = length-set positions x.task (Some (length xs)) ∙ fit.positions_length;
  numbered = All-push (λ (y : Tally). y.no < entries + 1) xs x (All-weaker (λ (y : Tally). y.no < entries) (λ (y : Tally). y.no < entries + 1) (λ y low. omega (arith, low)) xs fit.numbered) (omega (arith, no_is));
  few = All-push (IsFew (entries + 1)) xs x (All-weaker (IsFew entries) (IsFew (entries + 1)) (λ y low. record { ends_few = omega (arith, low.ends_few); all_few = omega (arith, low.all_few) }) xs fit.few) (record { ends_few = omega (arith, no_ends); all_few = omega (arith, no_all) });
  short = omega (arith, fit.short, length-append xs (x ∷ []));
  has_room = omega (arith, fit.has_room, length-append xs (x ∷ []), left, grows);
  limit = omega (arith, fit.limit, left);
}

pub fit-counted : (p : Parts) (s : ℕ) (ws : List Waiter) (xs : List Tally) (positions : List (Option ℕ)) (room entries spare : ℕ) → IsFit p xs positions room entries spare → 0 < spare → IsFit p (counted s ws xs) positions room (entries + 1) (spare - 1)
fit-counted p s ws xs positions room entries spare fit left = record {
  valid = fit.valid;
  positions_are = positions-counted s ws xs positions fit.positions_are;
  positions_length = fit.positions_length;
  numbered = All-map (λ (y : Tally). y.no < entries + 1) (counted_at s ws xs) xs (λ k d low. let same = (counted_at-keeps s ws xs (slice_index_or xs k d)).0 in omega (arith, same, fit.numbered k d low));
  few = few-counted entries s ws xs fit.few;
  short = omega (arith, fit.short, length-map xs (counted_at s ws xs));
  has_room = omega (arith, fit.has_room, length-map xs (counted_at s ws xs), left);
  limit = omega (arith, fit.limit, left);
}

entries-more : (g : Group) (e : Entry) (past : Past) → entries_in (after g e.step past) ≡ entries_in past + 1
unfolding after
entries-more g e past = refl

-- after an entry they are those of the longer past
at-fed_same : (b new : GroupRequests) (past : Past) (e : Entry) (running : Option ℕ) (ws : List Waiter) → group_of new ≡ group_of b → new.entries ≡ b.entries + 1 → new.tallies ≡ fed (bound (group_of b)) b.entries (act_by e.step.act e.reply running) ws b.tallies → IsAt b past → IsBetween b past e running ws → IsAt new (after (group_of b) e.step past)
at-fed_same b new past e running ws same entries_are fed_is at between = record {
  tallies_are = fed_is ∙ step ∙ sym (entry_feeds (group_of b) e.step past ws between.waiting) ∙ ap (λ (g : Group). tallies g (after (group_of b) e.step past)) (sym same);
  entries_are = entries_are ∙ ap (λ n. n + 1) at.entries_are ∙ sym (entries-more (group_of b) e past);
}
  where
    act_is : act_by e.step.act e.reply running ≡ act_of (group_of b) e.step past
    act_is = ap (λ (r : Reply). act_by e.step.act r running) between.reply_is ∙ ap (λ o. act_by e.step.act (reply_to (group_of b) e.step past) o) between.runs_is

    step : fed (bound (group_of b)) b.entries (act_by e.step.act e.reply running) ws b.tallies ≡ fed (bound (group_of b)) (entries_in past) (act_of (group_of b) e.step past) ws (tallies (group_of b) past)
    step = ap (λ n. fed (bound (group_of b)) n (act_by e.step.act e.reply running) ws b.tallies) at.entries_are ∙ ap (λ (a : SemAct). fed (bound (group_of b)) (entries_in past) a ws b.tallies) act_is ∙ ap (λ xs. fed (bound (group_of b)) (entries_in past) (act_of (group_of b) e.step past) ws xs) at.tallies_are

pub at-fed : (b v new : GroupRequests) (past : Past) (e : Entry) (running : Option ℕ) (ws : List Waiter) → b ≡ v → group_of new ≡ group_of b → new.entries ≡ b.entries + 1 → new.tallies ≡ fed (bound (group_of b)) b.entries (act_by e.step.act e.reply running) ws b.tallies → IsAt v past → IsBetween v past e running ws → IsAt new (after (group_of v) e.step past)
at-fed b v new past e running ws view_is same entries_are fed_is at between = subst (λ (x : GroupRequests). IsAt new (after (group_of x) e.step past)) view_is (at-fed_same b new past e running ws same entries_are fed_is (subst (λ (x : GroupRequests). IsAt x past) (sym view_is) at) (subst (λ (x : GroupRequests). IsBetween x past e running ws) (sym view_is) between))
