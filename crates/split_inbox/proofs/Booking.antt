-- A history with one entry more.
use Rattle.std.proofs.Common.{◌≡◌, ◌≢◌, ℕ, ◌+◌, ◌<◌, ◌≤◌, List, [], ◌∷◌, ◌++◌, length, refl, sym, ap, ◌∙◌, subst, arith, length-append}
use Rattle.std.specs.Prelude.{slice_index}
use mathlib.Core.Logic.{dite}
use native.Mathlib.Decide.{ℕ_discrete}
use Rattle.rt_base.specs.declared.SemNo.{SemNo}
use Rattle.rt_rules.specs.SemState.{SemState}
use Rattle.turn_cell.specs.Words.{entries_of}
use Rattle.turn_cell.proofs.Views.{entries_here, entries_else}
use Rattle.split_rules.specs.SemHistories.{nobody}
use Rattle.split_inbox.specs.Books.{after_act, cpu_of, made_by, sem_state, state_from, IsActAt, IsEntryAt, IsHistory, IsLegalFrom, MayAdd}
use Rattle.split_inbox.specs.Kept.{about_of, IsKept}
use Rattle.split_inbox.specs.Queues.{rule_of, state_of, IsRoomFor}
use Rattle.split_inbox.specs.Sums.{sum_of, total_from}
use Rattle.split_rules.specs.declared.SemEntry.{SemEntry}
use Rattle.split_inbox.specs.declared.subject.SemOf.{SemOf}
use Rattle.split_inbox.specs.declared.subject.SemRule.{SemRule}
use Rattle.split_inbox.specs.declared.queue.Queue.{Queue}
use Rattle.split_inbox.proofs.Totals.{index_low, sum_below, sum_more, sum_within, total_zero}

module _ (s : SemOf) where
  pub state_push : (l : SemState) (es : List SemEntry) (e : SemEntry) → state_from s l (es ++ e ∷ []) ≡ after_act s e.task.0 e.act (state_from s l es)
  state_push l [] e = refl
  state_push l (x ∷ es) e = state_push (after_act s x.task.0 x.act l) es e

  pub legal_push : (l : SemState) (es : List SemEntry) (e : SemEntry) → IsLegalFrom s l es → IsEntryAt s (state_from s l es) e → IsLegalFrom s l (es ++ e ∷ [])
  legal_push l [] e legal at = (at, tt)
  legal_push l (x ∷ es) e legal at = (legal.0, legal_push (after_act s x.task.0 x.act l) es e legal.1 at)

pub made_here : (q : ℕ) (es : List SemEntry) (e : SemEntry) → cpu_of e ≡ q → made_by q (es ++ e ∷ []) ≡ made_by q es + 1
made_here q es e is = ap length (entries_here cpu_of q es e is) ∙ length-append (entries_of cpu_of q es) (e ∷ [])

pub made_else : (q : ℕ) (es : List SemEntry) (e : SemEntry) → cpu_of e ≢ q → made_by q (es ++ e ∷ []) ≡ made_by q es
made_else q es e not = ap length (entries_else cpu_of q es e not)

module _ (sem : SemNo) (queue : Queue) (homes prios quotas : List ℕ) (es : List SemEntry) (capacity : ℕ) (kept : IsKept sem queue homes prios quotas es capacity) where
  abbrev s : SemOf
  s = about_of sem queue homes prios quotas

  -- a processor that may add an entry has room for it
  pub has_room : (q : ℕ) → made_by q es < slice_index quotas q → length es < capacity
  has_room q lt =
      let below = sum_below (λ p. made_by p es) q quotas kept.history.within lt in
      omega (arith, kept.all, kept.reserved)

  pub added : (q t : ℕ) (e : SemEntry) (queue' : Queue) (capacity' : ℕ) → MayAdd s es q t → cpu_of e ≡ q → e.task.0 ≡ t → IsActAt s t e.act (sem_state s es)
      → rule_of queue' ≡ rule_of queue → IsRoomFor prios queue' → state_of queue' ≡ after_act s t e.act (state_of queue) → capacity' ≡ capacity
      → IsKept sem queue' homes prios quotas (es ++ e ∷ []) capacity'
  added q t e queue' capacity' may cpu task act rule room state wide =
      let low : q < length quotas = index_low quotas q (made_by q es) may.room in
      let es' : List SemEntry = es ++ e ∷ [] in
      let long : length es' ≡ length es + 1 = length-append es (e ∷ []) in
      let all : total_from (λ p. made_by p es') 0 quotas ≡ length es' =
      sum_more (λ p. made_by p es) (λ p. made_by p es') q quotas low (made_here q es e cpu) (λ p ne. made_else p es e (λ is. ne (sym is ∙ cpu))) ∙ (let a = kept.all in omega arith) in
      let within : (p : ℕ) → made_by p es' ≤ slice_index quotas p = λ p. dite (ℕ_discrete p q)
      (λ is. subst (λ k. made_by k es' ≤ slice_index quotas k) (sym is) (let a = made_here q es e cpu in let b = may.room in omega arith))
      (λ ne. let a = made_else p es e (λ is. ne (sym is ∙ cpu)) in let b = kept.history.within p in omega arith) in
      let few : length es' ≤ sum_of quotas = let a = sum_within (λ p. made_by p es') quotas within in omega arith in
      let at : IsEntryAt s (sem_state s es) e = record { low = rw task may.low; known = rw task may.known; at_home = cpu ∙ may.at_home ∙ ap (slice_index homes) (sym task); act = rw task act } in
      let history : IsHistory s es' = record { legal = legal_push s nobody es e kept.history.legal at; within = within; few = few } in
      let after : state_of queue' ≡ sem_state s es' = state ∙ ap (after_act s t e.act) kept.state ∙ ap (λ k. after_act s k e.act (sem_state s es)) (sym task) ∙ sym (state_push s nobody es e) in
      record {
        history = subst (λ (r : SemRule). IsHistory (record s { rule = r }) es') (sym rule) history;
        state = subst (λ (r : SemRule). state_of queue' ≡ sem_state (record s { rule = r }) es') (sym rule) after;
        room = room;
        homes_are = kept.homes_are;
        all = all;
        reserved = rw wide kept.reserved;
      }

pub opened : (sem : SemNo) (queue : Queue) (homes prios quotas : List ℕ) (es : List SemEntry) (capacity room : ℕ) → es ≡ [] → state_of queue ≡ nobody → IsRoomFor prios queue → length homes ≡ length prios
    → sum_of quotas ≤ room → room ≤ capacity → IsKept sem queue homes prios quotas es capacity
opened sem queue homes prios quotas es capacity room none state is all fits reserved =
    subst (λ (l : List SemEntry). IsKept sem queue homes prios quotas l capacity) (sym none) (record {
      history = record { legal = tt; within = λ q. omega arith; few = omega arith };
      state = state;
      room = is;
      homes_are = all;
      all = total_zero 0 quotas;
      reserved = omega arith;
    })
