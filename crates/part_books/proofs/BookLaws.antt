-- What a partition knows holds of the books.
use Rattle.std.proofs.Common.{◌≡◌, ℕ, zero, suc, ◌+◌, ◌<◌, Bool, true, false, List, [], ◌∷◌, length, map, Option, refl, sym, ap, ◌∙◌, arith}
use Rattle.std.specs.Prelude.{◌==◌, if◌then◌else◌, slice_index}
use Rattle.rt_task.specs.declared.Parts.{Parts}
use Rattle.rt_task.specs.declared.Protocol.{Protocol}
use Rattle.rt_task.specs.declared.Protocol.TheVariants as protocols
use Rattle.rt_task.specs.declared.Step.{Step}
use Rattle.rt_rules.specs.Mpcp.{passed_on}
use Rattle.rt_rules.specs.Numbers.{has, is, numbers_from}
use Rattle.rt_rules.specs.SemState.{SemState}
use Rattle.rt_model.specs.BaseKeys.{above, base_key, key_by}
use Rattle.rt_model.specs.Group.{protocol, sem, task, resv, served_by}
use Rattle.rt_model.specs.Jobs.{done}
use Rattle.rt_model.specs.Releases.{arrivals, deadline, release, release_by}
use Rattle.rt_plays.specs.Drives.{steps_given}
use Rattle.rt_plays.specs.Plays.{group_with}
use Rattle.rt_plays.specs.Room.{processor_count}
use Rattle.rt_plays.specs.Scripts.{script}
use Rattle.turn_cell.specs.Words.{entries_of}
use Rattle.split_rules.specs.Matching.{Books, own}
use Rattle.split_rules.specs.Partitions.{group_no, part_group}
use Rattle.split_rules.specs.SemHistories.{after_act, next_by, nobody, seat_of, state_from}
use Rattle.split_rules.specs.SemHistories as sets
use Rattle.split_rules.specs.declared.SemAct.{SemAct}
use Rattle.split_rules.specs.declared.SemAct.TheVariants as acts
use Rattle.split_rules.specs.declared.SemEntry.{SemEntry}
use Rattle.split_rules.specs.declared.SplitEntry.{SplitEntry}
use Rattle.split_inbox.specs.Books as book
use Rattle.split_inbox.specs.Books.{MayAdd, cpu_of, made_by}
use Rattle.split_laws.specs.Parts.{IsPartPast}
use Rattle.split_laws.proofs.EntryLaws.{legal_past_is_known}
use Rattle.split_laws.proofs.StepLaws.{same-seat}
use Rattle.split_laws.proofs.TheLaws.{may_ask_law, may_release_law}
use Rattle.split_counts.proofs.RoomLaws.{entries_have_room}
use Rattle.split_turns.specs.SplitTurns.{book_of, quota}
use Rattle.split_turns.proofs.ListLaws.{length-mapped}
use Rattle.split_turns.proofs.SetLaws.{histories_are_of_set}
use Rattle.part_books.specs.PartBooks.{MayAskBook, MayReleaseBook, StandsAt, past_in}

index-from : (f : ℕ → ℕ) (a n i : ℕ) → i < n → slice_index (map f (numbers_from a n)) i ≡ f (a + i)
index-from f a zero i h = absurd (omega (arith, h))
index-from f a (suc n) zero h = let e : a ≡ a + 0 = omega arith in ap f e
index-from f a (suc n) (suc i) h = let e : suc a + i ≡ a + suc i = omega arith in index-from f (suc a) n i (omega (arith, h)) ∙ ap f e

index-mapped : (f : ℕ → ℕ) (n i : ℕ) → i < n → slice_index (map f (numbers_from 0 n)) i ≡ f i
index-mapped f n i h = let e : 0 + i ≡ i = omega arith in index-from f 0 n i h ∙ ap f e

own-made : (q : ℕ) (es : List SemEntry) → made_by q es ≡ length (own q es)
own-made q [] = refl
own-made q (e ∷ es) = by_cpu (e.cpu.0 == q) (own-made q es)
  where
    by_cpu : (b : Bool) → made_by q es ≡ length (own q es)
        → length (if b then e ∷ entries_of cpu_of q es else entries_of cpu_of q es) ≡ length (if b then e ∷ own q es else own q es)
    by_cpu true h = ap suc h
    by_cpu false h = h

-- the semaphores of a set are the same in each of its groups
same-next : (p : Parts) (m n : ℕ) (x : Protocol) (ts : List ℕ) → next_by (group_with p m) x ts ≡ next_by (group_with p n) x ts
unfolding next_by above base_key key_by task resv served_by deadline release release_by done arrivals
same-next p m n protocols.Mpcp ts = refl
same-next p m n protocols.Fmlp ts = refl
same-next p m n protocols.Omlp ts = refl
same-next p m n protocols.Pcp ts = refl
same-next p m n protocols.Srp ts = refl

module _ (p : Parts) (m n : ℕ) where
  same-after : (x : Protocol) (t : ℕ) (a : SemAct) (l : SemState) → after_act (group_with p m) x t a l ≡ after_act (group_with p n) x t a l
  same-after x t (acts.Ask a) l = refl
  same-after x t (acts.Release o) l = ap (λ (u : Option ℕ). passed_on u l.waiting) (same-next p m n x l.waiting)

  same-from : (x : Protocol) (es : List SemEntry) (l : SemState) → state_from (group_with p m) x l es ≡ state_from (group_with p n) x l es
  same-from x [] l = refl
  same-from x (e ∷ es) l = same-from x es (after_act (group_with p m) x e.task.0 e.act l) ∙ ap (λ (k : SemState). state_from (group_with p n) x k es) (same-after x e.task.0 e.act l)

  same-protocol : (s : ℕ) → protocol (group_with p m) s ≡ protocol (group_with p n) s
  unfolding protocol sem
  same-protocol s = refl

  same-state : (s : ℕ) (es : List SemEntry) → sets.sem_state (group_with p m) s es ≡ sets.sem_state (group_with p n) s es
  same-state s es = same-from (protocol (group_with p m) s) es nobody ∙ ap (λ (x : Protocol). state_from (group_with p n) x nobody es) (same-protocol s)

module _ (p : Parts) (q s t : ℕ) (books : Books) (es : List SplitEntry) (x : Step) (at : StandsAt p q s t books es x) where
  past-is : IsPartPast (part_group p q) q (past_in p q es)
  past-is = legal_past_is_known (part_group p q) q es at.seat at.legal

  state-is : book.sem_state (book_of p s) (books s) ≡ sets.sem_state (part_group p q) s (books s)
  state-is = (histories_are_of_set p s (books s) at.valid at.kept).state_is ∙ same-state p 0 (group_no p q) s (books s)

  may-add : MayAdd (book_of p s) (books s) q t
  may-add =
      let homes = length-mapped (λ u. seat_of (group_with p 0) u) 0 (length p.tasks + 1) in
      let low = at.known in
      let room = entries_have_room (part_group p q) q s books es (script (steps_given p.drive) q) x at.seen at.next at.names in
      let made = own-made q (books s) in
      let places = index-mapped (quota p s) (processor_count p) q at.there in
      let here : t < length p.tasks + 1 = omega (arith, low) in
      record {
        low = at.low;
        known = omega (arith, homes, low);
        at_home = sym (index-mapped (λ u. seat_of (group_with p 0) u) (length p.tasks + 1) t here ∙ same-seat p 0 (group_no p q) t ∙ at.at_home);
        room = omega (arith, room, made, places);
      }

pub may_ask_book : MayAskBook
may_ask_book p q s t books es x at holds waits =
    let idle = may_ask_law (part_group p q) q books (past_in p q es) (past-is p q s t books es x at) at.seen t s at.at_home holds waits in
    let state = state-is p q s t books es x at in
    record {
      add = may-add p q s t books es x at;
      free_hands = ap (λ (l : SemState). is t l.holder) state ∙ idle.free_hands;
      outside = ap (λ (l : SemState). has t l.waiting) state ∙ idle.outside;
    }

pub may_release_book : MayReleaseBook
may_release_book p q s t books es x at holds =
    let is_holder = may_release_law (part_group p q) q books (past_in p q es) (past-is p q s t books es x at) at.seen t s holds in
    record {
      add = may-add p q s t books es x at;
      holds = ap (λ (l : SemState). l.holder) (state-is p q s t books es x at) ∙ is_holder;
    }
