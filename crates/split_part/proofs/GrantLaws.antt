-- Whose entries the history of a book has, and whom they grant the semaphore: processors and tasks of the set.
use Rattle.std.proofs.Common.{◌≡◌, ℕ, zero, suc, ◌+◌, ◌<◌, ◌≤◌, true, List, [], ◌∷◌, ◌++◌, length, Option, None, Some, refl, sym, ap, ◌∙◌, subst, arith}
use Rattle.std.specs.Prelude.{slice_get}
use Rattle.rt_base.specs.TaskNos.{number_of_task}
use Rattle.rt_base.specs.declared.TaskNo.{TaskNo}
use Rattle.rt_task.specs.Validity.{IsValid}
use Rattle.rt_task.specs.declared.Parts.{Parts}
use Rattle.rt_rules.specs.SemState.{SemState}
use Rattle.rt_model.specs.Group.{protocol}
use Rattle.rt_plays.specs.Plays.{group_with}
use Rattle.rt_plays.specs.Room.{processor_count}
use Rattle.split_set.specs.SplitSets.{is_split_set}
use Rattle.split_rules.specs.Matching.{granted_at, granted_by, granted_in}
use Rattle.split_rules.specs.SemHistories as sets
use Rattle.split_rules.specs.SemHistories.{nobody, seat_of}
use Rattle.split_rules.specs.declared.SemAct.{SemAct}
use Rattle.split_rules.specs.declared.SemAct.TheVariants as acts
use Rattle.split_rules.specs.declared.SemEntry.{SemEntry}
use Rattle.split_inbox.specs.Books as book
use Rattle.split_inbox.specs.declared.subject.SemOf.{SemOf}
use Rattle.split_laws.specs.Posts.{cpu_at, cpu_in}
use Rattle.split_turns.specs.SplitTurns.{book_of}
use Rattle.split_turns.proofs.ListLaws.{length-mapped}
use Rattle.split_turns.proofs.SetLaws.{histories_are_of_set}
use Rattle.part_player.proofs.OwnParts.{home-task}
use Rattle.part_seat.proofs.WaiterLaws.{passed-task}

-- a list with the element at a view of it
pub record IsSplitAt {A : Type 0} (xs : List A) (x : A) : Type 0 where
  pub front : List A
  pub rest : List A
  pub parts : xs ≡ (front ++ x ∷ []) ++ rest

split-at : {A : Type 0} (xs : List A) (n : ℕ) (x : A) → slice_get xs n ≡ Some x → IsSplitAt xs x
split-at [] zero x h = cc
split-at [] (suc n) x h = cc
split-at (y ∷ xs) zero x h = let e : y ≡ x = cc in record { front = []; rest = xs; parts = ap (λ z. z ∷ xs) e }
split-at (y ∷ xs) (suc n) x h = let r = split-at xs n x h in record { front = y ∷ r.front; rest = r.rest; parts = ap (λ l. y ∷ l) r.parts }

module _ (s : SemOf) where
  legal-front : (l : SemState) (xs ys : List SemEntry) → book.IsLegalFrom s l (xs ++ ys) → book.IsLegalFrom s l xs
  legal-front l [] ys h = tt
  legal-front l (x ∷ xs) ys h = (h.0, legal-front (book.after_act s x.task.0 x.act l) xs ys h.1)

  pub record IsKnown (e : SemEntry) : Type 0 where
    pub low : 1 ≤ e.task.0
    pub high : e.task.0 < length s.homes

  entry-known : (l : SemState) (xs : List SemEntry) (e : SemEntry) → book.IsLegalFrom s l (xs ++ e ∷ []) → IsKnown e
  entry-known l [] e h = record { low = h.0.low; high = h.0.known }
  entry-known l (x ∷ xs) e h = entry-known (book.after_act s x.task.0 x.act l) xs e h.1

module _ (p : Parts) (valid : IsValid p) (split : is_split_set p ≡ true) (s : ℕ) (es : List SemEntry) (legal : book.IsLegalSem (book_of p s) es) where
  homes-count : length (book_of p s).homes ≡ length p.tasks + 1
  homes-count = length-mapped (λ u. seat_of (group_with p 0) u) 0 (length p.tasks + 1)

  seat-there : (t : ℕ) → 1 ≤ t → t < length (book_of p s).homes → seat_of (group_with p 0) t < processor_count p
  seat-there t low high =
      let n = homes-count in
      let home = home-task p t valid split low (omega (arith, high, n)) in
      subst (λ q. q < processor_count p) (sym home.seat) home.there

  home-of : (l : SemState) (xs : List SemEntry) (e : SemEntry) → sets.IsLegalFrom (group_with p 0) (protocol (group_with p 0) s) l (xs ++ e ∷ []) → e.cpu.0 ≡ seat_of (group_with p 0) e.task.0
  home-of l [] e h = h.0.at_home
  home-of l (x ∷ xs) e h = home-of (sets.after_act (group_with p 0) (protocol (group_with p 0) s) x.task.0 x.act l) xs e h.1

  module _ (n : ℕ) (e : SemEntry) (there : slice_get es n ≡ Some e) where
    at : IsSplitAt es e
    at = split-at es n e there

    front-legal : book.IsLegalSem (book_of p s) (at.front ++ e ∷ [])
    front-legal = legal-front (book_of p s) nobody (at.front ++ e ∷ []) at.rest (subst (book.IsLegalSem (book_of p s)) at.parts legal)

    pub entry-cpu : e.cpu.0 < processor_count p
    entry-cpu =
        let known = entry-known (book_of p s) nobody at.front e front-legal in
        let home = home-of nobody at.front e (histories_are_of_set p s (at.front ++ e ∷ []) valid front-legal).legal in
        subst (λ q. q < processor_count p) (sym home) (seat-there e.task.0 known.low known.high)

    pub grantee-cpu : (t : TaskNo) → e.act ≡ acts.Release (Some t) → seat_of (group_with p 0) t.0 < processor_count p
    grantee-cpu t is = let of = passed-task (book_of p s) at.front e t is front-legal in seat-there t.0 of.low of.high

  -- a grant by an entry: its processor and that of its task are of the set
  pub record IsGrantOfSet (n u : ℕ) : Type 0 where
    pub cpu : ℕ
    pub cpu_is : cpu_at es n ≡ Some cpu
    pub cpu_there : cpu < processor_count p
    pub home_there : seat_of (group_with p 0) u < processor_count p

  by-act : (n u : ℕ) (e : SemEntry) → slice_get es n ≡ Some e → (a : SemAct) → e.act ≡ a → granted_by a ≡ Some u → IsGrantOfSet n u
  by-act n u e there (acts.Ask a) is h = cc
  by-act n u e there (acts.Release None) is h = cc
  by-act n u e there (acts.Release (Some t)) is h =
      let same : t.0 ≡ u = cc in
      record {
        cpu = e.cpu.0;
        cpu_is = ap cpu_in there;
        cpu_there = entry-cpu n e there;
        home_there = subst (λ v. seat_of (group_with p 0) v < processor_count p) same (grantee-cpu n e there t is);
      }

  pub grant-of-set : (n u : ℕ) → granted_at es n ≡ Some u → IsGrantOfSet n u
  grant-of-set n u h = by_entry (slice_get es n) refl h
    where
      by_entry : (o : Option SemEntry) → slice_get es n ≡ o → granted_in o ≡ Some u → IsGrantOfSet n u
      by_entry None there k = cc
      by_entry (Some e) there k = by-act n u e there e.act refl k
