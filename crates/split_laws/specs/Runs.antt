-- Split runs as a machine over plain data: the semaphores' histories, the partitions' histories, and of each inbox what was posted to it
-- and what was taken from it.
use Rattle.std.specs.Prelude.{◌≡◌, ℕ, ◌==◌, false, List, [], ◌∷◌, ◌++◌, length}
use Rattle.rt_base.specs.TaskNos.{number_of_task}
use Rattle.rt_task.specs.declared.Parts.{Parts}
use Rattle.rt_rules.specs.declared.history.Reply.TheVariants as replies
use Rattle.rt_rules.specs.SemState.{SemState}
use Rattle.rt_model.specs.Group.{Group, protocol}
use Rattle.rt_model.specs.Past.{now}
use Rattle.rt_plays.specs.Plays.{group_with}
use Rattle.split_rules.specs.Matching.{Books, DoMatch, claims, granted_at, told}
use Rattle.split_rules.specs.PartHistories.{IsEntryAt, IsLegalFrom, after, past_of}
use Rattle.split_rules.specs.PartPast.{Claim, PartPast, deeds, moves}
use Rattle.split_rules.specs.PartSems.{holding}
use Rattle.split_rules.specs.Partitions.{part_group}
use Rattle.split_rules.specs.SemHistories.{IsLegalSem, next_by, outcome, seat_of, sem_state}
use Rattle.std.specs.Prelude.{Some}
use Rattle.split_rules.specs.declared.SemAct.{SemAct}
use Rattle.split_rules.specs.declared.SemAct.TheVariants as acts
use Rattle.split_rules.specs.declared.SemEntry.{SemEntry}
use Rattle.split_rules.specs.declared.SplitAct.TheVariants as split
use Rattle.split_rules.specs.declared.SplitEntry.{SplitEntry}
use Rattle.split_laws.specs.Parts.{Among, IsSeat}
use Rattle.split_laws.specs.Posts.{TakenGrant, by_poster, given}

pub record SplitState : Type 0 where
  pub books : Books
  pub history : ℕ → List SplitEntry
  -- what processor q has posted to the inbox of processor r
  pub posted : ℕ → ℕ → List Claim
  -- what processor r has taken of its inbox, with who posted it
  pub taken : ℕ → List TakenGrant

-- the outcome of an act at a semaphore is that of the entries before it
abbrev pub IsOutcome : Group → ℕ → SemAct → SemState → Type 0
IsOutcome g s (acts.Ask a) l = a ≡ outcome l.holder
IsOutcome g s (acts.Release o) l = number_of_task o ≡ next_by g (protocol g s) l.waiting

-- the entry with which a grant is taken
abbrev pub take_of : ℕ → Claim → SplitEntry
take_of clock k = record {
  tick = record { 0 = clock };
  act = split.Take (record { 0 = k.sem }) k.no (record { 0 = k.task });
  reply = replies.Done;
}

module _ (p : Parts) where
  abbrev pub past_at : SplitState → ℕ → PartPast
  past_at st q = past_of (part_group p q) q (st.history q)

  -- the history of processor q has one entry more, and no other has
  pub record HasEntry (q : ℕ) (e : SplitEntry) (st st' : SplitState) : Type 0 where
    pub seat : IsSeat (part_group p q) q
    pub own : st'.history q ≡ st.history q ++ e ∷ []
    pub others : (r : ℕ) → r == q ≡ false → st'.history r ≡ st.history r

  -- a step of the script that does nothing at a semaphore
  pub record IsAlone (q : ℕ) (e : SplitEntry) (st st' : SplitState) : Type 0 where
    pub entry : HasEntry q e st st'
    pub answered : IsEntryAt (part_group p q) q (past_at st q) e
    pub no_deed : deeds (after (part_group p q) q e (past_at st q)) ≡ deeds (past_at st q)
    pub books_same : (s : ℕ) → st'.books s ≡ st.books s
    pub posted_same : (r i : ℕ) → st'.posted r i ≡ st.posted r i
    pub taken_same : (r : ℕ) → st'.taken r ≡ st.taken r

  -- a step of the script that asks for semaphore s or frees it: the semaphore's history has one entry more, with its outcome, and a
  -- grant by it is posted to the inbox of its task's processor
  pub record IsActing (q s : ℕ) (b : SemEntry) (e : SplitEntry) (st st' : SplitState) : Type 0 where
    pub entry : HasEntry q e st st'
    pub answered : IsEntryAt (part_group p q) q (past_at st q) e
    pub deed : deeds (after (part_group p q) q e (past_at st q)) ≡ deeds (past_at st q) ++ told s b ∷ []
    pub own_cpu : b.cpu.0 ≡ q
    pub came_out : IsOutcome (part_group p q) s b.act (sem_state (part_group p q) s (st.books s))
    pub book : st'.books s ≡ st.books s ++ b ∷ []
    pub books_others : (r : ℕ) → r == s ≡ false → st'.books r ≡ st.books r
    pub posts : (i : ℕ) → st'.posted q i ≡ st.posted q i ++ given (part_group p q) q i s (length (st.books s)) b
    pub posted_others : (r i : ℕ) → r == q ≡ false → st'.posted r i ≡ st.posted r i
    pub taken_same : (r : ℕ) → st'.taken r ≡ st.taken r

  -- the next grant of processor `from` is taken from the inbox of processor q
  pub record IsTaking (q from : ℕ) (k : Claim) (rest : List Claim) (st st' : SplitState) : Type 0 where
    pub entry : HasEntry q (take_of (now (moves (past_at st q))) k) st st'
    pub next : st.posted from q ≡ by_poster from (st.taken q) ++ k ∷ rest
    pub books_same : (s : ℕ) → st'.books s ≡ st.books s
    pub posted_same : (r i : ℕ) → st'.posted r i ≡ st.posted r i
    pub takes : st'.taken q ≡ st.taken q ++ record { from = from; claim = k } ∷ []
    pub taken_others : (r : ℕ) → r == q ≡ false → st'.taken r ≡ st.taken r

  pub record IsOpening (st : SplitState) : Type 0 where
    pub books : (s : ℕ) → st.books s ≡ []
    pub history : (q : ℕ) → st.history q ≡ []
    pub posted : (q r : ℕ) → st.posted q r ≡ []
    pub taken : (q : ℕ) → st.taken q ≡ []

  -- the states that such steps make, in any order
  pub data IsRun : SplitState → Type 0 where
    opened : {st : SplitState} → IsOpening st → IsRun st
    alone : {st st' : SplitState} (q : ℕ) (e : SplitEntry) → IsRun st → IsAlone q e st st' → IsRun st'
    acting : {st st' : SplitState} (q s : ℕ) (b : SemEntry) (e : SplitEntry) → IsRun st → IsActing q s b e st st' → IsRun st'
    taking : {st st' : SplitState} (q from : ℕ) (k : Claim) (rest : List Claim) → IsRun st → IsTaking q from k rest st st' → IsRun st'

  -- all inboxes are empty
  abbrev pub AllTaken : SplitState → Type 0
  AllTaken st = (q r : ℕ) → st.posted q r ≡ by_poster q (st.taken r)

  -- at each moment all histories are legal and match, and each semaphore is held by at most one task over all partitions
  pub record IsSplitPlay (st : SplitState) : Type 0 where
    pub books_legal : (s : ℕ) → IsLegalSem (group_with p 0) s (st.books s)
    pub parts_legal : (q : ℕ) → IsLegalFrom (part_group p q) q [] (st.history q)
    pub match : (q : ℕ) → DoMatch q st.books (past_at st q)
    pub one_holder : (s q r t u : ℕ) → holding t (past_at st q) ≡ Some s → holding u (past_at st r) ≡ Some s → t ≡ u

  -- each grant by a release is taken, and by the rising numbers of a match it is taken once
  abbrev pub EachIsTaken : SplitState → Type 0
  EachIsTaken st = (s n u : ℕ) → granted_at (st.books s) n ≡ Some u
      → Among (record { sem = s; no = n; task = u }) (claims (deeds (past_at st (seat_of (group_with p 0) u))))

-- So it is of all split runs; once all inboxes are empty, each grant by a release was taken.
abbrev pub RunsArePlays : Type 0
RunsArePlays = (p : Parts) (st : SplitState) → IsRun p st → IsSplitPlay p st

abbrev pub GrantsAreTaken : Type 0
GrantsAreTaken = (p : Parts) (st : SplitState) → IsRun p st → AllTaken p st → EachIsTaken p st
