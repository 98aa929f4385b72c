-- What a partition may do at the book of a semaphore, by its own history, what it has seen, and what its script has still to do.
use Rattle.std.specs.Prelude.{◌≡◌, ℕ, ◌<◌, ◌≤◌, true, false, List, [], length, None, Some}
use Rattle.rt_task.specs.Validity.{IsValid}
use Rattle.rt_task.specs.declared.Parts.{Parts}
use Rattle.rt_task.specs.declared.Step.{Step}
use Rattle.rt_rules.specs.Numbers.{has, is}
use Rattle.rt_plays.specs.Drives.{steps_given}
use Rattle.rt_plays.specs.Room.{processor_count}
use Rattle.rt_plays.specs.Scripts.{script}
use Rattle.split_rules.specs.Matching.{Books}
use Rattle.split_rules.specs.PartHistories.{IsLegalFrom, past_of}
use Rattle.split_rules.specs.PartPast.{PartPast}
use Rattle.split_rules.specs.PartSems.{awaiting, holding}
use Rattle.split_rules.specs.Partitions.{part_group}
use Rattle.split_rules.specs.SemHistories.{seat_of}
use Rattle.split_rules.specs.declared.SemEntry.{SemEntry}
use Rattle.split_rules.specs.declared.SplitEntry.{SplitEntry}
use Rattle.split_inbox.specs.Books as book
use Rattle.split_inbox.specs.Books.{MayAdd, sem_state}
use Rattle.split_inbox.specs.declared.subject.SemOf.{SemOf}
use Rattle.split_laws.specs.Counts.{names_sem}
use Rattle.split_laws.specs.Parts.{HasSeen, IsSeat}
use Rattle.split_counts.specs.Room.{ComesNext}
use Rattle.split_turns.specs.SplitTurns.{book_of}

-- a task of processor q may ask, with a book that is about this and has these entries
pub record CanAsk (about : SemOf) (es : List SemEntry) (q t : ℕ) : Type 0 where
  pub add : MayAdd about es q t
  pub free_hands : is t (sem_state about es).holder ≡ false
  pub outside : has t (sem_state about es).waiting ≡ false

-- and may release
pub record CanRelease (about : SemOf) (es : List SemEntry) (q t : ℕ) : Type 0 where
  pub add : MayAdd about es q t
  pub holds : (sem_state about es).holder ≡ Some t

abbrev pub past_in : Parts → ℕ → List SplitEntry → PartPast
past_in p q es = past_of (part_group p q) q es

-- the partition of processor q has a legal history and has seen these histories, of which the book of semaphore s keeps one; step x of its
-- script comes next, which locks or unlocks s; and the task is its own
pub record StandsAt (p : Parts) (q s t : ℕ) (books : Books) (es : List SplitEntry) (x : Step) : Type 0 where
  pub valid : IsValid p
  pub seat : IsSeat (part_group p q) q
  pub there : q < processor_count p
  pub legal : IsLegalFrom (part_group p q) q [] es
  pub seen : HasSeen (part_group p q) q books (past_in p q es)
  pub kept : book.IsLegalSem (book_of p s) (books s)
  pub next : ComesNext (script (steps_given p.drive) q) q es x
  pub names : names_sem s x.act ≡ true
  pub low : 1 ≤ t
  pub known : t ≤ length p.tasks
  pub at_home : seat_of (part_group p q) t ≡ q

-- A task that holds and waits for nothing, as its partition knows, may ask with the book.
abbrev pub MayAskBook : Type 0
MayAskBook = (p : Parts) (q s t : ℕ) (books : Books) (es : List SplitEntry) (x : Step) → StandsAt p q s t books es x
    → holding t (past_in p q es) ≡ None → awaiting t (past_in p q es) ≡ None → CanAsk (book_of p s) (books s) q t

-- A task that holds the semaphore, as its partition knows, may release it with the book.
abbrev pub MayReleaseBook : Type 0
MayReleaseBook = (p : Parts) (q s t : ℕ) (books : Books) (es : List SplitEntry) (x : Step) → StandsAt p q s t books es x
    → holding t (past_in p q es) ≡ Some s → CanRelease (book_of p s) (books s) q t
