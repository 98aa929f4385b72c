-- What the history of a semaphore of a set is about, and that the histories of such a book are the set's.
use Rattle.std.specs.Prelude.{◌≡◌, ℕ, ◌+◌, List, length, map}
use Rattle.rt_task.specs.declared.Parts.{Parts}
use Rattle.rt_task.specs.declared.PluginKind.TheVariants.{PFp}
use Rattle.rt_task.specs.declared.Protocol.{Protocol}
use Rattle.rt_task.specs.declared.Protocol.TheVariants.{Mpcp}
use Rattle.rt_rules.specs.Numbers.{numbers_from}
use Rattle.rt_model.specs.Group.{protocol, task}
use Rattle.rt_plays.specs.Plays.{group_with}
use Rattle.split_rules.specs.SemHistories.{IsLegalSem, seat_of, sem_state}
use Rattle.split_rules.specs.declared.SemEntry.{SemEntry}
use Rattle.split_inbox.specs.Books as book
use Rattle.split_inbox.specs.declared.subject.SemOf.{SemOf}
use Rattle.split_inbox.specs.declared.subject.SemRule.{SemRule}
use Rattle.split_inbox.specs.declared.subject.SemRule.TheVariants as rules

abbrev pub rule_of : Protocol → SemRule
rule_of Mpcp = rules.Mpcp
rule_of _ = rules.Fmlp

module _ (p : Parts) where
  -- at the number of each task, from 0 on, its processor, and its priority number
  abbrev pub homes : List ℕ
  homes = map (λ t. seat_of (group_with p 0) t) (numbers_from 0 (length p.tasks + 1))

  abbrev pub prios : List ℕ
  prios = map (λ t. (task (group_with p 0) t).prio) (numbers_from 0 (length p.tasks + 1))

  -- the history is about semaphore s of the set
  pub record IsAbout (s : ℕ) (about : SemOf) : Type 0 where
    pub sem_is : about.sem.0 ≡ s
    pub rule_is : about.rule ≡ rule_of (protocol (group_with p 0) s)
    pub homes_are : about.homes ≡ homes
    pub prios_are : about.prios ≡ prios

  -- a history of the book is legal in the set too, and leaves the semaphore as it says
  pub record IsOfSet (s : ℕ) (about : SemOf) (es : List SemEntry) : Type 0 where
    pub legal : IsLegalSem (group_with p 0) s es
    pub state_is : book.sem_state about es ≡ sem_state (group_with p 0) s es

-- So it is of each legal history of a book, where MPCP stands under P-FP alone, as in each valid set.
abbrev pub BooksAreLegal : Type 0
BooksAreLegal = (p : Parts) (s : ℕ) (about : SemOf) (es : List SemEntry) → (protocol (group_with p 0) s ≡ Mpcp → p.plugin ≡ PFp)
    → IsAbout p s about → book.IsLegalSem about es → IsOfSet p s about es
