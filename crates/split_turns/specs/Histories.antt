-- What the history of a turn of a semaphore is: a legal history of the set.
use Rattle.std.specs.Prelude.{ℕ, List}
use Rattle.rt_task.specs.declared.Parts.{Parts}
use Rattle.rt_task.specs.Validity.{IsValid}
use Rattle.set_books.specs.SetBooks.{IsOfSet}
use Rattle.split_inbox.specs.Books as book
use Rattle.split_rules.specs.declared.SemEntry.{SemEntry}
use Rattle.split_turns.specs.SplitTurns.{book_of}

-- Each legal history of the book is legal in the set, and leaves the semaphore as it says.
abbrev pub HistoriesAreOfSet : Type 0
HistoriesAreOfSet = (p : Parts) (s : ℕ) (es : List SemEntry) → IsValid p → book.IsLegalSem (book_of p s) es → IsOfSet p s (book_of p s) es
