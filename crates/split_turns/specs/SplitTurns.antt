-- The turns of the semaphores of a split set: what the book of each is about, and the seats of the processors.
use Rattle.std.specs.Prelude.{◌≡◌, ℕ, suc, List, [], ◌∷◌, length, map, Some, ⊤}
use Rattle.rt_task.specs.declared.Parts.{Parts}
use Rattle.rt_rules.specs.Numbers.{numbers_from}
use Rattle.rt_model.specs.Group.{protocol}
use Rattle.rt_plays.specs.Drives.{steps_given}
use Rattle.rt_plays.specs.Plays.{group_with}
use Rattle.rt_plays.specs.Room.{processor_count}
use Rattle.rt_plays.specs.Scripts.{script}
use Rattle.turn_cell.specs.SeatViews.{fresh_seats}
use Rattle.split_inbox.specs.declared.subject.SemOf.{SemOf}
use Rattle.split_laws.specs.Counts.{count_steps, names_sem}
use Rattle.set_books.specs.SetBooks.{homes, prios, rule_of}
use Rattle.split_turns.specs.declared.turns.SemTurn.{SemTurn}

module _ (p : Parts) where
  -- how many entries processor q may add to the history of semaphore s: as many as its script has steps that lock or unlock it
  abbrev pub quota : ℕ → ℕ → ℕ
  quota s q = count_steps (names_sem s) (script (steps_given p.drive) q)

  abbrev pub quotas : ℕ → List ℕ
  quotas s = map (quota s) (numbers_from 0 (processor_count p))

  -- what the book of semaphore s is about
  abbrev pub book_of : ℕ → SemOf
  book_of s = record {
    sem = record { 0 = s };
    rule = rule_of (protocol (group_with p 0) s);
    homes = homes p;
    prios = prios p;
    quotas = quotas s;
  }

  -- a turn of that book, of which no seat has seen an entry
  pub record IsTurnOf (s : ℕ) (t : SemTurn) : Type 0 where
    pub cpus : t.turn.cpus ≡ processor_count p
    pub book : t.turn.cell.subject ≡ Some (book_of s)
    pub seats : t.seats.items ≡ fresh_seats t.turn.cell (processor_count p)

  -- turns of the semaphores from number s on
  abbrev pub AreTurnsFrom : ℕ → List SemTurn → Type 0
  AreTurnsFrom s [] = ⊤
  AreTurnsFrom s (t ∷ ts) = IsTurnOf s t × AreTurnsFrom (suc s) ts

  -- the turns of all semaphores, by rising number
  pub record AreTurns (ts : List SemTurn) : Type 0 where
    pub count : length ts ≡ length p.sems
    pub each : AreTurnsFrom 1 ts
