-- What a book keeps beside its history.
use Rattle.std.specs.Prelude.{◌≡◌, ℕ, ◌≤◌, List, length}
use Rattle.rt_base.specs.declared.SemNo.{SemNo}
use Rattle.split_inbox.specs.Books.{made_by, sem_state, IsHistory}
use Rattle.split_inbox.specs.Queues.{rule_of, state_of, IsRoomFor}
use Rattle.split_inbox.specs.Sums.{sum_of, total_from}
use Rattle.split_rules.specs.declared.SemEntry.{SemEntry}
use Rattle.split_inbox.specs.declared.subject.SemOf.{SemOf}
use Rattle.split_inbox.specs.declared.queue.Queue.{Queue}

abbrev pub about_of : SemNo → Queue → List ℕ → List ℕ → List ℕ → SemOf
about_of sem queue homes prios quotas = record { sem = sem; rule = rule_of queue; homes = homes; prios = prios; quotas = quotas }

-- the semaphore stands as after the entries, and there is room for all that processors may add
pub record IsKept (sem : SemNo) (queue : Queue) (homes prios quotas : List ℕ) (entries : List SemEntry) (capacity : ℕ) : Type 0 where
  pub history : IsHistory (about_of sem queue homes prios quotas) entries
  pub state : state_of queue ≡ sem_state (about_of sem queue homes prios quotas) entries
  pub room : IsRoomFor prios queue
  pub homes_are : length homes ≡ length prios
  pub all : total_from (λ q. made_by q entries) 0 quotas ≡ length entries
  pub reserved : sum_of quotas ≤ capacity
