-- The history of a semaphore that processors share: who asked for it and who freed it, in one order.
use Rattle.std.specs.Prelude.{◌≡◌, ℕ, ◌<◌, ◌≤◌, Bool, false, List, [], ◌∷◌, length, slice_index, Option, Some, ⊤}
use Rattle.rt_base.specs.TaskNos.{number_of_task}
use Rattle.rt_base.specs.declared.Ask.{Ask}
use Rattle.rt_base.specs.declared.CpuNo.{CpuNo}
use Rattle.rt_base.specs.declared.TaskNo.{TaskNo}
use Rattle.rt_rules.specs.KeyOrder.{higher}
use Rattle.rt_rules.specs.declared.Key.{Key}
use Rattle.rt_rules.specs.Mpcp.{after_ask, passed_on}
use Rattle.rt_rules.specs.Numbers.{first, foremost, has, is}
use Rattle.rt_rules.specs.SemState.{SemState}
use Rattle.turn_cell.specs.Words.{entries_of}
use Rattle.split_inbox.specs.Sums.{sum_of}
use Rattle.split_rules.specs.SemHistories.{nobody, outcome}
use Rattle.split_rules.specs.declared.SemAct.{SemAct}
use Rattle.split_rules.specs.declared.SemAct.TheVariants as acts
use Rattle.split_rules.specs.declared.SemEntry.{SemEntry}
use Rattle.split_inbox.specs.declared.subject.SemOf.{SemOf}
use Rattle.split_inbox.specs.declared.subject.SemRule.{SemRule}
use Rattle.split_inbox.specs.declared.subject.SemRule.TheVariants as rules

-- a book: what its history is about, and the history
pub record BookOf : Type 0 where
  pub about : SemOf
  pub entries : List SemEntry

abbrev pub entry : CpuNo → TaskNo → SemAct → SemEntry
entry cpu task act = record { cpu = cpu; task = task; act = act }

abbrev pub cpu_of : SemEntry → ℕ
cpu_of e = e.cpu.0

-- how many entries of a history a processor made
abbrev pub made_by : ℕ → List SemEntry → ℕ
made_by q es = length (entries_of cpu_of q es)

-- the key of a task by its priority, and whether that of one task is higher than that of another
abbrev pub prio_key : List ℕ → ℕ → Key
prio_key prios t = record { band = 2; major = slice_index prios t; minor = t }

abbrev pub above_prio : List ℕ → ℕ → ℕ → Bool
above_prio prios t u = higher (prio_key prios t) (prio_key prios u)

-- the waiting task that is next
abbrev pub next_by : SemRule → List ℕ → List ℕ → Option ℕ
next_by rules.Fmlp prios waiting = first waiting
next_by rules.Mpcp prios waiting = foremost (above_prio prios) waiting

module _ (s : SemOf) where
  -- what an act of a task makes of the semaphore
  abbrev pub after_act : ℕ → SemAct → SemState → SemState
  after_act t (acts.Ask a) l = after_ask t l.holder l
  after_act t (acts.Release o) l = passed_on (next_by s.rule s.prios l.waiting) l.waiting

  abbrev pub state_from : SemState → List SemEntry → SemState
  state_from l [] = l
  state_from l (e ∷ es) = state_from (after_act e.task.0 e.act l) es

  -- who holds the semaphore and who waits for it, after the entries
  abbrev pub sem_state : List SemEntry → SemState
  sem_state es = state_from nobody es

  -- a task asks that neither holds the semaphore nor waits for it
  pub record IsAskAt (t : ℕ) (a : Ask) (l : SemState) : Type 0 where
    pub free_hands : is t l.holder ≡ false
    pub outside : has t l.waiting ≡ false
    pub answer : a ≡ outcome l.holder

  -- the task frees it that holds it
  pub record IsReleaseAt (t : ℕ) (o : Option TaskNo) (l : SemState) : Type 0 where
    pub holds : l.holder ≡ Some t
    pub next : number_of_task o ≡ next_by s.rule s.prios l.waiting

  abbrev pub IsActAt : ℕ → SemAct → SemState → Type 0
  IsActAt t (acts.Ask a) l = IsAskAt t a l
  IsActAt t (acts.Release o) l = IsReleaseAt t o l

  -- an entry is one of its task's processor, with the outcome that it comes to
  pub record IsEntryAt (l : SemState) (e : SemEntry) : Type 0 where
    pub low : 1 ≤ e.task.0
    pub known : e.task.0 < length s.homes
    pub at_home : e.cpu.0 ≡ slice_index s.homes e.task.0
    pub act : IsActAt e.task.0 e.act l

  abbrev pub IsLegalFrom : SemState → List SemEntry → Type 0
  IsLegalFrom l [] = ⊤
  IsLegalFrom l (e ∷ es) = IsEntryAt l e × IsLegalFrom (after_act e.task.0 e.act l) es

  -- a legal history of the semaphore
  abbrev pub IsLegalSem : List SemEntry → Type 0
  IsLegalSem es = IsLegalFrom nobody es

  -- a processor may add an entry of a task
  pub record MayAdd (es : List SemEntry) (q t : ℕ) : Type 0 where
    pub low : 1 ≤ t
    pub known : t < length s.homes
    pub at_home : q ≡ slice_index s.homes t
    pub room : made_by q es < slice_index s.quotas q

  -- what a book keeps
  pub record IsHistory (es : List SemEntry) : Type 0 where
    pub legal : IsLegalSem es
    -- no processor has more entries than it may make
    pub within : (q : ℕ) → made_by q es ≤ slice_index s.quotas q
    pub few : length es ≤ sum_of s.quotas
