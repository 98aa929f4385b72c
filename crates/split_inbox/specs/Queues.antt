-- The two kinds of semaphore, as one.
use Rattle.std.specs.Prelude.{◌≡◌, ℕ, true, List, length}
use Rattle.rt_rules.specs.Numbers.{has}
use Rattle.rt_rules.specs.SemState.{SemState, in_line}
use Rattle.sem_laws.specs.KeptKeys.{key_at}
use Rattle.mpcp_sem.specs.MpcpState.{MpcpState}
use Rattle.split_inbox.specs.Books.{prio_key}
use Rattle.split_inbox.specs.declared.subject.SemRule.{SemRule}
use Rattle.split_inbox.specs.declared.subject.SemRule.TheVariants as rules
use Rattle.split_inbox.specs.declared.queue.Queue.{Queue}
use Rattle.split_inbox.specs.declared.queue.Queue.TheVariants as kinds

abbrev pub rule_of : Queue → SemRule
rule_of (kinds.Fmlp f) = rules.Fmlp
rule_of (kinds.Mpcp m) = rules.Mpcp

abbrev pub state_of : Queue → SemState
state_of (kinds.Fmlp f) = in_line f.line
state_of (kinds.Mpcp m) = m.state

-- each task that waits gave the key of its priority
pub record IsKeyed (prios : List ℕ) (m : MpcpState) : Type 0 where
  pub room : length m.keys ≡ length prios
  pub keys : (t : ℕ) → has t m.state.waiting ≡ true → key_at m.keys t ≡ prio_key prios t

-- there is room for the tasks with these priorities
abbrev pub IsRoomFor : List ℕ → Queue → Type 0
IsRoomFor prios (kinds.Fmlp f) = f.room ≡ length prios
IsRoomFor prios (kinds.Mpcp m) = IsKeyed prios m
