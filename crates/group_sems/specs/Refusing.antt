-- When a Lock and an Unlock are refused, read off what is kept.
use Rattle.std.specs.List.{list_any}
use Rattle.std.specs.Prelude.{◌≡◌, ◌≤◌, ℕ, Bool, true, length, not, ◌&&◌, ◌||◌, ◌==◌, nat_le, List, map, Option, None, Some, if◌then◌else◌}
use Rattle.rt_base.specs.declared.TheConstants.{MOST_HELD}
use Rattle.rt_base.specs.declared.SemNo.{SemNo}
use Rattle.rt_task.specs.RuleWords.{is_stacked}
use Rattle.rt_task.specs.declared.Parts.{Parts}
use Rattle.rt_task.specs.declared.Protocol.{Protocol}
use Rattle.rt_task.specs.declared.Protocol.TheVariants.{Pcp, Srp}
use Rattle.rt_rules.specs.declared.history.Reply.{Reply}
use Rattle.rt_rules.specs.declared.history.Reply.TheVariants as replies
use Rattle.rt_rules.specs.Numbers.{has, is}
use Rattle.rt_model.specs.Ceilings.{is_pcp}
use Rattle.rt_model.specs.Group.{declares, protocol, task}
use Rattle.rt_plays.specs.Plays.{group_with}
use Rattle.sem_table.specs.SemTable.{SemTable}
use Rattle.sem_table.specs.Told.{held_of, last_of, state_of}

-- whether the task holds the semaphore
abbrev pub holds_it : SemTable → ℕ → ℕ → Bool
holds_it table t s = is t (state_of table s).holder

-- whether the task holds a semaphore that is none of PCP, and whether it holds one of these
abbrev pub holds_other_one : Parts → SemTable → ℕ → ℕ → Bool
holds_other_one p table t s = not (is_pcp (protocol (group_with p 0) s)) && holds_it table t s

abbrev pub holds_other : Parts → SemTable → ℕ → List ℕ → Bool
holds_other p table t ss = list_any (holds_other_one p table t) ss

abbrev pub uses_of : Parts → ℕ → List ℕ
uses_of p t = map (λ (n : SemNo). n.0) (task (group_with p 0) t).uses

-- requests do not nest, but PCP ones among themselves and SRP ones, up to eight
abbrev pub is_nested_by : Protocol → Parts → SemTable → ℕ → ℕ → Bool
is_nested_by Pcp p table t s = holds_other p table t (uses_of p t) || (holds_it table t s || nat_le MOST_HELD (held_of table t))
is_nested_by Srp p table t s = holds_it table t s || nat_le MOST_HELD (held_of table t)
is_nested_by _ p table t s = not (held_of table t == 0)

abbrev pub lock_refusal : Parts → SemTable → ℕ → ℕ → Option Reply
lock_refusal p table t s =
    if not (declares (group_with p 0) t s) then Some replies.NotDeclared else
    (if is_nested_by (protocol (group_with p 0) s) p table t s then Some replies.Nested else None)

abbrev pub unlock_refusal : Parts → SemTable → ℕ → ℕ → Option Reply
unlock_refusal p table t s =
    if not (holds_it table t s) then Some replies.NotHeld else
    (if is_stacked (protocol (group_with p 0) s) && not (is s (last_of table t)) then Some replies.NotLast else None)

-- these are semaphores of the set, and so are those that the task declares
abbrev pub AreSems : Parts → List ℕ → Type 0
AreSems p ss = (r : ℕ) → has r ss ≡ true → (1 ≤ r) × (r ≤ length p.sems)

abbrev pub AreSemsOf : Parts → ℕ → Type 0
AreSemsOf p t = AreSems p (uses_of p t)
