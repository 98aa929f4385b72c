-- The laws of the list of requests.
use Rattle.std.proofs.Common.{Bool, List, [], ap, eqb-true, false, map, refl, sym, true, ℕ, ◌∙◌, ◌∷◌, ◌≡◌, ◌||◌}
use Rattle.std.specs.Prelude.{None, Some, if◌then◌else◌, ◌==◌}
use Rattle.rt_rules.specs.Numbers.{has, is}
use Rattle.rt_model.specs.Blocking.{bound, ends, ends_all, is_blocked, requests}
use Rattle.rt_model.specs.Group.{Group}
use Rattle.rt_model.specs.Histories.{after, clock_moved, reply_to}
use Rattle.rt_model.specs.Holders.{awaits, sem_state}
use Rattle.rt_model.specs.Outcomes.{past_act}
use Rattle.rt_model.specs.Past.{Acted, Clock, Past, entries_in}
use Rattle.rt_rules.proofs.BoolLaws.{clash, unless}
use Rattle.rt_rules.proofs.MemberLaws.{is-some, some-is}
use Rattle.rt_laws.proofs.semaphores.OneWait.{awaits-is, waits_once}
use Rattle.rt_laws.proofs.ValidSets.{rules_of}
use Rattle.rt_laws.proofs.semaphores.Waiting.{awaits-waits}
use Rattle.rt_changes.specs.CountLaws.{EntryFeeds, OpensEmpty, WaitingListsWait, act_of}
use Rattle.rt_changes.specs.Tallies.{blocked_in, fed, tallies, waiter}
use Rattle.rt_changes.proofs.requests.Feeding.{event-feeds}

-- a move of the clock changes no count
clock-keeps : (g : Group) (tick : ℕ) (past : Past) → tallies g (Clock tick ∷ past) ≡ tallies g past
unfolding requests ends ends_all
clock-keeps g tick past = refl

pub none-asked : (g : Group) → tallies g [] ≡ []
unfolding requests
none-asked g = refl

pub opens_empty : OpensEmpty
opens_empty = record { opened = none-asked; clocked = clock-keeps }

pub entry_feeds : EntryFeeds
unfolding after past_act reply_to
entry_feeds g step past ws wait = event-feeds g (Acted (past_act g step.cpu.0 step.act (clock_moved step past))) (clock_moved step past) ws wait ∙ ap (fed (bound g) (entries_in past) (act_of g step past) ws) (clock-keeps g step.tick.0 past)

-- what is said of the tasks of a list
blocked-mapped : (g : Group) (past : Past) (t : ℕ) (ts : List ℕ) → blocked_in t (map (waiter g past) ts) ≡ (if has t ts then Some (is_blocked g t past) else None)
blocked-mapped g past t [] = refl
blocked-mapped g past t (u ∷ ts) = by_case (t == u) refl (blocked-mapped g past t ts)
  where
    by_case : (b : Bool) → t == u ≡ b → blocked_in t (map (waiter g past) ts) ≡ (if has t ts then Some (is_blocked g t past) else None) → (if b then Some (is_blocked g u past) else blocked_in t (map (waiter g past) ts)) ≡ (if b || has t ts then Some (is_blocked g t past) else None)
    by_case true k rest = let same : t ≡ u = eqb-true t u k in rw same refl
    by_case false k rest = rest

pub waiting_lists_wait : WaitingListsWait
waiting_lists_wait g past valid made s there t = blocked-mapped g past t (sem_state g s past).waiting ∙ ap (λ b. if b then Some (is_blocked g t past) else None) listed
  where
    listed : has t (sem_state g s past).waiting ≡ is s (awaits g t past)
    listed = by_case (has t (sem_state g s past).waiting) refl
      where
        by_case : (b : Bool) → has t (sem_state g s past).waiting ≡ b → b ≡ is s (awaits g t past)
        by_case true k = sym (some-is s (awaits g t past) (awaits-is g t s past (waits_once g (rules_of g valid) made) there k))
        by_case false k = sym (unless _ (λ h. clash _ (awaits-waits g t s past (is-some s (awaits g t past) h)).1 k))
