-- How often a job is blocked under the priority ceiling protocol (Sha, Rajkumar and Lehoczky, IEEE Transactions on Computers, 1990): by
-- at most one outermost critical section of the tasks of lower base key. A critical section is known by its task and by the entry with
-- which it began.
use Rattle.std.specs.Prelude.{◌≡◌, ℕ, ◌+◌, ◌≤◌, ◌==◌, Bool, true, false, not, ◌&&◌, ◌||◌, [], ◌∷◌, Option, None, Some, if◌then◌else◌}
use Rattle.std.specs.Prelude.{is_none, map, filter, length}
use Rattle.std.specs.List.{list_any}
use Rattle.rt_task.specs.Validity.{IsValid}
use Rattle.rt_rules.specs.Numbers.{has}
use Rattle.rt_rules.specs.Pcp.{TaskSem}
use Rattle.rt_rules.specs.Placing.{tasks_in}
use Rattle.rt_rules.specs.SemState.{SemAct, Asks}
use Rattle.rt_model.specs.BaseKeys.{above}
use Rattle.rt_model.specs.Ceilings.{is_pcp, above_ceiling, at_cluster, pcp}
use Rattle.rt_model.specs.Group.{Group, home, protocol, tasks}
use Rattle.rt_model.specs.Holders.{awaits}
use Rattle.rt_model.specs.Links.{links, pending}
use Rattle.rt_model.specs.Past.{Past, Clock, Acted, sem_act, entries_in}
use Rattle.rt_model.specs.Reachable.{IsReachable}
use Rattle.rt_model.specs.Releases.{ready}
use Rattle.rt_laws.specs.EveryPast.{EveryPast}

abbrev pub is_asking : SemAct → Bool
is_asking (Asks u s) = true
is_asking _ = false

module _ (g : Group) where
  -- whether what a task waits for is a PCP semaphore
  unfoldable pub is_of_pcp : Option ℕ → Bool
  is_of_pcp None = false
  is_of_pcp (Some s) = is_pcp (protocol g s)

  -- a task's job is there, does not sleep, and waits for no semaphore but those of PCP. A stretch is a time through which that is so
  unfoldable pub stays_ready : ℕ → Past → Bool
  stays_ready t past = ready g t past && (is_none (awaits g t past) || is_of_pcp (awaits g t past))

  -- u is a task of the cluster of t, and of lower base key
  unfoldable pub is_lower : ℕ → ℕ → Bool
  is_lower t u = home g u == home g t && above g [] t u

  -- a task is in a critical section: it holds PCP semaphores; and the entry from which on it has held some without a break
  unfoldable pub is_inside : ℕ → Past → Bool
  is_inside u past = has u (map (λ (p : TaskSem). p.task) (pcp g (home g u) past).held)

  unfoldable pub entered : ℕ → Past → ℕ
  entered u [] = 0
  entered u (e ∷ past) = if is_inside u past then entered u past else entries_in past

  -- in its critical section u holds a semaphore whose ceiling t is not above
  unfoldable pub reaches : ℕ → ℕ → Past → Bool
  reaches t u past = list_any (λ p. p.task == u && not (above_ceiling g t p.sem)) (pcp g (home g t) past).held

  -- a task is linked to a processor of the cluster
  unfoldable pub is_linked : ℕ → ℕ → Past → Bool
  is_linked c u past = has u (tasks_in (links g c past))

  -- the critical section of u, a lower task, blocks t: t waits for a PCP semaphore, and the section has one whose ceiling t is not
  -- above; or u is linked in the place of t
  unfoldable pub blocks : ℕ → ℕ → Past → Bool
  blocks t u past = is_lower t u && (is_of_pcp (awaits g t past) && reaches t u past || is_linked (home g t) u past && is_inside u past)

  -- the critical section of u that began with entry n has blocked t in the stretch in which t is
  unfoldable pub was_blocked : ℕ → ℕ → ℕ → Past → Bool
  was_blocked t u n [] = stays_ready t [] && (blocks t u [] && entered u [] == n)
  was_blocked t u n (e ∷ past) = stays_ready t (e ∷ past) && (blocks t u (e ∷ past) && entered u (e ∷ past) == n || was_blocked t u n past)

  -- a lower task that asks for a PCP semaphore is linked: its processor has taken the interrupt that was to take the task from it.
  -- Through the stretch that is so
  unfoldable pub asks_linked : ℕ → SemAct → Past → Bool
  asks_linked t (Asks u s) past = if is_lower t u then is_linked (home g t) u past else true
  asks_linked t _ past = true

  unfoldable pub is_prompt : ℕ → Past → Bool
  is_prompt t [] = true
  is_prompt t (e ∷ past) = if stays_ready t past then asks_linked t (at_cluster g (home g t) (sem_act e)) past && is_prompt t past else true

  -- each accepted Lock came where no interrupt was pending at its processor
  unfoldable pub takes_interrupts : Past → Bool
  takes_interrupts [] = true
  takes_interrupts (Clock tick ∷ past) = takes_interrupts past
  takes_interrupts (Acted d ∷ past) = (not (is_asking (sem_act (Acted d))) || not (pending g d.cpu past)) && takes_interrupts past

  -- how many lower tasks wait for a PCP semaphore whose ceiling t is not above; and how many did when the stretch began
  unfoldable pub lower_waiting : ℕ → Past → ℕ
  lower_waiting t past = length (filter (λ p. is_lower t p.task && not (above_ceiling g t p.sem)) (pcp g (home g t) past).waiting)

  unfoldable pub waiting_at_first : ℕ → Past → ℕ
  waiting_at_first t [] = 0
  waiting_at_first t (e ∷ past) = if stays_ready t past then waiting_at_first t past else lower_waiting t (e ∷ past)

  -- a section blocks t that had not before in the stretch; and how many sections did in the stretch, each counted where it first does
  unfoldable pub is_blocked_anew : ℕ → Past → Bool
  is_blocked_anew t [] = list_any (λ u. blocks t u []) (tasks g)
  is_blocked_anew t (e ∷ past) = list_any (λ u. blocks t u (e ∷ past) && not (was_blocked t u (entered u (e ∷ past)) past)) (tasks g)

  unfoldable pub sections_seen : ℕ → Past → ℕ
  sections_seen t [] = if stays_ready t [] && is_blocked_anew t [] then 1 else 0
  sections_seen t (e ∷ past) =
      if stays_ready t (e ∷ past) then (if is_blocked_anew t (e ∷ past) then 1 else 0) + sections_seen t past else 0

-- At every moment at most one lower task is in a critical section with a semaphore whose ceiling a task is not above.
abbrev pub OneReaches : Type 0
OneReaches =
    EveryPast (λ g past. (t u v : ℕ) → is_lower g t u ≡ true → is_lower g t v ≡ true → reaches g t u past ≡ true →
    reaches g t v past ≡ true → u ≡ v)

-- What blocks a job is such a critical section.
abbrev pub BlockerReaches : Type 0
BlockerReaches =
    EveryPast (λ g past. (t u : ℕ) → has t (tasks g) ≡ true → stays_ready g t past ≡ true → blocks g t u past ≡ true
    → reaches g t u past ≡ true)

-- Where interrupts are taken before a Lock, each lower task that asks is linked.
abbrev pub TakingIsPrompt : Type 0
TakingIsPrompt = EveryPast (λ g past. (t : ℕ) → takes_interrupts g past ≡ true → is_prompt g t past ≡ true)

-- Through a stretch a job is blocked by at most one critical section, and by one more for each lower task that waited for a PCP
-- semaphore when the stretch began, where each lower task that asks is linked.
abbrev pub BlockedAtMost : Type 0
BlockedAtMost =
    EveryPast (λ g past. (t : ℕ) → has t (tasks g) ≡ true → is_prompt g t past ≡ true
    → sections_seen g t past ≤ 1 + waiting_at_first g t past)

-- So where none waited it is one section, with all that it blocks.
abbrev pub BlockedOnce : Type 0
BlockedOnce =
    EveryPast (λ g past. (t u v n m : ℕ) → has t (tasks g) ≡ true → is_prompt g t past ≡ true → waiting_at_first g t past ≡ 0 →
    was_blocked g t u n past ≡ true → was_blocked g t v m past ≡ true → (u ≡ v) × (n ≡ m))

-- a job that is blocked by so many sections, where some lower task waited
pub record ReachesBlocked : Type 0 where
  pub group : Group
  pub past : Past
  pub is_valid : IsValid group.setup
  pub is_made : IsReachable group past
  pub task : ℕ
  pub member : has task (tasks group) ≡ true
  pub prompt : is_prompt group task past ≡ true
  pub some_waited : 1 ≤ waiting_at_first group task past
  pub reached : sections_seen group task past ≡ 1 + waiting_at_first group task past
