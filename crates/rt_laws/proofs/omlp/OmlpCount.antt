-- OMLP: at most m blocked ends in the priority queue, and at most m - 1 more in the FIFO list.
use Rattle.std.proofs.Common.{Bool, List, [], ap, append-nil, append_assoc, arith, eqb-true, false, inl, inr, le-ltb, length, length-append, refl, subst, sym, true, ℕ, ◌&&◌, ◌*◌, ◌++◌, ◌+◌, ◌-◌, ◌<◌, ◌||◌, ◌∙◌, ◌∷◌, ◌≡◌, ◌≤◌, ◌⊎◌}
use Rattle.std.proofs.lemmas.Bool.Decides.{nat_tests}
use Rattle.std.proofs.lemmas.List.Sums.{length-filter}
use Rattle.std.specs.Prelude.{None, Option, Some, count_by, filter, if◌then◌else◌, is_some, nat_lt, ◌==◌}
use Rattle.rt_task.specs.RuleWords.{is_of_one_cluster, stands_under}
use Rattle.rt_task.specs.declared.Protocol.TheVariants.{Omlp}
use Rattle.rt_rules.specs.KeyOrder.{higher}
use Rattle.rt_rules.specs.Distinct.{IsDistinct}
use Rattle.rt_rules.specs.Numbers.{foremost, has, is, rest, without}
use Rattle.rt_rules.specs.Omlp.{OmlpState, handed_over, omlp_after}
use Rattle.rt_rules.specs.SemState.{Asks, Frees, Neither, SemAct}
use Rattle.rt_model.specs.BaseKeys.{above, base_key}
use Rattle.rt_model.specs.Blocking.{ends, frees, is_blocked, is_open, newest_request}
use Rattle.rt_model.specs.Group.{Group, cpus, home, protocol, sems, tasks_of}
use Rattle.rt_model.specs.Holders.{awaits}
use Rattle.rt_model.specs.Reachable.{IsReachable}
use Rattle.rt_model.specs.Past.{Event, Past, entries_in, sem_act}
use Rattle.rt_model.specs.Releases.{exists}
use Rattle.rt_model.specs.Semaphores.{at_sem, cluster_of, omlp}
use Rattle.rt_rules.proofs.BoolLaws.{both, clash, or_true, unless, or_else}
use Rattle.rt_rules.proofs.DistinctLaws.{length-distinct, without-gone}
use Rattle.rt_rules.proofs.FmlpLaws.{ahead, ahead-append, ahead-last, ahead-rest}
use Rattle.rt_rules.proofs.KeyLaws.{foremost-none, foremost-some}
use Rattle.rt_rules.proofs.MemberLaws.{equal_self, has-append, has-appended, has-filter, has-one, has-rest, has-without, length-one_more}
use Rattle.rt_rules.proofs.OmlpLaws.{IsQueued}
use Rattle.rt_rules.proofs.PlacingLaws.{distinct-filter}
use Rattle.rt_model.proofs.TopLaws.{distinct-tasks_of}
use Rattle.rt_laws.proofs.jobs.BaseKeyLaws.{above-order}
use Rattle.rt_laws.proofs.jobs.Engaged.{engaged, engaged_by}
use Rattle.rt_laws.proofs.jobs.EngagedJobs.{AllActive, all_active, engaged-key}
use Rattle.rt_laws.proofs.GroupLaws.{has_room, home-tasks_of, user-home, user-task}
use Rattle.rt_laws.proofs.Moves.{by_moves, moved}
use Rattle.rt_laws.proofs.Next.{IsNext, next}
use Rattle.rt_laws.proofs.omlp.OmlpState.{omlp-fresh, omlp-sem_state, queued}
use Rattle.rt_laws.proofs.semaphores.OneWait.{WaitsOnce, waits_once}
use Rattle.rt_laws.proofs.semaphores.OpenRequests.{entries-grow, newest-below, open-before, open-waits}
use Rattle.rt_laws.proofs.Rules.{MeetsRules}

-- nothing ended before the request was asked
pub ends-none : (g : Group) (r t s : ℕ) (past : Past) → entries_in past ≤ r → ends g r t s past ≡ 0
unfolding ends is_open
ends-none g r t s [] h = refl
ends-none g r t s (e ∷ past) h = rw (shut) (by_case (frees s (sem_act e)) (ends-none g r t s past (omega (arith, h, entries-grow e past))))
  where
    shut : is s (awaits g t past) && is r (newest_request t past) ≡ false
    shut = unless _ (λ k. let n : r < entries_in past = newest-below t r past (both (is s (awaits g t past)) (is r (newest_request t past)) k).1 in absurd (omega (arith, h, entries-grow e past, n)))

    by_case : (b : Bool) → ends g r t s past ≡ 0 → (if b && false then ends g r t s past + 1 else ends g r t s past) ≡ 0
    by_case true k = k
    by_case false k = k

-- one more event: a blocked end, or none
abbrev IsEnd : Group → ℕ → ℕ → ℕ → Event → Past → Type 0
IsEnd g r t s e past = (frees s (sem_act e) ≡ true) × (is_open g r t s past ≡ true) × (is_blocked g t past ≡ true) × (ends g r t s (e ∷ past) ≡ ends g r t s past + 1)

ends-cases : (g : Group) (r t s : ℕ) (e : Event) (past : Past) → IsEnd g r t s e past ⊎ (ends g r t s (e ∷ past) ≡ ends g r t s past)
unfolding ends
ends-cases g r t s e past = by_cases (frees s (sem_act e)) (is_open g r t s past) (is_blocked g t past)
  where
    by_cases : (a b c : Bool) → ((a ≡ true) × (b ≡ true) × (c ≡ true) × ((if a && (b && c) then ends g r t s past + 1 else ends g r t s past) ≡ ends g r t s past + 1)) ⊎ ((if a && (b && c) then ends g r t s past + 1 else ends g r t s past) ≡ ends g r t s past)
    by_cases true true true = inl (refl, refl, refl, refl)
    by_cases true true false = inr refl
    by_cases true false c = inr refl
    by_cases false b c = inr refl

-- a list of m users that all have a current job above the task: it is not blocked
pub not_blocked : (g : Group) (t : ℕ) (past : Past) (us : List ℕ) → IsDistinct us → cpus g (home g t) ≤ length us → ((u : ℕ) → has u us ≡ true → (has u (tasks_of g (home g t)) ≡ true) × (exists g u past ≡ true) × (above g past u t ≡ true)) → is_blocked g t past ≡ false
unfolding is_blocked above
not_blocked g t past us once long each = by_case (is_some (awaits g t past))
  where
    test : ℕ → Bool
    test u = exists g u past && higher (base_key g u past) (base_key g t past)

    inside : (u : ℕ) → has u us ≡ true → has u (filter test (tasks_of g (home g t))) ≡ true
    inside u h = let k = each u h in rw (has-filter test u (tasks_of g (home g t)), k.0, k.1, k.2)

    enough : length us ≤ length (filter test (tasks_of g (home g t)))
    enough = length-distinct us (filter test (tasks_of g (home g t))) once (distinct-filter test (tasks_of g (home g t)) (distinct-tasks_of g (home g t))) inside

    counted : length (filter test (tasks_of g (home g t))) ≡ count_by test (tasks_of g (home g t))
    counted = length-filter test (tasks_of g (home g t))

    by_case : (b : Bool) → b && nat_lt (count_by test (tasks_of g (home g t))) (cpus g (home g t)) ≡ false
    by_case true = le-ltb (count_by test (tasks_of g (home g t))) (cpus g (home g t)) (omega (arith, enough, counted, long))
    by_case false = refl

-- the last members of the FIFO list are above the task
pub record HasTail (g : Group) (t : ℕ) (past : Past) (fifo : List ℕ) (n : ℕ) : Type 0 where
  pub front : List ℕ
  pub back : List ℕ
  pub parts : fifo ≡ front ++ back
  pub all_above : (u : ℕ) → has u back ≡ true → above g past u t ≡ true
  pub long : n ≤ length back

-- what an event does at a semaphore
pub at-cases : (s : ℕ) (x : SemAct) → (at_sem s x ≡ Neither) ⊎ (((u : ℕ) × (x ≡ Asks u s)) ⊎ ((u : ℕ) × (x ≡ Frees u s)))
at-cases s (Asks u r) = by_case (s == r) refl
  where
    by_case : (b : Bool) → s == r ≡ b → ((if b then Asks u r else Neither) ≡ Neither) ⊎ (((v : ℕ) × (Asks u r ≡ Asks v s)) ⊎ ((v : ℕ) × (Asks u r ≡ Frees v s)))
    by_case true e = let same : r ≡ s = sym (eqb-true s r e) in inr (inl (u, ap {B = SemAct} (λ n. Asks u n) same))
    by_case false e = inl refl
at-cases s (Frees u r) = by_case (s == r) refl
  where
    by_case : (b : Bool) → s == r ≡ b → ((if b then Frees u r else Neither) ≡ Neither) ⊎ (((v : ℕ) × (Frees u r ≡ Asks v s)) ⊎ ((v : ℕ) × (Frees u r ≡ Frees v s)))
    by_case true e = let same : r ≡ s = sym (eqb-true s r e) in inr (inr (u, ap {B = SemAct} (λ n. Frees u n) same))
    by_case false e = inl refl
at-cases s Neither = inl refl

pub omlp-next : (g : Group) (s : ℕ) (e : Event) (past : Past) → omlp g s (e ∷ past) ≡ omlp_after (cpus g (cluster_of g s)) (above g past) (at_sem s (sem_act e)) (omlp g s past)
unfolding omlp
omlp-next g s e past = refl

engaged-omlp : (g : Group) (t s : ℕ) (past : Past) → protocol g s ≡ Omlp → engaged g t s past ≡ has t ((omlp g s past).fifo ++ (omlp g s past).queue)
unfolding engaged engaged_by
engaged-omlp g t s past h = rw h

module _ (g : Group) (rules : MeetsRules g) (r t s : ℕ) (p : protocol g s ≡ Omlp) (a : stands_under Omlp g.setup.plugin ≡ true) (one : is_of_one_cluster (protocol g s) g.setup.plugin ≡ true) (known : has s (sems g) ≡ true) where
  abbrev pub m : ℕ
  m = cpus g (cluster_of g s)

  pub record IsCounted (past : Past) : Type 0 where
    pub so_far : ends g r t s past ≤ 2 * cpus g (cluster_of g s) - 1
    pub in_fifo : is_open g r t s past ≡ true → has t (rest (omlp g s past).fifo) ≡ true → ends g r t s past + ahead t (omlp g s past).fifo ≤ 2 * cpus g (cluster_of g s) - 1
    pub in_queue : is_open g r t s past ≡ true → has t (omlp g s past).queue ≡ true → HasTail g t past (omlp g s past).fifo (ends g r t s past)

  engaged-queue : (u : ℕ) (past : Past) → has u (omlp g s past).queue ≡ true → engaged g u s past ≡ true
  engaged-queue u past h = engaged-omlp g u s past p ∙ rw (has-append, h) (or_true (has u (omlp g s past).fifo))

  engaged-fifo : (u : ℕ) (past : Past) → has u (omlp g s past).fifo ≡ true → engaged g u s past ≡ true
  engaged-fifo u past h = engaged-omlp g u s past p ∙ rw (has-append, h)

  -- one that is open waits in one of the two lists
  pub waits-where : (past : Past) → is_open g r t s past ≡ true → (has t (rest (omlp g s past).fifo) ≡ true) ⊎ (has t (omlp g s past).queue ≡ true)
  waits-where past o = has-appended t (rest (omlp g s past).fifo) (omlp g s past).queue (rw (omlp-sem_state g s past p).0 at (open-waits g r t s past o).1)

  -- while the task is blocked in the priority queue, not all members are above it
  front_there : (past : Past) → AllActive g past → IsQueued (cpus g (cluster_of g s)) (omlp g s past) → has t (omlp g s past).queue ≡ true → (n : ℕ) (tail : HasTail g t past (omlp g s past).fifo n) → is_blocked g t past ≡ true → 1 ≤ length tail.front
  front_there past active q h n tail blocked = by_case tail.front refl
    where
      home_is : home g t ≡ cluster_of g s
      home_is = user-home g rules s t one (active t s known (engaged-queue t past h)).user

      all_over : tail.front ≡ [] → is_blocked g t past ≡ false
      all_over e =
          let same : (omlp g s past).fifo ≡ tail.back = tail.parts ∙ rw e in
          not_blocked g t past (omlp g s past).fifo q.fifo_once (rw home_is (omega (arith, q.full t h))) (λ u k. each u k same)
        where
          each : (u : ℕ) → has u (omlp g s past).fifo ≡ true → (omlp g s past).fifo ≡ tail.back → (has u (tasks_of g (home g t)) ≡ true) × (exists g u past ≡ true) × (above g past u t ≡ true)
          each u k same =
              let there = active u s known (engaged-fifo u past k) in
              let u_home : home g u ≡ home g t = user-home g rules s u one there.user ∙ sym home_is in
              (subst (λ c. has u (tasks_of g c) ≡ true) u_home (home-tasks_of g u (user-task g s u there.user).0), there.exists_now, tail.all_above u (rw same at k))

      by_case : (f : List ℕ) → tail.front ≡ f → 1 ≤ length f
      by_case [] e = absurd (clash _ blocked (all_over e))
      by_case (x ∷ xs) e = omega arith

  at_most : (e : Event) (past : Past) → ends g r t s (e ∷ past) ≤ ends g r t s past + 1
  at_most e past = split (ends-cases g r t s e past)
    where
      split : IsEnd g r t s e past ⊎ (ends g r t s (e ∷ past) ≡ ends g r t s past) → ends g r t s (e ∷ past) ≤ ends g r t s past + 1
      split (inl c) = omega (arith, c.3)
      split (inr c) = omega (arith, c)

  no_end : (e : Event) (past : Past) → frees s (sem_act e) ≡ false → ends g r t s (e ∷ past) ≡ ends g r t s past
  no_end e past h = split (ends-cases g r t s e past)
    where
      split : IsEnd g r t s e past ⊎ (ends g r t s (e ∷ past) ≡ ends g r t s past) → ends g r t s (e ∷ past) ≡ ends g r t s past
      split (inl c) = absurd (clash _ c.0 h)
      split (inr c) = c

  -- in the priority queue the members that are not above the task leave room for one more end
  room_left : (e : Event) (past : Past) → AllActive g past → IsQueued (cpus g (cluster_of g s)) (omlp g s past) → has t (omlp g s past).queue ≡ true → (tail : HasTail g t past (omlp g s past).fifo (ends g r t s past)) → (ends g r t s (e ∷ past) ≡ ends g r t s past) ⊎ (1 ≤ length tail.front) × (ends g r t s (e ∷ past) ≡ ends g r t s past + 1)
  room_left e past active q h tail = split (ends-cases g r t s e past)
    where
      split : IsEnd g r t s e past ⊎ (ends g r t s (e ∷ past) ≡ ends g r t s past) → (ends g r t s (e ∷ past) ≡ ends g r t s past) ⊎ (1 ≤ length tail.front) × (ends g r t s (e ∷ past) ≡ ends g r t s past + 1)
      split (inl c) = inr (front_there past active q h _ tail c.2, c.3)
      split (inr c) = inl c

  pub queue_bound : (e : Event) (past : Past) → AllActive g past → IsQueued (cpus g (cluster_of g s)) (omlp g s past) → has t (omlp g s past).queue ≡ true → HasTail g t past (omlp g s past).fifo (ends g r t s past) → ends g r t s (e ∷ past) ≤ cpus g (cluster_of g s)
  queue_bound e past active q h tail = split (room_left e past active q h tail)
    where
      size : length (omlp g s past).fifo ≡ length tail.front + length tail.back
      size = ap length tail.parts ∙ length-append tail.front tail.back

      split : (ends g r t s (e ∷ past) ≡ ends g r t s past) ⊎ (1 ≤ length tail.front) × (ends g r t s (e ∷ past) ≡ ends g r t s past + 1) → ends g r t s (e ∷ past) ≤ cpus g (cluster_of g s)
      split (inl c) = omega (arith, c, tail.long, size, q.full t h)
      split (inr c) = omega (arith, c.0, c.1, tail.long, size, q.full t h)

  -- base keys stay while both sit
  above-keeps : (u : ℕ) (e : Event) (past : Past) → IsNext g e past → AllActive g past → engaged g u s (e ∷ past) ≡ true → engaged g t s (e ∷ past) ≡ true → above g past u t ≡ true → above g (e ∷ past) u t ≡ true
  unfolding above
  above-keeps u e past next active hu ht h = rw (engaged-key g rules u s e past next active known hu, engaged-key g rules t s e past next active known ht) h

  so_far-step : (e : Event) (past : Past) → AllActive g past → IsQueued (cpus g (cluster_of g s)) (omlp g s past) → IsCounted past → ends g r t s (e ∷ past) ≤ 2 * cpus g (cluster_of g s) - 1
  so_far-step e past active q before = split (ends-cases g r t s e past)
    where
      room : 1 ≤ cpus g (cluster_of g s)
      room = has_room g rules s

      counted : is_open g r t s past ≡ true → ends g r t s (e ∷ past) ≡ ends g r t s past + 1 → (has t (rest (omlp g s past).fifo) ≡ true) ⊎ (has t (omlp g s past).queue ≡ true) → ends g r t s (e ∷ past) ≤ 2 * cpus g (cluster_of g s) - 1
      counted o c (inl w) = omega (arith, c, before.in_fifo o w, ahead-rest t (omlp g s past).fifo q.fifo_once w)
      counted o c (inr w) = omega (arith, room, queue_bound e past active q w (before.in_queue o w))

      split : IsEnd g r t s e past ⊎ (ends g r t s (e ∷ past) ≡ ends g r t s past) → ends g r t s (e ∷ past) ≤ 2 * cpus g (cluster_of g s) - 1
      split (inl c) = counted c.1 c.3 (waits-where past c.1)
      split (inr c) = omega (arith, c, before.so_far)

  -- ---- a request that is asked now

  fresh-step : (e : Event) (past : Past) → IsNext g e past → IsQueued (cpus g (cluster_of g s)) (omlp g s past) → sem_act e ≡ Asks t s → r ≡ entries_in past → IsCounted past → ends g r t s (e ∷ past) ≤ 2 * cpus g (cluster_of g s) - 1 → IsCounted (e ∷ past)
  fresh-step e past next q asks_it now before far = by_room (nat_lt (length (omlp g s past).fifo) (cpus g (cluster_of g s))) refl
    where
      fresh : (has t (omlp g s past).fifo ≡ false) × (has t (omlp g s past).queue ≡ false)
      fresh = omlp-fresh g s t past p (next.asked t s asks_it)

      none_yet : ends g r t s (e ∷ past) ≡ 0
      none_yet = no_end e past (rw asks_it) ∙ ends-none g r t s past (omega (arith, now))

      by_room : (b : Bool) → nat_lt (length (omlp g s past).fifo) (cpus g (cluster_of g s)) ≡ b → IsCounted (e ∷ past)
      by_room true low = record {
        so_far = far;
        in_fifo = λ o w. let room : length (omlp g s past).fifo < cpus g (cluster_of g s) = grind (arith, nat_tests, low) in omega (arith, none_yet, last, room);
        in_queue = λ o w. let k : has t (omlp g s past).queue ≡ true = rw next_is at w in absurd (clash _ k fresh.1);
      }
        where
          next_is : omlp g s (e ∷ past) ≡ record (omlp g s past) { fifo = (omlp g s past).fifo ++ t ∷ [] }
          next_is = omlp-next g s e past ∙ rw (asks_it, equal_self s, low)

          last : ahead t (omlp g s (e ∷ past)).fifo ≡ length (omlp g s past).fifo
          last = rw next_is (ahead-last t (omlp g s past).fifo fresh.0)
      by_room false low = record {
        so_far = far;
        in_fifo = λ o w. let k : has t (rest (omlp g s past).fifo) ≡ true = rw next_is at w in absurd (clash _ (has-rest t (omlp g s past).fifo k) fresh.0);
        in_queue = λ o w. record { front = (omlp g s (e ∷ past)).fifo; back = []; parts = sym (append-nil _); all_above = λ u k. cc; long = omega (arith, none_yet) };
      }
        where
          next_is : omlp g s (e ∷ past) ≡ record (omlp g s past) { queue = (omlp g s past).queue ++ t ∷ [] }
          next_is = omlp-next g s e past ∙ rw (asks_it, equal_self s, low)

  -- ---- a request that was open before

  -- the same tail, one move later
  tail-keeps : (e : Event) (past : Past) → IsNext g e past → AllActive g past → ((u : ℕ) → has u (omlp g s past).fifo ≡ true → engaged g u s (e ∷ past) ≡ true) → engaged g t s (e ∷ past) ≡ true → (n k : ℕ) → n ≤ k → HasTail g t past (omlp g s past).fifo k → HasTail g t (e ∷ past) (omlp g s past).fifo n
  tail-keeps e past next active stay ht n k le tail = record {
    front = tail.front;
    back = tail.back;
    parts = tail.parts;
    all_above = λ u h. above-keeps u e past next active (stay u (rw (tail.parts, has-append, h) (or_true (has u tail.front)))) ht (tail.all_above u h);
    long = omega (arith, le, tail.long);
  }

  same-step : (e : Event) (past : Past) → IsNext g e past → AllActive g past → at_sem s (sem_act e) ≡ Neither → is_open g r t s past ≡ true → IsCounted past → ends g r t s (e ∷ past) ≤ 2 * cpus g (cluster_of g s) - 1 → IsCounted (e ∷ past)
  same-step e past next active x o before far = record {
    so_far = far;
    in_fifo = λ o' w. let k : has t (rest (omlp g s past).fifo) ≡ true = rw next_is at w in let f : ahead t (omlp g s (e ∷ past)).fifo ≡ ahead t (omlp g s past).fifo = rw next_is in omega (arith, f, quiet, before.in_fifo o k);
    in_queue = λ o' w. let k : has t (omlp g s past).queue ≡ true = rw next_is at w in subst (λ l. HasTail g t (e ∷ past) l (ends g r t s (e ∷ past))) (sym fifo_is) (tail-keeps e past next active stay (engaged-queue t (e ∷ past) w) _ _ (omega (arith, quiet)) (before.in_queue o k));
  }
    where
      next_is : omlp g s (e ∷ past) ≡ omlp g s past
      next_is = omlp-next g s e past ∙ rw x

      fifo_is : (omlp g s (e ∷ past)).fifo ≡ (omlp g s past).fifo
      fifo_is = ap (λ (l : OmlpState). l.fifo) next_is

      stay : (u : ℕ) → has u (omlp g s past).fifo ≡ true → engaged g u s (e ∷ past) ≡ true
      stay u h = engaged-fifo u (e ∷ past) (rw fifo_is h)

      not_freed : (y : SemAct) → at_sem s y ≡ Neither → frees s y ≡ false
      not_freed (Asks u v) h = refl
      not_freed (Frees u v) h = by_case (s == v) h
        where
          by_case : (b : Bool) → (if b then Frees u v else Neither) ≡ Neither → b ≡ false
          by_case true k = cc
          by_case false k = refl
      not_freed Neither h = refl

      quiet : ends g r t s (e ∷ past) ≡ ends g r t s past
      quiet = no_end e past (not_freed (sem_act e) x)

  asked-step : (e : Event) (past : Past) → IsNext g e past → AllActive g past → IsQueued (cpus g (cluster_of g s)) (omlp g s past) → IsQueued (cpus g (cluster_of g s)) (omlp g s (e ∷ past)) → (u : ℕ) → sem_act e ≡ Asks u s → is_open g r t s past ≡ true → IsCounted past → ends g r t s (e ∷ past) ≤ 2 * cpus g (cluster_of g s) - 1 → IsCounted (e ∷ past)
  asked-step e past next active q q_after u x o before far = by_room (nat_lt (length (omlp g s past).fifo) (cpus g (cluster_of g s))) refl
    where
      quiet : ends g r t s (e ∷ past) ≡ ends g r t s past
      quiet = no_end e past (rw x)

      by_room : (b : Bool) → nat_lt (length (omlp g s past).fifo) (cpus g (cluster_of g s)) ≡ b → IsCounted (e ∷ past)
      by_room true low = record { so_far = far; in_fifo = λ o' w. stands (waits-where past o); in_queue = λ o' w. absurd (no_queue (rw queue_is at w)) }
        where
          next_is : omlp g s (e ∷ past) ≡ record (omlp g s past) { fifo = (omlp g s past).fifo ++ u ∷ [] }
          next_is = omlp-next g s e past ∙ rw (x, equal_self s, low)

          queue_is : (omlp g s (e ∷ past)).queue ≡ (omlp g s past).queue
          queue_is = ap (λ (l : OmlpState). l.queue) next_is

          no_queue : has t (omlp g s past).queue ≡ true → ⊥
          no_queue k = let f : length (omlp g s past).fifo ≡ cpus g (cluster_of g s) = q.full t k in absurd (grind (arith, nat_tests, low, f))

          stands : (has t (rest (omlp g s past).fifo) ≡ true) ⊎ (has t (omlp g s past).queue ≡ true) → ends g r t s (e ∷ past) + ahead t (omlp g s (e ∷ past)).fifo ≤ 2 * cpus g (cluster_of g s) - 1
          stands (inl k) = let f : ahead t (omlp g s (e ∷ past)).fifo ≡ ahead t (omlp g s past).fifo = rw next_is (ahead-append t (omlp g s past).fifo (u ∷ []) (has-rest t (omlp g s past).fifo k)) in omega (arith, f, quiet, before.in_fifo o k)
          stands (inr k) = absurd (no_queue k)
      by_room false low = record { so_far = far; in_fifo = λ o' w. stands (rw fifo_is at w); in_queue = λ o' w. waits w (waits-where past o) }
        where
          next_is : omlp g s (e ∷ past) ≡ record (omlp g s past) { queue = (omlp g s past).queue ++ u ∷ [] }
          next_is = omlp-next g s e past ∙ rw (x, equal_self s, low)

          fifo_is : (omlp g s (e ∷ past)).fifo ≡ (omlp g s past).fifo
          fifo_is = ap (λ (l : OmlpState). l.fifo) next_is

          stands : has t (rest (omlp g s past).fifo) ≡ true → ends g r t s (e ∷ past) + ahead t (omlp g s (e ∷ past)).fifo ≤ 2 * cpus g (cluster_of g s) - 1
          stands k = let f : ahead t (omlp g s (e ∷ past)).fifo ≡ ahead t (omlp g s past).fifo = rw fifo_is in omega (arith, f, quiet, before.in_fifo o k)

          waits : has t (omlp g s (e ∷ past)).queue ≡ true → (has t (rest (omlp g s past).fifo) ≡ true) ⊎ (has t (omlp g s past).queue ≡ true) → HasTail g t (e ∷ past) (omlp g s (e ∷ past)).fifo (ends g r t s (e ∷ past))
          waits w (inl k) = let there : has t (omlp g s (e ∷ past)).fifo ≡ true = rw fifo_is (has-rest t (omlp g s past).fifo k) in absurd (clash _ w (q_after.apart t there))
          waits w (inr k) = subst (λ l. HasTail g t (e ∷ past) l (ends g r t s (e ∷ past))) (sym fifo_is) (tail-keeps e past next active (λ v h. engaged-fifo v (e ∷ past) (rw fifo_is h)) (engaged-queue t (e ∷ past) w) _ _ (omega (arith, quiet)) (before.in_queue o k))

  freed-step : (e : Event) (past : Past) → IsNext g e past → AllActive g past → IsQueued (cpus g (cluster_of g s)) (omlp g s past) → IsQueued (cpus g (cluster_of g s)) (omlp g s (e ∷ past)) → (u : ℕ) → sem_act e ≡ Frees u s → is_open g r t s past ≡ true → IsCounted past → ends g r t s (e ∷ past) ≤ 2 * cpus g (cluster_of g s) - 1 → IsCounted (e ∷ past)
  freed-step e past next active q q_after u x o before far = by_next (foremost (above g past) (omlp g s past).queue) refl
    where
      next_is : omlp g s (e ∷ past) ≡ handed_over (foremost (above g past) (omlp g s past).queue) (record (omlp g s past) { fifo = rest (omlp g s past).fifo })
      next_is = omlp-next g s e past ∙ rw (x, equal_self s)

      by_next : (w : Option ℕ) → foremost (above g past) (omlp g s past).queue ≡ w → IsCounted (e ∷ past)
      by_next None none = record { so_far = far; in_fifo = λ o' w. stands (rw fifo_is at w); in_queue = λ o' w. let k : has t (omlp g s past).queue ≡ true = rw queue_is at w in absurd (clash _ k (rw empty)) }
        where
          empty : (omlp g s past).queue ≡ []
          empty = foremost-none (above g past) (above-order g past Omlp a) (omlp g s past).queue none

          state_is : omlp g s (e ∷ past) ≡ record (omlp g s past) { fifo = rest (omlp g s past).fifo }
          state_is = next_is ∙ rw none

          fifo_is : (omlp g s (e ∷ past)).fifo ≡ rest (omlp g s past).fifo
          fifo_is = ap (λ (l : OmlpState). l.fifo) state_is

          queue_is : (omlp g s (e ∷ past)).queue ≡ (omlp g s past).queue
          queue_is = ap (λ (l : OmlpState). l.queue) state_is

          stands : has t (rest (rest (omlp g s past).fifo)) ≡ true → ends g r t s (e ∷ past) + ahead t (omlp g s (e ∷ past)).fifo ≤ 2 * cpus g (cluster_of g s) - 1
          stands k =
              let stood : has t (rest (omlp g s past).fifo) ≡ true = has-rest t (rest (omlp g s past).fifo) k in
              let f : ahead t (omlp g s (e ∷ past)).fifo ≡ ahead t (rest (omlp g s past).fifo) = ap (ahead t) fifo_is in
              omega (arith, f, at_most e past, before.in_fifo o stood, ahead-rest t (omlp g s past).fifo q.fifo_once stood)
      by_next (Some v) chosen = record { so_far = far; in_fifo = λ o' w. stands (waits-where past o) (has-rest t (omlp g s (e ∷ past)).fifo w); in_queue = λ o' w. waits w (rw queue_is at w) }
        where
          facts : (has v (omlp g s past).queue ≡ true) × ((y : ℕ) → has y (omlp g s past).queue ≡ true → v == y || above g past v y ≡ true)
          facts = foremost-some (above g past) (omlp g s past).queue v chosen

          state_is : omlp g s (e ∷ past) ≡ record { fifo = rest (omlp g s past).fifo ++ v ∷ []; queue = without v (omlp g s past).queue }
          state_is = next_is ∙ rw chosen

          fifo_is : (omlp g s (e ∷ past)).fifo ≡ rest (omlp g s past).fifo ++ v ∷ []
          fifo_is = ap (λ (l : OmlpState). l.fifo) state_is

          queue_is : (omlp g s (e ∷ past)).queue ≡ without v (omlp g s past).queue
          queue_is = ap (λ (l : OmlpState). l.queue) state_is

          shorter : (xs : List ℕ) → length (rest xs) ≤ length xs - 1
          shorter [] = omega arith
          shorter (y ∷ ys) = omega arith

          stands : (has t (rest (omlp g s past).fifo) ≡ true) ⊎ (has t (omlp g s past).queue ≡ true) → has t (omlp g s (e ∷ past)).fifo ≡ true → ends g r t s (e ∷ past) + ahead t (omlp g s (e ∷ past)).fifo ≤ 2 * cpus g (cluster_of g s) - 1
          stands (inl k) w =
              let f : ahead t (omlp g s (e ∷ past)).fifo ≡ ahead t (rest (omlp g s past).fifo) = ap (ahead t) fifo_is ∙ ahead-append t (rest (omlp g s past).fifo) (v ∷ []) k in
              omega (arith, f, at_most e past, before.in_fifo o k, ahead-rest t (omlp g s past).fifo q.fifo_once k)
          stands (inr k) w =
              let absent : has t (rest (omlp g s past).fifo) ≡ false = unless _ (λ h. clash _ k (q.apart t (has-rest t (omlp g s past).fifo h))) in
              let is_v : t ≡ v = last (has-appended t (rest (omlp g s past).fifo) (v ∷ []) (rw fifo_is at w)) absent in
              let f : ahead t (omlp g s (e ∷ past)).fifo ≡ length (rest (omlp g s past).fifo) = ap (ahead t) fifo_is ∙ rw (← is_v) (ahead-last t (rest (omlp g s past).fifo) absent) in
              omega (arith, f, queue_bound e past active q k (before.in_queue o k), shorter (omlp g s past).fifo, q.fits, has_room g rules s)
            where
              last : (has t (rest (omlp g s past).fifo) ≡ true) ⊎ (has t (v ∷ []) ≡ true) → has t (rest (omlp g s past).fifo) ≡ false → t ≡ v
              last (inl h) n = absurd (clash _ h n)
              last (inr h) n = has-one t v h

          waits : has t (omlp g s (e ∷ past)).queue ≡ true → has t (without v (omlp g s past).queue) ≡ true → HasTail g t (e ∷ past) (omlp g s (e ∷ past)).fifo (ends g r t s (e ∷ past))
          waits w k = subst (λ l. HasTail g t (e ∷ past) l (ends g r t s (e ∷ past))) (sym fifo_is) (moved tail.front tail.back tail.parts tail.all_above tail.long (room_left e past active q was tail))
            where
              was : has t (omlp g s past).queue ≡ true
              was = has-without t v (omlp g s past).queue k

              tail : HasTail g t past (omlp g s past).fifo (ends g r t s past)
              tail = before.in_queue o was

              other : v == t ≡ false
              other = unless _ (λ h. let same : v ≡ t = eqb-true v t h in let gone : has t (without v (omlp g s past).queue) ≡ false = rw (← same) (without-gone v (omlp g s past).queue q.queue_once) in clash _ k gone)

              v_over : above g past v t ≡ true
              v_over = or_else (v == t) (above g past v t) (facts.1 t was) other

              ht : engaged g t s (e ∷ past) ≡ true
              ht = engaged-queue t (e ∷ past) w

              keeps_over : (y : ℕ) → has y (omlp g s (e ∷ past)).fifo ≡ true → above g past y t ≡ true → above g (e ∷ past) y t ≡ true
              keeps_over y h k = above-keeps y e past next active (engaged-fifo y (e ∷ past) h) ht k

              joined : (back : List ℕ) → ((y : ℕ) → has y back ≡ true → above g past y t ≡ true) → (y : ℕ) → has y (back ++ v ∷ []) ≡ true → above g past y t ≡ true
              joined back all_above y h = split (has-appended y back (v ∷ []) h)
                where
                  split : (has y back ≡ true) ⊎ (has y (v ∷ []) ≡ true) → above g past y t ≡ true
                  split (inl n) = all_above y n
                  split (inr n) = rw (has-one y v n) v_over

              inside : (f back : List ℕ) → rest (omlp g s past).fifo ≡ f ++ back → (y : ℕ) → has y (back ++ v ∷ []) ≡ true → has y (omlp g s (e ∷ past)).fifo ≡ true
              inside f back same y h = rw (fifo_is, same, append_assoc, has-append, h) (or_true (has y f))

              moved : (f back : List ℕ) → (omlp g s past).fifo ≡ f ++ back → ((y : ℕ) → has y back ≡ true → above g past y t ≡ true) → ends g r t s past ≤ length back → (ends g r t s (e ∷ past) ≡ ends g r t s past) ⊎ (1 ≤ length f) × (ends g r t s (e ∷ past) ≡ ends g r t s past + 1) → HasTail g t (e ∷ past) (rest (omlp g s past).fifo ++ v ∷ []) (ends g r t s (e ∷ past))
              moved (y ∷ f) back parts all_above long room = record {
                front = f;
                back = back ++ v ∷ [];
                parts = rw (cut, append_assoc);
                all_above = λ z h. keeps_over z (inside f back cut z h) (joined back all_above z h);
                long = omega (arith, long, at_most e past, length-one_more back v);
              }
                where
                  cut : rest (omlp g s past).fifo ≡ f ++ back
                  cut = rw parts
              moved [] [] parts all_above long room = record {
                front = [];
                back = v ∷ [];
                parts = rw cut;
                all_above = λ z h. keeps_over z (inside [] [] cut z h) (joined [] all_above z h);
                long = omega (arith, long, at_most e past);
              }
                where
                  cut : rest (omlp g s past).fifo ≡ []
                  cut = rw parts
              moved [] (y ∷ back) parts all_above long room = record {
                front = [];
                back = back ++ v ∷ [];
                parts = rw cut;
                all_above = λ z h. keeps_over z (inside [] back cut z h) (joined back (λ w n. all_above w (rw n (or_true (w == y)))) z h);
                long = none_blocked room;
              }
                where
                  cut : rest (omlp g s past).fifo ≡ back
                  cut = rw parts

                  none_blocked : (ends g r t s (e ∷ past) ≡ ends g r t s past) ⊎ (1 ≤ 0) × (ends g r t s (e ∷ past) ≡ ends g r t s past + 1) → ends g r t s (e ∷ past) ≤ length (back ++ v ∷ [])
                  none_blocked (inl c) = omega (arith, c, long, length-one_more back v)
                  none_blocked (inr c) = absurd (omega (arith, c.0))

  counted-step : (e : Event) (past : Past) → WaitsOnce g past → IsNext g e past → AllActive g past → IsQueued (cpus g (cluster_of g s)) (omlp g s past) → IsQueued (cpus g (cluster_of g s)) (omlp g s (e ∷ past)) → IsCounted past → IsCounted (e ∷ past)
  counted-step e past once next active q q_after before = by_open (is_open g r t s (e ∷ past)) refl
    where
      far : ends g r t s (e ∷ past) ≤ 2 * cpus g (cluster_of g s) - 1
      far = so_far-step e past active q before

      old : is_open g r t s past ≡ true → (at_sem s (sem_act e) ≡ Neither) ⊎ (((u : ℕ) × (sem_act e ≡ Asks u s)) ⊎ ((u : ℕ) × (sem_act e ≡ Frees u s))) → IsCounted (e ∷ past)
      old o (inl x) = same-step e past next active x o before far
      old o (inr (inl x)) = asked-step e past next active q q_after x.0 x.1 o before far
      old o (inr (inr x)) = freed-step e past next active q q_after x.0 x.1 o before far

      split : (is_open g r t s past ≡ true) ⊎ (sem_act e ≡ Asks t s) × (r ≡ entries_in past) → IsCounted (e ∷ past)
      split (inl o) = old o (at-cases s (sem_act e))
      split (inr n) = fresh-step e past next q n.0 n.1 before far

      by_open : (b : Bool) → is_open g r t s (e ∷ past) ≡ b → IsCounted (e ∷ past)
      by_open true o = split (open-before g rules r t s e past once next o)
      by_open false o = record { so_far = far; in_fifo = λ o' w. absurd (clash _ o' o); in_queue = λ o' w. absurd (clash _ o' o) }

  nothing-counted : IsCounted []
  unfolding ends omlp
  nothing-counted = record { so_far = omega arith; in_fifo = λ o w. cc; in_queue = λ o w. cc }

  pub counted : {past : Past} → IsReachable g past → IsCounted past
  counted made = by_moves g IsCounted nothing-counted (λ past e made move before. counted-step e past (waits_once g rules made) (next g rules made move) (all_active g rules made) (queued g rules s p a made) (queued g rules s p a (moved g made move)) before) made
