-- OMLP: what a request sees end in the priority queue, and what in the FIFO list.
use Rattle.std.proofs.Common.{Bool, [], ap, arith, false, inl, inr, length, refl, sym, true, ℕ, ◌&&◌, ◌+◌, ◌++◌, ◌-◌, ◌<◌, ◌∙◌, ◌∷◌, ◌≡◌, ◌≤◌, ◌⊎◌}
use Rattle.std.specs.Prelude.{None, Option, Some, if◌then◌else◌, nat_lt}
use Rattle.rt_task.specs.RuleWords.{is_of_one_cluster, stands_under}
use Rattle.rt_task.specs.declared.Protocol.TheVariants.{Omlp}
use Rattle.rt_rules.specs.Numbers.{foremost, has, is, rest, without}
use Rattle.rt_rules.specs.Omlp.{OmlpState}
use Rattle.rt_rules.specs.SemState.{Asks, Frees, Neither}
use Rattle.rt_model.specs.BaseKeys.{above}
use Rattle.rt_model.specs.Blocking.{ends, frees, is_blocked, is_open, newest_request}
use Rattle.rt_model.specs.Group.{Group, cpus, home, protocol, sems}
use Rattle.rt_model.specs.Holders.{awaits}
use Rattle.rt_model.specs.Past.{Event, Past, entries_in, sem_act}
use Rattle.rt_model.specs.Reachable.{IsReachable}
use Rattle.rt_model.specs.Semaphores.{at_sem, cluster_of, omlp}
use Rattle.rt_rules.proofs.BoolLaws.{both, clash, unless}
use Rattle.rt_rules.proofs.FmlpLaws.{ahead, ahead-append, ahead-rest}
use Rattle.rt_rules.proofs.MemberLaws.{equal_self, has-append, has-rest}
use Rattle.rt_rules.proofs.OmlpLaws.{IsQueued}
use Rattle.rt_laws.specs.OmlpParts.{OmlpParts, ends_in_fifo, ends_in_queue}
use Rattle.rt_laws.proofs.semaphores.Bounds.{omlp_shares}
use Rattle.rt_laws.proofs.jobs.Engaged.{waiting-engaged}
use Rattle.rt_laws.proofs.jobs.EngagedJobs.{all_active}
use Rattle.rt_laws.proofs.GroupLaws.{user-home}
use Rattle.rt_laws.proofs.fmlp.InOrder.{ahead-inside}
use Rattle.rt_laws.proofs.mpcp.LowerSections.{neither-frees}
use Rattle.rt_laws.proofs.Moves.{IsMove, by_moves, moved}
use Rattle.rt_laws.proofs.Next.{IsNext, next}
use Rattle.rt_laws.proofs.omlp.OmlpCount as omlp_count
use Rattle.rt_laws.proofs.omlp.OmlpState.{queued}
use Rattle.rt_laws.proofs.semaphores.OneWait.{waits_once}
use Rattle.rt_laws.proofs.semaphores.OpenRequests.{entries-grow, newest-below, open-before, open-waits}
use Rattle.rt_laws.proofs.Rules.{MeetsRules}
use Rattle.rt_laws.proofs.ValidSets.{rules_of}

-- ---- counting

-- what a count makes of one more event: one more where all of the tests hold
adds : Bool → Bool → ℕ → ℕ
adds a b n = if a && b then n + 1 else n

adds-cases : (a b : Bool) (n : ℕ) → ((a ≡ true) × (b ≡ true) × (adds a b n ≡ n + 1)) ⊎ (adds a b n ≡ n)
unfolding adds
adds-cases true true n = inl (refl, refl, refl)
adds-cases true false n = inr refl
adds-cases false b n = inr refl

adds-most : (a b : Bool) (n : ℕ) → adds a b n ≤ n + 1
unfolding adds
adds-most true true n = omega arith
adds-most true false n = omega arith
adds-most false b n = omega arith

adds-grows : (a b : Bool) (n : ℕ) → n ≤ adds a b n
unfolding adds
adds-grows true true n = omega arith
adds-grows true false n = omega arith
adds-grows false b n = omega arith

adds-none : (a b : Bool) (n : ℕ) → a ≡ false → adds a b n ≡ n
unfolding adds
adds-none a b n h = rw h refl

adds-fails : (a b : Bool) (n : ℕ) → b ≡ false → adds a b n ≡ n
unfolding adds
adds-fails true b n h = rw h refl
adds-fails false b n h = refl

adds-holds : (a b : Bool) (n : ℕ) → a ≡ true → b ≡ true → adds a b n ≡ n + 1
unfolding adds
adds-holds a b n h k = rw (h, k) refl

fifo-adds : (g : Group) (r t s : ℕ) (e : Event) (past : Past) → ends_in_fifo g r t s (e ∷ past) ≡ adds (frees s (sem_act e)) (is_open g r t s past && has t (omlp g s past).fifo) (ends_in_fifo g r t s past)
unfolding ends_in_fifo adds
fifo-adds g r t s e past = refl

queue-adds : (g : Group) (r t s : ℕ) (e : Event) (past : Past) → ends_in_queue g r t s (e ∷ past) ≡ adds (frees s (sem_act e)) (is_open g r t s past && (has t (omlp g s past).queue && is_blocked g t past)) (ends_in_queue g r t s past)
unfolding ends_in_queue adds
queue-adds g r t s e past = refl

ends-adds : (g : Group) (r t s : ℕ) (e : Event) (past : Past) → ends g r t s (e ∷ past) ≡ adds (frees s (sem_act e)) (is_open g r t s past && is_blocked g t past) (ends g r t s past)
unfolding ends adds
ends-adds g r t s e past = refl

-- before it was made a request saw nothing end
not_open : (g : Group) (r t s : ℕ) (past : Past) → entries_in past ≤ r → is_open g r t s past ≡ false
unfolding is_open
not_open g r t s past h = unless _ (λ k. let n : r < entries_in past = newest-below t r past (both (is s (awaits g t past)) (is r (newest_request t past)) k).1 in absurd (omega (arith, h, n)))

and-false : (a b : Bool) → a ≡ false → a && b ≡ false
and-false a b h = rw h refl

none-in_fifo : (g : Group) (r t s : ℕ) (past : Past) → entries_in past ≤ r → ends_in_fifo g r t s past ≡ 0
unfolding ends_in_fifo
none-in_fifo g r t s [] h = refl
none-in_fifo g r t s (e ∷ past) h = fifo-adds g r t s e past ∙ adds-fails _ _ _ (and-false _ _ (not_open g r t s past (omega (arith, h, entries-grow e past)))) ∙ none-in_fifo g r t s past (omega (arith, h, entries-grow e past))

none-in_queue : (g : Group) (r t s : ℕ) (past : Past) → entries_in past ≤ r → ends_in_queue g r t s past ≡ 0
unfolding ends_in_queue
none-in_queue g r t s [] h = refl
none-in_queue g r t s (e ∷ past) h = queue-adds g r t s e past ∙ adds-fails _ _ _ (and-false _ _ (not_open g r t s past (omega (arith, h, entries-grow e past)))) ∙ none-in_queue g r t s past (omega (arith, h, entries-grow e past))

-- ---- one that waits in the FIFO list stays there, and comes nearer to its head at each end

record IsNearer (g : Group) (t s : ℕ) (e : Event) (past : Past) : Type 0 where
  stays : has t (omlp g s (e ∷ past)).fifo ≡ true
  nearer : frees s (sem_act e) ≡ true → ahead t (omlp g s (e ∷ past)).fifo + 1 ≡ ahead t (omlp g s past).fifo
  as_far : frees s (sem_act e) ≡ false → ahead t (omlp g s (e ∷ past)).fifo ≡ ahead t (omlp g s past).fifo

nearer : (g : Group) (t s : ℕ) (e : Event) (past : Past) → IsQueued (cpus g (cluster_of g s)) (omlp g s past) → has t (rest (omlp g s past).fifo) ≡ true → IsNearer g t s e past
nearer g t s e past q h = split (omlp_count.at-cases s (sem_act e))
  where
    there : has t (omlp g s past).fifo ≡ true
    there = has-rest t (omlp g s past).fifo h

    one_less : ahead t (omlp g s past).fifo ≡ ahead t (rest (omlp g s past).fifo) + 1
    one_less = ahead-rest t (omlp g s past).fifo q.fifo_once h

    same : (omlp g s (e ∷ past)).fifo ≡ (omlp g s past).fifo → frees s (sem_act e) ≡ false → IsNearer g t s e past
    same k f = record { stays = rw k there; nearer = λ m. absurd (clash _ m f); as_far = λ m. ap (ahead t) k }

    longer : (u : ℕ) → (omlp g s (e ∷ past)).fifo ≡ (omlp g s past).fifo ++ u ∷ [] → frees s (sem_act e) ≡ false → IsNearer g t s e past
    longer u k f = record { stays = rw (k, has-append, there) refl; nearer = λ m. absurd (clash _ m f); as_far = λ m. ap (ahead t) k ∙ ahead-append t (omlp g s past).fifo (u ∷ []) there }

    asked : (u : ℕ) → sem_act e ≡ Asks u s → IsNearer g t s e past
    asked u x = by_room (nat_lt (length (omlp g s past).fifo) (cpus g (cluster_of g s))) refl
      where
        by_room : (b : Bool) → nat_lt (length (omlp g s past).fifo) (cpus g (cluster_of g s)) ≡ b → IsNearer g t s e past
        by_room true low = let n : omlp g s (e ∷ past) ≡ record (omlp g s past) { fifo = (omlp g s past).fifo ++ u ∷ [] } = omlp_count.omlp-next g s e past ∙ rw (x, equal_self s, low) in longer u (ap (λ (l : OmlpState). l.fifo) n) (rw x refl)
        by_room false low = let n : omlp g s (e ∷ past) ≡ record (omlp g s past) { queue = (omlp g s past).queue ++ u ∷ [] } = omlp_count.omlp-next g s e past ∙ rw (x, equal_self s, low) in same (ap (λ (l : OmlpState). l.fifo) n) (rw x refl)

    freed : (u : ℕ) → sem_act e ≡ Frees u s → IsNearer g t s e past
    freed u x = by_next (foremost (above g past) (omlp g s past).queue) refl
      where
        frees_it : frees s (sem_act e) ≡ true
        frees_it = rw x (equal_self s)

        by_next : (w : Option ℕ) → foremost (above g past) (omlp g s past).queue ≡ w → IsNearer g t s e past
        by_next None none = record { stays = rw fifo_is h; nearer = λ m. rw fifo_is (sym one_less); as_far = λ m. absurd (clash _ frees_it m) }
          where
            fifo_is : (omlp g s (e ∷ past)).fifo ≡ rest (omlp g s past).fifo
            fifo_is = let n : omlp g s (e ∷ past) ≡ record (omlp g s past) { fifo = rest (omlp g s past).fifo } = omlp_count.omlp-next g s e past ∙ rw (x, equal_self s, none) in ap (λ (l : OmlpState). l.fifo) n
        by_next (Some v) chosen = record { stays = rw (fifo_is, has-append, h) refl; nearer = λ m. rw (fifo_is, ahead-append t (rest (omlp g s past).fifo) (v ∷ []) h) (sym one_less); as_far = λ m. absurd (clash _ frees_it m) }
          where
            fifo_is : (omlp g s (e ∷ past)).fifo ≡ rest (omlp g s past).fifo ++ v ∷ []
            fifo_is = let n : omlp g s (e ∷ past) ≡ record { fifo = rest (omlp g s past).fifo ++ v ∷ []; queue = without v (omlp g s past).queue } = omlp_count.omlp-next g s e past ∙ rw (x, equal_self s, chosen) in ap (λ (l : OmlpState). l.fifo) n

    split : (at_sem s (sem_act e) ≡ Neither) ⊎ (((u : ℕ) × (sem_act e ≡ Asks u s)) ⊎ ((u : ℕ) × (sem_act e ≡ Frees u s))) → IsNearer g t s e past
    split (inl n) = let m : omlp g s (e ∷ past) ≡ omlp g s past = omlp_count.omlp-next g s e past ∙ rw n in same (ap (λ (l : OmlpState). l.fifo) m) (neither-frees s (sem_act e) n)
    split (inr (inl u)) = asked u.0 u.1
    split (inr (inr u)) = freed u.0 u.1

-- ---- the two parts

module _ (g : Group) (rules : MeetsRules g) (r t s : ℕ) (p : protocol g s ≡ Omlp) where
  record IsParted (past : Past) : Type 0 where
    fifo_so_far : ends_in_fifo g r t s past ≤ cpus g (home g t) - 1
    in_fifo : is_open g r t s past ≡ true → has t (rest (omlp g s past).fifo) ≡ true → ends_in_fifo g r t s past + ahead t (omlp g s past).fifo ≤ cpus g (home g t) - 1
    queue_so_far : ends_in_queue g r t s past ≤ cpus g (home g t)
    all_in_queue : is_open g r t s past ≡ true → has t (omlp g s past).queue ≡ true → (ends_in_fifo g r t s past ≡ 0) × (ends_in_queue g r t s past ≡ ends g r t s past)
    together : ends g r t s past ≤ ends_in_queue g r t s past + ends_in_fifo g r t s past

  shares : is_of_one_cluster (protocol g s) g.setup.plugin ≡ true
  shares = rw p (omlp_shares g.setup.plugin)

  permitted : has s (sems g) ≡ true → stands_under Omlp g.setup.plugin ≡ true
  permitted there = rw p at (rules.is_allowed s there)

  -- where a request is open its semaphore is there, and its task is of the semaphore's cluster
  known : (past : Past) → is_open g r t s past ≡ true → has s (sems g) ≡ true
  known past o = (open-waits g r t s past o).0

  lists : {past : Past} → IsReachable g past → is_open g r t s past ≡ true → IsQueued (cpus g (cluster_of g s)) (omlp g s past)
  lists {past} made o = queued g rules s p (permitted (known past o)) made

  home_is : {past : Past} → IsReachable g past → is_open g r t s past ≡ true → home g t ≡ cluster_of g s
  home_is {past} made o = let w = open-waits g r t s past o in user-home g rules s t shares (all_active g rules made t s w.0 (waiting-engaged g t s past w.1)).user

  where_it_waits : (past : Past) → is_open g r t s past ≡ true → (has t (rest (omlp g s past).fifo) ≡ true) ⊎ (has t (omlp g s past).queue ≡ true)
  where_it_waits past o = omlp_count.waits-where g rules r t s p (permitted (known past o)) shares (known past o) past o

  parted-step : (e : Event) (past : Past) → IsReachable g past → IsMove g past e → IsParted past → IsParted (e ∷ past)
  parted-step e past made move before = record {
    fifo_so_far = fifo_so_far (adds-cases _ _ (ends_in_fifo g r t s past));
    in_fifo = in_fifo;
    queue_so_far = queue_so_far (adds-cases _ _ (ends_in_queue g r t s past));
    all_in_queue = all_in_queue;
    together = together (adds-cases _ _ (ends g r t s past));
  }
    where
      follows : IsNext g e past
      follows = next g rules made move

      made_after : IsReachable g (e ∷ past)
      made_after = moved g made move

      f : Bool
      f = frees s (sem_act e)

      opened : is_open g r t s (e ∷ past) ≡ true → (is_open g r t s past ≡ true) ⊎ (sem_act e ≡ Asks t s) × (r ≡ entries_in past)
      opened o = open-before g rules r t s e past (waits_once g rules made) follows o

      not_fifo : is_open g r t s past ≡ true → has t (omlp g s past).queue ≡ true → has t (omlp g s past).fifo ≡ false
      not_fifo o h = unless _ (λ k. clash _ h ((lists made o).apart t k))

      fifo_so_far : ((f ≡ true) × (is_open g r t s past && has t (omlp g s past).fifo ≡ true) × (adds f (is_open g r t s past && has t (omlp g s past).fifo) (ends_in_fifo g r t s past) ≡ ends_in_fifo g r t s past + 1)) ⊎ (adds f (is_open g r t s past && has t (omlp g s past).fifo) (ends_in_fifo g r t s past) ≡ ends_in_fifo g r t s past) → ends_in_fifo g r t s (e ∷ past) ≤ cpus g (home g t) - 1
      fifo_so_far (inl c) = let b = both (is_open g r t s past) (has t (omlp g s past).fifo) c.1 in by_place b.0 (where_it_waits past b.0)
        where
          by_place : is_open g r t s past ≡ true → (has t (rest (omlp g s past).fifo) ≡ true) ⊎ (has t (omlp g s past).queue ≡ true) → ends_in_fifo g r t s (e ∷ past) ≤ cpus g (home g t) - 1
          by_place o (inl h) = omega (arith, fifo-adds g r t s e past, c.2, before.in_fifo o h, ahead-rest t (omlp g s past).fifo (lists made o).fifo_once h)
          by_place o (inr h) = absurd (clash _ (both (is_open g r t s past) (has t (omlp g s past).fifo) c.1).1 (not_fifo o h))
      fifo_so_far (inr c) = omega (arith, fifo-adds g r t s e past, c, before.fifo_so_far)

      -- it has just come to the list: nothing ended since
      arrives : is_open g r t s (e ∷ past) ≡ true → has t (rest (omlp g s (e ∷ past)).fifo) ≡ true → ends_in_fifo g r t s (e ∷ past) ≡ 0 → ends_in_fifo g r t s (e ∷ past) + ahead t (omlp g s (e ∷ past)).fifo ≤ cpus g (home g t) - 1
      arrives o h none =
          let q : IsQueued (cpus g (cluster_of g s)) (omlp g s (e ∷ past)) = lists made_after o in
          let same : cpus g (home g t) ≡ cpus g (cluster_of g s) = ap (λ c. cpus g c) (home_is made_after o) in
          omega (arith, none, same, q.fits, ahead-inside t (omlp g s (e ∷ past)).fifo (has-rest t (omlp g s (e ∷ past)).fifo h))

      fifo_stays : is_open g r t s past ≡ true → has t (omlp g s past).queue ≡ true → ends_in_fifo g r t s (e ∷ past) ≡ ends_in_fifo g r t s past
      fifo_stays o h = fifo-adds g r t s e past ∙ adds-fails _ _ _ (rw (o, not_fifo o h) refl)

      new_in_fifo : sem_act e ≡ Asks t s → r ≡ entries_in past → ends_in_fifo g r t s (e ∷ past) ≡ 0
      new_in_fifo a n = fifo-adds g r t s e past ∙ adds-none _ _ _ (rw a refl) ∙ none-in_fifo g r t s past (omega (arith, n))

      in_fifo : is_open g r t s (e ∷ past) ≡ true → has t (rest (omlp g s (e ∷ past)).fifo) ≡ true → ends_in_fifo g r t s (e ∷ past) + ahead t (omlp g s (e ∷ past)).fifo ≤ cpus g (home g t) - 1
      in_fifo o h = split (opened o)
        where
          goes_on : is_open g r t s past ≡ true → has t (rest (omlp g s past).fifo) ≡ true → (b : Bool) → frees s (sem_act e) ≡ b → ends_in_fifo g r t s (e ∷ past) + ahead t (omlp g s (e ∷ past)).fifo ≤ cpus g (home g t) - 1
          goes_on was k true x =
              let n = nearer g t s e past (lists made was) k in
              omega (arith, n.nearer x, fifo-adds g r t s e past, adds-most f (is_open g r t s past && has t (omlp g s past).fifo) (ends_in_fifo g r t s past), before.in_fifo was k)
          goes_on was k false x =
              let n = nearer g t s e past (lists made was) k in
              omega (arith, n.as_far x, fifo-adds g r t s e past ∙ adds-none f (is_open g r t s past && has t (omlp g s past).fifo) (ends_in_fifo g r t s past) x, before.in_fifo was k)

          place : is_open g r t s past ≡ true → (has t (rest (omlp g s past).fifo) ≡ true) ⊎ (has t (omlp g s past).queue ≡ true) → ends_in_fifo g r t s (e ∷ past) + ahead t (omlp g s (e ∷ past)).fifo ≤ cpus g (home g t) - 1
          place was (inl k) = goes_on was k (frees s (sem_act e)) refl
          place was (inr k) = arrives o h (fifo_stays was k ∙ (before.all_in_queue was k).0)

          split : (is_open g r t s past ≡ true) ⊎ (sem_act e ≡ Asks t s) × (r ≡ entries_in past) → ends_in_fifo g r t s (e ∷ past) + ahead t (omlp g s (e ∷ past)).fifo ≤ cpus g (home g t) - 1
          split (inl was) = place was (where_it_waits past was)
          split (inr n) = arrives o h (new_in_fifo n.0 n.1)

      queue_so_far : ((f ≡ true) × (is_open g r t s past && (has t (omlp g s past).queue && is_blocked g t past) ≡ true) × (adds f (is_open g r t s past && (has t (omlp g s past).queue && is_blocked g t past)) (ends_in_queue g r t s past) ≡ ends_in_queue g r t s past + 1)) ⊎ (adds f (is_open g r t s past && (has t (omlp g s past).queue && is_blocked g t past)) (ends_in_queue g r t s past) ≡ ends_in_queue g r t s past) → ends_in_queue g r t s (e ∷ past) ≤ cpus g (home g t)
      queue_so_far (inl c) =
          let b = both (is_open g r t s past) (has t (omlp g s past).queue && is_blocked g t past) c.1 in
          let d = both (has t (omlp g s past).queue) (is_blocked g t past) b.1 in
          let there = known past b.0 in
          let a = permitted there in
          let counted : ends g r t s (e ∷ past) ≡ ends g r t s past + 1 = ends-adds g r t s e past ∙ adds-holds _ _ _ c.0 (rw (b.0, d.1) refl) in
          let bound : ends g r t s (e ∷ past) ≤ cpus g (cluster_of g s) = omlp_count.queue_bound g rules r t s p a shares there e past (all_active g rules made) (lists made b.0) d.0 ((omlp_count.counted g rules r t s p a shares there made).in_queue b.0 d.0) in
          let same : cpus g (home g t) ≡ cpus g (cluster_of g s) = ap (λ n. cpus g n) (home_is made b.0) in
          omega (arith, queue-adds g r t s e past, c.2, (before.all_in_queue b.0 d.0).1, counted, bound, same)
      queue_so_far (inr c) = omega (arith, queue-adds g r t s e past, c, before.queue_so_far)

      all_in_queue : is_open g r t s (e ∷ past) ≡ true → has t (omlp g s (e ∷ past)).queue ≡ true → (ends_in_fifo g r t s (e ∷ past) ≡ 0) × (ends_in_queue g r t s (e ∷ past) ≡ ends g r t s (e ∷ past))
      all_in_queue o h = split (opened o)
        where
          place : is_open g r t s past ≡ true → (has t (rest (omlp g s past).fifo) ≡ true) ⊎ (has t (omlp g s past).queue ≡ true) → (ends_in_fifo g r t s (e ∷ past) ≡ 0) × (ends_in_queue g r t s (e ∷ past) ≡ ends g r t s (e ∷ past))
          place was (inl k) = absurd (clash _ h ((lists made_after o).apart t ((nearer g t s e past (lists made was) k).stays)))
          place was (inr k) = (fifo_stays was k ∙ (before.all_in_queue was k).0, queue-adds g r t s e past ∙ rw (k, (before.all_in_queue was k).1) (sym (ends-adds g r t s e past)))

          split : (is_open g r t s past ≡ true) ⊎ (sem_act e ≡ Asks t s) × (r ≡ entries_in past) → (ends_in_fifo g r t s (e ∷ past) ≡ 0) × (ends_in_queue g r t s (e ∷ past) ≡ ends g r t s (e ∷ past))
          split (inl was) = place was (where_it_waits past was)
          split (inr n) = (
            new_in_fifo n.0 n.1,
            queue-adds g r t s e past ∙ adds-none _ _ _ (rw n.0 refl) ∙ none-in_queue g r t s past (omega (arith, n.1)) ∙ sym (ends-adds g r t s e past ∙ adds-none _ _ _ (rw n.0 refl) ∙ omlp_count.ends-none g r t s past (omega (arith, n.1))),
          )

      together : ((f ≡ true) × (is_open g r t s past && is_blocked g t past ≡ true) × (adds f (is_open g r t s past && is_blocked g t past) (ends g r t s past) ≡ ends g r t s past + 1)) ⊎ (adds f (is_open g r t s past && is_blocked g t past) (ends g r t s past) ≡ ends g r t s past) → ends g r t s (e ∷ past) ≤ ends_in_queue g r t s (e ∷ past) + ends_in_fifo g r t s (e ∷ past)
      together (inl c) = let b = both (is_open g r t s past) (is_blocked g t past) c.1 in place b.0 b.1 (where_it_waits past b.0)
        where
          place : is_open g r t s past ≡ true → is_blocked g t past ≡ true → (has t (rest (omlp g s past).fifo) ≡ true) ⊎ (has t (omlp g s past).queue ≡ true) → ends g r t s (e ∷ past) ≤ ends_in_queue g r t s (e ∷ past) + ends_in_fifo g r t s (e ∷ past)
          place o k (inl h) =
              let more : ends_in_fifo g r t s (e ∷ past) ≡ ends_in_fifo g r t s past + 1 = fifo-adds g r t s e past ∙ adds-holds _ _ _ c.0 (rw (o, has-rest t (omlp g s past).fifo h) refl) in
              omega (arith, more, ends-adds g r t s e past, c.2, queue-adds g r t s e past, adds-grows f (is_open g r t s past && (has t (omlp g s past).queue && is_blocked g t past)) (ends_in_queue g r t s past), before.together)
          place o k (inr h) =
              let more : ends_in_queue g r t s (e ∷ past) ≡ ends_in_queue g r t s past + 1 = queue-adds g r t s e past ∙ adds-holds _ _ _ c.0 (rw (o, h, k) refl) in
              omega (arith, more, ends-adds g r t s e past, c.2, fifo-adds g r t s e past, adds-grows f (is_open g r t s past && has t (omlp g s past).fifo) (ends_in_fifo g r t s past), before.together)
      together (inr c) = omega (arith, ends-adds g r t s e past, c, queue-adds g r t s e past, adds-grows f (is_open g r t s past && (has t (omlp g s past).queue && is_blocked g t past)) (ends_in_queue g r t s past), fifo-adds g r t s e past, adds-grows f (is_open g r t s past && has t (omlp g s past).fifo) (ends_in_fifo g r t s past), before.together)

  nothing-parted : IsParted []
  unfolding ends ends_in_fifo ends_in_queue omlp
  nothing-parted = record { fifo_so_far = omega arith; in_fifo = λ o h. cc; queue_so_far = omega arith; all_in_queue = λ o h. cc; together = omega arith }

  parted : {past : Past} → IsReachable g past → IsParted past
  parted made = by_moves g IsParted nothing-parted (λ past e before_made move before. parted-step e past before_made move before) made

pub omlp_parts : OmlpParts
omlp_parts g past valid made r t s p =
    let k : IsParted g (rules_of g valid) r t s p past = parted g (rules_of g valid) r t s p made in
    record { in_queue = k.queue_so_far; in_fifo = k.fifo_so_far; together = k.together }
