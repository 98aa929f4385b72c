-- Body runs take interrupts before they lock.
use Rattle.std.proofs.Common.{Bool, List, [], ap, append_assoc, arith, eqb-true, false, length, max, not, refl, subst, sym, true, ℕ, ◌&&◌, ◌++◌, ◌<◌, ◌≤◌, ◌||◌, ◌∙◌, ◌∷◌, ◌≡◌}
use Rattle.std.proofs.lemmas.Bool.Decides.{nat_tests}
use Rattle.std.specs.Prelude.{None, Option, Some, if◌then◌else◌, is_some, option_map, ◌==◌}
use Rattle.rt_task.specs.RuleWords.{is_p_res}
use Rattle.rt_task.specs.Validity.{IsValid}
use Rattle.rt_task.specs.declared.Act.TheVariants as acts
use Rattle.rt_task.specs.declared.Act.{Act}
use Rattle.rt_task.specs.declared.Op.TheVariants as ops
use Rattle.rt_task.specs.declared.Op.{Op}
use Rattle.rt_rules.specs.declared.history.Entry.{Entry}
use Rattle.rt_rules.specs.SemState.{Asks, Frees, Neither, SemAct}
use Rattle.rt_model.specs.Answers.{np_on}
use Rattle.rt_model.specs.Group.{Group, cluster_with}
use Rattle.rt_model.specs.Histories.{after, past_from, past_of}
use Rattle.rt_model.specs.Links.{pending}
use Rattle.rt_model.specs.NonPreemptive.{non_preemptive}
use Rattle.rt_model.specs.Outcomes.{past_act}
use Rattle.rt_model.specs.Past.{Acted, Clock, Past, now, sem_act}
use Rattle.rt_model.specs.Reachable.{IsReachable, opened}
use Rattle.rt_model.specs.Releases.{release}
use Rattle.rt_model.specs.Runs.{runs}
use Rattle.rt_model.specs.Situations.{next_act, next_of, situation, task_no}
use Rattle.rt_model.specs.Sleep.{wakes}
use Rattle.rt_model.proofs.PastLaws.{made-from}
use Rattle.rt_model.proofs.Steps.{past_of-append, runs-clock}
use Rattle.rt_laws.specs.BlockedOnce.{is_asking, takes_interrupts}
use Rattle.rt_laws.proofs.pcp.BlockedMoves.{blocked_at_most, taking_is_prompt}
use Rattle.rt_laws.proofs.semaphores.Requests.{IsAsk, asks}
use Rattle.rt_changes.specs.Clusters.{SameCluster}
use Rattle.rt_changes.specs.Touched.{comes_due, lies_in, release_lies_in}
use Rattle.rt_changes.proofs.rankings.SameClusters.{cluster-stays, runs-clock as cluster-runs}
use Rattle.rt_changes.proofs.rankings.QuietMoves.{standing_after_clock}
use Rattle.rt_rules.proofs.BoolLaws.{both}
use Rattle.rt_plays.specs.BodyHistories.{IsBodyHistory, IsTurn, turn_acts}
use Rattle.rt_plays.proofs.Sentence.{holds-at}
use Rattle.rt_plays.proofs.TurnsTold.{turn-append, turn-one, turn-skip}
use Rattle.rt_plays.specs.Drives.{horizon}
use Rattle.rt_plays.specs.Homes.{IsProcessorOf}
use Rattle.body_laws.specs.TurnLaws.{TurnsBlockAtMost, TurnsTakeInterrupts}

-- ---- a move of the clock to a tick that has come

lies-nowhere : (a n : ℕ) → lies_in a a n ≡ false
lies-nowhere a n = grind (arith, nat_tests)

no_release : (a : ℕ) (o : Option ℕ) → release_lies_in a a o ≡ false
no_release a None = refl
no_release a (Some r) = lies-nowhere a r

not-due : (g : Group) (tick t : ℕ) (past : Past) → tick ≤ now past → comes_due g tick t past ≡ false
not-due g tick t past h =
    let still : max (now past) tick ≡ now past = omega (arith, h) in
    rw (still, no_release (now past) (release g t past), lies-nowhere (now past) (wakes t past))

pending-stays : (g : Group) → IsValid g.setup → is_p_res g.setup.plugin ≡ false → {past : Past} → IsReachable g past → (q tick : ℕ) → tick ≤ now past → pending g q (Clock tick ∷ past) ≡ pending g q past
unfolding pending
pending-stays g valid none {past} made q tick h =
    let c : SameCluster g (cluster_with g q) past (Clock tick ∷ past) = cluster-stays g (cluster_with g q) (Clock tick) past made (λ t k. standing_after_clock g past valid made none tick t (not-due g tick t past h)) (cluster-runs g (cluster_with g q) tick past) in
    rw (c.linked_same q refl, runs-clock q tick past)

-- ---- the clock of a history

now-grows : (g : Group) (past : Past) (es : List Entry) → now past ≤ now (past_from g past es)
unfolding past_from after
now-grows g past [] = omega arith
now-grows g past (e ∷ es) = let later : now (after g e.step past) ≤ now (past_from g (after g e.step past) es) = now-grows g (after g e.step past) es in omega (arith, later)

tick-comes : (g : Group) (q t : ℕ) (past : Past) (es : List Entry) → 1 ≤ length (turn_acts q t es) → t ≤ now (past_from g past es)
unfolding past_from after
tick-comes g q t past [] h = absurd (omega (arith, h))
tick-comes g q t past (e ∷ es) h = by_case (e.step.cpu.0 == q && e.step.tick.0 == t) refl (tick-comes g q t (after g e.step past) es)
  where
    by_case : (b : Bool) → e.step.cpu.0 == q && e.step.tick.0 == t ≡ b → (1 ≤ length (turn_acts q t es) → t ≤ now (past_from g (after g e.step past) es)) → t ≤ now (past_from g (after g e.step past) es)
    by_case true k rec =
        let same : e.step.tick.0 ≡ t = eqb-true e.step.tick.0 t (both (e.step.cpu.0 == q) (e.step.tick.0 == t) k).1 in
        let later : now (after g e.step past) ≤ now (past_from g (after g e.step past) es) = now-grows g (after g e.step past) es in
        omega (arith, same, later)
    by_case false k rec = rec (subst (λ (l : List Act). 1 ≤ length l) (turn-skip q t e k es) h)

-- ---- a Lock is the third act of its turn or a later one

third : (act : Act) (op : Op) (xs ys after : List Act) → act ≡ acts.Do op → xs ++ act ∷ ys ≡ acts.Tick ∷ acts.Irq ∷ after → 2 ≤ length xs
third act op [] ys after h k = cc
third act op (x ∷ []) ys after h k = cc
third act op (x ∷ y ∷ xs) ys after h k = omega arith

-- what runs preemptively and is not to take an interrupt has none pending
next-free : (g : Group) (q u : ℕ) (past : Past) (op : Op) → runs q past ≡ Some u → non_preemptive u past ≡ false → next_act g (situation g q past) ≡ Some (acts.Do op) → pending g q past ≡ false
unfolding next_act situation np_on
next-free g q u past op r np h = by_case (pending g q past) refl h
  where
    by_case : (b : Bool) → pending g q past ≡ b → (if b && not (is_some (option_map task_no (runs q past)) && np_on g (runs q past) past) then Some acts.Irq else next_of g (situation g q past) (option_map task_no (runs q past))) ≡ Some (acts.Do op) → b ≡ false
    by_case false e k = refl
    by_case true e k = let m : Some acts.Irq ≡ Some (acts.Do op) = rw (r, np) at k in cc

np-clock : (u tick : ℕ) (past : Past) → non_preemptive u (Clock tick ∷ past) ≡ non_preemptive u past
unfolding non_preemptive
np-clock u tick past = refl

module _ (g : Group) (valid : IsValid g.setup) (none : is_p_res g.setup.plugin ≡ false) where
  made-of : (front : List Entry) → IsReachable g (past_of g front)
  unfolding past_of
  made-of front = made-from g front opened

  tick-came : (q t : ℕ) (front : List Entry) → 1 ≤ length (turn_acts q t front) → t ≤ now (past_of g front)
  unfolding past_of
  tick-came q t front h = tick-comes g q t [] front h

  lock-free : (front : List Entry) (e : Entry) (back : List Entry) → IsBodyHistory g (front ++ e ∷ back) → (u s : ℕ)
      → sem_act (Acted (past_act g e.step.cpu.0 e.step.act (Clock e.step.tick.0 ∷ past_of g front))) ≡ Asks u s → pending g e.step.cpu.0 (Clock e.step.tick.0 ∷ past_of g front) ≡ false
  lock-free front e back h u s k =
      let q : ℕ = e.step.cpu.0 in
      let t : ℕ = e.step.tick.0 in
      let ask : IsAsk g q e.step.act (Clock t ∷ past_of g front) u s = asks g q e.step.act (Clock t ∷ past_of g front) u s k in
      let home : IsProcessorOf g q = holds-at (λ (x : Entry). IsProcessorOf g x.step.cpu.0) (front ++ e ∷ back) front e back refl h.at_home in
      let low : t < horizon g.setup.drive = holds-at (λ (x : Entry). x.step.tick.0 < horizon g.setup.drive) (front ++ e ∷ back) front e back refl h.within in
      let turn : IsTurn (turn_acts q t (front ++ e ∷ back)) = h.turns q t home low in
      let acts_are : turn_acts q t front ++ e.step.act ∷ turn_acts q t back ≡ acts.Tick ∷ acts.Irq ∷ turn.after = ap (λ (l : List Act). turn_acts q t front ++ l) (sym (turn-one q t e refl refl back)) ∙ sym (turn-append q t front (e ∷ back)) ∙ turn.turn_is in
      let two : 2 ≤ length (turn_acts q t front) = third e.step.act (ops.Lock ask.number) (turn_acts q t front) (turn_acts q t back) turn.after ask.is_lock acts_are in
      let next : next_act g (situation g q (past_of g front)) ≡ Some (acts.Do (ops.Lock ask.number)) = h.next front e back refl two ∙ ap (λ (a : Act). Some a) ask.is_lock in
      let free : pending g q (past_of g front) ≡ false = next-free g q u (past_of g front) (ops.Lock ask.number) (sym (runs-clock q t (past_of g front)) ∙ ask.runs_it) (sym (np-clock u t (past_of g front)) ∙ ask.preemptive) next in
      pending-stays g valid none (made-of front) q t (tick-came q t front (omega (arith, two))) ∙ free

  takes-step : (front : List Entry) (e : Entry) (back : List Entry) → IsBodyHistory g (front ++ e ∷ back) → takes_interrupts g (past_of g front) ≡ true → takes_interrupts g (after g e.step (past_of g front)) ≡ true
  unfolding takes_interrupts after past_act
  takes-step front e back h k = by_case (sem_act (Acted (past_act g e.step.cpu.0 e.step.act (Clock e.step.tick.0 ∷ past_of g front)))) refl
    where
      by_case : (x : SemAct) → sem_act (Acted (past_act g e.step.cpu.0 e.step.act (Clock e.step.tick.0 ∷ past_of g front))) ≡ x
          → (not (is_asking x) || not (pending g e.step.cpu.0 (Clock e.step.tick.0 ∷ past_of g front))) && takes_interrupts g (past_of g front) ≡ true
      by_case Neither m = k
      by_case (Frees u s) m = k
      by_case (Asks u s) m = rw (lock-free front e back h u s m, k)

  takes-from : (front mid back : List Entry) → IsBodyHistory g (front ++ (mid ++ back)) → takes_interrupts g (past_of g front) ≡ true → takes_interrupts g (past_from g (past_of g front) mid) ≡ true
  unfolding past_from
  takes-from front [] back h k = k
  takes-from front (e ∷ mid) back h k =
      let one : takes_interrupts g (past_of g (front ++ e ∷ [])) ≡ true = rw past_of-append (takes-step front e (mid ++ back) h k) in
      let next : takes_interrupts g (past_from g (past_of g (front ++ e ∷ [])) mid) ≡ true = takes-from (front ++ e ∷ []) mid back (subst (IsBodyHistory g) (sym (append_assoc front (e ∷ []) (mid ++ back))) h) one in
      subst (λ (p : Past). takes_interrupts g (past_from g p mid) ≡ true) (past_of-append g front e) next

  takes-all : (front back : List Entry) → IsBodyHistory g (front ++ back) → takes_interrupts g (past_of g front) ≡ true
  unfolding past_of past_from takes_interrupts
  takes-all front back h = takes-from [] front back h refl

pub turns_take_interrupts : TurnsTakeInterrupts
turns_take_interrupts g front back valid none h = takes-all g valid none front back h

pub turns_block_at_most : TurnsBlockAtMost
turns_block_at_most g front back t valid none h there =
    let made : IsReachable g (past_of g front) = made-of g valid none front in
    blocked_at_most g (past_of g front) valid made t there (taking_is_prompt g (past_of g front) valid made t (takes-all g valid none front back h))
