-- A group that takes the next step of a processor.
use Rattle.std.proofs.Common.{◌≡◌, ◌≢◌, ℕ, ◌+◌, ◌<◌, ◌≤◌, Bool, true, false, List, [], ◌∷◌, ◌++◌, length, take, drop, set, get_or, refl, sym, ap, ◌∙◌, subst, arith, eqb-true, append_assoc, length-append, take_all}
use Rattle.std.specs.Prelude.{◌==◌, All}
use Rattle.std.proofs.lemmas.Bool.Decides.{nat_tests}
use Rattle.std.proofs.lemmas.List.{get_or-set_same, get_or-set_other, length-set}
use Rattle.std.proofs.lemmas.Grind.{get_or_default_zero}
use Rattle.std.proofs.lemmas.List.Elements.{All-weaker}
use Rattle.rt_base.specs.declared.TheConstants.{MOST_CPUS, MOST_STEPS}
use Rattle.rt_task.specs.declared.Step.{Step}
use Rattle.rt_task.specs.declared.Parts.{Parts}
use Rattle.rt_rules.specs.declared.history.Entry.{Entry}
use Rattle.rt_model.specs.Group.{Group}
use Rattle.rt_model.specs.Histories.{reply_to}
use Rattle.rt_model.specs.Steps.{IsStepOf}
use Rattle.rt_plays.specs.Drives.{gives_steps}
use Rattle.rt_plays.specs.Groups.{GroupHistory, group_of, past, with_entry}
use Rattle.rt_plays.specs.Drives.{steps_given}
use Rattle.rt_plays.specs.Homes.{IsProcessorOf}
use Rattle.rt_plays.specs.Order.{steps_in_group}
use Rattle.rt_plays.specs.Plays.{group_with, IsBegunPlay}
use Rattle.rt_plays.specs.Room.{room}
use Rattle.rt_plays.specs.Scripts.{script}
use Rattle.rt_task.specs.Validity.{IsValid}
use Rattle.rt_plays.proofs.PlayLaws.{play-fits}
use Rattle.rt_plays.proofs.ScriptOrder.{in_group-home, in_group-script}
use Rattle.rt_plays.proofs.ScriptParts.{script-take-drop, script-take-next, script-steps_of-next, script-steps_of-skip}
use Rattle.rt_plays.proofs.GroupLimits.{processor-low}
use Rattle.cpu_site.specs.StepChains.{IsNextFrom, IsChained}
use Rattle.cpu_site.specs.Playing.{IsPlayable, IsPlayedTo, IsPlaying, IsNextStep, IsNextEntry, IsOver}
use Rattle.cpu_site.proofs.Drives.{begun-few, begun-first, begun-next, next-script, over-script}
use Rattle.cpu_site.proofs.SetFacts.{group-steps}

module _ (h : GroupHistory) (p : Parts) (steps : List Step) (positions nexts : List ℕ) (playing : IsPlaying h p steps positions nexts) (q : ℕ) (of_g : IsProcessorOf (group_of h) q) (gives : gives_steps h.setup.drive ≡ true) where
  low : q < MOST_CPUS
  low = processor-low (group_of h) q playing.playable.valid of_g

  pub position-there : q < length positions
  position-there = rw playing.all_cpus low

  own_given : script steps q ≡ script (steps_given h.setup.drive) q
  own_given = ap (λ (ss : List Step). script ss q) playing.steps_are ∙ in_group-script (group_of h) (steps_given h.setup.drive) q of_g

  played-to : IsPlayedTo steps h.entries q (get_or positions q 0)
  played-to = playing.at gives q low

  -- at the end of the list no step is left
  over : length steps ≤ get_or positions q 0 → IsOver (group_of h) q h.entries
  over end = over-script (group_of h) q h.entries gives (played-to.played ∙ ap (λ (ss : List Step). script ss q) (take_all (get_or positions q 0) steps end) ∙ own_given)

  module _ (d : Step) (left : get_or positions q 0 < length steps) where
    own-step : (get_or steps (get_or positions q 0) d).cpu.0 ≡ q
    own-step = played-to.position.own d left

    next-step : (turns : ℕ) → IsNextStep (group_of h) turns q h.entries (get_or steps (get_or positions q 0) d)
    next-step turns =
        let j : ℕ = get_or positions q 0 in
        let more : List Step = script (drop (j + 1) steps) q in
        let here : (get_or steps j d).cpu.0 == q ≡ true = let o = own-step in grind (arith, nat_tests, o) in next-script (group_of h) turns q h.entries (get_or steps j d) gives (
          more,
          sym own_given
              ∙ script-take-drop steps q (j + 1)
              ∙ ap (λ (ss : List Step). ss ++ more) (script-take-next steps q j d left here)
              ∙ append_assoc (script (take j steps) q) (get_or steps j d ∷ []) more
              ∙ ap (λ (ss : List Step). ss ++ get_or steps j d ∷ more) (sym played-to.played),
        )

    step-of : IsStepOf (group_of h) (get_or steps (get_or positions q 0) d)
    step-of =
        let given : List Step = steps_in_group (group_of h) (steps_given h.setup.drive) in
        let all : All (λ (s : Step). IsProcessorOf (group_of h) s.cpu.0 → IsStepOf (group_of h) s) steps = subst (λ (ss : List Step). All (λ (s : Step). IsProcessorOf (group_of h) s.cpu.0 → IsStepOf (group_of h) s) ss) (sym playing.steps_are) (group-steps (group_of h) playing.playable.valid) in
        all (get_or positions q 0) d left (subst (λ (x : ℕ). IsProcessorOf (group_of h) x) (sym own-step) of_g)

    module _ (e : Entry) (step_is : e.step ≡ get_or steps (get_or positions q 0) d) (reply_is : e.reply ≡ reply_to (group_of h) e.step (past h)) where
      own : e.step.cpu.0 ≡ q
      own = ap (λ (s : Step). s.cpu.0) step_is ∙ own-step

      next-entry : (turns : ℕ) → IsNextEntry h turns q e
      next-entry turns = record { own = own; next = subst (λ (s : Step). IsNextStep (group_of h) turns q h.entries s) (sym step_is) (next-step turns); reply = reply_is }

      begun-more : IsBegunPlay (group_of h) (h.entries ++ e ∷ [])
      begun-more = begun-next (group_of h) 0 q h.entries e playing.begun own of_g (next-entry 0).next reply_is

      -- so there was room for it
      has-room : length h.entries < room (group_of h)
      has-room =
          let few = play-fits (group_of h) (h.entries ++ e ∷ []) begun-more in
          omega (arith, few, length-append h.entries (e ∷ []))

      at-own : IsPlayedTo steps (h.entries ++ e ∷ []) q (get_or nexts (get_or positions q 0) 0)
      at-own =
          let j : ℕ = get_or positions q 0 in
          let here : (get_or steps j d).cpu.0 == q ≡ true = let o = own-step in grind (arith, nat_tests, o) in
          let mine : e.step.cpu.0 == q ≡ true = let o = own in grind (arith, nat_tests, o) in
          let next : IsNextFrom steps q (j + 1) (get_or nexts j 0) = subst (λ (x : ℕ). IsNextFrom steps x (j + 1) (get_or nexts j 0)) own-step (playing.next j d left) in
          record {
            position = next.position;
            played = script-steps_of-next h.entries e q mine
                ∙ ap (λ (ss : List Step). ss ++ e.step ∷ []) played-to.played
                ∙ ap (λ (s : Step). script (take j steps) q ++ s ∷ []) step_is
                ∙ sym (script-take-next steps q j d left here)
                ∙ sym next.same;
          }

      at-other : (x : ℕ) → x ≢ q → x < MOST_CPUS → IsPlayedTo steps (h.entries ++ e ∷ []) x (get_or positions x 0)
      at-other x other lt =
          let before = playing.at gives x lt in
          let no : e.step.cpu.0 == x ≡ false = let o = own in grind (arith, nat_tests, other, o) in
          record { position = before.position; played = script-steps_of-skip h.entries e x no ∙ before.played }

      at-each : (x : ℕ) → x < MOST_CPUS → (b : Bool) → (x == q) ≡ b → IsPlayedTo steps (h.entries ++ e ∷ []) x (get_or (set positions q (get_or nexts (get_or positions q 0) 0)) x 0)
      at-each x lt true is =
          let here : x ≡ q = eqb-true x q is in
          let value : get_or (set positions q (get_or nexts (get_or positions q 0) 0)) q 0 ≡ get_or nexts (get_or positions q 0) 0 = get_or-set_same positions q _ 0 position-there in
          rw (here, value) at-own
      at-each x lt false is =
          let other : x ≢ q = grind (arith, nat_tests, is) in
          rw (get_or-set_other positions q x (get_or nexts (get_or positions q 0) 0) 0 other) (at-other x other lt)

      playing-more : IsPlaying (with_entry e h) p steps (set positions q (get_or nexts (get_or positions q 0) 0)) nexts
      playing-more = record {
        playable = playing.playable;
        setup_is = playing.setup_is;
        steps_are = playing.steps_are;
        begun = begun-more;
        room_is = let low = has-room in omega (arith, low, playing.room_is, length-append h.entries (e ∷ []));
        all_cpus = length-set positions q _ ∙ playing.all_cpus;
        all_steps = playing.all_steps;
        at = λ _ x lt. at-each x lt _ refl;
        next = playing.next;
      }

-- what the step at a processor's position comes to
pub record IsTaking (h : GroupHistory) (p : Parts) (steps : List Step) (positions nexts : List ℕ) (q : ℕ) (s : Step) : Type 0 where
  pub own : s.cpu.0 ≡ q
  pub step_of : IsStepOf (group_of h) s
  pub room : 0 < h.spare
  pub entry : (turns : ℕ) (e : Entry) → e.step ≡ s → e.reply ≡ reply_to (group_of h) e.step (past h) → IsNextEntry h turns q e
  pub after : (e : Entry) → e.step ≡ s → e.reply ≡ reply_to (group_of h) e.step (past h) → (position next : ℕ) → position ≡ get_or positions q position → next ≡ get_or nexts position next
      → IsPlaying (with_entry e h) p steps (set positions q next) nexts

module _ (h : GroupHistory) (p : Parts) (steps : List Step) (positions nexts : List ℕ) (playing : IsPlaying h p steps positions nexts) (q : ℕ) (of_g : IsProcessorOf (group_of h) q) (gives : gives_steps h.setup.drive ≡ true) (position : ℕ) (position_is : position ≡ get_or positions q position) where
  here : position ≡ get_or positions q 0
  here = position_is ∙ get_or_default_zero positions q position (position-there h p steps positions nexts playing q of_g gives)

  pub over-read : length steps ≤ position → IsOver (group_of h) q h.entries
  over-read end = over h p steps positions nexts playing q of_g gives (rw here at end)

  taking : (d : Step) → position < length steps → IsTaking h p steps positions nexts q (get_or steps position d)
  taking d low =
      let left : get_or positions q 0 < length steps = rw here at low in
      let s_is : get_or steps position d ≡ get_or steps (get_or positions q 0) d = rw here refl in
      let reply : Entry = record { step = get_or steps (get_or positions q 0) d; reply = reply_to (group_of h) (get_or steps (get_or positions q 0) d) (past h) } in
      let few = has-room h p steps positions nexts playing q of_g gives d left reply refl refl in
      subst (λ (s : Step). IsTaking h p steps positions nexts q s) (sym s_is) (record {
        own = own-step h p steps positions nexts playing q of_g gives d left;
        step_of = step-of h p steps positions nexts playing q of_g gives d left;
        room = omega (arith, few, playing.room_is);
        entry = λ turns e step_is reply_is. next-entry h p steps positions nexts playing q of_g gives d left e step_is reply_is turns;
        after = λ e step_is reply_is at next at_is next_is.
            let at_zero : at ≡ get_or positions q 0 = at_is ∙ get_or_default_zero positions q at (position-there h p steps positions nexts playing q of_g gives) in
            let next_zero : next ≡ get_or nexts (get_or positions q 0) 0 = next_is ∙ ap (λ (i : ℕ). get_or nexts i next) at_zero ∙ get_or_default_zero nexts (get_or positions q 0) next (rw playing.all_steps left) in
            rw next_zero (playing-more h p steps positions nexts playing q of_g gives d left e step_is reply_is);
      })

  -- the same of the step that is read there
  pub taking-read : (s : Step) → s ≡ get_or steps position s → position < length steps → IsTaking h p steps positions nexts q s
  taking-read s is low = subst (λ (x : Step). IsTaking h p steps positions nexts q x) (sym is) (taking s low)

-- the steps of a group name few processors
pub steps-low : (g : Group) (steps : List Step) → IsValid g.setup → steps ≡ steps_in_group g (steps_given g.setup.drive) → All (λ (s : Step). s.cpu.0 < MOST_CPUS) steps
steps-low g steps valid are =
    subst (λ (ss : List Step). All (λ (s : Step). s.cpu.0 < MOST_CPUS) ss) (sym are)
    (All-weaker (λ (s : Step). IsProcessorOf g s.cpu.0) (λ (s : Step). s.cpu.0 < MOST_CPUS) (λ s there. processor-low g s.cpu.0 valid there) (steps_in_group g (steps_given g.setup.drive)) (in_group-home g (steps_given g.setup.drive)))

-- before the first step
pub playing-opened : (p : Parts) (n : ℕ) (steps : List Step) (positions nexts : List ℕ) (h : GroupHistory) → IsPlayable p n → steps ≡ steps_in_group (group_with p n) (steps_given p.drive) → IsChained steps MOST_CPUS positions nexts
    → h ≡ record { setup = p; group = n; entries = []; spare = room (group_with p n) } → (p' : Parts) → p' ≡ p → IsPlaying h p' steps positions nexts
playing-opened p n steps positions nexts h ok steps_are chain is p' same = subst (λ (x : GroupHistory). IsPlaying x p' steps positions nexts) (sym is) (record {
  playable = ok;
  setup_is = same;
  steps_are = steps_are;
  begun = begun-first (group_with p n);
  room_is = omega arith;
  all_cpus = chain.all_cpus;
  all_steps = chain.all_steps;
  at = λ _ q lt. record { position = (chain.first q lt).position; played = sym (chain.first q lt).same };
  next = λ i d lt. chain.next i (omega arith) d lt;
})

pub playing-few : (h : GroupHistory) (p : Parts) (steps : List Step) (positions nexts : List ℕ) → IsPlaying h p steps positions nexts → length h.entries ≤ MOST_STEPS
playing-few h p steps positions nexts playing = begun-few (group_of h) playing.playable.valid h.entries playing.begun
