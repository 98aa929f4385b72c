-- A group that takes the next step of a processor's turn.
use Rattle.std.proofs.Common.{◌≡◌, ℕ, ◌+◌, ◌<◌, ◌≤◌, Bool, true, false, List, [], ◌∷◌, ◌++◌, length, refl, sym, ap, ◌∙◌, subst, arith, length-append}
use Rattle.std.specs.Prelude.{◌==◌, nat_le, None, Some, if◌then◌else◌}
use Rattle.std.proofs.Math.Nat.{mul-le-mul_left}
use Rattle.rt_base.specs.declared.TheConstants.{MOST_STEPS}
use Rattle.rt_task.specs.declared.Act.{Act}
use Rattle.rt_task.specs.declared.Act.TheVariants as acts
use Rattle.rt_task.specs.declared.Drive.{Drive}
use Rattle.rt_task.specs.declared.Drive.TheVariants.{Steps, Horizon}
use Rattle.rt_task.specs.declared.Parts.{Parts}
use Rattle.rt_task.specs.declared.Step.{Step}
use Rattle.rt_task.specs.Validity.{IsValid}
use Rattle.rt_rules.specs.declared.history.Entry.{Entry}
use Rattle.rt_model.specs.Group.{Group}
use Rattle.rt_model.specs.Histories.{after, past_of, reply_to}
use Rattle.rt_model.specs.Past.{Past}
use Rattle.rt_model.specs.Situations.{next_act, situation}
use Rattle.rt_model.specs.Steps.{IsActOf, IsStepOf}
use Rattle.rt_model.proofs.Steps.{past_of-append}
use Rattle.rt_plays.specs.Drives.{horizon}
use Rattle.rt_plays.specs.Homes.{IsProcessorOf}
use Rattle.rt_plays.specs.NextSteps.{step_at}
use Rattle.rt_plays.specs.Plays.{IsBegunPlay}
use Rattle.rt_plays.specs.Room.{room}
use Rattle.rt_plays.proofs.PlayLaws.{play-fits}
use Rattle.rt_plays.specs.Drives.{gives_steps}
use Rattle.rt_plays.specs.Groups.{GroupHistory, group_of, past, with_entry, IsGroupOf}
use Rattle.body_play.proofs.ValidBodies.{next-fits}
use Rattle.cpu_site.specs.declared.progress.Progress.{Progress}
use Rattle.cpu_site.specs.Playing.{IsFar, IsFarBy, IsNextEntry, IsNextStep, IsOver, IsPlaying}
use Rattle.cpu_site.specs.Turning.{act_after, IsAtTurn, IsTurnDone}
use Rattle.cpu_site.proofs.Drives.{begun-next, far-turns, next-turn, over-turns}
use Rattle.rt_plays.proofs.GroupLimits.{processor-some, turns-few}
use Rattle.cpu_site.proofs.Turning.{comes, turn-done, turn-given, turns-ended, Comes}

-- the act that comes is one of the group
act-fits : (g : Group) → IsValid g.setup → (q steps : ℕ) (past : Past) (act : Act) → act_after g q steps past ≡ Some act → IsActOf g act
act-fits g valid q steps past act = by_case (steps == 0) (steps == 1) (nat_le 18 steps)
  where
    by_case : (first second late : Bool) → (if first then Some acts.Tick else (if second then Some acts.Irq else (if late then None else next_act g (situation g q past)))) ≡ Some act → IsActOf g act
    by_case true second late h = let same : acts.Tick ≡ act = cc in subst (IsActOf g) same tt
    by_case false true late h = let same : acts.Irq ≡ act = cc in subst (IsActOf g) same tt
    by_case false false true h = cc
    by_case false false false h = next-fits g valid (situation g q past) act h

-- a group of a valid set has few turns
pub horizon-few : (g : Group) → IsValid g.setup → IsGroupOf g.setup g.number → horizon g.setup.drive ≤ MOST_STEPS
horizon-few g valid there = omega (arith, turns-few g valid, mul-le-mul_left (horizon g.setup.drive) (processor-some g valid there))

-- nor does a processor of it give more as over
pub far-few : (g : Group) → IsValid g.setup → IsGroupOf g.setup g.number → (q : ℕ) (es : List Entry) (at : Progress) → IsFar g q es at → at.turns ≤ MOST_STEPS
far-few g valid there q es at = by_drive g.setup.drive
  where
    few : horizon g.setup.drive ≤ MOST_STEPS
    few = horizon-few g valid there

    by_drive : (drive : Drive) → IsFarBy drive g q es at → at.turns ≤ MOST_STEPS
    by_drive (Steps given) far = omega (arith, far)
    by_drive (Horizon h) far = let low = far.few in omega (arith, few, low)

module _ (h : GroupHistory) (p : Parts) (steps : List Step) (positions nexts : List ℕ) (playing : IsPlaying h p steps positions nexts) (q : ℕ) (of_g : IsProcessorOf (group_of h) q) (turns : gives_steps h.setup.drive ≡ false)
    (at : Progress) (far : IsFar (group_of h) q h.entries at) where
  is_at : IsAtTurn (group_of h) q (past h) at
  is_at = (far-turns (group_of h) q h.entries at turns).0 far

  -- no turn is left
  pub all-over : horizon h.setup.drive ≤ at.turns → IsOver (group_of h) q h.entries × (at.turns ≡ horizon h.setup.drive)
  all-over high =
      let ended = turns-ended (group_of h) q (past h) at is_at high in
      (over-turns (group_of h) q h.entries turns ended.0, ended.1)

  module _ (left : at.turns < horizon h.setup.drive) where
    -- the turn is over
    pub one-over : act_after (group_of h) q at.steps (past h) ≡ None → IsTurnDone (group_of h) q at.turns (past h) × IsFar (group_of h) q h.entries (record { turns = at.turns + 1; steps = 0 })
    one-over none =
        let done = turn-done (group_of h) q (past h) at is_at left none in
        (done, (far-turns (group_of h) q h.entries (record { turns = at.turns + 1; steps = 0 }) turns).1 (turn-given (group_of h) q at.turns h.entries done))

    module _ (act : Act) (there : act_after (group_of h) q at.steps (past h) ≡ Some act) where
      abbrev step : Step
      step = step_at q at.turns act

      come : Comes (group_of h) q (past h) at is_at left act
      come = comes (group_of h) q (past h) at is_at left act there

      pub step-of : IsStepOf (group_of h) step
      step-of = record {
        processor = of_g;
        tick = let few = horizon-few (group_of h) playing.playable.valid playing.playable.there in omega (arith, left, few);
        act = act-fits (group_of h) playing.playable.valid q at.steps (past h) act there;
      }

      module _ (e : Entry) (step_is : e.step ≡ step) (reply_is : e.reply ≡ reply_to (group_of h) e.step (past h)) where
        pub next-entry : IsNextEntry h at.turns q e
        next-entry = record {
          own = ap (λ (s : Step). s.cpu.0) step_is;
          next = subst (λ (s : Step). IsNextStep (group_of h) at.turns q h.entries s) (sym step_is) (next-turn (group_of h) at.turns q h.entries step turns come.next refl);
          reply = reply_is;
        }

        begun-more : IsBegunPlay (group_of h) (h.entries ++ e ∷ [])
        begun-more = begun-next (group_of h) at.turns q h.entries e playing.begun next-entry.own of_g next-entry.next reply_is

        low : length h.entries < room (group_of h)
        low = let few = play-fits (group_of h) (h.entries ++ e ∷ []) begun-more in omega (arith, few, length-append h.entries (e ∷ []))

        pub playing-on : IsPlaying (with_entry e h) p steps positions nexts
        playing-on = record {
          playable = playing.playable;
          setup_is = playing.setup_is;
          steps_are = playing.steps_are;
          begun = begun-more;
          room_is = omega (arith, low, playing.room_is, length-append h.entries (e ∷ []));
          all_cpus = playing.all_cpus;
          all_steps = playing.all_steps;
          at = λ gives. (let wrong : true ≡ false = sym gives ∙ turns in cc);
          next = playing.next;
        }

        pub far-on : IsFar (group_of h) q (h.entries ++ e ∷ []) (record { turns = at.turns; steps = at.steps + 1 })
        far-on =
            let now : past_of (group_of h) (h.entries ++ e ∷ []) ≡ after (group_of h) step (past h) = past_of-append (group_of h) h.entries e ∙ ap (λ (s : Step). after (group_of h) s (past h)) step_is in
            (far-turns (group_of h) q (h.entries ++ e ∷ []) (record { turns = at.turns; steps = at.steps + 1 }) turns).1 (rw now come.far)

      -- there was room for it
      pub has-room : 0 < h.spare
      has-room =
          let e : Entry = record { step = step; reply = reply_to (group_of h) step (past h) } in
          let few = low e refl refl in
          omega (arith, few, playing.room_is)
