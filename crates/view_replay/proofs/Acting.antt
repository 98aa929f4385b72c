-- The act of a step, between whose two moves a group stands.
use Rattle.std.proofs.Common.{◌≡◌, ◌∙◌, ℕ, ◌∷◌, refl, sym, ap, subst}
use Rattle.std.specs.Prelude.{List, Option, None, Some}
use Rattle.rt_task.specs.declared.Act.{Act}
use Rattle.rt_task.specs.declared.Parts.{Parts}
use Rattle.rt_task.specs.declared.Step.{Step}
use Rattle.rt_rules.specs.declared.history.Reply.{Reply}
use Rattle.rt_rules.specs.SemState.{Frees}
use Rattle.rt_model.specs.Answers.{answer}
use Rattle.rt_model.specs.Group.{Group}
use Rattle.rt_model.specs.Histories.{after, clock_moved, reply_to}
use Rattle.rt_model.specs.Outcomes.{ended, past_act}
use Rattle.rt_model.specs.Past.{Acted, Past, PastAct}
use Rattle.rt_model.specs.Runs.{runs}
use Rattle.rt_model.specs.Steps.{IsStepOf}
use Rattle.rt_model.proofs.Steps.{reply_to-lem}
use Rattle.rt_plays.specs.Endings.{ended_last}
use Rattle.rt_changes.specs.CountLaws.{act_of}
use Rattle.rt_changes.specs.Tallies.{AreWaiters, Waiter, act_by}
use Rattle.block_counts.specs.GroupRequests.{IsBetween, NamesKnown}
use Rattle.group_core.specs.Listing.{AreListed, AreWaitersAt, GroupAt}
use Rattle.trace_text.proofs.BlockLines.{names-known}
use Rattle.view_replay.specs.declared.replay.Replay.{Replay}
use Rattle.view_replay.specs.Replays.{IsMoved, ended_number, group_of}

module _ (v : Replay) (step : Step) (past : Past) (moved : IsMoved v step.tick.0 past) where
  abbrev g : Group
  g = group_of v

  -- who asks for a semaphore, and which, are the set's
  pub names-there : (o : Option ℕ) → o ≡ runs step.cpu.0 (clock_moved step past) → IsStepOf g step → NamesKnown v.blocks.setup step.act o
  names-there o is of =
      let known : NamesKnown g.setup step.act o = subst (NamesKnown g.setup step.act) (sym is) (names-known g step.cpu.0 step.act moved.whole.valid moved.ranked.core_at.reachable of.act) in
      subst (λ (p : Parts). NamesKnown p step.act o) (sym (ap (λ (x : Group). x.setup) moved.whole.group_is)) known

  abbrev between : GroupAt
  between = record { group = g; past = clock_moved step past }

  -- the reply, what runs and who waits are as the definitions have it
  pub told-between : (reply : Reply) (o : Option ℕ) (ws : List Waiter) → reply ≡ reply_to g step past → o ≡ runs step.cpu.0 (clock_moved step past) → AreWaitersAt between step.cpu.0 step.act ws
      → IsBetween v.blocks past (record { step = step; reply = reply }) o ws
  told-between reply o ws told is wait = record {
    reply_is = told ∙ ap (λ (x : Group). reply_to x step past) (sym moved.whole.group_is);
    runs_is = is;
    waiting = subst (λ (x : Group). (t s : ℕ) → act_of x step past ≡ Frees t s → AreWaiters x s (clock_moved step past) ws) (sym moved.whole.group_is) own;
  }
    where
      own : (t s : ℕ) → act_of g step past ≡ Frees t s → AreWaiters g s (clock_moved step past) ws
      own t s frees =
          let freed = ap (λ (r : Reply). act_by step.act r (runs step.cpu.0 (clock_moved step past))) (sym (reply_to-lem g step past)) ∙ frees in
          subst (λ a. AreListed g (clock_moved step past) a ws) freed wait

-- the number of the task whose job an act ended
number-ended : (g : Group) (d : PastAct) (past : Past) → ended_number (ended_last g (Acted d ∷ past)) ≡ d.ended
number-ended g d past = by_case d.ended
  where
    by_case : (o : Option ℕ) → ended_number (ended_last g (Acted (record d { ended = o }) ∷ past)) ≡ o
    by_case None = refl
    by_case (Some t) = refl

pub ended-after : (g : Group) (step : Step) (past : Past) → ended_number (ended_last g (after g step past)) ≡ ended g step.cpu.0 step.act (clock_moved step past)
unfolding after past_act
ended-after g step past = number-ended g (past_act g step.cpu.0 step.act (clock_moved step past)) (clock_moved step past)

-- an act by its parts
pub act-by : (g : Group) (q : ℕ) (act : Act) (past : Past) (task : Option ℕ) (reply : Reply) (o : Option ℕ) → task ≡ runs q past → reply ≡ answer g q act past → o ≡ ended g q act past
    → let d : PastAct = record { cpu = q; act = act; task = task; reply = reply; ended = o } in d ≡ past_act g q act past
unfolding past_act
act-by g q act past task reply o runs_is reply_is ended_is = λ i. record { cpu = q; act = act; task = runs_is i; reply = reply_is i; ended = ended_is i }

-- the reply of an act of a step
pub reply-of : (g : Group) (d : PastAct) (step : Step) (past : Past) → d ≡ past_act g step.cpu.0 step.act (clock_moved step past) → d.reply ≡ reply_to g step past
unfolding past_act
reply-of g d step past is = ap (λ (x : PastAct). x.reply) is ∙ sym (reply_to-lem g step past)
