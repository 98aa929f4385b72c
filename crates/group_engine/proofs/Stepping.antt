-- One step of the engine: what its moves rest on, and that what is kept stays sound.
use Rattle.std.proofs.Common.{◌≡◌, ℕ, ◌+◌, ◌-◌, ◌<◌, ◌≤◌, Bool, List, [], ◌∷◌, ◌++◌, length, refl, sym, ap, ◌∙◌, subst, arith, length-append}
use Rattle.std.proofs.lemmas.List.Elements.{All-push}
use Rattle.std.specs.Prelude.{None, Option}
use Rattle.rt_base.specs.declared.TaskNo.{TaskNo}
use Rattle.rt_base.specs.declared.TheConstants.{MOST_STEPS}
use Rattle.rt_task.specs.declared.Parts.{Parts}
use Rattle.rt_task.specs.declared.Step.{Step}
use Rattle.rt_task.specs.Validity.{IsValid}
use Rattle.rt_rules.specs.declared.history.Entry.{Entry}
use Rattle.rt_model.specs.Group.{Group}
use Rattle.rt_model.specs.Histories.{after, past_from, past_of, reply_to}
use Rattle.rt_model.specs.Past.{Clock, Past, entries_in}
use Rattle.rt_model.specs.Steps.{IsStepOf}
use Rattle.rt_model.proofs.Steps.{IsLegal-append, after-acted, past_of-append, reply_to-lem}
use Rattle.rt_plays.specs.Homes.{IsProcessorOf}
use Rattle.rt_plays.specs.Groups.{GroupHistory, IsGroupOf, group_of}
use Rattle.rt_plays.specs.Endings.{ended_last}
use Rattle.cluster_table.specs.Marks.{Marks}
use Rattle.group_core.specs.declared.looks.Answer.{Answer}
use Rattle.group_engine.specs.declared.state.GroupState.{GroupState}
use Rattle.group_engine.specs.Moments.{CanActOn, CanMove, HasActed, IsPlayed}
use Rattle.group_core.specs.Words.{GroupAt}
use Rattle.group_engine.specs.Links.{StayLinked}
use Rattle.group_engine.specs.Sound.{Extent, IsEngine, IsMoved, IsSound}
use Rattle.group_engine.specs.State.{IsAt}
use Rattle.group_engine.proofs.LinksKept.{marked-entry, stay-both}

pub entries_in-from : (g : Group) (es : List Entry) (past : Past) → entries_in (past_from g past es) ≡ length es + entries_in past
unfolding past_from after
entries_in-from g [] past = omega arith
entries_in-from g (e ∷ es) past = let h = entries_in-from g es (after g e.step past) in omega (arith, h)

-- the steps in a history's past are its entries
pub entries_in-past_of : (g : Group) (es : List Entry) → entries_in (past_of g es) ≡ length es
unfolding past_of
entries_in-past_of g es = let h = entries_in-from g es [] in omega (arith, h)

pub played : (p q : Parts) (n : ℕ) → p ≡ q → IsValid p → IsGroupOf q n → IsPlayed (record { setup = p; number = n })
played p q n same valid there = record {
  valid = valid;
  is_there = subst (λ (r : Parts). IsGroupOf r n) (sym same) there;
}

pub sound-open : (g : Group) (room : ℕ) (s : GroupState) → IsPlayed g → room ≤ MOST_STEPS → s.core.room ≡ room → IsAt g [] s → IsSound g [] room s
unfolding past_of past_from
sound-open g room s plays limit arrivals kept = record {
  played = plays;
  limit = limit;
  within = omega arith;
  arrivals = omega (arith, arrivals);
  kept = kept;
  legal = tt;
  steps = λ k d low. absurd (omega (arith, low));
}

-- before the first entry no job has ended
pub ended-first : (g : Group) → None ≡ ended_last g (past_of g [])
unfolding past_of past_from
ended-first g = refl

-- what holds of the group that contracts see holds of the group inside
pub at_home : (h h' : GroupHistory) (q : ℕ) → h ≡ h' → IsProcessorOf (group_of h') q → IsProcessorOf (group_of h) q
at_home h h' q same there = subst (λ (x : GroupHistory). IsProcessorOf (group_of x) q) (sym same) there

module _ (g : Group) (es : List Entry) (room : ℕ) (state : GroupState) (sound : IsSound g es room state) where
  abbrev pub moment : GroupAt
  moment = record { group = g; past = past_of g es }

-- a step of the group that contracts see
module _ (h h' : GroupHistory) (same : h ≡ h') (room : ℕ) (state : GroupState) (sound : IsSound (group_of h) h.entries room state)
    (step : Step) (of' : IsStepOf (group_of h') step) (parts : Parts) (parts_are : parts ≡ h.setup) where
  of : IsStepOf (group_of h) step
  of = subst (λ (x : GroupHistory). IsStepOf (group_of x) step) (sym same) of'

  abbrev here : GroupAt
  here = moment (group_of h) h.entries room state sound

  may_move : CanMove here step.tick.0 parts state
  may_move = record { played = sound.played; kept = sound.kept; parts_are = parts_are; tick_low = of.tick }

  pub can_move : (at : GroupAt) × CanMove at step.tick.0 parts state
  can_move = (here, may_move)

  -- the clock has moved
  pub has_moved : (moved : GroupState) → h.spare ≡ room - length h.entries → 0 < h'.spare
      → ((at : GroupAt) → CanMove at step.tick.0 parts state → IsAt at.group (Clock step.tick.0 ∷ at.past) moved) → moved.core.room ≡ state.core.room
      → IsMoved (record { group = group_of h; room = room }) step parts h.entries moved
  has_moved moved spare more moves arrivals = record {
    before = state;
    sound = sound;
    parts_are = parts_are;
    step_is_of = of;
    spare = (let shown = ap (λ (x : GroupHistory). x.spare) same in omega arith);
    kept = moves here may_move;
    arrivals = arrivals;
  }

-- the act after that
module _ (at : Extent) (step : Step) (parts : Parts) (es : List Entry) (moved : GroupState) (m : IsMoved at step parts es moved) where
  abbrev pub at_tick : GroupAt
  at_tick = record { group = at.group; past = Clock step.tick.0 ∷ past_of at.group es }

  pub can_act : CanActOn at_tick step.cpu.0 step.act parts moved
  can_act = record {
    can = record {
      played = m.sound.played;
      kept = m.kept;
      inside = m.step_is_of.processor;
      act_is_of = m.step_is_of.act;
      few = omega (arith, m.spare, m.sound.limit, entries_in-past_of at.group es);
    };
    parts_are = m.parts_are;
  }

  pub has_room : 0 < moved.core.room
  has_room = omega (arith, m.arrivals, m.sound.arrivals, m.spare)

  pub reply-is : (told : Answer) (s : GroupState) → HasActed at_tick step.cpu.0 step.act told s → told.reply ≡ reply_to at.group step (past_of at.group es)
  reply-is told s acted = acted.reply_is ∙ sym (reply_to-lem at.group step (past_of at.group es))

  pub sound-step : (told : Answer) (s : GroupState) → moved.core.room ≤ s.core.room + 1
      → HasActed at_tick step.cpu.0 step.act told s → IsSound at.group (es ++ record { step = step; reply = told.reply } ∷ []) at.room s
  sound-step told s arrivals acted = record {
    played = m.sound.played;
    limit = m.sound.limit;
    within = omega (arith, m.spare, length-append {A = Entry});
    arrivals = omega (arith, m.sound.arrivals, m.arrivals, arrivals, length-append {A = Entry});
    kept = rw (past_of-append, after-acted) acted.kept;
    legal = IsLegal-append at.group es _ m.sound.legal (reply-is told s acted);
    steps = All-push (λ (e : Entry). IsStepOf at.group e.step) es _ m.sound.steps m.step_is_of;
  }

  -- the task whose job it ended
  pub ended-is : (told : Answer) (s : GroupState) → HasActed at_tick step.cpu.0 step.act told s
      → told.ended ≡ ended_last at.group (past_of at.group (es ++ record { step = step; reply = told.reply } ∷ []))
  ended-is told s acted = rw (past_of-append, after-acted) acted.ended_is

-- the engine once the act is answered and its entry added
pub stepped : {at : Extent} {step : Step} {parts : Parts} {es es' : List Entry} {taken : ℕ} {s moved s' : GroupState} {ended : Option (TaskNo × Bool)} (e : Entry) (a b c : Marks)
    → IsMoved at step parts es moved → IsSound at.group es at.room s
    → ((to : Extent) → IsMoved to step parts es moved → IsSound to.group es' to.room s')
    → ((to : Extent) → IsMoved to step parts es moved → ended ≡ ended_last to.group (past_of to.group es'))
    → es' ≡ es ++ e ∷ [] → StayLinked a b s moved → StayLinked b c moved s' → taken ≡ length es → IsEngine at.group es' at.room (taken + 1) s' ended c
stepped {at} {es = es} {s = s} {moved} {s'} e a b c m was sound ended entry first second taken_is = record {
  sound = sound at m;
  taken_is = omega (arith, taken_is, ap length entry, length-append es (e ∷ []));
  ended_is = ended at m;
  placed_are = rw entry (marked-entry at.group es e s s' a c was.kept (rw entry at (sound at m).kept) (stay-both a b c s moved s' first second));
}
