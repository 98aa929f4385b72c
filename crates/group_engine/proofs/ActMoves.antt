-- The state after an act: what its calls rest on, and where it leads once the tasks that it touched are looked at.
use Rattle.std.proofs.Common.{◌≡◌, ℕ, ◌+◌, ◌-◌, ◌<◌, ◌≤◌, true, false, List, length, sym, ap, ◌∙◌, subst, arith}
use Rattle.std.specs.Prelude.{Option}
use Rattle.rt_task.specs.declared.Act.{Act}
use Rattle.rt_task.specs.declared.Parts.{Parts}
use Rattle.rt_rules.specs.declared.history.Reply.{Reply}
use Rattle.rt_rules.specs.Numbers.{has}
use Rattle.rt_model.specs.Answers.{answer}
use Rattle.rt_model.specs.Group.{Group, tasks}
use Rattle.rt_model.specs.Links.{linked}
use Rattle.rt_model.specs.Outcomes.{past_act}
use Rattle.rt_model.specs.Past.{Acted, Event, Past}
use Rattle.rt_model.specs.Runs.{runs}
use Rattle.rt_plays.specs.Endings.{ended_in}
use Rattle.group_jobs.specs.Facts.{CpuFacts}
use Rattle.group_jobs.specs.FactMoves.{with_act}
use Rattle.group_jobs.specs.Kept.{IsOfGroup, cpu_of}
use Rattle.group_jobs.specs.Timers.{timer_at}
use Rattle.group_jobs.proofs.TimerSets.{timers_are_renewed}
use Rattle.group_core.specs.Words.{CanList, GroupAt}
use Rattle.group_core.specs.Facts.{Facts, IsPlainAct, MayAct, WithRoom, acted, ended_now, looked_in, reply_in}
use Rattle.group_core.specs.Facts as moves
use Rattle.group_core.specs.Standing as core
use Rattle.group_core.specs.Standing.{LooksSame}
use Rattle.group_core.proofs.Acts.{at-acted, can_act, ended-is, fit-acted, looked-are, may_act, others-look, plain, reply-is, step-inside}
use Rattle.group_core.proofs.Asking.{can-list as core-can-list}
use Rattle.group_engine.specs.declared.state.GroupState.{GroupState}
use Rattle.group_engine.specs.Ending.{IsEnding}
use Rattle.group_engine.specs.Moments.{CanAct, CanActOn}
use Rattle.group_engine.specs.State.{IsFitAt, acts_left}
use Rattle.group_engine.specs.inside.Touching.{AreNumbered, CanUpdateRun, all_updated, with_run}
use Rattle.group_engine.proofs.Bounding.{can-look, number-is}
use Rattle.group_engine.proofs.Updating.{can-with_run}
use Rattle.group_engine.proofs.Following.{between-with_run, homes-with_run}
use Rattle.group_engine.proofs.Reading.{looks-alike}
use Rattle.group_engine.proofs.Running.{has_processor}
use Rattle.group_engine.proofs.Settling.{IsBetween, brought}

-- the tasks that wait can be listed between the moves of a step
pub can-list : (at : GroupAt) (q : ℕ) (act : Act) (p : Parts) (s : GroupState) (space : ℕ) → CanActOn at q act p s → length p.tasks ≤ space
    → CanList at p s.core.facts.kept s.core.facts.sems q act space
can-list at q act p s space can roomy =
    let enough : length at.group.setup.tasks ≤ space = omega (arith, roomy, ap (λ (x : Parts). length x.tasks) can.parts_are) in
    core-can-list at.group s.core.facts _ _ can.can.kept.core_fit at.past can.can.kept.core_at can.can.kept.few p can.parts_are q act can.can.inside can.can.act_is_of space enough

-- an act was answered so, and made the facts these
pub record IsAnswered (at : GroupAt) (q : ℕ) (act : Act) (s : GroupState) (reply : Reply) (x : WithRoom) : Type 0 where
  pub link : Option ℕ
  pub link_is : link ≡ linked at.group q at.past
  pub reply_is : reply ≡ reply_in at.group.setup q link act s.core.facts
  pub facts_are : x.facts ≡ acted at.group.setup q act reply s.core.facts

module _ (at : GroupAt) (q : ℕ) (act : Act) (s : GroupState) (can : CanAct at q act s) where
  abbrev g : Group
  g = at.group

  abbrev past : Past
  past = at.past

  abbrev f : Facts
  f = s.core.facts

  abbrev left : ℕ
  left = acts_left past

  of : IsOfGroup g q act
  of = step-inside g q act can.inside can.act_is_of

  some : 0 < left
  some = let few = can.few in omega (arith, few)

  -- ---- what the call rests on

  pub core-can-act : moves.CanAct g.setup q f
  core-can-act = can_act g f left left can.kept.core_fit past can.kept.core_at q act of can.act_is_of some

  pub is-plain : IsPlainAct g.setup act
  is-plain = plain g f left left can.kept.core_fit past can.kept.core_at q act of can.act_is_of

  pub core-may-act : MayAct g.setup q act f
  core-may-act = may_act g f left left can.kept.core_fit past can.kept.core_at q act of can.act_is_of

  -- ---- answered so, with these facts after it
  module _ (reply : Reply) (x : WithRoom) (told : IsAnswered at q act s reply x) where
    abbrev event : Event
    event = Acted (past_act g q act past)

    abbrev past' : Past
    past' = with_act g q act past

    abbrev us : List ℕ
    us = looked_in g.setup q act reply f

    pub told-is : reply ≡ answer g q act past
    told-is = told.reply_is ∙ reply-is g f left left can.kept.core_fit past can.kept.core_at q act of can.act_is_of told.link told.link_is

    pub ended-told : ended_now g.setup q act reply f ≡ ended_in g (past_act g q act past) past
    ended-told = ap (λ (r : Reply). ended_now g.setup q act r f) told.reply_is ∙ ended-is g f left left can.kept.core_fit past can.kept.core_at q act of can.act_is_of told.link told.link_is

    facts-are : x.facts ≡ acted g.setup q act (reply_in g.setup q told.link act f) f
    facts-are = told.facts_are ∙ ap (λ (r : Reply). acted g.setup q act r f) told.reply_is

    moved : core.IsMoved g event past f.resvs x.facts
    moved = subst (core.IsMoved g event past f.resvs) (sym facts-are) (at-acted g f left left can.kept.core_fit past can.kept.core_at q act of can.act_is_of told.link told.link_is)

    fit : IsFitAt g past' x.facts
    fit =
        let less : left - 1 ≡ acts_left past' = let few = can.few in omega (arith, few) in
        let few : left ≤ acts_left past' + 1 = omega (arith, less) in
        let all = fit-acted g f left left can.kept.core_fit past can.kept.core_at q act of can.act_is_of told.link told.link_is (acts_left past') some few in
        subst (λ n. core.IsFit g x.facts (acts_left past') n) less (subst (λ (y : Facts). core.IsFit g y (acts_left past') (left - 1)) (sym facts-are) all)

    runs-now : (cpu_of x.facts.kept q).runs ≡ runs q past'
    runs-now = ap (λ (c : CpuFacts). c.runs) (moved.kept.cpus_are q can.inside)

    inside : (u : ℕ) → has u us ≡ true → has u (tasks g) ≡ true
    inside u h = looked-are g f left left can.kept.core_fit past can.kept.core_at q act of can.act_is_of told.link told.link_is u (subst (λ (r : Reply). has u (looked_in g.setup q act r f) ≡ true) told.reply_is h)

    others : (u : ℕ) → has u us ≡ false → LooksSame g u past past'
    others u h = others-look g f left left can.kept.core_fit past can.kept.core_at q act of can.act_is_of told.link told.link_is u (subst (λ (r : Reply). has u (looked_in g.setup q act r f) ≡ false) told.reply_is h)

    -- ---- the clusters follow what the processor runs, and the tasks are looked at

    abbrev s1 : GroupState
    s1 = record s { core = x }

    pub can-follow : CanUpdateRun q s1
    can-follow = record {
      cpu = moved.kept.cpus_room q can.inside;
      home = can.kept.homes_are.there q can.inside;
      there = has_processor g q can.inside past s can.kept;
    }

    pub can-looks : AreNumbered g.setup us (with_run q act reply s1)
    can-looks t h = (can-with_run g.setup q act reply t s1 (can-look g past s can.kept x (acts_left past') (acts_left past') fit t (inside t h)), number-is g can.played.valid t (inside t h))

    between : IsBetween g event past us (with_run q act reply s1)
    between = record {
      few = let few = can.few in omega (arith, few);
      before = f.resvs;
      moved = moved;
      fit = fit;
      timers_are = timers_are_renewed us (tasks g) (timer_at g past) (timer_at g past') s.timers inside (λ t h k. sym (others t k).timer_same) can.kept.timers_are;
      homes_are = rw (homes-with_run q act reply (cpu_of x.facts.kept q).runs s.clusters) can.kept.homes_are;
      clusters_are = between-with_run g q can.inside past s can.kept act can.act_is_of reply told-is (cpu_of x.facts.kept q).runs runs-now;
      inside = inside;
      others = λ t h k. looks-alike g t past past' h (others t k);
    }

    pub ending-act : IsEnding g past' (all_updated g.setup us (with_run q act reply s1))
    ending-act = brought g can.played event past us (with_run q act reply s1) between
