-- Histories that stop short are no plays: a script without its one step, and a set without the history of its group.
use Rattle.std.specs.Prelude.{[], ◌∷◌, length, refl}
use Rattle.std.proofs.Common.{arith, ap}
use Rattle.rt_task.specs.declared.Act.TheVariants as acts
use Rattle.rt_task.specs.declared.Drive.TheVariants.{Steps}
use Rattle.rt_task.specs.declared.PluginKind.TheVariants as plugins
use Rattle.rt_model.specs.worked.Computed.{computed}
use Rattle.rt_model.specs.Group.{Group}
use Rattle.rt_plays.specs.NextSteps.{step_at}
use Rattle.rt_plays.specs.Plays.{IsPlay, ArePlays}

-- one processor, whose script is one Tick
abbrev pub one_tick : Group
one_tick = record {
  setup = record {
    plugin = plugins.GsnEdf;
    clusters = record { cpus = 1; group = record { 0 = 0 } } ∷ [];
    sems = [];
    resvs = [];
    tasks = [];
    drive = Steps (step_at 0 0 acts.Tick ∷ []);
  };
  number = 0;
}

-- each step of a script is in a play
pub no_entry_is_no_play : IsPlay one_tick [] → ⊥
unfolding computed
no_entry_is_no_play play = omega (arith, ap length (play.scripts 0 refl))

-- and each group of a set has a play
pub no_history_is_no_play : ArePlays one_tick.setup [] → ⊥
no_history_is_no_play plays = omega (arith, plays.count)
