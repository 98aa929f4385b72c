-- A document as code keeps it.
use Rattle.std.specs.Prelude.{List, map}
use denote.Ref.{Bor}
use Rattle.serde_json.specs.Data.{Data}
use Rattle.serde_json.specs.View.{view}
use Rattle.serde_json.specs.declared.value.Value.{Value}
use Rattle.set_read.specs.Document as document
use Rattle.set_read.specs.declared.document.Play.{Play}
use Rattle.set_read.specs.declared.document.Play.TheVariants.{Steps, Horizon}
use Rattle.set_read.specs.declared.document.Whole.{Whole}

abbrev pub values_seen : Bor (List Value) → List Data
values_seen vs = map view vs.now

abbrev pub play_seen : Play → document.Play
play_seen (Steps vs) = document.steps (values_seen vs)
play_seen (Horizon h) = document.horizon h

abbrev pub whole_seen : Whole → document.Whole
whole_seen w = record {
  plugin = w.plugin;
  clusters = values_seen w.clusters;
  sems = values_seen w.sems;
  resvs = values_seen w.resvs;
  tasks = values_seen w.tasks;
  play = play_seen w.play;
}
