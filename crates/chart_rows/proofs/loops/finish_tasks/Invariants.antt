use Rattle.std.proofs.Common.{◌≡◌, map, take}
use Rattle.rt_rules.specs.Distinct.{IsDistinct}
use Rattle.rt_model.specs.Group.{Group}
use Rattle.chart_rows.specs.Listed.{tasks_listed}
use Rattle.chart_rows.specs.inside.Plays.{played_shown}
use Rattle.chart_rows.proofs.Finishing.{finished_by}
use Rattle.chart_rows.proofs.loops.finish_tasks.Given as goal

-- those are finished that the processors so far run
abbrev pub invariant-loop-played : goal.invariant-loop-played
invariant-loop-played l = (g : Group) → IsDistinct (tasks_listed l.fn.tasks) → l.tasks ≡ map (finished_by g (map played_shown l.plays) (map played_shown (take l.played-index l.plays))) l.fn.tasks
