-- The rows of a chart, once the columns are over, are those of the definitions.
use Rattle.std.proofs.Common.{◌≡◌, ℕ, ◌<◌, Bool, List, [], ◌∷◌, map, refl, sym}
use Rattle.std.specs.List.{list_any}
use Rattle.rt_rules.specs.Numbers.{is}
use Rattle.rt_model.specs.Group.{Group, task}
use Rattle.rt_model.specs.Past.{Past, now}
use Rattle.rt_model.specs.Releases.{arrivals}
use Rattle.trace_views.specs.Cells.{task_cell}
use Rattle.trace_views.specs.Columns.{Column}
use Rattle.trace_views.specs.Marks.{marks}
use Rattle.trace_views.specs.Moments.{Moment}
use Rattle.chart_texts.specs.Charts as charts
use Rattle.chart_feed.specs.Finished.{AreTimed}
use Rattle.chart_feed.specs.inside.Marked.{marked_in}
use Rattle.chart_feed.specs.Times.{edges_of, end_clocks, marks_in}
use Rattle.chart_feed.proofs.MarkLaws.{marks-shown}

abbrev pub ended_in : ℕ → Column → Bool
ended_in t c = list_any (λ (m : Moment). is t m.act.ended) c.acts

module _ (g : Group) (t : ℕ) (past : Past) (positive : 0 < (task g t).period) where
  abbrev shown : Column → charts.Marked
  shown c = record { cell = task_cell g t c; marks = marks g past t c }

  pub marked-is : (cs : List Column) → AreTimed t past cs
      → marked_in (task g t) (arrivals t past) (end_clocks t past) (now past) (map (task_cell g t) cs) (map (ended_in t) cs) (map edges_of cs) ≡ map shown cs
  marked-is [] timed = refl
  marked-is (c ∷ cs) timed =
      let here : marks_in (task g t) (arrivals t past) (end_clocks t past) (now past) (edges_of c) (ended_in t c) ≡ marks g past t c = sym (marks-shown g t past positive c timed.0) in
      λ i. (let x : charts.Marked = record { cell = task_cell g t c; marks = here i } in x) ∷ marked-is cs timed.1 i
