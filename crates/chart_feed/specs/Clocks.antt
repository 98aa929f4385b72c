-- The clocks at which jobs of tasks arrive and end, as they are kept.
use Rattle.std.specs.Prelude.{◌≡◌, ℕ, ◌<◌, Bool, List, [], ◌∷◌, ◌++◌, length, Option, None, Some, if◌then◌else◌, slice_index_or}
use Rattle.rt_task.specs.declared.Act.{Act}
use Rattle.rt_task.specs.declared.Act.TheVariants.{Arrive}
use Rattle.rt_rules.specs.declared.history.Reply.{Reply}
use Rattle.rt_model.specs.Past.{Past, accepted}
use Rattle.rt_model.specs.Releases.{arrivals}
use Rattle.chart_feed.specs.Times.{end_clocks}

pub record ClocksKept : Type 0 where
  pub arrivals : List ℕ
  pub ends : List ℕ

abbrev pub no_clocks : ClocksKept
no_clocks = record { arrivals = []; ends = [] }

-- those of a task, of a list that begins with number 0
abbrev pub clocks_at : List ClocksKept → ℕ → ClocksKept
clocks_at ks t = slice_index_or ks t no_clocks

-- a job arrives, and one ends
abbrev pub arrived : Bool → ℕ → ClocksKept → ClocksKept
arrived b clock k = record k { arrivals = if b then (k.arrivals ++ clock ∷ []) else k.arrivals }

abbrev pub ended : Bool → ℕ → ClocksKept → ClocksKept
ended b clock k = record k { ends = if b then (k.ends ++ clock ∷ []) else k.ends }

abbrev pub arrived_by : Act → Option ℕ
arrived_by (Arrive t) = Some t.0
arrived_by _ = None

abbrev pub arrived_task : Act → Reply → Option ℕ
arrived_task act reply = if accepted reply then arrived_by act else None

-- they are of this past
abbrev pub clocks_of : ℕ → Past → ClocksKept
clocks_of t past = record { arrivals = arrivals t past; ends = end_clocks t past }

abbrev pub Keeps : List ClocksKept → Past → Type 0
Keeps ks past = (t : ℕ) → t < length ks → clocks_at ks t ≡ clocks_of t past
