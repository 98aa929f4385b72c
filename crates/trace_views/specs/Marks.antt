-- The marks of a task in a column: a release and a deadline, whether that was missed, and the end of a job.
use Rattle.std.specs.List.{list_any}
use Rattle.std.specs.Prelude.{ℕ, zero, suc, ◌+◌, ◌-◌, Bool, ◌&&◌, nat_le, nat_lt}
use Rattle.rt_rules.specs.Numbers.{is, numbers_from}
use Rattle.rt_model.specs.Group.{Group}
use Rattle.rt_model.specs.Past.{Past, ends_job, now}
use Rattle.trace_views.specs.Columns.{Column}
use Rattle.trace_views.specs.Due.{released_by, due_before}
use Rattle.trace_views.specs.JobMoves.{count_moves}
use Rattle.trace_views.specs.JobTimes.{deadline_of}
use Rattle.trace_views.specs.Moments.{Moment}

pub record Marks : Type 0 where
  pub release : Bool
  pub deadline : Bool
  pub missed : Bool
  pub end : Bool

-- how many jobs of a task have ended by a clock
unfoldable pub ended_by : ℕ → ℕ → Past → ℕ
ended_by t clock past = count_moves (λ e before. ends_job t e && nat_le (now before) clock) past

module _ (g : Group) where
  -- how many jobs are released before a clock
  abbrev pub released_before : ℕ → ℕ → Past → ℕ
  released_before t zero past = 0
  released_before t (suc clock) past = released_by g t clock past

  -- job k is missed: by its deadline, which is over, fewer than k jobs have ended
  abbrev pub is_missed : ℕ → Past → ℕ → Bool
  is_missed t past k = nat_lt (ended_by t (deadline_of g t k past) past) k && nat_lt (deadline_of g t k past) (now past)

  -- a release stands at the left edge, from the column's first clock to its last; a deadline and an end at the right, a deadline from
  -- the last clock up to where the next column begins
  unfoldable pub marks : Past → ℕ → Column → Marks
  marks past t c =
      let before = due_before g t c.high past in
      let due = due_before g t c.next past in
      record {
        release = nat_lt (released_before t c.first past) (released_by g t c.high past);
        deadline = nat_lt before due;
        missed = list_any (is_missed t past) (numbers_from (before + 1) (due - before));
        end = list_any (λ (m : Moment). is t m.act.ended) c.acts;
      }
