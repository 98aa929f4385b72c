-- Which tasks are under way after an act, as it is kept.
use Rattle.std.proofs.Common.{◌≡◌, ℕ, ◌-◌, Bool, true, false, List, refl, sym, ap}
use Rattle.std.specs.Prelude.{Option, None, Some, if◌then◌else◌, is_some, option_map, slice_set}
use Rattle.rt_base.specs.declared.TaskNo.{TaskNo}
use Rattle.rt_task.specs.declared.Act.{Act}
use Rattle.rt_task.specs.declared.Act.TheVariants as acts
use Rattle.rt_task.specs.declared.Parts.{Parts}
use Rattle.rt_rules.specs.declared.history.Reply.{Reply}
use Rattle.rt_model.specs.Past.{accepted}
use Rattle.group_jobs.specs.Kept.{Kept}
use Rattle.group_jobs.specs.Ways.{way_after, way_of, ways_after}
use Rattle.group_core.specs.Facts.{ended_by, ends_by, ends_in, late_in}

some-if : (b : Bool) (x : TaskNo × Bool) → is_some (if b then Some x else None) ≡ b
some-if true x = refl
some-if false x = refl

pub some-mapped : {A B : Type 0} (f : A → B) (o : Option A) → is_some (option_map f o) ≡ is_some o
some-mapped f None = refl
some-mapped f (Some x) = refl

-- an act ends a job where a job is told that it ended
pub ways-as : (p : Parts) (act : Act) (o : Option ℕ) (reply : Reply) (none : Bool) (k : Kept) (ways : List Bool)
    → ways_after act o reply (ends_by p act o none k) ways ≡ ways_after act o reply (is_some (if accepted reply then ended_by p act o none k else None)) ways
ways-as p acts.Tick o reply none k ways = refl
ways-as p acts.Irq o reply none k ways = refl
ways-as p (acts.Arrive t) o reply none k ways = refl
ways-as p (acts.Do op) None reply none k ways = refl
ways-as p (acts.Do op) (Some t) reply none k ways = by_case (accepted reply)
  where
    by_case : (b : Bool) → (if b then slice_set ways (t - 1) (way_after (ends_in p op t k none) op (way_of ways t)) else ways)
        ≡ (if b then slice_set ways (t - 1) (way_after (is_some (if b then ended_by p (acts.Do op) (Some t) none k else None)) op (way_of ways t)) else ways)
    by_case true = ap (λ b. slice_set ways (t - 1) (way_after b op (way_of ways t))) (sym (some-if (ends_in p op t k none) (record { 0 = t }, late_in p t k)))
    by_case false = refl
