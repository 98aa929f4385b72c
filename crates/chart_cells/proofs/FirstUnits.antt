-- What is kept of processors and reservations follows the units of a column, and in the end gives the cells.
use Rattle.std.proofs.Common.{◌≡◌, ◌∙◌, ℕ, Bool, true, false, List, [], ◌∷◌, ◌++◌, ◌&&◌, refl, ap}
use Rattle.std.proofs.lemmas.Grind.{reverse_onto}
use Rattle.std.specs.Prelude.{filter, unwrap_or, ◌==◌}
use Rattle.rt_model.specs.Group.{Group, clients}
use Rattle.rt_model.specs.Links.{linked}
use Rattle.rt_model.specs.Past.{Past}
use Rattle.rt_model.specs.Reservations.{left}
use Rattle.rt_model.specs.Runs.{runs}
use Rattle.trace_views.specs.Cells.{before_first, cpu_cell, is_client, newest, playing_by, resv_cell, units_of}
use Rattle.trace_views.specs.Columns.{Column}
use Rattle.trace_views.specs.Moments.{Moment, is_unit}
use Rattle.chart_cells.specs.KeptFirst.{cpu_at_end, cpu_at_unit, kept_cpu, kept_left, of_first}
use Rattle.chart_cells.specs.KeptFirstLaws.{FirstUnitsAreKept, unless_kept}
use Rattle.chart_cells.specs.KeptLaws.{with_act}

-- one unit more, behind those so far
first-pushed : {A : Type 0} (shown : Moment → A) (us : List Moment) (m : Moment) → of_first shown (us ++ m ∷ []) ≡ unless_kept (of_first shown us) (shown m)
first-pushed shown [] m = refl
first-pushed shown (u ∷ us) m = refl

units-more : (test : Moment → Bool) (c : Column) (m : Moment) → is_unit m && test m ≡ true → units_of test (with_act m c) ≡ units_of test c ++ m ∷ []
units-more test c m h = rw h (reverse_onto (filter (λ n. is_unit n && test n) c.acts) m [])

units-same : (test : Moment → Bool) (c : Column) (m : Moment) → is_unit m && test m ≡ false → units_of test (with_act m c) ≡ units_of test c
units-same test c m h = rw h refl

cpu-ends : (g : Group) (q : ℕ) (us : List Moment) (x : Past) → (record { playing = playing_by g us (runs q x); link = linked g q (before_first us x) }) ≡ unwrap_or (of_first (cpu_at_unit g q) us) (cpu_at_end g q x)
cpu-ends g q [] x = refl
cpu-ends g q (m ∷ us) x = refl

left-ends : (g : Group) (r : ℕ) (us : List Moment) (x : Past) → left g r (before_first us x) ≡ unwrap_or (of_first (λ (m : Moment). left g r m.before) us) (left g r x)
left-ends g r [] x = refl
left-ends g r (m ∷ us) x = refl

pub first_units_are_kept_lem : FirstUnitsAreKept
unfolding kept_cpu kept_left cpu_cell resv_cell
first_units_are_kept_lem = record {
  cpus = λ g q c. record {
    states = λ x. refl;
    units = λ m h. ap (of_first (cpu_at_unit g q)) (units-more (λ n. n.act.cpu == q) c m h) ∙ first-pushed (cpu_at_unit g q) (units_of (λ n. n.act.cpu == q) c) m;
    others = λ m h. ap (of_first (cpu_at_unit g q)) (units-same (λ n. n.act.cpu == q) c m h);
    ends = cpu-ends g q (units_of (λ n. n.act.cpu == q) c) (newest c.states);
  };
  lefts = λ g r c. record {
    states = λ x. refl;
    units = λ m h. ap (of_first (λ n. left g r n.before)) (units-more (λ n. is_client g (clients g r) n.act.task) c m h) ∙ first-pushed (λ n. left g r n.before) (units_of (λ n. is_client g (clients g r) n.act.task) c) m;
    others = λ m h. ap (of_first (λ n. left g r n.before)) (units-same (λ n. is_client g (clients g r) n.act.task) c m h);
    ends = left-ends g r (units_of (λ n. is_client g (clients g r) n.act.task) c) (newest c.states);
  };
}
