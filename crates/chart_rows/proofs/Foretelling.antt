-- A unit that is foretold: which acts can be none, and whom a reservation serves.
use Rattle.std.proofs.Common.{◌≡◌, ◌∙◌, ℕ, Bool, true, false, ◌&&◌, refl, sym, ap, eqb-true}
use Rattle.std.specs.Prelude.{◌==◌, None, Some, if◌then◌else◌}
use Rattle.rt_task.specs.declared.Act.{Act}
use Rattle.rt_task.specs.declared.Act.TheVariants as acts
use Rattle.rt_rules.specs.Numbers.{has, is}
use Rattle.rt_rules.proofs.BoolLaws.{and_false}
use Rattle.rt_rules.proofs.MemberLaws.{equal_self, has-filter}
use Rattle.rt_model.specs.Answers.{answer, do_answer}
use Rattle.rt_model.specs.Group.{Group, clients, served_by, tasks}
use Rattle.rt_model.specs.Outcomes.{past_act}
use Rattle.rt_model.specs.Past.{Past, accepted, is_work, operation}
use Rattle.rt_model.specs.Runs.{runs}
use Rattle.trace_views.specs.Moments.{is_unit}
use Rattle.chart_texts.specs.Charts.{group_resvs}
use Rattle.chart_rows.specs.Foretold.{moment_of, server}

pub idle-none : (g : Group) (q : ℕ) (act : Act) (past : Past) → runs q past ≡ None → is_unit (moment_of g q act past) ≡ false
unfolding past_act answer do_answer
idle-none g q act past h = by_act act
  where
    by_act : (a : Act) → accepted (answer g q a past) && is_work (operation a) ≡ false
    by_act acts.Tick = refl
    by_act acts.Irq = and_false _
    by_act (acts.Arrive t) = and_false _
    by_act (acts.Do op) = rw h refl

pub other-none : (g : Group) (q : ℕ) (act : Act) (past : Past) → is_work (operation act) ≡ false → is_unit (moment_of g q act past) ≡ false
unfolding past_act
other-none g q act past h = ap (λ b. accepted (answer g q act past) && b) h ∙ and_false _

-- a reservation of the group serves a task exactly where it is the task's
pub serves : (g : Group) (t r : ℕ) → has t (tasks g) ≡ true → has r (group_resvs g) ≡ true → has t (clients g r) ≡ is r (server g t)
unfolding clients
serves g t r there listed = rw (has-filter (λ u. served_by g u == r) t (tasks g), there) (by_case (served_by g t == r) refl)
  where
    none : (b : Bool) → r == served_by g t ≡ false → false ≡ is r (if b then Some (served_by g t) else None)
    none true h = sym h
    none false h = refl

    other : served_by g t == r ≡ false → r == served_by g t ≡ false
    other h = back (r == served_by g t) refl
      where
        back : (b : Bool) → r == served_by g t ≡ b → b ≡ false
        back true m = sym (ap (λ n. served_by g t == n) (eqb-true r (served_by g t) m) ∙ equal_self (served_by g t)) ∙ h
        back false m = refl

    by_case : (b : Bool) → served_by g t == r ≡ b → b ≡ is r (server g t)
    by_case true m =
        let same = eqb-true (served_by g t) r m in
        sym (ap (λ n. is r (if has n (group_resvs g) then Some n else None)) same ∙ ap (λ b. is r (if b then Some r else None)) listed ∙ equal_self r)
    by_case false m = none (has (served_by g t) (group_resvs g)) (other m)
