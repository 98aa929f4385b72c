-- What a processor's next act depends on, read off what is kept.
use Rattle.std.specs.Prelude.{◌≡◌, ℕ, Bool, true, false, not, Option, None, Some, option_map}
use Rattle.rt_task.specs.RuleWords.{is_p_res}
use Rattle.rt_rules.specs.declared.history.Situation.{Situation}
use Rattle.rt_rules.specs.Numbers.{has, same}
use Rattle.rt_model.specs.Group.{Group, group_processors, served_by}
use Rattle.rt_model.specs.Links.{linked}
use Rattle.rt_model.specs.Reservations.{left}
use Rattle.rt_model.specs.Runs.{runs}
use Rattle.rt_model.specs.Situations.{situation, task_no}
use Rattle.rt_laws.specs.EveryPast.{EveryPast}
use Rattle.group_jobs.specs.Kept.{Kept, IsKept, job_of, cpu_of}
use Rattle.group_jobs.specs.Replies.{lacks, np_of}

-- the ops_done of what runs in its body, and whether it lacks budget
abbrev pub ops_done_of : Kept → Option ℕ → ℕ
ops_done_of k None = 0
ops_done_of k (Some t) = (job_of k t).ops_done

module _ (g : Group) where
  abbrev pub lacks_of : Option ℕ → ℕ → Bool
  lacks_of None budget = false
  lacks_of (Some t) budget = lacks g.setup.plugin budget

  -- of a processor with this link, and this left of the reservation of the task that it runs
  abbrev pub situation_of : ℕ → Option ℕ → ℕ → Kept → Situation
  situation_of q link budget k =
      let running = (cpu_of k q).runs in
      record {
        runs = option_map task_no running;
        at = ops_done_of k running;
        np = np_of k running;
        pending = not (same link running);
        worked = same (cpu_of k q).worked (Some k.clock);
        budget = not (lacks_of running budget);
      }

abbrev pub SituationIsRead : Type 0
SituationIsRead = EveryPast (λ g past. (q : ℕ) (budget : ℕ) (k : Kept) → has q (group_processors g) ≡ true
    → ((t : ℕ) → runs q past ≡ Some t → is_p_res g.setup.plugin ≡ true → budget ≡ left g (served_by g t) past) → IsKept g past k
    → situation_of g q (linked g q past) budget k ≡ situation g q past)
