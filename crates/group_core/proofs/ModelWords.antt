-- Whether a task is eligible, its keys and what its reservation is told, read off what is kept of a group.
use Rattle.std.proofs.Common.{◌≡◌, ◌&&◌, ℕ, Bool, true, false, refl, sym, ap, ◌∙◌}
use Rattle.std.specs.Prelude.{is_none, is_some, not, None, Option, Some}
use Rattle.rt_task.specs.Validity.{IsValid}
use Rattle.rt_rules.specs.Numbers.{has}
use Rattle.rt_model.specs.BaseKeys.{base_key}
use Rattle.rt_model.specs.EffectiveKeys.{effective_key}
use Rattle.rt_model.specs.Holders.{awaits}
use Rattle.rt_model.specs.Reachable.{IsReachable}
use Rattle.rt_model.specs.Group.{Group, task, tasks}
use Rattle.rt_model.specs.Past.{Past}
use Rattle.rt_model.specs.Tops.{eligible, is_admitted, is_served}
use Rattle.group_jobs.specs.Kept.{IsKept, Kept, job_of}
use Rattle.group_jobs.specs.Ways.{AreWays}
use Rattle.group_jobs.specs.Words.{AreRead}
use Rattle.group_jobs.proofs.KeptMoves.{task-range, words_of_kept}
use Rattle.sem_table.specs.Told.{awaits_of}
use Rattle.group_sems.specs.GroupSems.{GroupSems}
use Rattle.group_sems.specs.Kept.{KeepsBases, KeepsGroupSems, KeepsLocks}
use Rattle.group_sems.proofs.KeptKeys.{key_is_read}
use Rattle.group_sems.proofs.Reading.{holding_is_read}
use Rattle.resv_core.specs.Kept.{ready_release}
use Rattle.group_resvs.specs.GroupResvs as group_resvs
use Rattle.group_resvs.specs.GroupResvs.{GroupResvs, is_served_by, lacks_budget_of}
use Rattle.group_resvs.specs.Kept.{KeepsResvs}
use Rattle.group_resvs.specs.Laws.{IsRead}
use Rattle.group_resvs.proofs.KeptLaws.{resvs_are_read}
use Rattle.group_core.proofs.ReadingBlocked.{key_of-any}
use Rattle.group_core.specs.Reads.{AreBased, base_in, is_candidate, key_in}
use Rattle.group_core.proofs.Admitting.{admitted-read}
use Rattle.group_jobs.specs.GroupJobs.{ready_now}

-- ---- reservations

-- what is read off the reservations of each task of the group
abbrev pub AreResvsRead : Group → Past → GroupResvs → Type 0
AreResvsRead g past w = (t : ℕ) → has t (tasks g) ≡ true → IsRead g t past w

pub resvs-read : (g : Group) (past : Past) (w : GroupResvs) → IsValid g.setup → KeepsResvs g past w → AreResvsRead g past w
resvs-read g past w valid keeps = λ t there. resvs_are_read g t past w valid keeps there

-- ---- at a past

pub and-turned : (a b : Bool) → a && b ≡ b && a
and-turned true true = refl
and-turned true false = refl
and-turned false true = refl
and-turned false false = refl

none-not : {A : Type 0} (o : Option A) → is_none o ≡ not (is_some o)
none-not None = refl
none-not (Some x) = refl

module _ (g : Group) (past : Past) (k : Kept) (kept : IsKept g past k) where
  -- the base key of a task's current job
  pub base-read : (t : ℕ) → has t (tasks g) ≡ true → base_key g t past ≡ base_in g.setup k t
  base-read t there =
      let words : AreRead g t past k.clock (job_of k t) = words_of_kept g past k kept t there in
      words.key_is ∙ sym (key_of-any g g.setup.plugin t (job_of k t))

  pub keeps-bases : (v : GroupSems) → AreBased g.setup k v → KeepsBases g past v.waits.bases
  keeps-bases v based = record {
    room = based.room;
    are = λ t there. let r = task-range g t there in based.are t r.0 r.1 ∙ ap Some (sym (base-read t there));
  }

  -- the release of its job, where that is ready
  pub release-read : (t : ℕ) → has t (tasks g) ≡ true → ready_now g.setup.tasks k t ≡ ready_release g t past
  unfolding task
  release-read t there =
      let words : AreRead g t past k.clock (job_of k t) = words_of_kept g past k kept t there in
      rw (words.ready_is, words.release_is) refl

  -- of locks that are kept, with base keys that were told
  pub keeps-sems : (v w : GroupSems) → KeepsLocks g past w → v.table ≡ w.table → v.ceilings ≡ w.ceilings → v.waits.nexts ≡ w.waits.nexts → v.waits.boosts ≡ w.waits.boosts
      → AreBased g.setup k v → KeepsGroupSems g past v
  keeps-sems v w locks table ceilings nexts boosts based = record {
    locks = record {
      sems_are = rw table locks.sems_are;
      rows_are = rw table locks.rows_are;
      none_outside = rw table locks.none_outside;
      nexts_are = rw nexts locks.nexts_are;
      boosts_are = rw boosts locks.boosts_are;
      ceilings_are = rw ceilings locks.ceilings_are;
    };
    bases = keeps-bases v based;
  }

  module _ (valid : IsValid g.setup) (made : IsReachable g past) (v : GroupSems) (sems : KeepsGroupSems g past v) where
    pub waits-read : (t : ℕ) → has t (tasks g) ≡ true → is_some (awaits_of v.table t) ≡ is_some (awaits g t past)
    waits-read t there = (holding_is_read g past valid made v t there sems.locks).1

    pub key-read : (t : ℕ) → has t (tasks g) ≡ true → effective_key g t past ≡ key_in v t
    key-read t there = sym (key_is_read g past valid made v.waits t there (record { bases_are = sems.bases; nexts_are = sems.locks.nexts_are; boosts_are = sems.locks.boosts_are }))

    module _ (ways : AreWays g past v.ways) (w : GroupResvs) (resvs : AreResvsRead g past w) where
      pub eligible-read : (t : ℕ) → has t (tasks g) ≡ true → eligible g t past ≡ is_candidate g.setup k v w t
      unfolding task
      eligible-read t there =
          let waits : is_some (awaits_of v.table t) ≡ is_some (awaits g t past) = waits-read t there in
          let words : AreRead g t past k.clock (job_of k t) = words_of_kept g past k kept t there in
          let served_is : group_resvs.is_served w t ≡ is_served g g.setup.plugin t past = (resvs t there).served in
          words.eligible_is ∙ rw (none-not (awaits g t past), waits, served_is, admitted-read g valid past made v sems.locks ways t there, and-turned (is_served g g.setup.plugin t past) (is_admitted g g.setup.plugin t past)) refl
