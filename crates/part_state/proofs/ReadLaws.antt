-- Keys, eligible tasks and the link, as they are read.
use Rattle.std.proofs.Common.{◌≡◌, ℕ, ◌-◌, true, ◌&&◌, Option, None, Some, refl, sym, ap, ◌∙◌}
use Rattle.std.specs.Prelude.{is_none, slice_index_or, unwrap_or, ◌==◌}
use Rattle.rt_base.specs.declared.SemNo.{SemNo}
use Rattle.rt_task.specs.declared.PluginKind.{PluginKind}
use Rattle.rt_task.specs.declared.PluginKind.TheVariants as plugins
use Rattle.rt_task.specs.declared.Protocol.{Protocol}
use Rattle.rt_task.specs.declared.Protocol.TheVariants as protocols
use Rattle.rt_rules.specs.Numbers.{first, has}
use Rattle.rt_rules.specs.Rankings.{tasks_of}
use Rattle.rt_rules.proofs.BoolLaws.{both}
use Rattle.rt_rules.proofs.MemberLaws.{has-filter}
use Rattle.rt_rules.proofs.RankedByLaws.{ranked_by-same}
use Rattle.rt_model.specs.BaseKeys.{base_key}
use Rattle.rt_model.specs.Group.{Group, cluster_with, home, protocol, resv, sem, sems, served_by, task}
use Rattle.rt_model.specs.Group as group
use Rattle.rt_model.specs.Releases.{ready}
use Rattle.rt_plays.specs.Plays.{group_with}
use Rattle.group_jobs.specs.Facts.{JobFacts}
use Rattle.group_jobs.specs.Kept.{job_of}
use Rattle.group_jobs.specs.Words.{AreRead, key_of}
use Rattle.group_jobs.proofs.KeptMoves.{words_of_kept}
use Rattle.mpcp_ceilings.specs.Ceilings.{CeilingTable}
use Rattle.mpcp_ceilings.proofs.NotedLaws.{ceilings_are_told}
use Rattle.split_rules.specs.PartLinks.{boost, boost_by, boost_of, effective_key, eligible, part, ranking, tasks}
use Rattle.split_rules.specs.PartPast.{PartPast, moves}
use Rattle.split_rules.specs.PartSems.{held_since, holding}
use Rattle.split_laws.proofs.KeyLaws.{key_is_own, link_is_first}
use Rattle.part_state.specs.Reading.{AreBoosted, IsRead, LinkIsRead, TasksAreRead}
use Rattle.part_state.specs.Reads as words
use Rattle.part_state.specs.Reads.{boost_in, boost_under, key_in, link_in, may_run}
use Rattle.part_state.specs.States.{IsAt, IsLockAt, PartState, lock_of, sem_number}

-- the key of a job reads no group's number
same-key : (g : Group) (x : PluginKind) (t : ℕ) (job : JobFacts) → key_of (group_with g.setup 0) x t job ≡ key_of g x t job
unfolding task resv served_by
same-key g plugins.GsnEdf t job = refl
same-key g plugins.CEdf t job = refl
same-key g plugins.PsnEdf t job = refl
same-key g plugins.PFp t job = refl
same-key g plugins.PRes t job = refl

none-same : (o : Option SemNo) → is_none (sem_number o) ≡ is_none o
none-same None = refl
none-same (Some r) = refl

module _ (g : Group) (q t : ℕ) (past : PartPast) (c : CeilingTable) (s : PartState) (are : AreBoosted g past c) where
  boost-under : (x : Protocol) (r : ℕ) (since : ℕ) → since ≡ held_since t past → has r (sems g) ≡ true
      → boost_under g.setup c s x r t since ≡ boost_by g q x r t past
  unfolding boost_by
  boost-under protocols.Fmlp r since same known = ap (λ n. Some (record { band = 0; major = n; minor = t })) same
  boost-under protocols.Mpcp r since same known =
      ap (λ n. Some (record { band = 1; major = n; minor = t })) (ceilings_are_told g c r t are.ceilings known)
  boost-under protocols.Omlp r since same known = refl
  boost-under protocols.Pcp r since same known = refl
  boost-under protocols.Srp r since same known = refl

  boost-by : (o : Option SemNo) (since : ℕ) → sem_number o ≡ holding t past → since ≡ held_since t past
      → words.boost_by g.setup c s o t since ≡ boost g q t past
  unfolding boost boost_of protocol sem
  boost-by None since held same = rw (← held) refl
  boost-by (Some r) since held same =
      rw (← held) (boost-under (slice_index_or g.setup.sems (r.0 - 1) group.no_sem).protocol r.0 since same (are.known t r.0 (sym held)))

  pub task-read : IsAt g past s → has t (group.tasks g) ≡ true → IsRead g q t past c s
  unfolding eligible task
  task-read at there =
      let lock : IsLockAt t past (lock_of s t) = at.locks t there in
      let job : AreRead g t (moves past) s.kept.clock (job_of s.kept t) = words_of_kept g (moves past) s.kept at.kept t there in
      let base : key_of (group_with g.setup 0) g.setup.plugin t (job_of s.kept t) ≡ base_key g t (moves past) =
      same-key g g.setup.plugin t (job_of s.kept t) ∙ sym job.key_is in
      record {
        key_is =
            ap (λ k. unwrap_or (boost_in g.setup c s t) k) base
            ∙ ap (λ b. unwrap_or b (base_key g t (moves past))) (boost-by (lock_of s t).holds (lock_of s t).since lock.holds lock.since)
            ∙ sym (key_is_own g q t past are.boost);
        may_run_is =
            ap (λ b. b && is_none (lock_of s t).waits) (sym job.ready_is)
            ∙ ap (λ b. ready g t (moves past) && b) (sym (none-same (lock_of s t).waits) ∙ ap is_none lock.waits);
      }

pub tasks_are_read : TasksAreRead
tasks_are_read g q t past c s are at there = task-read g q t past c s are at there

-- the tasks of a partition are of the group
of-group : (g : Group) (q t : ℕ) → has t (tasks g q) ≡ true → has t (group.tasks g) ≡ true
unfolding tasks group.tasks_of
of-group g q t h = (both (has t (group.tasks g)) _ (rw (has-filter (λ u. home g u == part g q) t (group.tasks g)) at h)).0

pub link_is_read : LinkIsRead
unfolding ranking
link_is_read g q past c s seat one are at =
    ap (λ rs. first (tasks_of rs))
    (ranked_by-same (key_in g.setup c s) (λ t. effective_key g q t past) (may_run g.setup c s) (λ t. eligible g q t past) (tasks g q)
    (λ t h. (task-read g q t past c s are at (of-group g q t h)).may_run_is)
    (λ t h k. (task-read g q t past c s are at (of-group g q t h)).key_is))
    ∙ sym (link_is_first g q past seat one)
