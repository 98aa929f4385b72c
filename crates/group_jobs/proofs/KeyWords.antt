-- The key that a plugin gives is the one that is read off what is kept.
use Rattle.std.proofs.Common.{◌≡◌, ℕ, refl}
use Rattle.std.specs.Prelude.{Option, None, Some, unwrap_or}
use Rattle.rt_base.specs.declared.ResvNo.{ResvNo}
use Rattle.rt_task.specs.declared.Parts.{Parts}
use Rattle.rt_task.specs.declared.PluginKind.{PluginKind}
use Rattle.rt_task.specs.declared.PluginKind.TheVariants as plugins
use Rattle.rt_model.specs.Group.{Group, resv, served_by, task}
use Rattle.rt_plays.specs.Plays.{group_with}
use Rattle.plugins.specs.ReservationKeys.{resv_number}
use Rattle.plugins.proofs.PartitionedKeyLaws.{resv-number}
use Rattle.group_jobs.specs.Facts.{JobFacts}
use Rattle.group_jobs.specs.Words.{key_of, release_of}
use Rattle.group_jobs.specs.GroupJobs.{task_in}
use Rattle.group_jobs.specs.inside.Keys.{key_under, resv_prio}

resv-prio : (p : Parts) (t : ℕ) → resv_prio p.resvs (task_in p.tasks t) ≡ (resv (group_with p 0) (served_by (group_with p 0) t)).prio
unfolding task resv served_by
resv-prio p t = refl

pub key-under : (p : Parts) (t : ℕ) (job : JobFacts) (plugin : PluginKind) → (task_in p.tasks t).number.0 ≡ t
    → key_under plugin (task_in p.tasks t) (unwrap_or (release_of (task_in p.tasks t) job) 0) (resv_prio p.resvs (task_in p.tasks t))
    ≡ key_of (group_with p 0) plugin t job
unfolding task
key-under p t job plugins.GsnEdf number = rw number refl
key-under p t job plugins.CEdf number = rw number refl
key-under p t job plugins.PsnEdf number = rw number refl
key-under p t job plugins.PFp number = rw number refl
key-under p t job plugins.PRes number = rw (resv-prio p t, resv-number (group_with p 0) t) refl
