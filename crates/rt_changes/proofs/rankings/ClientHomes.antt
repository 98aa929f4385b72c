-- The clients of a reservation are of its cluster.
use Rattle.std.proofs.Common.{◌≡◌, ℕ, ◌-◌, ◌<◌, true, length, get_or, eqb-true, refl, sym, ap, ◌∙◌, subst, arith}
use Rattle.std.specs.Prelude.{Option, None, Some}
use Rattle.std.proofs.lemmas.List.{get_or-map, length-map}
use Rattle.rt_base.specs.declared.ResvNo.{ResvNo}
use Rattle.rt_task.specs.declared.Task.{Task}
use Rattle.rt_task.specs.declared.draft.Draft.{Draft}
use Rattle.rt_task.specs.declared.draft.DraftTask.{DraftTask}
use Rattle.rt_task.specs.Draft.{draft_of, draft_task, runs}
use Rattle.rt_task.specs.Lookups.{cluster_of_resv}
use Rattle.rt_task.specs.RuleWords.{is_p_res}
use Rattle.rt_task.specs.SharingRules.{task_sharing, resv_fits}
use Rattle.rt_task.specs.Validity.{IsValid}
use Rattle.rt_rules.specs.Numbers.{has}
use Rattle.rt_rules.proofs.BoolLaws.{both}
use Rattle.rt_model.specs.Group.{Group, home, no_task, served_by, task, tasks}
use Rattle.rt_laws.proofs.ValidSets.{keeps_rows, task-numbered}
use Rattle.rt_changes.specs.ClusterMoves.{ClientsShareHome}

abbrev drafted : Task → DraftTask
drafted t = draft_task t (runs t.body)

fits : (d : Draft) (c : ℕ) (o : Option ResvNo) → resv_fits d true c o ≡ true → (r : ResvNo) × (o ≡ Some r) × (cluster_of_resv d r.0 ≡ c)
fits d c None h = cc
fits d c (Some r) h = (r, refl, eqb-true (cluster_of_resv d r.0) c h)

client-home : (g : Group) → IsValid g.setup → is_p_res g.setup.plugin ≡ true → (t : ℕ) → has t (tasks g) ≡ true → cluster_of_resv (draft_of g.setup) (served_by g t) ≡ home g t
unfolding task_sharing served_by home task
client-home g valid res t h =
    let low : t - 1 < length g.setup.tasks = task-numbered g t h in
    let is : get_or (draft_of g.setup).tasks (t - 1) (drafted no_task) ≡ drafted (get_or g.setup.tasks (t - 1) no_task) = get_or-map drafted g.setup.tasks (t - 1) no_task (drafted no_task) low in
    let row = (keeps_rows g.setup valid).task (t - 1) (drafted no_task) (omega (arith, low, length-map g.setup.tasks drafted)) in
    let kept : task_sharing (draft_of g.setup) row.earlier (drafted (get_or g.setup.tasks (t - 1) no_task)) ≡ true = subst (λ (x : DraftTask). task_sharing (draft_of g.setup) row.earlier x ≡ true) is row.keeps in
    let fit : resv_fits (draft_of g.setup) (is_p_res g.setup.plugin) (home g t) (get_or g.setup.tasks (t - 1) no_task).resv ≡ true = (both _ _ kept).0 in
    let there : resv_fits (draft_of g.setup) true (home g t) (get_or g.setup.tasks (t - 1) no_task).resv ≡ true = subst (λ b. resv_fits (draft_of g.setup) b (home g t) (get_or g.setup.tasks (t - 1) no_task).resv ≡ true) res fit in
    let f = fits (draft_of g.setup) (home g t) (get_or g.setup.tasks (t - 1) no_task).resv there in
    rw f.1 f.2

pub clients_share_home : ClientsShareHome
clients_share_home g valid res t u h k same = sym (client-home g valid res t h) ∙ ap (cluster_of_resv (draft_of g.setup)) same ∙ client-home g valid res u k
