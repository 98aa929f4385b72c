use Rattle.std.proofs.Common.{◌≡◌, ◌∙◌, ◌++◌, ◌∷◌, [], ℕ, ap}
use Rattle.std.proofs.lemmas.Result.{on_ok_weaker}
use Rattle.std.specs.Prelude.{codes, decimal, flat_map}
use Rattle.rt_model.specs.Group.{clusters, tasks}
use Rattle.rt_model.specs.Past.{now}
use Rattle.chart_texts.specs.Charts.{group_resvs}
use Rattle.why_texts.specs.ClusterLines.{cluster_lines}
use Rattle.why_texts.specs.Pieces.{state_line}
use Rattle.why_texts.specs.ResvLines.{resv_line}
use Rattle.why_texts.specs.SemLines.{declared_sems, sem_line}
use Rattle.why_texts.specs.TaskLines.{task_line}
use Rattle.why_states.proofs.Rows.{text-of_five}
use Rattle.why_texts.specs.StateText.{state_text}
use Rattle.why_states.specs.States.{IsAt, group_of}
use Rattle.why_states.proofs.states.put_state.Goals as goal

pub returns : goal.returns
unfolding state_text
returns c =
    on_ok_weaker c.put_tasks.result (λ put past is.
    let g = group_of c.args.state.now in
    let old = c.args.out.now.items in
    let a = state_line (codes "clock " ∷ decimal (now past) ∷ []) in
    let b = flat_map (λ (n : ℕ). cluster_lines g n past) (clusters g) in
    let s = flat_map (λ (n : ℕ). sem_line g n past) (declared_sems g) in
    let r = flat_map (λ (n : ℕ). resv_line g n past) (group_resvs g) in
    let t = flat_map (λ (n : ℕ). task_line g n past) (tasks g) in
    let clock = c.in_ok-put_clock_line.ensures ∙ ap (λ n. old ++ state_line (codes "clock " ∷ decimal n ∷ [])) is.clock_is in
    let with_clusters = c.in_ok-put_clusters.ensures past is ∙ ap (λ ys. ys ++ b) clock in
    let with_sems = c.in_ok-put_sems.ensures past is ∙ ap (λ ys. ys ++ s) with_clusters in
    let with_resvs = c.in_ok-put_resvs.ensures past is ∙ ap (λ ys. ys ++ r) with_sems in
    put past is ∙ ap (λ ys. ys ++ t) with_resvs ∙ text-of_five old a b s r t) c.put_tasks.ensures
