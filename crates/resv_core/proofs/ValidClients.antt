-- In a valid set under P-RES each task of a group is served by a reservation of the group.
use Rattle.std.proofs.Common.{◌≡◌, ℕ, zero, suc, ◌+◌, ◌-◌, ◌<◌, ◌≤◌, Bool, true, false, not, ◌&&◌, List, [], ◌∷◌, length, map, get_or, eqb-true, leb-true, refl, sym, ap, ◌∙◌, subst, arith}
use Rattle.std.specs.Prelude.{Option, None, Some, option_map, nat_le, slice_get, unwrap_or, bytes_eq, ◌==◌}
use Rattle.std.specs.List.{list_all, list_any}
use Rattle.std.proofs.lemmas.List.{get_or-map, length-map}
use Rattle.rt_base.specs.declared.ResvNo.{ResvNo}
use Rattle.rt_task.specs.Draft.{draft_of, draft_resv, draft_task, runs}
use Rattle.rt_task.specs.Lookups.{cluster_of_resv}
use Rattle.rt_task.specs.NameRules.{piece_is_known, resv_is_known, task_name}
use Rattle.rt_task.specs.RuleWords.{is_known, is_name, is_p_res, no_repeat, sem_numbers}
use Rattle.rt_task.specs.SharingRules.{resv_fits, task_sharing}
use Rattle.rt_task.specs.Validity.{IsValid}
use Rattle.rt_task.specs.declared.Cluster.{Cluster}
use Rattle.rt_task.specs.declared.Parts.{Parts}
use Rattle.rt_task.specs.declared.PluginKind.TheVariants.{PRes}
use Rattle.rt_task.specs.declared.Resv.{Resv}
use Rattle.rt_task.specs.declared.Task.{Task}
use Rattle.rt_task.specs.declared.draft.DraftResv.{DraftResv}
use Rattle.rt_task.specs.declared.draft.DraftTask.{DraftTask}
use Rattle.rt_rules.specs.Numbers.{has, numbers_from}
use Rattle.rt_rules.proofs.BoolLaws.{both}
use Rattle.rt_rules.proofs.MemberLaws.{has-filter}
use Rattle.rt_rules.proofs.NumberLaws.{has-numbers_from, numbers_from-below}
use Rattle.rt_model.specs.Group.{Group, cluster, home, in_group, no_cluster, no_resv, no_task, resv, served_by, task, tasks}
use Rattle.rt_laws.proofs.ValidSets.{KeepsRule, keeps_rows, rules_of}
use Rattle.resv_core.specs.Served.{is_cluster_here, is_here}

-- ---- the rules that each task keeps

abbrev drafted : Task → DraftTask
drafted t = draft_task t (runs t.body)

module _ (p : Parts) (valid : IsValid p) (i : ℕ) (low : i < length p.tasks) where
  inside : i < length (draft_of p).tasks
  inside = omega (arith, low, length-map p.tasks drafted)

  name-kept : KeepsRule (task_name (draft_of p)) i (drafted (get_or p.tasks i no_task))
  name-kept = subst (KeepsRule (task_name (draft_of p)) i) (get_or-map drafted p.tasks i no_task (drafted no_task) low) ((keeps_rows p valid).name i (drafted no_task) inside)

  sharing-kept : KeepsRule (task_sharing (draft_of p)) i (drafted (get_or p.tasks i no_task))
  sharing-kept = subst (KeepsRule (task_sharing (draft_of p)) i) (get_or-map drafted p.tasks i no_task (drafted no_task) low) ((keeps_rows p valid).task i (drafted no_task) inside)

  sixth : (a b c d e f k : Bool) → a && (b && (c && (d && (e && (f && k))))) ≡ true → f ≡ true
  sixth true true true true true true k h = refl
  sixth true true true true true false k h = h
  sixth true true true true false f k h = cc
  sixth true true true false e f k h = cc
  sixth true true false d e f k h = cc
  sixth true false c d e f k h = cc
  sixth false b c d e f k h = cc

  known : resv_is_known (draft_of p) (get_or p.tasks i no_task).resv ≡ true
  unfolding task_name
  known =
      let q : DraftTask = drafted (get_or p.tasks i no_task) in
      sixth (q.number.0 == length name-kept.earlier + 1) (is_name q.name) (not (list_any (λ (x : DraftTask). bytes_eq x.name q.name) name-kept.earlier)) (list_all (is_known (draft_of p).sems) (sem_numbers q)) (no_repeat (sem_numbers q)) (resv_is_known (draft_of p) q.resv) (list_all (piece_is_known (draft_of p)) q.pieces) name-kept.keeps

  fits : resv_fits (draft_of p) (is_p_res p.plugin) (get_or p.tasks i no_task).cluster.0 (get_or p.tasks i no_task).resv ≡ true
  unfolding task_sharing
  fits = (both _ _ sharing-kept.keeps).0

-- ---- a task of the group

cluster_of_resv-is : (p : Parts) (r : ℕ) → r - 1 < length p.resvs → cluster_of_resv (draft_of p) r ≡ (get_or p.resvs (r - 1) no_resv).cluster.0
unfolding cluster_of_resv
cluster_of_resv-is p r low = read p.resvs (r - 1) low
  where
    read : (rs : List Resv) (i : ℕ) → i < length rs → unwrap_or (option_map (λ (x : DraftResv). x.cluster) (slice_get (map draft_resv rs) i)) 0 ≡ (get_or rs i no_resv).cluster.0
    read [] i h = absurd (omega arith)
    read (x ∷ xs) zero h = refl
    read (x ∷ xs) (suc i) h = read xs i (omega arith)

cluster-here : (cs : List Cluster) (c n : ℕ) → (get_or cs c no_cluster).group.0 == n ≡ true → c < length cs → (k : Cluster) × (slice_get cs c ≡ Some k) × (k.group.0 == n ≡ true)
cluster-here [] c n h low = absurd (omega arith)
cluster-here (k ∷ ks) zero n h low = (k, refl, h)
cluster-here (k ∷ ks) (suc c) n h low = cluster-here ks c n h (omega arith)

pub resv-there : (rs : List Resv) (i : ℕ) → i < length rs → slice_get rs i ≡ Some (get_or rs i no_resv)
resv-there [] i h = absurd (omega arith)
resv-there (r ∷ rs) zero h = refl
resv-there (r ∷ rs) (suc i) h = resv-there rs i (omega arith)

pub record IsTied (g : Group) (t : ℕ) : Type 0 where
  pub numbered : (1 ≤ t) × (t - 1 < length g.setup.tasks)
  pub resv_is : (task g t).resv ≡ Some (record { 0 = served_by g t })
  pub low : 1 ≤ served_by g t
  pub high : served_by g t ≤ length g.setup.resvs
  pub here : is_here g.setup g.number (resv g (served_by g t)) ≡ true
  pub at_home : (resv g (served_by g t)).cluster.0 ≡ home g t

served-some : (g : Group) (t : ℕ) (r : ResvNo) → (task g t).resv ≡ Some r → served_by g t ≡ r.0
unfolding served_by
served-some g t r h = rw h refl

pub tied : (g : Group) → IsValid g.setup → g.setup.plugin ≡ PRes → (t : ℕ) → has t (tasks g) ≡ true → IsTied g t
unfolding tasks task home in_group cluster resv
tied g valid plugin t h = by_case (get_or g.setup.tasks (t - 1) no_task).resv refl
  where
    members : has t (numbers_from 1 (length g.setup.tasks)) && in_group g (home g t) ≡ true
    members = rw has-filter at h

    two : (has t (numbers_from 1 (length g.setup.tasks)) ≡ true) × (in_group g (home g t) ≡ true)
    two = both (has t (numbers_from 1 (length g.setup.tasks))) (in_group g (home g t)) members

    low : 1 ≤ t
    low = has-numbers_from t 1 (length g.setup.tasks) two.0

    inside : t - 1 < length g.setup.tasks
    inside = let below = numbers_from-below t 1 (length g.setup.tasks) two.0 in omega (arith, below, low)

    by_case : (o : Option ResvNo) → (get_or g.setup.tasks (t - 1) no_task).resv ≡ o → IsTied g t
    by_case None e =
        let f = fits g.setup valid (t - 1) inside in
        let clash : false ≡ true = sym (ap (λ b. resv_fits (draft_of g.setup) b (get_or g.setup.tasks (t - 1) no_task).cluster.0 None) (ap is_p_res plugin)) ∙ sym (ap (resv_fits (draft_of g.setup) (is_p_res g.setup.plugin) (get_or g.setup.tasks (t - 1) no_task).cluster.0) e) ∙ f in
        cc
    by_case (Some r) e =
        let known_resv : is_known (draft_of g.setup).resvs r.0 ≡ true = sym (ap (resv_is_known (draft_of g.setup)) e) ∙ known g.setup valid (t - 1) inside in
        let bounds = both (nat_le 1 r.0) (nat_le r.0 (length (draft_of g.setup).resvs)) known_resv in
        let least = leb-true 1 r.0 bounds.0 in
        let most = leb-true r.0 (length (draft_of g.setup).resvs) bounds.1 in
        let high : r.0 ≤ length g.setup.resvs = omega (arith, most, length-map g.setup.resvs draft_resv) in
        let slot : r.0 - 1 < length g.setup.resvs = omega (arith, least, high) in
        let f = fits g.setup valid (t - 1) inside in
        let same_cluster : cluster_of_resv (draft_of g.setup) r.0 == (get_or g.setup.tasks (t - 1) no_task).cluster.0 ≡ true = sym (ap (λ b. resv_fits (draft_of g.setup) b (get_or g.setup.tasks (t - 1) no_task).cluster.0 (Some r)) (ap is_p_res plugin)) ∙ sym (ap (resv_fits (draft_of g.setup) (is_p_res g.setup.plugin) (get_or g.setup.tasks (t - 1) no_task).cluster.0) e) ∙ f in
        let at_home : (get_or g.setup.resvs (r.0 - 1) no_resv).cluster.0 ≡ (get_or g.setup.tasks (t - 1) no_task).cluster.0 = sym (cluster_of_resv-is g.setup r.0 slot) ∙ eqb-true _ _ same_cluster in
        let k = cluster-here g.setup.clusters (get_or g.setup.tasks (t - 1) no_task).cluster.0 g.number two.1 ((rules_of g valid).has_home t h) in
        let here : is_here g.setup g.number (get_or g.setup.resvs (r.0 - 1) no_resv) ≡ true = ap (λ c. is_cluster_here g.setup g.number (slice_get g.setup.clusters c)) at_home ∙ ap (is_cluster_here g.setup g.number) k.1 ∙ k.2 in
        let is : served_by g t ≡ r.0 = served-some g t r e in
        record {
          numbered = (low, inside);
          resv_is = e ∙ ap {B = Option ResvNo} (λ n. Some (record { 0 = n })) (sym is);
          low = subst (λ n. 1 ≤ n) (sym is) least;
          high = subst (λ n. n ≤ length g.setup.resvs) (sym is) high;
          here = subst (λ n. is_here g.setup g.number (get_or g.setup.resvs (n - 1) no_resv) ≡ true) (sym is) here;
          at_home = ap (λ n. (get_or g.setup.resvs (n - 1) no_resv).cluster.0) is ∙ at_home;
        }
