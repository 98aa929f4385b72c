-- A cluster that has looked at the tasks that a move touched: its ranking, its top and what runs there are those of the past.
use Rattle.std.proofs.Common.{◌≡◌, ℕ, Bool, true, false, List, [], ◌∷◌, ◌++◌, ◌⊎◌, inl, inr, length, take, refl, sym, ap, ◌∙◌}
use Rattle.std.specs.Prelude.{filter, if◌then◌else◌, ◌==◌}
use Rattle.std.proofs.lemmas.List.Elements.{filter-append}
use Rattle.rt_task.specs.Validity.{IsValid}
use Rattle.rt_task.specs.declared.Parts.{Parts}
use Rattle.rt_rules.specs.declared.Key.{Key}
use Rattle.rt_rules.specs.Keys.{Ranked, inserted}
use Rattle.rt_rules.specs.Numbers.{has}
use Rattle.rt_rules.specs.Placing.{placed}
use Rattle.rt_rules.specs.Rankings.{tasks_of, without_task}
use Rattle.rt_rules.proofs.BoolLaws.{both, neither, or_true}
use Rattle.rt_rules.proofs.LinkLaws.{length-placed}
use Rattle.rt_rules.proofs.MemberLaws.{equal_self, has-append, has-filter}
use Rattle.rt_model.specs.EffectiveKeys.{effective_key}
use Rattle.rt_model.specs.Group.{Group, clusters, first_cpu, tasks}
use Rattle.rt_model.specs.Group as groups
use Rattle.rt_model.specs.Holders.{awaits}
use Rattle.rt_model.specs.Links.{runs_of}
use Rattle.rt_model.specs.Past.{Past}
use Rattle.rt_model.specs.Releases.{ready}
use Rattle.rt_model.specs.Tops.{eligible, is_admitted, is_served as is_served_by_rules, ranking, top}
use Rattle.rt_laws.proofs.GroupLaws.{tasks_of-home}
use Rattle.ready_queue.specs.Refreshed.{put_back, refreshed}
use Rattle.rt_changes.specs.ClusterMoves.{of_cluster}
use Rattle.rt_changes.specs.Clusters.{SameStanding}
use Rattle.rt_changes.proofs.rankings.MovedClusters.{ranking_after_move}
use Rattle.group_resvs.specs.GroupResvs.{GroupResvs, is_served}
use Rattle.group_resvs.specs.Laws.{AreChanged}
use Rattle.group_core.specs.Facts as core
use Rattle.group_core.specs.Reads.{is_candidate, key_in}
use Rattle.group_core.specs.Standing as standing
use Rattle.group_core.proofs.ModelWords.{AreResvsRead, eligible-read, key-read, resvs-read}
use Rattle.rank_afresh.specs.Clusters.{ClusterFacts, HasRenewed, IsAsBefore, IsPlaced, looked_at, own, runs_in}
use Rattle.rank_afresh.specs.Standing.{IsClusterOf, IsRankedAt}
use Rattle.rank_afresh.proofs.ModelWords.{runs-read}
use Rattle.rank_afresh.proofs.SetLists.{length-runs_in}

-- ---- tasks are looked at one after the other

refreshed-append : (key : ℕ → Key) (test : ℕ → Bool) (xs ys : List ℕ) (rs : List Ranked) → refreshed key test (xs ++ ys) rs ≡ refreshed key test ys (refreshed key test xs rs)
refreshed-append key test [] ys rs = refl
refreshed-append key test (x ∷ xs) ys rs = refreshed-append key test xs ys (put_back key test x rs)

-- their keys and tests alone matter
refreshed-same : (key key' : ℕ → Key) (test test' : ℕ → Bool) (us : List ℕ) (rs : List Ranked) → ((u : ℕ) → has u us ≡ true → (key u ≡ key' u) × (test u ≡ test' u))
    → refreshed key test us rs ≡ refreshed key' test' us rs
refreshed-same key key' test test' [] rs same = refl
refreshed-same key key' test test' (u ∷ us) rs same =
    let there : has u (u ∷ us) ≡ true = rw (equal_self u) refl in
    let here = same u there in
    let one : put_back key test u rs ≡ put_back key' test' u rs =
    ap (λ (b : Bool). if b then inserted (record { key = key u; task = u }) (without_task u rs) else without_task u rs) here.1
    ∙ ap (λ (k : Key). if test' u then inserted (record { key = k; task = u }) (without_task u rs) else without_task u rs) here.0 in
    ap (refreshed key test us) one ∙ refreshed-same key key' test test' us (put_back key' test' u rs) (λ v h. same v (let later : has v (u ∷ us) ≡ true = rw h (or_true (v == u)) in later))

pub of_cluster-inside : (g : Group) (c : ℕ) (us : List ℕ) (t : ℕ) → has t (of_cluster g c us) ≡ true → has t (groups.tasks_of g c) ≡ true
of_cluster-inside g c us t h = (both (has t us) (has t (groups.tasks_of g c)) (sym (has-filter (λ u. has u (groups.tasks_of g c)) t us) ∙ h)).1

-- there are as many links as before
module _ (p : Parts) (f : core.Facts) (us : List ℕ) (old new : ClusterFacts) (renewed : HasRenewed p f us old new) where
  length-runs : length new.runs ≡ length old.links
  length-runs = ap length renewed.runs_are ∙ length-runs_in f.kept old.first (length old.links)

  pub length-links : length new.links ≡ length old.links
  length-links = by_case renewed.links_follow
    where
      by_case : (new.links ≡ placed new.top new.runs old.links) ⊎ IsAsBefore (looked_at p f f.resvs.changed (looked_at p f us old)) new → length new.links ≡ length old.links
      by_case (inl anew) = ap length anew ∙ length-placed new.top new.runs old.links length-runs ∙ length-runs
      by_case (inr before) = ap length before.links_same

  -- and they follow the ranked tasks and what runs
  pub placed-renewed : IsPlaced f.kept new
  placed-renewed = record {
    top_is = renewed.top_is ∙ ap (λ (rs : List Ranked). take (length old.links) (tasks_of rs)) (sym renewed.ranked_same) ∙ ap (λ n. take n (tasks_of new.ranked)) (sym length-links);
    runs_are = renewed.runs_are ∙ ap (λ n. runs_in f.kept n (length old.links)) (sym renewed.first_same) ∙ ap (runs_in f.kept new.first) (sym length-links);
  }

-- ---- at a past

module _ (g : Group) (valid : IsValid g.setup) (past : Past) (f : core.Facts) (at : standing.IsAt g past f) (c : ℕ) where
  abbrev key : ℕ → Key
  key t = effective_key g t past

  abbrev test : ℕ → Bool
  test t = eligible g t past

  reads : AreResvsRead g past f.resvs
  reads = resvs-read g past f.resvs valid at.resvs_are

  -- looking at its own tasks among these, and then at those among others, is looking at its tasks among all
  looked-both : (us vs : List ℕ) (x : ClusterFacts) → x.tasks ≡ groups.tasks_of g c
      → (looked_at g.setup f vs (looked_at g.setup f us x)).ranked ≡ refreshed key test (of_cluster g c (us ++ vs)) x.ranked
  looked-both us vs x same =
      let k : ℕ → Key = key_in f.sems in
      let b : ℕ → Bool = is_candidate g.setup f.kept f.sems f.resvs in
      sym (refreshed-append k b (own x us) (own x vs) x.ranked)
      ∙ ap (λ ts. refreshed k b ts x.ranked) (sym (filter-append (λ t. has t x.tasks) us vs))
      ∙ ap (λ ts. refreshed k b (filter (λ t. has t ts) (us ++ vs)) x.ranked) same
      ∙ refreshed-same k key b test (of_cluster g c (us ++ vs)) x.ranked (λ u h.
      let there : has u (tasks g) ≡ true = (tasks_of-home g c u (of_cluster-inside g c (us ++ vs) u h)).0 in (
        sym (key-read g past f.kept at.kept valid at.reachable f.sems at.sems_are u there),
        sym (eligible-read g past f.kept at.kept valid at.reachable f.sems at.sems_are at.ways_are f.resvs reads u there),
      ))

  module _ (us : List ℕ) (old new : ClusterFacts) (is : IsClusterOf g c old) (renewed : HasRenewed g.setup f us old new) where
    module _ (there : has c (clusters g) ≡ true) (was : ranking g c past ≡ refreshed key test (of_cluster g c (us ++ f.resvs.changed)) old.ranked) where
      ranked : new.ranked ≡ ranking g c past
      ranked = renewed.ranked_same ∙ looked-both us f.resvs.changed old is.tasks_are ∙ sym was

      top-is : new.top ≡ top g c past
      unfolding top
      top-is =
          renewed.top_is ∙ ap (λ (rs : List Ranked). take (length old.links) (tasks_of rs)) (sym renewed.ranked_same ∙ ranked)
          ∙ ap (λ n. take n (tasks_of (ranking g c past))) is.links_length

      runs-are : new.runs ≡ runs_of g c past
      runs-are =
          renewed.runs_are ∙ ap (λ n. runs_in f.kept n (length old.links)) is.first_is ∙ ap (runs_in f.kept (first_cpu g c)) is.links_length
          ∙ sym (runs-read g past f.kept at.kept c there)

      pub ranked-renewed : IsRankedAt g c past new
      ranked-renewed = record { ranked_are = ranked; top_is = top-is; runs_are = runs-are }

-- ---- which tasks stand as before

-- in two pasts a task is ready or not, it waits or not, SRP admits it or not, and it has the same key
pub record IsAlike (g : Group) (t : ℕ) (past past' : Past) : Type 0 where
  pub ready_same : ready g t past' ≡ ready g t past
  pub awaits_same : awaits g t past' ≡ awaits g t past
  pub admitted_same : is_admitted g g.setup.plugin t past' ≡ is_admitted g g.setup.plugin t past
  pub key_same : effective_key g t past' ≡ effective_key g t past

module _ (g : Group) (past past' : Past) (w w' : GroupResvs) (before : AreResvsRead g past w) (after : AreResvsRead g past' w') where
  pub stands-same : (t : ℕ) → has t (tasks g) ≡ true → IsAlike g t past past' → is_served w' t ≡ is_served w t → SameStanding g t past past'
  unfolding eligible
  stands-same t there alike same =
      let served : is_served_by_rules g g.setup.plugin t past' ≡ is_served_by_rules g g.setup.plugin t past = sym (after t there).served ∙ same ∙ (before t there).served in
      record {
        eligible_same = rw (alike.ready_same, alike.awaits_same, alike.admitted_same, served) refl;
        key_same = λ h. alike.key_same;
      }

  -- the ranking, where all but these look alike
  pub ranking-moved : AreChanged g w w' → (us : List ℕ) (c : ℕ) → ((t : ℕ) → has t (tasks g) ≡ true → has t us ≡ false → IsAlike g t past past')
      → ranking g c past' ≡ refreshed (λ t. effective_key g t past') (λ t. eligible g t past') (of_cluster g c (us ++ w'.changed)) (ranking g c past)
  ranking-moved changed us c alike =
      ranking_after_move g c (us ++ w'.changed) past past' (λ t h out.
      let there : has t (tasks g) ≡ true = (tasks_of-home g c t h).0 in
      let none = neither (has t us) (has t w'.changed) (sym (has-append t us w'.changed) ∙ out) in
      stands-same t there (alike t there none.0) (changed.others t there none.1))
