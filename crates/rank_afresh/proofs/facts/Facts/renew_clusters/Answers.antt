use Rattle.std.proofs.Common.{◌≡◌, ◌≢◌, ◌<◌, ◌⊎◌, inl, inr, ℕ, ◌+◌, Bool, true, false, List, get_or, set, take, length, length-set, get_or-set_same, get_or-set_other, refl, sym, ap, ◌∙◌, subst, arith}
use Rattle.std.specs.Prelude.{All}
use Rattle.std.proofs.lemmas.Bool.{cases_eq}
use Rattle.std.proofs.lemmas.List.{get_or_default, take_all}
use Rattle.rt_base.specs.TaskNos.{numbers}
use Rattle.rt_rules.specs.Distinct.{IsDistinct}
use Rattle.rt_rules.specs.Numbers.{has}
use Rattle.rt_rules.proofs.BoolLaws.{clash}
use Rattle.group_core.specs.Facts as core
use Rattle.rank_afresh.specs.Clusters.{CanPlace, ClusterFacts, HasRenewed, IsPlacedBut, no_facts}
use Rattle.rank_afresh.specs.Facts.{ArePlacedBut, HaveRenewed, WithRoom, cluster_at, core_of}
use Rattle.rank_afresh.specs.Visits.{AreHomes, AreVisited, VisitFacts}
use Rattle.rank_afresh.proofs.Moving.{renewed-as}
use Rattle.rank_afresh.proofs.Visiting.{each-renewed, each-set, has-position, homes-as, homes-set, not-before, taken-here, taken-other, visited-as}
use Rattle.rank_afresh.proofs.facts.Facts.renew_clusters.Goals as goal
use Rattle.rank_afresh.proofs.facts.Facts.renew_clusters.Goals.{After-index_mut, After-positions, then-renew, else-renew}

-- ---- the next position

positions-are : (c : After-positions) → c.positions.result.now ≡ c.list.new.self.positions
positions-are c = c.positions.ensures.positions ∙ ap (λ (v : VisitFacts). v.positions) c.loop-i.invariant.visits

next : (c : After-positions) → get_or c.positions.result.now c.loop-i.i 0 ≡ get_or c.list.new.self.positions c.loop-i.i 0
next c = ap (λ qs. get_or qs c.loop-i.i 0) (positions-are c)

once : (c : After-positions) → IsDistinct c.list.new.self.positions
once c = subst IsDistinct (positions-are c) c.positions.ensures.once

within : (c : After-positions) → c.loop-i.i < length c.list.new.self.positions
within c = let all = ap (λ (qs : List ℕ). length qs) c.positions-i-end.ensures.positions in omega (arith, c.loop-i-test.true, all)

low : (c : After-positions) → get_or c.positions.result.now c.loop-i.i 0 < length c.self.inside.clusters.items
low c =
    let n : ℕ = get_or c.positions.result.now c.loop-i.i 0 in
    let all = ap (λ (qs : List ℕ). length qs) (positions-are c) in
    let there : has n c.positions.result.now ≡ true = has-position c.positions.result.now c.loop-i.i (omega (arith, within c, all)) in
    let few = c.positions.ensures.inside n there in
    let count = ap (λ (v : VisitFacts). v.count) c.loop-i.invariant.visits in
    let same = ap (λ (v : VisitFacts). v.count) c.list.ensures.rest in
    omega (arith, few, count, same, c.self.invariant.1.count_is)

pub index_mut-requires : goal.index_mut-requires
index_mut-requires c =
    let inside = low (goal.at.index_mut-requires c).After-positions in
    omega (arith, inside, c.loop-i.invariant.count, c.self.inside.clusters.ok.0)

unseen : (c : After-positions) → has (get_or c.positions.result.now c.loop-i.i 0) (take c.loop-i.i c.list.new.self.positions) ≡ false
unseen c = not-before c.list.new.self.positions c.loop-i.i (get_or c.positions.result.now c.loop-i.i 0) (next c) (once c) (within c)

was : (c : After-index_mut) → get_or c.positions.result.now c.loop-i.i 0 < length c.self.inside.clusters.items → has (get_or c.positions.result.now c.loop-i.i 0) (take c.loop-i.i c.list.new.self.positions) ≡ false
    → c.index_mut.result.now ≡ cluster_at c.self.inside.clusters.items (get_or c.positions.result.now c.loop-i.i 0)
was c inside new =
    let n : ℕ = get_or c.positions.result.now c.loop-i.i 0 in
    let cs : List ClusterFacts = c.loop-i.self-inside.clusters.items in
    let here : n < length cs = omega (arith, inside, c.loop-i.invariant.room) in
    c.index_mut.ensures.value ∙ get_or_default cs n c.index_mut.result.now no_facts here ∙ c.loop-i.invariant.rest n new

pub renew-requires-clause-placed : goal.renew-requires-clause-placed
renew-requires-clause-placed c =
    let listed = (goal.at.renew-requires-clause-placed c).After-positions in
    let is = was (goal.at.renew-requires-clause-placed c).After-index_mut (low listed) (unseen listed) in
    let olds : List ClusterFacts = c.self.inside.clusters.items in
    let placed : ArePlacedBut c.args.ran c.self.inside.core.facts.kept olds = subst (λ (w : WithRoom). ArePlacedBut c.args.ran w.facts.kept w.facts.clusters) (sym c.self.view_is) c.requires.placed in
    subst (λ (w : core.WithRoom). IsPlacedBut c.args.ran w.facts.kept c.index_mut.result.now) (sym c.loop-i.invariant.core)
    (subst (λ (x : ClusterFacts). IsPlacedBut c.args.ran c.self.inside.core.facts.kept x) (sym is) (placed _ (low listed)))

pub renew-requires-clause-place : goal.renew-requires-clause-place
renew-requires-clause-place c =
    let listed = (goal.at.renew-requires-clause-place c).After-positions in
    let is = was (goal.at.renew-requires-clause-place c).After-index_mut (low listed) (unseen listed) in
    let p = c.args.parts.now in
    let all : All (CanPlace p c.self.inside.core.facts.kept) c.self.inside.clusters.items = subst (λ (w : WithRoom). All (CanPlace p w.facts.kept) w.facts.clusters) (sym c.self.view_is) c.requires.renew.positions in
    subst (λ (w : core.WithRoom). CanPlace p w.facts.kept c.index_mut.result.now) (sym c.loop-i.invariant.core)
    (subst (λ (x : ClusterFacts). CanPlace p c.self.inside.core.facts.kept x) (sym is) (all _ no_facts (low listed)))

pub add-requires : goal.add-requires
add-requires c =
    let inside = low (goal.at.add-requires c).After-positions in
    let room = ap (λ (w : WithRoom). length w.facts.clusters) c.self.view_is in
    omega (arith, inside, c.loop-i.invariant.marks_room, c.requires.all, room)

-- where the links of this cluster were placed, it is marked
marked-more : (b : Bool) (n : ℕ) (marks marks' : List Bool) → n < length marks → (b ≡ true → marks' ≡ set marks n true) → (b ≡ false → marks' ≡ marks)
    → (length marks' ≡ length marks) × ((i : ℕ) → get_or marks' i false ≡ false → get_or marks i false ≡ false) × (get_or marks' n false ≡ false → b ≡ false)
marked-more true n marks marks' low one none =
    let is : marks' ≡ set marks n true = one refl in
    let here : get_or marks' n false ≡ true = ap (λ (ms : List Bool). get_or ms n false) is ∙ get_or-set_same marks n true false low in (
      ap length is ∙ length-set marks n true,
      λ i h. elsewhere i (cases_eq i n) (ap (λ (ms : List Bool). get_or ms i false) (sym is) ∙ h),
      λ h. absurd (clash _ here h),
    )
  where
    elsewhere : (i : ℕ) → (i ≡ n) ⊎ (i ≢ n) → get_or (set marks n true) i false ≡ false → get_or marks i false ≡ false
    elsewhere i (inl same) h = absurd (clash _ (ap (λ m. get_or (set marks n true) m false) same ∙ get_or-set_same marks n true false low) h)
    elsewhere i (inr apart) h = sym (get_or-set_other marks n i true false apart) ∙ h
marked-more false n marks marks' low one none = let is : marks' ≡ marks = none refl in (ap length is, λ i h. ap (λ (ms : List Bool). get_or ms i false) (sym is) ∙ h, λ h. refl)

pub loop-i-preserved : goal.loop-i-preserved
loop-i-preserved c =
    let listed = (goal.at.loop-i-preserved c).After-positions in
    let n : ℕ = get_or c.positions.result.now c.loop-i.i 0 in
    let i : ℕ = c.loop-i.i in
    let qs : List ℕ = c.list.new.self.positions in
    let cs : List ClusterFacts = c.loop-i.self-inside.clusters.items in
    let olds : List ClusterFacts = c.self.inside.clusters.items in
    let x : core.Facts = c.self.inside.core.facts in
    let ts : List ℕ = numbers c.self.inside.looked.items in
    let new : ClusterFacts = c.renew.new.self in
    let at : n ≡ get_or qs i 0 = next listed in
    let apart : IsDistinct qs = once listed in
    let there : i < length qs = within listed in
    let l : n < length olds = low listed in
    let inside : n < length cs = omega (arith, l, c.loop-i.invariant.room) in
    let is : c.index_mut.result.now ≡ cluster_at olds n = was (goal.at.loop-i-preserved c).After-index_mut l (unseen listed) in
    let looked : numbers c.loop-i.self-inside.looked.items ≡ ts = rw c.loop-i.invariant.looked refl in
    let now : HasRenewed c.args.parts.now x ts (cluster_at olds n) new =
    renewed-as c.args.parts.now c.loop-i.self-inside.core.facts x (numbers c.as_slice-in-loop-i.result.now) ts c.index_mut.result.now (cluster_at olds n) new
    (ap (λ (w : core.WithRoom). w.facts) c.loop-i.invariant.core)
    (ap numbers c.as_slice-in-loop-i.ensures.value ∙ looked) is c.renew.ensures.renewed in
    let before : cluster_at cs n ≡ cluster_at olds n = c.loop-i.invariant.rest n (unseen listed) in
    let room = ap (λ (w : WithRoom). length w.facts.clusters) c.self.view_is in
    let few : n < length c.loop-i.placed = omega (arith, l, c.loop-i.invariant.marks_room, c.requires.all, room) in
    let marked = marked-more c.renew.result n c.loop-i.placed c.if-renew.placed few
    (λ h. elim c.if-renew.branch [ then-renew w ↦ w.placed-is ∙ w.add.ensures | else-renew w ↦ absurd (clash _ h w.if-renew.false) ])
    (λ h. elim c.if-renew.branch [ then-renew w ↦ absurd (clash _ w.if-renew.true h) | else-renew w ↦ w.placed-is ]) in
    record {
      core = c.loop-i.invariant.core;
      moments = c.loop-i.invariant.moments;
      looked = c.loop-i.invariant.looked;
      visits = c.loop-i.invariant.visits;
      count = c.loop-i.invariant.count;
      room = length-set cs n new ∙ c.loop-i.invariant.room;
      homes = homes-set c.args.parts.now x ts cs c.list.new.self n new inside (subst (λ (y : ClusterFacts). HasRenewed c.args.parts.now x ts y new) (sym before) now) c.loop-i.invariant.homes;
      done = each-set (λ m y. has m (take (i + 1) qs) ≡ true → HasRenewed c.args.parts.now x ts (cluster_at olds m) y) cs n new inside
          (λ m ne h. c.loop-i.invariant.done m (sym (taken-other qs i n at apart there m ne) ∙ h)) (λ h. now);
      marks_room = marked.0 ∙ c.loop-i.invariant.marks_room;
      marks_stay = λ k h. c.loop-i.invariant.marks_stay k (marked.1 k h);
      links_stay = each-set (λ m y. get_or c.if-renew.placed m false ≡ false → y.links ≡ (cluster_at olds m).links) cs n new inside
          (λ m ne h. c.loop-i.invariant.links_stay m (marked.1 m h)) (λ h. c.renew.ensures.stays (marked.2 h) ∙ ap (λ (y : ClusterFacts). y.links) is);
      rest = each-set (λ m y. has m (take (i + 1) qs) ≡ false → y ≡ cluster_at olds m) cs n new inside
          (λ m ne h. c.loop-i.invariant.rest m (sym (taken-other qs i n at apart there m ne) ∙ h)) (λ h. absurd (clash _ (taken-here qs i n at apart there) h));
    }

pub returns-clause-clusters : goal.returns-clause-clusters
returns-clause-clusters c =
    let p = c.args.parts.now in
    let x : core.Facts = c.self.inside.core.facts in
    let ts : List ℕ = numbers c.self.inside.looked.items in
    let olds : List ClusterFacts = c.self.inside.clusters.items in
    let cs : List ClusterFacts = c.loop-i.self-inside.clusters.items in
    let v : VisitFacts = c.list.new.self in
    let count = ap (λ (qs : List ℕ). length qs) c.positions-i-end.ensures.positions in
    let all : take c.loop-i.i v.positions ≡ v.positions = take_all c.loop-i.i v.positions (omega (arith, c.loop-i-test.false, count)) in
    let visited : AreVisited ts x.resvs.changed c.args.ran v = visited-as _ ts _ x.resvs.changed c.args.ran v (ap numbers c.as_slice.ensures.value) c.changed.ensures c.list.ensures.visited in
    let homes : AreHomes olds v = homes-as olds c.self.inside.visits v c.list.ensures.rest c.self.invariant.1 in
    let placed : ArePlacedBut c.args.ran x.kept olds = subst (λ (w : WithRoom). ArePlacedBut c.args.ran w.facts.kept w.facts.clusters) (sym c.self.view_is) c.requires.placed in
    subst (λ (w : WithRoom). HaveRenewed p (core_of w.facts) w.facts.looked w.facts.clusters cs) c.self.view_is
    (each-renewed p x ts c.args.ran olds cs v homes visited placed
    (λ m h. c.loop-i.invariant.done m (ap (has m) all ∙ h)) (λ m h. c.loop-i.invariant.rest m (ap (has m) all ∙ h)))
