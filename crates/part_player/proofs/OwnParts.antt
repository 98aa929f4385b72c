-- What holds of a processor of a split set: it is its cluster, and a partition of its own.
use Rattle.std.proofs.Common.{◌≡◌, ◌⊎◌, ℕ, ◌-◌, ◌<◌, ◌≤◌, Bool, true, false, List, [], ◌∷◌, length, refl, sym, ap, ◌∙◌, subst, inl, inr, arith, eqb-true, leb-true, ltb-true}
use Rattle.std.proofs.lemmas.Bool.{ltb-false}
use Rattle.std.specs.Prelude.{flat_map}
use Rattle.std.specs.List.{list_all, filter}
use Rattle.std.specs.Prelude.{◌==◌, ◌||◌, if◌then◌else◌, nat_le, nat_lt, slice_index_or}
use Rattle.std.proofs.lemmas.List.{get_or_past}
use Rattle.std.proofs.lemmas.List.Concat.{flat_map-cons}
use Rattle.std.proofs.lemmas.List.Sums.{AllPass-from_list_all}
use Rattle.rt_task.specs.RuleWords.{is_p_res, is_partitioned}
use Rattle.rt_task.specs.Validity.{IsValid}
use Rattle.rt_task.specs.declared.Drive.{Drive}
use Rattle.rt_task.specs.declared.Drive.TheVariants as drives
use Rattle.rt_task.specs.declared.Parts.{Parts}
use Rattle.rt_task.specs.declared.PluginKind.{PluginKind}
use Rattle.rt_task.specs.declared.PluginKind.TheVariants as plugins
use Rattle.rt_task.specs.declared.Protocol.{Protocol}
use Rattle.rt_task.specs.declared.Protocol.TheVariants as protocols
use Rattle.rt_task.specs.declared.Sem.{Sem}
use Rattle.rt_task.specs.declared.Step.{Step}
use Rattle.rt_rules.specs.Numbers.{has, numbers_from}
use Rattle.rt_rules.proofs.BoolLaws.{both, clash, not_true, or_true}
use Rattle.rt_rules.proofs.MemberLaws.{equal_self, has-filter, has-append}
use Rattle.rt_rules.proofs.NumberLaws.{numbers_from-has}
use Rattle.rt_model.specs.Group.{Group, cluster, cluster_with, clusters, cpus, first_cpu, group_processors, home, in_group, no_cluster, no_sem, no_task, processors, protocol, sem, task, tasks, tasks_of}
use Rattle.rt_plays.specs.Drives.{steps_given}
use Rattle.rt_plays.specs.Plays.{group_with}
use Rattle.rt_plays.specs.Room.{processor_count}
use Rattle.rt_plays.proofs.SetLimits.{sets_are_in_limits}
use Rattle.rt_laws.proofs.GroupLaws.{tasks_of-home}
use Rattle.rt_laws.proofs.ValidSets.{rules_of, task-numbered}
use Rattle.split_set.specs.SplitSets.{has_split_steps, is_split_act, is_split_plugin, is_split_protocol, is_split_set, is_split_task}
use Rattle.split_set.specs.declared.TheConstants.{MOST_SPLIT_STEPS}
use Rattle.split_rules.specs.PartLinks as links
use Rattle.split_rules.specs.Partitions.{group_no, part_group}
use Rattle.split_rules.specs.SemHistories.{seat_of}
use Rattle.split_laws.specs.Keys.{AllBoost}
use Rattle.split_laws.specs.Parts.{IsSeat}
use Rattle.part_player.specs.inside.Openings.{tasks_at}
use Rattle.part_player.specs.Players.{IsOfSplit}
use Rattle.part_player.proofs.SingleClusters.{AreSingle, single-first, single-in, single-sum}

-- ---- what a split set is

is-partitioned : (x : PluginKind) → is_split_plugin x ≡ true → is_partitioned x ≡ true
is-partitioned plugins.PsnEdf h = refl
is-partitioned plugins.PFp h = refl
is-partitioned plugins.GsnEdf h = cc
is-partitioned plugins.CEdf h = cc
is-partitioned plugins.PRes h = cc

no-reservation : (x : PluginKind) → is_split_plugin x ≡ true → is_p_res x ≡ false
no-reservation plugins.PsnEdf h = refl
no-reservation plugins.PFp h = refl
no-reservation plugins.GsnEdf h = refl
no-reservation plugins.CEdf h = refl
no-reservation plugins.PRes h = cc

is-boosted : (x : Protocol) → is_split_protocol x ≡ true → (x ≡ protocols.Fmlp) ⊎ (x ≡ protocols.Mpcp)
is-boosted protocols.Fmlp h = inl refl
is-boosted protocols.Mpcp h = inr refl
is-boosted protocols.Omlp h = cc
is-boosted protocols.Pcp h = cc
is-boosted protocols.Srp h = cc

pub record IsSplit (p : Parts) : Type 0 where
  pub plugin : is_split_plugin p.plugin ≡ true
  pub steps : has_split_steps p.drive ≡ true
  pub sems : list_all (λ (s : Sem). is_split_protocol s.protocol) p.sems ≡ true
  pub tasks : list_all is_split_task p.tasks ≡ true

pub split-parts : (p : Parts) → is_split_set p ≡ true → IsSplit p
split-parts p h =
    let one = both (is_split_plugin p.plugin) _ h in
    let two = both (has_split_steps p.drive) _ one.1 in
    let three = both (list_all (λ (s : Sem). is_split_protocol s.protocol) p.sems) _ two.1 in
    record { plugin = one.0; steps = two.0; sems = three.0; tasks = three.1 }

few-of : (x : Drive) → has_split_steps x ≡ true → length (steps_given x) ≤ MOST_SPLIT_STEPS
few-of (drives.Steps xs) h = leb-true _ _ (both _ _ h).0
few-of (drives.Horizon n) h = cc

acts-of : (x : Drive) → has_split_steps x ≡ true → list_all (λ (s : Step). is_split_act s.act) (steps_given x) ≡ true
acts-of (drives.Steps xs) h = (both (nat_le (length xs) MOST_SPLIT_STEPS) _ h).1
acts-of (drives.Horizon n) h = refl

-- ---- its clusters

module _ (p : Parts) (valid : IsValid p) (split : is_split_set p ≡ true) where
  parts : IsSplit p
  parts = split-parts p split

  pub few-steps : length (steps_given p.drive) ≤ MOST_SPLIT_STEPS
  few-steps = few-of p.drive parts.steps

  pub split-acts : list_all (λ (s : Step). is_split_act s.act) (steps_given p.drive) ≡ true
  split-acts = acts-of p.drive parts.steps

  pub no-resvs : is_p_res p.plugin ≡ false
  no-resvs = no-reservation p.plugin parts.plugin

  pub single : AreSingle p.clusters
  unfolding cpus cluster
  single i low = (rules_of (group_with p 0) valid).is_single i (is-partitioned p.plugin parts.plugin) low

  pub count-is : processor_count p ≡ length p.clusters
  count-is = single-sum p.clusters single

  pub all-boost : (m : ℕ) → AllBoost (group_with p m)
  unfolding protocol sem
  all-boost m s = by_place (nat_lt (s - 1) (length p.sems)) refl
    where
      by_place : (b : Bool) → nat_lt (s - 1) (length p.sems) ≡ b → ((slice_index_or p.sems (s - 1) no_sem).protocol ≡ protocols.Fmlp) ⊎ ((slice_index_or p.sems (s - 1) no_sem).protocol ≡ protocols.Mpcp)
      by_place true h = is-boosted _ (AllPass-from_list_all (λ (x : Sem). is_split_protocol x.protocol) p.sems parts.sems (s - 1) no_sem (ltb-true _ _ h))
      by_place false h = inl (ap (λ (x : Sem). x.protocol) (get_or_past p.sems (s - 1) no_sem (ltb-false _ _ h)))

  pub not-enforced : (m t : ℕ) → has t (tasks (group_with p m)) ≡ true → (task (group_with p m) t).enforce ≡ false
  unfolding task
  not-enforced m t h =
      let low = task-numbered (group_with p m) t h in
      let one = AllPass-from_list_all is_split_task p.tasks parts.tasks (t - 1) no_task low in
      not_true _ (both _ _ (both _ _ one).1).0

  pub cluster-is : (m q : ℕ) → q < processor_count p → cluster_with (group_with p m) q ≡ q
  unfolding cluster_with
  cluster-is m q low = single-in p.clusters q single (let c = count-is in omega (arith, low, c))

  pub first-is : (m c : ℕ) → c < processor_count p → first_cpu (group_with p m) c ≡ c
  unfolding first_cpu
  first-is m c low = single-first p.clusters c single (let n = count-is in omega (arith, low, n))

  -- a task's processor is its cluster
  pub seat-is : (m t : ℕ) → home (group_with p m) t < processor_count p → seat_of (group_with p m) t ≡ home (group_with p m) t
  unfolding seat_of
  seat-is m t low = first-is m (home (group_with p m) t) low

-- a task's processor is there, and the task is of its partition
pub record IsHomePart (p : Parts) (t : ℕ) : Type 0 where
  pub there : home (group_with p 0) t < processor_count p
  pub seat : seat_of (group_with p 0) t ≡ home (group_with p 0) t
  pub member : has t (links.tasks (part_group p (home (group_with p 0) t)) (home (group_with p 0) t)) ≡ true

-- ---- one of its processors

module _ (p : Parts) (q : ℕ) (of : IsOfSplit p q) where
  abbrev pub g : Group
  g = part_group p q

  cluster_is : cluster_with g q ≡ q
  cluster_is = cluster-is p of.valid of.split (group_no p q) q of.there

  pub own-seat : IsSeat g q
  own-seat = ap (first_cpu g) cluster_is ∙ first-is p of.valid of.split (group_no p q) q of.there

  pub own-part : links.part g q ≡ q
  unfolding links.part
  own-part = cluster_is

  pub own-low : q < length p.clusters
  own-low = let c = count-is p of.valid of.split in let h = of.there in omega (arith, c, h)

  one-cpu : cpus g q ≡ 1
  unfolding cpus cluster
  one-cpu = single p of.valid of.split q own-low

  pub own-cpus : cpus g (links.part g q) ≡ 1
  own-cpus = ap (cpus g) own-part ∙ one-cpu

  -- its cluster is of the group
  pub in-own : in_group g q ≡ true
  unfolding in_group cluster
  in-own = ap (λ c. (slice_index_or p.clusters q no_cluster).group.0 == (cluster (group_with p 0) c).group.0) (cluster-is p of.valid of.split 0 q of.there) ∙ equal_self _

  pub own-group : (slice_index_or p.clusters q no_cluster).group.0 ≡ group_no p q
  unfolding cluster
  own-group = ap (λ c. (slice_index_or p.clusters c no_cluster).group.0) (sym (cluster-is p of.valid of.split 0 q of.there))

  flat-has : (f : ℕ → List ℕ) (cs : List ℕ) (x c : ℕ) → has c cs ≡ true → has x (f c) ≡ true → has x (flat_map f cs) ≡ true
  flat-has f [] x c h k = cc
  flat-has f (d ∷ cs) x c h k = by_case (c == d) refl h (flat-has f cs x c)
    where
      by_case : (b : Bool) → c == d ≡ b → b || has c cs ≡ true → (has c cs ≡ true → has x (f c) ≡ true → has x (flat_map f cs) ≡ true) → has x (flat_map f (d ∷ cs)) ≡ true
      by_case true e m rest = ap (has x) (flat_map-cons f d cs) ∙ has-append x (f d) (flat_map f cs) ∙ ap (λ b. b || has x (flat_map f cs)) (subst (λ a. has x (f a) ≡ true) (eqb-true c d e) k)
      by_case false e m rest = ap (has x) (flat_map-cons f d cs) ∙ has-append x (f d) (flat_map f cs) ∙ ap (λ b. has x (f d) || b) (rest m k) ∙ or_true (has x (f d))

  pub own-inside : has q (group_processors g) ≡ true
  unfolding group_processors processors clusters
  own-inside =
      let first = first-is p of.valid of.split (group_no p q) q of.there in
      let one = one-cpu in
      let listed : has q (numbers_from 0 (length p.clusters)) ≡ true = numbers_from-has 0 (length p.clusters) q (omega arith) (let h = own-low in omega (arith, h)) in
      let there : has q (clusters g) ≡ true = rw (has-filter, listed, in-own) refl in
      let here : has q (numbers_from (first_cpu g q) (cpus g q)) ≡ true = numbers_from-has (first_cpu g q) (cpus g q) q (omega (arith, first)) (omega (arith, first, one)) in
      flat-has (processors g) (clusters g) q q there here

  twice : (f h : ℕ → Bool) (xs : List ℕ) → ((t : ℕ) → f t ≡ true → h t ≡ true) → filter f (filter h xs) ≡ filter f xs
  twice f h [] both = refl
  twice f h (x ∷ xs) both = by_case (f x) refl (h x) refl (twice f h xs both)
    where
      by_case : (b : Bool) → f x ≡ b → (c : Bool) → h x ≡ c → filter f (filter h xs) ≡ filter f xs
          → filter f (if c then x ∷ filter h xs else filter h xs) ≡ (if b then x ∷ filter f xs else filter f xs)
      by_case true e true k rest = rw e (ap (λ ys. x ∷ ys) rest)
      by_case false e true k rest = rw e rest
      by_case false e false k rest = rest
      by_case true e false k rest = absurd (clash (h x) (both x e) k)

  pub own-tasks : tasks_at p.tasks q ≡ links.tasks g q
  unfolding links.tasks tasks_of tasks home task
  own-tasks =
      sym (ap (λ c. filter (λ t. home g t == c) (tasks g)) own-part
      ∙ twice (λ t. home g t == q) (λ t. in_group g (home g t)) (numbers_from 1 (length p.tasks)) (λ t h. ap (in_group g) (eqb-true (home g t) q h) ∙ in-own))

  -- the tasks of the partition are of the group, and of this processor
  pub own-task : (t : ℕ) → has t (links.tasks g q) ≡ true → (has t (tasks g) ≡ true) × (seat_of g t ≡ q)
  unfolding links.tasks
  own-task t h =
      let at = tasks_of-home g (links.part g q) t h in
      let is : home g t ≡ q = at.1 ∙ own-part in
      (at.0, seat-is p of.valid of.split (group_no p q) t (subst (λ c. c < processor_count p) (sym is) of.there) ∙ is)

-- a task of the set is of the partition of its cluster's processor
pub home-task : (p : Parts) (t : ℕ) → IsValid p → is_split_set p ≡ true → 1 ≤ t → t ≤ length p.tasks → IsHomePart p t
unfolding home task links.tasks tasks_of tasks
home-task p t valid split low high =
    let c : ℕ = home (group_with p 0) t in
    let limits = (sets_are_in_limits p valid).tasks_in (t - 1) (omega (arith, low, high)) in
    let count = count-is p valid split in
    let there : c < processor_count p = let l = limits.cluster_there in omega (arith, l, count) in
    let of : IsOfSplit p c = record { valid = valid; split = split; there = there } in
    let seat = seat-is p valid split 0 t there in
    let listed : has t (numbers_from 1 (length p.tasks)) ≡ true = numbers_from-has 1 (length p.tasks) t low (omega (arith, high)) in
    let member : has t (links.tasks (part_group p c) c) ≡ true =
    subst (λ ts. has t ts ≡ true) (own-tasks p c of) (has-filter (λ u. (slice_index_or p.tasks (u - 1) no_task).cluster.0 == c) t (numbers_from 1 (length p.tasks)) ∙ rw (listed, equal_self c) refl) in
    record { there = there; seat = seat; member = member }
