-- The semaphores of a group as they are at first.
use Rattle.std.proofs.Common.{◌≡◌, ◌∙◌, ◌<◌, ◌≤◌, ◌+◌, ℕ, zero, suc, true, List, [], ◌∷◌, refl, sym, ap, arith, length, subst, map, eqb-true, inl, inr}
use Rattle.std.specs.Prelude.{Bool, false, Option, ◌==◌, slice_index_or}
use Rattle.std.specs.List.{list_any}
use Rattle.std.proofs.lemmas.List.{length-map, length-replicate}
use Rattle.rt_task.specs.RuleWords.{stands_under}
use Rattle.rt_task.specs.declared.PluginKind.{PluginKind}
use Rattle.rt_task.specs.declared.PluginKind.TheVariants as plugins
use Rattle.rt_task.specs.declared.Protocol.{Protocol}
use Rattle.rt_task.specs.declared.Protocol.TheVariants.{Fmlp, Mpcp, Omlp, Pcp, Srp}
use Rattle.rt_rules.specs.declared.Key.{Key}
use Rattle.rt_rules.specs.Keys.{highest}
use Rattle.rt_rules.specs.Numbers.{has, is, numbers_from}
use Rattle.rt_model.specs.BaseKeys.{base_key, key_by}
use Rattle.rt_model.specs.Ceilings.{ceiling, pcp}
use Rattle.rt_rules.specs.KeyOrder.{lowest_key}
use Rattle.rt_model.specs.Group.{Group, cpus, in_group, protocol, sems, tasks, users}
use Rattle.rt_model.specs.Semaphores.{cluster_of, fmlp, omlp, mpcp}
use Rattle.rt_model.specs.StackPolicy.{srp, srp_ceiling}
use Rattle.rt_rules.proofs.MemberLaws.{equal_self, has-filter}
use Rattle.rt_rules.proofs.BoolLaws.{both, clash, either, or_true}
use Rattle.rt_laws.proofs.GroupLaws.{user-task, has_room}
use Rattle.rt_laws.proofs.Rules.{MeetsRules}
use Rattle.rt_laws.proofs.ValidSets.{rules_of}
use Rattle.rt_laws.proofs.semaphores.Waiting.{nobody-waits}
use Rattle.rt_rules.proofs.NumberLaws.{has-numbers_from, length-numbers_from, numbers_from-below}
use Rattle.sem_laws.specs.KeptKeys.{key_at}
use Rattle.sem_table.proofs.ClusterSets.{is-pcp}
use Rattle.pcp_sem.specs.PcpKept.{PcpKept}
use Rattle.srp_sem.specs.SrpKept.{SrpKept, ceiling_at}
use Rattle.sem_table.specs.declared.any_sem.AnySem.{AnySem}
use Rattle.sem_table.specs.declared.any_sem.AnySem.TheVariants as any
use Rattle.sem_table.specs.Opened.{IsNew, room, room_for, has_pcp, is_srp_home, new_set, new_set_if, new_srp, new_srp_if, pcp_home, prio_key, prio_ceiling, ceilings, srp_home, srp_row, srp_rows}
use Rattle.sem_table.specs.SemTable.{no_set, no_srp_set, sem_at}
use Rattle.sem_table.specs.Keeping.{NewKeeps}
use Rattle.sem_table.specs.KeptSems.{HasRoom, IsPcpOf, IsSrpOf, KeepsSem, KeepsSet, KeepsSrp}

pub between : (t a n : ℕ) → has t (numbers_from a n) ≡ true → (a ≤ t) × (t < a + n)
between t a n h = (has-numbers_from t a n h, numbers_from-below t a n h)

read-mapped : {X : Type 0} (f : ℕ → X) (d : X) (a n i : ℕ) → i < n → slice_index_or (map f (numbers_from a n)) i d ≡ f (a + i)
read-mapped f d a zero i h = absurd (omega arith)
read-mapped f d a (suc n) zero h = ap f (omega arith)
read-mapped f d a (suc n) (suc i) h = read-mapped f d (suc a) n i (omega arith) ∙ ap f (omega arith)

sem-range : (g : Group) (s : ℕ) → has s (sems g) ≡ true → (1 ≤ s) × (s < 1 + length g.setup.sems)
unfolding sems
sem-range g s h = between s 1 (length g.setup.sems) h

task-range : (g : Group) (t : ℕ) → has t (tasks g) ≡ true → t < length g.setup.tasks + 1
unfolding tasks
task-range g t h = let q : has t (numbers_from 1 (length g.setup.tasks)) ≡ true = (both _ _ (rw has-filter at h)).0 in let b = between t 1 (length g.setup.tasks) q in omega arith

room-more : (us : List ℕ) (n t u : ℕ) → has u us ≡ true → t < n + 1 → t < room_for us n
room-more [] n t u h k = cc
room-more (x ∷ us) n t u h k = k

room-fits : (g : Group) (s : ℕ) → HasRoom g s (room g s)
room-fits g s t h = room-more (users g s) (length g.setup.tasks) t t h (task-range g t (user-task g s t h).0)

kept-new : (g : Group) → MeetsRules g → (s : ℕ) (p : Protocol) (k : AnySem) → IsNew g s p k → KeepsSem g s [] p k
unfolding fmlp omlp mpcp
kept-new g rules s Fmlp (any.Fmlp l) h = record { line = h.1; room = λ t u. subst (λ (n : ℕ). t < n) (sym h.0) (room-fits g s t u) }
kept-new g rules s Omlp (any.Omlp k) h = record {
  state = h.1;
  cap = h.0 ∙ (let m : 1 ≤ cpus g (cluster_of g s) = has_room g rules s in omega arith);
  room = λ t u. subst (λ (n : ℕ). t < n) (sym h.2) (room-fits g s t u);
  keys = λ u m. absurd (clash _ m (nobody-waits g u s));
}
kept-new g rules s Mpcp (any.Mpcp k) h = record {
  state = h.0;
  room = λ t u. subst (λ (n : ℕ). t < n) (sym h.1) (room-fits g s t u);
  keys = λ u m. absurd (clash _ m (nobody-waits g u s));
}
kept-new g rules s Pcp (any.Pcp c) h = h
kept-new g rules s Srp (any.Srp c) h = h
kept-new g rules s p k h = absurd h

prio-base : (g : Group) (t : ℕ) → stands_under Pcp g.setup.plugin ≡ true → prio_key g t ≡ base_key g t []
unfolding base_key key_by
prio-base g t h = by_plugin g.setup.plugin h
  where
    by_plugin : (p : PluginKind) → stands_under Pcp p ≡ true → prio_key g t ≡ key_by g p t []
    by_plugin plugins.PFp k = refl
    by_plugin plugins.GsnEdf k = cc
    by_plugin plugins.CEdf k = cc
    by_plugin plugins.PsnEdf k = cc
    by_plugin plugins.PRes k = cc

map-eq : (f h : ℕ → Key) (xs : List ℕ) → ((x : ℕ) → f x ≡ h x) → map f xs ≡ map h xs
map-eq f h [] e = refl
map-eq f h (x ∷ xs) e = rw (e x, map-eq f h xs e) refl

ceiling-is : (g : Group) (s : ℕ) → stands_under Pcp g.setup.plugin ≡ true → prio_ceiling g s ≡ ceiling g s
unfolding ceiling
ceiling-is g s h = ap (highest lowest_key) (map-eq (prio_key g) (λ t. base_key g t []) (users g s) (λ t. prio-base g t h))

ceilings-at : (g : Group) (s : ℕ) → has s (sems g) ≡ true → key_at (ceilings g) s ≡ prio_ceiling g s
unfolding sems
ceilings-at g s h = read s (between s 1 (length g.setup.sems) h).0 (between s 1 (length g.setup.sems) h).1
  where
    read : (r : ℕ) → 1 ≤ r → r < 1 + length g.setup.sems → slice_index_or (lowest_key ∷ map (prio_ceiling g) (numbers_from 1 (length g.setup.sems))) r (record { band = 0; major = 0; minor = 0 }) ≡ prio_ceiling g r
    read zero a b = absurd (omega arith)
    read (suc r) a b = read-mapped (prio_ceiling g) _ 1 (length g.setup.sems) r (omega arith) ∙ ap (prio_ceiling g) (omega arith)

ceilings-length : (g : Group) → length (ceilings g) ≡ length g.setup.sems + 1
unfolding sems
ceilings-length g = let m : length (map (prio_ceiling g) (numbers_from 1 (length g.setup.sems))) ≡ length (numbers_from 1 (length g.setup.sems)) = length-map _ _ in let n : length (numbers_from 1 (length g.setup.sems)) ≡ length g.setup.sems = length-numbers_from 1 _ in omega arith

any-mapped : (p : Option ℕ → Bool) (f : ℕ → Option ℕ) (xs : List ℕ) (x : ℕ) → has x xs ≡ true → p (f x) ≡ true → list_any p (map f xs) ≡ true
any-mapped p f [] x h k = cc
any-mapped p f (y ∷ ys) x h k = elim (either (x == y) (has x ys) h) [ inl m ↦ let same : x ≡ y = eqb-true x y m in rw (← same, k) refl | inr m ↦ rw (any-mapped p f ys x m k) (or_true (p (f y))) ]

-- a cluster of the group that has a PCP semaphore is seen to have one
finds-pcp : (g : Group) (c s : ℕ) → in_group g c ≡ true → IsPcpOf g c s → has_pcp g c ≡ true
finds-pcp g c s mine o = rw (mine, any-mapped (is c) (pcp_home g) (sems g) s o.known (rw (o.of_pcp, o.home_is) (equal_self c))) refl

set-new : (g : Group) → MeetsRules g → (c : ℕ) → in_group g c ≡ true → KeepsSet g c [] (new_set g c)
unfolding pcp
set-new g rules c mine = by_case (has_pcp g c) refl
  where
    by_case : (b : Bool) → has_pcp g c ≡ b → KeepsSet g c [] (new_set_if b (ceilings g) (length g.setup.tasks))
    by_case true h = record {
      state = refl;
      known = λ s o. let b = sem-range g s o.known in omega (arith, ceilings-length g);
      ceilings = λ s o. ceilings-at g s o.known ∙ ceiling-is g s (subst (λ (x : Protocol). stands_under x g.setup.plugin ≡ true) (is-pcp (protocol g s) o.of_pcp) (rules.is_allowed s o.known));
      room = λ s t o there. let b = task-range g t there in omega (arith, length-replicate (length g.setup.tasks + 1) lowest_key);
      keys = λ t s m. cc;
      sound = record { held_by = λ t s m. cc; awaited_by = λ t s m. cc; one_holder = tt; waits_once = tt; unheld = λ t s m. cc };
    }
    by_case false h = record {
      state = refl;
      known = λ s o. absurd (clash _ (finds-pcp g c s mine o) h);
      ceilings = λ s o. absurd (clash _ (finds-pcp g c s mine o) h);
      room = λ s t o there. absurd (clash _ (finds-pcp g c s mine o) h);
      keys = λ t s m. cc;
      sound = record { held_by = λ t s m. cc; awaited_by = λ t s m. cc; one_holder = tt; waits_once = tt; unheld = λ t s m. cc };
    }

-- ---- SRP

rows-at : (g : Group) (s : ℕ) → IsSrpOf g (cluster_of g s) s → ceiling_at (srp_rows g) s ≡ srp_ceiling g s
unfolding sems
rows-at g s o = let b = sem-range g s o.known in read s b.0 b.1 ∙ rw o.of_srp
  where
    read : (r : ℕ) → 1 ≤ r → r < 1 + length g.setup.sems → ceiling_at (0 ∷ map (srp_row g) (numbers_from 1 (length g.setup.sems))) r ≡ srp_row g r
    read zero a b = absurd (omega arith)
    read (suc r) a b = read-mapped (srp_row g) _ 1 (length g.setup.sems) r (omega arith) ∙ ap (srp_row g) (omega arith)

rows-length : (g : Group) → length (srp_rows g) ≡ length g.setup.sems + 1
unfolding sems
rows-length g = let m : length (map (srp_row g) (numbers_from 1 (length g.setup.sems))) ≡ length (numbers_from 1 (length g.setup.sems)) = length-map _ _ in let n : length (numbers_from 1 (length g.setup.sems)) ≡ length g.setup.sems = length-numbers_from 1 _ in omega arith

-- a cluster of the group that has an SRP semaphore is seen to have one
finds-srp : (g : Group) (c s : ℕ) → in_group g c ≡ true → IsSrpOf g c s → is_srp_home g c ≡ true
finds-srp g c s mine o = rw (mine, any-mapped (is c) (srp_home g) (sems g) s o.known (rw (o.of_srp, o.home_is) (equal_self c))) refl

srp-new : (g : Group) (c : ℕ) → in_group g c ≡ true → KeepsSrp g c [] (new_srp g c)
unfolding srp
srp-new g c mine = by_case (is_srp_home g c) refl
  where
    by_case : (b : Bool) → is_srp_home g c ≡ b → KeepsSrp g c [] (new_srp_if b (srp_rows g) (length g.setup.tasks))
    by_case true h = record {
      held = refl;
      known = λ s o. let b = sem-range g s o.known in omega (arith, rows-length g);
      ceilings = λ s o. rows-at g s (record { known = o.known; of_srp = o.of_srp; home_is = refl });
      room = λ s t o there. let b = task-range g t there in omega arith;
      once = tt;
    }
    by_case false h = record {
      held = refl;
      known = λ s o. absurd (clash _ (finds-srp g c s mine o) h);
      ceilings = λ s o. absurd (clash _ (finds-srp g c s mine o) h);
      room = λ s t o there. absurd (clash _ (finds-srp g c s mine o) h);
      once = tt;
    }

pub new_keeps : NewKeeps
new_keeps g w valid o = record {
  sem_room = λ s there. let b = sem-range g s there in omega (arith, o.count);
  set_room = λ c low. let m : length (map (new_set g) (numbers_from 0 (length g.setup.clusters))) ≡ length (numbers_from 0 (length g.setup.clusters)) = length-map _ _ in omega (arith, ap length o.sets, m, length-numbers_from 0 (length g.setup.clusters));
  srp_room = λ c low. let m : length (map (new_srp g) (numbers_from 0 (length g.setup.clusters))) ≡ length (numbers_from 0 (length g.setup.clusters)) = length-map _ _ in omega (arith, ap length o.srp_sets, m, length-numbers_from 0 (length g.setup.clusters));
  kept = λ s there. let b = sem-range g s there in kept-new g (rules_of g valid) s (protocol g s) (sem_at w.sems s) (o.sems s (omega (arith, o.count)) b.0);
  srp_sets = λ c low mine. subst (λ (p : SrpKept). KeepsSrp g c [] p) (sym (ap (λ (ps : List SrpKept). slice_index_or ps c no_srp_set) o.srp_sets ∙ read-mapped (new_srp g) _ 0 (length g.setup.clusters) c low ∙ ap (new_srp g) (omega arith))) (srp-new g c mine);
  sets = λ c low mine. subst (λ (p : PcpKept). KeepsSet g c [] p) (sym (ap (λ (ps : List PcpKept). slice_index_or ps c no_set) o.sets ∙ read-mapped (new_set g) _ 0 (length g.setup.clusters) c low ∙ ap (new_set g) (omega arith))) (set-new g (rules_of g valid) c mine);
}
