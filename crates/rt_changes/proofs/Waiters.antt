-- Who waits for a task, from the states of semaphores alone.
use Rattle.std.proofs.Common.{Bool, List, [], false, map, refl, subst, sym, true, ℕ, ◌&&◌, ◌||◌, ◌∙◌, ◌∷◌, ◌≡◌}
use Rattle.std.specs.Prelude.{None, Option, Some, if◌then◌else◌, ◌==◌}
use Rattle.rt_task.specs.Validity.{IsValid}
use Rattle.rt_task.specs.RuleWords.{is_stacked, stands_under}
use Rattle.rt_task.specs.declared.PluginKind.TheVariants as plugins
use Rattle.rt_task.specs.declared.PluginKind.{PluginKind}
use Rattle.rt_task.specs.declared.Protocol.TheVariants.{Fmlp, Mpcp, Omlp, Pcp, Srp}
use Rattle.rt_task.specs.declared.Protocol.{Protocol}
use Rattle.rt_rules.specs.Numbers.{first, has, is}
use Rattle.rt_rules.specs.Pcp.{TaskSem, of_sem}
use Rattle.rt_model.specs.Ceilings.{is_pcp, pcp}
use Rattle.rt_model.specs.EffectiveKeys.{waits_for}
use Rattle.rt_model.specs.Group.{Group, home, protocol, sems, tasks}
use Rattle.rt_model.specs.Holders.{awaits, holder, sem_state}
use Rattle.rt_model.specs.Reachable.{IsReachable}
use Rattle.rt_model.specs.Past.{Past}
use Rattle.rt_model.specs.Semaphores.{cluster_of}
use Rattle.rt_rules.proofs.BoolLaws.{both, clash}
use Rattle.rt_rules.proofs.MemberLaws.{equal_self, has-filter, is-some, some-is}
use Rattle.rt_rules.proofs.PairLaws.{has_pair, pair-of, tasks_of_pairs}
use Rattle.rt_laws.proofs.semaphores.SemaphoreLaws.{holder_holds_one}
use Rattle.rt_laws.proofs.jobs.Engaged.{holder-engaged, waiting-engaged}
use Rattle.rt_laws.proofs.GroupLaws.{user-task}
use Rattle.rt_laws.proofs.semaphores.OneWait.{awaits-is, waits_once}
use Rattle.rt_laws.proofs.pcp.PcpState.{IsUser, pcp-first, pcp-holder, pcp-waiting, pcp_kept, sem-home}
use Rattle.rt_laws.proofs.pcp.PcpWalks.{walk-stops}
use Rattle.rt_laws.proofs.Rules.{MeetsRules}
use Rattle.rt_laws.proofs.srp.SrpUsers.{all_users, srp_cluster}
use Rattle.rt_laws.proofs.ValidSets.{rules_of}
use Rattle.rt_laws.proofs.semaphores.Waiting.{awaits-waits, srp-waiting}
use Rattle.rt_changes.specs.KeysOfWaiters.{waiters}
use Rattle.rt_changes.specs.OwnerKeys.{WaitersOfHolder, WaitersOfNewestOwner}
use Rattle.rt_changes.specs.Owners.{newest_owner, owner}
use Rattle.rt_changes.proofs.Acting.{all_parties}
use Rattle.rt_changes.proofs.Lists.{agree}
use Rattle.rt_changes.proofs.Owning.{waits-owner}

-- the task with the newest grant is of the cluster, and holds a PCP semaphore
pub record IsNewest (g : Group) (c v : ℕ) (past : Past) : Type 0 where
  pub at_home : home g v ≡ c
  pub sem : ℕ
  pub known : has sem (sems g) ≡ true
  pub of_pcp : is_pcp (protocol g sem) ≡ true
  pub holder_is : holder g sem past ≡ Some v

pub newest : (g : Group) → MeetsRules g → (c v : ℕ) (past : Past) → IsReachable g past → newest_owner g c past ≡ Some v → IsNewest g c v past
newest g rules c v past made = by_held (pcp g c past).held refl
  where
    by_held : (l : List TaskSem) → (pcp g c past).held ≡ l → first (map (λ (p : TaskSem). p.task) l) ≡ Some v → IsNewest g c v past
    by_held [] e h = cc
    by_held (p ∷ ps) e h =
        let same : p.task ≡ v = cc in
        let pair : has_pair p.task p.sem (pcp g c past).held ≡ true = rw (e, equal_self p.task, equal_self p.sem) in
        let u : IsUser g c p.task p.sem = (pcp_kept g rules c made).held p.task p.sem pair in
        let d = user-task g p.sem p.task u.user in
        let first_is = pcp-first g c p.task p.sem (pcp g c past) (pcp_kept g rules c made) pair in
        let holds_it : is p.task (holder g p.sem past) ≡ true = rw (pcp-holder g p.sem past u.of_pcp) (subst (λ n. is p.task (first (of_sem p.sem (pcp g n past).held)) ≡ true) (sym (sem-home g rules c p.task p.sem u)) first_is) in
        record {
          at_home = rw (← same) u.at_home;
          sem = p.sem;
          known = rules.is_known p.task p.sem d.0 d.1;
          of_pcp = u.of_pcp;
          holder_is = rw (← same) (is-some p.task (holder g p.sem past) holds_it);
        }

-- who waits at a semaphore is a task that waits for its owner
pub waits-there : (g : Group) → MeetsRules g → (s v w : ℕ) (past : Past) → IsReachable g past → has s (sems g) ≡ true → owner g s past ≡ Some v → has w (sem_state g s past).waiting ≡ true → has w (waiters g v past) ≡ true
waits-there g rules s v w past made there owns h =
    let awaits_it : awaits g w past ≡ Some s = awaits-is g w s past (waits_once g rules made) there h in
    let member : has w (tasks g) ≡ true = (user-task g s w (all_parties g rules made w s (waiting-engaged g w s past h)).user).0 in
    let next_is : waits_for g w past ≡ Some v = waits-owner g rules past made w s awaits_it ∙ owns in
    rw (has-filter (λ u. is v (waits_for g u past)) w (tasks g), member, next_is, equal_self v)

-- a task that waits for another waits at a semaphore that the other owns
pub record WaitsAt (g : Group) (v w : ℕ) (past : Past) : Type 0 where
  pub sem : ℕ
  pub known : has sem (sems g) ≡ true
  pub waits : has w (sem_state g sem past).waiting ≡ true
  pub owns : owner g sem past ≡ Some v

pub waits-at : (g : Group) → MeetsRules g → (v w : ℕ) (past : Past) → IsReachable g past → has w (waiters g v past) ≡ true → WaitsAt g v w past
waits-at g rules v w past made h = by_wait (awaits g w past) refl
  where
    next_is : is v (waits_for g w past) ≡ true
    next_is = (both (has w (tasks g)) _ (rw has-filter at h)).1

    by_wait : (o : Option ℕ) → awaits g w past ≡ o → WaitsAt g v w past
    by_wait None e = let z : is v None ≡ true = rw (walk-stops g rules past made w e) at next_is in cc
    by_wait (Some r) e = let q = awaits-waits g w r past e in record { sem = r; known = q.0; waits = q.1; owns = is-some v (owner g r past) (rw (waits-owner g rules past made w r e) at next_is) }

-- who owns a semaphore of PCP holds no other kind
pub owns-one_kind : (g : Group) (past : Past) → IsValid g.setup → IsReachable g past → (c s v : ℕ) → newest_owner g c past ≡ Some v → has s (sems g) ≡ true → holder g s past ≡ Some v → is_pcp (protocol g s) ≡ true
owns-one_kind g past valid made c s v h there holds_it = by_kind (is_pcp (protocol g s)) refl
  where
    by_kind : (b : Bool) → is_pcp (protocol g s) ≡ b → b ≡ true
    by_kind true k = refl
    by_kind false k =
        let n : IsNewest g c v past = newest g (rules_of g valid) c v past made h in
        by_stack (is_stacked (protocol g s)) refl n k
      where
        rules : MeetsRules g
        rules = rules_of g valid

        apart_at : (p : PluginKind) → stands_under Pcp p ≡ true → stands_under Srp p ≡ true → ⊥
        apart_at plugins.GsnEdf i j = cc
        apart_at plugins.CEdf i j = cc
        apart_at plugins.PsnEdf i j = cc
        apart_at plugins.PFp i j = cc
        apart_at plugins.PRes i j = cc

        no_plugin : (p : PluginKind) (x y : Protocol) → is_pcp x ≡ true → is_pcp y ≡ false → is_stacked y ≡ true → stands_under x p ≡ true → stands_under y p ≡ true → ⊥
        no_plugin p Pcp Srp a b m i j = apart_at p i j
        no_plugin p Pcp Pcp a b m i j = cc
        no_plugin p Pcp Fmlp a b m i j = cc
        no_plugin p Pcp Omlp a b m i j = cc
        no_plugin p Pcp Mpcp a b m i j = cc
        no_plugin p Fmlp y a b m i j = cc
        no_plugin p Omlp y a b m i j = cc
        no_plugin p Mpcp y a b m i j = cc
        no_plugin p Srp y a b m i j = cc

        by_stack : (b : Bool) → is_stacked (protocol g s) ≡ b → IsNewest g c v past → is_pcp (protocol g s) ≡ false → false ≡ true
        by_stack false m n k = let same : s ≡ n.sem = holder_holds_one g past valid made v s n.sem there n.known m holds_it n.holder_is in absurd (clash _ n.of_pcp (rw same at k))
        by_stack true m n k = absurd (no_plugin g.setup.plugin (protocol g n.sem) (protocol g s) n.of_pcp k m (rules.is_allowed n.sem n.known) (rules.is_allowed s there))

pub waiters_of_holder : WaitersOfHolder
waiters_of_holder g past valid made s v w there plain h = agree _ _ (λ k. at_own (waits-at g rules v w past made k)) (λ k. waits-there g rules s v w past made there (rw plain h) k)
  where
    rules : MeetsRules g
    rules = rules_of g valid

    at_own : WaitsAt g v w past → has w (sem_state g s past).waiting ≡ true
    at_own q = by_kind (is_pcp (protocol g q.sem)) refl q.owns
      where
        by_kind : (b : Bool) → is_pcp (protocol g q.sem) ≡ b → (if b then newest_owner g (cluster_of g q.sem) past else holder g q.sem past) ≡ Some v → has w (sem_state g s past).waiting ≡ true
        by_kind true k m = absurd (clash _ (owns-one_kind g past valid made (cluster_of g q.sem) s v m there h) plain)
        by_kind false k m = by_stack (is_stacked (protocol g s)) refl m
          where
            at_srp : (x : Protocol) → protocol g s ≡ x → is_pcp x ≡ false → is_stacked x ≡ true → holder g q.sem past ≡ Some v → ⊥
            at_srp Srp e a b i =
                let cluster = srp_cluster g rules (home g v) v s e (all_users g rules made v s (holder-engaged g v s past (some-is v (holder g s past) h))) refl in
                let p : protocol g q.sem ≡ Srp = cluster.uses_srp v q.sem (all_users g rules made v q.sem (holder-engaged g v q.sem past (some-is v (holder g q.sem past) i))) refl in
                let z : has w [] ≡ true = rw (srp-waiting g q.sem past p) at q.waits in
                cc
            at_srp Pcp e a b i = cc
            at_srp Fmlp e a b i = cc
            at_srp Omlp e a b i = cc
            at_srp Mpcp e a b i = cc

            by_stack : (b : Bool) → is_stacked (protocol g s) ≡ b → holder g q.sem past ≡ Some v → has w (sem_state g s past).waiting ≡ true
            by_stack false n i = let same : s ≡ q.sem = holder_holds_one g past valid made v s q.sem there q.known n h i in subst (λ o. has w (sem_state g o past).waiting ≡ true) (sym same) q.waits
            by_stack true n i = absurd (at_srp (protocol g s) refl plain n i)

has-task : (t s : ℕ) (ps : List TaskSem) → has_pair t s ps ≡ true → has t (tasks_of_pairs ps) ≡ true
has-task t s [] h = cc
has-task t s (p ∷ ps) h = by_case (t == p.task) (s == p.sem) h (has-task t s ps)
  where
    by_case : (a b : Bool) → (a && b) || has_pair t s ps ≡ true → (has_pair t s ps ≡ true → has t (tasks_of_pairs ps) ≡ true) → a || has t (tasks_of_pairs ps) ≡ true
    by_case true b k r = refl
    by_case false b k r = r k

pub waiters_of_newest_owner : WaitersOfNewestOwner
waiters_of_newest_owner g past valid made c v w h = agree _ _ (λ k. in_cluster (waits-at g rules v w past made k)) (λ k. at_sem (pair-of w (pcp g c past).waiting k))
  where
    rules : MeetsRules g
    rules = rules_of g valid

    n : IsNewest g c v past
    n = newest g rules c v past made h

    in_cluster : WaitsAt g v w past → has w (tasks_of_pairs (pcp g c past).waiting) ≡ true
    in_cluster q = by_kind (is_pcp (protocol g q.sem)) refl q.owns
      where
        by_kind : (b : Bool) → is_pcp (protocol g q.sem) ≡ b → (if b then newest_owner g (cluster_of g q.sem) past else holder g q.sem past) ≡ Some v → has w (tasks_of_pairs (pcp g c past).waiting) ≡ true
        by_kind true k m =
            let same : cluster_of g q.sem ≡ c = sym (newest g rules (cluster_of g q.sem) v past made m).at_home ∙ n.at_home in
            let pair : has_pair w q.sem (pcp g (cluster_of g q.sem) past).waiting ≡ true = sym (pcp-waiting g w q.sem past k) ∙ q.waits in
            has-task w q.sem (pcp g c past).waiting (subst (λ d. has_pair w q.sem (pcp g d past).waiting ≡ true) same pair)
        by_kind false k m = absurd (clash _ (owns-one_kind g past valid made c q.sem v h q.known m) k)

    at_sem : (r : ℕ) × (has_pair w r (pcp g c past).waiting ≡ true) → has w (waiters g v past) ≡ true
    at_sem q =
        let u : IsUser g c w q.0 = (pcp_kept g rules c made).waiting w q.0 q.1 in
        let there : cluster_of g q.0 ≡ c = sem-home g rules c w q.0 u in
        let d = user-task g q.0 w u.user in
        let waits : has w (sem_state g q.0 past).waiting ≡ true = pcp-waiting g w q.0 past u.of_pcp ∙ subst (λ x. has_pair w q.0 (pcp g x past).waiting ≡ true) (sym there) q.1 in
        let owns : owner g q.0 past ≡ Some v = rw u.of_pcp (subst (λ x. newest_owner g x past ≡ Some v) (sym there) h) in
        waits-there g rules q.0 v w past made (rules.is_known w q.0 d.0 d.1) owns waits
