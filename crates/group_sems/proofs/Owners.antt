-- The owners of semaphores over a move.
use Rattle.std.proofs.Common.{Bool, eqb-true, false, refl, subst, sym, true, ℕ, ◌&&◌, ◌||◌, ◌∙◌, ◌∷◌, ◌≡◌, List, []}
use Rattle.std.specs.Prelude.{Some, if◌then◌else◌, ◌==◌}
use Rattle.rt_task.specs.declared.Protocol.TheVariants.{Fmlp, Mpcp, Omlp, Pcp, Srp}
use Rattle.rt_task.specs.declared.Protocol.{Protocol}
use Rattle.rt_rules.specs.Numbers.{has}
use Rattle.rt_rules.specs.Pcp.{TaskSem, passes, pcp_after}
use Rattle.rt_rules.specs.SemState.{Asks, Neither}
use Rattle.rt_model.specs.Answers.{is_granted}
use Rattle.rt_model.specs.BaseKeys.{above}
use Rattle.rt_model.specs.Ceilings.{above_ceiling, at_cluster, is_pcp, pcp}
use Rattle.rt_model.specs.Group.{Group, home, protocol, sems}
use Rattle.rt_model.specs.Holders.{awaits, holder, sem_state}
use Rattle.rt_model.specs.Past.{Event, Past, sem_act}
use Rattle.rt_model.specs.Reachable.{IsReachable}
use Rattle.rt_model.specs.Semaphores.{cluster_of}
use Rattle.rt_rules.proofs.BoolLaws.{and_false, both}
use Rattle.rt_rules.proofs.MemberLaws.{equal_self, turned}
use Rattle.rt_rules.proofs.PairLaws.{has_pair, pair-of, tasks_of_pairs}
use Rattle.rt_laws.proofs.semaphores.OneWait.{awaits-is, waits_once}
use Rattle.rt_laws.proofs.GroupLaws.{user-task}
use Rattle.rt_laws.proofs.pcp.PcpState.{IsUser, pcp-waiting, pcp_kept, sem-home}
use Rattle.rt_laws.proofs.Rules.{MeetsRules}
use Rattle.rt_laws.proofs.semaphores.Waiting.{awaits-waits}
use Rattle.rt_changes.specs.Owners.{is_beside, newest_owner, owner}
use Rattle.rt_changes.proofs.Acting.{IsActor, party-home}
use Rattle.rt_changes.proofs.Left.{holder-left, pcp-left}
use Rattle.rt_changes.proofs.SemChanges.{left, outside}
use Rattle.sem_table.specs.Telling.{waiters_at}

-- semaphores beside one another have one owner
pub owner-beside : (g : Group) (s r : ℕ) (past : Past) → is_beside g s r ≡ true → owner g r past ≡ owner g s past
owner-beside g s r past h = by_kind (is_pcp (protocol g s)) refl h
  where
    by_kind : (b : Bool) → is_pcp (protocol g s) ≡ b → (if b then is_pcp (protocol g r) && cluster_of g r == cluster_of g s else s == r) ≡ true → owner g r past ≡ (if b then newest_owner g (cluster_of g s) past else holder g s past)
    by_kind true k m = let q = both (is_pcp (protocol g r)) (cluster_of g r == cluster_of g s) m in rw (q.0, eqb-true (cluster_of g r) (cluster_of g s) q.1)
    by_kind false k m = let same : s ≡ r = eqb-true s r m in let n : is_pcp (protocol g r) ≡ false = rw same at k in rw (n, same)

-- the grants of another cluster, or where none of PCP is acted at
cluster-left : (g : Group) → MeetsRules g → (s r : ℕ) (e : Event) (past : Past) → IsActor g s e → is_beside g s r ≡ false → is_pcp (protocol g r) ≡ true → pcp g (cluster_of g r) (e ∷ past) ≡ pcp g (cluster_of g r) past
cluster-left g rules s r e past a h n = pcp-left g (cluster_of g r) e past (outside g a.task s (cluster_of g r) (sem_act e) a.act (by_kind (is_pcp (protocol g s)) refl h))
  where
    by_kind : (b : Bool) → is_pcp (protocol g s) ≡ b → (if b then is_pcp (protocol g r) && cluster_of g r == cluster_of g s else s == r) ≡ false → home g a.task == cluster_of g r && is_pcp (protocol g s) ≡ false
    by_kind true k m = let other : cluster_of g r == cluster_of g s ≡ false = rw n at m in rw (k, party-home g rules a.task s a.party k, turned (cluster_of g s) (cluster_of g r), other)
    by_kind false k m = rw k (and_false (home g a.task == cluster_of g r))

-- any other semaphore keeps its owner
pub owner-left : (g : Group) → MeetsRules g → (s r : ℕ) (e : Event) (past : Past) → IsActor g s e → is_beside g s r ≡ false → owner g r (e ∷ past) ≡ owner g r past
owner-left g rules s r e past a h = by_kind (is_pcp (protocol g r)) refl
  where
    by_kind : (b : Bool) → is_pcp (protocol g r) ≡ b → (if b then newest_owner g (cluster_of g r) (e ∷ past) else holder g r (e ∷ past)) ≡ (if b then newest_owner g (cluster_of g r) past else holder g r past)
    by_kind true k = rw (cluster-left g rules s r e past a h k)
    by_kind false k = holder-left g r e past (left g rules s r e past a h)

-- a queued Lock leaves what is held
queued-held : (g : Group) (c t s : ℕ) (e : Event) (past : Past) → sem_act e ≡ Asks t s → is_granted g (protocol g s) s t past ≡ false → (pcp g c (e ∷ past)).held ≡ (pcp g c past).held
unfolding pcp at_cluster is_granted
queued-held g c t s e past a may_not = rw a (by_case (home g t == c && is_pcp (protocol g s)) refl)
  where
    stops : (p : Protocol) → is_pcp p ≡ true → is_granted g p s t past ≡ false → passes (above_ceiling g) (pcp g (home g t) past).held t ≡ false
    stops Pcp k m = m
    stops Fmlp k m = cc
    stops Omlp k m = cc
    stops Mpcp k m = cc
    stops Srp k m = cc

    by_case : (b : Bool) → home g t == c && is_pcp (protocol g s) ≡ b → (pcp_after (above g []) (above_ceiling g) (if b then Asks t s else Neither) (pcp g c past)).held ≡ (pcp g c past).held
    by_case false k = refl
    by_case true k =
        let q = both (home g t == c) (is_pcp (protocol g s)) k in
        let no : passes (above_ceiling g) (pcp g c past).held t ≡ false = subst (λ n. passes (above_ceiling g) (pcp g n past).held t ≡ false) (eqb-true (home g t) c q.0) (stops (protocol g s) q.1 may_not) in
        rw no

-- and every owner
pub queued-owner : (g : Group) (t s r : ℕ) (e : Event) (past : Past) → sem_act e ≡ Asks t s → is_granted g (protocol g s) s t past ≡ false → holder g r (e ∷ past) ≡ holder g r past → owner g r (e ∷ past) ≡ owner g r past
queued-owner g t s r e past a may_not holds = by_kind (is_pcp (protocol g r))
  where
    by_kind : (b : Bool) → (if b then newest_owner g (cluster_of g r) (e ∷ past) else holder g r (e ∷ past)) ≡ (if b then newest_owner g (cluster_of g r) past else holder g r past)
    by_kind true = rw (queued-held g (cluster_of g r) t s e past a may_not)
    by_kind false = holds

-- ---- the tasks that wait for an owner wait at a semaphore beside its own

has-task : (t s : ℕ) (ps : List TaskSem) → has_pair t s ps ≡ true → has t (tasks_of_pairs ps) ≡ true
has-task t s [] h = cc
has-task t s (p ∷ ps) h = by_case (t == p.task) (s == p.sem) h (has-task t s ps)
  where
    by_case : (a b : Bool) → (a && b) || has_pair t s ps ≡ true → (has_pair t s ps ≡ true → has t (tasks_of_pairs ps) ≡ true) → a || has t (tasks_of_pairs ps) ≡ true
    by_case true b k r = refl
    by_case false true k r = r k
    by_case false false k r = r k

module _ (g : Group) (rules : MeetsRules g) (past : Past) (made : IsReachable g past) (s u : ℕ) (known : has s (sems g) ≡ true) where
  pub waiter-awaits : has u (waiters_at g s past) ≡ true → (r : ℕ) × (awaits g u past ≡ Some r) × (is_beside g s r ≡ true)
  waiter-awaits = by_kind (is_pcp (protocol g s)) refl
    where
      at_sem : (r : ℕ) → has r (sems g) ≡ true → has u (sem_state g r past).waiting ≡ true → awaits g u past ≡ Some r
      at_sem r there h = awaits-is g u r past (waits_once g rules made) there h

      by_kind : (b : Bool) → is_pcp (protocol g s) ≡ b → has u (if b then tasks_of_pairs (pcp g (cluster_of g s) past).waiting else (sem_state g s past).waiting) ≡ true → (r : ℕ) × (awaits g u past ≡ Some r) × (is_beside g s r ≡ true)
      by_kind true k h =
          let q = pair-of u (pcp g (cluster_of g s) past).waiting h in
          let v : IsUser g (cluster_of g s) u q.0 = (pcp_kept g rules (cluster_of g s) made).waiting u q.0 q.1 in
          let d = user-task g q.0 u v.user in
          let there : cluster_of g q.0 ≡ cluster_of g s = sem-home g rules (cluster_of g s) u q.0 v in
          let waits : has u (sem_state g q.0 past).waiting ≡ true = pcp-waiting g u q.0 past v.of_pcp ∙ subst (λ x. has_pair u q.0 (pcp g x past).waiting ≡ true) (sym there) q.1 in
          let beside : is_beside g s q.0 ≡ true = rw (k, v.of_pcp, there) (equal_self (cluster_of g s)) in
          (q.0, at_sem q.0 (rules.is_known u q.0 d.0 d.1) waits, beside)
      by_kind false k h = (s, at_sem s known h, rw k (equal_self s))

  pub awaits-waiter : (r : ℕ) → awaits g u past ≡ Some r → is_beside g s r ≡ true → has u (waiters_at g s past) ≡ true
  awaits-waiter r a = by_kind (is_pcp (protocol g s)) refl
    where
      q : (has r (sems g) ≡ true) × (has u (sem_state g r past).waiting ≡ true)
      q = awaits-waits g u r past a

      by_kind : (b : Bool) → is_pcp (protocol g s) ≡ b → (if b then is_pcp (protocol g r) && cluster_of g r == cluster_of g s else s == r) ≡ true → has u (if b then tasks_of_pairs (pcp g (cluster_of g s) past).waiting else (sem_state g s past).waiting) ≡ true
      by_kind true k h =
          let p = both (is_pcp (protocol g r)) (cluster_of g r == cluster_of g s) h in
          let there : cluster_of g r ≡ cluster_of g s = eqb-true (cluster_of g r) (cluster_of g s) p.1 in
          let pair : has_pair u r (pcp g (cluster_of g r) past).waiting ≡ true = sym (pcp-waiting g u r past p.0) ∙ q.1 in
          has-task u r (pcp g (cluster_of g s) past).waiting (subst (λ x. has_pair u r (pcp g x past).waiting ≡ true) there pair)
      by_kind false k h = let same : s ≡ r = eqb-true s r h in subst (λ n. has u (sem_state g n past).waiting ≡ true) (sym same) q.1
