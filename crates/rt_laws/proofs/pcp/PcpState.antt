-- PCP: the two kept facts over every past, and that no semaphore has two holders.
use Rattle.std.proofs.Common.{ap, List, [], false, inl, inr, refl, sym, true, ℕ, ◌∙◌, ◌∷◌, ◌≡◌, ◌⊎◌}
use Rattle.std.specs.Prelude.{None, Option, Some}
use Rattle.rt_rules.specs.KeyOrder.{lowest_key}
use Rattle.rt_rules.specs.Numbers.{first, has, is}
use Rattle.rt_rules.specs.Pcp.{PcpState, of_sem, passes, pcp_after}
use Rattle.rt_rules.specs.SemState.{Asks, SemAct}
use Rattle.rt_model.specs.BaseKeys.{above, base_key}
use Rattle.rt_model.specs.Ceilings.{above_ceiling, at_cluster, ceiling, is_pcp, pcp}
use Rattle.rt_model.specs.Group.{Group, home, protocol, users}
use Rattle.rt_model.specs.Reachable.{IsReachable}
use Rattle.rt_model.specs.Past.{Event, Past, sem_act}
use Rattle.rt_rules.proofs.KeyLaws.{highest-of}
use Rattle.rt_rules.proofs.MemberLaws.{equal_self, has-first, some-is}
use Rattle.rt_rules.proofs.PairLaws.{has-of_sem, has_pair}
use Rattle.rt_rules.proofs.PcpLaws.{IsStack, one_holder_of, pcp-held, pcp-waits, stack-step}
use Rattle.rt_laws.proofs.semaphores.Asked.{Asked, asked}
use Rattle.rt_laws.proofs.semaphores.AtSem.{at_cluster-asks}
use Rattle.rt_laws.proofs.Moves.{by_moves}
use Rattle.rt_task.specs.declared.Protocol.{Protocol}
use Rattle.rt_task.specs.declared.Protocol.TheVariants.{Pcp}
use Rattle.rt_rules.specs.Pcp.{pcp_sem_state}
use Rattle.rt_rules.specs.SemState.{SemState}
use Rattle.rt_model.specs.Holders.{sem_state, sem_state_by, holder}
use Rattle.rt_model.specs.Semaphores.{cluster_of}
use Rattle.rt_laws.proofs.GroupLaws.{user-home, pcp-shares}
use Rattle.rt_laws.proofs.Rules.{MeetsRules}

-- a user of a semaphore is not over its ceiling
pub user-not_over : (g : Group) (t s : ℕ) → has t (users g s) ≡ true → above_ceiling g t s ≡ false
unfolding above_ceiling ceiling
user-not_over g t s h = highest-of (λ u. base_key g u []) t (users g s) (lowest_key) h

-- a task that holds or waits is a user of the semaphore, and of the cluster
pub record IsUser (g : Group) (c t s : ℕ) : Type 0 where
  pub user : has t (users g s) ≡ true
  pub at_home : home g t ≡ c
  pub of_pcp : is_pcp (protocol g s) ≡ true

-- what PCP keeps of a cluster
pub record IsPcpKept (g : Group) (c : ℕ) (l : PcpState) : Type 0 where
  pub stack : IsStack (above_ceiling g) l
  pub held : (t s : ℕ) → has_pair t s l.held ≡ true → IsUser g c t s
  pub waiting : (t s : ℕ) → has_pair t s l.waiting ≡ true → IsUser g c t s

pcp_kept-step : (g : Group) (c : ℕ) (x : SemAct) (l : PcpState) → ((t s : ℕ) → x ≡ Asks t s → IsUser g c t s) → IsPcpKept g c l → IsPcpKept g c (pcp_after (above g []) (above_ceiling g) x l)
pcp_kept-step g c x l asked k = record {
  stack = stack-step (above g []) (above_ceiling g) x l k.stack;
  held = λ t s h. held t s (pcp-held (above g []) (above_ceiling g) t s x l h);
  waiting = λ t s h. waiting t s (pcp-waits (above g []) (above_ceiling g) t s x l h);
}
  where
    held : (t s : ℕ) → ((has_pair t s l.held ≡ true) ⊎ (has_pair t s l.waiting ≡ true)) ⊎ (x ≡ Asks t s) → IsUser g c t s
    held t s (inl (inl m)) = k.held t s m
    held t s (inl (inr m)) = k.waiting t s m
    held t s (inr m) = asked t s m

    waiting : (t s : ℕ) → (has_pair t s l.waiting ≡ true) ⊎ (x ≡ Asks t s) × (passes (above_ceiling g) l.held t ≡ false) → IsUser g c t s
    waiting t s (inl m) = k.waiting t s m
    waiting t s (inr m) = asked t s m.0

pcp_kept-event : (g : Group) (c : ℕ) (e : Event) (past : Past) → Asked g e past → IsPcpKept g c (pcp g c past) → IsPcpKept g c (pcp g c (e ∷ past))
unfolding pcp
pcp_kept-event g c e past asks k = pcp_kept-step g c (at_cluster g c (sem_act e)) (pcp g c past) user k
  where
    user : (t s : ℕ) → at_cluster g c (sem_act e) ≡ Asks t s → IsUser g c t s
    user t s h = let q = at_cluster-asks g c t s (sem_act e) h in record { user = (asks t s q.0).user; at_home = q.1; of_pcp = q.2 }

-- so it is after every move
pub pcp_kept : (g : Group) → MeetsRules g → (c : ℕ) → {past : Past} → IsReachable g past → IsPcpKept g c (pcp g c past)
unfolding pcp
pcp_kept g rules c made = by_moves g (λ past. IsPcpKept g c (pcp g c past)) (record { stack = record { stacked = tt; blocked = λ t s h. cc }; held = λ t s h. cc; waiting = λ t s h. cc }) (λ past e made move before. pcp_kept-event g c e past (asked g rules made move) before) made

-- who holds is the first that the list of grants names
pub pcp-first : (g : Group) (c t s : ℕ) (l : PcpState) → IsPcpKept g c l → has_pair t s l.held ≡ true → is t (first (of_sem s l.held)) ≡ true
pcp-first g c t s l k h = by_case (first (of_sem s l.held)) refl
  where
    there : has t (of_sem s l.held) ≡ true
    there = rw has-of_sem h

    none_there : (xs : List ℕ) → first xs ≡ None → has t xs ≡ true → ⊥
    none_there [] e m = cc
    none_there (x ∷ xs) e m = cc

    by_case : (o : Option ℕ) → first (of_sem s l.held) ≡ o → is t (first (of_sem s l.held)) ≡ true
    by_case None e = absurd (none_there (of_sem s l.held) e there)
    by_case (Some u) e =
        let hu : has_pair u s l.held ≡ true = sym (has-of_sem u s l.held) ∙ has-first u (of_sem s l.held) (some-is u (first (of_sem s l.held)) e) in
        let same : t ≡ u = one_holder_of (above_ceiling g) l.held k.stack.stacked t u s (user-not_over g t s (k.held t s h).user) (user-not_over g u s (k.held u s hu).user) h hu in
        rw (e, same, equal_self u)

-- the holder stands among the grants
pub first-pcp : (t s : ℕ) (l : PcpState) → is t (first (of_sem s l.held)) ≡ true → has_pair t s l.held ≡ true
first-pcp t s l h = sym (has-of_sem t s l.held) ∙ has-first t (of_sem s l.held) h

-- ---- the semaphores of a setup

pcp-sem_state : (g : Group) (s : ℕ) (past : Past) → is_pcp (protocol g s) ≡ true → sem_state g s past ≡ pcp_sem_state s (pcp g (cluster_of g s) past)
unfolding sem_state sem_state_by
pcp-sem_state g s past h = by_protocol (protocol g s) h
  where
    by_protocol : (p : Protocol) → is_pcp p ≡ true → sem_state_by g p s past ≡ pcp_sem_state s (pcp g (cluster_of g s) past)
    by_protocol Pcp e = refl
    by_protocol p e = cc

-- who waits for it, and who holds it
pub pcp-waiting : (g : Group) (t s : ℕ) (past : Past) → is_pcp (protocol g s) ≡ true → has t (sem_state g s past).waiting ≡ has_pair t s (pcp g (cluster_of g s) past).waiting
pcp-waiting g t s past h = ap (λ (x : SemState). has t x.waiting) (pcp-sem_state g s past h) ∙ has-of_sem t s (pcp g (cluster_of g s) past).waiting

-- who holds a PCP semaphore is the first of its pairs
pub pcp-holder : (g : Group) (s : ℕ) (past : Past) → is_pcp (protocol g s) ≡ true → holder g s past ≡ first (of_sem s (pcp g (cluster_of g s) past).held)
unfolding holder
pcp-holder g s past h = ap (λ (x : SemState). x.holder) (pcp-sem_state g s past h)

-- its users are of its cluster
pub sem-home : (g : Group) → MeetsRules g → (c t s : ℕ) → IsUser g c t s → cluster_of g s ≡ c
sem-home g rules c t s u = sym (user-home g rules s t (pcp-shares g.setup.plugin (protocol g s) u.of_pcp) u.user) ∙ u.at_home
