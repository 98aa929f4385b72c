-- A task that holds a semaphore waits for none, but for PCP semaphores.
use Rattle.std.proofs.Common.{[], false, inl, inr, not, refl, true, ℕ, ◌∷◌, ◌≡◌, ◌⊎◌}
use Rattle.rt_task.specs.declared.Protocol.TheVariants.{Fmlp, Mpcp, Omlp, Pcp, Srp}
use Rattle.rt_task.specs.declared.Protocol.{Protocol}
use Rattle.rt_rules.specs.Numbers.{first, has, is, rest}
use Rattle.rt_rules.specs.SemState.{Asks}
use Rattle.rt_model.specs.Answers.{is_granted, nests}
use Rattle.rt_model.specs.Ceilings.{is_pcp}
use Rattle.rt_model.specs.Group.{Group, cpus, protocol, sems}
use Rattle.rt_model.specs.Holders.{holder, holds, sem_state}
use Rattle.rt_model.specs.Reachable.{IsReachable}
use Rattle.rt_model.specs.Past.{Event, Past, sem_act}
use Rattle.rt_model.specs.Semaphores.{cluster_of, fmlp, omlp}
use Rattle.rt_rules.proofs.BoolLaws.{clash, neither, not_false}
use Rattle.rt_rules.proofs.DistinctLaws.{first-absent}
use Rattle.rt_rules.proofs.MemberLaws.{any-none, has-appended, has-first}
use Rattle.rt_rules.proofs.OmlpLaws.{IsQueued}
use Rattle.rt_laws.proofs.semaphores.Asked.{Asked, asked}
use Rattle.rt_laws.proofs.jobs.Engaged.{engaged, engaged-cases, engaged-step, holder-engaged}
use Rattle.rt_laws.proofs.fmlp.FmlpState.{fmlp-line, fmlp-sem_state}
use Rattle.rt_laws.proofs.semaphores.Holding.{holds-none, holds-one}
use Rattle.rt_laws.proofs.Moves.{by_moves, moved}
use Rattle.rt_laws.proofs.mpcp.MpcpState.{mpcp-holder, mpcp-is, mpcp_once}
use Rattle.rt_laws.proofs.omlp.OmlpState.{omlp-sem_state, queued}
use Rattle.rt_laws.proofs.semaphores.OneWait.{waits_once}
use Rattle.rt_laws.proofs.srp.SrpState.{kept}
use Rattle.rt_laws.proofs.Rules.{MeetsRules}
use Rattle.rt_laws.proofs.semaphores.Waiting.{nobody-waits, srp-waiting, waiting-step}

-- ---- who holds a semaphore does not wait for it, but perhaps under PCP

-- who holds a semaphore and waits for it does so under PCP
waits_not_at_own : (g : Group) → MeetsRules g → {past : Past} → IsReachable g past → (t s : ℕ) → has s (sems g) ≡ true → is t (holder g s past) ≡ true → has t (sem_state g s past).waiting ≡ true → is_pcp (protocol g s) ≡ true
waits_not_at_own g rules {past} made t s there h w = by_protocol (protocol g s) refl
  where
    of_fmlp : protocol g s ≡ Fmlp → ⊥
    of_fmlp p = clash _ (rw (fmlp-sem_state g s past p).0 at w) (first-absent t (fmlp g s past) (fmlp-line g rules s p made).once (rw (fmlp-sem_state g s past p).1 at h))

    of_omlp : protocol g s ≡ Omlp → ⊥
    of_omlp p = split (has-appended t (rest (omlp g s past).fifo) (omlp g s past).queue (rw (omlp-sem_state g s past p).0 at w))
      where
        q : IsQueued (cpus g (cluster_of g s)) (omlp g s past)
        q = queued g rules s p (rw p at (rules.is_allowed s there)) made

        holds_it : is t (first (omlp g s past).fifo) ≡ true
        holds_it = rw (omlp-sem_state g s past p).1 at h

        split : (has t (rest (omlp g s past).fifo) ≡ true) ⊎ (has t (omlp g s past).queue ≡ true) → ⊥
        split (inl k) = clash _ k (first-absent t (omlp g s past).fifo q.fifo_once holds_it)
        split (inr k) = clash _ k (q.apart t (has-first t (omlp g s past).fifo holds_it))

    of_mpcp : protocol g s ≡ Mpcp → ⊥
    of_mpcp p = clash _ (rw (mpcp-is g s past p) at w) ((mpcp_once g rules s p made).apart t (rw (mpcp-holder g s past p) at h))

    by_protocol : (p : Protocol) → protocol g s ≡ p → is_pcp p ≡ true
    by_protocol Fmlp e = absurd (of_fmlp e)
    by_protocol Omlp e = absurd (of_omlp e)
    by_protocol Mpcp e = absurd (of_mpcp e)
    by_protocol Pcp e = refl
    by_protocol Srp e = let m : has t [] ≡ true = rw (srp-waiting g s past e) at w in cc

-- ---- two semaphores

-- who holds a semaphore and waits for one does both under PCP
abbrev WaitsUnderPcp : Group → Past → Type 0
WaitsUnderPcp g past = (t s r : ℕ) → has s (sems g) ≡ true → has r (sems g) ≡ true → is t (holder g s past) ≡ true → has t (sem_state g r past).waiting ≡ true → (is_pcp (protocol g s) ≡ true) × (is_pcp (protocol g r) ≡ true)

-- who asks for a PCP semaphore holds PCP semaphores alone
pub asks-holds_pcp : (g : Group) (t s r : ℕ) (past : Past) → nests g Pcp r t past ≡ false → has s (sems g) ≡ true → is t (holder g s past) ≡ true → is_pcp (protocol g s) ≡ true
unfolding nests
asks-holds_pcp g t s r past n there h = not_false _ (any-none (λ o. not (is_pcp (protocol g o))) (holds g t past) s (neither _ _ n).0 (holds-one g t s past there h))

-- who asks and is not granted holds PCP semaphores alone, and only where it asks for one
asks_pcp : (g : Group) (t s r : ℕ) (past : Past) (p : Protocol) → nests g p r t past ≡ false → is_granted g p r t past ≡ false → has s (sems g) ≡ true → is t (holder g s past) ≡ true → (is_pcp (protocol g s) ≡ true) × (is_pcp p ≡ true)
unfolding nests is_granted
asks_pcp g t s r past Pcp n q there h = (asks-holds_pcp g t s r past n there h, refl)
asks_pcp g t s r past Fmlp n q there h = absurd (clash _ h (holds-none g t s past (not_false _ n) there))
asks_pcp g t s r past Omlp n q there h = absurd (clash _ h (holds-none g t s past (not_false _ n) there))
asks_pcp g t s r past Mpcp n q there h = absurd (clash _ h (holds-none g t s past (not_false _ n) there))
asks_pcp g t s r past Srp n q there h = cc

waits_under_pcp-step : (g : Group) → MeetsRules g → (e : Event) (past : Past) → IsReachable g past → IsReachable g (e ∷ past) → Asked g e past → WaitsUnderPcp g past → WaitsUnderPcp g (e ∷ past)
waits_under_pcp-step g rules e past made made_after asks before t s r hs hr h w = split (was (engaged-step g t s e past (holder-engaged g t s (e ∷ past) h))) (waiting-step g rules t r e past w)
  where
    was : (engaged g t s past ≡ true) ⊎ (sem_act e ≡ Asks t s) → (is t (holder g s past) ≡ true) ⊎ ((has t (sem_state g s past).waiting ≡ true) ⊎ (sem_act e ≡ Asks t s))
    was (inr k) = inr (inr k)
    was (inl k) = deeper (engaged-cases g t s past (kept g rules (cluster_of g s) made) k)
      where
        deeper : (is t (holder g s past) ≡ true) ⊎ (has t (sem_state g s past).waiting ≡ true) → (is t (holder g s past) ≡ true) ⊎ ((has t (sem_state g s past).waiting ≡ true) ⊎ (sem_act e ≡ Asks t s))
        deeper (inl n) = inl n
        deeper (inr n) = inr (inl n)

    one_sem : s ≡ r → (is_pcp (protocol g s) ≡ true) × (is_pcp (protocol g r) ≡ true)
    one_sem same =
        let w' : has t (sem_state g s (e ∷ past)).waiting ≡ true = rw same w in
        let p : is_pcp (protocol g s) ≡ true = waits_not_at_own g rules made_after t s hs h w' in
        (p, rw (← same) p)

    split : (is t (holder g s past) ≡ true) ⊎ ((has t (sem_state g s past).waiting ≡ true) ⊎ (sem_act e ≡ Asks t s)) → (has t (sem_state g r past).waiting ≡ true) ⊎ (sem_act e ≡ Asks t r) × (is_granted g (protocol g r) r t past ≡ false) → (is_pcp (protocol g s) ≡ true) × (is_pcp (protocol g r) ≡ true)
    split (inl a) (inl b) = before t s r hs hr a b
    split (inl a) (inr b) = asks_pcp g t s r past (protocol g r) (asks t r b.0).unnested b.1 hs a
    split (inr (inl a)) (inl b) = one_sem (waits_once g rules made t s r hs hr a b)
    split (inr (inl a)) (inr b) = absurd (clash _ a ((asks t r b.0).waits_none s hs))
    split (inr (inr a)) (inl b) = absurd (clash _ b ((asks t s a).waits_none r hr))
    split (inr (inr a)) (inr b) = let x : sem_act e ≡ Asks t s = a in let y : sem_act e ≡ Asks t r = b.0 in one_sem cc

-- so it is after every move
pub waits_under_pcp : (g : Group) → MeetsRules g → {past : Past} → IsReachable g past → WaitsUnderPcp g past
waits_under_pcp g rules made = by_moves g (WaitsUnderPcp g) (λ t s r hs hr h w. absurd (clash _ w (nobody-waits g t r))) (λ past e made move before. waits_under_pcp-step g rules e past made (moved g made move) (asked g rules made move) before) made
