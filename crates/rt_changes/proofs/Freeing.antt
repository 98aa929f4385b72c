-- Who frees a semaphore waits for none, and does not hold that one any longer.
use Rattle.std.proofs.Common.{List, [], false, inl, inr, refl, sym, true, ℕ, ◌&&◌, ◌∙◌, ◌∷◌, ◌≡◌, ◌⊎◌, eqb-true}
use Rattle.std.specs.Prelude.{None, Option, Some, ◌==◌}
use Rattle.rt_task.specs.declared.Protocol.TheVariants.{Fmlp, Mpcp, Omlp, Pcp, Srp}
use Rattle.rt_task.specs.declared.Protocol.{Protocol}
use Rattle.rt_rules.specs.Mpcp.{passed_on}
use Rattle.rt_rules.specs.Numbers.{first, foremost, has, is, rest, without}
use Rattle.rt_rules.specs.Omlp.{handed_over}
use Rattle.rt_rules.specs.SemState.{Frees}
use Rattle.rt_model.specs.BaseKeys.{above}
use Rattle.rt_model.specs.Ceilings.{is_pcp, pcp}
use Rattle.rt_model.specs.Group.{Group, cpus, home, protocol, sems}
use Rattle.rt_model.specs.Holders.{holder, sem_state}
use Rattle.rt_model.specs.Reachable.{IsReachable}
use Rattle.rt_model.specs.Past.{Event, Past, sem_act}
use Rattle.rt_model.specs.Semaphores.{cluster_of, fmlp, mpcp, omlp}
use Rattle.rt_model.specs.StackPolicy.{srp, srp_at}
use Rattle.rt_rules.specs.Pcp.{without_pair}
use Rattle.rt_rules.proofs.SrpLaws.{first-srp}
use Rattle.rt_laws.proofs.srp.SrpState.{srp-holder}
use Rattle.rt_model.proofs.Steps.{omlp-step}
use Rattle.rt_rules.proofs.BoolLaws.{clash, either, unless}
use Rattle.rt_rules.proofs.DistinctLaws.{first-absent, without-gone}
use Rattle.rt_rules.proofs.KeyLaws.{foremost-some}
use Rattle.rt_rules.proofs.MemberLaws.{equal_self, has-first}
use Rattle.rt_rules.proofs.OmlpLaws.{IsQueued}
use Rattle.rt_rules.proofs.PairLaws.{has_pair, without_pair-gone}
use Rattle.rt_laws.proofs.fmlp.FmlpState.{fmlp-line, fmlp-sem_state, fmlp-step}
use Rattle.rt_laws.proofs.Moves.{IsMove, clock_moves, cpu_acts}
use Rattle.rt_laws.proofs.mpcp.MpcpState.{mpcp-holder, mpcp-is}
use Rattle.rt_laws.proofs.omlp.OmlpState.{omlp-sem_state, queued}
use Rattle.rt_laws.proofs.pcp.PcpState.{first-pcp, pcp-holder, pcp-waiting}
use Rattle.rt_laws.proofs.semaphores.Requests.{frees}
use Rattle.rt_laws.proofs.Rules.{MeetsRules}
use Rattle.rt_laws.proofs.jobs.Running.{running}
use Rattle.rt_changes.proofs.Acting.{IsParty, stack-home}
use Rattle.rt_changes.proofs.Lists.{other-pair}
use Rattle.rt_changes.proofs.PcpForms.{IsFreed, freed-form, freed_state}

-- who frees a semaphore runs, and so waits for none
pub freer-waits_not : (g : Group) → MeetsRules g → {past : Past} {e : Event} → IsReachable g past → IsMove g past e → (t s r : ℕ) → sem_act e ≡ Frees t s → has r (sems g) ≡ true → has t (sem_state g r past).waiting ≡ false
freer-waits_not g rules made (clock_moves tick) t s r h there = cc
freer-waits_not g rules {past} made (cpu_acts q a) t s r h there = (running g rules made q t (frees g q a past t s h).runs_it).waits_none r there

-- ---- the holder after an Unlock

not_first : (t : ℕ) (xs : List ℕ) → has t xs ≡ false → is t (first xs) ≡ false
not_first t xs h = unless _ (λ k. clash _ (has-first t xs k) h)

handed-first : (t : ℕ) (o : Option ℕ) (f q : List ℕ) → ((v : ℕ) → o ≡ Some v → t == v ≡ false) → has t f ≡ false → is t (first (handed_over o (record { fifo = f; queue = q })).fifo) ≡ false
handed-first t None f q other h = not_first t f h
handed-first t (Some v) [] q other h = other v refl
handed-first t (Some v) (x ∷ xs) q other h = not_first t (x ∷ xs) h

pub srp-freed : (g : Group) (c t s : ℕ) (e : Event) (past : Past) → sem_act e ≡ Frees t s → home g t ≡ c → protocol g s ≡ Srp → srp g c (e ∷ past) ≡ without_pair (record { task = t; sem = s }) (srp g c past)
unfolding srp srp_at
srp-freed g c t s e past h at p = rw (h, at, p, equal_self c)

-- who frees a semaphore holds it no longer
pub freed-gone : (g : Group) → MeetsRules g → (t s : ℕ) (e : Event) (past : Past) → IsReachable g past → IsParty g t s → is t (holder g s past) ≡ true → has t (sem_state g s past).waiting ≡ false → sem_act e ≡ Frees t s → is t (holder g s (e ∷ past)) ≡ false
unfolding mpcp
freed-gone g rules t s e past made party held free h = by_protocol (protocol g s) refl
  where
    of_fmlp : protocol g s ≡ Fmlp → is t (holder g s (e ∷ past)) ≡ false
    of_fmlp p = rw ((fmlp-sem_state g s (e ∷ past) p).1, fmlp-step, h, equal_self s) (not_first t (without t (fmlp g s past)) (without-gone t (fmlp g s past) (fmlp-line g rules s p made).once))

    of_omlp : protocol g s ≡ Omlp → is t (holder g s (e ∷ past)) ≡ false
    of_omlp p = rw ((omlp-sem_state g s (e ∷ past) p).1, omlp-step, h, equal_self s) (handed-first t (foremost (above g past) (omlp g s past).queue) (rest (omlp g s past).fifo) (omlp g s past).queue other (first-absent t (omlp g s past).fifo q.fifo_once first_is))
      where
        q : IsQueued (cpus g (cluster_of g s)) (omlp g s past)
        q = queued g rules s p (rw p at (rules.is_allowed s party.known)) made

        first_is : is t (first (omlp g s past).fifo) ≡ true
        first_is = rw (omlp-sem_state g s past p).1 at held

        other : (v : ℕ) → foremost (above g past) (omlp g s past).queue ≡ Some v → t == v ≡ false
        other v k = unless _ (λ m. let same : t ≡ v = eqb-true t v m in clash _ (foremost-some (above g past) (omlp g s past).queue v k).0 (rw same at (q.apart t (has-first t (omlp g s past).fifo first_is))))

    of_mpcp : protocol g s ≡ Mpcp → is t (holder g s (e ∷ past)) ≡ false
    of_mpcp p = rw (mpcp-holder g s (e ∷ past) p, h, equal_self s) (by_next (foremost (above g past) (mpcp g s past).waiting) refl)
      where
        waits_not : has t (mpcp g s past).waiting ≡ false
        waits_not = rw (mpcp-is g s past p) at free

        by_next : (o : Option ℕ) → foremost (above g past) (mpcp g s past).waiting ≡ o → is t (passed_on o (mpcp g s past).waiting).holder ≡ false
        by_next None k = refl
        by_next (Some v) k = unless _ (λ m. let same : t ≡ v = eqb-true t v m in clash _ (foremost-some (above g past) (mpcp g s past).waiting v k).0 (rw same at waits_not))

    of_pcp : is_pcp (protocol g s) ≡ true → is t (holder g s (e ∷ past)) ≡ false
    of_pcp p = rw (pcp-holder g s (e ∷ past) p) (unless _ (λ m. by_form (first-pcp t s (pcp g (cluster_of g s) (e ∷ past)) m) (freed-form g rules t s e past made party p h)))
      where
        waits_not : has_pair t s (pcp g (cluster_of g s) past).waiting ≡ false
        waits_not = sym (pcp-waiting g t s past p) ∙ free

        gone : has_pair t s (freed_state t s (pcp g (cluster_of g s) past)).held ≡ false
        gone = without_pair-gone (record { task = t; sem = s }) (pcp g (cluster_of g s) past).held

        by_form : has_pair t s (pcp g (cluster_of g s) (e ∷ past)).held ≡ true → IsFreed t s (pcp g (cluster_of g s) past) (pcp g (cluster_of g s) (e ∷ past)) → ⊥
        by_form m (inl k) = clash _ (rw k at m) gone
        by_form m (inr k) = split (either (t == k.0.task && s == k.0.sem) _ (rw k.2 at m))
          where
            split : (t == k.0.task && s == k.0.sem ≡ true) ⊎ (has_pair t s (freed_state t s (pcp g (cluster_of g s) past)).held ≡ true) → ⊥
            split (inl n) = clash _ n (other-pair t s k.0 (pcp g (cluster_of g s) past).waiting waits_not k.1)
            split (inr n) = clash _ n gone

    of_srp : protocol g s ≡ Srp → is t (holder g s (e ∷ past)) ≡ false
    of_srp p = rw (srp-holder g s (e ∷ past) p) (unless _ (λ m. clash _ (rw gone_is at (first-srp t s (srp g (cluster_of g s) (e ∷ past)) m)) (without_pair-gone (record { task = t; sem = s }) (srp g (cluster_of g s) past))))
      where
        gone_is : srp g (cluster_of g s) (e ∷ past) ≡ without_pair (record { task = t; sem = s }) (srp g (cluster_of g s) past)
        gone_is = srp-freed g (cluster_of g s) t s e past h (stack-home g rules t s party (rw p)) p

    by_protocol : (p : Protocol) → protocol g s ≡ p → is t (holder g s (e ∷ past)) ≡ false
    by_protocol Fmlp p = of_fmlp p
    by_protocol Omlp p = of_omlp p
    by_protocol Mpcp p = of_mpcp p
    by_protocol Pcp p = of_pcp (rw p)
    by_protocol Srp p = of_srp p
