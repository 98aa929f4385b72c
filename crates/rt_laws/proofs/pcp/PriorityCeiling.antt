-- What the priority ceiling protocol keeps, as laws.
use Rattle.std.proofs.Common.{Bool, List, [], eqb-true, false, length, refl, subst, sym, true, ℕ, ◌++◌, ◌∙◌, ◌∷◌, ◌≡◌}
use Rattle.std.specs.Prelude.{None, Option, Some, ◌&&◌, ◌==◌}
use Rattle.rt_rules.specs.Distinct.{IsDistinct}
use Rattle.rt_rules.specs.Numbers.{has}
use Rattle.rt_rules.specs.Pcp.{TaskSem}
use Rattle.rt_rules.specs.Walks.{walk}
use Rattle.rt_model.specs.Ceilings.{above_ceiling}
use Rattle.rt_model.specs.EffectiveKeys.{waits_for}
use Rattle.rt_model.specs.Group.{Group, sems, tasks}
use Rattle.rt_model.specs.Holders.{awaits, sem_state}
use Rattle.rt_model.specs.Reachable.{IsReachable}
use Rattle.rt_model.specs.Past.{Past}
use Rattle.rt_rules.proofs.BoolLaws.{or_true, unless}
use Rattle.rt_rules.proofs.MemberLaws.{equal_self}
use Rattle.rt_rules.proofs.PairLaws.{has_pair}
use Rattle.rt_rules.proofs.PcpLaws.{IsStacked, passes-above_ceiling}
use Rattle.rt_laws.specs.PriorityCeiling.{LaterIsAboveCeiling, UnlockGrantsOne, WaitingDoesNotPass, WalkEnds, WalksEnd, WalksHaveOneStep, end_of, reached_from}
use Rattle.rt_laws.proofs.jobs.Engaged.{waiting-engaged}
use Rattle.rt_laws.proofs.jobs.EngagedJobs.{all_active}
use Rattle.rt_laws.proofs.GroupLaws.{user-task}
use Rattle.rt_laws.proofs.pcp.PcpGrants as grants
use Rattle.rt_laws.proofs.pcp.PcpState.{pcp_kept}
use Rattle.rt_laws.proofs.pcp.PcpWalks.{waiting-stops, walk-none, walk-step, walk-stops}
use Rattle.rt_laws.proofs.Rules.{MeetsRules}
use Rattle.rt_laws.proofs.ValidSets.{rules_of}
use Rattle.rt_laws.proofs.semaphores.Waiting.{awaits-waits}

pub waiting_does_not_pass : WaitingDoesNotPass
waiting_does_not_pass g past valid made t s k w = let a = awaits-waits g t s past w in waiting-stops g (rules_of g valid) past made t s k a.1

-- ---- the order of grants

above_earlier : (over : ℕ → ℕ → Bool) (newest between oldest : List TaskSem) (later earlier : TaskSem) → IsStacked over (newest ++ later ∷ (between ++ earlier ∷ oldest)) → earlier.task == later.task ≡ false → over later.task earlier.sem ≡ true
above_earlier over [] between oldest later earlier k ne = passes-above_ceiling over (between ++ earlier ∷ oldest) later.task earlier.task earlier.sem k.0 (there between) ne
  where
    there : (ps : List TaskSem) → has_pair earlier.task earlier.sem (ps ++ earlier ∷ oldest) ≡ true
    there [] = rw (equal_self earlier.task, equal_self earlier.sem)
    there (p ∷ ps) = rw (there ps) (or_true (earlier.task == p.task && earlier.sem == p.sem))
above_earlier over (p ∷ newest) between oldest later earlier k ne = above_earlier over newest between oldest later earlier k.1 ne

pub later_is_above_ceiling : LaterIsAboveCeiling
later_is_above_ceiling g past valid made c newest between oldest later earlier e ne =
    let stacked : IsStacked (above_ceiling g) (newest ++ later ∷ (between ++ earlier ∷ oldest)) = subst (λ l. IsStacked (above_ceiling g) l) e (pcp_kept g (rules_of g valid) c made).stack.stacked in
    above_earlier (above_ceiling g) newest between oldest later earlier stacked (unless _ (λ m. ne (sym (eqb-true earlier.task later.task m))))

-- ---- walks

-- a task that waits reaches one task, which does not wait
record ReachesOne (g : Group) (t : ℕ) (past : Past) : Type 0 where
  last : ℕ
  reached : reached_from g t past ≡ last ∷ []
  free : awaits g last past ≡ None

reaches_one : (g : Group) → MeetsRules g → {past : Past} → IsReachable g past → (t s : ℕ) → awaits g t past ≡ Some s → ReachesOne g t past
reaches_one g rules {past} made t s a = record { last = q.0; reached = rw q.1 (one (tasks g) member); free = q.2 }
  where
    q : (u : ℕ) × (waits_for g t past ≡ Some u) × (awaits g u past ≡ None)
    q = walk-step g rules past made t s a

    w : (has s (sems g) ≡ true) × (has t (sem_state g s past).waiting ≡ true)
    w = awaits-waits g t s past a

    member : has t (tasks g) ≡ true
    member = (user-task g s t (all_active g rules made t s w.0 (waiting-engaged g t s past w.1)).user).0

    one : (ts : List ℕ) → has t ts ≡ true → walk (λ v. waits_for g v past) (length ts) (Some q.0) ≡ q.0 ∷ []
    one [] m = cc
    one (x ∷ xs) m = rw (walk-stops g rules past made q.0 q.2, walk-none (λ v. waits_for g v past) (length xs)) refl

pub walks_end : WalksEnd
walks_end g past valid made t = by_wait (awaits g t past) refl
  where
    alone : awaits g t past ≡ None → (us : List ℕ) → us ≡ [] → IsDistinct (t ∷ us) × (awaits g (end_of t us) past ≡ None)
    alone e [] k = ((refl, tt), e)
    alone e (u ∷ us) k = cc

    other : (s u : ℕ) → awaits g t past ≡ Some s → awaits g u past ≡ None → t == u ≡ false
    other s u a f = unless _ (λ m. let same : t ≡ u = eqb-true t u m in let b : Some s ≡ None = sym a ∙ rw same f in cc)

    by_wait : (o : Option ℕ) → awaits g t past ≡ o → WalkEnds g t past
    by_wait None e =
        let none : reached_from g t past ≡ [] = rw (walk-stops g (rules_of g valid) past made t e) (walk-none (λ v. waits_for g v past) (length (tasks g))) in
        let k = alone e (reached_from g t past) none in
        record { once = k.0; free = k.1 }
    by_wait (Some s) e =
        let r : ReachesOne g t past = reaches_one g (rules_of g valid) made t s e in
        record { once = rw (r.reached, other s r.last e r.free) (refl, (refl, tt)); free = rw r.reached r.free }

pub walks_have_one_step : WalksHaveOneStep
walks_have_one_step g past valid made t s a = rw (reaches_one g (rules_of g valid) made t s a).reached

pub unlock_grants_one : UnlockGrantsOne
unlock_grants_one = grants.unlock_grants_one
