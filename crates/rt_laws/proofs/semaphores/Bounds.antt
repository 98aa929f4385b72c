-- The bounds of the blocking counts.
use Rattle.std.proofs.Common.{Bool, [], arith, false, refl, true, ℕ, ◌&&◌, ◌*◌, ◌+◌, ◌-◌, ◌∷◌, ◌≡◌, ◌≤◌}
use Rattle.std.specs.Prelude.{if◌then◌else◌}
use Rattle.rt_task.specs.RuleWords.{is_of_one_cluster, stands_under}
use Rattle.rt_task.specs.declared.PluginKind.TheVariants as plugins
use Rattle.rt_task.specs.declared.PluginKind.{PluginKind}
use Rattle.rt_task.specs.declared.Protocol.TheVariants.{Omlp}
use Rattle.rt_rules.specs.Numbers.{has}
use Rattle.rt_model.specs.Blocking.{ends, ends_all, frees, is_blocked, is_open}
use Rattle.rt_model.specs.Group.{Group, cpus, home, protocol, sems, users}
use Rattle.rt_model.specs.Holders.{sem_state}
use Rattle.rt_model.specs.Reachable.{IsReachable}
use Rattle.rt_model.specs.Past.{Past, sem_act}
use Rattle.rt_model.specs.Semaphores.{cluster_of}
use Rattle.rt_rules.proofs.BoolLaws.{clash, unless}
use Rattle.rt_laws.specs.Bounds.{BlockedEndsAreEnds, FmlpBound, OmlpBound}
use Rattle.rt_laws.proofs.jobs.Engaged.{waiting-engaged}
use Rattle.rt_laws.proofs.jobs.EngagedJobs.{IsActive, all_active}
use Rattle.rt_laws.proofs.fmlp.FmlpCount as fmlp
use Rattle.rt_laws.proofs.semaphores.OpenRequests.{open-waits}
use Rattle.rt_laws.proofs.GroupLaws.{user-home}
use Rattle.rt_laws.proofs.Moves.{by_moves}
use Rattle.rt_laws.proofs.omlp.OmlpCount as omlp
use Rattle.rt_laws.proofs.Rules.{MeetsRules}
use Rattle.rt_laws.proofs.ValidSets.{rules_of}

pub fmlp_bound : FmlpBound
fmlp_bound g past valid made r t s p = (fmlp.counted g (rules_of g valid) r t s p made).so_far

-- a request of what is no user is never open
never-open : (g : Group) → MeetsRules g → (r t s : ℕ) → has t (users g s) && has s (sems g) ≡ false → {past : Past} → IsReachable g past → is_open g r t s past ≡ false
never-open g rules r t s none {past} made = unless _ (λ o. found (open-waits g r t s past o))
  where
    found : (has s (sems g) ≡ true) × (has t (sem_state g s past).waiting ≡ true) → ⊥
    found w = let k : IsActive g t s past = all_active g rules made t s w.0 (waiting-engaged g t s past w.1) in let m : has t (users g s) && has s (sems g) ≡ true = rw (k.user, w.0) in clash _ m none

none-ended : (g : Group) → MeetsRules g → (r t s : ℕ) → has t (users g s) && has s (sems g) ≡ false → {past : Past} → IsReachable g past → ends g r t s past ≡ 0
unfolding ends
none-ended g rules r t s none made = by_moves g (λ past. ends g r t s past ≡ 0) refl (λ past e made move before. rw (never-open g rules r t s none made) (by_case (frees s (sem_act e)) before)) made
  where
    by_case : (b : Bool) {n : ℕ} → n ≡ 0 → (if b && false then n + 1 else n) ≡ 0
    by_case true h = h
    by_case false h = h

pub omlp_shares : (plugin : PluginKind) → is_of_one_cluster Omlp plugin ≡ true
omlp_shares plugins.GsnEdf = refl
omlp_shares plugins.CEdf = refl
omlp_shares plugins.PsnEdf = refl
omlp_shares plugins.PFp = refl
omlp_shares plugins.PRes = refl

pub omlp_bound : OmlpBound
omlp_bound g past valid made r t s p = by_case (has t (users g s)) (has s (sems g)) refl refl
  where
    shares : is_of_one_cluster (protocol g s) g.setup.plugin ≡ true
    shares = rw p (omlp_shares g.setup.plugin)

    by_case : (b c : Bool) → has t (users g s) ≡ b → has s (sems g) ≡ c → ends g r t s past ≤ 2 * cpus g (home g t) - 1
    by_case true true h k =
        let permitted : stands_under Omlp g.setup.plugin ≡ true = rw p at ((rules_of g valid).is_allowed s k) in
        let same : home g t ≡ cluster_of g s = user-home g (rules_of g valid) s t shares h in
        rw same (omlp.counted g (rules_of g valid) r t s p permitted shares k made).so_far
    by_case false c h k = let none : ends g r t s past ≡ 0 = none-ended g (rules_of g valid) r t s (rw h) made in omega (arith, none)
    by_case true false h k = let none : ends g r t s past ≡ 0 = none-ended g (rules_of g valid) r t s (rw (h, k)) made in omega (arith, none)

-- one more at the same event, or both as they were
ends-within : (g : Group) (r t s : ℕ) (past : Past) → ends g r t s past ≤ ends_all g r t s past
unfolding ends ends_all
ends-within g r t s [] = omega arith
ends-within g r t s (e ∷ past) = by_cases (frees s (sem_act e)) (is_open g r t s past) (is_blocked g t past) (ends-within g r t s past)
  where
    by_cases : (a b c : Bool) {n m : ℕ} → n ≤ m → (if a && (b && c) then n + 1 else n) ≤ (if a && b then m + 1 else m)
    by_cases true true true h = omega arith
    by_cases true true false h = omega arith
    by_cases true false c h = h
    by_cases false b c h = h

pub blocked_ends_are_ends : BlockedEndsAreEnds
blocked_ends_are_ends g past valid made r t s = ends-within g r t s past
