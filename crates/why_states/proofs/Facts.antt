-- What is so of the numbers of a valid set: under PCP it is P-FP's, and reservations are in their places.
use Rattle.std.proofs.Common.{◌≡◌, ◌∙◌, ℕ, ◌+◌, ◌-◌, ◌<◌, ◌≤◌, Bool, true, false, not, ◌&&◌, List, [], ◌∷◌, ◌++◌, length, map, get_or, refl, sym, ap, subst, arith}
use Rattle.std.specs.Prelude.{Option, codes, filter, nat_lt}
use Rattle.rt_base.specs.declared.TheConstants.{TICK_END}
use Rattle.rt_task.specs.Validity.{IsValid}
use Rattle.rt_task.specs.declared.Protocol.{Protocol}
use Rattle.rt_task.specs.declared.Protocol.TheVariants.{Fmlp, Mpcp, Omlp, Pcp, Srp}
use Rattle.rt_rules.specs.declared.Key.{Key}
use Rattle.rt_task.specs.declared.PluginKind.TheVariants as plugins
use Rattle.rt_rules.specs.KeyOrder.{lowest_key}
use Rattle.rt_rules.specs.Keys.{highest}
use Rattle.rt_rules.specs.Numbers.{has, is_empty, numbers_from}
use Rattle.rt_rules.proofs.BoolLaws.{both}
use Rattle.rt_rules.proofs.MemberLaws.{has-filter}
use Rattle.rt_rules.proofs.NumberLaws.{has-numbers_from, numbers_from-below, numbers_from-has}
use Rattle.rt_model.specs.BaseKeys.{base_key, key_by}
use Rattle.rt_model.specs.Ceilings.{ceiling, is_pcp}
use Rattle.rt_model.specs.Group.{Group, clusters, home, in_group, protocol, resv, sems, served_by, task, tasks, users}
use Rattle.rt_model.specs.Jobs.{done}
use Rattle.rt_model.specs.Past.{Past, now}
use Rattle.rt_model.specs.Releases.{has_come, is_released, opens_early, release}
use Rattle.rt_plays.specs.Limits.{IsTaskInLimits}
use Rattle.rt_plays.specs.AtHome.{IsHomeTask}
use Rattle.rt_plays.proofs.AtHomeLaws.{tasks_are_at_home}
use Rattle.rt_plays.proofs.SetLimits.{sets_are_in_limits}
use Rattle.rt_laws.proofs.pcp.BlockedOnce.{pcp-plugin}
use Rattle.rt_laws.proofs.ValidSets.{rules_of}
use Rattle.chart_texts.specs.Charts.{group_resvs}
use Rattle.resv_core.proofs.ValidClients.{tied}
use Rattle.why_texts.specs.Pieces.{key_piece}
use Rattle.why_texts.specs.SemLines.{ceiling_piece, declared_sems}
use Rattle.why_lines.specs.Ceilings.{ceiling_shown}
use Rattle.why_states.specs.inside.Keys.{highest_of, key_of_priority}

-- a declared semaphore is one of the group's
pub declared-sem : (g : Group) (s : ℕ) → has s (declared_sems g) ≡ true → has s (sems g) ≡ true
unfolding declared_sems
declared-sem g s h = (both (has s (sems g)) (not (is_empty (users g s))) (sym (has-filter (λ r. not (is_empty (users g r))) s (sems g)) ∙ h)).0

-- where a semaphore is PCP's, the set is P-FP's
pub pcp-set : (g : Group) (s : ℕ) → IsValid g.setup → has s (sems g) ≡ true → protocol g s ≡ Pcp → g.setup.plugin ≡ plugins.PFp
pcp-set g s valid there pcp = pcp-plugin g.setup.plugin (protocol g s) (ap is_pcp pcp) ((rules_of g valid).is_allowed s there)

-- and each base key is that of the task's priority
key-by-priority : (g : Group) (t : ℕ) → g.setup.plugin ≡ plugins.PFp → key_of_priority g t ≡ base_key g t []
unfolding base_key key_by
key-by-priority g t plugin = rw plugin refl

pub ceiling-by-priority : (g : Group) (s : ℕ) → g.setup.plugin ≡ plugins.PFp → highest_of g s (tasks g) ≡ ceiling g s
unfolding ceiling users
ceiling-by-priority g s plugin = ap (highest lowest_key) (same (users g s))
  where
    same : (ts : List ℕ) → map (key_of_priority g) ts ≡ map (λ t. base_key g t []) ts
    same [] = refl
    same (t ∷ ts) = λ i. key-by-priority g t plugin i ∷ same ts i

-- a reservation of the group has a place in the set, and its cluster is of the group
pub record IsResvThere (g : Group) (r : ℕ) : Type 0 where
  pub low : 1 ≤ r
  pub high : r ≤ length g.setup.resvs
  pub here : in_group g (resv g r).cluster.0 ≡ true

pub resv-there : (g : Group) (r : ℕ) → has r (group_resvs g) ≡ true → IsResvThere g r
unfolding group_resvs
resv-there g r h =
    let two = both (has r (numbers_from 1 (length g.setup.resvs))) (in_group g (resv g r).cluster.0) (sym (has-filter (λ n. in_group g (resv g n).cluster.0) r (numbers_from 1 (length g.setup.resvs))) ∙ h) in
    let below = numbers_from-below r 1 (length g.setup.resvs) two.0 in
    record { low = has-numbers_from r 1 (length g.setup.resvs) two.0; high = omega (arith, below); here = two.1 }

-- the relative deadline of a task is within the limits
pub deadline-low : (g : Group) (t : ℕ) → IsValid g.setup → has t (tasks g) ≡ true → (task g t).rel_deadline < TICK_END
unfolding task
deadline-low g t valid h =
    let at = tasks_are_at_home g t valid h in
    ((sets_are_in_limits g.setup valid).tasks_in (t - 1) (omega (arith, at.low, at.high))).deadline_low

-- the ceiling that a line shows is the semaphore's
pub ceiling-piece : (g : Group) (s : ℕ) (key : Key) → IsValid g.setup → has s (sems g) ≡ true → (g.setup.plugin ≡ plugins.PFp → key ≡ ceiling g s) → ceiling_shown (protocol g s) key ≡ ceiling_piece g (protocol g s) s
ceiling-piece g s key valid there is = by_protocol (protocol g s) refl
  where
    by_protocol : (p : Protocol) → protocol g s ≡ p → ceiling_shown p key ≡ ceiling_piece g p s
    by_protocol Pcp e = ap (λ (k : Key). codes " ceiling " ++ key_piece k) (is (pcp-set g s valid there e))
    by_protocol Fmlp e = refl
    by_protocol Omlp e = refl
    by_protocol Mpcp e = refl
    by_protocol Srp e = refl

clusters-member : (g : Group) (c : ℕ) → has c (clusters g) ≡ true → has c (numbers_from 0 (length g.setup.clusters)) && in_group g c ≡ true
unfolding clusters
clusters-member g c h = sym (has-filter (in_group g) c (numbers_from 0 (length g.setup.clusters))) ∙ h

-- under P-RES a task's reservation is of the group
pub server-there : (g : Group) (t : ℕ) → IsValid g.setup → g.setup.plugin ≡ plugins.PRes → has t (tasks g) ≡ true → IsResvThere g (served_by g t)
server-there g t valid plugin h =
    let at = tied g valid plugin t h in
    let home_here = (tasks_are_at_home g t valid h).cluster_there in
    record { low = at.low; high = at.high; here = ap (in_group g) at.at_home ∙ (both (has (home g t) (numbers_from 0 (length g.setup.clusters))) (in_group g (home g t)) (clusters-member g (home g t) home_here)).1 }

-- a job is open early
pub early-told : (g : Group) (t : ℕ) (past : Past) (early : Bool) (ended clock : ℕ) (o : Option ℕ) → early ≡ (task g t).early → ended ≡ done t past → clock ≡ now past → o ≡ release g t past
    → early && (nat_lt 0 ended && not (has_come clock o)) ≡ opens_early g t past
unfolding opens_early is_released
early-told g t past early ended clock o early_is ended_is clock_is o_is = λ i. early_is i && (nat_lt 0 (ended_is i) && not (has_come (clock_is i) (o_is i)))

-- a cluster that is told to be of the group is one of its clusters
pub cluster-there : (g : Group) (c : ℕ) → c < length g.setup.clusters → in_group g c ≡ true → has c (clusters g) ≡ true
unfolding clusters
cluster-there g c low here = has-filter (in_group g) c (numbers_from 0 (length g.setup.clusters)) ∙ rw (numbers_from-has 0 (length g.setup.clusters) c (omega arith) (omega (arith, low)), here) refl
