-- PCP: a cluster after an Unlock, in one of two forms: nothing was granted, or one request was.
use Rattle.std.proofs.Common.{Bool, List, [], eqb-true, false, inl, inr, refl, true, ℕ, ◌&&◌, ◌||◌, ◌∷◌, ◌≡◌, ◌⊎◌}
use Rattle.std.specs.Prelude.{if◌then◌else◌, ◌==◌}
use Rattle.rt_rules.specs.Distinct.{IsDistinct}
use Rattle.rt_rules.specs.Numbers.{has}
use Rattle.rt_rules.specs.Pcp.{PcpState, TaskSem, granted, in_order, passes, pcp_after, tested, without_pair}
use Rattle.rt_rules.specs.SemState.{Frees}
use Rattle.rt_model.specs.BaseKeys.{above, base_key}
use Rattle.rt_model.specs.Ceilings.{above_ceiling, at_cluster, ceiling, is_pcp, pcp}
use Rattle.rt_model.specs.Group.{Group, protocol, users}
use Rattle.rt_model.specs.Reachable.{IsReachable}
use Rattle.rt_model.specs.Past.{Event, Past, sem_act}
use Rattle.rt_model.specs.Semaphores.{cluster_of}
use Rattle.rt_rules.proofs.BoolLaws.{clash, or_true, unless}
use Rattle.rt_rules.proofs.KeyLaws.{higher-below}
use Rattle.rt_rules.proofs.MemberLaws.{equal_self}
use Rattle.rt_rules.proofs.PairLaws.{distinct-in_order, has_pair, has_pair-in_order, tasks_of_pairs}
use Rattle.rt_rules.proofs.PcpGrantLaws.{IsFalling, falling-in_order}
use Rattle.rt_rules.proofs.PcpLaws.{passes-cons}
use Rattle.rt_laws.proofs.jobs.BaseKeyLaws.{above-strict}
use Rattle.rt_laws.proofs.pcp.PcpState.{IsPcpKept, pcp_kept, user-not_over}
use Rattle.rt_laws.proofs.Rules.{MeetsRules}
use Rattle.rt_laws.proofs.pcp.PcpGrants.{waiting_once}
use Rattle.rt_changes.proofs.Acting.{IsParty, party-home}

-- ---- the tries, in falling order

tested-none : (over : ℕ → ℕ → Bool) (ps : List TaskSem) (l : PcpState) → ((t : ℕ) → has t (tasks_of_pairs ps) ≡ true → passes over l.held t ≡ false) → tested over ps l ≡ l
tested-none over [] l h = refl
tested-none over (p ∷ ps) l h = let no : passes over l.held p.task ≡ false = h p.task (rw (equal_self p.task)) in rw no (tested-none over ps l (λ t k. h t (rw k (or_true (t == p.task)))))

-- at most one of the tries is granted
abbrev IsForm : (ℕ → ℕ → Bool) → List TaskSem → PcpState → Type 0
IsForm over ps l = (tested over ps l ≡ l) ⊎ ((p : TaskSem) × (has_pair p.task p.sem ps ≡ true) × (tested over ps l ≡ granted p l))

tested-form : (before over : ℕ → ℕ → Bool) (ps : List TaskSem) (l : PcpState) → IsDistinct (tasks_of_pairs ps) → IsFalling before ps → ((p : TaskSem) (t : ℕ) → has_pair p.task p.sem ps ≡ true → before t p.task ≡ false → over t p.sem ≡ false) → IsForm over ps l
tested-form before over [] l d f low = inl refl
tested-form before over (p ∷ ps) l d f low = by_case (passes over l.held p.task) refl (tested-form before over ps l d.1 f.1 (λ q t h k. low q t (rw h (or_true (q.task == p.task && q.sem == p.sem))) k))
  where
    none_more : (t : ℕ) → has t (tasks_of_pairs ps) ≡ true → passes over (p ∷ l.held) t ≡ false
    none_more t h =
        let under : over t p.sem ≡ false = low p t (rw (equal_self p.task, equal_self p.sem)) (f.0 t h) in
        let other : p.task == t ≡ false = unless _ (λ m. let same : p.task ≡ t = eqb-true p.task t m in let k : has p.task (tasks_of_pairs ps) ≡ true = rw same h in clash _ k d.0) in
        rw (passes-cons over p l.held t, other, under)

    later : IsForm over ps l → (tested over ps l ≡ l) ⊎ ((q : TaskSem) × ((q.task == p.task && q.sem == p.sem) || has_pair q.task q.sem ps ≡ true) × (tested over ps l ≡ granted q l))
    later (inl e) = inl e
    later (inr q) = inr (q.0, rw q.1 (or_true (q.0.task == p.task && q.0.sem == p.sem)), q.2)

    by_case : (b : Bool) → passes over l.held p.task ≡ b → IsForm over ps l → (tested over ps (if b then granted p l else l) ≡ l) ⊎ ((q : TaskSem) × ((q.task == p.task && q.sem == p.sem) || has_pair q.task q.sem ps ≡ true) × (tested over ps (if b then granted p l else l) ≡ granted q l))
    by_case true e r = inr (p, rw (equal_self p.task, equal_self p.sem), tested-none over ps (granted p l) none_more)
    by_case false e r = later r

-- ---- an Unlock

-- what is left of a cluster where a task has freed a semaphore
abbrev pub freed_state : ℕ → ℕ → PcpState → PcpState
freed_state t s l = record l { held = without_pair (record { task = t; sem = s }) l.held }

-- nothing was granted, or one request that waited
abbrev pub IsFreed : ℕ → ℕ → PcpState → PcpState → Type 0
IsFreed t s before after = (after ≡ freed_state t s before) ⊎ ((p : TaskSem) × (has_pair p.task p.sem before.waiting ≡ true) × (after ≡ granted p (freed_state t s before)))

-- a user of the semaphore is not over its ceiling, nor is one that is not above a user
under-ceiling : (g : Group) (t u s : ℕ) → has u (users g s) ≡ true → above g [] t u ≡ false → above_ceiling g t s ≡ false
unfolding above above_ceiling
under-ceiling g t u s h k = unless _ (λ m. clash _ (higher-below (base_key g t []) (ceiling g s) (base_key g u []) m (user-not_over g u s h)) k)

pub freed-form : (g : Group) → MeetsRules g → (t s : ℕ) (e : Event) (past : Past) → IsReachable g past → IsParty g t s → is_pcp (protocol g s) ≡ true → sem_act e ≡ Frees t s → IsFreed t s (pcp g (cluster_of g s) past) (pcp g (cluster_of g s) (e ∷ past))
unfolding pcp at_cluster
freed-form g rules t s e past made party k h = rw (h, party-home g rules t s party k, equal_self (cluster_of g s), k) (in_waiting (tested-form (above g []) (above_ceiling g) (in_order (above g []) (pcp g c past).waiting) (freed_state t s (pcp g c past)) (distinct-in_order (above g []) (pcp g c past).waiting (waiting_once g rules c made)) (falling-in_order (above g []) (above-strict g []) (pcp g c past).waiting) low))
  where
    c : ℕ
    c = cluster_of g s

    kept : IsPcpKept g c (pcp g c past)
    kept = pcp_kept g rules c made

    low : (p : TaskSem) (v : ℕ) → has_pair p.task p.sem (in_order (above g []) (pcp g c past).waiting) ≡ true → above g [] v p.task ≡ false → above_ceiling g v p.sem ≡ false
    low p v m n = under-ceiling g v p.task p.sem (kept.waiting p.task p.sem (rw has_pair-in_order at m)).user n

    in_waiting : IsForm (above_ceiling g) (in_order (above g []) (pcp g c past).waiting) (freed_state t s (pcp g c past)) → IsFreed t s (pcp g c past) (pcp_after (above g []) (above_ceiling g) (Frees t s) (pcp g c past))
    in_waiting (inl m) = inl m
    in_waiting (inr q) = inr (q.0, rw has_pair-in_order at q.1, q.2)
