-- A move that does nothing at semaphores changes keys and eligibility of few tasks, and one that is refused of none.
use Rattle.std.proofs.Common.{◌≡◌, ℕ, zero, suc, true, not, List, [], ◌∷◌, length, map, refl, ap, ◌∙◌}
use Rattle.std.specs.Prelude.{◌==◌, Option, None, Some, filter, is_some}
use Rattle.rt_rules.specs.declared.Key.{Key}
use Rattle.rt_task.specs.declared.PluginKind.{PluginKind}
use Rattle.rt_task.specs.declared.PluginKind.TheVariants as plugins
use Rattle.rt_task.specs.declared.Protocol.{Protocol}
use Rattle.rt_task.specs.declared.Protocol.TheVariants.{Fmlp, Mpcp, Omlp, Pcp, Srp}
use Rattle.rt_task.specs.Validity.{IsValid}
use Rattle.rt_rules.specs.Keys.{highest}
use Rattle.rt_rules.specs.Numbers.{has, is, is_empty, same, first}
use Rattle.rt_rules.specs.SemState.{Neither, SemState}
use Rattle.rt_rules.specs.Walks.{followers, inherited, walk}
use Rattle.rt_rules.proofs.BoolLaws.{both, or_true}
use Rattle.rt_rules.proofs.MemberLaws.{equal_self, has-filter}
use Rattle.rt_model.specs.BaseKeys.{base_key, key_by}
use Rattle.rt_model.specs.Blockers.{blocker}
use Rattle.rt_model.specs.Boosts.{boost, boost_by, boost_of, granted_at}
use Rattle.rt_model.specs.EffectiveKeys.{effective_key, next_at, next_by, waits_for}
use Rattle.rt_model.specs.Group.{Group, home, protocol, sems, tasks}
use Rattle.rt_model.specs.Holders.{awaits, holder, holds}
use Rattle.rt_model.specs.Reachable.{IsReachable, acted, clocked}
use Rattle.rt_model.specs.Outcomes.{past_act}
use Rattle.rt_model.specs.Past.{Event, Clock, Acted, Past, sem_act}
use Rattle.rt_laws.specs.SemaphoreLaws.{is_engaged}
use Rattle.rt_laws.proofs.semaphores.SemaphoreLaws.{engaged_keeps_job}
use Rattle.rt_changes.specs.Quiet.{KeysAfterQuiet, StandingAfterAct, StandingAfterClock}
use Rattle.rt_changes.specs.Touched.{SameJob, SameFacts}
use Rattle.rt_changes.proofs.rankings.SameEligibility.{pcp-quiet, srp-quiet, sem_state-quiet, awaits-quiet, eligible_after_act, eligible_after_clock}
use Rattle.rt_changes.proofs.rankings.TouchedTasks.{acts_touch_few, clock_keeps_jobs}

-- ---- semaphores

holder-quiet : (g : Group) (s : ℕ) (e : Event) (past : Past) → sem_act e ≡ Neither → holder g s (e ∷ past) ≡ holder g s past
unfolding holder
holder-quiet g s e past h = ap (λ (x : SemState). x.holder) (sem_state-quiet g s e past h)

holds-quiet : (g : Group) (t : ℕ) (e : Event) (past : Past) → sem_act e ≡ Neither → holds g t (e ∷ past) ≡ holds g t past
unfolding holds
holds-quiet g t e past h = λ i. filter (λ s. is t (holder-quiet g s e past h i)) (sems g)

same-self : (o : Option ℕ) → same o o ≡ true
same-self None = refl
same-self (Some x) = equal_self x

granted_at-quiet : (g : Group) (s : ℕ) (e : Event) (past : Past) → sem_act e ≡ Neither → granted_at g s (e ∷ past) ≡ granted_at g s past
unfolding granted_at
granted_at-quiet g s e past h = rw (holder-quiet g s e past h, same-self (holder g s past))

boost-quiet : (g : Group) (t : ℕ) (e : Event) (past : Past) → sem_act e ≡ Neither → boost g t (e ∷ past) ≡ boost g t past
unfolding boost boost_of boost_by
boost-quiet g t e past h = rw (holds-quiet g t e past h) (by_sem (first (holds g t past)))
  where
    by_protocol : (s : ℕ) (p : Protocol) → boost_by g p s t (e ∷ past) ≡ boost_by g p s t past
    by_protocol s Fmlp = rw (granted_at-quiet g s e past h)
    by_protocol s Omlp = refl
    by_protocol s Pcp = refl
    by_protocol s Mpcp = refl
    by_protocol s Srp = refl

    by_sem : (o : Option ℕ) → boost_of g t o (e ∷ past) ≡ boost_of g t o past
    by_sem None = refl
    by_sem (Some s) = by_protocol s (protocol g s)

waits_for-quiet : (g : Group) (t : ℕ) (e : Event) (past : Past) → sem_act e ≡ Neither → waits_for g t (e ∷ past) ≡ waits_for g t past
unfolding waits_for next_at next_by blocker
waits_for-quiet g t e past h = rw (awaits-quiet g t e past h) (by_sem (awaits g t past))
  where
    by_protocol : (s : ℕ) (p : Protocol) → next_by g p s t (e ∷ past) ≡ next_by g p s t past
    by_protocol s Pcp = rw (pcp-quiet g _ e past h)
    by_protocol s Fmlp = holder-quiet g s e past h
    by_protocol s Omlp = holder-quiet g s e past h
    by_protocol s Mpcp = holder-quiet g s e past h
    by_protocol s Srp = holder-quiet g s e past h

    by_sem : (o : Option ℕ) → next_at g t o (e ∷ past) ≡ next_at g t o past
    by_sem None = refl
    by_sem (Some s) = by_protocol s (protocol g s)

-- ---- keys

-- a task from which a walk leads to another waits for a semaphore
waits-some : (g : Group) (t u : ℕ) (past : Past) (n : ℕ) (next : ℕ → Option ℕ) → has t (walk next n (waits_for g u past)) ≡ true → is_some (awaits g u past) ≡ true
unfolding waits_for next_at
waits-some g t u past n next h = by_sem n (awaits g u past) h
  where
    by_sem : (m : ℕ) (o : Option ℕ) → has t (walk next m (next_at g u o past)) ≡ true → is_some o ≡ true
    by_sem zero None k = cc
    by_sem (suc m) None k = cc
    by_sem m (Some s) k = refl

map-keys : (f f' : ℕ → Key) (us : List ℕ) → ((u : ℕ) → has u us ≡ true → f' u ≡ f u) → map f' us ≡ map f us
map-keys f f' [] same = refl
map-keys f f' (u ∷ us) same = let here : f' u ≡ f u = same u (rw (equal_self u)) in ap (λ k. k ∷ map f' us) here ∙ ap (λ ks. f u ∷ ks) (map-keys f f' us (λ v h. same v (rw h (or_true (v == u)))))

pub key-quiet : (g : Group) → IsValid g.setup → (e : Event) (past : Past) → IsReachable g (e ∷ past) → sem_act e ≡ Neither → (t : ℕ) → base_key g t (e ∷ past) ≡ base_key g t past → effective_key g t (e ∷ past) ≡ effective_key g t past
unfolding effective_key
key-quiet g valid e past made h t same =
    let next : (ℕ → Option ℕ) = λ u. waits_for g u past in
    let next_same : (λ u. waits_for g u (e ∷ past)) ≡ next = λ i u. waits_for-quiet g u e past h i in
    let us : List ℕ = followers next (tasks g) t in
    let us_same : followers (λ u. waits_for g u (e ∷ past)) (tasks g) t ≡ us = ap (λ n. followers n (tasks g) t) next_same in
    rw (boost-quiet g t e past h, us_same) (by_boost (boost g t past) us (λ u k. waits u k))
  where
    waits : (u : ℕ) → has u (followers (λ v. waits_for g v past) (tasks g) t) ≡ true → base_key g u (e ∷ past) ≡ base_key g u past
    waits u k =
        let w : has t (walk (λ v. waits_for g v past) (length (tasks g)) (waits_for g u past)) ≡ true = (both (has u (tasks g)) _ (rw has-filter at k)).1 in
        let waiting : is_some (awaits g u past) ≡ true = waits-some g t u past (length (tasks g)) (λ v. waits_for g v past) w in
        let after : is_engaged g u (e ∷ past) ≡ true = rw (awaits-quiet g u e past h, waiting) (or_true (not (is_empty (holds g u (e ∷ past))))) in
        (engaged_keeps_job g e past valid made u after).same_key

    by_boost : (o : Option Key) (us : List ℕ) → ((u : ℕ) → has u us ≡ true → base_key g u (e ∷ past) ≡ base_key g u past) → inherited o (λ u. base_key g u (e ∷ past)) us t ≡ inherited o (λ u. base_key g u past) us t
    by_boost (Some k) us keys = refl
    by_boost None us keys = ap (λ k. highest k (map (λ u. base_key g u (e ∷ past)) us)) same ∙ ap (highest (base_key g t past)) (map-keys (λ u. base_key g u past) (λ u. base_key g u (e ∷ past)) us keys)

pub keys_after_quiet : KeysAfterQuiet
keys_after_quiet g e past valid made h t same = key-quiet g valid e past made h t same

pub base_key-same : (g : Group) (t : ℕ) (past past' : Past) → SameJob g t past past' → base_key g t past' ≡ base_key g t past
unfolding base_key key_by
base_key-same g t past past' s = by_plugin g.setup.plugin
  where
    by_plugin : (p : PluginKind) → key_by g p t past' ≡ key_by g p t past
    by_plugin plugins.GsnEdf = rw s.deadline_same
    by_plugin plugins.CEdf = rw s.deadline_same
    by_plugin plugins.PsnEdf = rw s.deadline_same
    by_plugin plugins.PFp = refl
    by_plugin plugins.PRes = refl

-- ---- standings

pub standing_after_act : StandingAfterAct
standing_after_act g past valid made none q act quiet t h =
    let e : Event = Acted (past_act g q act past) in
    let f : SameFacts g t past (e ∷ past) = acts_touch_few g past valid made q act t h in
    record {
      eligible_same = eligible_after_act g past valid made none q act t h (awaits-quiet g t e past quiet) (srp-quiet g (home g t) e past quiet);
      key_same = λ k. key-quiet g valid e past (acted q act made) quiet t (base_key-same g t past (e ∷ past) f.same_job);
    }

pub standing_after_clock : StandingAfterClock
standing_after_clock g past valid made none tick t h = record {
  eligible_same = eligible_after_clock g past valid made none tick t h;
  key_same = λ k. key-quiet g valid (Clock tick) past (clocked tick made) refl t (base_key-same g t past (Clock tick ∷ past) (clock_keeps_jobs g past valid made tick t));
}
