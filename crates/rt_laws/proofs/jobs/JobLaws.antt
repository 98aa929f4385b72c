-- While a task's job does not end, its release and its base key stay, and what exists goes on existing.
use Rattle.std.proofs.Common.{Bool, List, [], arith, cond, false, inl, inr, le-leb, le-ltb, leb-true, ltb-false, max, refl, suc, sym, true, zero, ℕ, ◌&&◌, ◌++◌, ◌||◌, ◌∙◌, ◌∷◌, ◌≡◌, ◌≤◌, ◌⊎◌}
use Rattle.std.specs.Prelude.{None, Option, Some, if◌then◌else◌, nat_lt, slice_get}
use Rattle.rt_task.specs.declared.Kind.TheVariants.{Periodic, Sporadic}
use Rattle.rt_task.specs.declared.Kind.{Kind}
use Rattle.rt_task.specs.declared.PluginKind.TheVariants as plugins
use Rattle.rt_task.specs.declared.PluginKind.{PluginKind}
use Rattle.rt_model.specs.BaseKeys.{base_key, key_by}
use Rattle.rt_model.specs.Group.{Group, task}
use Rattle.rt_model.specs.Jobs.{done}
use Rattle.rt_model.specs.Past.{Acted, Clock, Event, Past, accepted, did, ends_job, now}
use Rattle.rt_model.specs.Releases.{arrivals, arrives, deadline, exists, has_come, is_released, release, release_by}
use Rattle.rt_model.specs.Sleep.{sleep_end, sleeps, wakes}
use Rattle.rt_rules.proofs.BoolLaws.{both, either, or_true}
use Rattle.rt_model.proofs.ReleaseLaws.{is_next_of_early, exists-early}
use Rattle.rt_model.proofs.Steps.{done-step}
use Rattle.rt_laws.proofs.Rules.{MeetsRules}

-- the clock does not go back
now-grows : (e : Event) (past : Past) → now past ≤ now (e ∷ past)
now-grows (Clock tick) past = omega arith
now-grows (Acted d) past = omega arith

-- an event that ends no job of a task leaves how many have ended
done-keeps : (t : ℕ) (e : Event) (past : Past) → ends_job t e ≡ false → done t (e ∷ past) ≡ done t past
done-keeps t e past h = done-step t e past ∙ rw h

slice_get-append : (xs ys : List ℕ) (k r : ℕ) → slice_get xs k ≡ Some r → slice_get (xs ++ ys) k ≡ Some r
slice_get-append [] ys k r h = cc
slice_get-append (x ∷ xs) ys zero r h = h
slice_get-append (x ∷ xs) ys (suc k) r h = slice_get-append xs ys k r h

arrivals-keep : (t k r : ℕ) (e : Event) (past : Past) → slice_get (arrivals t past) k ≡ Some r → slice_get (arrivals t (e ∷ past)) k ≡ Some r
unfolding arrivals
arrivals-keep t k r (Clock tick) past h = h
arrivals-keep t k r (Acted d) past h = by_case (arrives t d.act && accepted d.reply)
  where
    by_case : (b : Bool) → slice_get (cond b (arrivals t past ++ now past ∷ []) (arrivals t past)) k ≡ Some r
    by_case true = slice_get-append (arrivals t past) (now past ∷ []) k r h
    by_case false = h

release_by-keeps : (g : Group) (kind : Kind) (t k r : ℕ) (e : Event) (past : Past) → release_by g kind t k past ≡ Some r → release_by g kind t k (e ∷ past) ≡ Some r
unfolding release_by
release_by-keeps g Periodic t k r e past h = h
release_by-keeps g Sporadic t k r e past h = arrivals-keep t k r e past h

-- a job is there that was released, or that is the next one of an early task
there_by : (g : Group) (t : ℕ) (past : Past) → exists g t past ≡ true → (is_released g t past ≡ true) ⊎ (is_next_of_early g t past ≡ true)
there_by g t past h = either (is_released g t past) (is_next_of_early g t past) (rw exists-early at h)

-- a release that has come is one
has_come-is : (clock : ℕ) (o : Option ℕ) → has_come clock o ≡ true → (r : ℕ) × (o ≡ Some r) × (r ≤ clock)
has_come-is clock None h = cc
has_come-is clock (Some r) h = (r, refl, leb-true r clock h)

pub released : (g : Group) (t : ℕ) (past : Past) → is_released g t past ≡ true → (r : ℕ) × (release g t past ≡ Some r) × (r ≤ now past)
unfolding is_released
released g t past h = has_come-is (now past) (release g t past) h

-- an early task is periodic: its releases do not wait for arrivals
early-periodic : (g : Group) → MeetsRules g → (t : ℕ) (past : Past) → is_next_of_early g t past ≡ true → (task g t).kind ≡ Periodic
early-periodic g rules t past h = rules.is_periodic t (both (task g t).early (nat_lt 0 (done t past)) h).0

-- while a job that is there goes on, its release stays
release-keeps : (g : Group) → MeetsRules g → (t : ℕ) (e : Event) (past : Past) → exists g t past ≡ true → ends_job t e ≡ false → release g t (e ∷ past) ≡ release g t past
unfolding release release_by
release-keeps g rules t e past h k = rw (done-keeps t e past k) (split (there_by g t past h))
  where
    split : (is_released g t past ≡ true) ⊎ (is_next_of_early g t past ≡ true) → release_by g (task g t).kind t (done t past) (e ∷ past) ≡ release g t past
    split (inl m) =
        let r = released g t past m in
        release_by-keeps g (task g t).kind t (done t past) r.0 e past r.1 ∙ sym r.1
    split (inr m) = rw (early-periodic g rules t past m)

-- while a job that is there goes on, it stays there
pub exists-keeps : (g : Group) → MeetsRules g → (t : ℕ) (e : Event) (past : Past) → exists g t past ≡ true → ends_job t e ≡ false → exists g t (e ∷ past) ≡ true
unfolding is_released
exists-keeps g rules t e past h k = rw exists-early (split (there_by g t past h))
  where
    split : (is_released g t past ≡ true) ⊎ (is_next_of_early g t past ≡ true) → has_come (now (e ∷ past)) (release g t (e ∷ past)) || ((task g t).early && nat_lt 0 (done t (e ∷ past))) ≡ true
    split (inl m) =
        let r = released g t past m in
        let same : release g t (e ∷ past) ≡ Some r.0 = release-keeps g rules t e past h k ∙ r.1 in
        rw (same, le-leb r.0 (now (e ∷ past)) (omega (arith, now-grows e past, r.2)))
    split (inr m) = rw (done-keeps t e past k, m) (or_true (has_come (now (e ∷ past)) (release g t (e ∷ past))))

-- while a job that is there goes on, its base key stays
pub base_key-keeps : (g : Group) → MeetsRules g → (t : ℕ) (e : Event) (past : Past) → exists g t past ≡ true → ends_job t e ≡ false → base_key g t (e ∷ past) ≡ base_key g t past
unfolding base_key deadline key_by
base_key-keeps g rules t e past h k = by_plugin g.setup.plugin
  where
    same : deadline g t (e ∷ past) ≡ deadline g t past
    same = rw (release-keeps g rules t e past h k)

    by_plugin : (p : PluginKind) → key_by g p t (e ∷ past) ≡ key_by g p t past
    by_plugin plugins.GsnEdf = rw same
    by_plugin plugins.CEdf = rw same
    by_plugin plugins.PsnEdf = rw same
    by_plugin plugins.PFp = refl
    by_plugin plugins.PRes = refl

-- a task that is awake stays awake unless it asks to sleep
pub awake-keeps : (t : ℕ) (e : Event) (past : Past) → sleeps t past ≡ false → sleep_end (now past) (did t e) ≡ 0 → sleeps t (e ∷ past) ≡ false
unfolding sleeps wakes
awake-keeps t e past h k = by_case (ends_job t e)
  where
    before : wakes t past ≤ now past
    before = ltb-false (now past) (wakes t past) h

    by_case : (b : Bool) → nat_lt (now (e ∷ past)) (if b then 0 else max (sleep_end (now past) (did t e)) (wakes t past)) ≡ false
    by_case true = le-ltb (now (e ∷ past)) 0 (omega arith)
    by_case false = le-ltb (now (e ∷ past)) _ (omega (arith, k, before, now-grows e past))
