-- A base key stays but at the end of a job or an arrival.
use Rattle.std.proofs.Common.{Bool, false, not, refl, true, ℕ, ◌||◌, ◌∙◌, ◌∷◌, ◌≡◌}
use Rattle.std.specs.Prelude.{None, Option, Some, is_some}
use Rattle.rt_task.specs.declared.Kind.TheVariants.{Periodic, Sporadic}
use Rattle.rt_task.specs.declared.Kind.{Kind}
use Rattle.rt_task.specs.declared.PluginKind.TheVariants as plugins
use Rattle.rt_task.specs.declared.PluginKind.{PluginKind}
use Rattle.rt_rules.specs.Numbers.{is_empty}
use Rattle.rt_model.specs.BaseKeys.{base_key, key_by}
use Rattle.rt_model.specs.Group.{Group, task}
use Rattle.rt_model.specs.Holders.{awaits, holds}
use Rattle.rt_model.specs.Jobs.{done}
use Rattle.rt_model.specs.Past.{Acted, Clock, Event, Past, ends_job}
use Rattle.rt_model.specs.Releases.{arrivals, deadline, release, release_by}
use Rattle.rt_model.proofs.Steps.{done-step}
use Rattle.rt_rules.proofs.BoolLaws.{clash, neither, not_false, unless}
use Rattle.rt_laws.specs.SemaphoreLaws.{is_engaged}
use Rattle.rt_laws.proofs.semaphores.SemaphoreLaws.{engaged_keeps_job}
use Rattle.rt_laws.proofs.jobs.JobLaws.{base_key-keeps}
use Rattle.rt_laws.proofs.ValidSets.{rules_of}
use Rattle.rt_changes.specs.KeyChanges.{BaseKeyStays, BaseKeyStaysWithJob, EndedIsFree, arrived, renews}

done-left : (t : ℕ) (e : Event) (past : Past) → ends_job t e ≡ false → done t (e ∷ past) ≡ done t past
done-left t e past h = done-step t e past ∙ rw h

arrivals-left : (t : ℕ) (e : Event) (past : Past) → arrived t e ≡ false → arrivals t (e ∷ past) ≡ arrivals t past
unfolding arrivals
arrivals-left t (Clock tick) past h = refl
arrivals-left t (Acted d) past h = rw h

release-left : (g : Group) (k : Kind) (t n : ℕ) (e : Event) (past : Past) → arrived t e ≡ false → release_by g k t n (e ∷ past) ≡ release_by g k t n past
unfolding release_by
release-left g Periodic t n e past h = refl
release-left g Sporadic t n e past h = rw (arrivals-left t e past h)

pub base_key-left : (g : Group) (t : ℕ) (e : Event) (past : Past) → renews t e ≡ false → base_key g t (e ∷ past) ≡ base_key g t past
unfolding base_key key_by deadline release
base_key-left g t e past h = by_plugin g.setup.plugin
  where
    same : deadline g t (e ∷ past) ≡ deadline g t past
    same = let n = neither (ends_job t e) (arrived t e) h in rw (done-left t e past n.0, release-left g (task g t).kind t (done t past) e past n.1)

    by_plugin : (p : PluginKind) → key_by g p t (e ∷ past) ≡ key_by g p t past
    by_plugin plugins.GsnEdf = rw same
    by_plugin plugins.CEdf = rw same
    by_plugin plugins.PsnEdf = rw same
    by_plugin plugins.PFp = refl
    by_plugin plugins.PRes = refl

pub base_key_stays : BaseKeyStays
base_key_stays g e past valid made t h = base_key-left g t e past h

pub base_key_stays_with_job : BaseKeyStaysWithJob
base_key_stays_with_job g e past valid made t h k = base_key-keeps g (rules_of g valid) t e past h k

not_engaged : (a : Bool) (o : Option ℕ) → not a || is_some o ≡ false → (a ≡ true) × (o ≡ None)
not_engaged a None h = (not_false a (neither (not a) false h).0, refl)
not_engaged a (Some s) h = let m : true ≡ false = (neither (not a) true h).1 in cc

pub ended_is_free : EndedIsFree
ended_is_free g e past valid made t h =
    let none : is_engaged g t (e ∷ past) ≡ false = unless _ (λ k. clash _ h (engaged_keeps_job g e past valid made t k).goes_on) in
    let q = not_engaged (is_empty (holds g t (e ∷ past))) (awaits g t (e ∷ past)) none in
    record { holds_none = q.0; waits_none = q.1 }
