-- The words of the model are read off the facts that are kept.
use Rattle.std.proofs.Common.{◌≡◌, ◌&&◌, ℕ, zero, suc, List, [], ◌∷◌, drop, refl, ap}
use Rattle.std.specs.Prelude.{is_none, nat_lt, slice_get}
use Rattle.rt_task.specs.declared.Kind.{Kind}
use Rattle.rt_task.specs.declared.Kind.TheVariants.{Periodic, Sporadic}
use Rattle.rt_task.specs.declared.PluginKind.{PluginKind}
use Rattle.rt_task.specs.declared.PluginKind.TheVariants as plugins
use Rattle.rt_rules.specs.Numbers.{first, is_empty}
use Rattle.rt_model.specs.BaseKeys.{base_key, key_by}
use Rattle.rt_model.specs.Group.{Group, task}
use Rattle.rt_model.specs.Holders.{awaits, holds}
use Rattle.rt_model.specs.Jobs.{done}
use Rattle.rt_model.specs.Outcomes.{is_spent}
use Rattle.rt_model.specs.Past.{Past, now}
use Rattle.rt_model.specs.Releases.{arrivals, has_come, release, release_by, deadline, is_released, opens_early, exists, ready}
use Rattle.rt_model.specs.Sleep.{sleeps}
use Rattle.rt_model.specs.Tops.{eligible, is_admitted, is_served}
use Rattle.group_jobs.specs.Facts.{job_facts}
use Rattle.group_jobs.specs.Words.{release_by_kind, release_of, deadline_of, is_early, is_there, is_asleep, is_ready, is_used_up, key_of}
use Rattle.group_jobs.specs.Words.{WordsAreRead}

-- the element at a place is the first of those that are left from there on
pub slice_get-drop : (xs : List ℕ) (k : ℕ) → slice_get xs k ≡ first (drop k xs)
slice_get-drop [] zero = refl
slice_get-drop [] (suc k) = refl
slice_get-drop (x ∷ xs) zero = refl
slice_get-drop (x ∷ xs) (suc k) = slice_get-drop xs k

pub release-read : (g : Group) (t : ℕ) (past : Past) → release g t past ≡ release_of (task g t) (job_facts t past)
unfolding release release_by
release-read g t past = by_kind (task g t).kind
  where
    by_kind : (k : Kind) → release_by g k t (done t past) past ≡ release_by_kind k (task g t) (job_facts t past)
    by_kind Periodic = refl
    by_kind Sporadic = slice_get-drop (arrivals t past) (done t past)

deadline-read : (g : Group) (t : ℕ) (past : Past) → deadline g t past ≡ deadline_of (task g t) (job_facts t past)
unfolding deadline
deadline-read g t past = rw release-read

released-read : (g : Group) (t : ℕ) (past : Past) → is_released g t past ≡ has_come (now past) (release_of (task g t) (job_facts t past))
unfolding is_released
released-read g t past = rw release-read

early-read : (g : Group) (t : ℕ) (past : Past) → opens_early g t past ≡ is_early (now past) (task g t) (job_facts t past)
unfolding opens_early
early-read g t past = rw released-read

there-read : (g : Group) (t : ℕ) (past : Past) → exists g t past ≡ is_there (now past) (task g t) (job_facts t past)
unfolding exists
there-read g t past = rw (released-read, early-read)

asleep-read : (t : ℕ) (past : Past) → sleeps t past ≡ is_asleep (now past) (job_facts t past)
unfolding sleeps
asleep-read t past = refl

pub ready-read : (g : Group) (t : ℕ) (past : Past) → ready g t past ≡ is_ready (now past) (task g t) (job_facts t past)
unfolding ready
ready-read g t past = rw (there-read, asleep-read)

pub key-read : (g : Group) (t : ℕ) (past : Past) → base_key g t past ≡ key_of g g.setup.plugin t (job_facts t past)
unfolding base_key key_by
key-read g t past = by_plugin g.setup.plugin
  where
    by_plugin : (p : PluginKind) → key_by g p t past ≡ key_of g p t (job_facts t past)
    by_plugin plugins.PFp = refl
    by_plugin plugins.PRes = refl
    by_plugin plugins.GsnEdf = rw deadline-read
    by_plugin plugins.CEdf = rw deadline-read
    by_plugin plugins.PsnEdf = rw deadline-read

pub spent-read : (g : Group) (t : ℕ) (past : Past)
    → is_spent g t past ≡ is_used_up (task g t) (is_empty (holds g t past)) (job_facts t past)
unfolding is_spent
spent-read g t past = refl

eligible-read : (g : Group) (t : ℕ) (past : Past)
    → eligible g t past ≡ is_ready (now past) (task g t) (job_facts t past) &&
    (is_none (awaits g t past) && (is_served g g.setup.plugin t past && is_admitted g g.setup.plugin t past))
unfolding eligible
eligible-read g t past = rw ready-read

pub words_are_read : WordsAreRead
words_are_read g t past = record {
  release_is = release-read g t past;
  deadline_is = deadline-read g t past;
  late_is = ap (λ n. nat_lt n (now past)) (deadline-read g t past);
  released_is = released-read g t past;
  early_is = early-read g t past;
  there_is = there-read g t past;
  asleep_is = asleep-read t past;
  ready_is = ready-read g t past;
  eligible_is = eligible-read g t past;
  key_is = key-read g t past;
  spent_is = spent-read g t past;
}
