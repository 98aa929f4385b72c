-- Who holds or waits has a job that exists and is awake, and its base key stays while it does.
use Rattle.std.proofs.Common.{false, inl, inr, true, ℕ, ◌∷◌, ◌≡◌, ◌⊎◌}
use Rattle.rt_rules.specs.Numbers.{has}
use Rattle.rt_rules.specs.SemState.{Asks}
use Rattle.rt_model.specs.BaseKeys.{base_key}
use Rattle.rt_model.specs.Group.{Group, sems, users}
use Rattle.rt_model.specs.Reachable.{IsReachable}
use Rattle.rt_model.specs.Past.{Event, Past, sem_act}
use Rattle.rt_model.specs.Releases.{exists}
use Rattle.rt_model.specs.Sleep.{sleeps}
use Rattle.rt_rules.proofs.BoolLaws.{clash}
use Rattle.rt_laws.proofs.semaphores.Asked.{IsAsked}
use Rattle.rt_laws.proofs.jobs.Engaged.{engaged, engaged-step, nobody-engaged}
use Rattle.rt_laws.proofs.jobs.JobLaws.{awake-keeps, base_key-keeps, exists-keeps}
use Rattle.rt_laws.proofs.Moves.{by_moves}
use Rattle.rt_laws.proofs.Next.{IsNext, next}
use Rattle.rt_laws.proofs.Rules.{MeetsRules}

-- who holds or waits: its job exists and is awake, and it is a user
pub record IsActive (g : Group) (t s : ℕ) (past : Past) : Type 0 where
  pub exists_now : exists g t past ≡ true
  pub awake : sleeps t past ≡ false
  pub user : has t (users g s) ≡ true

-- whoever is engaged has a job that is there and awake
abbrev pub AllActive : Group → Past → Type 0
AllActive g past = (t s : ℕ) → has s (sems g) ≡ true → engaged g t s past ≡ true → IsActive g t s past

active-step : (g : Group) → MeetsRules g → (e : Event) (past : Past) → IsNext g e past → AllActive g past → AllActive g (e ∷ past)
active-step g rules e past next before t s there h = kept (was (engaged-step g t s e past h))
  where
    was : (engaged g t s past ≡ true) ⊎ (sem_act e ≡ Asks t s) → IsActive g t s past
    was (inl k) = before t s there k
    was (inr k) = let a : IsAsked g t s past = next.asked t s k in record { exists_now = a.exists_now; awake = a.awake; user = a.user }

    kept : IsActive g t s past → IsActive g t s (e ∷ past)
    kept k = record {
      exists_now = exists-keeps g rules t e past k.exists_now (next.goes_on t s there h);
      awake = awake-keeps t e past k.awake (next.awake t s there h);
      user = k.user;
    }

-- so it is after every move
pub all_active : (g : Group) → MeetsRules g → {past : Past} → IsReachable g past → AllActive g past
all_active g rules made = by_moves g (AllActive g) (λ t s there h. absurd (clash _ h (nobody-engaged g t s))) (λ past e made move before. active-step g rules e past (next g rules made move) before) made

-- while a task holds or waits its base key stays
pub engaged-key : (g : Group) → MeetsRules g → (t s : ℕ) (e : Event) (past : Past) → IsNext g e past → AllActive g past → has s (sems g) ≡ true → engaged g t s (e ∷ past) ≡ true → base_key g t (e ∷ past) ≡ base_key g t past
engaged-key g rules t s e past next before there h = base_key-keeps g rules t e past (was (engaged-step g t s e past h)) (next.goes_on t s there h)
  where
    was : (engaged g t s past ≡ true) ⊎ (sem_act e ≡ Asks t s) → exists g t past ≡ true
    was (inl k) = (before t s there k).exists_now
    was (inr k) = (next.asked t s k).exists_now
