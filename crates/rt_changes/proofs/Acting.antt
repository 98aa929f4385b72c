-- Who asks for a semaphore or frees it: a user, and under PCP one of the semaphore's cluster.
use Rattle.std.proofs.Common.{inl, inr, refl, true, ℕ, ◌∷◌, ◌≡◌, ◌⊎◌}
use Rattle.std.specs.Prelude.{Some}
use Rattle.rt_task.specs.RuleWords.{is_of_one_cluster, is_stacked}
use Rattle.rt_task.specs.declared.PluginKind.{PluginKind}
use Rattle.rt_task.specs.declared.Protocol.TheVariants.{Fmlp, Mpcp, Omlp, Pcp, Srp}
use Rattle.rt_task.specs.declared.Protocol.{Protocol}
use Rattle.rt_rules.specs.Numbers.{has}
use Rattle.rt_rules.specs.SemState.{Asks, Frees, Neither, SemAct}
use Rattle.rt_model.specs.Ceilings.{is_pcp}
use Rattle.rt_model.specs.Group.{Group, home, protocol, sems, users}
use Rattle.rt_model.specs.Reachable.{IsReachable}
use Rattle.rt_model.specs.Past.{Event, Past, sem_act}
use Rattle.rt_model.specs.Semaphores.{cluster_of}
use Rattle.rt_rules.proofs.BoolLaws.{clash}
use Rattle.rt_laws.proofs.semaphores.Asked.{Asked, asked}
use Rattle.rt_laws.proofs.jobs.Engaged.{engaged, engaged-step, holder-engaged, nobody-engaged}
use Rattle.rt_laws.proofs.GroupLaws.{pcp-shares, user-home}
use Rattle.rt_laws.proofs.Moves.{by_moves}
use Rattle.rt_laws.proofs.Next.{IsNext}
use Rattle.rt_laws.proofs.Rules.{MeetsRules}
use Rattle.rt_changes.specs.Owners.{sem_of}

-- a task and a semaphore of the setup that it declares
pub record IsParty (g : Group) (t s : ℕ) : Type 0 where
  pub known : has s (sems g) ≡ true
  pub user : has t (users g s) ≡ true

abbrev AllParties : Group → Past → Type 0
AllParties g past = (t s : ℕ) → engaged g t s past ≡ true → IsParty g t s

parties-step : (g : Group) (e : Event) (past : Past) → Asked g e past → AllParties g past → AllParties g (e ∷ past)
parties-step g e past asks before t s h = split (engaged-step g t s e past h)
  where
    split : (engaged g t s past ≡ true) ⊎ (sem_act e ≡ Asks t s) → IsParty g t s
    split (inl k) = before t s k
    split (inr k) = record { known = (asks t s k).known; user = (asks t s k).user }

-- whoever holds or waits is a user of a semaphore of the setup
pub all_parties : (g : Group) → MeetsRules g → {past : Past} → IsReachable g past → AllParties g past
all_parties g rules made = by_moves g (AllParties g) (λ t s h. absurd (clash _ h (nobody-engaged g t s))) (λ past e made move before. parties-step g e past (asked g rules made move) before) made

-- users of a PCP semaphore are of its cluster
pub party-home : (g : Group) → MeetsRules g → (t s : ℕ) → IsParty g t s → is_pcp (protocol g s) ≡ true → home g t ≡ cluster_of g s
party-home g rules t s p k = user-home g rules s t (pcp-shares g.setup.plugin (protocol g s) k) p.user

-- users of a PCP or SRP semaphore are of its cluster
pub stack-home : (g : Group) → MeetsRules g → (t s : ℕ) → IsParty g t s → is_stacked (protocol g s) ≡ true → home g t ≡ cluster_of g s
stack-home g rules t s p k = user-home g rules s t (stacked-shares g.setup.plugin (protocol g s) k) p.user
  where
    stacked-shares : (p : PluginKind) (x : Protocol) → is_stacked x ≡ true → is_of_one_cluster x p ≡ true
    stacked-shares p Pcp h = refl
    stacked-shares p Srp h = refl
    stacked-shares p Fmlp h = cc
    stacked-shares p Omlp h = cc
    stacked-shares p Mpcp h = cc

-- the act of a task at a semaphore
pub data IsAct (t s : ℕ) : SemAct → Type 0 where
  asking : IsAct t s (Asks t s)
  freeing : IsAct t s (Frees t s)

-- whoever acts at a semaphore
pub record IsActor (g : Group) (s : ℕ) (e : Event) : Type 0 where
  pub task : ℕ
  pub act : IsAct task s (sem_act e)
  pub party : IsParty g task s

pub actor : (g : Group) → MeetsRules g → {past : Past} → (e : Event) → IsReachable g past → IsNext g e past → (s : ℕ) → sem_of (sem_act e) ≡ Some s → IsActor g s e
actor g rules {past} e made next s h = by_act (sem_act e) refl h
  where
    by_act : (x : SemAct) → sem_act e ≡ x → sem_of x ≡ Some s → IsActor g s e
    by_act (Asks t r) k m =
        let same : r ≡ s = cc in
        let asks_it : sem_act e ≡ Asks t s = rw (← same) k in
        record { task = t; act = rw asks_it asking; party = record { known = (next.asked t s asks_it).known; user = (next.asked t s asks_it).user } }
    by_act (Frees t r) k m =
        let same : r ≡ s = cc in
        let frees_it : sem_act e ≡ Frees t s = rw (← same) k in
        record { task = t; act = rw frees_it freeing; party = all_parties g rules made t s (holder-engaged g t s past (next.freed t s frees_it)) }
    by_act Neither k m = cc
