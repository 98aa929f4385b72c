-- SRP admits a task that is under way, and one that passes the test; in a cluster without SRP semaphores each passes. So it admits a task
-- as before where the same is held and its job goes on.
use Rattle.std.proofs.Common.{◌≡◌, ◌∙◌, ℕ, Bool, true, false, not, ◌||◌, ◌∷◌, refl, sym, ap}
use Rattle.rt_task.specs.RuleWords.{stands_under}
use Rattle.rt_task.specs.Validity.{IsValid}
use Rattle.rt_task.specs.declared.PluginKind.{PluginKind}
use Rattle.rt_task.specs.declared.PluginKind.TheVariants as plugins
use Rattle.rt_task.specs.declared.Protocol.TheVariants.{Srp}
use Rattle.rt_rules.specs.Numbers.{has}
use Rattle.rt_rules.specs.Srp.{srp_passes}
use Rattle.rt_rules.proofs.BoolLaws.{clash, or_true}
use Rattle.rt_model.specs.Group.{Group, home, task, tasks}
use Rattle.rt_model.specs.Past.{Event, Past, did, ends_job}
use Rattle.rt_model.specs.Reachable.{IsReachable}
use Rattle.rt_model.specs.StackPolicy.{has_srp, passes_srp, srp, srp_ceiling}
use Rattle.rt_model.specs.Tops.{is_admitted}
use Rattle.rt_model.specs.UnderWay.{is_sleep, starts, under_way}
use Rattle.rt_laws.proofs.Moves.{IsMove, moved}
use Rattle.rt_laws.proofs.Rules.{MeetsRules}
use Rattle.rt_laws.proofs.srp.SrpState.{IsSrpUser, eligible-is, srp_users, start-is}
use Rattle.rt_laws.proofs.srp.SrpUsers.{IsSrpCluster, srp_cluster}
use Rattle.rt_laws.proofs.ValidSets.{rules_of}
use Rattle.group_jobs.specs.Ways.{AreWays}
use Rattle.sem_table.proofs.Stacks.{no-pairs}
use Rattle.group_sems.specs.GroupSems.{GroupSems}
use Rattle.group_sems.specs.Kept.{KeepsLocks}
use Rattle.group_sems.proofs.Reading.{passing_is_read}
use Rattle.group_core.specs.Reads.{admits_in}

module _ (g : Group) (rules : MeetsRules g) (past : Past) (made : IsReachable g past) (t : ℕ) where
  -- where nobody of its cluster uses an SRP semaphore
  passes-free : ((u s : ℕ) → IsSrpUser g (home g t) u s → ⊥) → passes_srp g t past ≡ true
  unfolding passes_srp
  passes-free none = rw (no-pairs (srp g (home g t) past) (λ u s m. none u s (srp_users g rules (home g t) made u s m)))

  cluster : (u s : ℕ) → IsSrpUser g (home g t) u s → IsSrpCluster g (home g t)
  cluster u s user = srp_cluster g rules (home g t) u s user.of_srp user.user user.at_home

  pub admitted-is : is_admitted g g.setup.plugin t past ≡ under_way t past || passes_srp g t past
  unfolding is_admitted
  admitted-is = by_plugin g.setup.plugin refl
    where
      others : stands_under Srp g.setup.plugin ≡ false → true ≡ under_way t past || passes_srp g t past
      others h = rw (passes-free (λ u s user. clash _ (cluster u s user).stands h)) (sym (or_true (under_way t past)))

      psn : (b : Bool) → has_srp g (home g t) ≡ b → not b || (under_way t past || passes_srp g t past) ≡ under_way t past || passes_srp g t past
      psn true e = refl
      psn false e = rw (passes-free (λ u s user. clash _ (cluster u s user).has_it e)) (sym (or_true (under_way t past)))

      by_plugin : (p : PluginKind) → g.setup.plugin ≡ p → is_admitted g p t past ≡ under_way t past || passes_srp g t past
      by_plugin plugins.PsnEdf e = psn (has_srp g (home g t)) refl
      by_plugin plugins.GsnEdf e = others (rw e)
      by_plugin plugins.CEdf e = others (rw e)
      by_plugin plugins.PFp e = others (rw e)
      by_plugin plugins.PRes e = others (rw e)

-- whether a task is admitted is read off what is kept
pub admitted-read : (g : Group) → IsValid g.setup → (past : Past) → IsReachable g past → (v : GroupSems) → KeepsLocks g past v → AreWays g past v.ways
    → (t : ℕ) → has t (tasks g) ≡ true → admits_in g.setup v t ≡ is_admitted g g.setup.plugin t past
unfolding task
admitted-read g valid past made v locks ways t there =
    rw (ways.ways_are t there, passing_is_read g past valid made v t there locks) (sym (admitted-is g (rules_of g valid) past made t))

-- an event ends no job of the task, and is no Sleep of it
abbrev pub GoesOn : ℕ → Event → Type 0
GoesOn t e = (ends_job t e ≡ false) × (is_sleep (did t e) ≡ false)

way-over : (t : ℕ) (e : Event) (past : Past) → GoesOn t e → under_way t (e ∷ past) ≡ starts t e || under_way t past
unfolding under_way
way-over t e past goes = rw (goes.0, goes.1)

passes-over : (g : Group) (t : ℕ) (past past' : Past) → srp g (home g t) past' ≡ srp g (home g t) past → passes_srp g t past' ≡ passes_srp g t past
unfolding passes_srp
passes-over g t past past' same = ap (λ held. srp_passes (srp_ceiling g) held t (task g t).rel_deadline) same

pub admitted-over : (g : Group) → MeetsRules g → {past : Past} {e : Event} → IsReachable g past → IsMove g past e → (t : ℕ) → GoesOn t e
    → srp g (home g t) (e ∷ past) ≡ srp g (home g t) past → is_admitted g g.setup.plugin t (e ∷ past) ≡ is_admitted g g.setup.plugin t past
admitted-over g rules {past} {e} made move t goes same =
    admitted-is g rules (e ∷ past) (moved g made move) t ∙ by_start (starts t e) refl ∙ sym (admitted-is g rules past made t)
  where
    by_start : (b : Bool) → starts t e ≡ b → under_way t (e ∷ past) || passes_srp g t (e ∷ past) ≡ under_way t past || passes_srp g t past
    by_start true k =
        let was = eligible-is g t past (start-is g made move t k).is_linked.was_eligible in
        rw (way-over t e past goes, k) (sym (sym (admitted-is g rules past made t) ∙ was.2))
    by_start false k = rw (way-over t e past goes, k, passes-over g t past (e ∷ past) same)
