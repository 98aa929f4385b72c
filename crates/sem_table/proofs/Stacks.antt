-- Of PCP and SRP the plugin has one at most: what is held of the other is nothing.
use Rattle.std.proofs.Common.{◌≡◌, ◌∙◌, ℕ, true, false, List, [], ◌∷◌, refl, sym, subst}
use Rattle.std.specs.Prelude.{Option, None, Some}
use Rattle.rt_task.specs.RuleWords.{stands_under}
use Rattle.rt_task.specs.declared.PluginKind.{PluginKind}
use Rattle.rt_task.specs.declared.PluginKind.TheVariants as plugins
use Rattle.rt_task.specs.declared.Protocol.{Protocol}
use Rattle.rt_task.specs.declared.Protocol.TheVariants.{Pcp, Srp}
use Rattle.rt_rules.specs.Numbers.{first, is}
use Rattle.rt_rules.specs.Pcp.{TaskSem, of_sem}
use Rattle.rt_rules.specs.Srp.{newest_held}
use Rattle.rt_model.specs.Ceilings.{pcp}
use Rattle.rt_model.specs.Group.{Group, protocol}
use Rattle.rt_model.specs.Holders.{holder, stack_by}
use Rattle.rt_model.specs.Past.{Past}
use Rattle.rt_model.specs.Reachable.{IsReachable}
use Rattle.rt_model.specs.Semaphores.{cluster_of}
use Rattle.rt_model.specs.StackPolicy.{srp}
use Rattle.rt_rules.proofs.BoolLaws.{clash}
use Rattle.rt_rules.proofs.MemberLaws.{equal_self}
use Rattle.rt_rules.proofs.PairLaws.{has_pair}
use Rattle.rt_rules.proofs.SrpLaws.{srp-first}
use Rattle.rt_laws.proofs.GroupLaws.{user-home, user-task}
use Rattle.rt_laws.proofs.pcp.PcpState.{IsUser, pcp_kept}
use Rattle.rt_laws.proofs.Rules.{MeetsRules}
use Rattle.rt_laws.proofs.srp.SrpState.{IsSrpUser, held_once, srp-holder, srp_users}
use Rattle.sem_table.specs.SemTable.{ClusterSets, set_at, srp_set_at}
use Rattle.sem_table.specs.Told.{last_at, or_else}
use Rattle.sem_table.specs.KeptSems.{KeepsSet, KeepsSrp}
use Rattle.sem_table.proofs.ClusterSets.{is-pcp}

pub stack-pcp : (g : Group) (c : ℕ) (past : Past) → stands_under Pcp g.setup.plugin ≡ true → stack_by g g.setup.plugin c past ≡ (pcp g c past).held
unfolding stack_by
stack-pcp g c past h = by_plugin g.setup.plugin h
  where
    by_plugin : (p : PluginKind) → stands_under Pcp p ≡ true → stack_by g p c past ≡ (pcp g c past).held
    by_plugin plugins.PFp k = refl
    by_plugin plugins.GsnEdf k = cc
    by_plugin plugins.CEdf k = cc
    by_plugin plugins.PsnEdf k = cc
    by_plugin plugins.PRes k = cc

pub stack-srp : (g : Group) (c : ℕ) (past : Past) → stands_under Srp g.setup.plugin ≡ true → stack_by g g.setup.plugin c past ≡ srp g c past
unfolding stack_by
stack-srp g c past h = by_plugin g.setup.plugin h
  where
    by_plugin : (p : PluginKind) → stands_under Srp p ≡ true → stack_by g p c past ≡ srp g c past
    by_plugin plugins.PsnEdf k = refl
    by_plugin plugins.GsnEdf k = cc
    by_plugin plugins.CEdf k = cc
    by_plugin plugins.PFp k = cc
    by_plugin plugins.PRes k = cc

pub no-pairs : (ps : List TaskSem) → ((t s : ℕ) → has_pair t s ps ≡ true → ⊥) → ps ≡ []
no-pairs [] h = refl
no-pairs (p ∷ ps) h = absurd (h p.task p.sem (rw (equal_self p.task, equal_self p.sem)))

module _ (g : Group) (rules : MeetsRules g) (c : ℕ) (past : Past) (made : IsReachable g past) where
  pcp-empty : stands_under Pcp g.setup.plugin ≡ false → (pcp g c past).held ≡ []
  pcp-empty h = no-pairs (pcp g c past).held (λ t s m. none t s ((pcp_kept g rules c made).held t s m))
    where
      none : (t s : ℕ) → IsUser g c t s → ⊥
      none t s u =
          let d = user-task g s t u.user in
          clash _ (subst (λ (x : Protocol). stands_under x g.setup.plugin ≡ true) (is-pcp (protocol g s) u.of_pcp) (rules.is_allowed s (rules.is_known t s d.0 d.1))) h

  srp-empty : stands_under Srp g.setup.plugin ≡ false → srp g c past ≡ []
  srp-empty h = no-pairs (srp g c past) (λ t s m. none t s (srp_users g rules c made t s m))
    where
      none : (t s : ℕ) → IsSrpUser g c t s → ⊥
      none t s u =
          let d = user-task g s t u.user in
          clash _ (subst (λ (x : Protocol). stands_under x g.setup.plugin ≡ true) u.of_srp (rules.is_allowed s (rules.is_known t s d.0 d.1))) h

  -- a pair of SRP is that of the holder
  pub holds-pair : (t s : ℕ) → has_pair t s (srp g c past) ≡ true → is t (holder g s past) ≡ true
  holds-pair t s m =
      let u : IsSrpUser g c t s = srp_users g rules c made t s m in
      let there : cluster_of g s ≡ c = sym (user-home g rules s t (rw u.of_srp) u.user) ∙ u.at_home in
      rw (srp-holder g s past u.of_srp) (subst (λ (n : ℕ). is t (first (of_sem s (srp g n past))) ≡ true) (sym there) (srp-first t s (srp g c past) (held_once g rules c made) m))

  or-none : (o : Option ℕ) → or_else o None ≡ o
  or-none None = refl
  or-none (Some s) = refl

  -- what a task was granted last is read off the two sets of its cluster
  pub last-is : (sets : ClusterSets) (t : ℕ) → KeepsSet g c past (set_at sets c) → KeepsSrp g c past (srp_set_at sets c) → last_at sets c t ≡ newest_held (stack_by g g.setup.plugin c past) t
  unfolding stack_by
  last-is sets t v u = rw (v.state, u.held) (by_plugin g.setup.plugin refl)
    where
      others : (p : PluginKind) → g.setup.plugin ≡ p → stands_under Srp p ≡ false → or_else (newest_held (srp g c past) t) (newest_held (pcp g c past).held t) ≡ newest_held (pcp g c past).held t
      others p e h = rw (srp-empty (rw e h))

      by_plugin : (p : PluginKind) → g.setup.plugin ≡ p → or_else (newest_held (srp g c past) t) (newest_held (pcp g c past).held t) ≡ newest_held (stack_by g p c past) t
      by_plugin plugins.PsnEdf e = rw (pcp-empty (rw e)) (or-none (newest_held (srp g c past) t))
      by_plugin plugins.GsnEdf e = others plugins.GsnEdf e refl
      by_plugin plugins.CEdf e = others plugins.CEdf e refl
      by_plugin plugins.PFp e = others plugins.PFp e refl
      by_plugin plugins.PRes e = others plugins.PRes e refl
