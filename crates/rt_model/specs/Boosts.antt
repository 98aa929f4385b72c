-- Boosted holders: an MPCP holder (Rajkumar, ICDCS 1990), and by a rule of our own an FMLP holder under PSN-EDF and P-FP.
use Rattle.std.specs.Prelude.{ℕ, Bool, false, not, ◌==◌, [], ◌∷◌, Option, None, Some, if◌then◌else◌, nat_lt, true, map, filter, unwrap_or}
use Rattle.rt_task.specs.declared.PluginKind.{PluginKind}
use Rattle.rt_task.specs.declared.Protocol.{Protocol}
use Rattle.rt_task.specs.declared.Protocol.TheVariants.{Fmlp, Mpcp}
use Rattle.rt_task.specs.declared.PluginKind.TheVariants as plugins
use Rattle.rt_rules.specs.declared.Key.{Key}
use Rattle.rt_rules.specs.Numbers.{same, first, foremost}
use Rattle.rt_model.specs.Group.{Group, task, home, protocol, users}
use Rattle.rt_model.specs.Holders.{holder, holds}
use Rattle.rt_model.specs.Past.{Past, now}

-- FMLP holders are boosted where the plugin is partitioned
abbrev pub boosts_fmlp : PluginKind → Bool
boosts_fmlp plugins.PsnEdf = true
boosts_fmlp plugins.PFp = true
boosts_fmlp _ = false

module _ (g : Group) where
  -- the clock of the grant of a semaphore to the task that holds it
  unfoldable pub granted_at : ℕ → Past → ℕ
  granted_at s [] = 0
  granted_at s (e ∷ past) = if same (holder g s (e ∷ past)) (holder g s past) then granted_at s past else now (e ∷ past)

  -- MPCP: the smallest priority number among users in other clusters, or the task's own where there are none
  unfoldable pub mpcp_ceiling : ℕ → ℕ → ℕ
  mpcp_ceiling s t =
      let others = filter (λ u. not (home g u == home g t)) (users g s) in
      unwrap_or (foremost nat_lt (map (λ u. (task g u).prio) others)) (task g t).prio

  unfoldable pub boost_by : Protocol → ℕ → ℕ → Past → Option Key
  boost_by Fmlp s t past = if boosts_fmlp g.setup.plugin then Some (record { band = 0; major = granted_at s past; minor = t }) else None
  boost_by Mpcp s t past = Some (record { band = 1; major = mpcp_ceiling s t; minor = t })
  boost_by _ s t past = None

  unfoldable pub boost_of : ℕ → Option ℕ → Past → Option Key
  boost_of t None past = None
  boost_of t (Some s) past = boost_by (protocol g s) s t past

  -- FMLP and MPCP requests do not nest, so a boosted task holds one semaphore
  unfoldable pub boost : ℕ → Past → Option Key
  boost t past = boost_of t (first (holds g t past)) past
