-- What holders are boosted to.
use Rattle.std.proofs.Common.{false, length, refl, subst, sym, true, ℕ, ◌<◌, ◌∙◌, ◌∷◌, ◌≡◌, List}
use Rattle.std.specs.Prelude.{None, Option, Some, ◌==◌, slice_set}
use Rattle.rt_task.specs.RuleWords.{is_stacked}
use Rattle.rt_task.specs.Validity.{IsValid}
use Rattle.rt_task.specs.declared.PluginKind.TheVariants as plugins
use Rattle.rt_task.specs.declared.PluginKind.{PluginKind}
use Rattle.rt_task.specs.declared.Protocol.TheVariants.{Fmlp, Mpcp, Omlp, Pcp, Srp}
use Rattle.rt_task.specs.declared.Protocol.{Protocol}
use Rattle.rt_task.specs.declared.Task.{Task}
use Rattle.rt_rules.specs.declared.Key.{Key}
use Rattle.rt_rules.specs.Numbers.{first, has, is}
use Rattle.rt_rules.proofs.MemberLaws.{has-first, is-some, some-is, turned}
use Rattle.rt_model.specs.Boosts.{boost, boost_by, boost_of, granted_at, mpcp_ceiling}
use Rattle.rt_model.specs.Ceilings.{is_pcp}
use Rattle.rt_model.specs.Group.{Group, protocol, sem, sems, task, tasks}
use Rattle.rt_model.specs.Holders.{holder, holds}
use Rattle.rt_model.specs.Past.{Acted, Clock, Event, Past, now, sem_act}
use Rattle.rt_plays.specs.Plays.{group_with}
use Rattle.rt_laws.proofs.semaphores.Holding.{one-holds}
use Rattle.rt_changes.specs.Owners.{sem_of}
use Rattle.rt_changes.proofs.Boosts.{boost_by-left}
use Rattle.rt_changes.proofs.Left.{granted_at-left}
use Rattle.plugins.proofs.GlobalKeyLaws.{global_boosts}
use Rattle.plugins.proofs.PartitionedKeyLaws.{partitioned_boosts}
use Rattle.mpcp_ceilings.specs.Ceilings.{AreCeilings, CeilingTable, ceiling_in}
use Rattle.mpcp_ceilings.proofs.NotedLaws.{ceilings_are_told}
use Rattle.prio_inherit.specs.Waits as kept_keys
use Rattle.sem_table.proofs.Lists.{at-other, at-same}
use Rattle.group_sems.specs.BoostKeys.{boost_now, boost_under}

-- ---- who holds what it held is boosted as before

pub boost-kept : (g : Group) (u : ℕ) (e : Event) (past : Past) → holds g u (e ∷ past) ≡ holds g u past → boost g u (e ∷ past) ≡ boost g u past
unfolding boost boost_of
boost-kept g u e past h = rw h (by_first (first (holds g u past)) refl)
  where
    by_first : (o : Option ℕ) → first (holds g u past) ≡ o → boost_of g u o (e ∷ past) ≡ boost_of g u o past
    by_first None k = refl
    by_first (Some r) k =
        let there : has r (holds g u past) ≡ true = has-first r (holds g u past) (some-is r (first (holds g u past)) k) in
        let before : holder g r past ≡ Some u = is-some u (holder g r past) (one-holds g u r past there).1 in
        let after : holder g r (e ∷ past) ≡ Some u = is-some u (holder g r (e ∷ past)) (one-holds g u r (e ∷ past) (subst (λ (l : List ℕ). has r l ≡ true) (sym h) there)).1 in
        boost_by-left g (protocol g r) r u e past (granted_at-left g r e past (after ∙ sym before))

-- ---- who holds semaphores of PCP or SRP alone is not boosted

pub pcp-stacked : (p : Protocol) → is_pcp p ≡ true → is_stacked p ≡ true
pcp-stacked Pcp h = refl
pcp-stacked Fmlp h = cc
pcp-stacked Omlp h = cc
pcp-stacked Mpcp h = cc
pcp-stacked Srp h = cc

pub boost-stacked : (g : Group) (u : ℕ) (past : Past) → ((r : ℕ) → has r (sems g) ≡ true → is u (holder g r past) ≡ true → is_stacked (protocol g r) ≡ true) → boost g u past ≡ None
unfolding boost boost_of boost_by
boost-stacked g u past stacked = by_first (first (holds g u past)) refl
  where
    by_protocol : (p : Protocol) (r : ℕ) → is_stacked p ≡ true → boost_by g p r u past ≡ None
    by_protocol Pcp r k = refl
    by_protocol Srp r k = refl
    by_protocol Fmlp r k = cc
    by_protocol Omlp r k = cc
    by_protocol Mpcp r k = cc

    by_first : (o : Option ℕ) → first (holds g u past) ≡ o → boost_of g u o past ≡ None
    by_first None k = refl
    by_first (Some r) k = let q = one-holds g u r past (has-first r (holds g u past) (some-is r (first (holds g u past)) k)) in by_protocol (protocol g r) r (stacked r q.0 q.1)

-- ---- the boost of a grant

boost-under : (g : Group) (s t : ℕ) (past : Past) → IsValid g.setup → has t (tasks g) ≡ true → boost_under g.setup.plugin (task g t) (protocol g s) (granted_at g s past) (mpcp_ceiling g s t) ≡ boost_by g (protocol g s) s t past
boost-under g s t past valid there = by_plugin g.setup.plugin refl
  where
    by_plugin : (k : PluginKind) → g.setup.plugin ≡ k → boost_under k (task g t) (protocol g s) (granted_at g s past) (mpcp_ceiling g s t) ≡ boost_by g (protocol g s) s t past
    by_plugin plugins.PsnEdf e = partitioned_boosts plugins.PsnEdf refl g s t past valid e there
    by_plugin plugins.PFp e = partitioned_boosts plugins.PFp refl g s t past valid e there
    by_plugin plugins.CEdf e = global_boosts plugins.CEdf refl g s t past valid e there
    by_plugin plugins.GsnEdf e = global_boosts plugins.GsnEdf refl g s t past valid e there
    by_plugin plugins.PRes e = global_boosts plugins.PRes refl g s t past valid e there

same-task : (g : Group) (n t : ℕ) → task (group_with g.setup n) t ≡ task g t
unfolding task
same-task g n t = refl

same-protocol : (g : Group) (n s : ℕ) → protocol (group_with g.setup n) s ≡ protocol g s
unfolding protocol sem
same-protocol g n s = refl

equal-boosts : (k : PluginKind) (r r' : Task) (p p' : Protocol) (m m' c c' : ℕ) → r ≡ r' → p ≡ p' → m ≡ m' → c ≡ c' → boost_under k r p m c ≡ boost_under k r' p' m' c'
equal-boosts k r r' p p' m m' c c' a b d f = cc

-- at the clock of the grant it is the rules' boost
pub boost-now-is : (g : Group) (ceilings : CeilingTable) (clock s t : ℕ) (past : Past) → IsValid g.setup → has t (tasks g) ≡ true → has s (sems g) ≡ true → AreCeilings g ceilings → granted_at g s past ≡ clock → boost_now g.setup ceilings clock s t ≡ boost_by g (protocol g s) s t past
boost-now-is g ceilings clock s t past valid there known are h =
    equal-boosts g.setup.plugin (task (group_with g.setup 0) t) (task g t) (protocol (group_with g.setup 0) s) (protocol g s) clock (granted_at g s past) (ceiling_in g.setup ceilings s t) (mpcp_ceiling g s t) (same-task g 0 t) (same-protocol g 0 s) (sym h) (ceilings_are_told g ceilings s t are known)
    ∙ boost-under g s t past valid there

-- under PCP there is none
pub boost-now-none : (g : Group) (ceilings : CeilingTable) (clock s t : ℕ) → is_pcp (protocol g s) ≡ true → boost_now g.setup ceilings clock s t ≡ None
boost-now-none g ceilings clock s t h = by_protocol g.setup.plugin (task (group_with g.setup 0) t) (protocol (group_with g.setup 0) s) clock (ceiling_in g.setup ceilings s t) (subst (λ (p : Protocol). is_pcp p ≡ true) (sym (same-protocol g 0 s)) h)
  where
    by_plugin : (k : PluginKind) (r : Task) (m c : ℕ) → boost_under k r Pcp m c ≡ None
    by_plugin plugins.PsnEdf r m c = refl
    by_plugin plugins.PFp r m c = refl
    by_plugin plugins.CEdf r m c = refl
    by_plugin plugins.GsnEdf r m c = refl
    by_plugin plugins.PRes r m c = refl

    by_protocol : (k : PluginKind) (r : Task) (p : Protocol) (m c : ℕ) → is_pcp p ≡ true → boost_under k r p m c ≡ None
    by_protocol k r Pcp m c q = by_plugin k r m c
    by_protocol k r Fmlp m c q = cc
    by_protocol k r Omlp m c q = cc
    by_protocol k r Mpcp m c q = cc
    by_protocol k r Srp m c q = cc

-- the clock moves at no Lock and no Unlock
pub now-stays : (e : Event) (past : Past) (s : ℕ) → sem_of (sem_act e) ≡ Some s → now (e ∷ past) ≡ now past
now-stays (Clock tick) past s h = cc
now-stays (Acted d) past s h = refl

-- ---- reading a boost that was written

pub boost-set : (boosts : List (Option Key)) (t u : ℕ) (x : Option Key) → t < length boosts → u == t ≡ true → kept_keys.boost_of (slice_set boosts t x) u ≡ x
boost-set boosts t u x low h = at-same boosts t u x None (turned t u ∙ h) low

pub boost-unset : (boosts : List (Option Key)) (t u : ℕ) (x : Option Key) → u == t ≡ false → kept_keys.boost_of (slice_set boosts t x) u ≡ kept_keys.boost_of boosts u
boost-unset boosts t u x h = at-other boosts t u x None (turned t u ∙ h)

pub next-set : (nexts : List (Option ℕ)) (t u : ℕ) (x : Option ℕ) → t < length nexts → u == t ≡ true → kept_keys.next_of (slice_set nexts t x) u ≡ x
next-set nexts t u x low h = at-same nexts t u x None (turned t u ∙ h) low

pub next-unset : (nexts : List (Option ℕ)) (t u : ℕ) (x : Option ℕ) → u == t ≡ false → kept_keys.next_of (slice_set nexts t x) u ≡ kept_keys.next_of nexts u
next-unset nexts t u x h = at-other nexts t u x None (turned t u ∙ h)
