-- The keys of the plugins are those of the model.
use Rattle.std.proofs.Common.{ap, refl, sym, true, ℕ, ◌∙◌, ◌≡◌}
use Rattle.std.specs.Prelude.{Option, None, Some}
use Rattle.rt_base.specs.declared.ResvNo.{ResvNo}
use Rattle.rt_rules.specs.declared.Key.{Key}
use Rattle.rt_task.specs.declared.PluginKind.TheVariants as plugins
use Rattle.rt_task.specs.declared.PluginKind.{PluginKind}
use Rattle.rt_task.specs.declared.Protocol.TheVariants as protocols
use Rattle.rt_task.specs.declared.Protocol.{Protocol}
use Rattle.rt_model.specs.BaseKeys.{base_key, key_by}
use Rattle.rt_model.specs.Boosts.{boost_by, boosts_fmlp, granted_at, mpcp_ceiling}
use Rattle.rt_model.specs.Group.{Group, protocol, resv, served_by, task}
use Rattle.rt_model.specs.Past.{Past}
use Rattle.rt_plays.proofs.TaskNumbers.{task-number}
use Rattle.plugins.proofs.GlobalKeyLaws.{deadline_keys_are_bases, global_boosts}
use Rattle.plugins.specs.GlobalBoosts.{global_boost}
use Rattle.plugins.specs.DeadlineKeys.{deadline_key}
use Rattle.rt_plays.specs.PluginKeys.{AreBaseKeys, AreBoosts}
use Rattle.plugins.specs.PartitionedBoosts.{partitioned_boost}
use Rattle.plugins.specs.PriorityKeys.{priority_key}
use Rattle.plugins.specs.ReservationKeys.{reservation_key, resv_number}

-- ---- base keys

pub psn_edf_has_base_keys : AreBaseKeys plugins.PsnEdf (λ t released resv_prio. deadline_key t released)
unfolding key_by
psn_edf_has_base_keys = deadline_keys_are_bases plugins.PsnEdf (λ g t past. refl)

priority-key : (g : Group) (t : ℕ) (past : Past) → (task g t).number.0 ≡ t → priority_key (task g t) ≡ key_by g plugins.PFp t past
unfolding key_by
priority-key g t past number = ap (λ n. record { band = 2; major = (task g t).prio; minor = n }) number

pub p_fp_has_base_keys : AreBaseKeys plugins.PFp (λ t released resv_prio. priority_key t)
unfolding base_key
p_fp_has_base_keys g t resv_prio past valid under h prio =
    priority-key g t past (task-number g t valid h) ∙ ap (λ (k : PluginKind). key_by g k t past) (sym under)

-- the number of the task's reservation
pub resv-number : (g : Group) (t : ℕ) → resv_number (task g t).resv ≡ served_by g t
unfolding served_by
resv-number g t = by_resv (task g t).resv refl
  where
    by_resv : (r : Option ResvNo) → (task g t).resv ≡ r → resv_number r ≡ served_by g t
    by_resv None is = rw is refl
    by_resv (Some r) is = rw is refl

reservation-key : (g : Group) (t prio : ℕ) (past : Past) → prio ≡ (resv g (served_by g t)).prio → reservation_key (task g t) prio ≡ key_by g plugins.PRes t past
unfolding key_by
reservation-key g t prio past is = rw (is, resv-number g t) refl

pub p_res_has_base_keys : AreBaseKeys plugins.PRes (λ t released resv_prio. reservation_key t resv_prio)
unfolding base_key
p_res_has_base_keys g t resv_prio past valid under h prio =
    reservation-key g t resv_prio past (prio refl) ∙ ap (λ (k : PluginKind). key_by g k t past) (sym under)

-- ---- boosts

-- where the plugin boosts FMLP holders
partitioned-boost : (g : Group) (s t : ℕ) (p : Protocol) (past : Past) → boosts_fmlp g.setup.plugin ≡ true → (task g t).number.0 ≡ t
    → partitioned_boost (task g t) p (granted_at g s past) (mpcp_ceiling g s t) ≡ boost_by g p s t past
unfolding boost_by
partitioned-boost g s t protocols.Fmlp past fmlp number = rw fmlp (ap {B = Option Key} (λ n. Some (record { band = 0; major = granted_at g s past; minor = n })) number)
partitioned-boost g s t protocols.Omlp past fmlp number = refl
partitioned-boost g s t protocols.Pcp past fmlp number = refl
partitioned-boost g s t protocols.Srp past fmlp number = refl
partitioned-boost g s t protocols.Mpcp past fmlp number = ap {B = Option Key} (λ n. Some (record { band = 1; major = mpcp_ceiling g s t; minor = n })) number

pub partitioned_boosts : (kind : PluginKind) → boosts_fmlp kind ≡ true → AreBoosts kind partitioned_boost
partitioned_boosts kind fmlp g s t past valid under h = partitioned-boost g s t (protocol g s) past (ap boosts_fmlp under ∙ fmlp) (task-number g t valid h)

pub psn_edf_has_boosts : AreBoosts plugins.PsnEdf partitioned_boost
psn_edf_has_boosts = partitioned_boosts plugins.PsnEdf refl

pub p_res_has_boosts : AreBoosts plugins.PRes global_boost
p_res_has_boosts = global_boosts plugins.PRes refl

pub p_fp_has_boosts : AreBoosts plugins.PFp partitioned_boost
p_fp_has_boosts = partitioned_boosts plugins.PFp refl
