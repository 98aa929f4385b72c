-- The keys of the plugins are those of the model.
use Rattle.std.proofs.Common.{ap, false, refl, sym, ℕ, ◌∙◌, ◌≡◌}
use Rattle.std.specs.Prelude.{Option, Some, unwrap_or, ◌+◌}
use Rattle.rt_rules.specs.declared.Key.{Key}
use Rattle.rt_task.specs.declared.PluginKind.TheVariants as plugins
use Rattle.rt_task.specs.declared.PluginKind.{PluginKind}
use Rattle.rt_task.specs.declared.Protocol.TheVariants as protocols
use Rattle.rt_task.specs.declared.Protocol.{Protocol}
use Rattle.rt_model.specs.BaseKeys.{base_key, key_by}
use Rattle.rt_model.specs.Boosts.{boost_by, boosts_fmlp, granted_at, mpcp_ceiling}
use Rattle.rt_model.specs.Group.{Group, protocol, task}
use Rattle.rt_model.specs.Past.{Past}
use Rattle.rt_model.specs.Releases.{deadline, release}
use Rattle.rt_plays.proofs.TaskNumbers.{task-number}
use Rattle.plugins.specs.GlobalBoosts.{global_boost}
use Rattle.plugins.specs.DeadlineKeys.{deadline_key}
use Rattle.rt_plays.specs.PluginKeys.{AreBaseKeys, AreBoosts}

-- ---- by deadline

-- the key of the deadline of a task's current job
abbrev pub by_deadline : Group → ℕ → Past → Key
by_deadline g t past = record { band = 2; major = deadline g t past; minor = t }

deadline-key : (g : Group) (t : ℕ) (past : Past) → (task g t).number.0 ≡ t → deadline_key (task g t) (unwrap_or (release g t past) 0) ≡ by_deadline g t past
unfolding deadline
deadline-key g t past number = ap (λ n. record { band = 2; major = unwrap_or (release g t past) 0 + (task g t).rel_deadline; minor = n }) number

-- a plugin under which the model's keys are by deadline
pub deadline_keys_are_bases : (kind : PluginKind) → ((g : Group) (t : ℕ) (past : Past) → key_by g kind t past ≡ by_deadline g t past) → AreBaseKeys kind (λ t released resv_prio. deadline_key t released)
unfolding base_key
deadline_keys_are_bases kind by_kind g t resv_prio past valid under h prio =
    deadline-key g t past (task-number g t valid h) ∙ sym (by_kind g t past) ∙ ap (λ (k : PluginKind). key_by g k t past) (sym under)

pub gsn_edf_has_base_keys : AreBaseKeys plugins.GsnEdf (λ t released resv_prio. deadline_key t released)
unfolding key_by
gsn_edf_has_base_keys = deadline_keys_are_bases plugins.GsnEdf (λ g t past. refl)

pub c_edf_has_base_keys : AreBaseKeys plugins.CEdf (λ t released resv_prio. deadline_key t released)
unfolding key_by
c_edf_has_base_keys = deadline_keys_are_bases plugins.CEdf (λ g t past. refl)

-- ---- boosts

-- where the plugin does not boost FMLP holders
global-boost : (g : Group) (s t : ℕ) (p : Protocol) (past : Past) → boosts_fmlp g.setup.plugin ≡ false → (task g t).number.0 ≡ t
    → global_boost (task g t) p (granted_at g s past) (mpcp_ceiling g s t) ≡ boost_by g p s t past
unfolding boost_by
global-boost g s t protocols.Fmlp past none number = rw none refl
global-boost g s t protocols.Omlp past none number = refl
global-boost g s t protocols.Pcp past none number = refl
global-boost g s t protocols.Srp past none number = refl
global-boost g s t protocols.Mpcp past none number = ap {B = Option Key} (λ n. Some (record { band = 1; major = mpcp_ceiling g s t; minor = n })) number

pub global_boosts : (kind : PluginKind) → boosts_fmlp kind ≡ false → AreBoosts kind global_boost
global_boosts kind none g s t past valid under h = global-boost g s t (protocol g s) past (ap boosts_fmlp under ∙ none) (task-number g t valid h)

pub gsn_edf_has_boosts : AreBoosts plugins.GsnEdf global_boost
gsn_edf_has_boosts = global_boosts plugins.GsnEdf refl

pub c_edf_has_boosts : AreBoosts plugins.CEdf global_boost
c_edf_has_boosts = global_boosts plugins.CEdf refl
