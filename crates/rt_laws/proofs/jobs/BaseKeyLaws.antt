-- The order of base keys.
use Rattle.std.proofs.Common.{ap, false, refl, sym, true, ℕ, ◌∙◌, ◌≡◌}
use Rattle.rt_rules.specs.declared.Key.{Key}
use Rattle.rt_task.specs.RuleWords.{is_p_res, stands_under}
use Rattle.rt_task.specs.declared.PluginKind.TheVariants as plugins
use Rattle.rt_task.specs.declared.PluginKind.{PluginKind}
use Rattle.rt_task.specs.declared.Protocol.TheVariants.{Fmlp, Mpcp, Omlp, Pcp, Srp}
use Rattle.rt_task.specs.declared.Protocol.{Protocol}
use Rattle.rt_model.specs.BaseKeys.{above, base_key, key_by}
use Rattle.rt_model.specs.Group.{Group}
use Rattle.rt_model.specs.Past.{Past}
use Rattle.rt_rules.specs.OrderLaws.{higher-irreflexive as higher-self, higher-transitive as higher-trans}
use Rattle.rt_rules.proofs.KeyLaws.{IsOrder, higher-total}
use Rattle.rt_rules.proofs.PcpGrantLaws.{IsStrict}
use Rattle.rt_laws.specs.Keys.{BaseKeysDiffer}

-- under a plugin with semaphores a base key's last part is the task's number
pub minor-is : (g : Group) (t : ℕ) (past : Past) (x : Protocol) → stands_under x g.setup.plugin ≡ true → (base_key g t past).minor ≡ t
unfolding base_key key_by
minor-is g t past x h = by_plugin g.setup.plugin x h
  where
    by_plugin : (p : PluginKind) (y : Protocol) → stands_under y p ≡ true → (key_by g p t past).minor ≡ t
    by_plugin plugins.GsnEdf y k = refl
    by_plugin plugins.CEdf y k = refl
    by_plugin plugins.PsnEdf y k = refl
    by_plugin plugins.PFp y k = refl
    by_plugin plugins.PRes Fmlp k = cc
    by_plugin plugins.PRes Omlp k = cc
    by_plugin plugins.PRes Pcp k = cc
    by_plugin plugins.PRes Srp k = cc
    by_plugin plugins.PRes Mpcp k = cc

-- under a plugin with semaphores base keys are in a total order by task
pub above-order : (g : Group) (past : Past) (x : Protocol) → stands_under x g.setup.plugin ≡ true → IsOrder (above g past)
unfolding above
above-order g past x h = record {
  trans = λ t u v k m. higher-trans (base_key g t past) (base_key g u past) (base_key g v past) k m;
  total = λ t u ne k. higher-total (base_key g t past) (base_key g u past) (rw (minor-is g t past x h, minor-is g u past x h) ne) k;
}

-- no task is above itself, and above is transitive
pub above-strict : (g : Group) (past : Past) → IsStrict (above g past)
unfolding above
above-strict g past = record {
  trans = λ x y z h k. higher-trans (base_key g x past) (base_key g y past) (base_key g z past) h k;
  self = λ x. higher-self (base_key g x past);
}

-- no tie between tasks where the last part of a key is a task's number
minor-task : (g : Group) (t : ℕ) (past : Past) (p : PluginKind) → is_p_res p ≡ false → (key_by g p t past).minor ≡ t
unfolding key_by
minor-task g t past plugins.PRes h = cc
minor-task g t past p h = refl

pub base_keys_differ : BaseKeysDiffer
unfolding base_key
base_keys_differ g past valid made none t u same = sym (minor-task g t past g.setup.plugin none) ∙ ap (λ (k : Key). k.minor) same ∙ minor-task g u past g.setup.plugin none
