use Rattle.std.proofs.Common.{append_assoc}
use Rattle.set_canonical.specs.inside.Members.{setting_text}
use Rattle.set_canonical.proofs.sets.put_setting.Goals as goal

pub returns : goal.returns
unfolding setting_text
returns c = simp (c.in_ok-put_string.ensures, c.in_ok-put_horizon.ensures, c.in_ok-put_clusters.ensures, c.plugin_word.ensures, c.as_slice.ensures, append_assoc)
