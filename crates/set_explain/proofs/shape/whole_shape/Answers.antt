use Rattle.std.proofs.Common.{refl}
use Rattle.set_explain.proofs.shape.whole_shape.Goals as goal

pub returns : goal.returns
returns c = rw (c.first.ensures, c.unless.ensures, c.unless-2.ensures, c.unless-3.ensures, c.unless-4.ensures, c.unless-5.ensures, c.unless-6.ensures, c.unless-7.ensures, c.has_members-members.ensures, c.has_plugin.ensures, c.has_array.ensures, c.may_have_array.ensures, c.may_have_array-2.ensures, c.may_have_array-3.ensures, c.has_play.ensures) refl
