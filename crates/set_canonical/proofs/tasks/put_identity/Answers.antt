use Rattle.std.proofs.Common.{append_assoc}
use Rattle.set_canonical.proofs.tasks.put_identity.Goals as goal

pub returns : goal.returns
returns c = simp (c.in_ok-put_string-2.ensures, c.in_ok-put_string.ensures, c.in_ok-put_flag.ensures, c.kind_word.ensures, c.as_slice.ensures, append_assoc)
