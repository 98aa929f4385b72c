use Rattle.std.proofs.Common.{refl}
use Rattle.std.proofs.lemmas.List.{map-set, set-set}
use Rattle.resv_core.proofs.server.Server.client_ready.Goals as goal

pub returns : goal.returns
returns c = rw (← c.self.view_is, c.put_in.ensures, c.take_out.ensures.removed, c.key_of.ensures, set-set, map-set) refl
