use Rattle.std.proofs.Common.{refl}
use Rattle.std.proofs.lemmas.List.{map-set}
use Rattle.resv_core.proofs.server.Server.client_gone.Goals as goal

pub returns : goal.returns
returns c = rw (← c.self.view_is, c.take_out.ensures.removed, map-set) refl
