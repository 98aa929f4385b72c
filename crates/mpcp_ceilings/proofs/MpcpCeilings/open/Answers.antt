use Rattle.mpcp_ceilings.proofs.Known.{are_known}
use Rattle.mpcp_ceilings.proofs.MpcpCeilings.open.Goals as goal

pub noted_rows-requires : goal.noted_rows-requires
noted_rows-requires c = are_known c.args.parts.now c.requires
