use Rattle.std.proofs.Common.{◌∙◌}
use Rattle.set_rules.proofs.TableLaws.{fits-is}
use Rattle.set_rules.proofs.rules.tables.Tables.fits.Goals as goal

pub returns : goal.returns
returns c = λ earlier known. c.has_room_for.ensures ∙ fits-is c.args.self.now earlier c.args.r.now known c.requires
