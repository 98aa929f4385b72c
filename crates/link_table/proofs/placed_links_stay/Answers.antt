use Rattle.link_table.proofs.StayLaws.{placed_links-stay}
use Rattle.link_table.proofs.placed_links_stay.Goals as goal

pub returns : goal.returns
returns c = placed_links-stay
