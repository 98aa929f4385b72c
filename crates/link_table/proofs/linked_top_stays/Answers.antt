use Rattle.link_table.proofs.StayLaws.{linked_top-stays}
use Rattle.link_table.proofs.linked_top_stays.Goals as goal

pub returns : goal.returns
returns c = linked_top-stays
