use Rattle.link_table.proofs.AmongLaws.{links-of_processors}
use Rattle.link_table.proofs.links_are_of_processors.Goals as goal

pub returns : goal.returns
returns c = links-of_processors
