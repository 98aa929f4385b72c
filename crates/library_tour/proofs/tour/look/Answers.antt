use Rattle.std.proofs.Common.{◌≡◌}
use Rattle.library_tour.proofs.TourLaws.{has-all}
use Rattle.library_tour.proofs.tour.look.Goals as goal

pub linked-requires : goal.linked-requires
linked-requires c = (has-all _ c.requires).first

pub linked-requires-2 : goal.linked-requires-2
linked-requires-2 c = (has-all _ c.requires).second

pub holder-requires : goal.holder-requires
holder-requires c = let all = has-all _ c.requires in (all.sem, (1, all.user))

pub ready-requires : goal.ready-requires
ready-requires c = (has-all _ c.requires).cluster

pub key-requires : goal.key-requires
key-requires c = c.keys-keys.ensures.told 1 (has-all _ c.requires).task_a

pub key-requires-2 : goal.key-requires-2
key-requires-2 c = c.keys-keys.ensures.told 2 (has-all _ c.requires).task_b
