use denote.Param.Send.{sendable}
use Rattle.split_run.proofs.Crossing.{place-send, split-sync}
use Rattle.split_run.proofs.drive.drive_each.Goals as goal

pub map_vec-requires-send-J : goal.map_vec-requires-send-J
map_vec-requires-send-J g c κs within = search (sendable, place-send) depth 20

pub map_vec-requires-send-X : goal.map_vec-requires-send-X
map_vec-requires-send-X g c κs within = search (sendable, place-send) depth 20

pub map_vec-requires-sync-F : goal.map_vec-requires-sync-F
map_vec-requires-sync-F g c κs within = search (sendable, split-sync) depth 20
