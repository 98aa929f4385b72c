-- Which of a run's types may cross threads.
use denote.RattleType.{RattleType}
use denote.Param.Send.{Frees, IsSend, IsSync, part_keyless, sendable}
use denote.Struct.Struct.{Struct}
use denote.Struct.Owning.{shape}
use types.Keyed.{entry}
use borrow.Author.Rules.{rules}
use Rattle.std.proofs.Crossing.{crosses}
use Rattle.std.specs.declared.alloc.Allocator as alloc
use Rattle.atomic_table.proofs.Rights.{right_send}
use Rattle.atomic_table.proofs.Sent.{seat_keyless, shares_keyless}
use Rattle.atomic_table.specs.contracts.send_lease.SendLease as lease
use Rattle.atomic_table.specs.declared.shared.TableRule as rule
use Rattle.atomic_table.specs.contracts.shared.Seat as seat
use Rattle.atomic_table.specs.contracts.shared.Shared as shared
use Rattle.split_inbox.specs.declared.names.Names.{Ghosts}
use Rattle.split_inbox.specs.contracts.book.SemBook as book
use Rattle.split_inbox.specs.contracts.grant.Grant as grant
use Rattle.split_inbox.specs.contracts.inbox.Inbox as inbox
use Rattle.split_inbox.specs.contracts.inbox.Poster as poster
use Rattle.split_inbox.specs.contracts.inbox.Taker as taker
use Rattle.rt_task.specs.contracts.setup.Setup as setup
use Rattle.part_state.specs.contracts.state.PartState as state
use Rattle.part_player.specs.contracts.player.Player as player
use Rattle.part_seat.specs.contracts.partition.Partition as partition
use Rattle.part_seat.specs.contracts.seat.PartSeat as place
use Rattle.part_seat.specs.contracts.sender.Sender as sender
use Rattle.split_part.specs.contracts.split.Split as split

-- ---- what a table of the kit is made of

pub token-send : (S V : RattleType) → IsSend S → IsSend (seat.the_row S V)
token-send S V s = record { owned = λ d vs. ((λ vss. (tt, ((λ uss. (tt, tt)), tt))), seat_keyless S s V.coded.code d.table_id d.id d.me); leaving = λ k f vs. tt }

pub table-sync : (S V K P : RattleType) (g : rule.Ghosts P.Denot S.Denot V.Denot K.Denot) → IsSend S → IsSync (shared.the_row S V K P g)
table-sync S V K P g s = let fields : IsSync (Struct (shape (shared.the_type S V K P g))) = search sendable depth 20 in
    record { shared = λ d b o ν. (fields.shared (d.words, (d.slots, (tt, tt))) b o ν, shares_keyless S s V.coded.code d.table_id (g.holds d.key) d.words d.slots ν) }

pub lease-sync : (T A : RattleType) (g : alloc.Ghosts A.Denot) → Frees g g.dealloc_token → IsSync (lease.the_row T A g)
lease-sync T A g f = record { shared = λ d b o ν q. part_keyless (lease.the_row T A g) (right_send T A g f) q d b o }

-- ---- inboxes and their seats

module _ (Y : RattleType) (g : Ghosts Y.Denot) (y : IsSend Y) where
  pub grant-send : IsSend (grant.the_row Y g)
  unfolding entry
  grant-send = search (rules, sendable, crosses) depth 40 fits 20000

  pub poster-send : IsSend (poster.the_row Y g)
  poster-send = search (sendable, crosses, token-send, grant-send) depth 20

  pub taker-send : IsSend (taker.the_row Y g)
  taker-send = search (sendable, crosses, token-send, grant-send) depth 20

  pub inbox-sync : IsSync (inbox.the_row Y g)
  inbox-sync = search (sendable, crosses, table-sync, lease-sync, grant-send) depth 20

-- ---- the seats of processors, and what they share

pub setup-send : IsSend setup.the_row
setup-send = search (sendable, crosses) depth 60 fits 20000

pub setup-sync : IsSync setup.the_row
setup-sync = search (sendable, crosses) depth 60 fits 20000

pub book-send : IsSend book.the_row
book-send = search (sendable, crosses) depth 60 fits 20000

pub state-send : IsSend state.the_row
state-send = search (sendable, crosses) depth 60 fits 20000

pub player-send : IsSend player.the_row
player-send = search (sendable, crosses, setup-send, state-send) depth 60 fits 20000

pub partition-send : IsSend partition.the_row
partition-send = search (sendable, crosses, player-send, token-send, book-send) depth 60 fits 20000

module _ (Y : RattleType) (g : Ghosts Y.Denot) (y : IsSend Y) where
  pub sender-send : IsSend (sender.the_row Y g)
  sender-send = search (sendable, crosses, poster-send) depth 20

  pub place-send : IsSend (place.the_row Y g)
  place-send = search (sendable, crosses, partition-send, sender-send, taker-send) depth 20

  pub split-sync : IsSync (split.the_row Y g)
  split-sync = search (sendable, crosses, setup-sync, book-send, table-sync, lease-sync, inbox-sync) depth 60 fits 20000
