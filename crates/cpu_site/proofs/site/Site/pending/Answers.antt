use Rattle.std.proofs.Common.{vec_capacity}
use Rattle.cpu_site.proofs.Seating as seating
use Rattle.cpu_site.proofs.site.Site.pending.Goals as goal

pub irq_word-requires-clause-cpu : goal.irq_word-requires-clause-cpu
irq_word-requires-clause-cpu c = seating.looked-low c.seat.inside.seat c.seat.inside.seat _ c.self.inside.turn _ c.seat.inside.cpu.0 c.seat.inside.at c.seat.inside.position c.seat.inside.taken c.seat.inside.counts.items (vec_capacity c.seat.inside.raised) c.seat.view_is c.self.view_is c.requires c.seat.invariant c.self.invariant

pub invariant_of-seat : goal.invariant_of-seat
invariant_of-seat c = seating.looked-keeps c.seat.inside.seat c.irq_word.new.seat _ c.self.inside.turn _ c.seat.inside.cpu.0 c.seat.inside.at c.seat.inside.position c.seat.inside.taken c.seat.inside.counts.items (vec_capacity c.seat.inside.raised) c.seat.view_is c.self.view_is c.requires c.seat.invariant c.irq_word.result c.irq_word.ensures.seat

pub returns-clause-word : goal.returns-clause-word
returns-clause-word c = seating.looked-word c.seat.inside.seat c.irq_word.new.seat _ c.self.inside.turn _ c.seat.inside.cpu.0 c.seat.inside.at c.seat.inside.position c.seat.inside.taken c.seat.inside.counts.items (vec_capacity c.seat.inside.raised) c.seat.view_is c.self.view_is c.requires c.seat.invariant c.irq_word.result c.irq_word.ensures.seat c.irq_word.ensures.found

pub returns-clause-pending : goal.returns-clause-pending
returns-clause-pending c = seating.looked-pending c.seat.inside.seat c.irq_word.new.seat _ c.self.inside.turn _ c.seat.inside.cpu.0 c.seat.inside.at c.seat.inside.position c.seat.inside.taken c.seat.inside.counts.items (vec_capacity c.seat.inside.raised) c.seat.view_is c.self.view_is c.requires c.seat.invariant c.irq_word.result c.irq_word.ensures.seat

pub returns-clause-looked : goal.returns-clause-looked
returns-clause-looked c = seating.looked-is c.seat.inside.seat c.irq_word.new.seat _ c.self.inside.turn _ c.seat.inside.cpu.0 c.seat.inside.at c.seat.inside.position c.seat.inside.taken c.seat.inside.counts.items (vec_capacity c.seat.inside.raised) c.seat.view_is c.self.view_is c.requires c.seat.invariant c.irq_word.result c.irq_word.ensures.seat
