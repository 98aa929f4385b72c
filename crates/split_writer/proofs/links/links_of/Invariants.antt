use Rattle.std.proofs.Common.{take}
use Rattle.split_writer.proofs.Playing.{IsPlayed}
use Rattle.split_writer.proofs.links.links_of.Given as goal

-- the state and the links are those of the entries so far
abbrev pub invariant-loop-entry : goal.invariant-loop-entry
invariant-loop-entry l = IsPlayed l.parts l.cpu.0 (take l.entry-index l.entries) l.state l.links.items
