use Rattle.std.proofs.Common.{All, take}
use Rattle.trace_lines.specs.Known.{LinkIsKnown}
use Rattle.trace_lines.specs.Lines.{link_of}
use Rattle.trace_read.proofs.fits.links_fit.Given as goal

-- the links so far are known
abbrev pub invariant-loop-link : goal.invariant-loop-link
invariant-loop-link l = All (λ x. LinkIsKnown l.k (link_of x)) (take l.link-index l.links)
