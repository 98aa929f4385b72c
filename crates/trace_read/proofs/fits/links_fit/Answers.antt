use Rattle.std.proofs.Common.{◌↔◌, ◌≤◌, List, All, IsTrue, true, false, length, subst, refl, arith}
use Rattle.std.proofs.lemmas.Grind.{common_steps}
use Rattle.std.proofs.lemmas.List.{take_all}
use Rattle.trace_lines.specs.declared.links.CpuLink.{CpuLink}
use Rattle.trace_lines.specs.Known.{LinkIsKnown}
use Rattle.trace_lines.specs.Lines.{link_of}
use Rattle.trace_read.proofs.FitLaws.{iff_map}
use Rattle.trace_read.proofs.fits.links_fit.Goals as goal

pub returns-then-not-link_fits : goal.returns-then-not-link_fits
returns-then-not-link_fits c =
    let h : IsTrue false ↔ All (λ x. LinkIsKnown c.args.k.now (link_of x)) c.args.links.now = grind (arith, common_steps) in
    iff_map (IsTrue false) (LinkIsKnown c.args.k.now) link_of c.args.links.now h

pub returns : goal.returns
returns c =
    let whole : length c.args.links.now ≤ c.loop-link.link-index = omega arith in
    let known = subst (λ (xs : List CpuLink). All (λ x. LinkIsKnown c.args.k.now (link_of x)) xs) (take_all c.loop-link.link-index c.args.links.now whole) c.loop-link.invariant in
    iff_map (IsTrue true) (LinkIsKnown c.args.k.now) link_of c.args.links.now (λ t. known, λ h. refl)
