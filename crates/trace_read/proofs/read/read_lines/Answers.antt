use Rattle.std.proofs.Common.{◌≡◌, ◌∷◌, [], ◌++◌, ap, ◌∙◌, sym, subst}
use Rattle.std.proofs.lemmas.List.{map-append}
use Rattle.trace_read.specs.Lines.{line_of, lines_of}
use Rattle.trace_read.specs.Seen.{BeginsLines}
use Rattle.trace_read.proofs.ReadLaws.{BeginsLine-shorter, BeginsLines-more}
use Rattle.trace_read.proofs.read.read_lines.Goals as goal

pub loop-text-smaller : goal.loop-text-smaller
loop-text-smaller c =
    let one = rw c.in-Some.is at c.in_ok-line.ensures.line in
    BeginsLine-shorter c.args.k.now c.loop-text.left.now c.in-Some.rest.now (line_of c.in-Some.line) one

pub loop-text-preserved : goal.loop-text-preserved
loop-text-preserved c =
    let one = rw c.in-Some.is at c.in_ok-line.ensures.line in
    let longer : lines_of c.push.new.self.items ≡ lines_of c.loop-text.lines.items ++ line_of c.in-Some.line ∷ [] =
    ap lines_of c.in-Ok.ensures.items ∙ map-append line_of c.loop-text.lines.items (c.in-Some.line ∷ []) in
    subst (λ ls. BeginsLines c.args.k.now c.args.bytes.now ls c.in-Some.rest.now) (sym longer)
    (BeginsLines-more c.args.k.now c.args.bytes.now c.loop-text.left.now c.in-Some.rest.now (lines_of c.loop-text.lines.items) (line_of c.in-Some.line) c.loop-text.invariant one)
