use Rattle.std.proofs.Common.{◌≡◌, ◌++◌, ◌∷◌, [], List, ℕ, ◌∙◌, codes}
use Rattle.rt_task.specs.declared.Parts.{Parts}
use Rattle.set_canonical.specs.Canonical.{canonical}
use Rattle.trace_lines.specs.FirstLine as heads
use Rattle.trace_writer.proofs.CameLaws.{came-both, stopped-front}
use Rattle.trace_writer.proofs.groups.write_head.Goals as goal

abbrev set_line : Parts → List ℕ
set_line p = codes "set " ++ (canonical p ++ 10 ∷ [])

pub returns-in_err-write_bytes : goal.returns-in_err-write_bytes
returns-in_err-write_bytes g c =
    stopped-front g.K.Sink.held g.K.Sink.faults c.from_residual-in_err-write_bytes.result c.in_err-write_bytes.field-0.0 c.args.out.now c.write_bytes.new.out (heads.first_line c.args.version) (set_line c.args.parts.now)
    c.from_residual-in_err-write_bytes.ensures.1 (rw c.first_line.ensures at c.in_err-write_bytes.ensures)

pub returns : goal.returns
returns g c =
    let set_is : c.as_slice.result.now ≡ canonical c.args.parts.now = c.as_slice.ensures.value ∙ c.in_ok-set.ensures in
    came-both g.K.Sink.held g.K.Sink.faults c.write_set_line.result c.args.out.now c.write_bytes.new.out c.write_set_line.new.out (heads.first_line c.args.version) (set_line c.args.parts.now)
    (rw c.first_line.ensures at c.in_ok-write_bytes.ensures) (rw set_is at c.write_set_line.ensures)
