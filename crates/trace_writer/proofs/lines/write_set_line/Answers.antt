use Rattle.std.proofs.Common.{◌++◌, ◌∷◌, [], List, ℕ, codes, refl}
use Rattle.trace_writer.proofs.CameLaws.{HasParts, came-third, stopped-first, stopped-second}
use Rattle.trace_writer.proofs.lines.write_set_line.Goals as goal

set_parts : (set : List ℕ) → HasParts (codes "set " ++ (set ++ 10 ∷ [])) (codes "set ") set (10 ∷ [])
set_parts set = record { parts_are = refl }

pub returns-in_err-write_bytes : goal.returns-in_err-write_bytes
returns-in_err-write_bytes g c =
    stopped-first g.K.Sink.held g.K.Sink.faults (set_parts c.args.set.now) c.args.out.now c.write_bytes.new.out c.from_residual.result c.in_err-write_bytes.field-0.0
    c.from_residual.ensures.1 c.in_err-write_bytes.ensures

pub returns-in_err-write_bytes-2 : goal.returns-in_err-write_bytes-2
returns-in_err-write_bytes-2 g c =
    stopped-second g.K.Sink.held g.K.Sink.faults (set_parts c.args.set.now) c.args.out.now c.write_bytes.new.out c.from_residual-in_err-write_bytes-2.result c.in_err-write_bytes-2.field-0.0 c.write_bytes-2.new.out
    c.from_residual-in_err-write_bytes-2.ensures.1 c.in_ok-write_bytes.ensures c.in_err-write_bytes-2.ensures

pub returns : goal.returns
returns g c =
    came-third g.K.Sink.held g.K.Sink.faults (set_parts c.args.set.now) c.args.out.now c.write_bytes.new.out c.write_bytes-3.result c.write_bytes-2.new.out c.write_bytes-3.new.out c.in_ok-write_bytes.ensures
    c.in_ok-write_bytes-2.ensures c.write_bytes-3.ensures
