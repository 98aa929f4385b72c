use Rattle.std.proofs.Common.{◌-◌, length, sym, subst, arith}
use Rattle.trace_read.specs.Reads.{HasHead}
use Rattle.trace_read.proofs.HeadLaws.{head-behind, head-longer}
use Rattle.trace_read.proofs.head.read_head.Goals as goal

pub returns : goal.returns
returns c =
    let v = c.in_ok-version.version in
    let set_text = c.in_ok-version.set.now in
    let rest = c.in_ok-version.rest.now in
    let bytes = c.args.bytes.now in
    record {
      set_text = set_text;
      within = omega arith;
      head = subst (HasHead v bytes set_text) (sym (head-behind v bytes set_text rest c.in_ok-version.ensures)) c.in_ok-version.ensures;
      set_is = c.in_ok-setup.ensures.read;
      canonical = c.in_ok-setup.ensures.canonical;
    }
