use Rattle.std.proofs.Common.{◌≡◌, ◌≤◌, length, sym, ap, ◌∙◌, arith, Ok}
use Rattle.rt_base.specs.declared.TheConstants.{MOST_SET_BYTES}
use Rattle.set_read.specs.Sets.{set}
use Rattle.set_input.proofs.EndLaws.{ends-ok, ends-handed, unread-cause, unmade-cause}
use Rattle.set_input.proofs.InputLaws.{stop-refused}
use Rattle.set_input.proofs.input.read_input.Goals as goal

pub returns-in_err-bytes-clause-ends : goal.returns-in_err-bytes-clause-ends
returns-in_err-bytes-clause-ends g c =
    let stopped = c.in_err-bytes.ensures in
    ends-handed _ _ _ _ _ c.from_residual.ensures.1
    (unread-cause _ _ _ c.in_err-bytes.field-0.0 stopped.fault stopped.unfailed stopped.too_long stopped.not_too_long)

pub returns-in_err-setup-clause-ends : goal.returns-in_err-setup-clause-ends
returns-in_err-setup-clause-ends g c =
    let within : length c.in_ok-bytes.bytes.items ≤ MOST_SET_BYTES = omega (arith, c.in_ok-bytes.ensures.within, c.in_ok-bytes.bytes.ok.0) in
    ends-handed _ _ _ _ _ c.from_residual-in_err-setup.ensures.1
    (unmade-cause _ _ _ c.in_err-setup.field-0.0
    (λ b said. record {
      bytes = c.in_ok-bytes.bytes.items;
      all = c.in_ok-bytes.ensures.ok;
      within = within;
      refused = rw (sym c.as_slice.ensures.value) (stop-refused _ b _ c.in_err-setup.ensures said);
    })
    (c.in_ok-bytes.ensures.unfailed (λ is. cc)) (c.in_ok-bytes.ensures.not_too_long (λ is. cc)))

pub returns-clause-ends : goal.returns-clause-ends
returns-clause-ends g c =
    ends-ok _ _ _ _ (c.in_ok-bytes.ensures.unfailed (λ is. cc)) (c.in_ok-bytes.ensures.not_too_long (λ is. cc))

pub returns-clause-ok : goal.returns-clause-ok
returns-clause-ok g c =
    let within : length c.in_ok-bytes.bytes.items ≤ MOST_SET_BYTES = omega (arith, c.in_ok-bytes.ensures.within, c.in_ok-bytes.bytes.ok.0) in
    let reads : set c.in_ok-bytes.bytes.items ≡ Ok c.in_ok-setup.setup = ap set (sym c.as_slice.ensures.value) ∙ c.in_ok-setup.ensures in
    record {
      bytes = c.in_ok-bytes.bytes.items;
      all = c.in_ok-bytes.ensures.ok;
      within = within;
      reads = reads;
      valid = c.parts-parts.ensures.valid;
    }
