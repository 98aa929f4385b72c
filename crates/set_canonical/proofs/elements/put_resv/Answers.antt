use Rattle.set_canonical.proofs.Texts.{resv_put}
use Rattle.set_canonical.proofs.elements.put_resv.Goals as goal

pub returns : goal.returns
returns c =
    resv_put c.args.r.now c.args.out.now.items _ _ _ _ _ _ _ _
    c.in_ok-put_number.ensures
    (rw c.from.ensures at c.in_ok-put_number-2.ensures)
    (rw c.resv_kind_word.ensures at c.in_ok-put_string.ensures)
    (rw c.as_slice.ensures at c.in_ok-put_string-2.ensures)
    c.in_ok-put_number-3.ensures
    (rw c.from-2.ensures at c.in_ok-put_number-4.ensures)
    (rw c.as_slice-2.ensures at c.in_ok-put_slots.ensures)
    c.in_ok-put.ensures
