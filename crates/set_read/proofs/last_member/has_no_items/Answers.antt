use Rattle.std.proofs.Common.{◌≡◌, ◌<◌, ◌-◌, length, take, sym, ap, ◌∙◌, arith}
use Rattle.std.proofs.lemmas.Slice.Eq.{bytes_eq-Decides}
use Rattle.json.specs.Value.{value_view, members_view}
use Rattle.set_read.proofs.FrontLaws.{no_items_last}
use Rattle.set_read.proofs.last_member.has_no_items.Goals as goal

pub returns-then-eq : goal.returns-then-eq
returns-then-eq c none =
    let v = c.in-Object.members in
    let m = c.in-Some.field-0.now in
    let name = c.args.name.now in
    let key : m.0.now ≡ name = (bytes_eq-Decides m.0.now name).0 (sym c.if-eq.ensures) in
    let item = rw c.deref.ensures.value at c.in-Some.ensures.item in
    let some : 0 < length v.items = omega arith in (
      members_view (take (length v.items - 1) v.items),
      ap value_view c.in-Object.is ∙ no_items_last name v m some item.1 key (c.is_empty_array.ensures none),
    )
