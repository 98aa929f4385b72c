use Rattle.std.proofs.Common.{◌≡◌, ◌++◌, map, drop, option_map}
use Rattle.serde_json.specs.View.{view}
use Rattle.set_read.specs.Document as document
use Rattle.set_read.specs.Forms as forms
use Rattle.set_read.proofs.tasks.slots_in.Given as goal

abbrev pub invariant-loop-item : goal.invariant-loop-item
invariant-loop-item l = option_map (λ xs. l.found.items ++ xs) (forms.every document.slot_form (map view (drop l.item-index l.items))) ≡ forms.every document.slot_form (map view l.items)
