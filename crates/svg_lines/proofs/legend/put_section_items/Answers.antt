use Rattle.svg_texts.specs.Legend.{section_items}
use Rattle.svg_lines.proofs.Chains.{three_put}
use Rattle.svg_lines.proofs.legend.put_section_items.Goals as goal

pub returns : goal.returns
unfolding section_items
returns c = three_put _ _ _ _ _ _ _ c.in_ok-put_box_item.ensures c.in_ok-put_strip_item.ensures c.in_ok-put_strip_item-2.ensures
