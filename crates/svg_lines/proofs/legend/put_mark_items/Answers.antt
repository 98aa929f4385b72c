use Rattle.svg_texts.specs.Legend.{mark_items}
use Rattle.svg_lines.proofs.Chains.{four_put}
use Rattle.svg_lines.proofs.legend.put_mark_items.Goals as goal

pub returns : goal.returns
unfolding mark_items
returns c = four_put _ _ _ _ _ _ _ _ _ c.in_ok-put_release.ensures c.in_ok-put_says.ensures c.in_ok-put_deadline_item.ensures c.in_ok-put_deadline_item-2.ensures
