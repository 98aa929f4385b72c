use Rattle.svg_texts.specs.Legend.{strip_items}
use Rattle.svg_lines.proofs.Chains.{three_put}
use Rattle.svg_lines.proofs.legend.put_strip_items.Goals as goal

pub returns : goal.returns
unfolding strip_items
returns c = three_put _ _ _ _ _ _ _ c.in_ok-put_strip_item.ensures c.in_ok-put_link_item.ensures c.in_ok-put_budget_item.ensures
