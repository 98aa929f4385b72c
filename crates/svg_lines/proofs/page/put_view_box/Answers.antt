use Rattle.std.proofs.Common.{[], ◌∷◌, ◌++◌, codes, decimal}
use Rattle.svg_texts.specs.SvgText.{view_box}
use Rattle.svg_lines.proofs.Chains.{four_put, two_put}
use Rattle.svg_lines.proofs.page.put_view_box.Goals as goal

pub returns : goal.returns
unfolding view_box
returns c =
    two_put c.args.out.now.items (codes " viewBox=\"0 0 ") (decimal c.args.w ++ (32 ∷ decimal c.args.h ++ codes "\">\n")) c.put.new.out.items c.put-3.new.out.items c.in_ok-put.ensures
    (four_put c.put.new.out.items (decimal c.args.w) (32 ∷ []) (decimal c.args.h) (codes "\">\n") c.put_number.new.out.items c.put-2.new.out.items c.put_number-2.new.out.items c.put-3.new.out.items
    c.in_ok-put_number.ensures c.in_ok-put-2.ensures c.in_ok-put_number-2.ensures c.in_ok-put-3.ensures)
