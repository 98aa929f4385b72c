use Rattle.std.proofs.Common.{List, [], ◌++◌, get_or, ap, sym, subst, ◌∙◌, drop, ◌+◌, arith}
use Rattle.std.proofs.lemmas.List.{get_or-map, length-map}
use Rattle.std.specs.Global.{Vec}
use Rattle.rt_plays.proofs.SetLimits.{sets_are_in_limits}
use Rattle.split_rules.specs.declared.SplitEntry.{SplitEntry}
use Rattle.split_text.specs.SplitText.{parts_from}
use Rattle.split_writer.specs.PartPlays.{IsPartPlay, lists}
use Rattle.split_writer.specs.inside.Texts.{part_block, texts}
use Rattle.split_writer.proofs.ListTexts.{all-come, come, parts-end, parts-next}
use Rattle.split_writer.proofs.text.put_parts.Goals as goal

pub overflow_cast-i : goal.overflow_cast-i
overflow_cast-i c =
    let few = (sets_are_in_limits c.args.parts.now c.requires.valid).few_cpus in
    let low = c.loop-i-test.true in
    let all = c.requires.plays.count in
    let same = length-map c.args.histories.now (λ (v : Vec SplitEntry). v.items) in omega (arith, few, low, all, same)

pub put_part-requires-clause-play : goal.put_part-requires-clause-play
put_part-requires-clause-play c =
    let p = c.args.parts.now in let i = c.loop-i.i in let vs = c.args.histories.now in let v = c.index-histories-i.result in
    let same = length-map vs (λ (x : Vec SplitEntry). x.items) in
    let low = c.loop-i-test.true in
    subst (λ (es : List SplitEntry). IsPartPlay p i es)
    (get_or-map (λ (x : Vec SplitEntry). x.items) vs i v [] low ∙ ap (λ (x : Vec SplitEntry). x.items) (sym c.index-histories-i.is) ∙ sym c.as_slice.ensures.value)
    (c.requires.plays.each i (omega (arith, low, same)))

pub loop-i-preserved : goal.loop-i-preserved
loop-i-preserved c =
    let p = c.args.parts.now in let i = c.loop-i.i in let vs = c.args.histories.now in let v = c.index-histories-i.result in
    let here = parts-next p vs i v c.loop-i-test.true in
    let es_is = c.as_slice.ensures.value ∙ ap (λ (x : Vec SplitEntry). x.items) c.index-histories-i.is in
    come c.args.out.now.items c.loop-i.out.items c.put_part.new.out.items (texts (part_block p i (get_or vs i v).items)) (texts (parts_from p (i + 1) (lists (drop (i + 1) vs)))) (texts (parts_from p 0 (lists vs)))
    (ap (λ xs. c.loop-i.out.items ++ xs) (sym here) ∙ c.loop-i.invariant)
    (c.in_ok-put_part.ensures ∙ ap (λ (es : List SplitEntry). c.loop-i.out.items ++ texts (part_block p i es)) es_is)

pub returns : goal.returns
returns c =
    let p = c.args.parts.now in let i = c.loop-i.i in let vs = c.args.histories.now in
    all-come c.args.out.now.items c.loop-i.out.items (texts (parts_from p i (lists (drop i vs)))) (texts (parts_from p 0 (lists vs))) c.loop-i.invariant (parts-end p vs i c.loop-i-test.false)
