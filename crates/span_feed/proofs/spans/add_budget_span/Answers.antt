use Rattle.std.proofs.Common.{◌≡◌, ◌∙◌, ◌-◌, ◌<◌, true, false, length, refl, sym, arith}
use Rattle.std.proofs.lemmas.List.{get_or_read}
use Rattle.std.specs.Prelude.{◌==◌}
use Rattle.std.proofs.lemmas.Bool.Decides.{nat_tests}
use Rattle.event_texts.specs.Budgets.{same_count}
use Rattle.event_lines.specs.Shown.{budget_span_shown}
use Rattle.span_feed.proofs.Extending.{shown-first, shown-longer, shown-one-more}
use Rattle.span_feed.proofs.spans.add_budget_span.Goals as goal
use Rattle.span_feed.proofs.spans.add_budget_span.Goals.{else-count-gt0-via-then-count-gt0+else-index-left, else-count-gt0-via-else-count-gt0}

pub returns-then-index-left : goal.returns-then-index-left
returns-then-index-left c =
    let long : c.len-count.result ≡ length c.args.spans.now.items = omega (arith, c.len-count.ensures, c.args.spans.now.ok.0) in
    let low : c.len-count.result - 1 < length c.args.spans.now.items = omega (arith, long, c.if-count-gt0.true) in
    let here : c.index_mut.result.now ≡ c.index.result.now = c.index_mut.ensures.value ∙ sym (get_or_read _ _ _ low c.index.ensures c.index_mut.result.now) in
    let yes : c.index.result.now.left == c.args.left ≡ true = grind (arith, nat_tests, c.if-index-left.true) in
    shown-longer same_count budget_span_shown c.args.from c.args.to c.args.left c.args.spans.now.items c.len-count.result long
    c.index.result.now _ c.if-count-gt0.true c.index.ensures (yes) (λ i. record { from = (here i).from; to = c.args.to; value = (here i).left })

pub returns : goal.returns
returns c =
    let long : c.len-count.result ≡ length c.args.spans.now.items = omega (arith, c.len-count.ensures, c.args.spans.now.ok.0) in
    elim c.else-count-gt0.branch [
      | else-count-gt0-via-then-count-gt0+else-index-left w ↦
          let no : w.index.result.now.left == c.args.left ≡ false = grind (arith, nat_tests, w.if-index-left.false) in shown-one-more same_count budget_span_shown c.args.from c.args.to c.args.left c.args.spans.now.items c.len-count.result long _ c.push.new.self.items refl c.in_ok-push.ensures.items
          w.index.result.now w.if-count-gt0.true w.index.ensures (no)
      | else-count-gt0-via-else-count-gt0 w ↦
          shown-first same_count budget_span_shown c.args.from c.args.to c.args.left c.args.spans.now.items c.len-count.result long _ c.push.new.self.items refl c.in_ok-push.ensures.items w.if-count-gt0.false
    ]
