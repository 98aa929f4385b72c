use Rattle.std.proofs.Common.{◌≡◌, ℕ, List, ◌++◌, length, take, refl, sym, ap, ◌∙◌, subst, arith}
use Rattle.block_counts.specs.SeenWords.{tallies_of}
use Rattle.trace_lines.specs.Grammar.{line_text}
use Rattle.trace_lines.specs.Known.{known_of}
use Rattle.trace_check.specs.inside.RequestLines.{request_lines}
use Rattle.trace_check.proofs.RequestLaws.{stood-more, wanted-at, wanted-length}
use Rattle.trace_check.proofs.TextPositions.{StandFirst, begins-rest, rest-of}
use Rattle.trace_check.proofs.requests.stood_first.Goals as goal

pub returns-then-not-begins_with : goal.returns-then-not-begins_with
returns-then-not-begins_with c =
    let k = known_of c.args.version c.args.setup.now in
    record {
      low = omega (arith, c.loop-k-test.true, wanted-length c.args.requests.now);
      within = c.loop-k.invariant.within;
      text_is = c.loop-k.invariant.text_is;
      other = λ d more few is. c.begins_with.ensures.no c.if-not-begins_with.true more
          (rest-of c.loop-k.size c.args.text.now ∙ is
          ∙ ap (λ (xs : List ℕ). xs ++ more) (ap (line_text k) (wanted-at c.args.requests.now c.loop-k.k _ d c.loop-k-test.true) ∙ sym c.in_ok-make_block_line.ensures ∙ sym c.as_slice-made.ensures.value));
    }

pub loop-k-preserved : goal.loop-k-preserved
loop-k-preserved c =
    let k = known_of c.args.version c.args.setup.now in
    stood-more k c.args.requests.now c.args.text.now c.as_slice-made.result.now c.loop-k.k c.loop-k.size _ c.loop-k-test.true c.loop-k.invariant (c.as_slice-made.ensures.value ∙ c.in_ok-make_block_line.ensures)
    (begins-rest c.loop-k.size c.args.text.now _ _ refl (c.begins_with.ensures.yes c.if-not-begins_with.false))

pub returns : goal.returns
returns c =
    let k = known_of c.args.version c.args.setup.now in
    let number : c.loop-k.k ≡ length c.args.requests.now = omega (arith, c.loop-k-test.false, c.loop-k.auto.k-end) in
    let stands = subst (λ (n : ℕ). StandFirst k c.args.text.now (take n (request_lines (tallies_of c.args.requests.now))) c.loop-k.size) number c.loop-k.invariant in
    record {
      low = omega (arith, wanted-length c.args.requests.now);
      within = stands.within;
      text_is = stands.text_is;
      other = λ d more few is. absurd (omega (arith, few, wanted-length c.args.requests.now));
    }
