use Rattle.std.proofs.Common.{[], ◌∷◌, ◌++◌, List, ℕ, map, take, take_all, sym, ap, ◌∙◌, string_bytes}
use Rattle.std.proofs.lemmas.List.{map-append, take_more}
use Rattle.program_tests.proofs.calls.words.Goals as goal

pub loop-text-preserved : goal.loop-text-preserved
loop-text-preserved c =
    let word = c.in_ok-from_str.field-0 in
    let texts = c.args.texts.now in
    ap (map string_bytes) c.in_ok-push.ensures.items ∙ map-append string_bytes c.loop-text.words.items (word ∷ [])
    ∙ ap (λ (bs : List (List ℕ)). bs ++ string_bytes word ∷ []) c.loop-text.invariant
    ∙ ap (λ (b : List ℕ). map (λ text. text.now) (take c.loop-text.text-index texts) ++ b ∷ []) c.in_ok-from_str.ensures.ok
    ∙ sym (ap (map (λ text. text.now)) (take_more texts c.loop-text.text-index _ c.loop-text-test.true) ∙ map-append (λ text. text.now) (take c.loop-text.text-index texts) (_ ∷ []))

pub returns : goal.returns
returns c = c.loop-text.invariant ∙ ap (map (λ text. text.now)) (take_all _ _ c.loop-text-test.false)
