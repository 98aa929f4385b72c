use Rattle.std.proofs.Common.{ℕ, List, refl, subst}
use Rattle.rt_fault.specs.Held.{Extends, ExtendsByPrefix}
use Rattle.run_command.proofs.SplitAnswerLaws.{split-cut, split-none, split-unread, split-whole}
use Rattle.run_command.proofs.play_split.play_split.Goals as goal

pub returns-in-Err-clause-answers : goal.returns-in-Err-clause-answers
returns-in-Err-clause-answers g c = split-unread _ _ c.in-Err.status c.in-Err.ensures.ends refl

-- what came of the set that was read
pub returns-in-Err-text_of-clause-answers : goal.returns-in-Err-text_of-clause-answers
returns-in-Err-text_of-clause-answers g c =
    split-none _ _ c.in-Ok.setup c.in-Ok.ensures.ok (c.in-Ok.ensures.ends.not_too_long (λ is. cc)) c.in-Err-text_of.status c.in-Err-text_of.ensures refl

pub returns-in-Ok-put_all-clause-answers : goal.returns-in-Ok-put_all-clause-answers
returns-in-Ok-put_all-clause-answers g c =
    let came = subst (λ (xs : List ℕ). Extends (g.K.Sink.held c.args.out.now) (g.K.Sink.held c.put_all.new.out) xs) c.as_slice.ensures.value c.in-Ok-put_all.ensures.ok in
    split-whole _ _ c.in-Ok.setup c.in-Ok.ensures.ok (c.in-Ok.ensures.ends.not_too_long (λ is. cc)) c.in-Ok-text_of.text.items c.in-Ok-text_of.ensures came

pub returns-clause-answers : goal.returns-clause-answers
returns-clause-answers g c =
    let part = subst (λ (xs : List ℕ). ExtendsByPrefix (g.K.Sink.held c.args.out.now) (g.K.Sink.held c.put_all.new.out) xs) c.as_slice.ensures.value c.in-Err-put_all.ensures.failed in
    split-cut _ _ c.in-Ok.setup c.in-Ok.ensures.ok (c.in-Ok.ensures.ends.not_too_long (λ is. cc)) c.in-Ok-text_of.text.items c.in-Ok-text_of.ensures part c.in-Err-put_all.ensures.fault
