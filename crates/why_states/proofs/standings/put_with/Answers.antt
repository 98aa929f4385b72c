use Rattle.std.proofs.Common.{◌≡◌, ◌∙◌, ◌++◌, refl, sym, ap, subst, append_assoc, append-nil}
use Rattle.std.proofs.lemmas.Result.{on_ok_weaker}
use Rattle.rt_task.specs.declared.Protocol.{Protocol}
use Rattle.rt_model.specs.Group.{protocol}
use Rattle.why_texts.specs.Pieces.{sem_or_dash}
use Rattle.why_texts.specs.Standings.{with_piece}
use Rattle.why_lines.specs.SemNos.{number_of_sem}
use Rattle.std.specs.Prelude.{codes}
use Rattle.why_states.proofs.Facts.{pcp-set}
use Rattle.why_states.specs.States.{IsAt, group_of}
use Rattle.why_states.proofs.standings.put_with.Goals as goal

pub returns-in_ok-put-in-Pcp : goal.returns-in_ok-put-in-Pcp
returns-in_ok-put-in-Pcp c =
    on_ok_weaker c.put_sem_or_dash.result (λ put past is.
    let g = group_of c.args.state.now in
    let pcp = sym c.in-Pcp.ensures in
    let highest_is = c.in_ok-highest-in-Pcp.ensures past is (pcp-set g c.args.sem.0 is.valid c.requires.sem pcp) in
    rw pcp (put ∙ ap (λ ys. ys ++ sem_or_dash g (number_of_sem c.in_ok-highest-in-Pcp.highest)) c.in_ok-put-in-Pcp.ensures ∙ append_assoc c.args.out.now.items (codes " with ") _ ∙ ap (λ o. c.args.out.now.items ++ (codes " with " ++ sem_or_dash g o)) highest_is)) c.put_sem_or_dash.ensures
