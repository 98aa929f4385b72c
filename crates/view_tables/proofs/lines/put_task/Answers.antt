use Rattle.std.proofs.Common.{◌∙◌, [], ◌∷◌, ◌++◌, decimal, sym, ap}
use Rattle.std.proofs.lemmas.Result.{on_ok_weaker}
use Rattle.table_texts.specs.Fields.{integer_or_none, line_of}
use Rattle.view_tables.proofs.Joining.{chain, line-16}
use Rattle.view_tables.proofs.lines.put_task.Goals as goal

pub returns : goal.returns
returns c =
    on_ok_weaker c.put_number-12.result (λ last g name_is.
    let row = c.args.row.now in
    chain c.args.text.now.items _ _ _ _ (chain c.args.text.now.items _ _ _ _ (chain c.args.text.now.items _ _ _ _ (chain c.args.text.now.items _ _ _ _ (chain c.args.text.now.items _ _ _ _ (chain c.args.text.now.items _ _ _ _ (chain c.args.text.now.items _ _ _ _ (chain c.args.text.now.items _ _ _ _ (chain c.args.text.now.items _ _ _ _ (chain c.args.text.now.items _ _ _ _ (chain c.args.text.now.items _ _ _ _ (chain c.args.text.now.items _ _ _ _ (chain c.args.text.now.items _ _ _ _ (chain c.args.text.now.items _ _ _ _ (chain c.args.text.now.items _ _ _ _ c.in_ok-put_text.ensures c.in_ok-put_number.ensures) c.in_ok-put_number-2.ensures) c.in_ok-put_number-3.ensures) c.in_ok-put_number-4.ensures) c.in_ok-put_number-5.ensures) c.in_ok-put_integer_or_none.ensures) c.in_ok-put_sum_or_none.ensures) c.in_ok-put_integer_or_none-2.ensures) c.in_ok-put_number-6.ensures) c.in_ok-put_number-7.ensures) c.in_ok-put_number-8.ensures) c.in_ok-put_number-9.ensures) c.in_ok-put_number-10.ensures) c.in_ok-put_number-11.ensures) last
    ∙ ap (λ xs. c.args.text.now.items ++ xs)
    (line-16 _ _ _ _ _ _ _ _ _ _ _ _ _ _ _ _ ∙ (λ i. line_of (
    sym name_is i ∷
    decimal row.released ∷
    decimal (c.from.ensures i) ∷
    decimal (c.from-2.ensures i) ∷
    decimal row.missed ∷
    decimal row.units ∷
    integer_or_none row.response_max ∷
    integer_or_none row.response_sum ∷
    integer_or_none row.lateness_max ∷
    decimal row.preemptions ∷
    decimal row.migrations ∷
    decimal row.moves ∷
    decimal row.requests ∷
    decimal row.queued ∷
    decimal (c.from-3.ensures i) ∷
    decimal (c.from-4.ensures i) ∷
    [])))) c.put_number-12.ensures
