use Rattle.std.proofs.Common.{◌∙◌, [], ◌∷◌, ◌++◌, decimal, sym, ap}
use Rattle.std.proofs.lemmas.Result.{on_ok_weaker}
use Rattle.table_texts.specs.Fields.{integer_or_none, line_of, number_or_none}
use Rattle.view_tables.proofs.Joining.{chain, line-18}
use Rattle.view_tables.proofs.lines.put_job.Goals as goal

pub returns : goal.returns
returns c =
    on_ok_weaker c.put_number-11.result (λ last g name_is.
    let row = c.args.row.now in
    chain c.args.text.now.items _ _ _ _ (chain c.args.text.now.items _ _ _ _ (chain c.args.text.now.items _ _ _ _ (chain c.args.text.now.items _ _ _ _ (chain c.args.text.now.items _ _ _ _ (chain c.args.text.now.items _ _ _ _ (chain c.args.text.now.items _ _ _ _ (chain c.args.text.now.items _ _ _ _ (chain c.args.text.now.items _ _ _ _ (chain c.args.text.now.items _ _ _ _ (chain c.args.text.now.items _ _ _ _ (chain c.args.text.now.items _ _ _ _ (chain c.args.text.now.items _ _ _ _ (chain c.args.text.now.items _ _ _ _ (chain c.args.text.now.items _ _ _ _ (chain c.args.text.now.items _ _ _ _ (chain c.args.text.now.items _ _ _ _ c.in_ok-put_text.ensures c.in_ok-put_number.ensures) c.in_ok-put_number-2.ensures) c.in_ok-put_number-3.ensures) c.in_ok-put_number_or_none.ensures) c.in_ok-put_number_or_none-2.ensures) c.in_ok-put_number_or_none-3.ensures) c.in_ok-put_text-2.ensures) c.in_ok-put_number-4.ensures) c.in_ok-put_integer_or_none.ensures) c.in_ok-put_integer_or_none-2.ensures) c.in_ok-put_number-5.ensures) c.in_ok-put_number-6.ensures) c.in_ok-put_number-7.ensures) c.in_ok-put_number-8.ensures) c.in_ok-put_number-9.ensures) c.in_ok-put_number-10.ensures) last
    ∙ ap (λ xs. c.args.text.now.items ++ xs)
    (line-18 _ _ _ _ _ _ _ _ _ _ _ _ _ _ _ _ _ _ ∙ (λ i. line_of (
    sym name_is i ∷
    decimal (c.from.ensures i) ∷
    decimal row.release ∷
    decimal row.deadline ∷
    number_or_none row.start ∷
    number_or_none row.finish ∷
    number_or_none row.end ∷
    c.word_of.ensures i ∷
    decimal (c.from-2.ensures i) ∷
    integer_or_none row.response ∷
    integer_or_none row.lateness ∷
    decimal (c.from-3.ensures i) ∷
    decimal (c.from-4.ensures i) ∷
    decimal (c.from-5.ensures i) ∷
    decimal (c.from-6.ensures i) ∷
    decimal (c.from-7.ensures i) ∷
    decimal row.ends ∷
    decimal row.ends_all ∷
    [])))) c.put_number-11.ensures
