use Rattle.std.proofs.Common.{◌≡◌, ℕ, ◌+◌, ◌++◌, take, sym, ap, ◌∙◌, arith}
use Rattle.resv_table.specs.Tables.{slots_from, slots_in}
use Rattle.resv_table.proofs.ValidTables.{slots_from-more}
use Rattle.resv_table.proofs.making.slots_of.Goals as goal

pub loop-i-preserved : goal.loop-i-preserved
loop-i-preserved c =
    let i : ℕ = c.loop-i.i in
    let next : i + 1 ≡ 1 + i = omega arith in
    c.in_ok-push_table.ensures
    ∙ ap (λ xs. xs ++ slots_in c.args.cluster.0 (i + 1) c.index-resvs-i.result) c.loop-i.invariant
    ∙ ap (λ m. slots_from c.args.cluster.0 1 (take i c.args.resvs.now) ++ slots_in c.args.cluster.0 m c.index-resvs-i.result) next
    ∙ sym (slots_from-more c.args.cluster.0 1 c.args.resvs.now i c.index-resvs-i.result c.loop-i-test.true c.index-resvs-i.is)
