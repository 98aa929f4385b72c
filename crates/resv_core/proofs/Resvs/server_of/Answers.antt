use Rattle.std.proofs.Common.{◌≡◌, ◌∙◌, ap, subst, sym, get_or}
use Rattle.std.specs.Prelude.{Option, None, Some, IfSome, List, slice_index_or}
use Rattle.rt_base.specs.declared.ResvNo.{ResvNo}
use Rattle.resv_core.specs.Served.{Served, IsResv}
use Rattle.resv_core.proofs.Resvs.server_of.Goals as goal

pub returns-clause-resv : goal.returns-clause-resv
returns-clause-resv c =
    by_result c.resv_at.result (c.resv_at.ensures ∙ ap (λ (v : List (Option ResvNo)). slice_index_or v c.args.task.0 None) c.as_slice.ensures.value)
  where
    by_result : (o : Option ResvNo) → o ≡ get_or c.self.inside.served_by.items c.args.task.0 None → IfSome o (λ r. IsResv c.args.self.now r.0)
    by_result None e = tt
    by_result (Some r) e =
        let placed = c.self.invariant.0 c.args.task.0 r (sym e) in
        subst (λ (v : Served). IsResv v r.0) c.self.view_is (record { low = placed.0; high = placed.1 })
