use Rattle.std.proofs.Common.{arith, subst, sym}
use Rattle.resv_core.specs.Served.{IsResv, Served, settled}
use Rattle.resv_core.proofs.KnownLaws.{settled-stays, sound-set}
use Rattle.resv_core.proofs.InSlotLaws.{length-settled}
use Rattle.resv_core.proofs.Resvs.settle_one.Goals as goal

pub invariant_of-self : goal.invariant_of-self
invariant_of-self c =
    let inside = subst (λ (v : Served). IsResv v c.args.r.0) (sym c.self.view_is) c.requires in
    sound-set _ _ _ _ _ (settled c.self.inside.clock) _ _ (omega arith) c.index_mut.ensures.value c.settle.ensures (length-settled c.self.inside.clock) (settled-stays c.self.inside.clock) c.self.invariant
