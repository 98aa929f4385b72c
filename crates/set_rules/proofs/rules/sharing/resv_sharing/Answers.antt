use Rattle.std.proofs.Common.{◌&&◌, ap, sym, ◌∙◌}
use Rattle.std.specs.List.{list_all}
use Rattle.rt_task.specs.SharingRules.{resv_sharing}
use Rattle.rt_task.specs.SlotRules.{fit_together}
use Rattle.set_rules.proofs.rules.sharing.resv_sharing.Goals as goal

pub returns-then-is_p_res : goal.returns-then-is_p_res
unfolding resv_sharing
returns-then-is_p_res c = λ earlier known.
    c.fits.ensures earlier known
    ∙ ap (λ b. b && list_all (λ q. fit_together q c.args.r.now) earlier) (sym (sym c.is_p_res.ensures ∙ c.if-is_p_res.true))
