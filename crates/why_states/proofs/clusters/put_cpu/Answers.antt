use Rattle.std.proofs.Common.{◌≡◌, ◌∙◌, refl, sym, ap, subst}
use Rattle.std.proofs.lemmas.Result.{on_ok_weaker}
use Rattle.rt_model.specs.Group.{Group}
use Rattle.rt_model.specs.Links.{linked, pending}
use Rattle.rt_plays.specs.Homes.{IsProcessorOf}
use Rattle.why_states.proofs.clusters.put_cpu.Goals as goal

pub runs-runs-requires : goal.runs-runs-requires
runs-runs-requires c = subst (λ (g : Group). IsProcessorOf g c.args.cpu.0) (sym c.requires.at.1.group_is) c.requires.cpu

pub linked-link-requires : goal.linked-link-requires
linked-link-requires c = subst (λ (g : Group). IsProcessorOf g c.args.cpu.0) (sym c.requires.at.1.group_is) c.requires.cpu

pub returns : goal.returns
unfolding pending
returns c =
    on_ok_weaker c.put_cpu_line.result (λ put past is.
    let runs_are = c.runs-runs.ensures past is.at in
    let link_is = c.linked-link.ensures past is.at ∙ ap (λ (x : Group). linked x c.args.cpu.0 past) is.group_is in
    rw (← runs_are, ← link_is) put) c.put_cpu_line.ensures
