use Rattle.std.proofs.Common.{◌≡◌, ◌∙◌, ◌++◌, [], true, refl, sym, ap, subst}
use Rattle.std.proofs.lemmas.Result.{on_ok_weaker}
use Rattle.rt_base.specs.TaskNos.{numbers}
use Rattle.rt_rules.specs.Numbers.{has}
use Rattle.rt_task.specs.declared.Protocol.{Protocol}
use Rattle.rt_task.specs.declared.Protocol.TheVariants.{Fmlp, Mpcp, Omlp, Pcp, Srp}
use Rattle.rt_task.specs.declared.PluginKind.TheVariants as plugins
use Rattle.rt_rules.specs.declared.Key.{Key}
use Rattle.rt_model.specs.Ceilings.{ceiling}
use Rattle.rt_model.specs.Group.{Group, protocol, sems}
use Rattle.rt_model.specs.Holders.{holder}
use Rattle.why_texts.specs.SemLines.{ceiling_piece}
use Rattle.why_lines.specs.Ceilings.{ceiling_shown}
use Rattle.why_states.proofs.Facts.{ceiling-piece, declared-sem}
use Rattle.why_states.specs.States.{IsAt, group_of}
use Rattle.why_states.proofs.sems.put_sem.Goals as goal

pub holder-holder-requires : goal.holder-holder-requires
holder-holder-requires c = subst (λ (g : Group). has c.args.sem.0 (sems g) ≡ true) (sym c.requires.at.1.group_is) (declared-sem (group_of c.args.state.now) c.args.sem.0 c.requires.sem)

pub returns : goal.returns
returns c =
    on_ok_weaker c.put_sem_line.result (λ put past is.
    let g = group_of c.args.state.now in
    let holder_is = c.holder-holder.ensures past is.at ∙ ap (λ (x : Group). holder x c.args.sem.0 past) is.group_is in
    let waiting_are = ap numbers c.as_slice.ensures.value ∙ c.in_ok-waiting.ensures past is in
    let ceiling_is = ceiling-piece g c.args.sem.0 c.ceiling_of-ceiling.result is.valid (declared-sem g c.args.sem.0 c.requires.sem) c.ceiling_of-ceiling.ensures in
    rw (← holder_is, ← waiting_are, ← ceiling_is) put) c.put_sem_line.ensures
