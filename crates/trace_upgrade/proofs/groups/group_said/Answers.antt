use Rattle.std.proofs.Common.{ℕ, ap, ◌∙◌}
use Rattle.rt_task.specs.declared.Parts.{Parts}
use Rattle.rt_model.specs.Blocking.{requests}
use Rattle.rt_model.specs.Group.{Group}
use Rattle.rt_model.specs.Histories.{past_of}
use Rattle.rt_plays.specs.Plays.{group_with}
use Rattle.trace_laws.specs.PlayedGroups.{full_group}
use Rattle.trace_upgrade.proofs.TextLaws.{behind_entries, behind_group, blocks-ended, blocks-told, can-replay, entries-ended, entries-told, groups-told}
use Rattle.trace_upgrade.proofs.groups.group_said.Goals as goal

pub new-requires : goal.new-requires
new-requires c =
    let k = c.args.k.now in
    let tell = c.requires.known in
    let p : Parts = c.args.setup.now in
    let n : ℕ = c.args.group.0 in
    let text = c.args.text.now in
    let es = c.requires.says.0 in
    let hs = c.requires.says.1 in
    let told = c.requires.says.2 in
    let read =
    c.in_ok-entries.ensures (group_with p n) es (behind_entries k tell p n es hs text told) (entries-told k tell p n es hs text told c.behind_line.result.now c.behind_line.ensures)
    (entries-ended k tell p n es hs text told) in
    can-replay k tell p n es hs text told c.in_ok-entries.entries.items read.0

pub returns : goal.returns
returns c = λ es hs told.
    let k = c.args.k.now in
    let tell = c.requires.known in
    let p : Parts = c.args.setup.now in
    let n : ℕ = c.args.group.0 in
    let text = c.args.text.now in
    let g : Group = group_with p n in
    let read =
    c.in_ok-entries.ensures g es (behind_entries k tell p n es hs text told) (entries-told k tell p n es hs text told c.behind_line.result.now c.behind_line.ensures) (entries-ended k tell p n es hs text told) in
    let rest =
    c.behind_blocks.ensures k g (past_of g es) (requests (past_of g es)) (behind_group k tell p n es hs text told) tell (blocks-told k tell p n es hs text told c.in_ok-entries.rest.now read.1)
    (blocks-ended k tell p n es hs text told) in
    (c.in_ok-group.ensures ∙ ap (full_group p n) read.0, groups-told k tell p n es hs text told c.behind_blocks.result.now rest)
