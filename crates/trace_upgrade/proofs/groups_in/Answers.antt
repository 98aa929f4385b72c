use Rattle.std.proofs.Common.{◌≡◌, ◌-◌, List, ℕ, length, take, drop, sym, subst, arith}
use Rattle.std.proofs.lemmas.List.{length-drop, take_all}
use Rattle.std.proofs.lemmas.Result.{IfOk-weaker}
use Rattle.rt_rules.specs.declared.history.Entry.{Entry}
use Rattle.trace_lines.specs.Known.{Known, known_of}
use Rattle.trace_read.specs.Reads.{IsHeadOf}
use Rattle.trace_read.specs.declared.head.TraceHead.{TraceHead}
use Rattle.trace_upgrade.specs.Said.{TellsGroups, TellsPlays}
use Rattle.trace_laws.proofs.PlayedGroups.{said-all, said-full, said-histories}
use Rattle.trace_upgrade.proofs.SaidLaws.{plays-told}
use Rattle.trace_upgrade.proofs.groups_in.Goals as goal

-- what stands behind the head tells the groups
behind-told : (k : Known) (bytes : List ℕ) (head : TraceHead) (hs : List (List Entry)) → IsHeadOf bytes head → k ≡ known_of head.version head.setup → TellsPlays bytes head hs
    → TellsGroups k head.setup 0 hs (take (length bytes - head.length) (drop head.length bytes))
behind-told k bytes head hs is known told =
    let rest : take (length bytes - head.length) (drop head.length bytes) ≡ drop head.length bytes =
    take_all (length bytes - head.length) (drop head.length bytes) (omega (arith, length-drop head.length bytes)) in
    subst (λ (text : List ℕ). TellsGroups k head.setup 0 hs text) (sym rest) (subst (λ (j : Known). TellsGroups j head.setup 0 hs (drop head.length bytes)) (sym known) (plays-told bytes head hs is told))

pub groups_said-requires-clause-says : goal.groups_said-requires-clause-says
groups_said-requires-clause-says c =
    let hs = c.requires.says.0 in
    let told = c.requires.says.1 in
    (hs, behind-told c.in_ok-k.k c.args.bytes.now c.args.head.now hs c.requires.read c.in_ok-k.ensures.known told, told.played.plays.count)

pub returns-clause-groups : goal.returns-clause-groups
returns-clause-groups c =
    let hs = c.requires.says.0 in
    let told = c.requires.says.1 in
    IfOk-weaker c.groups_said.result _ _
    (λ v said. said-all c.args.head.now.setup told.played.valid hs told.played.plays v.items (said hs (behind-told c.in_ok-k.k c.args.bytes.now c.args.head.now hs c.requires.read c.in_ok-k.ensures.known told) told.played.plays.count))
    c.groups_said.ensures

pub returns-clause-histories : goal.returns-clause-histories
returns-clause-histories c =
    IfOk-weaker c.groups_said.result _ _
    (λ v said hs told. said-histories c.args.head.now.setup told.played.valid hs told.played.plays v.items (said hs (behind-told c.in_ok-k.k c.args.bytes.now c.args.head.now hs c.requires.read c.in_ok-k.ensures.known told) told.played.plays.count))
    c.groups_said.ensures

pub returns-clause-full : goal.returns-clause-full
returns-clause-full c =
    let hs = c.requires.says.0 in
    let told = c.requires.says.1 in
    IfOk-weaker c.groups_said.result _ _
    (λ v said. said-full c.args.head.now.setup told.played.valid hs told.played.plays v.items (said hs (behind-told c.in_ok-k.k c.args.bytes.now c.args.head.now hs c.requires.read c.in_ok-k.ensures.known told) told.played.plays.count))
    c.groups_said.ensures
