use Rattle.std.proofs.Common.{◌≡◌, ◌+◌, List, [], ◌∷◌, ◌++◌, true, take, ap, sym, subst, ◌∙◌}
use Rattle.std.proofs.lemmas.List.{take_more}
use Rattle.rt_task.specs.declared.draft.DraftResv.{DraftResv}
use Rattle.rt_task.specs.SharingRules as rules
use Rattle.set_rules.specs.inside.Tables.{Knows}
use Rattle.set_rules.proofs.RefusalLaws.{first_failing-passes}
use Rattle.set_rules.proofs.TableLaws.{in_range-at, sharing-fits}
use Rattle.set_rules.proofs.rules.sharing.resvs_sharing.Goals as goal

pub resv_sharing-requires : goal.resv_sharing-requires
resv_sharing-requires c =
    in_range-at c.args.d.now c.as_slice-resvs.result.now c.loop-i.i c.index-resvs-i.result c.requires c.as_slice-resvs.ensures c.loop-i-test.true c.index-resvs-i.is

pub add-requires : goal.add-requires
add-requires c =
    in_range-at c.args.d.now c.as_slice-resvs.result.now c.loop-i.i c.index-resvs-i.result c.requires c.as_slice-resvs.ensures c.loop-i-test.true c.index-resvs-i.is

pub loop-i-preserved : goal.loop-i-preserved
loop-i-preserved c =
    let d = c.args.d.now in
    let rs : List DraftResv = c.as_slice-resvs.result.now in
    let i = c.loop-i.i in
    let r : DraftResv = c.index-resvs-i.result in
    let fits : rules.resv_sharing d (take i rs) r ≡ true = sym (c.resv_sharing.ensures (take i rs) c.loop-i.invariant.known) ∙ c.if-not-resv_sharing.false in
    let more : take (i + 1) rs ≡ take i rs ++ r ∷ [] = take_more rs i r c.loop-i-test.true ∙ ap (λ (x : DraftResv). take i rs ++ x ∷ []) (sym c.index-resvs-i.is) in
    record {
      known = subst (Knows c.add.new.self) (sym more) (c.in_ok-add.ensures (take i rs) c.loop-i.invariant.known (sharing-fits d (take i rs) r fits));
      rest = first_failing-passes (rules.resv_sharing d) rs i r c.loop-i-test.true c.index-resvs-i.is fits ∙ c.loop-i.invariant.rest;
    }
