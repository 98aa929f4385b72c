use Rattle.std.proofs.Common.{ap, sym, subst, length, ◌+◌, ◌<◌, ◌∙◌}
use Rattle.std.proofs.lemmas.List.{get_or-map, length-map, map-set}
use Rattle.std.specs.Prelude.{None, slice_set}
use Rattle.rt_base.specs.declared.TheConstants.{MOST_STEPS}
use Rattle.block_counts.specs.Positions.{IsFew, no_tally, seen_at, seen_in}
use Rattle.block_counts.specs.SeenWords.{tallies_of, tally_of}
use Rattle.block_counts.proofs.requests.see_end.Goals as goal

pub see-requires : goal.see-requires
see-requires c =
    let low : c.in-Some.position < length c.args.seen.now = c.requires.positions c.args.waiting.task.0 c.in-Some.position (sym c.in-Some.ensures) in
    subst (IsFew (MOST_STEPS + 1)) (get_or-map tally_of c.args.seen.now c.in-Some.position (record { no = 0; task = record { 0 = 0 }; sem = record { 0 = 0 }; ends = 0; ends_all = 0; bound = None }) no_tally low) (c.requires.few c.in-Some.position no_tally (rw (length-map c.args.seen.now tally_of) low))

pub returns-in-Some : goal.returns-in-Some
returns-in-Some c =
    let low : c.in-Some.position < length c.args.seen.now = c.requires.positions c.args.waiting.task.0 c.in-Some.position (sym c.in-Some.ensures) in
    map-set tally_of c.args.seen.now c.in-Some.position c.see.new.one ∙
    ap (λ y. slice_set (tallies_of c.args.seen.now) c.in-Some.position y) (c.see.ensures ∙ ap (seen_at c.args.sem.0 c.args.waiting.blocked) (sym (get_or-map tally_of c.args.seen.now c.in-Some.position _ no_tally low))) ∙
    ap (λ o. seen_in o c.args.sem.0 c.args.waiting.blocked (tallies_of c.args.seen.now)) c.in-Some.ensures
