use Rattle.std.proofs.Common.{◌+◌, List, ◌∷◌, [], ◌++◌, length, take, get_or, ap, sym, subst, ◌∙◌, arith}
use Rattle.std.specs.Prelude.{Option}
use Rattle.rt_base.specs.TaskNos.{numbers}
use Rattle.rt_base.specs.declared.TaskNo.{TaskNo}
use Rattle.rt_task.specs.declared.Task.{Task}
use Rattle.rt_plays.proofs.SetLimits.{sets_are_in_limits}
use Rattle.part_state.specs.Entries.{after_entry}
use Rattle.split_writer.specs.inside.Replays.{CanPlay}
use Rattle.split_writer.proofs.Moments.{moment}
use Rattle.split_writer.proofs.Playing.{IsPlayed, at-next, can-play, can-read, first-played, link-is, no_entry, opened-at, played-next}
use Rattle.split_writer.proofs.links.links_of.Goals as goal

pub overflow_cast-cpus : goal.overflow_cast-cpus
overflow_cast-cpus c =
    let few = (sets_are_in_limits c.args.parts.now c.requires.partition.valid).few_clusters in
    let all = ap length c.as_slice.ensures in omega (arith, few, all)

pub overflow_cast-rows : goal.overflow_cast-rows
overflow_cast-rows c =
    let few = (sets_are_in_limits c.args.parts.now c.requires.partition.valid).few_tasks in
    let all = ap length c.as_slice-rows.ensures in omega (arith, few, all)

pub open-requires : goal.open-requires
open-requires c =
    let few = (sets_are_in_limits c.args.parts.now c.requires.partition.valid).few_tasks in
    let all = ap length c.as_slice-rows.ensures in omega (arith, few, all)

pub linked-requires-clause-read : goal.linked-requires-clause-read
linked-requires-clause-read c =
    let p = c.args.parts.now in let q = c.args.cpu.0 in let es = c.args.entries.now in let is = c.requires.partition in let play = c.requires.play in
    can-read p q is c.in_ok-ceilings.ceilings c.in_ok-ceilings.ensures (take 0 es) (moment p q es is play 0) c.in_ok-state.state
    (opened-at p q es is play c.in_ok-state.state (length c.as_slice-rows.result.now) (length c.as_slice.result.now) (ap length c.as_slice-rows.ensures) (ap length c.as_slice.ensures) c.in_ok-state.ensures)
    (numbers c.as_slice-2.result.now) (ap numbers c.as_slice-2.ensures.value ∙ c.in_ok-tasks.ensures)

pub loop-entry-init : goal.loop-entry-init
loop-entry-init c =
    let p = c.args.parts.now in let q = c.args.cpu.0 in let es = c.args.entries.now in let is = c.requires.partition in let play = c.requires.play in
    let at = opened-at p q es is play c.in_ok-state.state (length c.as_slice-rows.result.now) (length c.as_slice.result.now) (ap length c.as_slice-rows.ensures) (ap length c.as_slice.ensures) c.in_ok-state.ensures in
    subst (λ (ls : List (Option TaskNo)). IsPlayed p q (take 0 es) c.in_ok-state.state ls) (sym (c.in_ok-push.ensures.items ∙ ap (λ xs. xs ++ c.linked.result ∷ []) c.new-links.ensures.items))
    (first-played p q es is play c.in_ok-state.state c.linked.result at
    (c.linked.ensures ∙ link-is p q is c.in_ok-ceilings.ceilings c.in_ok-ceilings.ensures (take 0 es) (moment p q es is play 0) c.in_ok-state.state at
    (numbers c.as_slice-2.result.now) (ap numbers c.as_slice-2.ensures.value ∙ c.in_ok-tasks.ensures)))

pub play-requires : goal.play-requires
play-requires c =
    let p = c.args.parts.now in let q = c.args.cpu.0 in let es = c.args.entries.now in
    subst (λ (xs : List Task). CanPlay xs q (get_or es c.loop-entry.entry-index no_entry) c.loop-entry.state) (sym c.as_slice-rows.ensures)
    (can-play p q es c.requires.partition c.requires.play c.loop-entry.entry-index c.loop-entry.state c.loop-entry.invariant.at no_entry c.loop-entry-test.true)

pub linked-requires-in-loop-entry-clause-read : goal.linked-requires-in-loop-entry-clause-read
linked-requires-in-loop-entry-clause-read c =
    let p = c.args.parts.now in let q = c.args.cpu.0 in let es = c.args.entries.now in let is = c.requires.partition in let play = c.requires.play in
    let i = c.loop-entry.entry-index in
    let played = c.play.ensures ∙ ap (λ (xs : List Task). after_entry xs q (get_or es i no_entry) c.loop-entry.state) c.as_slice-rows.ensures in
    can-read p q is c.in_ok-ceilings.ceilings c.in_ok-ceilings.ensures (take (i + 1) es) (moment p q es is play (i + 1)) c.play.new.state
    (at-next p q es is play i no_entry c.loop-entry.state c.play.new.state c.loop-entry-test.true c.loop-entry.invariant.at played)
    (numbers c.as_slice-in-loop-entry.result.now) (ap numbers c.as_slice-in-loop-entry.ensures.value ∙ c.in_ok-tasks.ensures)

pub loop-entry-preserved : goal.loop-entry-preserved
loop-entry-preserved c =
    let p = c.args.parts.now in let q = c.args.cpu.0 in let es = c.args.entries.now in let is = c.requires.partition in let play = c.requires.play in
    let i = c.loop-entry.entry-index in
    let played = c.play.ensures ∙ ap (λ (xs : List Task). after_entry xs q (get_or es i no_entry) c.loop-entry.state) c.as_slice-rows.ensures in
    let at = at-next p q es is play i no_entry c.loop-entry.state c.play.new.state c.loop-entry-test.true c.loop-entry.invariant.at played in
    subst (λ (ls : List (Option TaskNo)). IsPlayed p q (take (i + 1) es) c.play.new.state ls) (sym c.in_ok-push-2.ensures.items)
    (played-next p q es is play i no_entry c.loop-entry.state c.play.new.state c.loop-entry.links.items c.linked-in-loop-entry.result c.loop-entry-test.true c.loop-entry.invariant at
    (c.linked-in-loop-entry.ensures ∙ link-is p q is c.in_ok-ceilings.ceilings c.in_ok-ceilings.ensures (take (i + 1) es) (moment p q es is play (i + 1)) c.play.new.state at
    (numbers c.as_slice-in-loop-entry.result.now) (ap numbers c.as_slice-in-loop-entry.ensures.value ∙ c.in_ok-tasks.ensures)))
