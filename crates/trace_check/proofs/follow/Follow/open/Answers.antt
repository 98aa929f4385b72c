use Rattle.std.proofs.Common.{◌≡◌, ◌*◌, ◌≤◌, List, [], length, refl, sym, ap, ◌∙◌, subst, arith}
use Rattle.std.specs.Prelude.{All}
use Rattle.std.proofs.lemmas.List.{length-map}
use Rattle.rt_base.specs.declared.CpuNo.{CpuNo}
use Rattle.rt_base.specs.declared.TheConstants.{MOST_STEPS}
use Rattle.rt_task.specs.declared.Parts.{Parts}
use Rattle.rt_model.specs.Group.{Group, group_processors}
use Rattle.rt_plays.specs.Drives.{horizon, steps_given}
use Rattle.rt_plays.specs.Homes.{IsProcessorOf}
use Rattle.rt_plays.specs.Plays.{group_with}
use Rattle.trace_laws.proofs.Plays.{room-few}
use Rattle.rt_plays.proofs.GroupLimits.{steps-few, turns-few}
use Rattle.trace_text.proofs.ReplayLaws.{cpus_there}
use Rattle.trace_text.specs.Groups.{cpu_numbers}
use Rattle.trace_course.specs.Courses.{IsOpened, room_in}
use Rattle.trace_course.proofs.Courses.{room-first}
use Rattle.trace_text.specs.TraceText.{links_at}
use Rattle.trace_check.proofs.Opening.{cpus-low, following-first}
use Rattle.trace_check.proofs.follow.Follow.open.Goals as goal

pub open-requires : goal.open-requires
open-requires g c = cpus-low (group_with c.args.setup.now c.args.group.0) c.as_slice-listed.result.now c.parts.ensures.valid (ap cpu_numbers c.as_slice-listed.ensures.value ∙ c.in_ok-cpus.ensures)

pub room-room-requires-clause-steps : goal.room-room-requires-clause-steps
room-room-requires-clause-steps g c =
    subst (λ (q : Parts). length (steps_given q.drive) ≤ MOST_STEPS) (sym c.parts.ensures.parts) (steps-few c.args.setup.now c.parts.ensures.valid)

pub room-room-requires-clause-turns : goal.room-room-requires-clause-turns
room-room-requires-clause-turns g c =
    let g : Group = group_with c.args.setup.now c.args.group.0 in
    let many : length c.as_slice-listed.result.now ≡ length (group_processors g) = ap length c.as_slice-listed.ensures.value ∙ sym (length-map c.in_ok-cpus.cpus.items (λ (q : CpuNo). q.0)) ∙ ap length c.in_ok-cpus.ensures in
    subst (λ (q : Parts). horizon q.drive * length c.as_slice-listed.result.now * 18 ≤ MOST_STEPS) (sym c.parts.ensures.parts)
    (subst (λ n. horizon c.args.setup.now.drive * n * 18 ≤ MOST_STEPS) (sym many) (turns-few g c.parts.ensures.valid))

pub open-requires-2-clause-room : goal.open-requires-2-clause-room
open-requires-2-clause-room g c =
    let p : Parts = c.args.setup.now in
    let g : Group = group_with p c.args.group.0 in
    let opened =
    subst (λ (q : Parts). IsOpened q.drive c.in_ok-cpus.cpus.items c.in_ok-course.course) c.parts.ensures.parts
    (subst (λ (qs : List CpuNo). IsOpened c.parts.result.now.drive qs c.in_ok-course.course) c.as_slice-listed.ensures.value c.in_ok-course.ensures) in
    let is =
    c.room-room.ensures ∙ ap (λ (q : Parts). room_in q.drive (length c.as_slice-listed.result.now) c.in_ok-course.course) c.parts.ensures.parts
    ∙ ap (λ n. room_in p.drive n c.in_ok-course.course) (ap length c.as_slice-listed.ensures.value) ∙ room-first g c.in_ok-cpus.cpus.items c.in_ok-cpus.ensures c.in_ok-course.course opened in
    omega (arith, is, room-few g c.parts.ensures.valid)

pub open-requires-3 : goal.open-requires-3
open-requires-3 g c =
    let of : Group = group_with c.args.setup.now c.args.group.0 in
    subst (λ (x : Group). All (λ (q : CpuNo). IsProcessorOf x q.0) c.in_ok-cpus.cpus.items) (sym (c.afresh.ensures.group of [] c.in_ok-player.ensures.opened))
    (cpus_there of c.in_ok-cpus.cpus.items c.in_ok-cpus.ensures)

pub returns : goal.returns
returns g c =
    let p = c.args.setup.now in
    let of : Group = group_with p c.args.group.0 in
    following-first g.P.Player.at g.P.Player.spare p c.args.group.0 c.in_ok-cpus.cpus.items _ (record {
      valid = c.parts.ensures.valid;
      there = c.requires.group;
      at = c.in_ok-player.ensures.opened;
      cpus_are = c.in_ok-cpus.ensures;
      opened =
          subst (λ (q : Parts). IsOpened q.drive c.in_ok-cpus.cpus.items c.in_ok-course.course) c.parts.ensures.parts
          (subst (λ (qs : List CpuNo). IsOpened c.parts.result.now.drive qs c.in_ok-course.course) c.as_slice-listed.ensures.value c.in_ok-course.ensures);
      spare_is =
          c.in_ok-player.ensures.room ∙ c.room-room.ensures
          ∙ ap (λ (q : Parts). room_in q.drive (length c.as_slice-listed.result.now) c.in_ok-course.course) c.parts.ensures.parts
          ∙ ap (λ n. room_in p.drive n c.in_ok-course.course) (ap length c.as_slice-listed.ensures.value);
      cpus_kept = c.in_ok-links.ensures.cpus;
      links_are =
          c.in_ok-links.ensures.links [] (c.afresh.ensures.at of [] c.in_ok-player.ensures.opened)
          ∙ ap (λ (x : Group). links_at x [] (cpu_numbers c.in_ok-cpus.cpus.items)) (c.afresh.ensures.group of [] c.in_ok-player.ensures.opened);
      count_is = refl;
    })
