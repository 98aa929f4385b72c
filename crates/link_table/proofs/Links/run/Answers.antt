use Rattle.std.proofs.Common.{◌≡◌, ◌∙◌, ◌-◌, ◌<◌, length, sym, ap, arith}
use Rattle.std.proofs.lemmas.List.{length-map}
use Rattle.rt_base.specs.TaskNos.{number_of_task, numbers_of_tasks}
use Rattle.link_table.specs.Linked.{Linked}
use Rattle.link_table.proofs.PlaceLaws.{numbers_of_tasks-set, read-link_at}
use Rattle.link_table.proofs.MarkLaws.{marks-run}
use Rattle.link_table.proofs.AmongLaws.{among-set}
use Rattle.link_table.proofs.SoundLaws.{sound-set}
use Rattle.link_table.proofs.Links.run.Goals as goal

-- the processor's place, by the fields
place : (c : goal.After-self-1) → c.position_of-place.result ≡ c.args.q.0 - c.self.inside.first
place c = c.position_of-place.ensures.place ∙ ap (λ (l : Linked). c.args.q.0 - l.first) (sym c.self.view_is)

pub returns-clause-runs : goal.returns-clause-runs
returns-clause-runs c = rw (← c.self.view_is, ← place c) (ap (λ rs. record { first = c.self.inside.first; runs = rs; links = numbers_of_tasks c.self.inside.links.items }) (numbers_of_tasks-set _ _ _))

pub returns-clause-sound : goal.returns-clause-sound
returns-clause-sound c =
    let same : length (numbers_of_tasks c.self.inside.runs.items) ≡ length c.args.self.now.runs = ap (λ (l : Linked). length l.runs) c.self.view_is in
    let inside : c.position_of-place.result < length (numbers_of_tasks c.self.inside.runs.items) = omega (arith, c.position_of-place.ensures.runs) in
    rw numbers_of_tasks-set (sound-set _ _ _ c.self.invariant.0 inside (rw (place c) (rw (← c.self.view_is) at c.requires.of_link)))

pub returns-clause-among : goal.returns-clause-among
returns-clause-among c = rw (← c.self.view_is, numbers_of_tasks-set) (among-set _ _ _ (rw (place c) (rw (← c.self.view_is) at c.requires.of_link)))

pub invariant_of-self : goal.invariant_of-self
invariant_of-self c =
    let inside = c.self.inside in
    let same : length (numbers_of_tasks inside.runs.items) ≡ length c.args.self.now.runs = ap (λ (l : Linked). length l.runs) c.self.view_is in
    let low : c.position_of-place.result < length (numbers_of_tasks inside.runs.items) = omega (arith, same, c.position_of-place.ensures.runs) in
    let read = read-link_at inside.runs.items c.position_of-place.result c.index.result.now (omega (arith, low, length-map inside.runs.items number_of_task)) c.index.ensures in (
      returns-clause-sound c,
      c.self.invariant.1,
      rw (numbers_of_tasks-set, c.set_of-2.ensures, c.set_of.ensures, read) (marks-run _ _ _ _ c.self.invariant.2 c.self.invariant.0.runs_once low),
    )
