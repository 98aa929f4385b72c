use Rattle.std.proofs.Common.{◌≡◌, ℕ, ◌<◌, ◌≤◌, length, set, refl, sym, ap, ◌∙◌, subst, arith}
use Rattle.std.specs.Prelude.{true}
use Rattle.rt_base.specs.declared.TheConstants.{MOST_STEPS}
use Rattle.rt_rules.specs.declared.history.Entry.{Entry}
use Rattle.rt_model.specs.Group.{Group}
use Rattle.rt_plays.specs.Homes.{IsProcessorOf}
use Rattle.rt_plays.specs.Plays.{IsBegunPlay}
use Rattle.rt_plays.specs.Drives.{gives_steps}
use Rattle.rt_plays.specs.Groups.{GroupHistory, group_of, with_entry}
use Rattle.cpu_site.specs.Playing.{IsFar, IsNextEntry, IsOver, IsPlaying}
use Rattle.cpu_site.proofs.Advancing.{position-there, over-read, taking-read, playing-few}
use Rattle.cpu_site.proofs.Drives.{far-script}
use Rattle.cpu_site.proofs.player.Player.next_of_script.Goals as goal

at_home : (h h' : GroupHistory) (q : ℕ) → h ≡ h' → IsProcessorOf (group_of h') q → IsProcessorOf (group_of h) q
at_home h h' q same there = subst (λ (x : GroupHistory). IsProcessorOf (group_of x) q) (sym same) there

given : (h h' : GroupHistory) → h ≡ h' → gives_steps h'.setup.drive ≡ true → gives_steps h.setup.drive ≡ true
given h h' same gives = subst (λ (x : GroupHistory). gives_steps x.setup.drive ≡ true) (sym same) gives

pub index-position-requires : goal.index-position-requires
index-position-requires c =
    let low = position-there _ _ _ _ _ c.self.invariant c.args.cpu.0 (at_home _ _ _ c.self.view_is c.requires.cpu) (given _ _ c.self.view_is c.requires.steps) in
    omega (arith, low, c.self.inside.positions.ok.0)

pub returns-then-position-len-clause-outcome : goal.returns-then-position-len-clause-outcome
returns-then-position-len-clause-outcome c =
    let end : length c.self.inside.steps.items ≤ c.index-position.result.now = omega (arith, c.if-position-len.true, c.len.ensures, c.self.inside.steps.ok.0) in
    let over = over-read _ _ _ _ _ c.self.invariant c.args.cpu.0 (at_home _ _ _ c.self.view_is c.requires.cpu) (given _ _ c.self.view_is c.requires.steps) c.index-position.result.now c.index-position.ensures end in (
      subst (λ (h : GroupHistory). IsOver (group_of h) c.args.cpu.0 h.entries) c.self.view_is over,
      (far-script (group_of c.args.self.now) c.args.cpu.0 c.args.self.now.entries c.args.self.now.entries c.args.at c.requires.steps c.requires.far).1,
      refl,
      refl,
    )

pub returns-then-position-len-clause-begun : goal.returns-then-position-len-clause-begun
returns-then-position-len-clause-begun c = subst (λ (h : GroupHistory). IsBegunPlay (group_of h) h.entries) c.self.view_is c.self.invariant.begun

pub returns-then-position-len-clause-few : goal.returns-then-position-len-clause-few
returns-then-position-len-clause-few c = subst (λ (h : GroupHistory). length h.entries ≤ MOST_STEPS) c.self.view_is (playing-few _ _ _ _ _ c.self.invariant)

pub step-reply-requires-clause-room : goal.step-reply-requires-clause-room
step-reply-requires-clause-room c =
    let low : c.index-position.result.now < length c.self.inside.steps.items = omega (arith, c.if-position-len.false, c.len.ensures, c.self.inside.steps.ok.0) in
    (taking-read _ _ _ _ _ c.self.invariant c.args.cpu.0 (at_home _ _ _ c.self.view_is c.requires.cpu) (given _ _ c.self.view_is c.requires.steps) c.index-position.result.now c.index-position.ensures c.index-step.result.now c.index-step.ensures low).room

pub step-reply-requires-clause-step : goal.step-reply-requires-clause-step
step-reply-requires-clause-step c =
    let low : c.index-position.result.now < length c.self.inside.steps.items = omega (arith, c.if-position-len.false, c.len.ensures, c.self.inside.steps.ok.0) in
    (taking-read _ _ _ _ _ c.self.invariant c.args.cpu.0 (at_home _ _ _ c.self.view_is c.requires.cpu) (given _ _ c.self.view_is c.requires.steps) c.index-position.result.now c.index-position.ensures c.index-step.result.now c.index-step.ensures low).step_of

pub index_mut-requires : goal.index_mut-requires
index_mut-requires c =
    let low = position-there _ _ _ _ _ c.self.invariant c.args.cpu.0 (at_home _ _ _ c.self.view_is c.requires.cpu) (given _ _ c.self.view_is c.requires.steps) in
    omega (arith, low, c.self.inside.positions.ok.0)

pub invariant_of-self : goal.invariant_of-self
invariant_of-self c =
    let low : c.index-position.result.now < length c.self.inside.steps.items = omega (arith, c.if-position-len.false, c.len.ensures, c.self.inside.steps.ok.0) in
    let e : Entry = record { step = c.index-step.result.now; reply = c.step-reply.result } in
    let t = taking-read _ _ _ _ _ c.self.invariant c.args.cpu.0 (at_home _ _ _ c.self.view_is c.requires.cpu) (given _ _ c.self.view_is c.requires.steps) c.index-position.result.now c.index-position.ensures c.index-step.result.now c.index-step.ensures low in
    subst (λ (h : GroupHistory). IsPlaying h c.self.inside.setup c.self.inside.steps.items (set c.self.inside.positions.items c.args.cpu.0 c.index.result.now) c.self.inside.nexts.items) (sym c.step-reply.ensures.entry) (t.after e refl c.step-reply.ensures.reply c.index-position.result.now c.index.result.now c.index-position.ensures c.index.ensures)

pub returns-clause-outcome : goal.returns-clause-outcome
returns-clause-outcome c =
    let low : c.index-position.result.now < length c.self.inside.steps.items = omega (arith, c.if-position-len.false, c.len.ensures, c.self.inside.steps.ok.0) in
    let e : Entry = record { step = c.index-step.result.now; reply = c.step-reply.result } in
    let t = taking-read _ _ _ _ _ c.self.invariant c.args.cpu.0 (at_home _ _ _ c.self.view_is c.requires.cpu) (given _ _ c.self.view_is c.requires.steps) c.index-position.result.now c.index-position.ensures c.index-step.result.now c.index-step.ensures low in
    (subst (λ (h : GroupHistory). IsNextEntry h c.args.at.turns c.args.cpu.0 e) c.self.view_is (t.entry c.args.at.turns e refl c.step-reply.ensures.reply), c.step-reply.ensures.entry ∙ ap (with_entry e) c.self.view_is, refl)

pub returns-clause-far : goal.returns-clause-far
returns-clause-far c =
    let group : group_of c.step-reply.new.self ≡ group_of c.args.self.now = ap group_of (c.step-reply.ensures.entry) ∙ ap group_of c.self.view_is in
    subst (λ (g : Group). IsFar g c.args.cpu.0 c.step-reply.new.self.entries c.args.at) (sym group)
    (far-script (group_of c.args.self.now) c.args.cpu.0 c.args.self.now.entries c.step-reply.new.self.entries c.args.at c.requires.steps c.requires.far).0

pub returns-clause-begun : goal.returns-clause-begun
returns-clause-begun c = (invariant_of-self c).begun

pub returns-clause-few : goal.returns-clause-few
returns-clause-few c = playing-few _ _ _ _ _ (invariant_of-self c)
