use borrow.Rule.Slice.PartMut.{put_mid, same_len_mid}
use Rattle.std.proofs.Common.{◌≡◌, ◌≤◌, ◌<◌, ◌-◌, ◌++◌, ℕ, List, length, refl, sym, ap, ◌∙◌, subst, arith}
use Rattle.std.specs.Prelude.{All, slice_range}
use Rattle.std.specs.Vec.{with_items}
use Rattle.std.proofs.lemmas.List.{with_items_is}
use Rattle.std.proofs.lemmas.List.Elements.{All-drop, All-take}
use Rattle.rt_model.specs.Group.{Group, group_processors}
use Rattle.rt_model.specs.Histories.{changed}
use Rattle.rt_model.specs.Past.{Past}
use Rattle.rt_plays.specs.Homes.{IsProcessorOf}
use Rattle.rt_plays.specs.Groups.{GroupHistory, group_of, past}
use Rattle.trace_lines.specs.declared.links.CpuLink.{CpuLink}
use Rattle.trace_lines.specs.Lines.{Link, links_of}
use Rattle.trace_text.specs.Groups.{changed_links, cpus_in}
use Rattle.trace_text.specs.TraceText.{links_at}
use Rattle.trace_text.proofs.ReplayLaws.{links_there}
use Rattle.trace_text.proofs.PartLinks.{told-part}
use Rattle.trace_text.proofs.StillLinks.{AreAsBefore, links-stay, none-changed}
use Rattle.trace_writer.proofs.Replays.{as_many_links, lent-cpus, lent-links, shows-next, still-at, taken-entry}
use Rattle.trace_writer.proofs.replay.Replay.step.Goals as goal
use Rattle.trace_writer.proofs.replay.Replay.step.Goals.{In_ok-read_again, Then-not-has_placed}

pub returns-then-not-has_placed-clause-taken : goal.returns-then-not-has_placed-clause-taken
returns-then-not-has_placed-clause-taken c = taken-entry c.args.self.now.engine c.step-reply.new.self c.args.step c.step-reply.result c.step-reply.ensures.entry c.step-reply.ensures.reply

-- no processor's link was changed
still : (c : Then-not-has_placed) → AreAsBefore (group_of c.args.self.now.engine) (past c.args.self.now.engine) (past c.step-reply.new.self) (group_processors (group_of c.args.self.now.engine))
still c = rw c.engine-engine.ensures at (c.has_placed.ensures c.args.self.now.engine _ (c.engine-engine.ensures ∙ c.step-reply.ensures.entry) c.if-not-has_placed.true)

pub returns-then-not-has_placed-clause-changed : goal.returns-then-not-has_placed-clause-changed
returns-then-not-has_placed-clause-changed c =
    let g : Group = group_of c.args.self.now.engine in
    let now : Past = past c.step-reply.new.self in
    ap links_of c.clear.ensures.items ∙ sym (ap (links_at g now) (none-changed g (past c.args.self.now.engine) now (still (goal.at.returns-then-not-has_placed-clause-changed c).Then-not-has_placed)))

pub returns-then-not-has_placed-clause-shows : goal.returns-then-not-has_placed-clause-shows
returns-then-not-has_placed-clause-shows c =
    let g : Group = group_of c.args.self.now.engine in
    let was : Past = past c.args.self.now.engine in
    shows-next c.args.self.now.engine c.step-reply.new.self _ c.args.self.now.cpus.items c.args.self.now.links.items c.step-reply.ensures.entry c.requires.shows.cpus_are
    (c.requires.shows.links_are ∙ sym (links-stay g was (past c.step-reply.new.self) (group_processors g) (still (goal.at.returns-then-not-has_placed-clause-shows c).Then-not-has_placed)))

pub placed_stretch-stretch-requires-clause-there : goal.placed_stretch-stretch-requires-clause-there
placed_stretch-stretch-requires-clause-there c =
    lent-cpus c.engine-engine.result.now _ c.as_slice.result.now c.args.self.now.cpus.items (c.engine-engine.ensures ∙ c.step-reply.ensures.entry) c.as_slice.ensures.value c.requires.shows.cpus_are

-- the part is within the links
within : (c : In_ok-read_again) → c.placed_stretch-stretch.result.end ≤ length c.as_mut_slice.result.now
within c =
    omega (
      arith,
      c.placed_stretch-stretch.ensures.part.1,
      as_many_links c.args.self.now.engine c.args.self.now.cpus.items c.args.self.now.links.items c.requires.shows,
      ap length c.as_slice.ensures.value,
      ap length c.as_mut_slice.ensures.value,
    )

pub read_again-requires : goal.read_again-requires
read_again-requires c =
    let g : Group = group_of c.args.self.now.engine in
    let same : g ≡ group_of c.engine-engine.result.now = sym (ap group_of (c.engine-engine.ensures ∙ c.step-reply.ensures.entry)) in
    let all : All (λ (l : CpuLink). IsProcessorOf (group_of c.engine-engine.result.now) l.cpu.0) c.as_mut_slice.result.now =
    subst (λ (xs : List CpuLink). All (λ (l : CpuLink). IsProcessorOf (group_of c.engine-engine.result.now) l.cpu.0) xs) (sym c.as_mut_slice.ensures.value)
    (subst (λ (x : Group). All (λ (l : CpuLink). IsProcessorOf x l.cpu.0) c.args.self.now.links.items) same (links_there g (past c.args.self.now.engine) c.args.self.now.links.items c.requires.shows.links_are)) in
    All-take (λ (l : CpuLink). IsProcessorOf (group_of c.engine-engine.result.now) l.cpu.0) (c.placed_stretch-stretch.result.end - c.placed_stretch-stretch.result.start) _
    (All-drop (λ (l : CpuLink). IsProcessorOf (group_of c.engine-engine.result.now) l.cpu.0) c.placed_stretch-stretch.result.start _ all)

-- the links with the part that was read again
abbrev links_now : In_ok-read_again → List CpuLink
links_now c = put_mid c.placed_stretch-stretch.result.start (c.placed_stretch-stretch.result.end - c.placed_stretch-stretch.result.start) c.as_mut_slice.result.now c.read_again.new.links

-- all links are known, and those that changed are told
told : (c : In_ok-read_again) → (links_of (links_now c) ≡ links_at (group_of c.args.self.now.engine) (past c.step-reply.new.self) (group_processors (group_of c.args.self.now.engine)))
    × (links_of c.read_again.new.changed.items ≡ links_at (group_of c.args.self.now.engine) (past c.step-reply.new.self) (changed (group_of c.args.self.now.engine) (past c.args.self.now.engine) (past c.step-reply.new.self)))
told c =
    let h : GroupHistory = c.args.self.now.engine in
    let g : Group = group_of h in
    let now : Past = past c.step-reply.new.self in
    let links : List CpuLink = c.as_mut_slice.result.now in
    let a : ℕ = c.placed_stretch-stretch.result.start in
    let b : ℕ = c.placed_stretch-stretch.result.end in
    let part : List CpuLink = slice_range links a b in
    let lent : c.engine-engine.result.now ≡ c.step-reply.new.self = c.engine-engine.ensures in
    let at = lent-links c.engine-engine.result.now c.step-reply.new.self g part part lent (ap group_of c.step-reply.ensures.entry) refl in
    let of : List Link = changed_links (links_of part) (links_at (group_of c.engine-engine.result.now) (past c.engine-engine.result.now) (cpus_in part)) in
    let long = as_many_links h c.args.self.now.cpus.items c.args.self.now.links.items c.requires.shows in
    told-part g (past h) now links c.read_again.new.links c.read_again.new.changed.items a b c.placed_stretch-stretch.ensures.part.0 (within c)
    (ap links_of c.as_mut_slice.ensures.value ∙ c.requires.shows.links_are)
    (λ k low out.
    let place : k < length c.as_slice.result.now = omega (arith, low, long, ap length c.as_slice.ensures.value, ap length c.as_mut_slice.ensures.value) in
    still-at h c.step-reply.new.self c.engine-engine.result.now c.as_slice.result.now c.args.self.now.cpus.items k lent c.as_slice.ensures.value c.requires.shows.cpus_are
    (c.placed_stretch-stretch.ensures.still h _ (lent ∙ c.step-reply.ensures.entry) k place out))
    (c.in_ok-read_again.ensures.links ∙ at)
    (c.in_ok-read_again.ensures.changed ∙ ap (λ (ys : List CpuLink). links_of ys ++ of) c.clear.ensures.items ∙ ap (changed_links (links_of part)) at)

pub returns-clause-taken : goal.returns-clause-taken
returns-clause-taken c = taken-entry c.args.self.now.engine c.step-reply.new.self c.args.step c.step-reply.result c.step-reply.ensures.entry c.step-reply.ensures.reply

pub returns-clause-changed : goal.returns-clause-changed
returns-clause-changed c = (told (goal.at.returns-clause-changed c).In_ok-read_again).1

pub returns-clause-shows : goal.returns-clause-shows
returns-clause-shows c =
    let all = (goal.at.returns-clause-shows c).In_ok-read_again in
    let same = same_len_mid c.placed_stretch-stretch.result.start (c.placed_stretch-stretch.result.end - c.placed_stretch-stretch.result.start) c.as_mut_slice.result.now c.read_again.new.links c.read_again.auto.links in
    let long : length (links_now all) ≡ c.args.self.now.links.len = omega (arith, same, ap length c.as_mut_slice.ensures.value, c.args.self.now.links.ok.0) in
    let written = with_items_is c.args.self.now.links (links_now all) long in
    shows-next c.args.self.now.engine c.step-reply.new.self _ c.args.self.now.cpus.items (with_items c.args.self.now.links (links_now all)).items c.step-reply.ensures.entry c.requires.shows.cpus_are (ap links_of written ∙ (told all).0)
