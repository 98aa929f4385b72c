use Rattle.std.proofs.Common.{length, sym, ap, ◌∙◌, arith}
use Rattle.std.proofs.lemmas.List.{length-map}
use Rattle.rt_task.specs.declared.Parts.{Parts}
use Rattle.rt_plays.proofs.SetLimits.{sets_are_in_limits}
use Rattle.rt_model.specs.Group.{home}
use Rattle.rt_plays.specs.Plays.{group_with}
use Rattle.split_inbox.specs.Inboxes.{PosterOf}
use Rattle.part_seat.proofs.SendLaws as laws
use Rattle.part_seat.proofs.posts.post.Goals as goal

pub offset_bounds-senders-home : goal.offset_bounds-senders-home
offset_bounds-senders-home g c =
    let a = c.args.part.now in
    let kept = c.entries-entries.ensures.kept in
    let at = c.home_of-home.ensures ∙ ap (λ (p : Parts). home (group_with p 0) c.args.passed.task.0) (c.parts.ensures.parts ∙ c.setup.ensures) in
    let low = laws.low-position a.setup a.cpu kept.history.of_split c.args.senders.now c.requires.senders a.seats c.args.passed c.requires.passed c.home_of-home.result at in
    let count = c.requires.senders.count in
    let few = (sets_are_in_limits a.setup kept.history.of_split.valid).few_cpus in
    omega (arith, low, count, few)

pub bounds-senders-home : goal.bounds-senders-home
bounds-senders-home g c =
    let a = c.args.part.now in
    let kept = c.entries-entries.ensures.kept in
    let at = c.home_of-home.ensures ∙ ap (λ (p : Parts). home (group_with p 0) c.args.passed.task.0) (c.parts.ensures.parts ∙ c.setup.ensures) in
    laws.low-position a.setup a.cpu kept.history.of_split c.args.senders.now c.requires.senders a.seats c.args.passed c.requires.passed c.home_of-home.result at

pub offset_bounds-inboxes-home : goal.offset_bounds-inboxes-home
offset_bounds-inboxes-home g c =
    let a = c.args.part.now in
    let kept = c.entries-entries.ensures.kept in
    let at = c.home_of-home.ensures ∙ ap (λ (p : Parts). home (group_with p 0) c.args.passed.task.0) (c.parts.ensures.parts ∙ c.setup.ensures) in
    let low = laws.low-position a.setup a.cpu kept.history.of_split c.args.senders.now c.requires.senders a.seats c.args.passed c.requires.passed c.home_of-home.result at in
    let count = c.requires.senders.count in
    let few = (sets_are_in_limits a.setup kept.history.of_split.valid).few_cpus in
    omega (arith, low, count, few)

pub bounds-inboxes-home : goal.bounds-inboxes-home
bounds-inboxes-home g c =
    let a = c.args.part.now in
    let kept = c.entries-entries.ensures.kept in
    let at = c.home_of-home.ensures ∙ ap (λ (p : Parts). home (group_with p 0) c.args.passed.task.0) (c.parts.ensures.parts ∙ c.setup.ensures) in
    let low = laws.low-position a.setup a.cpu kept.history.of_split c.args.senders.now c.requires.senders a.seats c.args.passed c.requires.passed c.home_of-home.result at in
    let same = ap length c.requires.inboxes ∙ length-map c.args.senders.now (λ (b : PosterOf). b.inbox) in
    omega (arith, low, same)

pub post-requires-clause-inbox : goal.post-requires-clause-inbox
post-requires-clause-inbox g c =
    let a = c.args.part.now in
    let kept = c.entries-entries.ensures.kept in
    let at = c.home_of-home.ensures ∙ ap (λ (p : Parts). home (group_with p 0) c.args.passed.task.0) (c.parts.ensures.parts ∙ c.setup.ensures) in
    let d = c.index-senders-home.result in
    laws.inbox-at c.args.senders.now c.args.inboxes.now c.home_of-home.result d c.index-inboxes-home.result c.requires.inboxes (laws.low-position a.setup a.cpu kept.history.of_split c.args.senders.now c.requires.senders a.seats c.args.passed c.requires.passed c.home_of-home.result at)
    ∙ sym c.index-inboxes-home.is

pub post-requires-clause-cpu : goal.post-requires-clause-cpu
post-requires-clause-cpu g c =
    let a = c.args.part.now in
    let kept = c.entries-entries.ensures.kept in
    let at = c.home_of-home.ensures ∙ ap (λ (p : Parts). home (group_with p 0) c.args.passed.task.0) (c.parts.ensures.parts ∙ c.setup.ensures) in
    let d = c.index-senders-home.result in
    c.cpu-cpu.ensures ∙ sym (laws.poster a.setup a.cpu kept.history.of_split c.args.senders.now c.requires.senders a.seats c.args.passed c.requires.passed c.home_of-home.result at d).cpu

pub post-requires-clause-grant : goal.post-requires-clause-grant
post-requires-clause-grant g c =
    let a = c.args.part.now in
    let kept = c.entries-entries.ensures.kept in
    laws.is-grant a.setup a.cpu a.seats _ kept.meeting c.args.passed c.requires.passed g.N.Names.turns c.requires.names c.cpu-cpu.result.0 _ c.cpu-cpu.ensures c.spare-seen.result c.spare-seen.ensures.copy

pub post-requires-clause-task : goal.post-requires-clause-task
post-requires-clause-task g c =
    let a = c.args.part.now in
    let kept = c.entries-entries.ensures.kept in
    let at = c.home_of-home.ensures ∙ ap (λ (p : Parts). home (group_with p 0) c.args.passed.task.0) (c.parts.ensures.parts ∙ c.setup.ensures) in
    let d = c.index-senders-home.result in
    laws.named a.setup a.cpu kept.history.of_split c.args.senders.now c.requires.senders a.seats c.args.passed c.requires.passed c.home_of-home.result at d

pub post-requires-clause-quota : goal.post-requires-clause-quota
post-requires-clause-quota g c =
    let a = c.args.part.now in
    let kept = c.entries-entries.ensures.kept in
    let at = c.home_of-home.ensures ∙ ap (λ (p : Parts). home (group_with p 0) c.args.passed.task.0) (c.parts.ensures.parts ∙ c.setup.ensures) in
    let d = c.index-senders-home.result in
    laws.in-quota a.setup a.cpu kept.history.of_split c.args.senders.now c.requires.senders a.seats c.args.passed c.requires.passed c.home_of-home.result at d (c.requires.quota c.home_of-home.result)

pub post-requires-clause-few : goal.post-requires-clause-few
post-requires-clause-few g c =
    let a = c.args.part.now in
    let kept = c.entries-entries.ensures.kept in
    let at = c.home_of-home.ensures ∙ ap (λ (p : Parts). home (group_with p 0) c.args.passed.task.0) (c.parts.ensures.parts ∙ c.setup.ensures) in
    let d = c.index-senders-home.result in
    laws.few-quota a.setup a.cpu kept.history.of_split c.args.senders.now c.requires.senders a.seats c.args.passed c.requires.passed c.home_of-home.result at d

pub post-requires-clause-rising : goal.post-requires-clause-rising
post-requires-clause-rising g c =
    let a = c.args.part.now in
    let kept = c.entries-entries.ensures.kept in
    let at = c.home_of-home.ensures ∙ ap (λ (p : Parts). home (group_with p 0) c.args.passed.task.0) (c.parts.ensures.parts ∙ c.setup.ensures) in
    let d = c.index-senders-home.result in
    laws.rises a.setup a.cpu kept.history.of_split c.args.senders.now c.requires.senders a.seats c.args.passed c.requires.passed c.home_of-home.result at d (c.requires.rising c.home_of-home.result)

pub returns-clause-senders : goal.returns-clause-senders
returns-clause-senders g c =
    let a = c.args.part.now in
    let kept = c.entries-entries.ensures.kept in
    let at = c.home_of-home.ensures ∙ ap (λ (p : Parts). home (group_with p 0) c.args.passed.task.0) (c.parts.ensures.parts ∙ c.setup.ensures) in
    let d = c.index-senders-home.result in
    laws.still-posters a.setup a.cpu kept.history.of_split c.args.senders.now c.requires.senders a.seats c.args.passed c.requires.passed c.home_of-home.result at d c.cpu-cpu.result.0 _ c.post.new.self c.post.ensures

pub returns-clause-inboxes : goal.returns-clause-inboxes
returns-clause-inboxes g c =
    let a = c.args.part.now in
    let kept = c.entries-entries.ensures.kept in
    let at = c.home_of-home.ensures ∙ ap (λ (p : Parts). home (group_with p 0) c.args.passed.task.0) (c.parts.ensures.parts ∙ c.setup.ensures) in
    let d = c.index-senders-home.result in
    laws.same-inboxes a.setup a.cpu kept.history.of_split c.args.senders.now c.requires.senders a.seats c.args.passed c.requires.passed c.home_of-home.result at d c.cpu-cpu.result.0 _ c.post.new.self c.post.ensures

pub returns-clause-posted : goal.returns-clause-posted
returns-clause-posted g c =
    let a = c.args.part.now in
    let kept = c.entries-entries.ensures.kept in
    let at = c.home_of-home.ensures ∙ ap (λ (p : Parts). home (group_with p 0) c.args.passed.task.0) (c.parts.ensures.parts ∙ c.setup.ensures) in
    let d = c.index-senders-home.result in
    laws.has-posted a.setup a.cpu kept.history.of_split c.args.senders.now c.requires.senders a.seats c.args.passed c.requires.passed c.home_of-home.result at d c.cpu-cpu.result.0 _ c.post.new.self c.post.ensures
