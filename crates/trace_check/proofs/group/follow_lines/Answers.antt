use Rattle.std.proofs.Common.{ℕ, ◌+◌, ◌-◌, ◌≤◌, Bool, List, drop, length, take, rules, refl, sym, ◌∙◌, subst}
use Rattle.std.proofs.lemmas.Result.{IfOk-weaker}
use Rattle.trace_lines.specs.Known.{known_of}
use Rattle.trace_lines.specs.Lines.{Line, group_line, links_of}
use Rattle.trace_tools.specs.BusCounters.{counters}
use Rattle.trace_tools.specs.Counters.{Counter}
use Rattle.trace_course.specs.Followed.{GroupEntries}
use Rattle.trace_check.specs.declared.progress.Entries.{Entries}
use Rattle.trace_check.specs.declared.progress.Followed.{Followed}
use Rattle.trace_check.specs.inside.Following.{IsFollowingWith}
use Rattle.trace_check.specs.Keeping.{Between}
use Rattle.trace_check.specs.inside.Progress.{AreFollowed, AreKept, HasStood, IsEndedAt, IsFollowedBy, IsRight}
use Rattle.trace_check.proofs.Judging.{ended-there, entries-few, followed-with, group-low, opened-line, opened-right, opened-wrong, position-short, position_at, right-short}
use Rattle.trace_check.proofs.TextPositions.{begins-rest, rest-of, taken-inside}
use Rattle.trace_check.proofs.group.follow_lines.Goals as goal

pub returns-then-not-branch : goal.returns-then-not-branch
returns-then-not-branch g c = λ opened before.
    let v = c.args.version in
    let p = c.args.setup.now in
    let text = c.args.text.now in
    let n = c.args.group.0 in
    let l : Line = group_line n (links_of c.args.follow.now.links.links.items) in
    let none = subst (λ (b : Bool). HasStood (known_of v p) l (take (length text - c.args.from.length) (drop c.args.from.length text)) c.begins.new.line.items b) c.if-not-branch.true c.in_ok-begins.ensures in
    opened-wrong v p text n c.args.from opened (counters g.T.TraceTool.tool c.args.bus.now) before.right c.requires.opened.valid (group-low p n c.requires.opened.valid c.requires.group) l
    (opened-line n c.args.follow.now c.requires.opened) (λ more is. none more (rest-of c.args.from.length text ∙ is))

pub overflow_add-begin : goal.overflow_add-begin
overflow_add-begin g c =
    let v = c.args.version in
    let p = c.args.setup.now in
    let text = c.args.text.now in
    let l : Line = group_line c.args.group.0 (links_of c.args.follow.now.links.links.items) in
    let stood = subst (λ (b : Bool). HasStood (known_of v p) l (take (length text - c.args.from.length) (drop c.args.from.length text)) c.begins.new.line.items b) c.if-not-branch.false c.in_ok-begins.ensures in
    let inside : c.args.from.length + length c.as_slice.result.now ≤ length text =
    taken-inside text c.begins.new.line.items c.as_slice.result.now c.args.from.length c.requires.before.1.right.within (begins-rest c.args.from.length text _ _ refl stood.1) c.as_slice.ensures.value in
    search rules

pub follow_entries-requires : goal.follow_entries-requires
follow_entries-requires g c =
    let v = c.args.version in
    let p = c.args.setup.now in
    let text = c.args.text.now in
    let first = counters g.T.TraceTool.tool c.args.bus.now in
    let l : Line = group_line c.args.group.0 (links_of c.args.follow.now.links.links.items) in
    let stood = subst (λ (b : Bool). HasStood (known_of v p) l (take (length text - c.args.from.length) (drop c.args.from.length text)) c.begins.new.line.items b) c.if-not-branch.false c.in_ok-begins.ensures in (
      c.args.from,
      c.requires.before.0,
      first,
      subst (λ (xs : List ℕ). IsRight g.P.Player.at g.P.Player.spare v p text c.args.group.0 c.args.from (c.args.from.length + length xs) c.args.follow.now c.requires.before.0 first first (g.K.Keeper.holds c.args.keeper.now p)) (sym c.as_slice.ensures.value)
          (opened-right v p text c.args.group.0 c.args.from c.requires.before.0 first c.requires.before.1.right c.args.follow.now c.begins.new.line.items c.requires.before.1.kept c.requires.opened stood.0
          (begins-rest c.args.from.length text _ _ refl stood.1)),
    )

pub ended_at-requires : goal.ended_at-requires
ended_at-requires g c =
    let v = c.args.version in
    let p = c.args.setup.now in
    let text = c.args.text.now in
    let first = counters g.T.TraceTool.tool c.args.bus.now in
    let last = counters g.T.TraceTool.tool c.follow_entries.new.bus in
    let n = c.args.group.0 in
    let from = c.args.from in
    let l : Line = group_line n (links_of c.args.follow.now.links.links.items) in
    let stood = subst (λ (b : Bool). HasStood (known_of v p) l (take (length text - c.args.from.length) (drop c.args.from.length text)) c.begins.new.line.items b) c.if-not-branch.false c.in_ok-begins.ensures in
    let begun = subst (λ (xs : List ℕ). IsRight g.P.Player.at g.P.Player.spare v p text n from (from.length + length xs) c.args.follow.now c.requires.before.0 first first (g.K.Keeper.holds c.args.keeper.now p)) (sym c.as_slice.ensures.value)
    (opened-right v p text n from c.requires.before.0 first c.requires.before.1.right c.args.follow.now c.begins.new.line.items c.requires.before.1.kept c.requires.opened stood.0 (begins-rest from.length text _ _ refl stood.1)) in
    let followed = subst (λ (e : Entries). AreFollowed g.P.Player.at g.P.Player.spare v p text n from c.follow_entries.new.follow c.requires.before.0 first last (g.K.Keeper.holds c.follow_entries.new.keeper p) e) c.in-Right.is (c.in_ok-entries.ensures from c.requires.before.0 first begun) in
    record {
      follows = (position_at v p text followed.0, followed-with v p text followed.0);
      few = entries-few v p text n from c.in-Right.size c.follow_entries.new.follow c.requires.before.0 first last followed.0;
      within = followed.0.within;
      positions = position-short v p text n from c.in-Right.size c.follow_entries.new.follow c.requires.before.0 first last followed.0;
    }

pub returns-in-Right : goal.returns-in-Right
returns-in-Right g c =
    let v = c.args.version in
    let p = c.args.setup.now in
    let text = c.args.text.now in
    let first = counters g.T.TraceTool.tool c.args.bus.now in
    let last = counters g.T.TraceTool.tool c.follow_entries.new.bus in
    let n = c.args.group.0 in
    let from = c.args.from in
    let l : Line = group_line n (links_of c.args.follow.now.links.links.items) in
    let stood = subst (λ (b : Bool). HasStood (known_of v p) l (take (length text - c.args.from.length) (drop c.args.from.length text)) c.begins.new.line.items b) c.if-not-branch.false c.in_ok-begins.ensures in
    IfOk-weaker c.ended_at.result
    (λ (f : Followed). (at : GroupEntries) → IsFollowingWith g.P.Player.at g.P.Player.spare at p c.follow_entries.new.follow → IsEndedAt at (known_of v p) (drop c.in-Right.size text) from c.follow_entries.new.follow.count c.in-Right.size f)
    (λ (f : Followed). (opened : List Counter) → AreKept v p text n from opened first (Between (g.K.Keeper.holds c.args.keeper.now p)) → IsFollowedBy g.P.Player.at v p text n opened last (g.K.Keeper.holds c.follow_entries.new.keeper p) c.follow_entries.new.follow.player f)
    (λ f ended opened before.
    let begun = subst (λ (xs : List ℕ). IsRight g.P.Player.at g.P.Player.spare v p text n from (from.length + length xs) c.args.follow.now opened first first (g.K.Keeper.holds c.args.keeper.now p)) (sym c.as_slice.ensures.value)
    (opened-right v p text n from opened first before.right c.args.follow.now c.begins.new.line.items before.kept c.requires.opened stood.0 (begins-rest from.length text _ _ refl stood.1)) in
    let followed = subst (λ (e : Entries). AreFollowed g.P.Player.at g.P.Player.spare v p text n from c.follow_entries.new.follow opened first last (g.K.Keeper.holds c.follow_entries.new.keeper p) e) c.in-Right.is (c.in_ok-entries.ensures from opened first begun) in
    ended-there v p text n from c.in-Right.size c.follow_entries.new.follow opened first last followed.0 f followed.1 (ended (position_at v p text followed.0) (followed-with v p text followed.0)))
    c.ended_at.ensures

pub returns-in-WrongAfter : goal.returns-in-WrongAfter
returns-in-WrongAfter g c = λ opened before.
    let v = c.args.version in
    let p = c.args.setup.now in
    let text = c.args.text.now in
    let first = counters g.T.TraceTool.tool c.args.bus.now in
    let last = counters g.T.TraceTool.tool c.follow_entries.new.bus in
    let n = c.args.group.0 in
    let from = c.args.from in
    let l : Line = group_line n (links_of c.args.follow.now.links.links.items) in
    let stood = subst (λ (b : Bool). HasStood (known_of v p) l (take (length text - c.args.from.length) (drop c.args.from.length text)) c.begins.new.line.items b) c.if-not-branch.false c.in_ok-begins.ensures in
    let begun = subst (λ (xs : List ℕ). IsRight g.P.Player.at g.P.Player.spare v p text n from (from.length + length xs) c.args.follow.now opened first first (g.K.Keeper.holds c.args.keeper.now p)) (sym c.as_slice.ensures.value)
    (opened-right v p text n from opened first before.right c.args.follow.now c.begins.new.line.items before.kept c.requires.opened stood.0 (begins-rest from.length text _ _ refl stood.1)) in
    let followed = subst (λ (e : Entries). AreFollowed g.P.Player.at g.P.Player.spare v p text n from c.follow_entries.new.follow opened first last (g.K.Keeper.holds c.follow_entries.new.keeper p) e) c.in-WrongAfter.is (c.in_ok-entries.ensures from opened first begun) in
    followed

pub overflow_add-result : goal.overflow_add-result
overflow_add-result g c =
    let few : c.args.from.lines ≤ c.args.from.length = right-short c.args.version c.args.setup.now c.args.text.now c.args.group.0 c.args.from c.requires.before.0 (counters g.T.TraceTool.tool c.args.bus.now) c.requires.before.1.right in
    let within : c.args.from.length ≤ length c.args.text.now = c.requires.before.1.right.within in
    search rules

pub overflow_add-result-in-WrongAfter : goal.overflow_add-result-in-WrongAfter
overflow_add-result-in-WrongAfter g c =
    let few : c.args.from.lines ≤ c.args.from.length = right-short c.args.version c.args.setup.now c.args.text.now c.args.group.0 c.args.from c.requires.before.0 (counters g.T.TraceTool.tool c.args.bus.now) c.requires.before.1.right in
    let within : c.args.from.length ≤ length c.args.text.now = c.requires.before.1.right.within in
    search rules

pub slice_bounds-begins-count : goal.slice_bounds-begins-count
slice_bounds-begins-count g c = c.requires.before.1.right.within
