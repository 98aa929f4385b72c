use Rattle.std.proofs.Common.{ℕ, ◌+◌, ◌≤◌, List, [], ◌∷◌, ◌++◌, Option, drop, length, map, rules, refl, sym, ap, ◌∙◌, subst, arith}
use Rattle.rt_rules.specs.declared.history.Entry.{Entry}
use Rattle.rt_model.specs.Histories.{past_of}
use Rattle.trace_lines.specs.Known.{known_of}
use Rattle.trace_tools.specs.declared.shown.Shown.{Shown}
use Rattle.trace_tools.specs.BusCounters.{counters}
use Rattle.trace_tools.specs.Counters.{counter_after}
use Rattle.trace_text.specs.CountLines.{shown_as}
use Rattle.trace_read.specs.Reading.{begins_with_digit}
use Rattle.trace_course.specs.Followed.{GroupEntries}
use Rattle.trace_check.specs.declared.verdict.Verdict.TheVariants.{Invalid}
use Rattle.trace_check.specs.inside.Following.{HasTaken}
use Rattle.trace_check.specs.inside.GroupLines.{next_line}
use Rattle.trace_check.specs.inside.Judging.{IsJudged}
use Rattle.trace_check.specs.inside.Progress.{IsRight}
use Rattle.trace_check.proofs.FirstLetters.{no-entry}
use Rattle.trace_check.proofs.Judging.{followed-with, none-taken-there, position_at, refused-there, taken-rest, taken-right}
use Rattle.trace_check.proofs.TextPositions.{line-some, rest-of, taken-inside}
use Rattle.trace_check.proofs.group.follow_entries.Goals as goal

pub entries-init : goal.entries-init
entries-init g c = (c.requires.3.within, λ from opened was right. right)

pub take_line-requires : goal.take_line-requires
take_line-requires g c =
    let v = c.args.version in
    let p = c.args.setup.now in
    let right = c.entries.invariant.1 c.requires.0 c.requires.1 c.requires.2 c.requires.3 in
    (position_at v p c.args.text.now right, followed-with v p c.args.text.now right)

pub returns-in_default : goal.returns-in_default
returns-in_default g c = λ from opened was before.
    let v = c.args.version in
    let p = c.args.setup.now in
    let text = c.args.text.now in
    let right = c.entries.invariant.1 from opened was before in
    let at : GroupEntries = position_at v p text right in
    let taken = taken-rest g.P.Player.at g.P.Player.spare at v c.entries.size text c.take_line.new.line.items c.in_ok-entry.field-0 c.take_line.new.self (c.in_ok-entry.ensures at (followed-with v p text right)) in
    let refused = none-taken-there g.P.Player.at g.P.Player.spare at v (drop c.entries.size text) c.take_line.new.line.items c.in_ok-entry.field-0 c.take_line.new.self c.in_default.not-Some taken in
    let digit = ap begins_with_digit (sym (rest-of c.entries.size text)) ∙ sym c.begins_as_entry.ensures ∙ c.entries-test.true in
    subst (λ (n : ℕ). IsJudged v p text (Invalid (from.lines + 1 + n + 3))) (sym c.count-no.ensures)
    (refused-there v p text c.args.group.0 from c.entries.size c.entries.follow opened was (counters g.T.TraceTool.tool c.entries.bus) right refused digit)

pub overflow_add-size : goal.overflow_add-size
overflow_add-size g c =
    let v = c.args.version in
    let p = c.args.setup.now in
    let text = c.args.text.now in
    let right = c.entries.invariant.1 c.requires.0 c.requires.1 c.requires.2 c.requires.3 in
    let at : GroupEntries = position_at v p text right in
    let taken = taken-rest g.P.Player.at g.P.Player.spare at v c.entries.size text c.take_line.new.line.items c.in_ok-entry.field-0 c.take_line.new.self (c.in_ok-entry.ensures at (followed-with v p text right)) in
    let is = subst (λ (o : Option Entry). HasTaken g.P.Player.at g.P.Player.spare at v (drop c.entries.size text) c.take_line.new.line.items o c.take_line.new.self) c.in-Some.is taken in
    let inside : c.entries.size + length c.as_slice.result.now ≤ length text =
    taken-inside text c.take_line.new.line.items c.as_slice.result.now c.entries.size c.entries.invariant.0 is.begins c.as_slice.ensures.value in
    search rules

pub entries-smaller : goal.entries-smaller
entries-smaller g c =
    let v = c.args.version in
    let p = c.args.setup.now in
    let text = c.args.text.now in
    let right = c.entries.invariant.1 c.requires.0 c.requires.1 c.requires.2 c.requires.3 in
    let at : GroupEntries = position_at v p text right in
    let taken = taken-rest g.P.Player.at g.P.Player.spare at v c.entries.size text c.take_line.new.line.items c.in_ok-entry.field-0 c.take_line.new.self (c.in_ok-entry.ensures at (followed-with v p text right)) in
    let is = subst (λ (o : Option Entry). HasTaken g.P.Player.at g.P.Player.spare at v (drop c.entries.size text) c.take_line.new.line.items o c.take_line.new.self) c.in-Some.is taken in
    let inside : c.entries.size + length c.as_slice.result.now ≤ length text =
    taken-inside text c.take_line.new.line.items c.as_slice.result.now c.entries.size c.entries.invariant.0 is.begins c.as_slice.ensures.value in
    omega (arith, inside, line-some (known_of v p) (next_line at.group at.entries c.in-Some.entry), ap length is.line_is, ap length c.as_slice.ensures.value)

pub entries-preserved : goal.entries-preserved
entries-preserved g c =
    let v = c.args.version in
    let p = c.args.setup.now in
    let text = c.args.text.now in
    let now = counters g.T.TraceTool.tool c.entries.bus in
    let first = c.entries.invariant.1 c.requires.0 c.requires.1 c.requires.2 c.requires.3 in
    let there : GroupEntries = position_at v p text first in
    let got = taken-rest g.P.Player.at g.P.Player.spare there v c.entries.size text c.take_line.new.line.items c.in_ok-entry.field-0 c.take_line.new.self (c.in_ok-entry.ensures there (followed-with v p text first)) in
    let said = subst (λ (o : Option Entry). HasTaken g.P.Player.at g.P.Player.spare there v (drop c.entries.size text) c.take_line.new.line.items o c.take_line.new.self) c.in-Some.is got in (
      taken-inside text c.take_line.new.line.items c.as_slice.result.now c.entries.size c.entries.invariant.0 said.begins c.as_slice.ensures.value,
      λ from opened was before.
          let right = c.entries.invariant.1 from opened was before in
          let at : GroupEntries = position_at v p text right in
          let taken = taken-rest g.P.Player.at g.P.Player.spare at v c.entries.size text c.take_line.new.line.items c.in_ok-entry.field-0 c.take_line.new.self (c.in_ok-entry.ensures at (followed-with v p text right)) in
          let is = subst (λ (o : Option Entry). HasTaken g.P.Player.at g.P.Player.spare at v (drop c.entries.size text) c.take_line.new.line.items o c.take_line.new.self) c.in-Some.is taken in
          let longer : GroupEntries = record { group = at.group; entries = at.entries ++ c.in-Some.entry ∷ [] } in
          let fed = c.feed.ensures ∙ ap (λ (s : Shown). map (counter_after s) now) (c.shown.ensures longer is.following refl)
          ∙ ap (λ (n : ℕ). map (counter_after (shown_as at.group n c.in-Some.entry (past_of at.group (at.entries ++ c.in-Some.entry ∷ [])))) now) c.count-no.ensures in
          subst (λ (xs : List ℕ). IsRight g.P.Player.at g.P.Player.spare v p text c.args.group.0 from (c.entries.size + length xs) c.take_line.new.self opened was (counters g.T.TraceTool.tool c.feed.new.self) (g.K.Keeper.holds c.keep.new.self p)) (sym c.as_slice.ensures.value)
          (taken-right v p text c.args.group.0 from c.entries.size c.entries.follow opened was now right c.take_line.new.line.items c.in-Some.entry c.take_line.new.self (counters g.T.TraceTool.tool c.feed.new.self) is fed
          (c.in_ok-keep.ensures p right.before.histories right.entries right.kept)),
    )

pub returns : goal.returns
returns g c = λ from opened was before. (
  c.entries.invariant.1 from opened was before,
  no-entry (known_of c.args.version c.args.setup.now) (drop c.entries.size c.args.text.now)
      (ap begins_with_digit (sym (rest-of c.entries.size c.args.text.now)) ∙ sym c.begins_as_entry.ensures ∙ c.entries-test.false),
)
