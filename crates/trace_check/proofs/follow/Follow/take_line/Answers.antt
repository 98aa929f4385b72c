use Rattle.std.proofs.Common.{◌≡◌, ◌+◌, ◌≤◌, ℕ, List, ◌++◌, None, Some, Option, drop, length, rules, refl, sym, ap, ◌∙◌, subst}
use Rattle.rt_base.specs.declared.TheConstants.{MOST_STEPS}
use Rattle.rt_task.specs.declared.Step.{Step}
use Rattle.rt_rules.specs.declared.history.Entry.{Entry}
use Rattle.rt_model.specs.Group.{Group}
use Rattle.rt_model.specs.Histories.{after, changed, past_of, reply_to}
use Rattle.rank_afresh.specs.Standing.{group_of}
use Rattle.trace_lines.specs.Grammar.{line_text}
use Rattle.trace_lines.specs.Known.{known_of}
use Rattle.trace_lines.specs.Lines.{entry_line, links_of}
use Rattle.trace_text.specs.Groups.{cpu_numbers}
use Rattle.trace_text.specs.TraceText.{links_at}
use Rattle.trace_course.specs.Courses.{HasGone}
use Rattle.trace_check.specs.declared.follow.Follow.{Follow}
use Rattle.trace_check.specs.inside.GroupLinks.{HaveChanged}
use Rattle.rt_plays.specs.Turns.{is_tick}
use Rattle.trace_read.specs.Movers.{mover_of}
use Rattle.trace_read.specs.declared.mover.Mover.{Mover}
use Rattle.trace_read.proofs.TellLaws.{valid-tells}
use Rattle.trace_course.specs.Followed.{GroupEntries, IsNextStep}
use Rattle.trace_check.proofs.Accepting.{can-take, can_step, count-low, can-read, entry-same, following-next, line-same, same-mover, same-step, says-tick}
use Rattle.trace_check.proofs.follow.Follow.take_line.Goals as goal

-- the line's processor, and whether it is a Tick, tell its step
said-step : (at : GroupEntries) (m : Mover) (o : Option Step) (e : Entry) → Some m ≡ Some (mover_of e.step)
    → ((s : Step) → IsNextStep at.group at.entries s → s.cpu ≡ m.cpu → is_tick s.act ≡ m.is_tick → o ≡ Some s)
    → IsNextStep at.group at.entries e.step → o ≡ Some e.step
said-step at m o e told next here =
    let same = same-mover m (mover_of e.step) told in
    next e.step here (ap (λ (x : Mover). x.cpu) (sym same)) (says-tick e.step.act ∙ ap (λ (x : Mover). x.is_tick) (sym same))

pub returns-in_default : goal.returns-in_default
returns-in_default g c = λ at fw i e links more known here next.
    let v = c.args.version in
    let some : c.mover_at.result ≡ Some (mover_of e.step) = c.mover_at.ensures (known_of v at.group.setup) i e links more (valid-tells v at.group.setup fw.following.valid) known here in
    let none : c.mover_at.result ≡ None = c.in_default.is in
    cc

pub returns-in_default-take_next : goal.returns-in_default-take_next
returns-in_default-take_next g c = λ at fw i e links more known here next.
    let v = c.args.version in
    let some : c.mover_at.result ≡ Some (mover_of e.step) = c.mover_at.ensures (known_of v at.group.setup) i e links more (valid-tells v at.group.setup fw.following.valid) known here in
    let said = said-step at c.in-Some.mover c.take_next.result e (sym c.in-Some.is ∙ some) (λ s. c.take_next.ensures.next at s (can-take g.P.Player.at g.P.Player.spare at c.args.setup.now c.args.self.now c.afresh.result.now fw c.afresh.ensures.at c.afresh.ensures.group)) next.next in
    let none : c.take_next.result ≡ None = c.in_default-take_next.is in
    cc

pub step-requires : goal.step-requires
step-requires g c =
    let at = c.requires.0 in
    let fw = c.requires.1 in
    let gone = c.take_next.ensures.taken at c.in-Some-take_next.step (can-take g.P.Player.at g.P.Player.spare at c.args.setup.now c.args.self.now c.afresh.result.now fw c.afresh.ensures.at c.afresh.ensures.group) c.in-Some-take_next.is in
    (at, can_step g.P.Player.at g.P.Player.spare at c.args.setup.now c.args.self.now fw c.in-Some-take_next.step gone.next c.take_next.new.self)

pub update-requires : goal.update-requires
update-requires g c =
    let at = c.requires.0 in
    let fw = c.requires.1 in
    let step = c.in-Some-take_next.step in
    let past = past_of at.group at.entries in
    let gone = c.take_next.ensures.taken at step (can-take g.P.Player.at g.P.Player.spare at c.args.setup.now c.args.self.now c.afresh.result.now fw c.afresh.ensures.at c.afresh.ensures.group) c.in-Some-take_next.is in
    let can = can_step g.P.Player.at g.P.Player.spare at c.args.setup.now c.args.self.now fw step gone.next c.take_next.new.self in
    let gone_on = c.in_ok-reply.ensures.at at can in (
      past,
      step,
      can-read g.P.Player.at g.P.Player.spare at c.args.setup.now c.args.self.now fw step gone.next _ _
          (c.afresh-2.ensures.group at.group (after at.group step past) gone_on)
          (ap (λ (f : Follow g.row.P.Denot). f.links) c.in_ok-reply.ensures.others)
          (c.afresh-2.ensures.at at.group (after at.group step past) gone_on),
    )

pub returns-then-not-begins_with : goal.returns-then-not-begins_with
returns-then-not-begins_with g c = λ at fw i e links more known here next.
    let p = c.args.setup.now in
    let v = c.args.version in
    let step = c.in-Some-take_next.step in
    let past = past_of at.group at.entries in
    let gone = c.take_next.ensures.taken at step (can-take g.P.Player.at g.P.Player.spare at p c.args.self.now c.afresh.result.now fw c.afresh.ensures.at c.afresh.ensures.group) c.in-Some-take_next.is in
    let can = can_step g.P.Player.at g.P.Player.spare at p c.args.self.now fw step gone.next c.take_next.new.self in
    let gone_on = c.in_ok-reply.ensures.at at can in
    let is : group_of c.afresh-2.result.now ≡ at.group = c.afresh-2.ensures.group at.group (after at.group step (past_of at.group at.entries)) gone_on in
    let read = can-read g.P.Player.at g.P.Player.spare at p c.args.self.now fw step gone.next _ _ is (ap (λ (f : Follow g.row.P.Denot). f.links) c.in_ok-reply.ensures.others) (c.afresh-2.ensures.at at.group (after at.group step (past_of at.group at.entries)) gone_on) in
    let now : HaveChanged at.group past step c.update.new.self = subst (λ (g : Group). HaveChanged g past step c.update.new.self) is (c.in_ok-update.ensures _ step read) in
    let some : c.mover_at.result ≡ Some (mover_of e.step) = c.mover_at.ensures (known_of v at.group.setup) i e links more (valid-tells v at.group.setup fw.following.valid) known here in
    let said = said-step at c.in-Some.mover c.take_next.result e (sym c.in-Some.is ∙ some) (λ s. c.take_next.ensures.next at s (can-take g.P.Player.at g.P.Player.spare at p c.args.self.now c.afresh.result.now fw c.afresh.ensures.at c.afresh.ensures.group)) next.next in
    let same : e.step ≡ step = same-step e.step step (sym said ∙ c.in-Some-take_next.is) in
    let reply = next.reply_is ∙ ap (λ (s : Step). reply_to at.group s past) same ∙ sym (c.in_ok-reply.ensures.reply at can) in
    let shown : links ≡ links_of c.changed.result.now =
    next.links_are ∙ ap (λ (s : Step). links_at at.group (after at.group s past) (changed at.group past (after at.group s past))) same ∙ sym (ap links_of c.changed.ensures ∙ now.changed_are) in
    let number : i ≡ c.step.new.self.count = next.number ∙ sym fw.following.count_is ∙ sym (ap (λ (f : Follow g.row.P.Denot). f.count) c.in_ok-reply.ensures.others) in
    let line : line_text (known_of v at.group.setup) (entry_line i e links) ≡ c.as_slice.result.now =
    line-same v p at.group.setup i _ e (record { step = step; reply = c.in_ok-reply.reply }) links _ fw.setup_is number (entry-same e step c.in_ok-reply.reply same reply) shown
    ∙ sym c.in_ok-make_entry_line.ensures ∙ sym c.as_slice.ensures.value in
    c.begins_with.ensures.no c.if-not-begins_with.true more (here ∙ ap (λ (xs : List ℕ). xs ++ more) line)

pub look-requires : goal.look-requires
look-requires g c =
    let at = c.requires.0 in
    let fw = c.requires.1 in
    let step = c.in-Some-take_next.step in
    let gone = c.take_next.ensures.taken at c.in-Some-take_next.step (can-take g.P.Player.at g.P.Player.spare at c.args.setup.now c.args.self.now c.afresh.result.now fw c.afresh.ensures.at c.afresh.ensures.group) c.in-Some-take_next.is in
    let can = can_step g.P.Player.at g.P.Player.spare at c.args.setup.now c.args.self.now fw step gone.next c.take_next.new.self in
    let gone_on = c.in_ok-reply.ensures.at at can in
    let is : group_of c.afresh-2.result.now ≡ at.group = c.afresh-2.ensures.group at.group (after at.group step (past_of at.group at.entries)) gone_on in
    let read = can-read g.P.Player.at g.P.Player.spare at c.args.setup.now c.args.self.now fw step gone.next _ _ is (ap (λ (f : Follow g.row.P.Denot). f.links) c.in_ok-reply.ensures.others) (c.afresh-2.ensures.at at.group (after at.group step (past_of at.group at.entries)) gone_on) in
    let now : HaveChanged at.group (past_of at.group at.entries) step c.update.new.self = subst (λ (g : Group). HaveChanged g (past_of at.group at.entries) step c.update.new.self) is (c.in_ok-update.ensures _ step read) in (
      at,
      step,
      record {
        setup_is = fw.setup_is;
        group_is = c.afresh-3.ensures.group at.group (after at.group step (past_of at.group at.entries)) gone_on;
        stands = c.afresh-3.ensures.at at.group (after at.group step (past_of at.group at.entries)) gone_on;
        cpus_are = ap cpu_numbers c.cpus.ensures ∙ now.links_are.cpus_are;
      },
    )

pub overflow_add-self : goal.overflow_add-self
overflow_add-self g c =
    let at = c.requires.0 in
    let fw = c.requires.1 in
    let gone = c.take_next.ensures.taken at c.in-Some-take_next.step (can-take g.P.Player.at g.P.Player.spare at c.args.setup.now c.args.self.now c.afresh.result.now fw c.afresh.ensures.at c.afresh.ensures.group) c.in-Some-take_next.is in
    let low : c.args.self.now.count + 1 ≤ MOST_STEPS = count-low g.P.Player.at g.P.Player.spare at c.args.setup.now c.args.self.now fw c.in-Some-take_next.step gone.next in
    let same : c.step.new.self.count ≡ c.args.self.now.count = ap (λ (f : Follow g.row.P.Denot). f.count) c.in_ok-reply.ensures.others in
    search rules

pub returns : goal.returns
returns g c = λ at fw.
    let p = c.args.setup.now in
    let v = c.args.version in
    let step = c.in-Some-take_next.step in
    let past = past_of at.group at.entries in
    let gone = c.take_next.ensures.taken at step (can-take g.P.Player.at g.P.Player.spare at p c.args.self.now c.afresh.result.now fw c.afresh.ensures.at c.afresh.ensures.group) c.in-Some-take_next.is in
    let can = can_step g.P.Player.at g.P.Player.spare at p c.args.self.now fw step gone.next c.take_next.new.self in
    let gone_on = c.in_ok-reply.ensures.at at can in
    let is : group_of c.afresh-2.result.now ≡ at.group = c.afresh-2.ensures.group at.group (after at.group step (past_of at.group at.entries)) gone_on in
    let read = can-read g.P.Player.at g.P.Player.spare at p c.args.self.now fw step gone.next _ _ is (ap (λ (f : Follow g.row.P.Denot). f.links) c.in_ok-reply.ensures.others) (c.afresh-2.ensures.at at.group (after at.group step (past_of at.group at.entries)) gone_on) in
    let now : HaveChanged at.group past step c.update.new.self = subst (λ (g : Group). HaveChanged g past step c.update.new.self) is (c.in_ok-update.ensures _ step read) in
    let kept : c.step.new.self.course ≡ c.take_next.new.self = ap (λ (f : Follow g.row.P.Denot). f.course) c.in_ok-reply.ensures.others in
    let made : Entry = record { step = step; reply = c.in_ok-reply.reply } in
    let number : length at.entries ≡ c.step.new.self.count = sym fw.following.count_is ∙ sym (ap (λ (f : Follow g.row.P.Denot). f.count) c.in_ok-reply.ensures.others) in
    record {
      following = following-next g.P.Player.at g.P.Player.spare at p c.args.self.now fw step gone.next made _ refl (c.in_ok-reply.ensures.reply at can) (record {
        spare_less = c.in_ok-reply.ensures.room;
        at_after = gone_on;
        count_more = ap (λ (f : Follow g.row.P.Denot). f.count + 1) c.in_ok-reply.ensures.others;
        links_after = now.links_are;
        course_after = c.look.ensures at step (record {
          setup_is = fw.setup_is;
          group_is = c.afresh-3.ensures.group at.group (after at.group step past) gone_on;
          stands = c.afresh-3.ensures.at at.group (after at.group step past) gone_on;
          cpus_are = ap cpu_numbers c.cpus.ensures ∙ now.links_are.cpus_are;
        }) (subst (HasGone at step) (sym kept) gone);
      });
      line_is =
          c.in_ok-make_entry_line.ensures
          ∙ sym (line-same v p at.group.setup (length at.entries) _ made made (links_at at.group (after at.group step past) (changed at.group past (after at.group step past))) _ fw.setup_is number refl
          (sym (ap links_of c.changed.ensures ∙ now.changed_are)));
      begins = subst (λ (xs : List ℕ). c.args.text.now ≡ xs ++ drop (length xs) c.args.text.now) c.as_slice.ensures.value (c.begins_with.ensures.yes c.if-not-begins_with.false);
    }
