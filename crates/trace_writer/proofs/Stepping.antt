-- One more of the steps that are left: its entry, its line, and what a bus is shown.
use Rattle.std.proofs.Common.{◌≡◌, ℕ, ◌+◌, ◌<◌, ◌≤◌, List, [], ◌∷◌, ◌++◌, length, map, refl, sym, ap, subst, ◌∙◌, arith}
use Rattle.rt_task.specs.declared.Step.{Step}
use Rattle.rt_rules.specs.declared.history.Entry.{Entry}
use Rattle.rt_rules.specs.declared.history.Reply.{Reply}
use Rattle.rt_model.specs.Group.{Group}
use Rattle.rt_model.specs.Histories.{after, changed, past_from, reply_to}
use Rattle.rt_model.specs.Past.{Past}
use Rattle.rt_plays.specs.Order.{history}
use Rattle.rt_plays.specs.Groups.{GroupHistory, group_of, past}
use Rattle.set_plays.specs.declared.steps_left.StepsLeft.{StepsLeft}
use Rattle.set_plays.specs.StepsLeft.{AreOf, steps_left}
use Rattle.trace_lines.specs.Grammar.{line_text}
use Rattle.trace_lines.specs.Known.{Known}
use Rattle.trace_lines.specs.Lines.{Link, entry_line}
use Rattle.trace_tools.specs.Counters.{Counter, counter_after, counters_after}
use Rattle.trace_text.specs.CountLines.{shown_as, shown_entries}
use Rattle.trace_text.specs.TraceText.{entry_lines, links_at}
use Rattle.trace_text.proofs.LineLaws.{texts}
use Rattle.trace_writer.specs.Replays.{HasPlayed, HasTaken, ahead}

-- the texts of the entries that are left, from number i on, and what a bus is shown of them
abbrev pub lines_ahead : Known → Group → ℕ → StepsLeft → Past → List ℕ
lines_ahead k g i left was = texts k (entry_lines g i was (ahead g left was))

abbrev pub counters_ahead : Group → ℕ → StepsLeft → Past → List Counter → List Counter
counters_ahead g i left was before = counters_after (shown_entries g i was (ahead g left was)) before

-- the line of the first of them, and what a bus is shown of it
lines-next : (k : Known) (g : Group) (i : ℕ) (was now : Past) (e : Entry) (es more : List Entry) (shown : List Link) → es ≡ e ∷ more → now ≡ after g e.step was → shown ≡ links_at g now (changed g was now)
    → texts k (entry_lines g i was es) ≡ line_text k (entry_line i e shown) ++ texts k (entry_lines g (i + 1) now more)
unfolding entry_lines
lines-next k g i was now e es more shown next stepped links = rw (links, next, stepped) refl

counters-next : (g : Group) (i : ℕ) (was now : Past) (e : Entry) (es more : List Entry) (before fed : List Counter) → es ≡ e ∷ more → now ≡ after g e.step was → fed ≡ map (counter_after (shown_as g i e now)) before
    → counters_after (shown_entries g (i + 1) now more) fed ≡ counters_after (shown_entries g i was es) before
unfolding shown_entries
counters-next g i was now e es more before fed next stepped shown = rw (shown, next, stepped) refl

-- ---- a group that plays

-- from the history `old`, whose steps come to `all`, it has come to `now`, and these steps are left
pub record IsPlaying (old now : GroupHistory) (left : StepsLeft) (i : ℕ) (all : List Entry) : Type 0 where
  pub same_group : group_of now ≡ group_of old
  pub of : AreOf (group_of old) left
  pub count : i + now.spare ≡ old.spare
  pub so_far : i + length (ahead (group_of old) left (past now)) ≡ length all
  pub room : length (ahead (group_of old) left (past now)) ≤ now.spare
  pub past_is : past_from (group_of old) (past now) (ahead (group_of old) left (past now)) ≡ past_from (group_of old) (past old) all

pub playing-first : (old : GroupHistory) (left : StepsLeft) → AreOf (group_of old) left → length (ahead (group_of old) left (past old)) ≤ old.spare → IsPlaying old old left 0 (ahead (group_of old) left (past old))
playing-first old left of room = record { same_group = refl; of = of; count = omega arith; so_far = omega arith; room = room; past_is = refl }

-- an engine that is lent shows the group and the history that play
pub lent-group : {old now x : GroupHistory} {left : StepsLeft} {i : ℕ} {all : List Entry} → IsPlaying old now left i all → x ≡ now → group_of x ≡ group_of old
lent-group playing lent = ap group_of lent ∙ playing.same_group

pub lent-of : {old now x : GroupHistory} {left : StepsLeft} {i : ℕ} {all : List Entry} → IsPlaying old now left i all → x ≡ now → AreOf (group_of x) left
lent-of {left = left} playing lent = subst (λ (g : Group). AreOf g left) (sym (lent-group playing lent)) playing.of

-- ---- the next step

-- the engine that is lent is asked for it, and then others are left
pub record IsTaking (old now x : GroupHistory) (left left' : StepsLeft) (i : ℕ) (all : List Entry) (s : Step) : Type 0 where
  pub playing : IsPlaying old now left i all
  pub lent : x ≡ now
  pub next : steps_left (group_of x) left (past x) ≡ s ∷ steps_left (group_of x) left' (after (group_of x) s (past x))
  pub of : AreOf (group_of x) left'

pub taking : {old now x : GroupHistory} {left : StepsLeft} {i : ℕ} {all : List Entry} (left' : StepsLeft) (s : Step) → IsPlaying old now left i all → x ≡ now
    → steps_left (group_of x) left (past x) ≡ s ∷ steps_left (group_of x) left' (after (group_of x) s (past x)) → AreOf (group_of x) left' → IsTaking old now x left left' i all s
taking left' s playing lent next of = record { playing = playing; lent = lent; next = next; of = of }

module _ {old now x : GroupHistory} {left left' : StepsLeft} {i : ℕ} {all : List Entry} {s : Step} (t : IsTaking old now x left left' i all s) where
  next-here : steps_left (group_of old) left (past now) ≡ s ∷ steps_left (group_of old) left' (after (group_of old) s (past now))
  next-here =
      let here = subst (λ (h : GroupHistory). steps_left (group_of h) left (past h) ≡ s ∷ steps_left (group_of h) left' (after (group_of h) s (past h))) t.lent t.next in
      subst (λ (g : Group). steps_left g left (past now) ≡ s ∷ steps_left g left' (after g s (past now))) t.playing.same_group here

  -- its entry, and those behind it
  ahead-next : ahead (group_of old) left (past now) ≡ record { step = s; reply = reply_to (group_of old) s (past now) } ∷ ahead (group_of old) left' (after (group_of old) s (past now))
  unfolding history
  ahead-next = ap (history (group_of old) (past now)) next-here

  pub room-next : 0 < now.spare
  room-next = omega (arith, ap length ahead-next, t.playing.room)

  module _ {h : GroupHistory} {r : Reply} (taken : HasTaken now h s r) where
    stepped : past h ≡ after (group_of old) s (past now)
    stepped = taken.past_is ∙ ap (λ (g : Group). after g s (past now)) t.playing.same_group

    entry-next : ahead (group_of old) left (past now) ≡ record { step = s; reply = r } ∷ ahead (group_of old) left' (past h)
    entry-next =
        let told : r ≡ reply_to (group_of old) s (past now) = taken.reply_is ∙ ap (λ (g : Group). reply_to g s (past now)) t.playing.same_group in
        ahead-next ∙ ap (λ (y : Reply). record { step = s; reply = y } ∷ ahead (group_of old) left' (after (group_of old) s (past now))) (sym told)
        ∙ ap (λ (p : Past). record { step = s; reply = r } ∷ ahead (group_of old) left' p) (sym stepped)

    pub same-next : group_of h ≡ group_of old
    same-next = taken.group_is ∙ t.playing.same_group

    pub playing-next : IsPlaying old h left' (i + 1) all
    unfolding past_from
    playing-next =
        let some = room-next in
        record {
          same_group = same-next;
          of = subst (λ (g : Group). AreOf g left') (lent-group t.playing t.lent) t.of;
          count = omega (arith, t.playing.count, taken.spare_is, some);
          so_far = omega (arith, t.playing.so_far, ap length entry-next);
          room = omega (arith, ap length entry-next, t.playing.room, taken.spare_is);
          past_is =
              ap (λ (p : Past). past_from (group_of old) p (ahead (group_of old) left' (past h))) stepped
              ∙ sym (ap (past_from (group_of old) (past now)) entry-next) ∙ t.playing.past_is;
        }

    -- its line, with the links that it changed
    pub line-next : (k : Known) (shown : List Link) → shown ≡ links_at (group_of now) (past h) (changed (group_of now) (past now) (past h))
        → lines_ahead k (group_of old) i left (past now) ≡ line_text k (entry_line i (record { step = s; reply = r }) shown) ++ lines_ahead k (group_of old) (i + 1) left' (past h)
    line-next k shown links =
        lines-next k (group_of old) i (past now) (past h) (record { step = s; reply = r }) (ahead (group_of old) left (past now)) (ahead (group_of old) left' (past h)) shown entry-next stepped
        (links ∙ ap (λ (g : Group). links_at g (past h) (changed g (past now) (past h))) t.playing.same_group)

    -- the bus is shown its entry, by the engine that is lent then
    pub shown-next : {y : GroupHistory} (before fed : List Counter) → y ≡ h → fed ≡ map (counter_after (shown_as (group_of y) i (record { step = s; reply = r }) (past y))) before
        → counters_ahead (group_of old) (i + 1) left' (past h) fed ≡ counters_ahead (group_of old) i left (past now) before
    shown-next before fed lent shown =
        let e : Entry = record { step = s; reply = r } in
        counters-next (group_of old) i (past now) (past h) e (ahead (group_of old) left (past now)) (ahead (group_of old) left' (past h)) before fed entry-next stepped
        (shown ∙ ap (λ (z : GroupHistory). map (counter_after (shown_as (group_of z) i e (past z))) before) lent ∙ ap (λ (g : Group). map (counter_after (shown_as g i e (past h))) before) same-next)

-- ---- no step is left

module _ {old now x : GroupHistory} {left : StepsLeft} {i : ℕ} {all : List Entry} (playing : IsPlaying old now left i all) (lent : x ≡ now) (none : steps_left (group_of x) left (past x) ≡ []) where
  ahead-end : ahead (group_of old) left (past now) ≡ []
  unfolding history
  ahead-end =
      let here = subst (λ (h : GroupHistory). steps_left (group_of h) left (past h) ≡ []) lent none in
      ap (history (group_of old) (past now)) (subst (λ (g : Group). steps_left g left (past now) ≡ []) playing.same_group here)

  pub playing-end : HasPlayed old now all
  unfolding past_from
  playing-end = record { group_is = playing.same_group; past_is = sym (ap (past_from (group_of old) (past now)) ahead-end) ∙ playing.past_is }

  pub count-end : i ≡ length all
  count-end = omega (arith, playing.so_far, ap length ahead-end)

  pub lines-end : (k : Known) → lines_ahead k (group_of old) i left (past now) ≡ []
  unfolding entry_lines
  lines-end k = ap (λ (es : List Entry). texts k (entry_lines (group_of old) i (past now) es)) ahead-end

  pub shown-end : (before : List Counter) → counters_ahead (group_of old) i left (past now) before ≡ before
  unfolding shown_entries
  shown-end before = ap (λ (es : List Entry). counters_after (shown_entries (group_of old) i (past now) es) before) ahead-end
