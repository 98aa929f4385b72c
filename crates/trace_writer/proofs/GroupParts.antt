-- The parts of a group's text as they are written, and what was counted as its steps were taken.
use Rattle.std.proofs.Common.{◌≡◌, ◌≤◌, ℕ, List, [], ◌++◌, length, map, refl, sym, ap, subst, ◌∙◌, arith}
use Rattle.std.proofs.lemmas.Grind.{flat_map-append}
use Rattle.rt_base.specs.declared.CpuNo.{CpuNo}
use Rattle.rt_base.specs.declared.TheConstants.{MOST_STEPS}
use Rattle.rt_task.specs.declared.Parts.{Parts}
use Rattle.rt_rules.specs.declared.history.Entry.{Entry}
use Rattle.rt_model.specs.Group.{Group, group_processors}
use Rattle.rt_model.specs.Histories.{past_from, past_of}
use Rattle.rt_model.specs.Past.{Past}
use Rattle.rt_plays.specs.Order.{history}
use Rattle.rt_plays.specs.Plays.{group_with}
use Rattle.rt_plays.specs.Groups.{GroupHistory, group_of, past}
use Rattle.rt_changes.specs.Tallies.{tallies}
use Rattle.block_counts.specs.declared.seen.Seen.{Seen}
use Rattle.block_counts.specs.SeenWords.{tallies_of}
use Rattle.set_plays.specs.declared.group_steps.GroupSteps.{GroupSteps}
use Rattle.set_plays.specs.declared.steps_left.StepsLeft.{StepsLeft}
use Rattle.set_plays.specs.GroupSteps.{group_told, steps_of}
use Rattle.set_plays.specs.StepsLeft.{AreOf, AreReady, room_of}
use Rattle.set_plays.proofs.ScriptLaws.{length-history}
use Rattle.trace_lines.specs.Grammar.{line_text}
use Rattle.trace_lines.specs.Known.{Known}
use Rattle.trace_lines.specs.Lines.{group_line, links_of}
use Rattle.trace_lines.specs.declared.links.CpuLink.{CpuLink}
use Rattle.trace_text.specs.CountLines.{shown_entries}
use Rattle.trace_text.specs.Groups.{request_line}
use Rattle.trace_text.specs.TraceText.{block_lines, entry_lines, group_lines, links_at}
use Rattle.trace_text.proofs.LineLaws.{past_none, request_lines, texts}
use Rattle.trace_writer.specs.Replays.{ShowsLinks, HasPlayed, ahead}
use Rattle.trace_writer.proofs.CameLaws.{HasParts}
use Rattle.trace_writer.proofs.Stepping.{lines_ahead}

-- the text of a group, and its parts: its line, those of its entries, and those of its requests
module _ (k : Known) (g : Group) where
  abbrev pub text_of : List Entry → List ℕ
  text_of es = texts k (group_lines g es)

  abbrev pub line_of : List ℕ
  line_of = line_text k (group_line g.number (links_at g [] (group_processors g)))

  abbrev pub entries_of : List Entry → List ℕ
  entries_of es = texts k (entry_lines g 0 [] es)

  abbrev pub blocks_of : List Entry → List ℕ
  blocks_of es = texts k (block_lines g (past_of g es))

  -- as they are written
  pub group-parts : (es : List Entry) (one two three : List ℕ) → one ≡ line_of → two ≡ entries_of es → three ≡ blocks_of es → HasParts (text_of es) one two three
  unfolding group_lines
  group-parts es one two three line entries blocks =
      record { parts_are = rw (line, entries, blocks) (ap (λ xs. line_of ++ xs) (flat_map-append (line_text k) (entry_lines g 0 [] es) (block_lines g (past_of g es)))) }

-- ---- a group of which no step was played yet

-- it is opened with room for these steps, all of which are left
pub record IsOpened (p : Parts) (n : ℕ) (x : GroupSteps) (r : GroupHistory) (left : StepsLeft) (room : ℕ) : Type 0 where
  pub opened : r ≡ record { setup = p; group = n; entries = []; spare = room }
  pub room_is : room ≡ room_of left
  pub ready : AreReady (group_with p n) (steps_of (group_with p n) x) left

pub opening : {p : Parts} {n : ℕ} {r : GroupHistory} {left : StepsLeft} {room : ℕ} (x : GroupSteps) → r ≡ record { setup = p; group = n; entries = []; spare = room } → room ≡ room_of left
    → AreReady (group_with p n) (steps_of (group_with p n) x) left → IsOpened p n x r left room
opening x opened room_is ready = record { opened = opened; room_is = room_is; ready = ready }

module _ {p : Parts} {n : ℕ} {x : GroupSteps} {r : GroupHistory} {left : StepsLeft} {room : ℕ} (o : IsOpened p n x r left room) where
  pub of-opened : AreOf (group_of r) left
  of-opened = subst (λ (g : Group). AreOf g left) (sym (ap group_of o.opened)) o.ready.of

  past-opened : past r ≡ []
  past-opened = ap past o.opened ∙ past_none (group_with p n)

  -- all its entries are ahead
  pub ahead-opened : ahead (group_of r) left (past r) ≡ group_told p n x
  ahead-opened =
      ap (λ (g : Group). ahead g left (past r)) (ap group_of o.opened) ∙ ap (ahead (group_with p n) left) past-opened
      ∙ ap (history (group_with p n) []) o.ready.steps_are

  told-few : length (group_told p n x) ≤ room_of left
  told-few = (let count = length-history (group_with p n) [] (steps_of (group_with p n) x) in omega (arith, count, o.ready.enough))

  pub few-told : length (group_told p n x) ≤ MOST_STEPS
  few-told = omega (arith, told-few, o.ready.few)

  pub few-opened : r.spare ≤ MOST_STEPS
  few-opened = omega (arith, ap (λ (h : GroupHistory). h.spare) o.opened, o.room_is, o.ready.few)

  pub room-opened : length (ahead (group_of r) left (past r)) ≤ r.spare
  room-opened = omega (arith, ap length ahead-opened, told-few, ap (λ (h : GroupHistory). h.spare) o.opened, o.room_is)

  -- its line
  pub line-opened : (k : Known) (qs : List CpuNo) (links shown : List CpuLink) → shown ≡ links → ShowsLinks r qs links → line_text k (group_line n (links_of shown)) ≡ line_of k (group_with p n)
  line-opened k qs links shown same shows =
      let there : links_of shown ≡ links_at (group_with p n) [] (group_processors (group_with p n)) =
      ap links_of same ∙ shows.links_are ∙ ap (λ (z : Past). links_at (group_of r) z (group_processors (group_of r))) past-opened
      ∙ ap (λ (g : Group). links_at g [] (group_processors g)) (ap group_of o.opened) in
      rw there refl

  -- the lines of its entries, and what a bus is shown of them
  pub lines-opened : (k : Known) → lines_ahead k (group_of r) 0 left (past r) ≡ entries_of k (group_with p n) (group_told p n x)
  lines-opened k =
      ap (λ (es : List Entry). texts k (entry_lines (group_of r) 0 (past r) es)) ahead-opened ∙ ap (λ (z : Past). texts k (entry_lines (group_of r) 0 z (group_told p n x))) past-opened
      ∙ ap (λ (g : Group). texts k (entry_lines g 0 [] (group_told p n x))) (ap group_of o.opened)

  pub shown-opened : shown_entries (group_of r) 0 (past r) (ahead (group_of r) left (past r)) ≡ shown_entries (group_with p n) 0 [] (group_told p n x)
  shown-opened =
      ap (shown_entries (group_of r) 0 (past r)) ahead-opened ∙ ap (λ (z : Past). shown_entries (group_of r) 0 z (group_told p n x)) past-opened
      ∙ ap (λ (g : Group). shown_entries g 0 [] (group_told p n x)) (ap group_of o.opened)

  -- the requests that were counted as its steps were taken
  pub tallies-played : (now : GroupHistory) (seen : List Seen) → HasPlayed r now (ahead (group_of r) left (past r)) → tallies_of seen ≡ tallies (group_of now) (past now)
      → tallies_of seen ≡ tallies (group_with p n) (past_of (group_with p n) (group_told p n x))
  unfolding past_of
  tallies-played now seen played are =
      let past_is : past now ≡ past_of (group_with p n) (group_told p n x) =
      played.past_is ∙ ap (past_from (group_of r) (past r)) ahead-opened ∙ ap (λ (z : Past). past_from (group_of r) z (group_told p n x)) past-opened
      ∙ ap (λ (g : Group). past_from g [] (group_told p n x)) (ap group_of o.opened) in
      are ∙ ap (λ (g : Group). tallies g (past now)) (played.group_is ∙ ap group_of o.opened) ∙ ap (tallies (group_with p n)) past_is

  pub blocks-played : (k : Known) (now : GroupHistory) (seen : List Seen) → HasPlayed r now (ahead (group_of r) left (past r)) → tallies_of seen ≡ tallies (group_of now) (past now)
      → texts k (map request_line (tallies_of seen)) ≡ blocks_of k (group_with p n) (group_told p n x)
  blocks-played k now seen played are =
      ap (texts k) (ap (map request_line) (tallies-played now seen played are) ∙ sym (request_lines (group_with p n) (past_of (group_with p n) (group_told p n x))))
