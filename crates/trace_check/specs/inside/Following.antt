-- A group's lines, followed step by step, as contracts see it.
use Rattle.std.specs.Prelude.{◌≡◌, ℕ, ◌+◌, ◌<◌, List, [], ◌∷◌, ◌++◌, drop, length, Option, None, Some}
use Rattle.rt_task.specs.declared.Parts.{Parts}
use Rattle.rt_task.specs.declared.Step.{Step}
use Rattle.rt_task.specs.Validity.{IsValid}
use Rattle.rt_rules.specs.declared.history.Entry.{Entry}
use Rattle.rt_model.specs.Group.{Group}
use Rattle.rt_model.specs.Steps.{IsStepOf}
use Rattle.rt_model.specs.Histories.{after, changed, past_of, reply_to}
use Rattle.rt_plays.specs.Groups.{IsGroupOf}
use Rattle.view_replay.specs.Players.{Played}
use Rattle.trace_lines.specs.declared.format.Version.{Version}
use Rattle.trace_lines.specs.Grammar.{line_text}
use Rattle.trace_lines.specs.Known.{IsLine, known_of}
use Rattle.trace_lines.specs.Lines.{Link, entry_line}
use Rattle.trace_text.specs.TraceText.{links_at}
use Rattle.rt_plays.specs.Plays.{IsBegunPlay}
use Rattle.rt_plays.specs.Room.{room}
use Rattle.trace_course.specs.declared.course.Course.{Course}
use Rattle.trace_check.specs.declared.follow.Follow.{Follow}
use Rattle.trace_course.specs.Courses.{IsCourse}
use Rattle.trace_check.specs.inside.GroupLines.{next_line}
use Rattle.trace_check.specs.inside.GroupLinks.{AreLinks}
use Rattle.trace_course.specs.Followed.{IsNextStep, GroupEntries}

-- the entry with its number and links is the one that the line after these entries may say
pub record IsNextEntry (g : Group) (es : List Entry) (no : ℕ) (e : Entry) (links : List Link) : Type 0 where
  pub number : no ≡ length es
  pub next : IsNextStep g es e.step
  pub reply_is : e.reply ≡ reply_to g e.step (past_of g es)
  pub links_are : links ≡ links_at g (after g e.step (past_of g es)) (changed g (past_of g es) (after g e.step (past_of g es)))

-- the text begins with the line of no entry that may come next
abbrev pub NoneIsNext : GroupEntries → Version → List ℕ → Type 0
NoneIsNext at v text = (i : ℕ) (e : Entry) (links : List Link) (more : List ℕ) → IsLine (known_of v at.group.setup) (entry_line i e links)
    → text ≡ line_text (known_of v at.group.setup) (entry_line i e links) ++ more → IsNextEntry at.group at.entries i e links → ⊥

-- by whoever plays their steps
module _ {P : Type 0} (played : P → Played) (spare : P → ℕ) where
  -- these entries of the group were followed
  pub record IsFollowing (g : Group) (es : List Entry) (f : Follow P) : Type 0 where
    pub valid : IsValid g.setup
    pub is_there : IsGroupOf g.setup g.number
    pub begun : IsBegunPlay g es
    pub at : played f.player g (past_of g es)
    pub count_is : f.count ≡ length es
    pub spare_is : spare f.player + length es ≡ room g
    pub links_are : AreLinks g (past_of g es) f.links
    pub course_is : IsCourse g es f.course

  -- they were followed by the group's set
  pub record IsFollowingWith (at : GroupEntries) (p : Parts) (f : Follow P) : Type 0 where
    pub following : IsFollowing at.group at.entries f
    pub setup_is : p ≡ at.group.setup

  -- the step can be answered, whether its processor has gone on by it or not
  pub record CanStep (at : GroupEntries) (p : Parts) (f : Follow P) (step : Step) : Type 0 where
    pub course : Course
    pub following : IsFollowing at.group at.entries (record f { course = course })
    pub of_group : IsStepOf at.group step
    pub room : 0 < spare f.player
    pub setup_is : p ≡ at.group.setup

  -- the entry is the next one, and is followed now; its line was made, and the text begins with it
  pub record IsTaken (at : GroupEntries) (v : Version) (text line : List ℕ) (e : Entry) (f : Follow P) : Type 0 where
    pub following : IsFollowing at.group (at.entries ++ e ∷ []) f
    pub line_is : line ≡ line_text (known_of v at.group.setup) (next_line at.group at.entries e)
    pub begins : text ≡ line ++ drop (length line) text

  -- what comes of taking the next line
  abbrev pub HasTaken : GroupEntries → Version → List ℕ → List ℕ → Option Entry → Follow P → Type 0
  HasTaken at v text line None f = NoneIsNext at v text
  HasTaken at v text line (Some e) f = IsTaken at v text line e f
