-- An entry that is the next one is followed.
use Rattle.std.proofs.Common.{◌≡◌, ◌+◌, ◌≤◌, ℕ, List, [], ◌∷◌, ◌++◌, length, Some, refl, sym, ap, ◌∙◌, subst, arith, length-append}
use Rattle.std.proofs.Math.Seq.{get_or-append_seam}
use Rattle.rt_base.specs.declared.TheConstants.{MOST_STEPS}
use Rattle.rt_task.specs.declared.Parts.{Parts}
use Rattle.rt_task.specs.declared.Act.{Act}
use Rattle.rt_task.specs.declared.Act.TheVariants as acts
use Rattle.rt_task.specs.declared.Step.{Step}
use Rattle.rt_rules.specs.declared.history.Entry.{Entry}
use Rattle.rt_rules.specs.declared.history.Reply.{Reply}
use Rattle.trace_lines.specs.declared.format.Version.{Version}
use Rattle.trace_lines.specs.Grammar.{line_text}
use Rattle.trace_lines.specs.Known.{known_of}
use Rattle.trace_lines.specs.Lines.{Link, entry_line}
use Rattle.rt_model.specs.Group.{Group}
use Rattle.rt_model.specs.Histories.{after, past_of, reply_to}
use Rattle.rt_model.specs.Steps.{IsStepOf}
use Rattle.rt_model.proofs.Steps.{past_of-append}
use Rattle.rt_plays.specs.Turns.{is_tick}
use Rattle.rt_plays.proofs.PlayLaws.{play-fits}
use Rattle.trace_read.specs.Movers.{says_tick}
use Rattle.trace_read.specs.declared.mover.Mover.{Mover}
use Rattle.rt_model.specs.Past.{Past}
use Rattle.rank_afresh.specs.Standing.{IsAt, Standing, group_of}
use Rattle.view_replay.specs.Players.{Played}
use Rattle.trace_laws.proofs.Plays.{begun-steps, few-entries}
use Rattle.trace_course.specs.declared.course.Course.{Course}
use Rattle.trace_check.specs.declared.follow.Follow.{Follow}
use Rattle.trace_check.specs.declared.links.GroupLinks.{GroupLinks}
use Rattle.trace_course.specs.Courses.{CanTake, IsCourse, IsOnCourse}
use Rattle.trace_check.specs.inside.GroupLinks.{AreLinks, CanRead}
use Rattle.trace_check.specs.inside.Following.{CanStep, IsFollowing, IsFollowingWith}
use Rattle.trace_course.specs.Followed.{IsNextStep, GroupEntries, entry_by, longer}

-- what is read of a line says the same as what drives a group
pub says-tick : (act : Act) → is_tick act ≡ says_tick act
says-tick acts.Tick = refl
says-tick acts.Irq = refl
says-tick (acts.Arrive t) = refl
says-tick (acts.Do op) = refl

pub same-mover : (a b : Mover) → Some a ≡ Some b → a ≡ b
same-mover a b e = cc

pub same-step : (a b : Step) → Some a ≡ Some b → a ≡ b
same-step a b e = cc

pub entry-same : (e : Entry) (s : Step) (r : Reply) → e.step ≡ s → e.reply ≡ r → e ≡ record { step = s; reply = r }
entry-same e s r step reply = λ i. record { step = step i; reply = reply i }

-- the line of an entry, by the set that was read
pub line-same : (v : Version) (p q : Parts) (i count : ℕ) (e made : Entry) (links shown : List Link) → p ≡ q → i ≡ count → e ≡ made → links ≡ shown
    → line_text (known_of v q) (entry_line i e links) ≡ line_text (known_of v p) (entry_line count made shown)
line-same v p q i count e made links shown set number entry same =
    ap (λ (x : Parts). line_text (known_of v x) (entry_line i e links)) (sym set) ∙ ap (λ (n : ℕ). line_text (known_of v p) (entry_line n e links)) number
    ∙ ap (λ (x : Entry). line_text (known_of v p) (entry_line count x links)) entry ∙ ap (λ (xs : List Link). line_text (known_of v p) (entry_line count made xs)) same

-- by whoever plays the steps
module _ {P : Type 0} (played : P → Played) (spare : P → ℕ) where
  -- its course is followed as far
  pub on-course : (at : GroupEntries) (p : Parts) (f : Follow P) → IsFollowingWith played spare at p f → IsOnCourse at p f.course
  on-course at p f fw = record { valid = fw.following.valid; setup_is = fw.setup_is; begun = fw.following.begun; course_is = fw.following.course_is }

  -- by the facts that are read of who plays
  pub can-take : (at : GroupEntries) (p : Parts) (f : Follow P) (v : Standing) → IsFollowingWith played spare at p f
      → ((g : Group) (past : Past) → played f.player g past → IsAt v past) → ((g : Group) (past : Past) → played f.player g past → group_of v ≡ g)
      → CanTake at p v f.course
  can-take at p f v fw stands is = record {
    on_course = on-course at p f fw;
    group_is = is at.group (past_of at.group at.entries) fw.following.at;
    stands = stands at.group (past_of at.group at.entries) fw.following.at;
  }

  module _ (at : GroupEntries) (p : Parts) (f : Follow P) (fw : IsFollowingWith played spare at p f) (step : Step)
      (next : IsNextStep at.group at.entries step) where
    abbrev g : Group
    g = at.group

    abbrev es : List Entry
    es = at.entries

    -- the entry that the step makes
    abbrev made : Entry
    made = entry_by g es step

    more-entries : length (es ++ made ∷ []) ≡ length es + 1
    more-entries = length-append es (made ∷ [])

    of_group : IsStepOf g step
    of_group =
        subst (λ (e : Entry). IsStepOf g e.step) (get_or-append_seam es made [] made)
        (begun-steps g (es ++ made ∷ []) fw.following.valid next (length es) made (omega (arith, more-entries)))

    pub can_step : (c : Course) → CanStep played spare at p (record f { course = c }) step
    can_step c = record {
      course = f.course;
      following = fw.following;
      of_group = of_group;
      room = (let few = play-fits g (es ++ made ∷ []) next in omega (arith, few, more-entries, fw.following.spare_is));
      setup_is = fw.setup_is;
    }

    pub count-low : f.count + 1 ≤ MOST_STEPS
    count-low = let few = few-entries g (es ++ made ∷ []) fw.following.valid next in omega (arith, few, more-entries, fw.following.count_is)

    -- the links before the step are those of the group
    pub can-read : (v : Standing) (l : GroupLinks) → group_of v ≡ g → l ≡ f.links → IsAt v (after g step (past_of g es)) → CanRead (past_of g es) step v l
    can-read v l same kept at_after = record {
      before = subst (λ (x : Group). AreLinks x (past_of g es) l) (sym same) (subst (AreLinks g (past_of g es)) (sym kept) fw.following.links_are);
      stands = subst (λ (x : Group). IsAt v (after x step (past_of g es))) (sym same) at_after;
    }

    -- what is followed afterwards
    pub record IsGone (f' : Follow P) : Type 0 where
      pub spare_less : spare f'.player + 1 ≡ spare f.player
      pub at_after : played f'.player g (after g step (past_of g es))
      pub count_more : f'.count ≡ f.count + 1
      pub links_after : AreLinks g (after g step (past_of g es)) f'.links
      pub course_after : IsCourse g (longer at step) f'.course

    pub following-next : (e : Entry) (f' : Follow P) → e.step ≡ step → e.reply ≡ reply_to g step (past_of g es) → IsGone f'
        → IsFollowing played spare g (es ++ e ∷ []) f'
    following-next e f' step_same reply_same t = subst (λ (x : Entry). IsFollowing played spare g (es ++ x ∷ []) f') (sym (same_entry e step_same reply_same)) further
      where
        same_entry : (e : Entry) → e.step ≡ step → e.reply ≡ reply_to g step (past_of g es) → e ≡ made
        same_entry e s r = λ i. record { step = s i; reply = r i }

        past_is : past_of g (es ++ made ∷ []) ≡ after g step (past_of g es)
        past_is = past_of-append g es made

        further : IsFollowing played spare g (es ++ made ∷ []) f'
        further = record {
          valid = fw.following.valid;
          is_there = fw.following.is_there;
          begun = next;
          at = subst (λ past. played f'.player g past) (sym past_is) t.at_after;
          count_is = omega (arith, t.count_more, fw.following.count_is, more-entries);
          spare_is = omega (arith, t.spare_less, fw.following.spare_is, more-entries);
          links_are = subst (λ past. AreLinks g past f'.links) (sym past_is) t.links_after;
          course_is = t.course_after;
        }
