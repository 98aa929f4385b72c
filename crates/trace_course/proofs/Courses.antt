-- What drives a group's entries: scripts or turns, at the opening, as a step is taken, and at the end.
use Rattle.std.proofs.Common.{◌≡◌, ℕ, zero, suc, ◌*◌, ◌==◌, true, false, List, [], ◌∷◌, ◌++◌, length, get_or, refl, sym, ap, ◌∙◌, subst, arith, append_assoc, length-append}
use Rattle.std.specs.Prelude.{All}
use Rattle.std.proofs.Math.Seq.{get_or-append_seam}
use Rattle.std.proofs.lemmas.List.{length-map}
use Rattle.rt_base.specs.declared.CpuNo.{CpuNo}
use Rattle.rt_task.specs.declared.Drive.{Drive}
use Rattle.rt_task.specs.declared.Drive.TheVariants as drives
use Rattle.rt_task.specs.declared.Parts.{Parts}
use Rattle.rt_task.specs.declared.Step.{Step}
use Rattle.rt_rules.specs.declared.history.Entry.{Entry}
use Rattle.rt_rules.specs.Numbers.{has}
use Rattle.rt_rules.proofs.BoolLaws.{or_true}
use Rattle.rt_rules.proofs.MemberLaws.{equal_self}
use Rattle.rt_model.specs.Group.{Group, group_processors}
use Rattle.rt_model.specs.Histories.{after, past_from, past_of}
use Rattle.rt_model.specs.Past.{Past}
use Rattle.rt_model.proofs.Steps.{past_of-append}
use Rattle.rt_plays.specs.BodyPlays.{AreInTurnsFrom, IsBegunBodyPlay, IsBodyPlay, has_ended}
use Rattle.rt_plays.specs.Drives.{horizon, steps_given}
use Rattle.rt_plays.specs.Homes.{IsProcessorOf}
use Rattle.rt_plays.specs.NextSteps.{MayComeNext}
use Rattle.rt_plays.specs.Plays.{IsBegunPlayBy, IsPlay, IsPlayBy}
use Rattle.rt_plays.specs.Room.{room, room_by}
use Rattle.rt_plays.specs.ScriptPlays.{IsBegunScriptPlay, IsScriptPlay}
use Rattle.rt_plays.specs.Scripts.{script, steps_of}
use Rattle.rt_plays.proofs.PlayLaws.{begun-grows}
use Rattle.rt_plays.proofs.ScriptParts.{part-next, play-of-part, script-steps_of-next}
use Rattle.rt_plays.proofs.Sentence.{opening-past}
use Rattle.rt_plays.specs.Drives.{gives_steps}
use Rattle.rank_afresh.specs.Standing.{Standing, group_of}
use Rattle.body_play.specs.Turns as turns
use Rattle.body_play.specs.Turns.{AreAt, AreLooked, HasTaken, numbers_of}
use Rattle.body_play.proofs.Rows.{all-looked}
use Rattle.trace_course.specs.declared.course.Course.{Course}
use Rattle.trace_course.specs.declared.course.Course.TheVariants.{Scripts, Turns}
use Rattle.trace_course.specs.declared.scripts.Scripts as scripts
use Rattle.trace_course.specs.Courses.{CanLook, HasGone, IsCourse, IsOnCourse, IsOpened, room_in}
use Rattle.trace_course.specs.Next.{AreFollowing}
use Rattle.trace_course.specs.Followed.{AreDone, ArePassed, HasPassed, IsNextOfScript, IsNextStep, GroupEntries, entry_by, longer}
use Rattle.trace_course.proofs.Positions.{positions-counted, positions-first}

-- ---- processors

listed-there : (cpus : List CpuNo) → All (λ (q : CpuNo). has q.0 (numbers_of cpus) ≡ true) cpus
listed-there [] k d low = absurd (omega arith)
listed-there (q ∷ cpus) zero d low = rw (equal_self q.0) refl
listed-there (q ∷ cpus) (suc k) d low = rw (listed-there cpus k d (omega arith)) (or_true ((get_or cpus k d).0 == q.0))

-- those of the group are its processors
pub cpus-there : (g : Group) (cpus : List CpuNo) → numbers_of cpus ≡ group_processors g → All (λ (q : CpuNo). IsProcessorOf g q.0) cpus
cpus-there g cpus are k d low = subst (λ (qs : List ℕ). has (get_or cpus k d).0 qs ≡ true) are (listed-there cpus k d low)

-- ---- plays by what drives them

begun-scripts : (drive : Drive) (g : Group) (es : List Entry) → gives_steps drive ≡ true → (IsBegunPlayBy drive g es → IsBegunScriptPlay g es) × (IsBegunScriptPlay g es → IsBegunPlayBy drive g es)
begun-scripts (drives.Steps steps) g es gives = (λ play. play, λ play. play)
begun-scripts (drives.Horizon h) g es gives = cc

begun-turns : (drive : Drive) (g : Group) (es : List Entry) → gives_steps drive ≡ false → (IsBegunPlayBy drive g es → IsBegunBodyPlay g es) × (IsBegunBodyPlay g es → IsBegunPlayBy drive g es)
begun-turns (drives.Steps steps) g es gives = cc
begun-turns (drives.Horizon h) g es gives = (λ play. play, λ play. play)

whole-scripts : (drive : Drive) (g : Group) (es : List Entry) → gives_steps drive ≡ true → (IsPlayBy drive g es → IsScriptPlay g es) × (IsScriptPlay g es → IsPlayBy drive g es)
whole-scripts (drives.Steps steps) g es gives = (λ play. play, λ play. play)
whole-scripts (drives.Horizon h) g es gives = cc

whole-turns : (drive : Drive) (g : Group) (es : List Entry) → gives_steps drive ≡ false → (IsPlayBy drive g es → IsBodyPlay g es) × (IsBodyPlay g es → IsPlayBy drive g es)
whole-turns (drives.Steps steps) g es gives = cc
whole-turns (drives.Horizon h) g es gives = (λ play. play, λ play. play)

-- ---- the next step

last-home : (g : Group) (es : List Entry) (e : Entry) → All (λ (x : Entry). IsProcessorOf g x.step.cpu.0) (es ++ e ∷ []) → IsProcessorOf g e.step.cpu.0
last-home g es e home =
    subst (λ (x : Entry). IsProcessorOf g x.step.cpu.0) (get_or-append_seam es e [] e) (home (length es) e (omega (arith, length-append es (e ∷ []))))

-- of a script
next-script : (g : Group) (es : List Entry) (step : Step) → IsBegunScriptPlay g (es ++ entry_by g es step ∷ []) → IsNextOfScript g es step
next-script g es step begun =
    let e : Entry = entry_by g es step in
    let there : IsProcessorOf g step.cpu.0 = last-home g es e begun.at_home in
    let rest = begun.begun step.cpu.0 there in
    record {
      home = there;
      more = rest.0;
      next =
          rest.1 ∙ ap (λ (ss : List Step). ss ++ rest.0) (script-steps_of-next es e step.cpu.0 (equal_self step.cpu.0))
          ∙ append_assoc (script (steps_of es) step.cpu.0) (step ∷ []) rest.0;
    }

-- of a turn
in_turns-last : (g : Group) (es : List Entry) (e : Entry) (past : Past) → AreInTurnsFrom g past (es ++ e ∷ []) → MayComeNext g (past_from g past es) e.step
unfolding past_from
in_turns-last g [] e past turns = turns.0
in_turns-last g (x ∷ es) e past turns = in_turns-last g es e (after g x.step past) turns.1

next-turn : (g : Group) (es : List Entry) (step : Step) → IsBegunBodyPlay g (es ++ entry_by g es step ∷ []) → IsProcessorOf g step.cpu.0 × MayComeNext g (past_of g es) step
unfolding past_of
next-turn g es step begun =
    let e : Entry = entry_by g es step in
    (last-home g es e begun.at_home, in_turns-last g es e [] begun.in_turns)

-- ---- scripts

module _ (at : GroupEntries) (p : Parts) (s : scripts.Scripts) (on : IsOnCourse at p (Scripts s)) where
  pub scripts-passed : (steps : List Step) → steps ≡ steps_given p.drive → ArePassed at steps s
  scripts-passed steps is = record { valid = on.valid; positions_are = on.course_is.1; following_are = on.course_is.2; steps_are = is ∙ ap (λ (q : Parts). steps_given q.drive) on.setup_is }

  begun-script : IsBegunScriptPlay at.group at.entries
  begun-script = (begun-scripts at.group.setup.drive at.group at.entries on.course_is.0).0 on.begun

  pub scripts-gone : (step : Step) (s' : scripts.Scripts) → HasPassed at step s' → HasGone at step (Scripts s')
  scripts-gone step s' gone =
      let e : Entry = entry_by at.group at.entries step in
      record {
        next = (begun-scripts at.group.setup.drive at.group (longer at step) on.course_is.0).1 (part-next at.group at.entries e gone.next.more begun-script refl gone.next.home gone.next.next);
        gone = (on.course_is.0, gone.positions_are, gone.following_are);
      }

  -- the step that may come next is that of a script
  pub scripts-next : (step : Step) → IsNextStep at.group at.entries step → IsNextOfScript at.group at.entries step
  scripts-next step next = next-script at.group at.entries step ((begun-scripts at.group.setup.drive at.group (longer at step) on.course_is.0).0 next)

  pub scripts-refused : (step : Step) → (IsNextOfScript at.group at.entries step → ⊥) → IsNextStep at.group at.entries step → ⊥
  scripts-refused step none next = none (scripts-next step next)

  pub scripts-over : AreDone at.group at.entries → IsPlay at.group at.entries
  scripts-over done = (whole-scripts at.group.setup.drive at.group at.entries on.course_is.0).1 (play-of-part at.group at.entries begun-script done)

  pub scripts-left : (AreDone at.group at.entries → ⊥) → IsPlay at.group at.entries → ⊥
  scripts-left left play = left (λ q there. sym (((whole-scripts at.group.setup.drive at.group at.entries on.course_is.0).0 play).scripts q there))

-- ---- turns

module _ (at : GroupEntries) (p : Parts) (t : turns.Turns) (on : IsOnCourse at p (Turns t)) where
  abbrev past : Past
  past = past_of at.group at.entries

  begun-turn : IsBegunBodyPlay at.group at.entries
  begun-turn = (begun-turns at.group.setup.drive at.group at.entries on.course_is.0).0 on.begun

  pub turns-over : ((q : ℕ) → IsProcessorOf at.group q → has_ended at.group q past ≡ true) → IsPlay at.group at.entries
  turns-over ended = (whole-turns at.group.setup.drive at.group at.entries on.course_is.0).1 (record { begun = begun-turn; ended = ended })

  pub turns-left : (((q : ℕ) → IsProcessorOf at.group q → has_ended at.group q past ≡ true) → ⊥) → IsPlay at.group at.entries → ⊥
  turns-left left play = left ((whole-turns at.group.setup.drive at.group at.entries on.course_is.0).0 play).ended

  module _ (v : Standing) (same : group_of v ≡ at.group) where
    pub turns-at : AreAt (group_of v) past t
    turns-at = subst (λ (g : Group). AreAt g past t) (sym same) on.course_is.1

    pub turns-gone : (step : Step) (t' : turns.Turns) → HasTaken (group_of v) past step t' → HasGone at step (Turns t')
    turns-gone step t' told =
        let taken : HasTaken at.group past step t' = subst (λ (g : Group). HasTaken g past step t') same told in
        record {
          next = (begun-turns at.group.setup.drive at.group (longer at step) on.course_is.0).1 (begun-grows at.group at.entries (entry_by at.group at.entries step) begun-turn taken.home taken.next refl);
          gone = (on.course_is.0, taken.looked);
        }

    -- the step that may come next does so by what the ranker says
    pub turns-next : (step : Step) → IsNextStep at.group at.entries step → IsProcessorOf (group_of v) step.cpu.0 × MayComeNext (group_of v) past step
    turns-next step next =
        let may = next-turn at.group at.entries step ((begun-turns at.group.setup.drive at.group (longer at step) on.course_is.0).0 next) in
        (subst (λ (g : Group). IsProcessorOf g step.cpu.0) (sym same) may.0, subst (λ (g : Group). MayComeNext g past step) (sym same) may.1)

    pub turns-refused : (step : Step) → (IsProcessorOf (group_of v) step.cpu.0 → MayComeNext (group_of v) past step → ⊥) → IsNextStep at.group at.entries step → ⊥
    turns-refused step none next = let may = turns-next step next in none may.0 may.1

-- once each processor was looked at
pub looked-all : (at : GroupEntries) (step : Step) (p : Parts) (v : Standing) (cpus : List CpuNo) (t t' : turns.Turns) → CanLook at step p v cpus → HasGone at step (Turns t)
    → (AreLooked (group_of v) (past_of at.group at.entries) step [] t → AreLooked (group_of v) (past_of at.group at.entries) step (numbers_of cpus) t')
    → IsCourse at.group (longer at step) (Turns t')
looked-all at step p v cpus t t' can gone further =
    let past : Past = past_of at.group at.entries in
    let first : AreLooked (group_of v) past step [] t = subst (λ (g : Group). AreLooked g past step [] t) (sym can.group_is) gone.gone.1 in
    let last : AreLooked at.group past step (numbers_of cpus) t' = subst (λ (g : Group). AreLooked g past step (numbers_of cpus) t') can.group_is (further first) in
    let all : AreLooked at.group past step (group_processors at.group) t' = subst (λ (qs : List ℕ). AreLooked at.group past step qs t') can.cpus_are last in (
      gone.gone.0,
      subst (λ (now : Past). AreAt at.group now t') (sym (past_of-append at.group at.entries (entry_by at.group at.entries step))) (all-looked at.group past step t' all),
    )

-- ---- the opening

module _ (g : Group) (cpus : List CpuNo) (cpus_are : numbers_of cpus ≡ group_processors g) where
  course-by : (drive : Drive) (c : Course) → g.setup.drive ≡ drive → IsOpened drive cpus c → IsCourse g [] c
  course-by (drives.Steps steps) (Scripts s) is opened = (
    ap gives_steps is,
    positions-first g (numbers_of cpus) s.positions.items cpus_are opened.0,
    subst (λ (drive : Drive). AreFollowing (steps_given drive) s.following.items) (sym is) opened.1,
  )
  course-by (drives.Steps steps) (Turns t) is opened = absurd opened
  course-by (drives.Horizon h) (Scripts s) is opened = absurd opened
  course-by (drives.Horizon h) (Turns t) is opened = (ap gives_steps is, subst (λ (past : Past). AreAt g past t) (sym (opening-past g)) (opened g cpus_are (ap horizon is)))

  -- no entry was followed yet
  pub course-first : (c : Course) → IsOpened g.setup.drive cpus c → IsCourse g [] c
  course-first c opened = course-by g.setup.drive c refl opened

  room-by : (drive : Drive) (c : Course) → IsOpened drive cpus c → room_in drive (length cpus) c ≡ room_by g drive
  room-by (drives.Steps steps) (Scripts s) opened = positions-counted g (numbers_of cpus) s.positions.items steps cpus_are opened.0
  room-by (drives.Steps steps) (Turns t) opened = absurd opened
  room-by (drives.Horizon h) (Scripts s) opened = absurd opened
  room-by (drives.Horizon h) (Turns t) opened =
      let many : length cpus ≡ length (group_processors g) = sym (length-map cpus (λ (q : CpuNo). q.0)) ∙ ap length cpus_are in
      ap (λ (n : ℕ). h * n * 18) many

  pub room-first : (c : Course) → IsOpened g.setup.drive cpus c → room_in g.setup.drive (length cpus) c ≡ room g
  room-first c opened = room-by g.setup.drive c opened
