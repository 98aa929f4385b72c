-- Plays by what drives them: scripts, or turns.
use Rattle.std.proofs.Common.{◌≡◌, ℕ, ◌*◌, ◌≤◌, true, false, List, [], ◌∷◌, ◌++◌, length, map, refl, sym, ap, ◌∙◌, subst, arith}
use Rattle.std.proofs.lemmas.List.Elements.{All-nil}
use Rattle.rt_base.specs.declared.TheConstants.{MOST_STEPS}
use Rattle.rt_task.specs.declared.Drive.{Drive}
use Rattle.rt_task.specs.declared.Drive.TheVariants.{Steps, Horizon}
use Rattle.rt_task.specs.declared.Step.{Step}
use Rattle.rt_task.specs.Validity.{IsValid}
use Rattle.rt_rules.specs.declared.history.Entry.{Entry}
use Rattle.rt_model.specs.Group.{Group, group_processors}
use Rattle.rt_model.specs.Histories.{past_from, past_of, reply_to}
use Rattle.rt_plays.specs.BodyPlays.{has_ended}
use Rattle.rt_plays.specs.Drives.{horizon, steps_given}
use Rattle.rt_plays.specs.NextSteps.{MayComeNext}
use Rattle.rt_plays.specs.Homes.{AreAtHome, IsProcessorOf}
use Rattle.rt_plays.specs.Order.{steps_in_group}
use Rattle.rt_plays.specs.Plays.{IsBegunPlay, IsBegunPlayBy, IsPlay, IsPlayBy}
use Rattle.rt_plays.specs.Room.{room, room_by}
use Rattle.rt_plays.specs.Scripts.{script, steps_of}
use Rattle.rt_plays.specs.ScriptPlays.{IsBegunScriptPlay}
use Rattle.rt_plays.proofs.BodyCompletion.{past_from-join}
use Rattle.rt_plays.proofs.PlayLaws.{begun-grows, play-fits}
use Rattle.rt_plays.proofs.ScriptParts.{part-first, part-next, play-of-part}
use Rattle.rt_plays.specs.Drives.{gives_steps}
use Rattle.turn_cell.specs.Words.{entries_of, AgreeOn, StartsWith}
use Rattle.turn_cell.proofs.Tools.{entries-append}
use Rattle.cpu_site.specs.declared.progress.Progress.{Progress}
use Rattle.cpu_site.specs.Playing.{IsFar, IsFarBy, IsNextBy, IsNextStep, IsOver, IsOverBy, room_in}
use Rattle.cpu_site.specs.Seats.{cpu_of}
use Rattle.rt_plays.proofs.GroupLimits.{turns-few}
use Rattle.cpu_site.proofs.SetFacts.{group-steps_few}
use Rattle.cpu_site.specs.Turning.{IsAtTurn}
use Rattle.cpu_site.proofs.Turning.{at-first, at-others, ended-others}
use Rattle.cpu_site.proofs.Words.{no-more, script-of}

pub begun-home : (g : Group) (es : List Entry) → IsBegunPlay g es → AreAtHome g es
begun-home g es = by_drive g.setup.drive
  where
    by_drive : (drive : Drive) → IsBegunPlayBy drive g es → AreAtHome g es
    by_drive (Steps steps) begun = begun.at_home
    by_drive (Horizon h) begun = begun.at_home

-- before the first entry
pub begun-first : (g : Group) → IsBegunPlay g []
begun-first g = by_drive g.setup.drive
  where
    by_drive : (drive : Drive) → IsBegunPlayBy drive g []
    by_drive (Steps steps) = part-first g
    by_drive (Horizon h) = record { legal = tt; at_home = All-nil (λ (e : Entry). IsProcessorOf g e.step.cpu.0); in_turns = tt }

-- with the next entry of a processor
pub begun-next : (g : Group) (turns q : ℕ) (es : List Entry) (e : Entry) → IsBegunPlay g es → e.step.cpu.0 ≡ q → IsProcessorOf g q → IsNextStep g turns q es e.step
    → e.reply ≡ reply_to g e.step (past_of g es) → IsBegunPlay g (es ++ e ∷ [])
begun-next g turns q es e begun own there next reply = by_drive g.setup.drive refl begun next
  where
    home : IsProcessorOf g e.step.cpu.0
    home = subst (IsProcessorOf g) (sym own) there

    by_drive : (drive : Drive) → g.setup.drive ≡ drive → IsBegunPlayBy drive g es → IsNextBy drive g turns q es e.step → IsBegunPlayBy drive g (es ++ e ∷ [])
    by_drive (Steps steps) is b n =
        part-next g es e n.0 b reply home
        (subst (λ (x : ℕ). script (steps_given g.setup.drive) x ≡ script (steps_of es) x ++ e.step ∷ n.0) (sym own) (ap (λ (d : Drive). script (steps_given d) q) is ∙ n.1))
    by_drive (Horizon h) is b n = begun-grows g es e b home n.0 reply

-- once no step of any processor is left
pub play-whole : (g : Group) (es : List Entry) → IsBegunPlay g es → ((q : ℕ) → IsProcessorOf g q → IsOver g q es) → IsPlay g es
play-whole g es begun over = by_drive g.setup.drive refl begun over
  where
    by_drive : (drive : Drive) → g.setup.drive ≡ drive → IsBegunPlayBy drive g es → ((q : ℕ) → IsProcessorOf g q → IsOverBy drive g q es) → IsPlayBy drive g es
    by_drive (Steps steps) is b o = play-of-part g es b (λ q there. ap (λ (d : Drive). script (steps_given d) q) is ∙ sym (o q there))
    by_drive (Horizon h) is b o = record { begun = b; ended = o }

-- ---- what entries of other processors leave

module _ (g : Group) (q : ℕ) (es zs : List Entry) (later : StartsWith zs es) (mine : AgreeOn cpu_of q zs es) where
  none : entries_of cpu_of q later.0 ≡ []
  none = no-more (entries_of cpu_of q es) (entries_of cpu_of q later.0) (sym (entries-append cpu_of q es later.0) ∙ ap (entries_of cpu_of q) (sym later.1) ∙ mine)

  past-later : past_of g zs ≡ past_from g (past_of g es) later.0
  unfolding past_of
  past-later = ap (past_of g) later.1 ∙ past_from-join g [] es later.0

  pub far-later : (at : Progress) → IsFar g q es at → IsFar g q zs at
  far-later at = by_drive g.setup.drive
    where
      by_drive : (drive : Drive) → IsFarBy drive g q es at → IsFarBy drive g q zs at
      by_drive (Steps steps) is = is
      by_drive (Horizon h) is = rw past-later (at-others g q later.0 (past_of g es) at none is)

  pub over-later : IsOver g q es → IsOver g q zs
  over-later = by_drive g.setup.drive
    where
      by_drive : (drive : Drive) → IsOverBy drive g q es → IsOverBy drive g q zs
      by_drive (Steps steps) is = script-of q zs ∙ ap (map (λ (e : Entry). e.step)) mine ∙ sym (script-of q es) ∙ is
      by_drive (Horizon h) is = rw past-later (ended-others g q later.0 (past_of g es) none is)

-- ---- by scripts

pub begun-scripts : (g : Group) (es : List Entry) → gives_steps g.setup.drive ≡ true → IsBegunPlay g es → IsBegunScriptPlay g es
begun-scripts g es = by_drive g.setup.drive
  where
    by_drive : (drive : Drive) → gives_steps drive ≡ true → IsBegunPlayBy drive g es → IsBegunScriptPlay g es
    by_drive (Steps steps) gives begun = begun
    by_drive (Horizon h) gives begun = cc

pub next-script : (g : Group) (turns q : ℕ) (es : List Entry) (s : Step) → gives_steps g.setup.drive ≡ true
    → (more : List Step) × (script (steps_given g.setup.drive) q ≡ script (steps_of es) q ++ s ∷ more) → IsNextStep g turns q es s
next-script g turns q es s = by_drive g.setup.drive
  where
    by_drive : (drive : Drive) → gives_steps drive ≡ true → (more : List Step) × (script (steps_given drive) q ≡ script (steps_of es) q ++ s ∷ more) → IsNextBy drive g turns q es s
    by_drive (Steps steps) gives next = next
    by_drive (Horizon h) gives next = cc

pub over-script : (g : Group) (q : ℕ) (es : List Entry) → gives_steps g.setup.drive ≡ true → script (steps_of es) q ≡ script (steps_given g.setup.drive) q → IsOver g q es
over-script g q es = by_drive g.setup.drive
  where
    by_drive : (drive : Drive) → gives_steps drive ≡ true → script (steps_of es) q ≡ script (steps_given drive) q → IsOverBy drive g q es
    by_drive (Steps steps) gives over = over
    by_drive (Horizon h) gives over = cc

-- where steps are given there is no turn, whatever the entries
pub far-script : (g : Group) (q : ℕ) (es zs : List Entry) (at : Progress) → gives_steps g.setup.drive ≡ true → IsFar g q es at → IsFar g q zs at × (at.turns ≡ horizon g.setup.drive)
far-script g q es zs at = by_drive g.setup.drive
  where
    by_drive : (drive : Drive) → gives_steps drive ≡ true → IsFarBy drive g q es at → IsFarBy drive g q zs at × (at.turns ≡ horizon drive)
    by_drive (Steps steps) gives far = (far, far)
    by_drive (Horizon h) gives far = cc

-- ---- by turns

pub far-turns : (g : Group) (q : ℕ) (es : List Entry) (at : Progress) → gives_steps g.setup.drive ≡ false → (IsFar g q es at → IsAtTurn g q (past_of g es) at) × (IsAtTurn g q (past_of g es) at → IsFar g q es at)
far-turns g q es at = by_drive g.setup.drive
  where
    by_drive : (drive : Drive) → gives_steps drive ≡ false → (IsFarBy drive g q es at → IsAtTurn g q (past_of g es) at) × (IsAtTurn g q (past_of g es) at → IsFarBy drive g q es at)
    by_drive (Steps steps) gives = cc
    by_drive (Horizon h) gives = (λ is. is, λ is. is)

pub next-turn : (g : Group) (turns q : ℕ) (es : List Entry) (s : Step) → gives_steps g.setup.drive ≡ false → MayComeNext g (past_of g es) s → s.tick.0 ≡ turns → IsNextStep g turns q es s
next-turn g turns q es s = by_drive g.setup.drive
  where
    by_drive : (drive : Drive) → gives_steps drive ≡ false → MayComeNext g (past_of g es) s → s.tick.0 ≡ turns → IsNextBy drive g turns q es s
    by_drive (Steps steps) gives may tick = cc
    by_drive (Horizon h) gives may tick = (may, tick)

pub over-turns : (g : Group) (q : ℕ) (es : List Entry) → gives_steps g.setup.drive ≡ false → has_ended g q (past_of g es) ≡ true → IsOver g q es
over-turns g q es = by_drive g.setup.drive
  where
    by_drive : (drive : Drive) → gives_steps drive ≡ false → has_ended g q (past_of g es) ≡ true → IsOverBy drive g q es
    by_drive (Steps steps) gives over = cc
    by_drive (Horizon h) gives over = over

-- before the first entry of a processor
pub far-first : (g : Group) (q : ℕ) → IsFar g q [] (record { turns = 0; steps = 0 })
far-first g q = by_drive g.setup.drive
  where
    by_drive : (drive : Drive) → IsFarBy drive g q [] (record { turns = 0; steps = 0 })
    by_drive (Steps steps) = refl
    by_drive (Horizon h) = at-first g q

-- ---- the room of a group

module _ (g : Group) (valid : IsValid g.setup) where
  pub room-few : room g ≤ MOST_STEPS
  room-few = by_drive g.setup.drive refl
    where
      by_drive : (drive : Drive) → g.setup.drive ≡ drive → room_by g drive ≤ MOST_STEPS
      by_drive (Steps steps) is = subst (λ (d : Drive). length (steps_in_group g (steps_given d)) ≤ MOST_STEPS) is (group-steps_few g valid)
      by_drive (Horizon h) is = subst (λ (n : ℕ). n * length (group_processors g) * 18 ≤ MOST_STEPS) (ap horizon is) (turns-few g valid)

  pub begun-few : (es : List Entry) → IsBegunPlay g es → length es ≤ MOST_STEPS
  begun-few es begun = omega (arith, play-fits g es begun, room-few)

-- it is what is reckoned from its steps and its processors
pub room-is : (g : Group) (steps : List Step) (count cpus : ℕ) → steps ≡ steps_in_group g (steps_given g.setup.drive) → count ≡ length steps → cpus ≡ length (group_processors g) → room_in g.setup.drive count cpus ≡ room g
room-is g steps count cpus are long many = by_drive g.setup.drive are
  where
    by_drive : (drive : Drive) → steps ≡ steps_in_group g (steps_given drive) → room_in drive count cpus ≡ room_by g drive
    by_drive (Steps given) is = long ∙ ap length is
    by_drive (Horizon h) is = ap (λ (n : ℕ). h * n * 18) many
