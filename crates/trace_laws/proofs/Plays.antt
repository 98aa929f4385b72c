-- The plays of a valid set, by scripts or by turns: each has few entries, and each step of a group's play is a step of the group.
use Rattle.std.proofs.Common.{◌≡◌, ℕ, ◌+◌, ◌*◌, ◌<◌, ◌≤◌, Bool, true, not, List, [], ◌∷◌, ◌++◌, length, map, get_or, refl, sym, ap, ◌∙◌, subst, arith, append-nil, length-append}
use Rattle.std.specs.Prelude.{◌==◌, All, filter, sum_by}
use Rattle.std.proofs.Math.ListN.{get_or-map}
use Rattle.std.proofs.Math.Nat.{mul-le-mul_left}
use Rattle.std.proofs.lemmas.List.{get_or_append_left, length-map}
use Rattle.std.proofs.lemmas.List.Elements.{All-cons, All-filter, All-map, All-nil, All-weaker}
use Rattle.std.proofs.lemmas.List.Filters.{length-filter_both}
use Rattle.rt_base.specs.declared.TheConstants.{MOST_STEPS, TICK_END}
use Rattle.rt_task.specs.declared.Act.{Act}
use Rattle.rt_task.specs.declared.Act.TheVariants as acts
use Rattle.rt_task.specs.declared.Drive.{Drive}
use Rattle.rt_task.specs.declared.Drive.TheVariants.{Steps, Horizon}
use Rattle.rt_task.specs.declared.Step.{Step}
use Rattle.rt_task.specs.Validity.{IsValid}
use Rattle.rt_rules.specs.declared.history.Entry.{Entry}
use Rattle.rt_rules.specs.Numbers.{has}
use Rattle.rt_model.specs.Group.{Group, group_processors}
use Rattle.rt_model.specs.Histories.{IsLegal, after}
use Rattle.rt_model.specs.Past.{Past}
use Rattle.rt_model.specs.Steps.{IsActOf, IsStepOf}
use Rattle.rt_plays.specs.BodyHistories.{IsBodyHistory}
use Rattle.rt_plays.specs.BodyPlays.{AreInTurnsFrom, IsBodyPlay}
use Rattle.rt_plays.specs.Drives.{horizon, steps_given}
use Rattle.rt_plays.specs.Homes.{AreAtHome, IsProcessorOf}
use Rattle.rt_plays.specs.NextSteps.{MayComeNext}
use Rattle.rt_plays.specs.Plays.{IsBegunPlay, IsBegunPlayBy, IsPlay, IsPlayBy}
use Rattle.rt_plays.specs.Room.{room, room_by}
use Rattle.rt_plays.specs.ScriptPlays.{IsScriptPlay}
use Rattle.rt_plays.specs.Scripts.{script, steps_of}
use Rattle.rt_plays.proofs.PlayLaws.{begun-is_completed, part-is_begun, play-fits}
use Rattle.rt_plays.proofs.Sentence.{history-of_play}
use Rattle.rt_plays.specs.Groups.{AreStepsOf}
use Rattle.rt_plays.proofs.GroupLimits.{steps-few, steps-of_groups, turns-few}
use Rattle.trace_laws.proofs.NextActs.{act-fits}
use Rattle.trace_laws.proofs.ScriptLaws.{all-by_script}

-- ---- plays of either drive

pub begun-legal : (g : Group) (es : List Entry) → IsBegunPlay g es → IsLegal g es
begun-legal g es = by_drive g.setup.drive
  where
    by_drive : (drive : Drive) → IsBegunPlayBy drive g es → IsLegal g es
    by_drive (Steps steps) begun = begun.legal
    by_drive (Horizon h) begun = begun.legal

pub begun-home : (g : Group) (es : List Entry) → IsBegunPlay g es → AreAtHome g es
begun-home g es = by_drive g.setup.drive
  where
    by_drive : (drive : Drive) → IsBegunPlayBy drive g es → AreAtHome g es
    by_drive (Steps steps) begun = begun.at_home
    by_drive (Horizon h) begun = begun.at_home

-- a whole play was begun, and so was one without entries
pub begun-whole : (g : Group) (es : List Entry) → IsPlay g es → IsBegunPlay g es
begun-whole g es play = part-is_begun g es [] (subst (IsPlay g) (sym (append-nil es)) play)

pub begun-none : (g : Group) → IsBegunPlay g []
begun-none g = by_drive g.setup.drive
  where
    by_drive : (drive : Drive) → IsBegunPlayBy drive g []
    by_drive (Steps steps) = record { legal = tt; at_home = All-nil (λ (e : Entry). IsProcessorOf g e.step.cpu.0); begun = λ q there. (script (steps_given g.setup.drive) q, refl) }
    by_drive (Horizon h) = record { legal = tt; at_home = All-nil (λ (e : Entry). IsProcessorOf g e.step.cpu.0); in_turns = tt }

-- each first part of a play that was begun was begun so
pub begun-front : (g : Group) (es rest : List Entry) → IsBegunPlay g (es ++ rest) → IsBegunPlay g es
begun-front g es rest begun =
    let whole = begun-is_completed g (es ++ rest) begun in
    part-is_begun g es (rest ++ whole.0) (subst (IsPlay g) (joined es rest whole.0) whole.1)
  where
    joined : (xs ys zs : List Entry) → (xs ++ ys) ++ zs ≡ xs ++ (ys ++ zs)
    joined [] ys zs = refl
    joined (x ∷ xs) ys zs = ap (λ (l : List Entry). x ∷ l) (joined xs ys zs)

-- ---- few entries

-- a group of a valid set has no more room than a set may have steps
pub room-few : (g : Group) → IsValid g.setup → room g ≤ MOST_STEPS
room-few g valid = by_drive g.setup.drive refl
  where
    test : Step → Bool
    test s = has s.cpu.0 (group_processors g)

    by_drive : (drive : Drive) → g.setup.drive ≡ drive → room_by g drive ≤ MOST_STEPS
    by_drive (Steps steps) is =
        let few : length steps ≤ MOST_STEPS = subst (λ (d : Drive). length (steps_given d) ≤ MOST_STEPS) is (steps-few g.setup valid) in
        omega (arith, few, length-filter_both test (λ s. not (test s)) (λ s. refl) steps)
    by_drive (Horizon h) is = subst (λ (n : ℕ). n * length (group_processors g) * 18 ≤ MOST_STEPS) (ap horizon is) (turns-few g valid)

-- a play that was begun has no more entries
pub few-entries : (g : Group) (es : List Entry) → IsValid g.setup → IsBegunPlay g es → length es ≤ MOST_STEPS
few-entries g es valid begun = omega (arith, play-fits g es begun, room-few g valid)

-- ---- the steps of plays by scripts

all-of_map : {A B : Type 0} (P : B → Type 0) (f : A → B) (xs : List A) → All P (map f xs) → All (λ (x : A). P (f x)) xs
all-of_map P f xs all k d lt =
    let m : length (map f xs) ≡ length xs = length-map _ _ in
    subst P (get_or-map f xs k d) (all k (f d) (omega (arith, m, lt)))

module _ (g : Group) (es : List Entry) (valid : IsValid g.setup) (play : IsScriptPlay g es) where
  -- a step of the set, where its processor is of the group
  abbrev IsOwn : Step → Type 0
  IsOwn s = IsProcessorOf g s.cpu.0 → IsStepOf g s

  at_home : All (λ (s : Step). IsProcessorOf g s.cpu.0) (steps_of es)
  at_home = All-map (λ (s : Step). IsProcessorOf g s.cpu.0) (λ (e : Entry). e.step) es play.at_home

  -- each step of a script is one of the set's
  script-given : (s : Step) → IsProcessorOf g s.cpu.0 → All IsOwn (script (steps_of es) s.cpu.0)
  script-given s there =
      subst (λ (ss : List Step). All IsOwn ss) (sym (play.scripts s.cpu.0 there))
      (All-filter (λ (x : Step). x.cpu.0 == s.cpu.0) IsOwn (steps_given g.setup.drive) (steps-of_groups g valid))

  own-steps : All IsOwn (steps_of es)
  own-steps =
      all-by_script IsOwn (steps_of es)
      (All-weaker (λ (s : Step). IsProcessorOf g s.cpu.0) (λ (s : Step). All IsOwn (script (steps_of es) s.cpu.0)) script-given (steps_of es) at_home)

  script-steps : AreStepsOf g es
  script-steps = λ k d lt. all-of_map IsOwn (λ (e : Entry). e.step) es own-steps k d lt (play.at_home k d lt)

-- ---- the steps of plays by turns

has-some : (q : ℕ) (xs : List ℕ) → has q xs ≡ true → 1 ≤ length xs
has-some q [] h = cc
has-some q (x ∷ xs) h = omega arith

-- a set has no more turns than it may have steps
turns-low : (g : Group) (q : ℕ) → IsValid g.setup → IsProcessorOf g q → horizon g.setup.drive ≤ MOST_STEPS
turns-low g q valid there =
    omega (arith, turns-few g valid, mul-le-mul_left (horizon g.setup.drive) (has-some q (group_processors g) there))

acts-fit : (g : Group) → IsValid g.setup → (past : Past) (es : List Entry) → AreInTurnsFrom g past es → All (λ (e : Entry). IsActOf g e.step.act) es
acts-fit g valid past [] turns = All-nil (λ (e : Entry). IsActOf g e.step.act)
acts-fit g valid past (e ∷ es) turns =
    All-cons (λ (x : Entry). IsActOf g x.step.act) e es (act-fits g valid past e.step turns.0) (acts-fit g valid (after g e.step past) es turns.1)

body-steps : (g : Group) (es : List Entry) → IsValid g.setup → IsBodyPlay g es → AreStepsOf g es
body-steps g es valid play k d lt =
    let told : IsBodyHistory g es = history-of_play g es play in
    let low : (get_or es k d).step.tick.0 < horizon g.setup.drive = told.within k d lt in
    let there : IsProcessorOf g (get_or es k d).step.cpu.0 = told.at_home k d lt in
    record {
      processor = there;
      tick = omega (arith, low, turns-low g (get_or es k d).step.cpu.0 valid there);
      act = acts-fit g valid [] es play.begun.in_turns k d lt;
    }

-- ---- the steps of all plays

play-steps : (g : Group) (es : List Entry) → IsValid g.setup → IsPlay g es → AreStepsOf g es
play-steps g es valid = by_drive g.setup.drive
  where
    by_drive : (drive : Drive) → IsPlayBy drive g es → AreStepsOf g es
    by_drive (Steps steps) play = script-steps g es valid play
    by_drive (Horizon h) play = body-steps g es valid play

pub begun-steps : (g : Group) (es : List Entry) → IsValid g.setup → IsBegunPlay g es → AreStepsOf g es
begun-steps g es valid begun k d lt =
    let whole = begun-is_completed g es begun in
    let inside : k < length (es ++ whole.0) = omega (arith, lt, length-append es whole.0) in
    subst (λ (e : Entry). IsStepOf g e.step) (get_or_append_left es whole.0 d k lt) (play-steps g (es ++ whole.0) valid whole.1 k d inside)
