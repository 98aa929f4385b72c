-- What is kept of the groups of a text.
use Rattle.std.proofs.Common.{◌≡◌, ℕ, ◌+◌, ◌<◌, List, [], ◌∷◌, ◌++◌, length, refl, sym, ap, subst, arith, length-append}
use Rattle.rt_task.specs.declared.Parts.{Parts}
use Rattle.rt_task.specs.Validity.{IsValid}
use Rattle.rt_rules.specs.declared.history.Entry.{Entry}
use Rattle.rt_plays.specs.Groups.{GroupHistory}
use Rattle.rt_plays.specs.Plays.{IsPlay, group_count, group_with}
use Rattle.trace_lines.specs.declared.format.Version.{Version}
use Rattle.trace_tools.specs.Counters.{Counter}
use Rattle.trace_tools.specs.Tools.{Tool}
use Rattle.trace_laws.specs.PlayedGroups.{groups_from}
use Rattle.trace_laws.proofs.PlayedGroups.{play-replays, said-all, said-histories}
use Rattle.trace_check.specs.declared.progress.Progress.{Progress}
use Rattle.trace_check.specs.declared.verdict.Verdict.{Verdict}
use Rattle.trace_check.specs.declared.verdict.Verdict.TheVariants.{Valid, Invalid}
use Rattle.trace_check.specs.Groups.{HasGroups}
use Rattle.trace_check.specs.inside.GroupLines.{ArePlaysFrom}
use Rattle.trace_check.specs.inside.Judging.{IsTextOfPlays}
use Rattle.view_replay.specs.Players.{Played}
use Rattle.trace_check.specs.Keeping.{Between, CanClose, HasKept, HasPlayed, IsKeptText, Keeping}
use Rattle.trace_check.specs.declared.progress.Followed.{Followed}
use Rattle.trace_check.specs.declared.progress.Followed.TheVariants.{Whole, Wrong}
use Rattle.trace_check.specs.inside.Progress.{AreFollowedBy, AreKept, IsFollowedBy, IsFollowedTo}

-- the last of plays is a play of the group with its number
last-play : (p : Parts) (n : ℕ) (front : List (List Entry)) (es : List Entry)
    → ArePlaysFrom p n (front ++ es ∷ []) → IsPlay (group_with p (n + length front)) es
last-play p n [] es plays = let here : n ≡ n + 0 = omega arith in subst (λ (m : ℕ). IsPlay (group_with p m) es) here plays.0
last-play p n (xs ∷ front) es plays =
    let next : n + 1 + length front ≡ n + length (xs ∷ front) = omega arith in
    subst (λ (m : ℕ). IsPlay (group_with p m) es) next (last-play p (n + 1) front es plays.1)

module _ (v : Version) (p : Parts) (text : List ℕ) where
  module _ {P : Type 0} {played : P → Played} (n : ℕ) (r : Progress) {opened counters : List Counter} {holds : Keeping} (player : P)
      (by : AreFollowedBy played v p text n r opened counters holds player) where
    abbrev front : List (List Entry)
    front = by.kept.kept.front

    abbrev last : List Entry
    last = by.kept.kept.last

    number : length front ≡ n
    number = omega (arith, by.kept.right.count, ap length by.kept.kept.histories_are, length-append front (last ∷ []))

    -- the last group can be closed
    pub can-close : IsValid p → n < group_count p → CanClose played player holds p n
    can-close valid low =
        let play = last-play p 0 front last (subst (ArePlaysFrom p 0) by.kept.kept.histories_are by.kept.right.plays) in
        let same : 0 + length front ≡ n = omega (arith, number) in
        record {
          front = front;
          last = last;
          kept = by.kept.kept.kept;
          number = number;
          can = play-replays p valid n last low (subst (λ (m : ℕ). IsPlay (group_with p m) last) same play);
          has_played = by.has_played;
        }

    -- and once it is closed, none is open
    pub kept-closed : (later : Keeping) → ((hs : List (List Entry)) (es : List Entry) → holds hs es → length hs ≡ n → HasPlayed played player p n es → later (hs ++ es ∷ []) [])
        → AreKept v p text (n + 1) r opened counters (Between later)
    kept-closed later closed = record {
      right = by.kept.right;
      kept = subst (Between later) (sym by.kept.kept.histories_are) (closed front last by.kept.kept.kept number by.has_played);
    }

  -- where it is not whole, none is to be closed
  pub followed-wrong : {P : Type 0} (played : P → Played) (n : ℕ) (opened counters : List Counter) (holds : Keeping) (player : P) (followed : Followed)
      → ((r : Progress) → followed ≡ Whole r → ⊥) → IsFollowedBy played v p text n opened counters holds player followed → IsFollowedTo v p text n opened counters holds followed
  followed-wrong played n opened counters holds player (Whole r) none by = absurd (none r refl)
  followed-wrong played n opened counters holds player (Wrong position) none by = by

-- what is kept of its plays is kept of the text
kept-of : (tools : List Tool) (v : Version) (p : Parts) (bytes : List ℕ) (holds : List (List Entry) → Type 0) (hs : List (List Entry)) (verdict : Verdict)
    → holds hs → HasKept tools v p bytes (λ told. hs ≡ told) verdict → HasKept tools v p bytes holds verdict
kept-of tools v p bytes holds hs (Valid entries) kept same = λ is. subst holds (same is) kept
kept-of tools v p bytes holds hs (Invalid line) kept same = tt

pub kept-text : (tools : List Tool) (v : Version) (p : Parts) (text : List ℕ) (holds : List (List Entry) → Type 0) (hs : List (List Entry)) (verdict : Verdict)
    → holds hs → IsTextOfPlays tools v p text hs verdict → IsKeptText tools v p text holds verdict
kept-text tools v p text holds hs verdict kept same = λ bytes head. kept-of tools v p bytes holds hs verdict kept (same bytes head)

-- and the groups that are kept are those of the text
pub kept-groups : (tools : List Tool) (v : Version) (p : Parts) (bytes : List ℕ) (groups : List GroupHistory) (entries : List Entry) (verdict : Verdict)
    → IsValid p → HasKept tools v p bytes (λ hs. (groups ≡ groups_from p 0 hs) × (entries ≡ [])) verdict → HasGroups tools v p bytes groups verdict
kept-groups tools v p bytes groups entries (Valid n) valid kept = λ is.
    let said : groups ≡ groups_from p 0 is.histories = (kept is).0 in
    (said-all p valid is.histories is.plays groups said, said-histories p valid is.histories is.plays groups said)
kept-groups tools v p bytes groups entries (Invalid line) valid kept = tt
