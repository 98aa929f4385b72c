-- The groups of a setup with their whole histories are all its groups, and can be replayed.
use Rattle.std.proofs.Common.{◌≡◌, ℕ, suc, ◌+◌, ◌<◌, ◌≤◌, List, [], ◌∷◌, ◌++◌, length, map, get_or, refl, sym, ap, ◌∙◌, subst, arith}
use Rattle.std.specs.Prelude.{All}
use Rattle.std.proofs.lemmas.List.Elements.{All-cons, All-nil}
use Rattle.rt_task.specs.declared.Parts.{Parts}
use Rattle.rt_task.specs.Validity.{IsValid}
use Rattle.rt_rules.specs.declared.history.Entry.{Entry}
use Rattle.rt_rules.specs.Numbers.{numbers_from}
use Rattle.rt_plays.specs.Plays.{ArePlays, IsPlay, group_count, group_with}
use Rattle.rt_plays.specs.Groups.{GroupHistory}
use Rattle.rt_plays.proofs.GroupCount.{groups_are_counted}
use Rattle.trace_text.specs.Groups.{AreGroupsOf, CanReplay, histories}
use Rattle.trace_text.proofs.GroupLaws.{all-groups}
use Rattle.trace_laws.specs.PlayedGroups.{full_group, groups_from}
use Rattle.trace_laws.proofs.Plays.{begun-legal, begun-steps, begun-whole, few-entries}

-- one group more
pub groups-more : (p : Parts) (n : ℕ) (hs : List (List Entry)) (es : List Entry)
    → groups_from p n (hs ++ es ∷ []) ≡ groups_from p n hs ++ full_group p (n + length hs) es ∷ []
groups-more p n [] es = let same : n ≡ n + 0 = omega arith in ap (λ (m : ℕ). full_group p m es ∷ []) same
groups-more p n (xs ∷ hs) es =
    let next : n + 1 + length hs ≡ n + suc (length hs) = omega arith in
    ap (λ (gs : List GroupHistory). full_group p n xs ∷ gs)
    (groups-more p (n + 1) hs es ∙ ap (λ (m : ℕ). groups_from p (n + 1) hs ++ full_group p m es ∷ []) next)

-- ---- they are the groups of the setup, with the histories

with-histories : (p : Parts) (n : ℕ) (hs : List (List Entry)) → histories (groups_from p n hs) ≡ hs
with-histories p n [] = refl
with-histories p n (es ∷ hs) = ap (λ (xs : List (List Entry)). es ∷ xs) (with-histories p (n + 1) hs)

with-numbers : (p : Parts) (n : ℕ) (hs : List (List Entry)) → map (λ (h : GroupHistory). h.group) (groups_from p n hs) ≡ numbers_from n (length hs)
with-numbers p n [] = refl
with-numbers p n (es ∷ hs) = let next : n + 1 ≡ suc n = omega arith in ap (λ (ns : List ℕ). n ∷ ns) (with-numbers p (n + 1) hs ∙ ap (λ (m : ℕ). numbers_from m (length hs)) next)

with-setup : (p : Parts) (n : ℕ) (hs : List (List Entry)) → All (λ (h : GroupHistory). h.setup ≡ p) (groups_from p n hs)
with-setup p n [] = All-nil (λ (h : GroupHistory). h.setup ≡ p)
with-setup p n (es ∷ hs) = All-cons (λ (h : GroupHistory). h.setup ≡ p) _ (groups_from p (n + 1) hs) refl (with-setup p (n + 1) hs)

with-full : (p : Parts) (n : ℕ) (hs : List (List Entry)) → All (λ (h : GroupHistory). h.spare ≡ 0) (groups_from p n hs)
with-full p n [] = All-nil (λ (h : GroupHistory). h.spare ≡ 0)
with-full p n (es ∷ hs) = All-cons (λ (h : GroupHistory). h.spare ≡ 0) _ (groups_from p (n + 1) hs) refl (with-full p (n + 1) hs)

module _ (p : Parts) (valid : IsValid p) (hs : List (List Entry)) (are : ArePlays p hs) (groups : List GroupHistory) (said : groups ≡ groups_from p 0 hs) where
  pub said-histories : histories groups ≡ hs
  said-histories = ap histories said ∙ with-histories p 0 hs

  pub said-full : All (λ (h : GroupHistory). h.spare ≡ 0) groups
  said-full = subst (λ (xs : List GroupHistory). All (λ (h : GroupHistory). h.spare ≡ 0) xs) (sym said) (with-full p 0 hs)

  pub said-all : AreGroupsOf p groups
  said-all =
      subst (AreGroupsOf p) (sym said)
      (all-groups p (groups_from p 0 hs) valid (with-setup p 0 hs) (with-numbers p 0 hs ∙ ap (numbers_from 0) are.count))

-- ---- and can be replayed

module _ (p : Parts) (valid : IsValid p) where
  pub play-replays : (n : ℕ) (es : List Entry) → n < group_count p → IsPlay (group_with p n) es → CanReplay (full_group p n es)
  play-replays n es low play = record {
    there = (groups_are_counted p n valid).1 low;
    few = few-entries (group_with p n) es valid (begun-whole (group_with p n) es play);
    steps = begun-steps (group_with p n) es valid (begun-whole (group_with p n) es play);
    legal = begun-legal (group_with p n) es (begun-whole (group_with p n) es play);
  }

  with-replays : (n : ℕ) (hs : List (List Entry)) → n + length hs ≤ group_count p → ((i : ℕ) → i < length hs → IsPlay (group_with p (n + i)) (get_or hs i [])) → All CanReplay (groups_from p n hs)
  with-replays n [] few plays = All-nil CanReplay
  with-replays n (es ∷ hs) few plays =
      let here : n + 0 ≡ n = omega arith in
      let play : IsPlay (group_with p n) es = subst (λ (m : ℕ). IsPlay (group_with p m) es) here (plays 0 (omega arith)) in
      All-cons CanReplay _ (groups_from p (n + 1) hs) (play-replays n es (omega arith) play) (with-replays (n + 1) hs (omega arith) later)
    where
      later : (i : ℕ) → i < length hs → IsPlay (group_with p (n + 1 + i)) (get_or hs i [])
      later i low = let next : n + suc i ≡ n + 1 + i = omega arith in subst (λ (m : ℕ). IsPlay (group_with p m) (get_or hs i [])) next (plays (suc i) (omega arith))

  pub plays-replay : (hs : List (List Entry)) → ArePlays p hs → All CanReplay (groups_from p 0 hs)
  plays-replay hs are = with-replays 0 hs (omega (arith, are.count)) at_number
    where
      at_number : (i : ℕ) → i < length hs → IsPlay (group_with p (0 + i)) (get_or hs i [])
      at_number i low = let same : i ≡ 0 + i = omega arith in subst (λ (m : ℕ). IsPlay (group_with p m) (get_or hs i [])) same (are.plays i low)
