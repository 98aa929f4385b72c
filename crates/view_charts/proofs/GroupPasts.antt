-- The groups of a setup with their pasts, one after the other; and what is made of each, in a list.
use Rattle.std.proofs.Common.{◌≡◌, ◌∙◌, ℕ, suc, ◌+◌, ◌<◌, ◌≤◌, List, [], ◌∷◌, ◌++◌, length, map, drop, get_or, sym, ap, arith, append_assoc, append-nil}
use Rattle.std.proofs.Math.Seq.{drop-cons}
use Rattle.rt_task.specs.declared.Parts.{Parts}
use Rattle.rt_model.specs.Group.{Group}
use Rattle.rt_model.specs.Histories.{past_of}
use Rattle.rt_model.specs.Past.{Past}
use Rattle.rt_plays.specs.Groups.{GroupHistory, group_of, past}
use Rattle.chart_texts.specs.Charts.{pasts_from}
use Rattle.trace_text.specs.Groups.{AreGroupsOf, histories}
use Rattle.trace_text.proofs.LineLaws.{history_group}
use Rattle.trace_text.proofs.ReplayLaws.{drop_end}

-- those from one on
abbrev pub pasts_behind : Parts → List GroupHistory → ℕ → List (Group × Past)
pasts_behind p hs i = pasts_from p i (histories (drop i hs))

pub pasts-next : (p : Parts) (hs : List GroupHistory) (i : ℕ) (h : GroupHistory) → AreGroupsOf p hs → i < length hs → h ≡ get_or hs i h
    → pasts_behind p hs i ≡ (group_of h, past h) ∷ pasts_behind p hs (i + 1)
pasts-next p hs i h are low is =
    let g : Group = record { setup = p; number = i } in
    let next : i + 1 ≡ suc i = omega arith in
    let same : group_of h ≡ g = ap group_of is ∙ history_group p hs i h are low in
    ap (λ (xs : List GroupHistory). pasts_from p i (histories xs)) (drop-cons hs i h low)
    ∙ ap (λ (y : GroupHistory). (g, past_of g y.entries) ∷ pasts_from p (i + 1) (histories (drop (suc i) hs))) (sym is)
    ∙ ap (λ (x : Group). (x, past_of x h.entries) ∷ pasts_from p (i + 1) (histories (drop (suc i) hs))) (sym same)
    ∙ ap (λ n. (group_of h, past h) ∷ pasts_from p (i + 1) (histories (drop n hs))) (sym next)

pub pasts-end : (p : Parts) (hs : List GroupHistory) (i : ℕ) → length hs ≤ i → pasts_behind p hs i ≡ []
pasts-end p hs i all = ap (λ (xs : List GroupHistory). pasts_from p i (histories xs)) (drop_end hs i all)

-- ---- what is made of each

module _ {X : Type 0} (make : Group → Past → X) where
  abbrev pub made_of : List (Group × Past) → List X
  made_of gs = map (λ (x : Group × Past). make x.0 x.1) gs

  module _ (p : Parts) (hs : List GroupHistory) (are : AreGroupsOf p hs) where
    pub made-more : (i : ℕ) (h : GroupHistory) → i < length hs → h ≡ get_or hs i h → (made all more : List X) (x : X) → x ≡ make (group_of h) (past h)
        → more ≡ made ++ x ∷ [] → made ++ made_of (pasts_behind p hs i) ≡ all → more ++ made_of (pasts_behind p hs (i + 1)) ≡ all
    made-more i h low is made all more x shown put before =
        let rest : List X = made_of (pasts_behind p hs (i + 1)) in
        ap (λ xs. xs ++ rest) put ∙ append_assoc made (x ∷ []) rest ∙ ap (λ y. made ++ y ∷ rest) shown ∙ ap (λ gs. made ++ made_of gs) (sym (pasts-next p hs i h are low is)) ∙ before

    pub made-all : (i : ℕ) → length hs ≤ i → (made all : List X) → made ++ made_of (pasts_behind p hs i) ≡ all → made ≡ all
    made-all i beyond made all before = sym (append-nil made) ∙ ap (λ gs. made ++ made_of gs) (sym (pasts-end p hs i beyond)) ∙ before
