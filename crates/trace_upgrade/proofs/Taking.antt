-- A group takes the steps of entries again.
use Rattle.std.proofs.Common.{◌≡◌, ℕ, suc, ◌+◌, ◌-◌, ◌<◌, List, [], ◌∷◌, length, drop, get_or, refl, sym, ap, ◌∙◌, subst, arith, append_assoc, append-nil}
use Rattle.std.proofs.Math.Seq.{drop-cons}
use Rattle.std.proofs.lemmas.List.Elements.{All-head, All-tail}
use Rattle.rt_rules.specs.declared.history.Entry.{Entry}
use Rattle.rt_rules.specs.declared.history.Reply.{Reply}
use Rattle.rt_model.specs.Histories.{IsLegalFrom, reply_to}
use Rattle.rt_model.specs.Past.{Past}
use Rattle.rt_model.specs.Steps.{IsStepOf}
use Rattle.rt_model.proofs.Steps.{past_of-append}
use Rattle.rt_task.specs.declared.Parts.{Parts}
use Rattle.rt_plays.proofs.Sentence.{opening-past}
use Rattle.rt_plays.specs.Groups.{GroupHistory, group_of, past, with_entry}
use Rattle.trace_text.specs.Groups.{CanReplay}
use Rattle.trace_upgrade.specs.Said.{CanTake, with_entries}

pub taken-none : (h : GroupHistory) → with_entries [] h ≡ h
taken-none h = let all : h.spare - 0 ≡ h.spare = omega arith in rw (append-nil h.entries, all) refl

-- what holds once the first of the entries was taken
pub record HasTaken (h now : GroupHistory) (e : Entry) (es : List Entry) : Type 0 where
  pub can : CanTake now es
  pub same : with_entries es now ≡ with_entries (e ∷ es) h

taken-entry : (h : GroupHistory) (e : Entry) (es : List Entry) → CanTake h (e ∷ es) → HasTaken h (with_entry e h) e es
taken-entry h e es can =
    let left : h.spare - 1 - length es ≡ h.spare - length (e ∷ es) = omega arith in
    record {
      can = record {
        room = (let all = can.room in omega arith);
        steps = All-tail (λ (x : Entry). IsStepOf (group_of h) x.step) e es can.steps;
        legal = subst (λ (p : Past). IsLegalFrom (group_of h) p es) (sym (past_of-append (group_of h) h.entries e)) can.legal.1;
      };
      same = rw (append_assoc h.entries (e ∷ []) es, left) refl;
    }

-- the reply is the entry's, since both are the answer
pub taken-next : (h now : GroupHistory) (e : Entry) (es : List Entry) (reply : Reply) → CanTake h (e ∷ es) → now ≡ with_entry (record { step = e.step; reply = reply }) h → reply ≡ reply_to (group_of h) e.step (past h) → HasTaken h now e es
taken-next h now e es reply can added answered =
    let same : now ≡ with_entry e h = added ∙ ap (λ (r : Reply). with_entry (record { step = e.step; reply = r }) h) (answered ∙ sym can.legal.0) in
    subst (λ (x : GroupHistory). HasTaken h x e es) (sym same) (taken-entry h e es can)

pub first-step : (h : GroupHistory) (e : Entry) (es : List Entry) → CanTake h (e ∷ es) → IsStepOf (group_of h) e.step
first-step h e es can = All-head (λ (x : Entry). IsStepOf (group_of h) x.step) e es can.steps

-- the entry in this place stands first among those from there on
pub entry-first : (es : List Entry) (i : ℕ) (d : Entry) → i < length es → drop i es ≡ get_or es i d ∷ drop (i + 1) es
entry-first es i d low = let next : suc i ≡ i + 1 = omega arith in drop-cons es i d low ∙ ap (λ (n : ℕ). get_or es i d ∷ drop n es) next

-- opened for the setup and the number of a history
pub opened-for : (h now : GroupHistory) (p : Parts) (n room : ℕ) → now ≡ record { setup = p; group = n; entries = []; spare = room } → p ≡ h.setup → n ≡ h.group
    → now ≡ record { setup = h.setup; group = h.group; entries = []; spare = room }
opened-for h now p n room opened setup group = opened ∙ (λ i. record { setup = setup i; group = group i; entries = []; spare = room })

-- at opening, with room for all of them
module _ (h : GroupHistory) (room : ℕ) (now : GroupHistory) (opened : now ≡ record { setup = h.setup; group = h.group; entries = []; spare = room }) (all : room ≡ length h.entries) where
  pub opened-can : CanReplay h → CanTake now h.entries
  opened-can can =
      subst (λ (x : GroupHistory). CanTake x h.entries) (sym opened) (record {
        room = omega arith;
        steps = can.steps;
        legal = subst (λ (x : Past). IsLegalFrom (group_of h) x h.entries) (sym (opening-past (group_of h))) can.legal;
      })

  pub opened-all : h.spare ≡ 0 → with_entries h.entries now ≡ h
  opened-all full =
      let left : room - length h.entries ≡ h.spare = omega arith in
      ap (with_entries h.entries) opened ∙ ap (λ (n : ℕ). record { setup = h.setup; group = h.group; entries = h.entries; spare = n }) left
