-- The history of a semaphore tells of each task what its states say.
use Rattle.std.proofs.Common.{◌≡◌, ℕ, suc, Bool, true, false, List, [], ◌∷◌, ◌++◌, Option, None, Some, refl, sym, ap, ◌∙◌, subst, eqb-true}
use Rattle.std.specs.Prelude.{◌==◌, if◌then◌else◌}
use Rattle.rt_base.specs.declared.Ask.{Ask}
use Rattle.rt_task.specs.declared.Protocol.{Protocol}
use Rattle.rt_task.specs.declared.Protocol.TheVariants as protocols
use Rattle.rt_rules.specs.Mpcp.{after_ask, passed_on}
use Rattle.rt_rules.specs.Numbers.{first, has, is, without}
use Rattle.rt_rules.specs.SemState.{SemState}
use Rattle.rt_rules.proofs.BoolLaws.{clash, unless}
use Rattle.rt_rules.proofs.DistinctLaws.{distinct-append, distinct-without, without-gone}
use Rattle.rt_rules.proofs.KeyLaws.{foremost-some}
use Rattle.rt_rules.proofs.MemberLaws.{has-first, has-left, has-push, some-is, turned}
use Rattle.rt_rules.proofs.MpcpLaws.{StandsOnce}
use Rattle.rt_model.specs.BaseKeys.{above}
use Rattle.rt_model.specs.Group.{Group}
use Rattle.split_rules.specs.PartPast.{Asks, Deed, Frees, Gets}
use Rattle.split_rules.specs.SemHistories.{IsActAt, IsLegalFrom, after_act, next_by, outcome, state_from}
use Rattle.split_rules.specs.declared.SemAct.{SemAct}
use Rattle.split_rules.specs.declared.SemAct.TheVariants as acts
use Rattle.split_rules.specs.declared.SemEntry.{SemEntry}
use Rattle.split_laws.proofs.TaleLists.{phase-joined, tale-joined}
use Rattle.split_laws.specs.Tales.{Holds, Out, Phase, Waits, got, is_tale, own_deed, phase_from, phase_in, tale_by, tale_from}

-- the next one waits
pub next-waits : (g : Group) (p : Protocol) (ts : List ℕ) (u : ℕ) → next_by g p ts ≡ Some u → has u ts ≡ true
unfolding next_by
next-waits g protocols.Mpcp ts u h = (foremost-some (above g []) ts u h).0
next-waits g protocols.Fmlp ts u h = has-first u ts (some-is u (first ts) h)
next-waits g protocols.Omlp ts u h = has-first u ts (some-is u (first ts) h)
next-waits g protocols.Pcp ts u h = has-first u ts (some-is u (first ts) h)
next-waits g protocols.Srp ts u h = has-first u ts (some-is u (first ts) h)

-- what a deed tells of a task, how it then stands, and that nobody stands twice
pub record IsTold (t : ℕ) (l l' : SemState) (ds : List Deed) : Type 0 where
  pub told : is_tale (phase_in t l) ds ≡ true
  pub phase : phase_in t l' ≡ phase_from (phase_in t l) ds
  pub once : StandsOnce l'

-- the phases of a task, by what is known of it
pub holds-phase : (t : ℕ) (l : SemState) → is t l.holder ≡ true → phase_in t l ≡ Holds
holds-phase t l h = rw h

pub waits-phase : (t : ℕ) (l : SemState) → is t l.holder ≡ false → has t l.waiting ≡ true → phase_in t l ≡ Waits
waits-phase t l h k = rw h (rw k)

pub out-phase : (t : ℕ) (l : SemState) → is t l.holder ≡ false → has t l.waiting ≡ false → phase_in t l ≡ Out
out-phase t l h k = rw h (rw k)

-- a task that asks stands last
once-asked : (u : ℕ) (l : SemState) → StandsOnce l → is u l.holder ≡ false → has u l.waiting ≡ false → (v : ℕ) → is v l.holder ≡ true → has v (l.waiting ++ u ∷ []) ≡ false
once-asked u l once hands out v h =
    rw (has-push v u l.waiting)
    (rw (unless (v == u) (λ k. clash (is u l.holder) (subst (λ (x : ℕ). is x l.holder ≡ true) (eqb-true v u k) h) hands)) (once.apart v h))

module _ (t u : ℕ) (l : SemState) (once : StandsOnce l) where
  -- task u asks, while o holds
  ask-told : (o : Option ℕ) → l.holder ≡ o → is u l.holder ≡ false → has u l.waiting ≡ false → (b : Bool) → u == t ≡ b
      → IsTold t l (after_ask u o l) (if b then Asks (outcome o) ∷ [] else [])
  ask-told None h hands out true e =
      let same : u ≡ t = eqb-true u t e in
      record {
        told = rw (out-phase t l (subst (λ (x : ℕ). is x l.holder ≡ false) same hands) (subst (λ (x : ℕ). has x l.waiting ≡ false) same out));
        phase = holds-phase t (after_ask u None l) (rw (turned t u) e);
        once = record { once = once.once; apart = λ v k. subst (λ (x : ℕ). has x l.waiting ≡ false) (sym (eqb-true v u k)) out };
      }
  ask-told None h hands out false e = record {
    told = refl;
    phase = rw (turned t u) (rw e (rw h));
    once = record { once = once.once; apart = λ v k. subst (λ (x : ℕ). has x l.waiting ≡ false) (sym (eqb-true v u k)) out };
  }
  ask-told (Some v) h hands out true e =
      let same : u ≡ t = eqb-true u t e in
      record {
        told = rw (out-phase t l (subst (λ (x : ℕ). is x l.holder ≡ false) same hands) (subst (λ (x : ℕ). has x l.waiting ≡ false) same out));
        phase = waits-phase t (after_ask u (Some v) l) (subst (λ (x : ℕ). is x l.holder ≡ false) same hands)
            (rw (has-push t u l.waiting) (rw (turned t u) (rw e)));
        once = record { once = distinct-append u l.waiting once.once out; apart = once-asked u l once hands out };
      }
  ask-told (Some v) h hands out false e = record {
    told = refl;
    phase = rw (has-push t u l.waiting) (rw (turned t u) (rw e));
    once = record { once = distinct-append u l.waiting once.once out; apart = once-asked u l once hands out };
  }

-- the semaphore passes on
once-passed : (l : SemState) → StandsOnce l → (o : Option ℕ) → StandsOnce (passed_on o l.waiting)
once-passed l once None = record { once = once.once; apart = λ v k. absurd (clash false k refl) }
once-passed l once (Some w) = record {
  once = distinct-without w l.waiting once.once;
  apart = λ v k. subst (λ (x : ℕ). has x (without w l.waiting) ≡ false) (sym (eqb-true v w k)) (without-gone w l.waiting once.once);
}

module _ (t u : ℕ) (l : SemState) (once : StandsOnce l) (holds : l.holder ≡ Some u) where
  -- task u frees the semaphore, and o is next
  release-told : (o : Option ℕ) → ((w : ℕ) → o ≡ Some w → has w l.waiting ≡ true) → (n : ℕ) → (b : Bool) → u == t ≡ b
      → IsTold t l (passed_on o l.waiting) ((if b then Frees ∷ [] else []) ++ got t n o)
  release-told o waits n true e = own o waits
    where
      same : u ≡ t
      same = eqb-true u t e

      has_it : is t l.holder ≡ true
      has_it = rw holds (rw (turned t u) e)

      gone : has t l.waiting ≡ false
      gone = once.apart t has_it

      other : (w : ℕ) → has w l.waiting ≡ true → t == w ≡ false
      other w k = unless (t == w) (λ x. clash (has t l.waiting) (subst (λ (y : ℕ). has y l.waiting ≡ true) (sym (eqb-true t w x)) k) gone)

      own : (o : Option ℕ) → ((w : ℕ) → o ≡ Some w → has w l.waiting ≡ true) → IsTold t l (passed_on o l.waiting) (Frees ∷ got t n o)
      own None waits = record { told = rw (holds-phase t l has_it); phase = out-phase t (passed_on None l.waiting) refl gone; once = once-passed l once None }
      own (Some w) waits =
          let ne : t == w ≡ false = other w (waits w refl) in
          record {
            told = rw (holds-phase t l has_it) (rw ne);
            phase = rw ne (rw (has-left t w l.waiting ne) (rw gone));
            once = once-passed l once (Some w);
          }
  release-told o waits n false e = other o waits
    where
      not_held : is t l.holder ≡ false
      not_held = rw holds (rw (turned t u) e)

      other : (o : Option ℕ) → ((w : ℕ) → o ≡ Some w → has w l.waiting ≡ true) → IsTold t l (passed_on o l.waiting) (got t n o)
      other None waits = record { told = refl; phase = rw not_held; once = once-passed l once None }
      other (Some w) waits = by_next (t == w) refl
        where
          by_next : (b : Bool) → t == w ≡ b → IsTold t l (passed_on (Some w) l.waiting) (if b then Gets n ∷ [] else [])
          by_next true k = record {
            told = rw (waits-phase t l not_held (subst (λ (x : ℕ). has x l.waiting ≡ true) (sym (eqb-true t w k)) (waits w refl)));
            phase = holds-phase t (passed_on (Some w) l.waiting) k;
            once = once-passed l once (Some w);
          }
          by_next false k = record { told = refl; phase = rw k (rw (has-left t w l.waiting k) (rw not_held)); once = once-passed l once (Some w) }

module _ (g : Group) (p : Protocol) (t : ℕ) where
  act-told : (n u : ℕ) (x : SemAct) (l : SemState) → StandsOnce l → IsActAt g p u x l → IsTold t l (after_act g p u x l) (tale_by t n u x)
  act-told n u (acts.Ask a) l once h = subst (λ (b : Ask). IsTold t l (after_ask u l.holder l) (own_deed t u (Asks b))) (sym h.answer)
      (ask-told t u l once l.holder refl h.free_hands h.outside (u == t) refl)
  act-told n u (acts.Release o) l once h = subst (λ (r : Option ℕ). IsTold t l (passed_on (next_by g p l.waiting) l.waiting) (own_deed t u Frees ++ got t n r)) (sym h.next)
      (release-told t u l once h.holds (next_by g p l.waiting) (λ w k. next-waits g p l.waiting w k) n (u == t) refl)

  -- a whole history
  pub legal-told : (n : ℕ) (es : List SemEntry) (l : SemState) → StandsOnce l → IsLegalFrom g p l es → IsTold t l (state_from g p l es) (tale_from t n es)
  legal-told n [] l once h = record { told = refl; phase = refl; once = once }
  legal-told n (e ∷ es) l once h =
      let a = act-told n e.task.0 e.act l once h.0.act in
      let b = legal-told (suc n) es (after_act g p e.task.0 e.act l) a.once h.1 in
      record {
        told = tale-joined (phase_in t l) (tale_by t n e.task.0 e.act) (tale_from t (suc n) es) a.told (rw (sym a.phase) b.told);
        phase = b.phase ∙ ap (λ (x : Phase). phase_from x (tale_from t (suc n) es)) a.phase ∙ sym (phase-joined (phase_in t l) (tale_by t n e.task.0 e.act) (tale_from t (suc n) es));
        once = b.once;
      }
