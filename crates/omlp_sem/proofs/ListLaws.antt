-- What asking and freeing do to the two lists.
use Rattle.std.proofs.Common.{◌≡◌, ◌≢◌, ℕ, ◌+◌, ◌<◌, ◌≤◌, Bool, true, false, ◌||◌, ◌⊎◌, inl, inr, eqb-true, List, [], ◌∷◌, ◌++◌, length, refl, sym, ap, ◌∙◌, arith, length-append}
use Rattle.std.specs.Prelude.{◌==◌, Option, None, Some}
use Rattle.rt_base.specs.declared.TaskNo.{TaskNo}
use Rattle.rt_base.specs.TaskNos.{number_of_task}
use Rattle.rt_rules.specs.Numbers.{has, without, first, rest, foremost}
use Rattle.rt_rules.proofs.PlacingLaws.{either, or_true, unless}
use Rattle.rt_rules.proofs.BoolLaws.{neither}
use Rattle.rt_rules.proofs.MemberLaws.{has-append, has-push, has-rest, has-without}
use Rattle.rt_rules.proofs.DistinctLaws.{distinct-append, distinct-joined, distinct-rest, distinct-without, length-few, without-gone}
use Rattle.rt_rules.proofs.KeyLaws.{foremost-some}
use Rattle.omlp_sem.specs.OmlpKept.{IsOmlp}

-- a task that neither holds nor waits is in neither list
pub outside_both : (t : ℕ) (fifo queue : List ℕ) → first fifo ≢ Some t → has t (rest fifo ++ queue) ≡ false → (has t fifo ≡ false) × (has t queue ≡ false)
outside_both t [] queue h k = (refl, k)
outside_both t (u ∷ fifo) queue h k =
    let apart : t == u ≡ false = unless (t == u) (λ e. h (ap (λ (n : ℕ). Some n) (sym (eqb-true t u e)))) in
    let p = neither (has t fifo) (has t queue) (sym (has-append t fifo queue) ∙ k) in
    (ap (λ b. b || has t fifo) apart ∙ p.0, p.1)

-- a member of the queue waits
pub queue_waits : (t : ℕ) (fifo queue : List ℕ) → has t queue ≡ true → has t (rest fifo ++ queue) ≡ true
queue_waits t fifo queue h = has-append t (rest fifo) queue ∙ ap (λ b. has t (rest fifo) || b) h ∙ or_true (has t (rest fifo))

rest-held : (fifo : List ℕ) (t : ℕ) → first fifo ≡ Some t → length (rest fifo) + 1 ≡ length fifo
rest-held [] t h = cc
rest-held (u ∷ fifo) t h = omega arith

length-rest : (fifo : List ℕ) → length (rest fifo) ≤ length fifo
length-rest [] = omega arith
length-rest (u ∷ fifo) = omega arith

-- the new holder is missing exactly where nobody waited: where one was handed over
pub nobody-handed : (r : Option TaskNo) (fifo queue : List ℕ) (t : ℕ) → number_of_task r ≡ first (fifo ++ t ∷ []) → (queue ≡ [] → ⊥) → (r ≡ None → fifo ++ queue ≡ []) × (fifo ++ queue ≡ [] → r ≡ None)
nobody-handed r [] queue t e some = (λ n. absurd (let k : None ≡ Some t = ap number_of_task (sym n) ∙ e in cc), λ n. absurd (some n))
nobody-handed r (u ∷ fifo) queue t e some = (λ n. absurd (let k : None ≡ Some u = ap number_of_task (sym n) ∙ e in cc), λ n. cc)

-- and where none was
pub nobody-left : (r : Option TaskNo) (fifo queue : List ℕ) → number_of_task r ≡ first fifo → queue ≡ [] → (r ≡ None → fifo ++ queue ≡ []) × (fifo ++ queue ≡ [] → r ≡ None)
nobody-left None [] queue e none = (λ n. none, λ n. refl)
nobody-left (Some t) [] queue e none = absurd (let k : Some t.0 ≡ None = e in cc)
nobody-left None (u ∷ fifo) queue e none = absurd (let k : None ≡ Some u = e in cc)
nobody-left (Some t) (u ∷ fifo) queue e none = (λ n. cc, λ n. cc)

module _ (cap room capacity : ℕ) (fifo queue : List ℕ) (ok : IsOmlp cap room capacity fifo queue) where
  pub few_in : length fifo + length queue ≤ room
  few_in = omega (arith, length-few room (fifo ++ queue) (distinct-joined fifo queue ok.fifo_once ok.queue_once ok.apart) (λ t h. below t (either (has t fifo) (has t queue) (sym (has-append t fifo queue) ∙ h))), length-append fifo queue)
    where
      below : (t : ℕ) → (has t fifo ≡ true) ⊎ (has t queue ≡ true) → t < room
      below t (inl m) = ok.fifo_below t m
      below t (inr m) = ok.queue_below t m

  -- a task that joins the FIFO list finds a position there
  pub position_in : (t : ℕ) → t < room → has t fifo ≡ false → length fifo < cap → length fifo < capacity
  position_in t below outside short =
      let few : length (t ∷ fifo) ≤ room = length-few room (t ∷ fifo) (outside, ok.fifo_once) (λ u h. under u (either (u == t) (has u fifo) h)) in
      omega (arith, ok.reserved)
    where
      under : (u : ℕ) → (u == t ≡ true) ⊎ (has u fifo ≡ true) → u < room
      under u (inl m) = let e : u ≡ t = eqb-true u t m in omega arith
      under u (inr m) = ok.fifo_below u m

  pub omlp-fifo : (t : ℕ) → t < room → has t fifo ≡ false → has t queue ≡ false → length fifo < cap → IsOmlp cap room capacity (fifo ++ t ∷ []) queue
  omlp-fifo t below outside away short = record {
    limit = ok.limit;
    fifo_once = distinct-append t fifo ok.fifo_once outside;
    queue_once = ok.queue_once;
    apart = λ u h. split u (either (u == t) (has u fifo) (sym (has-push u t fifo) ∙ h));
    fifo_below = λ u h. under u (either (u == t) (has u fifo) (sym (has-push u t fifo) ∙ h));
    queue_below = ok.queue_below;
    short = omega (arith, length-append fifo (t ∷ []));
    reserved = ok.reserved;
  }
    where
      split : (u : ℕ) → (u == t ≡ true) ⊎ (has u fifo ≡ true) → has u queue ≡ false
      split u (inl m) = ap (λ n. has n queue) (eqb-true u t m) ∙ away
      split u (inr m) = ok.apart u m

      under : (u : ℕ) → (u == t ≡ true) ⊎ (has u fifo ≡ true) → u < room
      under u (inl m) = let e : u ≡ t = eqb-true u t m in omega arith
      under u (inr m) = ok.fifo_below u m

  pub omlp-queue : (t : ℕ) → t < room → has t fifo ≡ false → has t queue ≡ false → IsOmlp cap room capacity fifo (queue ++ t ∷ [])
  omlp-queue t below outside away = record {
    limit = ok.limit;
    fifo_once = ok.fifo_once;
    queue_once = distinct-append t queue ok.queue_once away;
    apart = λ u h. has-push u t queue ∙ rw (ok.apart u h, differ u h);
    fifo_below = ok.fifo_below;
    queue_below = λ u h. under u (either (u == t) (has u queue) (sym (has-push u t queue) ∙ h));
    short = ok.short;
    reserved = ok.reserved;
  }
    where
      differ : (u : ℕ) → has u fifo ≡ true → u == t ≡ false
      differ u h = unless (u == t) (λ e. let s : u ≡ t = eqb-true u t e in let n : has t fifo ≡ true = ap (λ i. has i fifo) (sym s) ∙ h in cc)

      under : (u : ℕ) → (u == t ≡ true) ⊎ (has u queue ≡ true) → u < room
      under u (inl m) = let e : u ≡ t = eqb-true u t m in omega arith
      under u (inr m) = ok.queue_below u m

  pub omlp-rest : IsOmlp cap room capacity (rest fifo) queue
  omlp-rest = record {
    limit = ok.limit;
    fifo_once = distinct-rest fifo ok.fifo_once;
    queue_once = ok.queue_once;
    apart = λ u h. ok.apart u (has-rest u fifo h);
    fifo_below = λ u h. ok.fifo_below u (has-rest u fifo h);
    queue_below = ok.queue_below;
    short = omega (arith, ok.short, length-rest fifo);
    reserved = ok.reserved;
  }

  pub omlp-handed : (above : ℕ → ℕ → Bool) (held t : ℕ) → first fifo ≡ Some held → Some t ≡ foremost above queue → IsOmlp cap room capacity (rest fifo ++ t ∷ []) (without t queue)
  omlp-handed above held t holds chosen = record {
    limit = ok.limit;
    fifo_once = distinct-append t (rest fifo) (distinct-rest fifo ok.fifo_once) (unless (has t (rest fifo)) (λ h. let n : has t queue ≡ false = ok.apart t (has-rest t fifo h) in let k : has t queue ≡ true = there in cc));
    queue_once = distinct-without t queue ok.queue_once;
    apart = λ u h. split u (either (u == t) (has u (rest fifo)) (sym (has-push u t (rest fifo)) ∙ h));
    fifo_below = λ u h. under u (either (u == t) (has u (rest fifo)) (sym (has-push u t (rest fifo)) ∙ h));
    queue_below = λ u h. ok.queue_below u (has-without u t queue h);
    short = omega (arith, ok.short, rest-held fifo held holds, length-append (rest fifo) (t ∷ []));
    reserved = ok.reserved;
  }
    where
      there : has t queue ≡ true
      there = (foremost-some above queue t (sym chosen)).0

      split : (u : ℕ) → (u == t ≡ true) ⊎ (has u (rest fifo) ≡ true) → has u (without t queue) ≡ false
      split u (inl m) = ap (λ n. has n (without t queue)) (eqb-true u t m) ∙ without-gone t queue ok.queue_once
      split u (inr m) = unless (has u (without t queue)) (λ h. let n : has u queue ≡ false = ok.apart u (has-rest u fifo m) in let k : has u queue ≡ true = has-without u t queue h in cc)

      under : (u : ℕ) → (u == t ≡ true) ⊎ (has u (rest fifo) ≡ true) → u < room
      under u (inl m) = let e : u ≡ t = eqb-true u t m in omega (arith, ok.queue_below t there)
      under u (inr m) = ok.fifo_below u (has-rest u fifo m)
