-- Placing links for a top in which one task left and one came, where they were placed before.
use Rattle.std.proofs.Common.{◌≡◌, ℕ, suc, Bool, true, false, not, ◌&&◌, ◌||◌, cond, eqb-true, List, [], ◌∷◌, length, refl, sym, ap, ◌∙◌, arith}
use Rattle.std.specs.Prelude.{Option, None, Some, ◌==◌, filter}
use Rattle.rt_rules.specs.Distinct.{IsDistinct}
use Rattle.rt_rules.specs.Numbers.{has, is}
use Rattle.rt_rules.specs.Placing.{link_at, filled, kept, kept_link, placed, tasks_in}
use Rattle.rt_rules.proofs.BoolLaws.{and_false, and_true, clash, neither, or_true, unless}
use Rattle.rt_rules.proofs.LinkLaws.{has-link_at}
use Rattle.rt_rules.proofs.PlacingLaws.{distinct-filter, distinct-head, equal_self, has-filter}
use Rattle.ready_queue.specs.Exchanges.{IsExchanged}
use Rattle.link_table.specs.Linked.{Linked, exchanged, first_taken, first_taken_by, without_link, CanExchange, IsAmong, IsPlacedFor, IsSound}
use Rattle.link_table.proofs.AmongLaws.{among-placed}
use Rattle.link_table.proofs.Filling.{filled-first, filled-none}
use Rattle.link_table.proofs.SoundLaws.{sound-placed}
use Rattle.link_table.proofs.StayLaws.{AreLinked, kept-all, kept-here, placed-linked, runs_where_linked}

-- ---- the one that left loses its link alone

-- a processor loses its link to a task that is not of the top, where it runs none of the top but that one
kept-left : (top running : List ℕ) (r : Option ℕ) (v : ℕ) → has v top ≡ false → ((t : ℕ) → is t r ≡ true → has t top ≡ true → t == v ≡ true) → kept_link top running r (Some v) ≡ None
kept-left top running None v out there = rw out
kept-left top running (Some w) v out there = rw (unless (has w top) no, out)
  where
    no : has w top ≡ true → ⊥
    no h = clash (has v top) (ap (λ n. has n top) (sym (eqb-true w v (there w (equal_self w) h))) ∙ h) out

kept-without_link : (top running : List ℕ) (left : Option ℕ) (rs ls : List (Option ℕ)) → length rs ≡ length ls → IsDistinct (tasks_in ls) → ((t : ℕ) → is t left ≡ true → has t top ≡ false)
    → ((t k : ℕ) → is t (link_at rs k) ≡ true → has t top ≡ true → is t (link_at ls k) ≡ true)
    → ((t k : ℕ) → is t (link_at ls k) ≡ true → is t left ≡ false → has t top ≡ true)
    → ((t k : ℕ) → is t (link_at ls k) ≡ true → has t running ≡ true → is t (link_at rs k) ≡ true)
    → kept top running rs ls ≡ without_link left ls
kept-without_link top running None rs ls same once out there of_top home = kept-all top running rs ls same there (λ t k h. of_top t k h refl) home
kept-without_link top running (Some u) [] [] same once out there of_top home = refl
kept-without_link top running (Some u) [] (l ∷ ls) same once out there of_top home = absurd (omega arith)
kept-without_link top running (Some u) (r ∷ rs) [] same once out there of_top home = absurd (omega arith)
kept-without_link top running (Some u) (r ∷ rs) (None ∷ ls) same once out there of_top home =
    let here : kept_link top running r None ≡ None = kept-here top running r None (λ t. there t 0) (λ t h. cc) (λ t h. cc) in
    let later = kept-without_link top running (Some u) rs ls (omega arith) once out (λ t k. there t (suc k)) (λ t k. of_top t (suc k)) (λ t k. home t (suc k)) in
    ap (λ x. x ∷ kept top running rs ls) here ∙ ap (λ xs. None ∷ xs) later
kept-without_link top running (Some u) (r ∷ rs) (Some v ∷ ls) same once out there of_top home =
    by_case (u == v) refl (kept-without_link top running (Some u) rs ls (omega arith) once.1 out (λ t k. there t (suc k)) (λ t k. of_top t (suc k)) (λ t k. home t (suc k)))
  where
    by_case : (b : Bool) → u == v ≡ b → kept top running rs ls ≡ without_link (Some u) ls → kept top running (r ∷ rs) (Some v ∷ ls) ≡ cond b (None ∷ ls) (Some v ∷ without_link (Some u) ls)
    by_case true e later =
        let one : u ≡ v = eqb-true u v e in
        let here : kept_link top running r (Some v) ≡ None = kept-left top running r v (out v (rw one (equal_self v))) (λ t. there t 0) in
        let other = λ (t k : ℕ) (h : is t (link_at ls k) ≡ true). unless (t == u) (λ m. clash (has v (tasks_in ls)) (ap (λ n. has n (tasks_in ls)) (sym (eqb-true t u m ∙ one)) ∙ has-link_at t ls k h) once.0) in
        let rest = kept-all top running rs ls (omega arith) (λ t k. there t (suc k)) (λ t k h. of_top t (suc k) h (other t k h)) (λ t k. home t (suc k)) in
        ap (λ x. x ∷ kept top running rs ls) here ∙ ap (λ xs. None ∷ xs) rest
    by_case false e later =
        let stays = λ (t : ℕ) (h : t == v ≡ true). unless (t == u) (λ m. clash (u == v) (rw (sym (eqb-true t u m)) h) e) in
        let here : kept_link top running r (Some v) ≡ Some v = kept-here top running r (Some v) (λ t. there t 0) (λ t h. of_top t 0 h (stays t h)) (λ t. home t 0) in
        ap (λ x. x ∷ kept top running rs ls) here ∙ ap (λ xs. Some v ∷ xs) later

has-without_link : (t : ℕ) (left : Option ℕ) (ls : List (Option ℕ)) → IsDistinct (tasks_in ls) → has t (tasks_in (without_link left ls)) ≡ has t (tasks_in ls) && not (is t left)
has-without_link t None ls once = sym (and_true (has t (tasks_in ls)))
has-without_link t (Some u) [] once = refl
has-without_link t (Some u) (None ∷ ls) once = has-without_link t (Some u) ls once
has-without_link t (Some u) (Some v ∷ ls) once = by_case (u == v) refl (has-without_link t (Some u) ls once.1)
  where
    gone : (c : Bool) → t == v ≡ c → has t (tasks_in ls) ≡ (c || has t (tasks_in ls)) && not c
    gone true e = distinct-head t (Some v) ls once e
    gone false e = sym (and_true (has t (tasks_in ls)))

    other : u == v ≡ false → (c : Bool) → t == v ≡ c → c || (has t (tasks_in ls) && not (t == u)) ≡ (c || has t (tasks_in ls)) && not (t == u)
    other e true h = sym (ap not (unless (t == u) (λ m. clash (u == v) (rw (sym (eqb-true t u m)) h) e)))
    other e false h = refl

    by_case : (b : Bool) → u == v ≡ b → has t (tasks_in (without_link (Some u) ls)) ≡ has t (tasks_in ls) && not (t == u) → has t (tasks_in (cond b (None ∷ ls) (Some v ∷ without_link (Some u) ls))) ≡ (t == v || has t (tasks_in ls)) && not (t == u)
    by_case true e later = rw (eqb-true u v e) (gone (t == v) refl)
    by_case false e later = ap (λ b. t == v || b) later ∙ other e (t == v) refl

-- ---- the one that came alone takes a processor that is left

abbrev listed : Option ℕ → List ℕ
listed None = []
listed (Some t) = t ∷ []

-- a distinct list of one task at most
distinct-listed : (xs : List ℕ) (o : Option ℕ) → IsDistinct xs → ((t : ℕ) → has t xs ≡ is t o) → xs ≡ listed o
distinct-listed [] None once each = refl
distinct-listed [] (Some u) once each = let n = each u in let m = equal_self u in cc
distinct-listed (x ∷ xs) None once each = let n = each x in let m = equal_self x in absurd (clash (x == x) m (neither (x == x) (has x xs) n).0)
distinct-listed (x ∷ []) (Some u) once each = ap (λ n. n ∷ []) (eqb-true x u (sym (each x) ∙ rw (equal_self x)))
distinct-listed (x ∷ y ∷ xs) (Some u) once each =
    let one : x ≡ u = eqb-true x u (sym (each x) ∙ rw (equal_self x)) in
    let two : y ≡ u = eqb-true y u (sym (each y) ∙ rw (equal_self y) (or_true (y == x))) in
    let apart : x == y ≡ false = (neither (x == y) (has x xs) once.0).0 in
    absurd (clash (x == y) (rw (one, two) (equal_self u)) apart)

filled-listed : (o : Option ℕ) (ls : List (Option ℕ)) → filled ls (listed o) ≡ first_taken_by o ls
filled-listed None ls = filled-none ls
filled-listed (Some t) ls = sym (filled-first t [] ls) ∙ filled-none (first_taken t ls)

module _ (l : Linked) (old new : List ℕ) (left came : Option ℕ) (sound : IsSound l) (change : IsExchanged old new left came) (before : IsPlacedFor old l) (once : IsDistinct new)
    (idle : (t : ℕ) → is t came ≡ true → has t (tasks_in l.runs) ≡ false) where
  are : AreLinked old l.runs l.links
  are = placed-linked old l sound before.once before.fits before.placed

  abbrev ks : List (Option ℕ)
  ks = kept new (tasks_in l.runs) l.runs l.links

  -- what left is not of the new top
  out : (t : ℕ) → is t left ≡ true → has t new ≡ false
  out t h = change.first t ∙ rw (h, and_false) (unless (is t came) (λ k. clash (has t old) (change.was t h) (change.was_not t k)))

  there : (t k : ℕ) → is t (link_at l.runs k) ≡ true → has t new ≡ true → is t (link_at l.links k) ≡ true
  there t k h of_new = are.where_it_runs t k h (was (has t old) (is t left) (is t came) (sym (change.first t) ∙ of_new) (λ c. clash (has t (tasks_in l.runs)) (has-link_at t l.runs k h) (idle t c)))
    where
      was : (a b c : Bool) → (a && not b) || c ≡ true → (c ≡ true → ⊥) → a ≡ true
      was true b c h never = refl
      was false b c h never = absurd (never h)

  of_top : (t k : ℕ) → is t (link_at l.links k) ≡ true → is t left ≡ false → has t new ≡ true
  of_top t k h stays = let linked : has t old ≡ true = sym (are.top_alone t) ∙ has-link_at t l.links k h in change.first t ∙ rw (linked, stays) refl

  kept-exchanged : ks ≡ without_link left l.links
  kept-exchanged = kept-without_link new (tasks_in l.runs) left l.runs l.links sound.same_length sound.linked_once out there of_top (runs_where_linked l sound)

  new-kept : (t : ℕ) → has t (filter (λ t. not (has t (tasks_in ks))) new) ≡ is t came
  new-kept t =
      has-filter (λ t. not (has t (tasks_in ks))) t new
      ∙ ap (λ b. has t new && not b) (ap (λ ls. has t (tasks_in ls)) kept-exchanged ∙ has-without_link t left l.links sound.linked_once ∙ ap (λ b. b && not (is t left)) (are.top_alone t))
      ∙ ap (λ b. b && not (has t old && not (is t left))) (change.first t)
      ∙ only (has t old) (is t left) (is t came) (change.was_not t)
    where
      only : (a b c : Bool) → (c ≡ true → a ≡ false) → ((a && not b) || c) && not (a && not b) ≡ c
      only true true c h = and_true c
      only true false true h = cc (h refl)
      only true false false h = refl
      only false b c h = and_true c

  pub placed-exchanged : placed new l.runs l.links ≡ exchanged left came l.links
  placed-exchanged =
      ap (filled ks) (distinct-listed (filter (λ t. not (has t (tasks_in ks))) new) came (distinct-filter (λ t. not (has t (tasks_in ks))) new once) new-kept)
      ∙ filled-listed came ks ∙ ap (first_taken_by came) kept-exchanged

-- ---- what the exchange keeps

pub sound-exchanged : (l : Linked) (left came : Option ℕ) → IsSound l → CanExchange l left came → IsSound (record l { links = exchanged left came l.links })
sound-exchanged l left came sound can = rw (← placed-exchanged l can.old can.new left came sound can.exchanged can.placed can.once can.idle) (sound-placed l can.new sound can.once can.fits)

pub among-exchanged : (l : Linked) (left came : Option ℕ) → IsSound l → CanExchange l left came → (ts : List ℕ) → ((t : ℕ) → is t came ≡ true → has t ts ≡ true) → IsAmong ts l
    → IsAmong ts (record l { links = exchanged left came l.links })
among-exchanged l left came sound can ts inside among = rw (← placed-exchanged l can.old can.new left came sound can.exchanged can.placed can.once can.idle) (among-placed l can.new sound can.once can.fits ts all among)
  where
    are : AreLinked can.old l.runs l.links
    are = placed-linked can.old l sound can.placed.once can.placed.fits can.placed.placed

    by_case : (t : ℕ) (a b c : Bool) → (a && not b) || c ≡ true → (a ≡ true → has t ts ≡ true) → (c ≡ true → has t ts ≡ true) → has t ts ≡ true
    by_case t true b c h was new = was refl
    by_case t false b c h was new = new h

    all : (t : ℕ) → has t can.new ≡ true → has t ts ≡ true
    all t h = by_case t (has t can.old) (is t left) (is t came) (sym (can.exchanged.first t) ∙ h) (λ k. among.links t (are.top_alone t ∙ k)) (inside t)
