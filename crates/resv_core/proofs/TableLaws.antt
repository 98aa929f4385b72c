-- Table reservations of a cluster.
use Rattle.std.proofs.Common.{◌≡◌, ℕ, zero, suc, ◌-◌, ◌%◌, ◌<◌, ◌≤◌, Bool, true, false, not, ◌&&◌, ◌||◌, cond, List, [], ◌∷◌, ◌++◌, length, map, take, get_or, append_assoc, length-take, eqb-true, leb-true, ltb-true, ltb-false, refl, sym, ap, ◌∙◌, subst, arith}
use Rattle.std.specs.Prelude.{Option, None, Some, nat_lt, nat_le, ◌==◌}
use Rattle.std.specs.List.{Contains, find, list_all}
use Rattle.std.proofs.lemmas.Bool.Decides.{nat_tests}
use Rattle.std.proofs.lemmas.List.{append-nil, get_or-map, get_or-take, length-map}
use Rattle.std.proofs.lemmas.List.Folds.{list_all_at}
use Rattle.rt_task.specs.Draft.{draft_of, draft_resv}
use Rattle.rt_task.specs.Refusals.{first_failing}
use Rattle.rt_task.specs.RuleWords.{is_p_res}
use Rattle.rt_task.specs.SharingRules.{resv_sharing}
use Rattle.rt_task.specs.SlotRules.{fit_by, fit_together, overlap, stand_apart}
use Rattle.rt_task.specs.Validity.{IsValid}
use Rattle.rt_task.specs.declared.Parts.{Parts}
use Rattle.rt_task.specs.declared.PluginKind.{PluginKind}
use Rattle.rt_task.specs.declared.PluginKind.TheVariants as plugins
use Rattle.rt_task.specs.declared.ResvKind.{ResvKind}
use Rattle.rt_task.specs.declared.ResvKind.TheVariants.{Polling, Sporadic, Table}
use Rattle.rt_task.specs.declared.Slot.{Slot}
use Rattle.rt_task.specs.declared.draft.DraftResv.{DraftResv}
use Rattle.rt_rules.specs.Numbers.{is}
use Rattle.rt_rules.specs.Slots.{holds, left_in}
use Rattle.rt_rules.proofs.BoolLaws.{both}
use Rattle.rt_model.specs.Group.{Group, no_resv, resv, served_by}
use Rattle.rt_model.specs.Links.{linked}
use Rattle.rt_model.specs.Past.{Past, now}
use Rattle.rt_model.specs.Reservations.{front, left, left_by, slot_now}
use Rattle.rt_model.specs.Tops.{eligible, is_served}
use Rattle.rt_laws.proofs.links.LinkedTasks.{IsLinked, linked-eligible}
use Rattle.rt_laws.proofs.ValidSets.{keeps_rows}
use Rattle.resv_core.specs.Tables.{HasClock, IsOfCluster, IsTableOf, LinkedInSlot, OneHasClock, OneHasLeft, TablesAreFollowed}
use Rattle.resv_core.proofs.ValidClients.{tied}

-- ---- two reservations of a valid set

pairs : {A : Type 0} (rule : List A → A → Bool) (earlier xs : List A) (j : ℕ) (d : A) → first_failing rule earlier xs ≡ None → j < length xs → rule (earlier ++ take j xs) (get_or xs j d) ≡ true
pairs rule earlier [] j d h low = absurd (omega arith)
pairs rule earlier (x ∷ xs) zero d h low = by_case (rule earlier x) refl h
  where
    by_case : (b : Bool) → rule earlier x ≡ b → cond b (first_failing rule (earlier ++ x ∷ []) xs) (Some (length earlier)) ≡ None → rule (earlier ++ []) x ≡ true
    by_case true e k = ap (λ es. rule es x) (append-nil earlier) ∙ e
    by_case false e k = cc
pairs rule earlier (x ∷ xs) (suc j) d h low = by_case (rule earlier x) h (λ k. pairs rule (earlier ++ x ∷ []) xs j d k (omega arith))
  where
    by_case : (b : Bool) → cond b (first_failing rule (earlier ++ x ∷ []) xs) (Some (length earlier)) ≡ None → (first_failing rule (earlier ++ x ∷ []) xs ≡ None → rule ((earlier ++ x ∷ []) ++ take j xs) (get_or xs j d) ≡ true) → rule (earlier ++ x ∷ take j xs) (get_or xs j d) ≡ true
    by_case true k rest = ap (λ es. rule es (get_or xs j d)) (sym (append_assoc earlier (x ∷ []) (take j xs))) ∙ rest k
    by_case false k rest = cc

all-at : {A : Type 0} (p : A → Bool) (xs : List A) (i : ℕ) (d : A) → list_all p xs ≡ true → i < length xs → p (get_or xs i d) ≡ true
all-at p xs i d h low = by_case (p (get_or xs i d)) refl
  where
    by_case : (b : Bool) → p (get_or xs i d) ≡ b → b ≡ true
    by_case true e = refl
    by_case false e = sym (list_all_at p xs i d low e) ∙ h

module _ (p : Parts) (valid : IsValid p) where
  drafts : List DraftResv
  drafts = map draft_resv p.resvs

  at-slot : (i : ℕ) → i < length p.resvs → get_or (map draft_resv p.resvs) i (draft_resv no_resv) ≡ draft_resv (get_or p.resvs i no_resv)
  at-slot i low = get_or-map draft_resv p.resvs i no_resv (draft_resv no_resv) low

  kept : (j : ℕ) → j < length p.resvs → (is_p_res p.plugin ≡ true) × (list_all (λ q. fit_together q (get_or (map draft_resv p.resvs) j (draft_resv no_resv))) (take j (map draft_resv p.resvs)) ≡ true)
  unfolding resv_sharing
  kept j low =
      both _ _ (pairs (resv_sharing (draft_of p)) [] (map draft_resv p.resvs) j (draft_resv no_resv) (keeps_rows p valid).resvs (omega (arith, low, length-map p.resvs draft_resv)))

  fit : (i j : ℕ) → i < j → j < length p.resvs → fit_together (draft_resv (get_or p.resvs i no_resv)) (draft_resv (get_or p.resvs j no_resv)) ≡ true
  fit i j before low =
      let wide : length (map draft_resv p.resvs) ≡ length p.resvs = length-map p.resvs draft_resv in
      let inside : i < length (take j (map draft_resv p.resvs)) = omega (arith, before, low, wide, length-take j (map draft_resv p.resvs)) in
      let x : DraftResv = get_or (map draft_resv p.resvs) j (draft_resv no_resv) in
      let one = all-at (λ q. fit_together q x) (take j (map draft_resv p.resvs)) i (draft_resv no_resv) (kept j low).1 inside in
      ap (λ (a : DraftResv). fit_together a (draft_resv (get_or p.resvs j no_resv))) (sym (at-slot i (omega (arith, before, low))) ∙ sym (get_or-take j (map draft_resv p.resvs) i (draft_resv no_resv) before))
      ∙ ap (fit_together (get_or (take j (map draft_resv p.resvs)) i (draft_resv no_resv))) (sym (at-slot j low))
      ∙ one

p_res-is : (k : PluginKind) → is_p_res k ≡ true → k ≡ plugins.PRes
p_res-is plugins.PRes h = refl
p_res-is plugins.GsnEdf h = cc
p_res-is plugins.CEdf h = cc
p_res-is plugins.PsnEdf h = cc
p_res-is plugins.PFp h = cc

-- of one cluster
fits-beside : (q r : DraftResv) → q.cluster ≡ r.cluster → fit_together q r ≡ true → fit_by q.kind r.kind q r ≡ true
fits-beside q r same h = let e : q.cluster == r.cluster ≡ true = grind (arith, nat_tests, same) in sym (ap (λ b. not b || fit_by q.kind r.kind q r) e) ∙ h

tables-together : (k l : ResvKind) (q r : DraftResv) → fit_by k l q r ≡ true → (k ≡ Table → l ≡ Table) × (l ≡ Table → k ≡ Table)
tables-together Table Table q r h = (λ e. refl, λ e. refl)
tables-together Table Polling q r h = cc
tables-together Table Sporadic q r h = cc
tables-together Polling Table q r h = cc
tables-together Polling Polling q r h = (λ e. e, λ e. e)
tables-together Polling Sporadic q r h = (λ e. absurd cc, λ e. absurd cc)
tables-together Sporadic Table q r h = cc
tables-together Sporadic Polling q r h = (λ e. absurd cc, λ e. absurd cc)
tables-together Sporadic Sporadic q r h = (λ e. e, λ e. e)

apart : (k l : ResvKind) (q r : DraftResv) → k ≡ Table → l ≡ Table → fit_by k l q r ≡ true → (q.period ≡ r.period) × (stand_apart q.slots r.slots ≡ true)
apart k l q r e f h =
    let two = both (q.period == r.period) (stand_apart q.slots r.slots) (sym (ap (λ m. fit_by Table m q r) f) ∙ sym (ap (λ m. fit_by m l q r) e) ∙ h) in
    (eqb-true q.period r.period two.0, two.1)

-- ---- the reservations of a cluster

module _ (g : Group) (valid : IsValid g.setup) (c : ℕ) where
  plugin-is : (r : ℕ) → IsOfCluster g c r → g.setup.plugin ≡ plugins.PRes
  plugin-is r of = let low = of.low in let high = of.high in p_res-is g.setup.plugin (kept g.setup valid (r - 1) (omega (arith, low, high))).0

  fit-here : (r s : ℕ) → IsOfCluster g c r → IsOfCluster g c s → r < s → fit_by (resv g r).kind (resv g s).kind (draft_resv (resv g r)) (draft_resv (resv g s)) ≡ true
  unfolding resv
  fit-here r s of os before =
      let low = of.low in
      let high = os.high in
      let same : (draft_resv (get_or g.setup.resvs (r - 1) no_resv)).cluster ≡ (draft_resv (get_or g.setup.resvs (s - 1) no_resv)).cluster = of.cluster ∙ sym os.cluster in
      fits-beside (draft_resv (get_or g.setup.resvs (r - 1) no_resv)) (draft_resv (get_or g.setup.resvs (s - 1) no_resv)) same
      (fit g.setup valid (r - 1) (s - 1) (omega (arith, low, before)) (omega (arith, low, before, high)))

  -- where one is a table all are
  all-tables : (r s : ℕ) → IsTableOf g c r → IsOfCluster g c s → IsTableOf g c s
  all-tables r s table os = record { of_cluster = os; is_table = by_order (nat_lt r s) refl (nat_lt s r) refl }
    where
      by_order : (a : Bool) → nat_lt r s ≡ a → (b : Bool) → nat_lt s r ≡ b → (resv g s).kind ≡ Table
      by_order true e b f = (tables-together _ _ _ _ (fit-here r s table.of_cluster os (ltb-true r s e))).0 table.is_table
      by_order false e true f = (tables-together _ _ _ _ (fit-here s r os table.of_cluster (ltb-true s r f))).1 table.is_table
      by_order false e false f = let same : r ≡ s = (let up = ltb-false r s e in let down = ltb-false s r f in omega (arith, up, down)) in subst (λ n. (resv g n).kind ≡ Table) same table.is_table

  -- of two that have the clock none goes before the other
  none-before : (past : Past) (r s : ℕ) → HasClock g c r past → HasClock g c s past → r < s → ⊥
  none-before past r s has had before =
      let two = apart (resv g r).kind (resv g s).kind (draft_resv (resv g r)) (draft_resv (resv g s)) has.table.is_table had.table.is_table (fit-here r s has.table.of_cluster had.table.of_cluster before) in
      let x = has.slot in
      let y = had.slot in
      let xs : List Slot = (resv g r).slots in
      let ys : List Slot = (resv g s).slots in
      let period : (resv g r).period ≡ (resv g s).period = two.0 in
      let t : ℕ = now past % (resv g s).period in
      let first : holds t x ≡ true = subst (λ n. holds (now past % n) x ≡ true) period has.holds_it in
      let second : holds t y ≡ true = had.holds_it in
      let row : list_all (λ b. not (overlap x b)) ys ≡ true = subst (λ (a : Slot). list_all (λ b. not (overlap a b)) ys ≡ true) has.is_in.2 (all-at (λ a. list_all (λ b. not (overlap a b)) ys) xs has.is_in.0 x two.1 has.is_in.1) in
      let none : not (overlap x y) ≡ true = subst (λ (b : Slot). not (overlap x b) ≡ true) had.is_in.2 (all-at (λ b. not (overlap x b)) ys had.is_in.0 y row had.is_in.1) in
      clash t x y first second none
    where
      clash : (t : ℕ) (x y : Slot) → holds t x ≡ true → holds t y ≡ true → not (overlap x y) ≡ true → ⊥
      clash t x y h k none =
          let a = both (nat_le x.from t) (nat_lt t x.to) h in
          let b = both (nat_le y.from t) (nat_lt t y.to) k in
          let a0 = leb-true x.from t a.0 in
          let a1 = ltb-true t x.to a.1 in
          let b0 = leb-true y.from t b.0 in
          let b1 = ltb-true t y.to b.1 in
          let e : nat_lt x.from y.to ≡ true = grind (arith, nat_tests, a0, b1) in
          let f : nat_lt y.from x.to ≡ true = grind (arith, nat_tests, b0, a1) in
          let over : not (overlap x y) ≡ false = rw (e, f) refl in
          let bad : false ≡ true = sym over ∙ none in
          absurd cc

  one-clock : (past : Past) (r s : ℕ) → HasClock g c r past → HasClock g c s past → r ≡ s
  one-clock past r s has had = by_order (nat_lt r s) refl (nat_lt s r) refl
    where
      by_order : (a : Bool) → nat_lt r s ≡ a → (b : Bool) → nat_lt s r ≡ b → r ≡ s
      by_order true e b f = absurd (none-before past r s has had (ltb-true r s e))
      by_order false e true f = absurd (none-before past s r had has (ltb-true s r f))
      by_order false e false f = let up = ltb-false r s e in let down = ltb-false s r f in omega (arith, up, down)

-- ---- a table with anything left has the clock

found : (t : ℕ) (xs : List Slot) (x : Slot) → find (holds t) xs ≡ Some x → Contains xs x × (holds t x ≡ true)
found t [] x h = cc
found t (y ∷ ys) x h = by_case (holds t y) refl h (λ k. found t ys x k)
  where
    by_case : (b : Bool) → holds t y ≡ b → cond b (Some y) (find (holds t) ys) ≡ Some x → (find (holds t) ys ≡ Some x → Contains ys x × (holds t x ≡ true)) → Contains (y ∷ ys) x × (holds t x ≡ true)
    by_case true e k rest = let same : y ≡ x = cc in ((0, omega arith, same), ap (holds t) (sym same) ∙ e)
    by_case false e k rest = let r = rest k in let there = r.0 in let low = there.1 in ((suc there.0, omega (arith, low), there.2), r.1)

left-has_clock : (g : Group) (c r : ℕ) (past : Past) → IsTableOf g c r → 1 ≤ left g r past → HasClock g c r past
unfolding left left_by slot_now
left-has_clock g c r past table h = by_slot (find (holds (now past % (resv g r).period)) (resv g r).slots) refl (subst (λ k. 1 ≤ left_by g k r past) table.is_table h)
  where
    by_slot : (o : Option Slot) → find (holds (now past % (resv g r).period)) (resv g r).slots ≡ o → 1 ≤ left_in (resv g r).period (now past) (find (holds (now past % (resv g r).period)) (resv g r).slots) → HasClock g c r past
    by_slot None e k = let none : 1 ≤ 0 = subst (λ o. 1 ≤ left_in (resv g r).period (now past) o) e k in absurd (omega (arith, none))
    by_slot (Some x) e k = let f = found _ (resv g r).slots x e in record { table = table; slot = x; is_in = f.0; holds_it = f.1 }

-- ---- what is linked

served-left : (g : Group) (t : ℕ) (past : Past) → g.setup.plugin ≡ plugins.PRes → eligible g t past ≡ true → 1 ≤ left g (served_by g t) past
unfolding eligible is_served
served-left g t past plugin h =
    let served : is_served g g.setup.plugin t past ≡ true = (both _ _ (both _ _ (both _ _ h).1).1).0 in
    let kept : nat_lt 0 (left g (served_by g t) past) && is t (front g (served_by g t) past) ≡ true = subst (λ k. is_served g k t past ≡ true) plugin served in
    ltb-true 0 (left g (served_by g t) past) (both _ _ kept).0

is-itself : (t : ℕ) (o : Option ℕ) → o ≡ Some t → is t o ≡ true
is-itself t o h = rw h (grind (arith, nat_tests))

pub linked_in_slot : LinkedInSlot
linked_in_slot g past valid made c r q t table at h =
    let l : IsLinked g q t past = linked-eligible g made q t (is-itself t (linked g q past) h) in
    let plugin = plugin-is g valid c r table.of_cluster in
    let tie = tied g valid plugin t l.member in
    let of : IsOfCluster g c (served_by g t) = record { low = tie.low; high = tie.high; cluster = tie.at_home ∙ sym l.at_home ∙ at } in
    left-has_clock g c (served_by g t) past (all-tables g valid c r (served_by g t) table of) (served-left g t past plugin l.was_eligible)

pub one_has_clock : OneHasClock
one_has_clock g past valid c r s has had = one-clock g valid c past r s has had

pub one_has_left : OneHasLeft
one_has_left g past valid c r s u table os ou a b =
    one-clock g valid c past s u (left-has_clock g c s past (all-tables g valid c r s table os) a) (left-has_clock g c u past (all-tables g valid c r u table ou) b)

pub tables_are_followed : TablesAreFollowed
tables_are_followed g past valid made = record { links = linked_in_slot g past valid made; left = one_has_left g past valid }
