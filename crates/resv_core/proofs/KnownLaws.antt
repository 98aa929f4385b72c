-- What the tables of clusters have is not changed as reservations change.
use Rattle.std.proofs.Common.{◌≡◌, ◌≢◌, ℕ, suc, zero, ◌<◌, Bool, true, false, ◌⊎◌, inl, inr, List, [], ◌∷◌, length, map, get_or, set, length-set, get_or-set_same, get_or-set_other, refl, sym, ap, subst, ◌∙◌, arith}
use Rattle.std.specs.Prelude.{Option, None, Some, ◌==◌, ◌||◌, nat_lt, option_map, if◌then◌else◌}
use Rattle.std.specs.List.{list_any}
use Rattle.std.proofs.lemmas.Bool.{cases_eq}
use Rattle.std.proofs.lemmas.Bool.Decides.{nat_tests}
use Rattle.std.proofs.lemmas.List.{get_or-map, get_or_read, length-map}
use Rattle.rt_base.specs.declared.ClusterNo.{ClusterNo}
use Rattle.rt_base.specs.declared.ResvNo.{ResvNo}
use Rattle.rt_task.specs.Validity.{IsValid}
use Rattle.rt_task.specs.declared.Parts.{Parts}
use Rattle.rt_task.specs.declared.Resv.{Resv}
use Rattle.rt_task.specs.declared.ResvKind.{ResvKind}
use Rattle.rt_task.specs.declared.ResvKind.TheVariants.{Polling, Sporadic, Table}
use Rattle.rt_rules.specs.Slots as slots
use Rattle.resv_table.specs.Tables.{HasSlots, Slots, is_table_of, own, served_in, slot_at, table_of}
use Rattle.resv_table.specs.declared.ResvSlot.{ResvSlot}
use Rattle.resv_table.proofs.ValidRows.{few-resvs}
use Rattle.resv_table.proofs.ValidTables.{each_has_its_slots}
use Rattle.resv_core.specs.Known.{AreKnown, AreTables, IsKnown, IsTable, home_of, no_home, in_slot_for, served_by}
use Rattle.resv_core.specs.Served.{IsPlaced, ServerState, charged, charged_by, has_ready, no_server, opened_server, in_slot_at, in_slot_of, refilled_at, settled, settled_by, ticked, ticked_by, ticked_to, ticked_to_by}
use Rattle.resv_core.specs.declared.server.InSlot.{InSlot}
use Rattle.resv_core.proofs.InSlotLaws.{placed-set}
use Rattle.resv_core.proofs.ValidResvs.{valid-home}

-- a change leaves what a reservation is
pub record StaysTable (old new : ServerState) : Type 0 where
  pub kind : new.kind ≡ old.kind
  pub period : new.period ≡ old.period
  pub slots : new.slots ≡ old.slots

pub same-table : (s : ServerState) → StaysTable s s
same-table s = record { kind = refl; period = refl; slots = refl }

known-change : (tables : List (Option Slots)) (home : ClusterNo) (r : ℕ) (old new : ServerState) → StaysTable old new → IsKnown tables home r old → IsKnown tables home r new
known-change tables home r old new same known table clock =
    known (sym same.kind ∙ table) clock ∙ ap (λ p. in_slot_at p old.slots clock) (sym same.period) ∙ ap (λ ss. in_slot_at new.period ss clock) (sym same.slots)

-- one reservation changes
pub known-set : (tables : List (Option Slots)) (homes : List ClusterNo) (servers : List ServerState) (i : ℕ) (s : ServerState) → StaysTable (get_or servers i no_server) s → AreKnown tables homes servers → AreKnown tables homes (set servers i s)
known-set tables homes servers i s same known = record {
  few = (let few = known.few in omega (arith, few, length-set servers i s));
  numbers = known.numbers ∙ sym (length-set servers i s);
  each = λ k low. by_case k (subst (λ n. k < n) (length-set servers i s) low) (cases_eq k i);
}
  where
    by_case : (k : ℕ) → k < length servers → (k ≡ i) ⊎ (k ≢ i) → IsKnown tables (get_or homes k no_home) (suc k) (get_or (set servers i s) k no_server)
    by_case k low (inl e) =
        let inside : i < length servers = omega (arith, low, e) in
        let is : get_or (set servers i s) k no_server ≡ s = ap (λ n. get_or (set servers i s) n no_server) e ∙ get_or-set_same servers i s no_server inside in
        let old : StaysTable (get_or servers k no_server) s = subst (λ n. StaysTable (get_or servers n no_server) s) (sym e) same in
        subst (IsKnown tables (get_or homes k no_home) (suc k)) (sym is) (known-change tables (get_or homes k no_home) (suc k) (get_or servers k no_server) s old (known.each k low))
    by_case k low (inr ne) = subst (IsKnown tables (get_or homes k no_home) (suc k)) (sym (get_or-set_other servers i k s no_server ne)) (known.each k low)

-- so it does as a call has it, which leaves the length of its row of releases and what it is
pub sound-set : (tables : List (Option Slots)) (homes : List ClusterNo) (servers : List ServerState) (whose : List (Option ResvNo)) (i : ℕ) (change : ServerState → ServerState) (old new : ServerState) → i < length servers → old ≡ get_or servers i old → new ≡ change old → ((s : ServerState) → length (change s).releases ≡ length s.releases) → ((s : ServerState) → StaysTable s (change s)) → IsPlaced servers whose × AreKnown tables homes servers → IsPlaced (set servers i new) whose × AreKnown tables homes (set servers i new)
sound-set tables homes servers whose i change old new inside read is rooms stays sound =
    let at : ServerState = get_or servers i no_server in
    let changed : new ≡ change at = is ∙ ap change (get_or_read servers i old inside read no_server) in
    rw changed (placed-set servers whose i (change at) (rooms at) sound.0, known-set tables homes servers i (change at) (stays at) sound.1)

-- each changes
pub known-map : (tables : List (Option Slots)) (homes : List ClusterNo) (servers : List ServerState) (change : ServerState → ServerState) → ((s : ServerState) → StaysTable s (change s)) → AreKnown tables homes servers → AreKnown tables homes (map change servers)
known-map tables homes servers change same known = record {
  few = (let few = known.few in omega (arith, few, length-map servers change));
  numbers = known.numbers ∙ sym (length-map servers change);
  each = λ k low. (let inside : k < length servers = subst (λ n. k < n) (length-map servers change) low in
      subst (IsKnown tables (get_or homes k no_home) (suc k)) (sym (get_or-map change servers k no_server no_server inside)) (known-change tables (get_or homes k no_home) (suc k) (get_or servers k no_server) (change (get_or servers k no_server)) (same (get_or servers k no_server)) (known.each k inside)));
}

-- ---- the calls leave what a reservation is

pub charged-stays : (s : ServerState) → StaysTable s (charged s)
charged-stays s = by_kind s.kind
  where
    by_kind : (k : ResvKind) → StaysTable s (charged_by k s)
    by_kind Polling = record { kind = refl; period = refl; slots = refl }
    by_kind Sporadic = record { kind = refl; period = refl; slots = refl }
    by_kind Table = same-table s

by_test : (s t : ServerState) (b : Bool) → StaysTable s t → StaysTable s (if b then t else s)
by_test s t true h = h
by_test s t false h = same-table s

pub ticked-stays : (old new : ℕ) (s : ServerState) → StaysTable s (ticked old new s)
ticked-stays old new s = by_kind s.kind
  where
    by_kind : (k : ResvKind) → StaysTable s (ticked_by k old new s)
    by_kind Polling = by_test s (refilled_at new s) _ (record { kind = refl; period = refl; slots = refl })
    by_kind Sporadic = same-table s
    by_kind Table = by_test s (record s { in_slot = in_slot_at s.period s.slots new }) _ (record { kind = refl; period = refl; slots = refl })

pub settled-stays : (clock : ℕ) (s : ServerState) → StaysTable s (settled clock s)
settled-stays clock s = by_kind s.kind
  where
    by_loss : (b : Bool) → StaysTable s (if b then s else record s { lost = true })
    by_loss true = same-table s
    by_loss false = record { kind = refl; period = refl; slots = refl }

    by_kind : (k : ResvKind) → StaysTable s (settled_by k clock s)
    by_kind Polling = by_loss (has_ready s.releases)
    by_kind Sporadic = by_test s (refilled_at clock s) _ (record { kind = refl; period = refl; slots = refl })
    by_kind Table = same-table s

-- where the slot is that of the slots
pub ticked_to-is : (slot : Option InSlot) (old new : ℕ) (s : ServerState) → (s.kind ≡ Table → slot ≡ in_slot_at s.period s.slots new) → ticked_to slot old new s ≡ ticked old new s
ticked_to-is slot old new s h = by_kind s.kind h
  where
    by_kind : (k : ResvKind) → (k ≡ Table → slot ≡ in_slot_at s.period s.slots new) → ticked_to_by k slot old new s ≡ ticked_by k old new s
    by_kind Polling h = refl
    by_kind Sporadic h = refl
    by_kind Table h = ap (λ p. if nat_lt old new then record s { in_slot = p } else s) (h refl)

-- ---- the opening

-- what is served of a table is the slot in the slots of the reservation
placed : (n cycle clock : ℕ) (o : Option ResvSlot) → in_slot_for n (option_map (served_in cycle clock) o) ≡ option_map (in_slot_of cycle clock) (own n o)
placed n cycle clock None = refl
placed n cycle clock (Some x) = by_case (x.resv.0 == n)
  where
    by_case : (b : Bool) → (if b then Some (in_slot_of cycle clock x.slot) else None) ≡ option_map (in_slot_of cycle clock) (if b then Some x.slot else None)
    by_case true = refl
    by_case false = refl

any-table : (c : ℕ) (rs : List Resv) (i : ℕ) (d : Resv) → i < length rs → is_table_of c (get_or rs i d) ≡ true → list_any (is_table_of c) rs ≡ true
any-table c [] i d low h = absurd (omega arith)
any-table c (r ∷ rs) zero d low h = ap (λ b. b || list_any (is_table_of c) rs) h
any-table c (r ∷ rs) (suc i) d low h = or_right (is_table_of c r) (any-table c rs i d (omega arith) h)
  where
    or_right : (a : Bool) → list_any (is_table_of c) rs ≡ true → a || list_any (is_table_of c) rs ≡ true
    or_right true k = refl
    or_right false k = k

pub known-opened : (p : Parts) (group : ℕ) (tables : List (Option Slots)) → IsValid p → AreTables p (length p.clusters) tables → AreKnown tables (map home_of p.resvs) (map (opened_server p group) p.resvs)
known-opened p group tables valid are = record {
  few = (let few = few-resvs p valid in omega (arith, few, length-map p.resvs (opened_server p group)));
  numbers = length-map p.resvs home_of ∙ sym (length-map p.resvs (opened_server p group));
  each = λ k low. (let inside : k < length p.resvs = subst (λ n. k < n) (length-map p.resvs (opened_server p group)) low in
      subst (IsKnown tables (get_or (map home_of p.resvs) k no_home) (suc k)) (sym (get_or-map (opened_server p group) p.resvs k no_resv no_server inside))
      (subst (λ h. IsKnown tables h (suc k) (opened_server p group (get_or p.resvs k no_resv))) (sym (get_or-map home_of p.resvs k no_resv no_home inside)) (at k inside)));
}
  where
    no_resv : Resv
    no_resv = record { name = []; cluster = record { 0 = 0 }; kind = Polling; budget = 0; period = 0; prio = 0; slots = [] }

    at : (k : ℕ) → k < length p.resvs → IsKnown tables (get_or p.resvs k no_resv).cluster (suc k) (opened_server p group (get_or p.resvs k no_resv))
    at k inside table clock = by_table (get_or tables (get_or p.resvs k no_resv).cluster.0 None) (are (get_or p.resvs k no_resv).cluster.0 (valid-home p valid k no_resv inside))
      where
        of : is_table_of (get_or p.resvs k no_resv).cluster.0 (get_or p.resvs k no_resv) ≡ true
        of = let itself : (get_or p.resvs k no_resv).cluster.0 == (get_or p.resvs k no_resv).cluster.0 ≡ true = grind (arith, nat_tests) in rw (table, itself) refl

        has : HasSlots (table_of p (get_or p.resvs k no_resv).cluster.0) (suc k) (get_or p.resvs k no_resv)
        has = each_has_its_slots p valid k no_resv inside table

        by_table : (o : Option Slots) → IsTable p (get_or p.resvs k no_resv).cluster.0 o → in_slot_for (suc k) (served_by o clock) ≡ in_slot_at (get_or p.resvs k no_resv).period (get_or p.resvs k no_resv).slots clock
        by_table None h = let bad : false ≡ true = sym h ∙ any-table (get_or p.resvs k no_resv).cluster.0 p.resvs k no_resv inside of in absurd cc
        by_table (Some t) h =
            let v : Slots = table_of p (get_or p.resvs k no_resv).cluster.0 in
            ap (in_slot_for (suc k)) (h clock) ∙ placed (suc k) v.cycle clock (slot_at v clock) ∙ ap (option_map (in_slot_of v.cycle clock)) (has.slot_is clock) ∙ ap (λ c. option_map (in_slot_of c clock) (slots.slot_at (get_or p.resvs k no_resv).period (get_or p.resvs k no_resv).slots clock)) has.cycle_is
