-- Tasks that are served keep their places where a reservation changes.
use Rattle.std.proofs.Common.{◌≡◌, ◌≢◌, ℕ, Bool, true, false, ltb-true, zero, suc, ◌+◌, ◌-◌, ◌/◌, ◌<◌, ◌≤◌, ◌⊎◌, inl, inr, List, [], ◌∷◌, length, map, get_or, set, length-set, get_or-set_same, get_or-set_other, refl, sym, ap, subst, ◌∙◌, arith}
use Rattle.std.specs.Prelude.{Option, None, Some, IsSome, ◌&&◌, nat_lt, replicate, slice_get, if◌then◌else◌}
use Rattle.std.proofs.lemmas.Bool.{cases_eq}
use Rattle.std.proofs.lemmas.List.{get_or-map, length-map, length-replicate}
use Rattle.std.proofs.lemmas.Option.{same_Some}
use Rattle.rt_task.specs.declared.Parts.{Parts}
use Rattle.rt_task.specs.declared.Resv.{Resv}
use Rattle.rt_task.specs.declared.Task.{Task}
use Rattle.rt_rules.proofs.BoolLaws.{both}
use Rattle.rt_base.specs.declared.ResvNo.{ResvNo}
use Rattle.resv_core.specs.Served.{ServerState, Served, IsPlaced, no_server, is_here, is_resv_here, opened_server, in_slot_at, server_here, server_for, server_of, refilled_at, ticked, ticked_by, settled, settled_by, has_ready, is_over, charged, charged_by}
use Rattle.rt_task.specs.declared.ResvKind.{ResvKind}
use Rattle.rt_task.specs.declared.ResvKind.TheVariants.{Polling, Sporadic, Table}

abbrev rooms : List ServerState → ℕ → ℕ
rooms servers i = length (get_or servers i no_server).releases

-- the rooms stay
placed-same : (old new : List ServerState) (served_by : List (Option ResvNo)) → length new ≡ length old → ((i : ℕ) → i < length old → rooms new i ≡ rooms old i) → IsPlaced old served_by → IsPlaced new served_by
placed-same old new served_by same each placed t r h =
    let p = placed t r h in
    let low = p.0 in
    let high = p.1 in
    let room = p.2 in
    let e : rooms new (r.0 - 1) ≡ rooms old (r.0 - 1) = each (r.0 - 1) (omega (arith, low, high)) in
    (low, omega (arith, high, same), omega (arith, room, e))

-- one reservation changes
pub placed-set : (servers : List ServerState) (served_by : List (Option ResvNo)) (i : ℕ) (s : ServerState) → length s.releases ≡ length (get_or servers i no_server).releases → IsPlaced servers served_by → IsPlaced (set servers i s) served_by
placed-set servers served_by i s same = placed-same servers (set servers i s) served_by (length-set _ _ _) (λ k h. by_case k h (cases_eq k i))
  where
    by_case : (k : ℕ) → k < length servers → (k ≡ i) ⊎ (k ≢ i) → rooms (set servers i s) k ≡ rooms servers k
    by_case k h (inl e) =
        let inside : i < length servers = omega (arith, h, e) in
        ap (rooms (set servers i s)) e ∙ ap (λ (x : ServerState). length x.releases) (get_or-set_same servers i s no_server inside) ∙ same ∙ ap (rooms servers) (sym e)
    by_case k h (inr ne) = ap (λ (x : ServerState). length x.releases) (get_or-set_other servers i k s no_server ne)

-- each changes
pub placed-map : (servers : List ServerState) (served_by : List (Option ResvNo)) (change : ServerState → ServerState) → ((s : ServerState) → length (change s).releases ≡ length s.releases) → IsPlaced servers served_by → IsPlaced (map change servers) served_by
placed-map servers served_by change same = placed-same servers (map change servers) served_by (length-map servers change) (λ k h. ap (λ (x : ServerState). length x.releases) (get_or-map change servers k no_server no_server h) ∙ same (get_or servers k no_server))

-- ---- the reservation that serves a task, as it is read

read_server : (items : List (Option ResvNo)) (t : ℕ) (x : Option ResvNo) (r : ResvNo) → IsSome (get_or items t None) → x ≡ get_or items t x → x ≡ Some r → get_or items t None ≡ Some r
read_server [] t x r some read is = cc
read_server (o ∷ os) zero x r some read is = sym read ∙ is
read_server (o ∷ os) (suc t) x r some read is = read_server os t x r some read is

-- and the task's slot there
pub served_in_slot : {u v : Served} {x : Option ResvNo} {r : ResvNo} (t : ℕ) → u ≡ v → IsPlaced u.servers u.served_by → IsSome (server_of v t) → x ≡ get_or u.served_by t x → x ≡ Some r → (1 ≤ r.0) × (r.0 ≤ length u.servers) × (t < length (get_or u.servers (r.0 - 1) no_server).releases)
served_in_slot {u} {r = r} t view placed some read is = placed t r (read_server u.served_by t _ r (subst (λ (v : Served). IsSome (server_of v t)) (sym view) some) read is)

-- ---- the opening

module _ (p : Parts) (group : ℕ) where
  -- a reservation of the group has room for each task
  room_here : (rs : List Resv) (i : ℕ) → is_resv_here p group (slice_get rs i) ≡ true → (i < length rs) × (length (get_or (map (opened_server p group) rs) i no_server).releases ≡ length p.tasks + 1)
  room_here [] i h = cc
  room_here (r ∷ rs) zero h = (omega arith, by_case (is_here p group r) h)
    where
      by_case : (b : Bool) → b ≡ true → length (replicate {A = Option ℕ} (if b then length p.tasks + 1 else 0) None) ≡ length p.tasks + 1
      by_case true e = length-replicate _ _
      by_case false e = cc
  room_here (r ∷ rs) (suc i) h = let q = room_here rs i h in let low = q.0 in (omega (arith, low), q.1)

  -- a task that is served has the number of a reservation of the group
  served_here : (o : Option ResvNo) (r : ResvNo) → server_here p group o ≡ Some r → (1 ≤ r.0) × (is_resv_here p group (slice_get p.resvs (r.0 - 1)) ≡ true)
  served_here None r h = cc
  served_here (Some q) r h = by_case (nat_lt 0 q.0 && is_resv_here p group (slice_get p.resvs (q.0 - 1))) refl h
    where
      by_case : (b : Bool) → nat_lt 0 q.0 && is_resv_here p group (slice_get p.resvs (q.0 - 1)) ≡ b → (if b then Some q else None) ≡ Some r → (1 ≤ r.0) × (is_resv_here p group (slice_get p.resvs (r.0 - 1)) ≡ true)
      by_case true e k = let same : q ≡ r = same_Some q r k in let two = both _ _ (ap (λ (x : ResvNo). nat_lt 0 x.0 && is_resv_here p group (slice_get p.resvs (x.0 - 1))) (sym same) ∙ e) in (ltb-true 0 r.0 two.0, two.1)
      by_case false e k = cc

  served_task : (ts : List Task) (t : ℕ) (r : ResvNo) → get_or (map (server_for p group) ts) t None ≡ Some r → (t < length ts) × (1 ≤ r.0) × (is_resv_here p group (slice_get p.resvs (r.0 - 1)) ≡ true)
  served_task [] t r h = cc
  served_task (x ∷ xs) zero r h = let q = served_here x.resv r h in (omega arith, q.0, q.1)
  served_task (x ∷ xs) (suc t) r h = let q = served_task xs t r h in let low = q.0 in (omega (arith, low), q.1, q.2)

  pub placed-opened : IsPlaced (map (opened_server p group) p.resvs) (None ∷ map (server_for p group) p.tasks)
  placed-opened zero r h = cc
  placed-opened (suc t) r h =
      let q = served_task p.tasks t r h in
      let inside = q.0 in
      let low = q.1 in
      let room = room_here p.resvs (r.0 - 1) q.2 in
      let high = room.0 in
      let wide = room.1 in
      (low, omega (arith, low, high, length-map p.resvs (opened_server p group)), omega (arith, inside, wide))

-- ---- the moves keep the rooms

pub length-ticked : (old new : ℕ) (s : ServerState) → length (ticked old new s).releases ≡ length s.releases
length-ticked old new s = by_kind s.kind
  where
    by_refill : (b : Bool) → length (if b then refilled_at new s else s).releases ≡ length s.releases
    by_refill true = refl
    by_refill false = refl

    by_slot : (b : Bool) → length (if b then record s { in_slot = in_slot_at s.period s.slots new } else s).releases ≡ length s.releases
    by_slot true = refl
    by_slot false = refl

    by_kind : (kind : ResvKind) → length (ticked_by kind old new s).releases ≡ length s.releases
    by_kind Polling = by_refill (nat_lt (old / s.period) (new / s.period))
    by_kind Sporadic = refl
    by_kind Table = by_slot (nat_lt old new)

pub length-charged : (s : ServerState) → length (charged s).releases ≡ length s.releases
length-charged s = by_kind s.kind
  where
    by_kind : (kind : ResvKind) → length (charged_by kind s).releases ≡ length s.releases
    by_kind Polling = refl
    by_kind Sporadic = refl
    by_kind Table = refl

pub length-settled : (clock : ℕ) (s : ServerState) → length (settled clock s).releases ≡ length s.releases
length-settled clock s = by_kind s.kind
  where
    by_loss : (b : Bool) → length (if b then s else record s { lost = true }).releases ≡ length s.releases
    by_loss true = refl
    by_loss false = refl

    by_refill : (b : Bool) → length (if b then refilled_at clock s else s).releases ≡ length s.releases
    by_refill true = refl
    by_refill false = refl

    by_kind : (kind : ResvKind) → length (settled_by kind clock s).releases ≡ length s.releases
    by_kind Polling = by_loss (has_ready s.releases)
    by_kind Sporadic = by_refill (has_ready s.releases && is_over clock s.period s.refilled)
    by_kind Table = refl
