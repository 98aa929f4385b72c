-- A move of the clock that is not later leaves all as it is.
use Rattle.std.proofs.Common.{◌≡◌, ℕ, ◌≤◌, ◌/◌, max, false, List, [], ◌∷◌, length, map, refl, sym, ap, ◌∙◌, subst, arith}
use Rattle.std.specs.Prelude.{nat_lt}
use Rattle.std.proofs.lemmas.Bool.Decides.{nat_tests}
use Rattle.rt_task.specs.Validity.{IsValid}
use Rattle.rt_task.specs.declared.ResvKind.{ResvKind}
use Rattle.rt_task.specs.declared.ResvKind.TheVariants.{Polling, Sporadic, Table}
use Rattle.rt_model.specs.Group.{Group}
use Rattle.rt_model.specs.Past.{Clock, Past, now}
use Rattle.rt_model.specs.Reachable.{IsReachable, clocked as clocked_too}
use Rattle.group_jobs.specs.Kept.{IsKept, Kept, with_clock}
use Rattle.resv_core.specs.Served.{Served, ServerState, settled, ticked, ticked_by}
use Rattle.resv_core.proofs.SettledLaws.{settled-twice}
use Rattle.resv_core.specs.Kept.{ready_release}
use Rattle.resv_core.specs.Serving.{all_settled, clock_to}
use Rattle.group_resvs.specs.GroupResvs.{AllServe, GroupResvs, IsSettled, all_changed}
use Rattle.group_resvs.specs.Kept.{KeepsResvs}
use Rattle.group_resvs.specs.Laws.{AreToldOf, told_of_move}
use Rattle.group_resvs.proofs.KeptLaws.{move_is_kept}
use Rattle.group_core.specs.Facts.{Facts}
use Rattle.group_core.specs.Standing.{IsAt, IsFit}
use Rattle.group_core.proofs.ModelWords.{release-read}
use Rattle.group_core.proofs.Moves.{at-clocked}

-- what the end of each move leaves: each reservation is settled, and serves the client that is listed
pub record AreSettled (v : GroupResvs) : Type 0 where
  pub settled : v.resvs ≡ all_settled v.resvs
  pub serve : AllServe v.resvs v.serves
  pub all : length v.serves ≡ length v.resvs.servers

twice-all : (clock : ℕ) (xs : List ServerState) → map (settled clock) (map (settled clock) xs) ≡ map (settled clock) xs
twice-all clock [] = refl
twice-all clock (x ∷ xs) = ap (λ y. y ∷ map (settled clock) (map (settled clock) xs)) (settled-twice clock x) ∙ ap (λ ys. settled clock x ∷ ys) (twice-all clock xs)

all-twice : (v : Served) → all_settled (all_settled v) ≡ all_settled v
all-twice v = ap (λ xs. let z : Served = record v { servers = xs } in z) (twice-all v.clock v.servers)

pub settled-ended : (old new : GroupResvs) → IsSettled old new → AreSettled new
settled-ended old new s = record {
  settled = s.resvs ∙ sym (all-twice old.resvs) ∙ ap all_settled (sym s.resvs);
  serve = s.serves;
  all = s.all;
}

-- ---- the clock stays

not-less : (n : ℕ) → nat_lt n n ≡ false
not-less n = grind (arith, nat_tests)

ticked-same : (clock : ℕ) (s : ServerState) → ticked clock clock s ≡ s
ticked-same clock s = by_kind s.kind
  where
    by_kind : (k : ResvKind) → ticked_by k clock clock s ≡ s
    by_kind Polling = let e : nat_lt (clock / s.period) (clock / s.period) ≡ false = not-less (clock / s.period) in rw e refl
    by_kind Sporadic = refl
    by_kind Table = let e : nat_lt clock clock ≡ false = not-less clock in rw e refl

ticked-all : (clock : ℕ) (xs : List ServerState) → map (ticked clock clock) xs ≡ xs
ticked-all clock [] = refl
ticked-all clock (x ∷ xs) = ap (λ y. y ∷ map (ticked clock clock) xs) (ticked-same clock x) ∙ ap (λ ys. x ∷ ys) (ticked-all clock xs)

clock-same : (v : Served) → clock_to v.clock v ≡ v
clock-same v = ap (λ xs. let z : Served = record v { servers = xs } in z) (ticked-all v.clock v.servers)

pub resvs-stay : (g : Group) (past : Past) (tick : ℕ) (v : GroupResvs) → IsValid g.setup → IsReachable g past → KeepsResvs g past v → AreSettled v
    → AreToldOf g (λ t. ready_release g t past) (Clock tick ∷ past) [] → max (now past) tick ≡ now past → KeepsResvs g (Clock tick ∷ past) v
resvs-stay g past tick v valid made keeps settled told same =
    let z : GroupResvs = record v { changed = all_changed v.serves v.serves } in
    let begun : told_of_move g (Clock tick) past [] v ≡ v =
    ap (λ n. let x : GroupResvs = record v { resvs = clock_to n v.resvs } in x) (same ∙ sym keeps.clock)
    ∙ ap (λ (w : Served). let x : GroupResvs = record v { resvs = w } in x) (clock-same v.resvs) in
    let end : IsSettled v z = record { resvs = settled.settled; serves = settled.serve; all = settled.all; changed = refl } in
    let moved : KeepsResvs g (Clock tick ∷ past) z = (move_is_kept g (Clock tick) past [] v z valid (clocked_too tick made) keeps told (subst (λ w. IsSettled w z) (sym begun) end)).0 in
    record {
      clock = moved.clock;
      reserved = λ h. let a = moved.reserved h in record { serving = a.serving; empty = a.empty; all = a.all; serve = a.serve; elsewhere = a.elsewhere };
      unreserved = moved.unreserved;
    }

module _ (g : Group) (f : Facts) (room spare : ℕ) (fit : IsFit g f room spare) (past : Past) (at : IsAt g past f) (tick : ℕ) (low : tick ≤ f.kept.clock) (settled : AreSettled f.resvs) where
  kept-stays : IsKept g (Clock tick ∷ past) f.kept
  kept-stays =
      let same : with_clock tick f.kept ≡ f.kept = ap (λ n. let k : Kept = record f.kept { clock = n } in k) (let e : max f.kept.clock tick ≡ f.kept.clock = omega (arith, low) in e) in
      subst (IsKept g (Clock tick ∷ past)) same (at-clocked g f room spare fit tick past at).kept

  told-none : AreToldOf g (λ t. ready_release g t past) (Clock tick ∷ past) []
  told-none = record { inside = λ t h. cc; others = λ t h out. sym (release-read g past f.kept at.kept t h) ∙ release-read g (Clock tick ∷ past) f.kept kept-stays t h }

  -- the facts stand at the longer past too
  pub at-stays : IsAt g (Clock tick ∷ past) f
  at-stays = record {
    reachable = clocked_too tick at.reachable;
    kept = kept-stays;
    sems_are = (at-clocked g f room spare fit tick past at).sems_are;
    ways_are = (at-clocked g f room spare fit tick past at).ways_are;
    resvs_are = resvs-stay g past tick f.resvs fit.valid at.reachable at.resvs_are settled told-none (let c = at.kept.clock_is in omega (arith, c, low));
  }
