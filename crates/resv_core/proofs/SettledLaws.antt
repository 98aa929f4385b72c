-- What changes nothing: a clock that stands, and to settle again at one clock.
use Rattle.std.proofs.Common.{◌≡◌, ℕ, ◌/◌, Bool, true, false, ◌&&◌, List, [], ◌∷◌, map, refl, ap, arith}
use Rattle.std.specs.Prelude.{Some, nat_lt, if◌then◌else◌}
use Rattle.std.proofs.lemmas.Bool.Decides.{nat_tests}
use Rattle.rt_task.specs.declared.ResvKind.{ResvKind}
use Rattle.rt_task.specs.declared.ResvKind.TheVariants.{Polling, Sporadic, Table}
use Rattle.resv_core.specs.Served.{Served, ServerState, has_ready, is_over, refilled_at, settled, ticked, ticked_by, with_each}

either : (b : Bool) (s : ServerState) → (if b then s else s) ≡ s
either true s = refl
either false s = refl

-- ---- a reservation that is settled again at one clock

abbrev of_kind : ResvKind → ServerState → ServerState
of_kind kind s = record s { kind = kind }

pub settled-twice : (clock : ℕ) (s : ServerState) → settled clock (settled clock s) ≡ settled clock s
settled-twice clock s = by_kind s.kind
  where
    by_kind : (kind : ResvKind) → settled clock (settled clock (of_kind kind s)) ≡ settled clock (of_kind kind s)
    by_kind Polling = by_ready (has_ready s.releases) refl
      where
        by_ready : (b : Bool) → has_ready s.releases ≡ b → settled clock (settled clock (of_kind Polling s)) ≡ settled clock (of_kind Polling s)
        by_ready true e = rw (e, e) refl
        by_ready false e = rw (e, e) refl
    by_kind Sporadic = by_due (has_ready s.releases && is_over clock s.period s.refilled) refl
      where
        by_due : (b : Bool) → has_ready s.releases && is_over clock s.period s.refilled ≡ b → settled clock (settled clock (of_kind Sporadic s)) ≡ settled clock (of_kind Sporadic s)
        by_due true e = rw e (either (has_ready s.releases && is_over clock s.period (Some clock)) (refilled_at clock (of_kind Sporadic s)))
        by_due false e = rw (e, e) refl
    by_kind Table = refl

-- ---- a clock that stands

ticked-standing : (clock : ℕ) (s : ServerState) → ticked clock clock s ≡ s
ticked-standing clock s = by_kind s.kind
  where
    by_kind : (kind : ResvKind) → ticked_by kind clock clock s ≡ s
    by_kind Polling = let none : nat_lt (clock / s.period) (clock / s.period) ≡ false = grind (arith, nat_tests) in rw none refl
    by_kind Sporadic = refl
    by_kind Table = let still : nat_lt clock clock ≡ false = grind (arith, nat_tests) in rw still refl

pub all-standing : (v : Served) (clock : ℕ) → v.clock ≡ clock → record (with_each (ticked v.clock clock) v) { clock = clock } ≡ v
all-standing v clock e = rw (← e) (ap (λ xs. record v { servers = xs }) (each v.servers))
  where
    each : (xs : List ServerState) → map (ticked v.clock v.clock) xs ≡ xs
    each [] = refl
    each (x ∷ xs) = rw (ticked-standing v.clock x, each xs) refl
