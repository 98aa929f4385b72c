-- The cpu_threads of a group that plays by turns: as they are made, as they play, and at the end.
use Rattle.std.proofs.Common.{◌≡◌, ℕ, ◌<◌, true, List, [], ◌∷◌, ◌++◌, length, map, set, get_or, sym, ap, ◌∙◌, subst, arith, append_assoc, append-nil, length-append, take, take_all}
use Rattle.std.specs.Prelude.{All, IfOk, Some, Result, Ok, Err}
use Rattle.rt_base.specs.declared.NoMemory.{NoMemory}
use Rattle.std.proofs.lemmas.List.{get_or-map, length-map, nil_from_length, take-append-le}
use Rattle.std.proofs.lemmas.List.Elements.{All-get_or, All-head, All-pop, All-rest, All-same}
use Rattle.tick_clock.specs.Clocks.{fresh, Clock, ClockSeatView}
use Rattle.turn_cell.specs.SeatViews.{Cell}
use Rattle.cpu_site.specs.declared.story.GroupOf.{GroupOf}
use Rattle.cpu_site.specs.Seats.{CpuSeatView}
use Rattle.set_runs.specs.declared.cpu_thread.CpuThread.{CpuThread}
use Rattle.set_runs.specs.inside.CpuThreads.{AreAtWork, AreOver, AreStill, IsAtWork}
use Rattle.set_runs.specs.Runs.{AreDriven, IsDriven}
use Rattle.set_runs.proofs.Lists.{each-all, each-chain, each-more, each-none, each-self, each-set, some-of}

module _ (cell : Cell GroupOf) (clock : Clock) where
  -- ---- as they are made

  -- so many of the seats have a cpu_thread, and a seat of the clock is left for each of the others
  pub record AreMade (all : List CpuSeatView) (rest : List CpuSeatView) (turns : List ClockSeatView) (cpu_threads : List CpuThread) : Type 0 where
    pub gone : List CpuSeatView
    pub split : all ≡ gone ++ rest
    pub made : AreAtWork cell clock gone cpu_threads
    pub seats : All (λ (p : CpuSeatView). (p.cell ≡ cell) × (p.turns ≡ 0)) rest
    pub left : All (λ (t : ClockSeatView). t ≡ fresh clock) turns
    pub count : length turns ≡ length rest

  pub made-none : (all rest : List CpuSeatView) (turns : List ClockSeatView) (cpu_threads : List CpuThread) → rest ≡ all → cpu_threads ≡ [] → All (λ (p : CpuSeatView). (p.cell ≡ cell) × (p.turns ≡ 0)) all
      → All (λ (t : ClockSeatView). t ≡ fresh clock) turns → length turns ≡ length all → AreMade all rest turns cpu_threads
  made-none all rest turns cpu_threads same none seats left count = record {
    gone = [];
    split = sym same;
    made = subst (AreAtWork cell clock []) (sym none) (each-none (λ (p : CpuSeatView) (d : CpuThread). IsAtWork cell clock p.cpu d));
    seats = All-same (λ (p : CpuSeatView). (p.cell ≡ cell) × (p.turns ≡ 0)) rest all same seats;
    left = left;
    count = count ∙ ap length (sym same);
  }

  -- a clock's seat is left where a seat is
  pub some-left : (all rest rest' : List CpuSeatView) (turns : List ClockSeatView) (cpu_threads : List CpuThread) (p : CpuSeatView) → AreMade all rest turns cpu_threads → rest ≡ p ∷ rest' → 0 < length turns
  some-left all rest rest' turns cpu_threads p are is = let c = are.count in let l = ap length is in omega (arith, c, l)

  pub made-more : (all rest rest' : List CpuSeatView) (turns turns' : List ClockSeatView) (cpu_threads cpu_threads' : List CpuThread) (p : CpuSeatView) (t : ClockSeatView) (d : CpuThread) → AreMade all rest turns cpu_threads → rest ≡ p ∷ rest' → turns ≡ turns' ++ t ∷ []
      → cpu_threads' ≡ cpu_threads ++ d ∷ [] → d.seat ≡ p → d.turns ≡ t → (d.is_over ≡ true → ⊥) → AreMade all rest' turns' cpu_threads'
  made-more all rest rest' turns turns' cpu_threads cpu_threads' p t d are is popped added seat_is turns_is going =
      let here = All-head (λ (x : CpuSeatView). (x.cell ≡ cell) × (x.turns ≡ 0)) p rest' (subst (λ (xs : List CpuSeatView). All (λ (x : CpuSeatView). (x.cell ≡ cell) × (x.turns ≡ 0)) xs) is are.seats) in
      let pop = All-pop (λ (x : ClockSeatView). x ≡ fresh clock) turns turns' (Some t) popped are.left in
      let work : IsAtWork cell clock p.cpu d = record {
        cell_is = ap (λ (x : CpuSeatView). x.cell) seat_is ∙ here.0;
        clock_is = ap (λ (x : ClockSeatView). x.clock) (turns_is ∙ pop.1);
        cpu_is = ap (λ (x : CpuSeatView). x.cpu) seat_is;
        passes = ap (λ (x : ClockSeatView). x.passes) (turns_is ∙ pop.1) ∙ sym (ap (λ (x : CpuSeatView). x.turns) seat_is ∙ here.1);
        over = λ yes. absurd (going yes);
      } in
      record {
        gone = are.gone ++ p ∷ [];
        split = are.split ∙ ap (λ (xs : List CpuSeatView). are.gone ++ xs) is ∙ sym (append_assoc are.gone (p ∷ []) rest');
        made = subst (AreAtWork cell clock (are.gone ++ p ∷ [])) (sym added) (each-more (λ (x : CpuSeatView) (e : CpuThread). IsAtWork cell clock x.cpu e) are.gone cpu_threads p d are.made work);
        seats = All-rest (λ (x : CpuSeatView). (x.cell ≡ cell) × (x.turns ≡ 0)) p rest' rest is are.seats;
        left = pop.0;
        count = let c = are.count in let l = ap length is in let k = ap length popped in omega (arith, c, l, k, length-append turns' (t ∷ []));
      }

  pub made-all : (all rest : List CpuSeatView) (turns : List ClockSeatView) (cpu_threads : List CpuThread) → AreMade all rest turns cpu_threads → length rest ≡ 0 → AreAtWork cell clock all cpu_threads
  made-all all rest turns cpu_threads are none =
      subst (λ (xs : List CpuSeatView). AreAtWork cell clock xs cpu_threads) (sym (are.split ∙ ap (λ (xs : List CpuSeatView). are.gone ++ xs) (nil_from_length rest none) ∙ append-nil are.gone)) are.made

  -- ---- as they play

  -- each is that of its own processor
  pub work-own : (seats : List CpuSeatView) (ds : List CpuThread) → AreAtWork cell clock seats ds → All (λ (d : CpuThread). IsAtWork cell clock d.seat.cpu d) ds
  work-own seats ds are =
      each-all (λ (p : CpuSeatView) (d : CpuThread). IsAtWork cell clock p.cpu d) (λ (d : CpuThread). IsAtWork cell clock d.seat.cpu d) seats ds are
      (λ p d work. subst (λ (q : ℕ). IsAtWork cell clock q d) (sym work.cpu_is) work)

  pub still-own : (ds es : List CpuThread) → AreStill cell clock ds es → All (λ (e : CpuThread). IsAtWork cell clock e.seat.cpu e) es
  still-own ds es are =
      each-all (λ (d e : CpuThread). IsAtWork cell clock d.seat.cpu e) (λ (e : CpuThread). IsAtWork cell clock e.seat.cpu e) ds es are
      (λ d e work. subst (λ (q : ℕ). IsAtWork cell clock q e) (sym work.cpu_is) work)

  pub still-self : (ds : List CpuThread) → All (λ (d : CpuThread). IsAtWork cell clock d.seat.cpu d) ds → AreStill cell clock ds ds
  still-self ds own = each-self (λ (d e : CpuThread). IsAtWork cell clock d.seat.cpu e) ds own

  on-work : (d e f : CpuThread) → IsAtWork cell clock d.seat.cpu e → IsAtWork cell clock e.seat.cpu f → IsAtWork cell clock d.seat.cpu f
  on-work d e f first second = subst (λ (q : ℕ). IsAtWork cell clock q f) first.cpu_is second

  pub still-on : (ds es fs : List CpuThread) → AreStill cell clock ds es → AreStill cell clock es fs → AreStill cell clock ds fs
  still-on ds es fs first second =
      each-chain (λ (d e : CpuThread). IsAtWork cell clock d.seat.cpu e) (λ (e f : CpuThread). IsAtWork cell clock e.seat.cpu f) (λ (d f : CpuThread). IsAtWork cell clock d.seat.cpu f) ds es fs first second on-work

  -- one of them played on
  pub still-set : (ds es : List CpuThread) (i : ℕ) (e f : CpuThread) → AreStill cell clock ds es → i < length es → e ≡ get_or es i e → IsAtWork cell clock e.seat.cpu f → AreStill cell clock ds (set es i f)
  still-set ds es i e f are low read work =
      let inside : i < length ds = (let all = are.all in omega (arith, low, all)) in
      each-set (λ (d x : CpuThread). IsAtWork cell clock d.seat.cpu x) ds es i f are inside
      (λ d. on-work (get_or ds i d) e f (subst (λ (x : CpuThread). IsAtWork cell clock (get_or ds i d).seat.cpu x) (sym read) (are.each i d e inside)) work)

  pub work-on : (seats : List CpuSeatView) (ds es : List CpuThread) → AreAtWork cell clock seats ds → AreStill cell clock ds es → AreAtWork cell clock seats es
  work-on seats ds es first second =
      each-chain (λ (p : CpuSeatView) (d : CpuThread). IsAtWork cell clock p.cpu d) (λ (d e : CpuThread). IsAtWork cell clock d.seat.cpu e) (λ (p : CpuSeatView) (e : CpuThread). IsAtWork cell clock p.cpu e) seats ds es first second
      (λ p d e a b. subst (λ (q : ℕ). IsAtWork cell clock q e) a.cpu_is b)

  -- ---- at the end

  pub work-done : (seats after : List CpuSeatView) (ds : List CpuThread) → AreAtWork cell clock seats ds → AreOver ds → after ≡ map (λ (d : CpuThread). d.seat) ds → AreDriven cell seats after
  work-done seats after ds are over is = record {
    all = ap length is ∙ length-map ds (λ (d : CpuThread). d.seat) ∙ are.all;
    each = λ i p p' lt.
        let low : i < length ds = (let all = are.all in omega (arith, lt, all)) in
        let d : CpuThread = some-of ds i low in
        let work = are.each i p d lt in
        let seat : get_or after i p' ≡ (get_or ds i d).seat = ap (λ (ps : List CpuSeatView). get_or ps i p') is ∙ get_or-map (λ (x : CpuThread). x.seat) ds i d p' low in
        subst (λ (x : CpuSeatView). IsDriven cell (get_or seats i p) x) (sym seat) (record {
          cell_is = work.cell_is;
          cpu_is = work.cpu_is;
          over = work.over (All-get_or (λ (x : CpuThread). x.is_over ≡ true) ds i d low over);
        });
  }

  -- the cpu_threads lie at the front of what was written
  pub all-done : {X : Type 0} (items : X → List CpuSeatView) (r : Result X NoMemory) (seats : List CpuSeatView) (ds more : List CpuThread) (n : ℕ) → AreAtWork cell clock seats ds → AreOver ds → n ≡ length ds
      → IfOk r (λ v. items v ≡ map (λ (d : CpuThread). d.seat) (take n (ds ++ more))) → IfOk r (λ v. AreDriven cell seats (items v))
  all-done items (Ok v) seats ds more n are over all is =
      let front : take n (ds ++ more) ≡ ds = take-append-le n ds more (omega (arith, all)) ∙ take_all n ds (omega (arith, all)) in
      work-done seats (items v) ds are over (is ∙ ap (map (λ (d : CpuThread). d.seat)) front)
  all-done items (Err e) seats ds more n are over all is = is
