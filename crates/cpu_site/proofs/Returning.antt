-- The seats of a site, when it is opened and when they come back.
use Rattle.std.proofs.Common.{◌≡◌, ℕ, zero, suc, ◌+◌, ◌<◌, ◌≤◌, Bool, true, false, List, [], ◌∷◌, ◌++◌, length, map, take, get_or, reverse, refl, sym, ap, ◌∙◌, subst, arith, append_assoc, length-append, take_all, Some}
use Rattle.std.specs.Prelude.{◌==◌, All, Contains}
use Rattle.std.proofs.lemmas.Bool.Decides.{nat_tests}
use Rattle.std.proofs.lemmas.List.{get_or_default, nil_from_length, reverse-reverse, reverse-append, get_or_append_left, get_or-map, length-map, map-append, take_more}
use Rattle.std.proofs.lemmas.List.Elements.{All-cons, All-push, All-weaker, Contains-append_left, Contains-push}
use Rattle.std.proofs.Math.Seq.{get_or-append_seam}
use Rattle.rt_base.specs.declared.CpuNo.{CpuNo}
use Rattle.rt_rules.specs.declared.history.Entry.{Entry}
use Rattle.rt_model.specs.Group.{Group, group_processors}
use Rattle.rt_model.specs.Histories.{raises, raises_from}
use Rattle.rt_plays.specs.Groups.{GroupHistory, group_of}
use Rattle.rt_plays.specs.Homes.{IsProcessorOf}
use Rattle.rt_plays.specs.Plays.{IsBegunPlay}
use Rattle.cpu_site.specs.Cpus.{cpu_numbers}
use Rattle.turn_cell.specs.SeatViews.{Cell, SeatView, TurnOf, fresh, fresh_seats}
use Rattle.turn_cell.specs.Words.{AgreeOn, StartsWith}
use Rattle.turn_cell.proofs.Tools.{one_some}
use Rattle.cpu_site.specs.declared.story.GroupOf.{GroupOf}
use Rattle.cpu_site.specs.Raises.{cpu_at, cpu_count, raises_of}
use Rattle.cpu_site.specs.Seats.{about, cpu_of, cpu_seat_view, group_at, position_of_cpu, unused_seat, unused_seats, About, CpuSeatView, IsSite}
use Rattle.cpu_site.specs.declared.progress.Progress.{Progress}
use Rattle.cpu_site.proofs.Drives.{begun-home}
use Rattle.cpu_site.proofs.Numbering.{agree-same, cpu-of_group, cpu-position, cpu-read, cpus-read}
use Rattle.cpu_site.proofs.Seating.{Keeps}
use Rattle.cpu_site.proofs.CpuViewLaws.{raises_of-at}

-- ---- opening

-- the seat at a position of the group, as that of its processor
abbrev pub numbered : Group → SeatView Entry GroupOf → CpuSeatView
numbered g p = cpu_seat_view (cpu_at g p.cpu) 0 p

pub taken-more : {A : Type 0} (all left new gone : List A) (x : A) → all ≡ left ++ gone → left ≡ new ++ x ∷ [] → all ≡ new ++ x ∷ gone
taken-more all left new gone x is popped = is ∙ ap (λ l. l ++ gone) popped ∙ append_assoc new (x ∷ []) gone

-- one more was put down
pub put-more : (g : Group) (all all' : List CpuSeatView) (gone : List (SeatView Entry GroupOf)) (p : SeatView Entry GroupOf) (c : CpuSeatView) → all ≡ reverse (map (numbered g) gone) → all' ≡ all ++ c ∷ [] → c ≡ numbered g p → all' ≡ reverse (map (numbered g) (p ∷ gone))
put-more g all all' gone p c is added same =
    added ∙ ap (λ (l : List CpuSeatView). l ++ c ∷ []) is ∙ ap (λ (z : CpuSeatView). reverse (map (numbered g) gone) ++ z ∷ []) same
    ∙ sym (reverse-append (numbered g p ∷ []) (map (numbered g) gone))

module _ (cell : Cell GroupOf) where
  length-fresh : (n : ℕ) → length (fresh_seats {E = Entry} cell n) ≡ n
  length-fresh zero = refl
  length-fresh (suc n) = length-append (fresh_seats cell n) (fresh cell n ∷ []) ∙ (let h = length-fresh n in omega (arith, h))

  get-fresh : (n k : ℕ) (d : SeatView Entry GroupOf) → k < n → get_or (fresh_seats cell n) k d ≡ fresh cell k
  get-fresh zero k d lt = absurd (omega (arith, lt))
  get-fresh (suc n) k d lt = by_case (k == n) refl (λ low. get-fresh n k d low)
    where
      by_case : (b : Bool) → (k == n) ≡ b → (k < n → get_or (fresh_seats cell n) k d ≡ fresh cell k) → get_or (fresh_seats cell n ++ fresh cell n ∷ []) k d ≡ fresh cell k
      by_case true is rest =
          let here : k ≡ n = grind (arith, nat_tests, is) in
          let at : get_or (fresh_seats cell n ++ fresh cell n ∷ []) (length (fresh_seats {E = Entry} cell n)) d ≡ fresh cell n = get_or-append_seam (fresh_seats cell n) (fresh cell n) [] d in
          rw here (rw (length-fresh n) at at)
      by_case false is rest =
          let low : k < n = grind (arith, nat_tests, is, lt) in
          get_or_append_left (fresh_seats cell n) (fresh cell n ∷ []) d k (let h = length-fresh n in omega (arith, h, low)) ∙ rest low

  -- the last of those that are left is at the position whose number is how many there are before it
  pub fresh-last : (n : ℕ) (all new gone : List (SeatView Entry GroupOf)) (p : SeatView Entry GroupOf) → all ≡ fresh_seats cell n → all ≡ new ++ p ∷ gone → (length new < n) × (p ≡ fresh cell (length new))
  fresh-last n all new gone p is split =
      let long = length-append new (p ∷ gone) in
      let total : length all ≡ n = ap length is ∙ length-fresh n in
      let same : length all ≡ length (new ++ p ∷ gone) = ap length split in
      let low : length new < n = omega (arith, long, total, same) in
      (low, sym (get_or-append_seam new p gone p) ∙ ap (λ (l : List (SeatView Entry GroupOf)). get_or l (length new) p) (sym split ∙ is) ∙ get-fresh n (length new) p low)

  all-numbered : (qs : List ℕ) (n : ℕ) → n ≤ length qs → map (λ (p : SeatView Entry GroupOf). cpu_seat_view (get_or qs p.cpu 0) 0 p) (fresh_seats cell n) ≡ unused_seats cell (take n qs)
  all-numbered qs zero low = refl
  all-numbered qs (suc n) low =
      let next : take (suc n) qs ≡ take n qs ++ get_or qs n 0 ∷ [] = (let e : suc n ≡ n + 1 = omega arith in ap (λ k. take k qs) e ∙ take_more qs n 0 (omega (arith, low))) in
      map-append (λ (p : SeatView Entry GroupOf). cpu_seat_view (get_or qs p.cpu 0) 0 p) (fresh_seats cell n) (fresh cell n ∷ [])
      ∙ ap (λ (l : List CpuSeatView). l ++ unused_seat cell (get_or qs n 0) ∷ []) (all-numbered qs n (omega (arith, low)))
      ∙ sym (ap (unused_seats cell) next ∙ map-append (unused_seat cell) (take n qs) (get_or qs n 0 ∷ []))

  -- all were put down: turned round, they are the seats of the group's processors
  pub all-put : (g : Group) (n : ℕ) (all left gone : List (SeatView Entry GroupOf)) (put turned : List CpuSeatView) → n ≡ cpu_count g → length left ≡ 0 → all ≡ fresh_seats cell n → all ≡ left ++ gone → put ≡ reverse (map (numbered g) gone) → turned ≡ reverse put
      → turned ≡ unused_seats cell (group_processors g)
  all-put g n all left gone put turned count none is split put_is turned_is =
      let gone_are : gone ≡ fresh_seats cell n = sym (split ∙ ap (λ (l : List (SeatView Entry GroupOf)). l ++ gone) (nil_from_length left none)) ∙ is in
      turned_is ∙ ap reverse put_is ∙ reverse-reverse (map (numbered g) gone) ∙ ap (map (numbered g)) gone_are
      ∙ all-numbered (group_processors g) n (omega (arith, count)) ∙ ap (unused_seats cell) (take_all n (group_processors g) (omega (arith, count)))

pub fresh-self : (cell : Cell GroupOf) (k m : ℕ) (p : SeatView Entry GroupOf) → p ≡ fresh cell k → m ≡ k → p ≡ fresh p.cell m
fresh-self cell k m p is same = is ∙ ap (λ (c : Cell GroupOf). fresh c k) (sym (ap (λ (x : SeatView Entry GroupOf). x.cell) is)) ∙ ap (λ n. fresh p.cell n) (sym same)

pub fresh-about : (cell : Cell GroupOf) (h : GroupHistory) (cpus : List CpuNo) (q : CpuNo) (n k m : ℕ) (p : SeatView Entry GroupOf) → cell.subject ≡ Some (about h) → cpu_numbers cpus ≡ group_processors (group_of h) → n ≡ length cpus → p ≡ fresh cell k → m ≡ k → k < n → q ≡ get_or cpus m q
    → About p.cell (λ s. (m < n) × (n ≡ cpu_count (group_at s)) × (cpu_at (group_at s) m ≡ q.0))
fresh-about cell h cpus q n k m p subject are all is same low read s at =
    let cells : p.cell ≡ cell = ap (λ (x : SeatView Entry GroupOf). x.cell) is in
    let s_is : about h ≡ s = one_some cell.subject (about h) s subject (ap (λ (c : Cell GroupOf). c.subject) (sym cells) ∙ at) in
    let here : m < length cpus = omega (arith, same, low, all) in
    subst (λ (x : GroupOf). (m < n) × (n ≡ cpu_count (group_at x)) × (cpu_at (group_at x) m ≡ q.0)) s_is (omega (arith, same, low), all ∙ cpus-read (group_of h) cpus are, cpu-read (group_of h) cpus m q are here ∙ ap (λ (x : CpuNo). x.0) (sym read))

-- the seat is that of the processor at its position
pub seat-numbered : (cell : Cell GroupOf) (g : Group) (cpus : List CpuNo) (q : CpuNo) (k m : ℕ) (p : SeatView Entry GroupOf) (c : CpuSeatView) → cpu_numbers cpus ≡ group_processors g → p ≡ fresh cell k → m ≡ k → m < length cpus → q ≡ get_or cpus m q → c ≡ unused_seat p.cell q.0 → c ≡ numbered g p
seat-numbered cell g cpus q k m p c are is same low read made =
    let at : cpu_at g k ≡ q.0 = ap (cpu_at g) (sym same) ∙ cpu-read g cpus m q are low ∙ ap (λ (x : CpuNo). x.0) (sym read) in
    made ∙ ap (λ (x : SeatView Entry GroupOf). unused_seat x.cell q.0) is ∙ ap (unused_seat cell) (sym at) ∙ sym (ap (numbered g) is)

-- at opening no interrupt was raised
pub raises-opened : (h : GroupHistory) (n i : ℕ) → h.entries ≡ [] → n ≡ cpu_count (group_of h) → i < n → get_or (raises_of h) i 0 ≡ 0
unfolding raises raises_from
raises-opened h n i none all lt = raises_of-at h i (omega (arith, lt, all)) ∙ ap (λ (es : List Entry). raises (group_of h) (cpu_at (group_of h) i) es) none

-- ---- coming back

-- the seat is among those that are back
pub record IsBack (c : CpuSeatView) (back : List (SeatView Entry GroupOf)) : Type 0 where
  pub view : SeatView Entry GroupOf
  pub there : Contains back view
  pub same : cpu_seat_view c.cpu c.turns view ≡ c
  pub own : About view.cell (λ s. (view.cpu < cpu_count (group_at s)) × (cpu_at (group_at s) view.cpu ≡ c.cpu) × IsBegunPlay (group_at s) view.seen)

pub record AreBack (cell : Cell GroupOf) (gone : List CpuSeatView) (back : List (SeatView Entry GroupOf)) : Type 0 where
  pub rest : All (λ p. (p.cell ≡ cell) × (p.holds ≡ false)) back
  pub each : All (λ c. IsBack c back) gone

pub back-none : (cell : Cell GroupOf) (back : List (SeatView Entry GroupOf)) → back ≡ [] → AreBack cell [] back
back-none cell back is = record { rest = λ k d lt. absurd (omega (arith, lt, ap length is)); each = λ k d lt. absurd (omega (arith, lt)) }

pub back-more : (cell : Cell GroupOf) (gone : List CpuSeatView) (back back' : List (SeatView Entry GroupOf)) (p : SeatView Entry GroupOf) (c : CpuSeatView) (q : ℕ) (at : Progress) (position taken : ℕ) (counts : List ℕ) (room : ℕ) → AreBack cell gone back → back' ≡ back ++ p ∷ [] → cpu_seat_view q at.turns p ≡ c → c.cell ≡ cell
    → Keeps p q at position taken counts room → AreBack cell (c ∷ gone) back'
back-more cell gone back back' p c q at position taken counts room are added view in_cell keeps = subst (λ (b : List (SeatView Entry GroupOf)). AreBack cell (c ∷ gone) b) (sym added) (record {
  rest = All-push (λ (x : SeatView Entry GroupOf). (x.cell ≡ cell) × (x.holds ≡ false)) back p are.rest (ap (λ (x : CpuSeatView). x.cell) view ∙ in_cell, keeps.0);
  each = All-cons (λ (x : CpuSeatView). IsBack x (back ++ p ∷ [])) c gone this (All-weaker (λ (x : CpuSeatView). IsBack x back) (λ (x : CpuSeatView). IsBack x (back ++ p ∷ [])) (λ x b. record { view = b.view; there = Contains-append_left back (p ∷ []) b.view b.there; same = b.same; own = b.own }) gone are.each);
})
  where
    cpu_is : q ≡ c.cpu
    cpu_is = ap (λ (x : CpuSeatView). x.cpu) view

    this : IsBack c (back ++ p ∷ [])
    this = record {
      view = p;
      there = Contains-push back p;
      same = ap (λ (x : CpuSeatView). cpu_seat_view x.cpu x.turns p) (sym view) ∙ view;
      own = λ s is. let seat = keeps.2 s is in (seat.low, seat.own ∙ cpu_is, seat.begun);
    }

-- all are back
pub back-end : (cell : Cell GroupOf) (all left gone : List CpuSeatView) (back : List (SeatView Entry GroupOf)) → length left ≡ 0 → all ≡ left ++ gone → AreBack cell gone back → AreBack cell all back
back-end cell all left gone back none split are =
    subst (λ (cs : List CpuSeatView). AreBack cell cs back) (sym (split ∙ ap (λ (l : List CpuSeatView). l ++ gone) (nil_from_length left none))) are

pub middle : (cell : Cell GroupOf) (all new gone : List CpuSeatView) (c : CpuSeatView) → All (λ p. p.cell ≡ cell) all → all ≡ new ++ c ∷ gone → c.cell ≡ cell
middle cell all new gone c each split =
    let low : length new < length all = (let long = length-append new (c ∷ gone) in let same = ap length split in omega (arith, long, same)) in
    let here : get_or all (length new) c ≡ c = ap (λ (l : List CpuSeatView). get_or l (length new) c) split ∙ get_or-append_seam new c gone c in
    subst (λ (p : CpuSeatView). p.cell ≡ cell) here (each (length new) c low)

-- what holds of all holds of each that is among them
all-at : {A : Type 0} (P : A → Type 0) (xs : List A) (x : A) → All P xs → Contains xs x → P x
all-at P xs x all there = subst P there.2 (all there.0 x there.1)

contains-map : {A : Type 0} (f : A → ℕ) (xs : List A) (x : A) → Contains xs x → Contains (map f xs) (f x)
contains-map f xs x there = (there.0, (let long = length-map xs f in let lt = there.1 in omega (arith, long, lt)), get_or-map f xs there.0 x (f x) there.1 ∙ ap f there.2)

map-contains : (xs : List CpuSeatView) (q : ℕ) (d : CpuSeatView) → Contains (map (λ (x : CpuSeatView). x.cpu) xs) q → (x : CpuSeatView) × Contains xs x × (x.cpu ≡ q)
map-contains xs q d there =
    let low : there.0 < length xs = (let long = length-map xs (λ (x : CpuSeatView). x.cpu) in let lt = there.1 in omega (arith, long, lt)) in
    (get_or xs there.0 d, (there.0, low, get_or_default xs there.0 (get_or xs there.0 d) d low), sym (get_or-map (λ (x : CpuSeatView). x.cpu) xs there.0 d q low) ∙ there.2)

module _ (t : TurnOf GroupOf) (known : (s : GroupOf) × (t.cell.subject ≡ Some s) × IsSite s t.cpus) (seats : List CpuSeatView) (back : List (SeatView Entry GroupOf)) (are : AreBack t.cell seats back) where
  -- all seats are back
  pub back-all : About t.cell (λ s. (q : ℕ) → IsProcessorOf (group_at s) q → Contains (map (λ (x : CpuSeatView). x.cpu) seats) q) → (i : ℕ) → i < t.cpus → Contains (map (λ (p : SeatView Entry GroupOf). p.cpu) back) i
  back-all all i lt =
      let s : GroupOf = known.0 in
      let low : i < cpu_count (group_at s) = rw (known.2.all) at lt in
      let q : ℕ = cpu_at (group_at s) i in
      let found = map-contains seats q (unused_seat t.cell 0) (all s known.1 q (cpu-of_group s i q low refl)) in
      let b : IsBack found.0 back = all-at (λ (x : CpuSeatView). IsBack x back) seats found.0 are.each found.1 in
      let cell : b.view.cell ≡ t.cell = (all-at (λ (p : SeatView Entry GroupOf). (p.cell ≡ t.cell) × (p.holds ≡ false)) back b.view are.rest b.there).0 in
      let own = b.own s (ap (λ (x : Cell GroupOf). x.subject) cell ∙ known.1) in
      let here : b.view.cpu ≡ i = sym (cpu-position s b.view.cpu q own.0 (own.1 ∙ found.2)) ∙ cpu-position s i q low refl in
      subst (λ k. Contains (map (λ (p : SeatView Entry GroupOf). p.cpu) back) k) here (contains-map (λ (p : SeatView Entry GroupOf). p.cpu) back b.view b.there)

  module _ (h : GroupHistory) (subject : t.cell.subject ≡ Some (about h)) (begun : IsBegunPlay (group_of h) h.entries) where
    -- what the turn says of the seats that came back, it says of the processors
    pub later-all : All (λ (p : SeatView Entry GroupOf). StartsWith h.entries p.seen) back → All (λ (x : CpuSeatView). StartsWith h.entries x.seen) seats
    later-all later k d lt =
        let c : CpuSeatView = get_or seats k d in
        let b : IsBack c back = are.each k d lt in
        subst (λ (x : CpuSeatView). StartsWith h.entries x.seen) b.same (all-at (λ (p : SeatView Entry GroupOf). StartsWith h.entries p.seen) back b.view later b.there)

    pub whole-all : All (λ (p : SeatView Entry GroupOf). AgreeOn (position_of_cpu (about h)) p.cpu h.entries p.seen) back → All (λ (x : CpuSeatView). AgreeOn cpu_of x.cpu h.entries x.seen) seats
    whole-all whole k d lt =
        let c : CpuSeatView = get_or seats k d in
        let b : IsBack c back = are.each k d lt in
        let cell : b.view.cell ≡ t.cell = (all-at (λ (p : SeatView Entry GroupOf). (p.cell ≡ t.cell) × (p.holds ≡ false)) back b.view are.rest b.there).0 in
        let own = b.own (about h) (ap (λ (x : Cell GroupOf). x.subject) cell ∙ subject) in
        let agree = all-at (λ (p : SeatView Entry GroupOf). AgreeOn (position_of_cpu (about h)) p.cpu h.entries p.seen) back b.view whole b.there in
        subst (λ (x : CpuSeatView). AgreeOn cpu_of c.cpu h.entries x.seen) b.same (agree-same (about h) b.view.cpu c.cpu own.0 own.1 h.entries b.view.seen (begun-home (group_of h) h.entries begun) (begun-home (group_of h) b.view.seen own.2) agree)
