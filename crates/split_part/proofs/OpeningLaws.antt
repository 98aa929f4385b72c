-- What a split run is opened of: fresh seats at the turns, partitions, inboxes, and seats of which nothing was played.
use Rattle.std.proofs.Common.{◌≡◌, ◌⊎◌, inl, inr, ℕ, zero, suc, ◌+◌, ◌<◌, ◌≤◌, Bool, true, false, List, [], ◌∷◌, ◌++◌, length, map, take, Some, refl, sym, ap, ◌∙◌, subst, arith, ltb-true, length-append}
use Rattle.std.specs.Prelude.{All, nat_lt, option_map, slice_get, slice_index_or}
use Rattle.std.proofs.lemmas.Bool.{ltb-false}
use Rattle.std.proofs.lemmas.List.{length-map}
use Rattle.std.proofs.lemmas.List.Elements.{All-cons, All-push}
use Rattle.std.proofs.lemmas.Option.{get_or_from_slice_get, slice_get-map, slice_get_within}
use Rattle.rt_task.specs.Validity.{IsValid}
use Rattle.rt_task.specs.declared.Parts.{Parts}
use Rattle.rt_plays.specs.Room.{processor_count}
use Rattle.atomic_table.specs.Seated.{TableId}
use Rattle.turn_cell.specs.SeatViews.{Cell, TurnOf, fresh, fresh_seats}
use Rattle.split_set.specs.SplitSets.{is_split_set}
use Rattle.split_rules.specs.PartLinks.{tasks}
use Rattle.split_rules.specs.Partitions.{part_group}
use Rattle.split_inbox.specs.Inboxes.{InboxId, PosterOf, TakerOf, fresh_poster, fresh_posters, fresh_taker, inbox_at, room_for}
use Rattle.split_inbox.specs.declared.subject.SemOf.{SemOf}
use Rattle.split_laws.proofs.StepLaws.{some-same}
use Rattle.split_turns.specs.SplitTurns.{AreTurns, AreTurnsFrom, book_of}
use Rattle.split_turns.specs.declared.turns.SemTurn.{SemTurn}
use Rattle.split_turns.proofs.ListLaws.{length-mapped}
use Rattle.part_player.proofs.OwnParts.{count-is}
use Rattle.part_seat.specs.AtTurns.{plain_claim}
use Rattle.part_seat.specs.Partitions.{AreUnused, IsSeatAt, PartOf, Seat, books_in, cells_of, group_of, unplayed}
use Rattle.part_seat.specs.PartSeats.{ArePosters, IsPosterAt, IsUnplayed, PartSeatView, posted_in, unlocks_of}
use Rattle.part_seat.specs.Steps as steps
use Rattle.split_part.specs.Closings.{HaveCpus}
use Rattle.split_part.specs.Columns.{AreBoth, AreFrom, IsColumn}
use Rattle.split_part.specs.Openings.{AreFreshRows, AreOpenParts, AreSeated, CanSeat, IsFreshTaker, IsOpenPart, IsSeated, inboxes_at, posters_at, rows_in, turns_in}
use Rattle.split_part.specs.Splits.{AreSeatsOf, AreUnplayed, IsSeatOf, SplitOf, cells_in}
use Rattle.split_part.proofs.ColumnLaws.{all-map, both-get, both-length, column-made, from-first, from-get, get-between, get-first, got, map-back, none-made, take-whole, wide-more}

-- ---- fresh seats

-- the seats of a turn, and one of them
abbrev pub views : Cell SemOf → ℕ → List Seat
views k n = fresh_seats k n

abbrev pub view : Cell SemOf → ℕ → Seat
view k q = fresh k q

pub length-fresh : (k : Cell SemOf) (n : ℕ) → length (views k n) ≡ n
length-fresh k zero = refl
length-fresh k (suc n) = let l = length-append (views k n) (view k n ∷ []) in let r = length-fresh k n in omega (arith, l, r)

last-fresh : (k : Cell SemOf) (n q : ℕ) → n ≡ q → slice_get (views k (suc n)) q ≡ Some (view k q)
last-fresh k n q is =
    subst (λ m. slice_get (views k (suc n)) m ≡ Some (view k m)) is
    (ap (slice_get (views k n ++ view k n ∷ [])) (sym (length-fresh k n)) ∙ get-between (views k n) [] (view k n))

pub get-fresh : (k : Cell SemOf) (n q : ℕ) → q < n → slice_get (views k n) q ≡ Some (view k q)
get-fresh k zero q low = absurd (omega (arith, low))
get-fresh k (suc n) q low = by_view (nat_lt q n) refl (get-fresh k n q)
  where
    by_view : (b : Bool) → nat_lt q n ≡ b → (q < n → slice_get (views k n) q ≡ Some (view k q)) → slice_get (views k (suc n)) q ≡ Some (view k q)
    by_view true h before = get-first (views k n) (view k n ∷ []) q (view k q) (before (ltb-true _ _ h))
    by_view false h before = let high = ltb-false q n h in last-fresh k n q (omega (arith, low, high))

-- the seats of processor q at its turns
abbrev pub fresh_at : ℕ → List (Cell SemOf) → List Seat
fresh_at q cells = map (λ (k : Cell SemOf). view k q) cells

pub column-fresh : (n q : ℕ) (cells : List (Cell SemOf)) (seats : List Seat) → q < n → IsColumn q (map (λ (k : Cell SemOf). views k n) cells) seats → seats ≡ fresh_at q cells
column-fresh n q cells seats low col = column-made (λ (k : Cell SemOf). views k n) (λ (k : Cell SemOf). view k q) q (λ k. get-fresh k n q low) cells seats col

pub cells-fresh : (q : ℕ) (cells : List (Cell SemOf)) → cells_of (fresh_at q cells) ≡ cells
cells-fresh q cells = map-back (λ (a : Seat). a.cell) (λ (k : Cell SemOf). view k q) (λ k. refl) cells

pub unused-fresh : (p : Parts) (q : ℕ) (cells : List (Cell SemOf)) → length cells ≡ length p.sems → AreFrom (λ s (k : Cell SemOf). k.subject ≡ Some (book_of p s)) 1 cells
    → AreUnused p q (fresh_at q cells)
unused-fresh p q cells count about = record {
  count = length-map cells (λ (k : Cell SemOf). view k q) ∙ count;
  each = λ i d low. let k = at i d low in subst (IsSeatAt p q (i + 1)) (sym k.2) (seat i k.0 k.1);
  unseen = λ i d low. ap (λ (a : Seat). a.seen) (at i d low).2;
}
  where
    at : (i : ℕ) (d : Seat) → i < length (fresh_at q cells) → (k : Cell SemOf) × (slice_get cells i ≡ Some k) × (slice_index_or (fresh_at q cells) i d ≡ view k q)
    at i d low =
        let l = length-map cells (λ (k : Cell SemOf). view k q) in
        let k = got cells i (omega (arith, low, l)) in
        (k.0, k.1, get_or_from_slice_get (fresh_at q cells) i (view k.0 q) d (slice_get-map (λ (c : Cell SemOf). view c q) cells i ∙ ap (option_map (λ (c : Cell SemOf). view c q)) k.1))

    seat : (i : ℕ) (k : Cell SemOf) → slice_get cells i ≡ Some k → IsSeatAt p q (i + 1) (view k q)
    seat i k there =
        let e : 1 + i ≡ i + 1 = omega arith in
        let subject = from-get (λ s (c : Cell SemOf). c.subject ≡ Some (book_of p s)) 1 cells i k about there in
        record { cpu = refl; rests = refl; about = subst (λ s. k.subject ≡ Some (book_of p s)) e subject }

-- the rows of the turns of a set
pub row-views : (p : Parts) (s : ℕ) (us : List SemTurn) → AreTurnsFrom p s us → rows_in us ≡ map (λ (k : Cell SemOf). views k (processor_count p)) (cells_in us)
row-views p s [] h = refl
row-views p s (t ∷ us) h = let first = h.0.seats in let others = row-views p (suc s) us h.1 in (λ i. first i ∷ others i)

pub row-abouts : (p : Parts) (s : ℕ) (us : List SemTurn) → AreTurnsFrom p s us → AreFrom (λ r (k : Cell SemOf). k.subject ≡ Some (book_of p r)) s (cells_in us)
row-abouts p s [] h = tt
row-abouts p s (t ∷ us) h = (h.0.book, row-abouts p (suc s) us h.1)

abbrev pub fresh_rows : (p : Parts) (ts : List SemTurn) (rows : List (List Seat)) → AreTurns p ts → rows ≡ rows_in ts → AreFreshRows p rows
fresh_rows p ts rows are same = record {
  cells = cells_in ts;
  rows_are = same ∙ row-views p 1 ts are.each;
  count = length-map ts (λ (t : SemTurn). t.turn.cell) ∙ are.count;
  about = row-abouts p 1 ts are.each;
}

pub cells-turns : (ts : List SemTurn) → map (λ (t : TurnOf SemOf). t.cell) (turns_in ts) ≡ cells_in ts
cells-turns [] = refl
cells-turns (t ∷ ts) = ap (λ l. t.turn.cell ∷ l) (cells-turns ts)

pub have-cpus : (p : Parts) (s : ℕ) (ts : List SemTurn) → AreTurnsFrom p s ts → HaveCpus (processor_count p) (turns_in ts)
have-cpus p s [] are = λ i d low. absurd (omega (arith, low))
have-cpus p s (t ∷ ts) are = All-cons (λ (k : TurnOf SemOf). k.cpus ≡ processor_count p) t.turn (turns_in ts) are.0.cpus (have-cpus p (suc s) ts are.1)

-- ---- partitions

-- the partition of processor q, by the names of the turns
pub open-part : (p : Parts) (rows : List (List Seat)) (fr : AreFreshRows p rows) (q : ℕ) (a : PartOf) → q < processor_count p → IsOpenPart p rows q a
    → a ≡ unplayed p q (fresh_at q fr.cells) a.room
open-part p rows fr q a low opened =
    let seats = column-fresh (processor_count p) q fr.cells a.seats low (subst (λ rs. IsColumn q rs a.seats) fr.rows_are opened.column) in
    opened.is ∙ ap (λ l. unplayed p q l a.room) seats

pub open-unused : (p : Parts) (rows : List (List Seat)) (fr : AreFreshRows p rows) (q : ℕ) (seats : List Seat) → q < processor_count p → IsColumn q rows seats → AreUnused p q seats
open-unused p rows fr q seats low col =
    let is = column-fresh (processor_count p) q fr.cells seats low (subst (λ rs. IsColumn q rs seats) fr.rows_are col) in
    subst (AreUnused p q) (sym is) (unused-fresh p q fr.cells fr.count fr.about)

pub rows-wide : (p : Parts) (rows : List (List Seat)) → AreFreshRows p rows → All (λ row. length row ≡ processor_count p) rows
rows-wide p rows fr =
    subst (All (λ row. length row ≡ processor_count p)) (sym fr.rows_are)
    (all-map (λ row. length row ≡ processor_count p) (λ (k : Cell SemOf). views k (processor_count p)) fr.cells (λ k. length-fresh k (processor_count p)))

module _ (p : Parts) (valid : IsValid p) (split : is_split_set p ≡ true) (rows : List (List Seat)) (fr : AreFreshRows p rows) where
  -- all seats are there at first
  pub first-rows : rows ≡ map (take (length p.clusters)) rows
  first-rows = sym (take-whole (length p.clusters) rows (subst (λ n. All (λ row. length row ≡ n) rows) (count-is p valid split) (rows-wide p rows fr)))

  pub rows-reach : (k : ℕ) → k < length p.clusters → All (λ row. k < length row) rows
  rows-reach k low = let n = count-is p valid split in wide-more (processor_count p) k rows (rows-wide p rows fr) (omega (arith, low, n))

-- ---- inboxes

module _ (table : TableId) (ts quotas : List ℕ) where
  pub length-posters : (n : ℕ) → length (fresh_posters table ts quotas n) ≡ n
  length-posters zero = refl
  length-posters (suc n) = let l = length-append (fresh_posters table ts quotas n) (fresh_poster table ts quotas n ∷ []) in let r = length-posters n in omega (arith, l, r)

  last-poster : (n q : ℕ) → n ≡ q → slice_get (fresh_posters table ts quotas (suc n)) q ≡ Some (fresh_poster table ts quotas q)
  last-poster n q is =
      subst (λ m. slice_get (fresh_posters table ts quotas (suc n)) m ≡ Some (fresh_poster table ts quotas m)) is
      (ap (slice_get (fresh_posters table ts quotas n ++ fresh_poster table ts quotas n ∷ [])) (sym (length-posters n)) ∙ get-between (fresh_posters table ts quotas n) [] (fresh_poster table ts quotas n))

  pub get-poster : (n q : ℕ) → q < n → slice_get (fresh_posters table ts quotas n) q ≡ Some (fresh_poster table ts quotas q)
  get-poster zero q low = absurd (omega (arith, low))
  get-poster (suc n) q low = by_view (nat_lt q n) refl (get-poster n q)
    where
      by_view : (b : Bool) → nat_lt q n ≡ b → (q < n → slice_get (fresh_posters table ts quotas n) q ≡ Some (fresh_poster table ts quotas q))
          → slice_get (fresh_posters table ts quotas (suc n)) q ≡ Some (fresh_poster table ts quotas q)
      by_view true h before = get-first (fresh_posters table ts quotas n) (fresh_poster table ts quotas n ∷ []) q (fresh_poster table ts quotas q) (before (ltb-true _ _ h))
      by_view false h before = let high = ltb-false q n h in last-poster n q (omega (arith, low, high))

  pub none-posted : (n : ℕ) → All (λ (b : PosterOf). b.posted ≡ []) (fresh_posters table ts quotas n)
  none-posted zero = λ i d low. absurd (omega (arith, low))
  none-posted (suc n) = All-push (λ (b : PosterOf). b.posted ≡ []) (fresh_posters table ts quotas n) (fresh_poster table ts quotas n) (none-posted n) refl

-- an inbox that was opened, by its taker
pub record IsOpenInbox (quotas : List ℕ) (a : PartOf) (i : InboxId) (row : List PosterOf) (t : TakerOf) : Type 0 where
  pub inbox : i ≡ t.inbox
  pub posters : row ≡ fresh_posters t.inbox.table t.tasks t.quotas (length t.quotas)
  pub taker : IsFreshTaker quotas a t

pub open-inbox : (quotas ts : List ℕ) (a : PartOf) (i : InboxId) (row : List PosterOf) (t : TakerOf) → i.room ≡ room_for quotas → row ≡ fresh_posters i.table ts quotas (length quotas)
    → t ≡ fresh_taker i.table ts quotas → ts ≡ tasks (group_of a) a.cpu → IsOpenInbox quotas a i row t
open-inbox quotas ts a i row t room posters taker named =
    let whole : i ≡ inbox_at i.table quotas = ap (λ n. record i { room = n }) room in
    let same : fresh_taker i.table ts quotas ≡ t = sym taker in
    record {
      inbox = whole ∙ ap (λ (k : TakerOf). k.inbox) same;
      posters = posters ∙ ap (λ (k : TakerOf). fresh_posters k.inbox.table k.tasks k.quotas (length k.quotas)) same;
      taker = taker ∙ ap (λ (k : TakerOf). fresh_taker k.inbox.table ts quotas) same ∙ ap (λ us. fresh_taker t.inbox.table us quotas) named;
    }

-- the posters of processor q
abbrev pub posters_of_cpu : ℕ → List TakerOf → List PosterOf
posters_of_cpu q ts = map (λ (t : TakerOf). fresh_poster t.inbox.table t.tasks t.quotas q) ts

-- ---- seats

module _ (p : Parts) (rows : List (List Seat)) (fr : AreFreshRows p rows) (parts : List PartOf) (opened : AreOpenParts p rows parts) (takers : List TakerOf)
    (are : AreBoth (IsFreshTaker (unlocks_of p)) parts takers) where
  abbrev pub cells : List (Cell SemOf)
  cells = fr.cells

  abbrev pub quotas : List ℕ
  quotas = unlocks_of p

  quotas-count : length quotas ≡ processor_count p
  quotas-count = length-mapped _ 0 (processor_count p)

  taker-count : length takers ≡ length parts
  taker-count = sym (both-length (IsFreshTaker quotas) parts takers are)

  -- what is known of the taker at a view
  pub record IsTakerAt (q : ℕ) (t : TakerOf) : Type 0 where
    pub low : q < processor_count p
    pub inbox : t.inbox ≡ inbox_at t.inbox.table t.quotas
    pub quotas_are : t.quotas ≡ quotas
    pub tasks_are : t.tasks ≡ tasks (part_group p q) q
    pub taken : t.taken ≡ []

  pub part-at : (q : ℕ) (a : PartOf) → slice_get parts q ≡ Some a → a ≡ unplayed p q (fresh_at q cells) a.room
  part-at q a there =
      let low = slice_get_within parts q a there in
      let n = opened.count in
      open-part p rows fr q a (omega (arith, low, n)) (from-first (IsOpenPart p rows) parts q a opened.each there)

  pub taker-at : (q : ℕ) (t : TakerOf) → slice_get takers q ≡ Some t → IsTakerAt q t
  taker-at q t there =
      let low = slice_get_within takers q t there in
      let n = opened.count in
      let m = taker-count in
      let a = got parts q (omega (arith, low, m)) in
      let is = both-get (IsFreshTaker quotas) parts takers q a.0 t are a.1 there in
      let part = part-at q a.0 a.1 in
      let qs : t.quotas ≡ quotas = ap (λ (k : TakerOf). k.quotas) is in
      record {
        low = omega (arith, low, n, m);
        inbox = ap (λ (k : TakerOf). k.inbox) is ∙ ap (inbox_at t.inbox.table) (sym qs);
        quotas_are = qs;
        tasks_are = ap (λ (k : TakerOf). k.tasks) is ∙ ap (λ (k : PartOf). tasks (group_of k) k.cpu) part;
        taken = ap (λ (k : TakerOf). k.taken) is;
      }

  -- each row has a poster for each processor
  pub posters-wide : All (λ row. length row ≡ length parts) (posters_at takers)
  posters-wide i d low =
      let l = length-map takers (λ (t : TakerOf). fresh_posters t.inbox.table t.tasks t.quotas (length t.quotas)) in
      let t = got takers i (omega (arith, low, l)) in
      let is = get_or_from_slice_get (posters_at takers) i _ d (slice_get-map (λ (k : TakerOf). fresh_posters k.inbox.table k.tasks k.quotas (length k.quotas)) takers i
      ∙ ap (option_map (λ (k : TakerOf). fresh_posters k.inbox.table k.tasks k.quotas (length k.quotas))) t.1) in
      ap length is ∙ length-posters t.0.inbox.table t.0.tasks t.0.quotas (length t.0.quotas) ∙ ap length (taker-at i t.0 t.1).quotas_are ∙ quotas-count ∙ sym opened.count

  pub posters-column : (q : ℕ) (posters : List PosterOf) → q < processor_count p → IsColumn q (posters_at takers) posters → posters ≡ posters_of_cpu q takers
  posters-column q posters low col =
      made takers posters (λ i t there. let at = taker-at i t there in let n = ap length at.quotas_are in let m = quotas-count in
      get-poster t.inbox.table t.tasks t.quotas (length t.quotas) q (omega (arith, low, n, m))) col
    where
      made : (ts : List TakerOf) (xs : List PosterOf)
          → ((i : ℕ) (t : TakerOf) → slice_get ts i ≡ Some t → slice_get (fresh_posters t.inbox.table t.tasks t.quotas (length t.quotas)) q ≡ Some (fresh_poster t.inbox.table t.tasks t.quotas q))
          → IsColumn q (posters_at ts) xs → xs ≡ posters_of_cpu q ts
      made [] [] is h = refl
      made [] (y ∷ ys) is h = absurd h
      made (t ∷ ts) [] is h = absurd h
      made (t ∷ ts) (y ∷ ys) is h =
          let first : y ≡ fresh_poster t.inbox.table t.tasks t.quotas q = some-same (sym h.0 ∙ is 0 t refl) in
          let others = made ts ys (λ i u there. is (suc i) u there) h.1 in
          (λ i. first i ∷ others i)

  poster-at : (q r : ℕ) (d : PosterOf) → r < length (posters_of_cpu q takers) → IsPosterAt p q r (slice_index_or (posters_of_cpu q takers) r d)
  poster-at q r d low =
      let l = length-map takers (λ (t : TakerOf). fresh_poster t.inbox.table t.tasks t.quotas q) in
      let t = got takers r (omega (arith, low, l)) in
      let at = taker-at r t.0 t.1 in
      subst (IsPosterAt p q r) (sym (get_or_from_slice_get (posters_of_cpu q takers) r (fresh_poster t.0.inbox.table t.0.tasks t.0.quotas q) d
      (slice_get-map (λ (k : TakerOf). fresh_poster k.inbox.table k.tasks k.quotas q) takers r ∙ ap (option_map (λ (k : TakerOf). fresh_poster k.inbox.table k.tasks k.quotas q)) t.1)))
      (record { cpu = refl; tasks_are = at.tasks_are; quotas_are = at.quotas_are })

  posters-are : (q : ℕ) → ArePosters p q (posters_of_cpu q takers)
  posters-are q = record { count = length-map takers (λ (t : TakerOf). fresh_poster t.inbox.table t.tasks t.quotas q) ∙ taker-count ∙ opened.count; each = poster-at q }

  -- what a seat is made of
  pub seat-unplayed : (q : ℕ) (a : PartSeatView) → IsSeated parts (posters_at takers) takers q a → IsUnplayed cells a
  seat-unplayed q a seated =
      let part = part-at q a.part seated.part in
      let low = slice_get_within parts q a.part seated.part in
      let n = opened.count in
      let posters = posters-column q a.posters (omega (arith, low, n)) seated.posters in
      let at = taker-at q a.taker seated.taker in
      record {
        entries = ap (λ (k : PartOf). k.entries) part;
        unseen = λ s. ap (λ (k : PartOf). books_in k.seats s) part ∙ unseen s;
        cells_are = ap (λ (k : PartOf). cells_of k.seats) part ∙ cells-fresh q cells;
        posters_are = subst (λ (k : PartOf). ArePosters k.setup k.cpu a.posters) (sym part) (subst (ArePosters p q) (sym posters) (posters-are q));
        unposted = λ r. ap (λ bs. posted_in bs r) posters ∙ none-made (λ (b : PosterOf). map plain_claim b.posted) (λ (t : TakerOf). fresh_poster t.inbox.table t.tasks t.quotas q) (λ t. refl) takers r;
        taker_tasks = at.tasks_are ∙ ap (λ (k : PartOf). tasks (group_of k) k.cpu) (sym part);
        untaken = at.taken;
      }
    where
      unseen : (s : ℕ) → books_in (fresh_at q cells) s ≡ []
      unseen zero = refl
      unseen (suc n) = none-made (λ (b : Seat). b.seen) (λ (k : Cell SemOf). view k q) (λ k. refl) cells n

  pub can-seat : CanSeat cells parts (posters_at takers) takers
  can-seat = record {
    count = taker-count;
    wide = posters-wide;
    unplayed_each = seat-unplayed;
    unposted = all-map (λ row. All (λ (b : PosterOf). b.posted ≡ []) row) (λ (t : TakerOf). fresh_posters t.inbox.table t.tasks t.quotas (length t.quotas)) takers
        (λ t. none-posted t.inbox.table t.tasks t.quotas (length t.quotas));
  }

  -- ---- the seats of a run
  module _ (x : SplitOf) (setup : x.setup ≡ p) (turns : map (λ (t : TurnOf SemOf). t.cell) x.turns ≡ cells) (inboxes : x.inboxes ≡ inboxes_at takers)
      (seats : List PartSeatView) (seated : AreSeated parts (posters_at takers) takers seats) where
    inbox-same : (q : ℕ) → inboxes_at takers ≡ map (λ (b : PosterOf). b.inbox) (posters_of_cpu q takers)
    inbox-same q = same takers (λ i t there. (taker-at i t there).inbox)
      where
        same : (ts : List TakerOf) → ((i : ℕ) (t : TakerOf) → slice_get ts i ≡ Some t → t.inbox ≡ inbox_at t.inbox.table t.quotas)
            → inboxes_at ts ≡ map (λ (b : PosterOf). b.inbox) (posters_of_cpu q ts)
        same [] is = refl
        same (t ∷ ts) is = let first = is 0 t refl in let others = same ts (λ i u there. is (suc i) u there) in (λ i. first i ∷ others i)

    seat-of : (q : ℕ) (a : PartSeatView) → IsSeated parts (posters_at takers) takers q a → IsSeatOf x a × (a.part.cpu ≡ q)
    seat-of q a is =
        let part = part-at q a.part is.part in
        let low = slice_get_within parts q a.part is.part in
        let n = opened.count in
        let posters = posters-column q a.posters (omega (arith, low, n)) is.posters in
        let cpu : a.part.cpu ≡ q = ap (λ (k : PartOf). k.cpu) part in (
          record {
            setup = ap (λ (k : PartOf). k.setup) part ∙ sym setup;
            seat = record {
              turns_are = turns ∙ sym (ap (λ (k : PartOf). cells_of k.seats) part ∙ cells-fresh q cells);
              taker_is =
                  ap (λ l. slice_get l a.part.cpu) inboxes ∙ ap (slice_get (inboxes_at takers)) cpu
                  ∙ slice_get-map (λ (t : TakerOf). t.inbox) takers q ∙ ap (option_map (λ (t : TakerOf). t.inbox)) is.taker;
              posters_are = inboxes ∙ inbox-same q ∙ ap (map (λ (b : PosterOf). b.inbox)) (sym posters);
            };
          },
          cpu,
        )

    seated-at : (q : ℕ) (d : PartSeatView) → q < length seats → IsSeated parts (posters_at takers) takers q (slice_index_or seats q d)
    seated-at q d low = let a = got seats q low in subst (IsSeated parts (posters_at takers) takers q) (sym (get_or_from_slice_get seats q a.0 d a.1)) (from-first (IsSeated parts (posters_at takers) takers) seats q a.0 seated.each a.1)

    pub seats-are : AreSeatsOf x seats
    seats-are = record {
      count = seated.count ∙ opened.count ∙ ap processor_count (sym setup);
      each = λ q d low. seat-of q (slice_index_or seats q d) (seated-at q d low);
    }

    pub seats-unplayed : AreUnplayed seats
    seats-unplayed q d low = ap (λ (k : PartOf). k.entries) (part-at q (slice_index_or seats q d).part (seated-at q d low).part)
