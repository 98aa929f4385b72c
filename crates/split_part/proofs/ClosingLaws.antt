-- The end of a split run, step by step: what is left of an inbox, and the history of a book that is closed.
use Rattle.std.proofs.Common.{◌≡◌, ℕ, zero, suc, ◌+◌, ◌<◌, ◌≤◌, false, List, [], ◌∷◌, ◌++◌, length, map, drop, Some, refl, sym, ap, ◌∙◌, subst, arith}
use Rattle.std.specs.Prelude.{All, Contains, option_map, slice_get, slice_index_or}
use Rattle.std.proofs.lemmas.List.{drop_more, get_or-map, length-map}
use Rattle.std.proofs.lemmas.List.Elements.{All-cons}
use Rattle.std.proofs.lemmas.Option.{get_or_from_slice_get, slice_get-map, slice_get_within}
use Rattle.turn_cell.specs.SeatViews.{Cell, TurnOf}
use Rattle.turn_cell.specs.Words.{AgreeOn, StartsWith}
use Rattle.split_rules.specs.declared.SemEntry.{SemEntry}
use Rattle.split_inbox.specs.Books.{BookOf, IsHistory, IsLegalSem, cpu_of}
use Rattle.split_inbox.specs.Grants.{GrantOf}
use Rattle.split_inbox.specs.Inboxes.{InboxId, PosterOf, TakerOf}
use Rattle.split_inbox.specs.Posting.{AreNamed, AreRising, of_poster}
use Rattle.split_inbox.specs.declared.subject.SemOf.{SemOf}
use Rattle.split_laws.proofs.StepLaws.{some-same}
use Rattle.part_seat.specs.AtTurns.{About, IsFound}
use Rattle.part_seat.specs.Partitions.{PartOf, Seat, cells_of}
use Rattle.part_seat.specs.PartSeats.{inboxes_of}
use Rattle.split_part.specs.Closings.{AreResting, HasTakenAll, HasTakenAt, IsRest, IsRestAt, IsTold, claims_in}
use Rattle.split_part.specs.Columns.{AreBoth, AreFrom, IsColumn}
use Rattle.split_part.specs.Openings.{inboxes_at}
use Rattle.split_part.proofs.ColumnLaws.{from-at, from-first, got}

-- ---- columns

-- what holds of the element at a view of each row holds of the column
pub column-all : {A : Type 0} (P : A → Type 0) (k : ℕ) (rows : List (List A)) (xs : List A) → IsColumn k rows xs → All (λ row. (x : A) → slice_get row k ≡ Some x → P x) rows → All P xs
column-all P k [] [] col h = λ i d low. absurd (omega (arith, low))
column-all P k [] (y ∷ ys) col h = absurd col
column-all P k (row ∷ rows) [] col h = absurd col
column-all P k (row ∷ rows) (x ∷ xs) col h = All-cons P x xs (h 0 row (omega arith) x col.0) (column-all P k rows xs col.1 (λ i d low. h (suc i) d (omega (arith, low))))

pub column-from : {A : Type 0} (P : ℕ → A → Type 0) (k n : ℕ) (rows : List (List A)) (xs : List A) → IsColumn k rows xs → AreFrom (λ q row. (x : A) → slice_get row k ≡ Some x → P q x) n rows → AreFrom P n xs
column-from P k n [] [] col h = tt
column-from P k n [] (y ∷ ys) col h = absurd col
column-from P k n (row ∷ rows) [] col h = absurd col
column-from P k n (row ∷ rows) (x ∷ xs) col h = (h.0 x col.0, column-from P k (suc n) rows xs col.1 h.1)

-- ---- inboxes

module _ (inboxes : List InboxId) (rows : List (List PosterOf)) (each : All (λ row. inboxes_of row ≡ inboxes) rows) where
  pub inbox-wide : (k : ℕ) → k < length inboxes → All (λ row. k < length row) rows
  inbox-wide k low i d h =
      let e = ap length (each i d h) in
      let l = length-map (slice_index_or rows i d) (λ (b : PosterOf). b.inbox) in
      omega (arith, low, e, l)

  pub column-inbox : (k : ℕ) (inbox : InboxId) (hand : List PosterOf) → slice_get inboxes k ≡ Some inbox → IsColumn k rows hand → All (λ (b : PosterOf). b.inbox ≡ inbox) hand
  column-inbox k inbox hand there col =
      column-all (λ (b : PosterOf). b.inbox ≡ inbox) k rows hand col
      (λ i d h b at. some-same (sym (slice_get-map (λ (x : PosterOf). x.inbox) (slice_index_or rows i d) k ∙ ap (option_map (λ (x : PosterOf). x.inbox)) at) ∙ ap (λ l. slice_get l k) (each i d h) ∙ there))

pub rest-at : (rows : List (List PosterOf)) (takers : List TakerOf) (k : ℕ) (t : TakerOf) (hand : List PosterOf) (rest : List GrantOf) → slice_get takers k ≡ Some t → IsColumn k rows hand
    → All (λ (b : PosterOf). b.posted ≡ of_poster b.cpu (t.taken ++ claims_in rest)) hand → AreNamed t.tasks (claims_in rest) → AreRising (t.taken ++ claims_in rest) → IsRestAt rows takers k rest
rest-at rows takers k t hand rest there col all named rising u at =
    subst (λ (v : TakerOf). IsRest rows k v (claims_in rest)) (some-same (sym there ∙ at))
    (record { hand = hand; column = col; all = all; named = named; rising = rising })

-- ---- partitions

pub taken-at : (parts : List PartOf) (rests : List (List GrantOf)) (q : ℕ) (a a' : PartOf) (rest : List GrantOf) → slice_get parts q ≡ Some a → slice_get rests q ≡ Some rest
    → HasTakenAll a a' (claims_in rest) → HasTakenAt parts rests q a'
taken-at parts rests q a a' rest here there took b r at left =
    subst (λ (m : PartOf). HasTakenAll m a' (claims_in r)) (some-same (sym here ∙ at))
    (subst (λ l. HasTakenAll a a' (claims_in l)) (some-same (sym there ∙ left)) took)

-- ---- turns

module _ (turns : List (TurnOf SemOf)) (rows : List (List Seat)) (cells : All (λ row. map (λ (t : TurnOf SemOf). t.cell) turns ≡ cells_of row) rows) where
  pub turn-wide : (k : ℕ) → k < length turns → All (λ row. k < length row) rows
  turn-wide k low i d h =
      let e = ap length (cells i d h) in
      let l = length-map (slice_index_or rows i d) (λ (a : Seat). a.cell) in
      let m = length-map turns (λ (t : TurnOf SemOf). t.cell) in
      omega (arith, low, e, l, m)

  pub column-cell : (k : ℕ) (turn : TurnOf SemOf) (hand : List Seat) → slice_get turns k ≡ Some turn → IsColumn k rows hand → All (λ (a : Seat). a.cell ≡ turn.cell) hand
  column-cell k turn hand there col =
      column-all (λ (a : Seat). a.cell ≡ turn.cell) k rows hand col
      (λ i d h a at. some-same (sym (slice_get-map (λ (x : Seat). x.cell) (slice_index_or rows i d) k ∙ ap (option_map (λ (x : Seat). x.cell)) at) ∙ ap (λ l. slice_get l k) (sym (cells i d h))
      ∙ slice_get-map (λ (t : TurnOf SemOf). t.cell) turns k ∙ ap (option_map (λ (t : TurnOf SemOf). t.cell)) there))

-- the seats of all processors at a turn
abbrev pub IsOfCpu : ℕ → Seat → Type 0
IsOfCpu q a = (a.cpu ≡ q) × (a.holds ≡ false)

pub column-cpus : (k : ℕ) (rows : List (List Seat)) (hand : List Seat) → AreFrom AreResting 0 rows → IsColumn k rows hand → AreFrom IsOfCpu 0 hand
column-cpus k rows hand resting col = column-from IsOfCpu k 0 rows hand col (each 0 rows resting)
  where
    each : (n : ℕ) (rs : List (List Seat)) → AreFrom AreResting n rs → AreFrom (λ q row. (x : Seat) → slice_get row k ≡ Some x → IsOfCpu q x) n rs
    each n [] h = tt
    each n (row ∷ rs) h = ((λ x at. subst (IsOfCpu n) (get_or_from_slice_get row k x x at) (h.0 k x (slice_get_within row k x at))), each (suc n) rs h.1)

module _ (hand : List Seat) (cpus : AreFrom IsOfCpu 0 hand) where
  pub hand-resting : All (λ (a : Seat). a.holds ≡ false) hand
  hand-resting i d low = (from-at IsOfCpu 0 hand i d cpus low).1

  pub hand-contains : (q : ℕ) → q < length hand → Contains (map (λ (a : Seat). a.cpu) hand) q
  hand-contains q low =
      let l = length-map hand (λ (a : Seat). a.cpu) in
      let a = got hand q low in (
        q,
        omega (arith, low, l),
        get_or-map (λ (x : Seat). x.cpu) hand q a.0 q low ∙ ap (λ (x : Seat). x.cpu) (get_or_from_slice_get hand q a.0 a.0 a.1) ∙ (from-first IsOfCpu hand q a.0 cpus a.1).0,
      )

-- the book of a turn that is closed
pub told-by : (turn : TurnOf SemOf) (b : BookOf) (a : Seat) → turn.cell.subject ≡ Some b.about → IsHistory b.about b.entries → a.cell ≡ turn.cell → StartsWith b.entries a.seen
    → AgreeOn cpu_of a.cpu b.entries a.seen → IsTold a b.entries
told-by turn b a subject kept cell later mine s about =
    let same : b.about ≡ s = some-same (sym subject ∙ ap (λ (k : Cell SemOf). k.subject) (sym cell) ∙ about) in
    record { legal = subst (λ x. IsLegalSem x b.entries) same kept.legal; later = later; mine = mine }

pub told-more : (k : ℕ) (rows : List (List Seat)) (hand : List Seat) (es : List SemEntry) (books : List (List SemEntry)) → IsColumn k rows hand → All (λ (a : Seat). IsTold a es) hand
    → All (λ row. AreBoth IsTold (drop (k + 1) row) books) rows → All (λ row. AreBoth IsTold (drop k row) (es ∷ books)) rows
told-more k [] [] es books col all h = λ i d low. absurd (omega (arith, low))
told-more k [] (y ∷ ys) es books col all h = absurd col
told-more k (row ∷ rows) [] es books col all h = absurd col
told-more k (row ∷ rows) (a ∷ hand) es books col all h =
    let there = slice_get_within row k a col.0 in
    let parts : drop k row ≡ a ∷ drop (k + 1) row = drop_more row k a there ∙ ap (λ x. x ∷ drop (k + 1) row) (get_or_from_slice_get row k a a col.0) in
    let here : AreBoth IsTold (drop k row) (es ∷ books) = subst (λ l. AreBoth IsTold l (es ∷ books)) (sym parts) (all 0 a (omega arith), h 0 row (omega arith)) in
    All-cons (λ r. AreBoth IsTold (drop k r) (es ∷ books)) row rows here
    (told-more k rows hand es books col.1 (λ i d low. all (suc i) d (omega (arith, low))) (λ i d low. h (suc i) d (omega (arith, low))))
