-- A play of a seat: what it finds when it takes the turn, and what it gives.
use Rattle.std.proofs.Common.{◌≡◌, ◌⊎◌, ℕ, ◌+◌, ◌<◌, ◌≤◌, Bool, true, false, List, [], ◌∷◌, ◌++◌, length, get_or, refl, sym, ap, ◌∙◌, subst, arith, append_assoc, length-append, inl, inr, Some}
use Rattle.std.specs.Prelude.{All, if◌then◌else◌, nat_lt, replicate}
use Rattle.std.proofs.lemmas.List.{length-replicate}
use Rattle.rt_base.specs.declared.TheConstants.{MOST_STEPS}
use Rattle.rt_rules.specs.declared.history.Entry.{Entry}
use Rattle.rt_model.specs.Histories.{reply_to, past_of, raises, raises_from, is_raise, after}
use Rattle.rt_plays.specs.Groups.{GroupHistory, group_of, past, with_entry}
use Rattle.rt_plays.specs.Homes.{IsProcessorOf}
use Rattle.rt_plays.specs.Drives.{horizon}
use Rattle.rt_plays.specs.Plays.{IsBegunPlay}
use Rattle.turn_cell.specs.Words.{entries_of, times, AgreeOn, StartsWith}
use Rattle.turn_cell.specs.SeatViews.{Cell, TurnOf, SeatView, IsGift}
use Rattle.turn_cell.specs.SeatViews as views
use Rattle.turn_cell.proofs.Tools.{one_some}
use Rattle.turn_cell.proofs.Views.{entries_here}
use Rattle.cpu_site.specs.declared.story.GroupOf.{GroupOf}
use Rattle.cpu_site.specs.declared.progress.Progress.{Progress}
use Rattle.cpu_site.specs.Playing.{IsFar, IsNextEntry, IsNextStep, IsOver}
use Rattle.cpu_site.specs.Raises.{cpu_at, cpu_count, raises_of, AreRaises}
use Rattle.cpu_site.specs.Seats.{about, group_at, cpu_of, cpu_seat_view, is_irq, looked_up, position_of_cpu, word_taken, About, CpuSeatView, IsEnd, IsPlay, IsQuiet, IsSeat, IsSite, IsTurnEnd}
use Rattle.cpu_site.specs.Turning.{IsTurnDone}
use Rattle.cpu_site.proofs.Drives.{begun-first, begun-home, far-first, far-later}
use Rattle.cpu_site.proofs.Numbering.{agree-same, cpu-of_group, cpu-position}
use Rattle.cpu_site.proofs.CpuViewLaws.{group-same, raises-append, raises_of-at}
use Rattle.cpu_site.proofs.Words.{word-own, word-others}

-- how many processors the group still has
pub count-same : (h h' : GroupHistory) (e : Entry) → h' ≡ with_entry e h → cpu_count (group_of h') ≡ cpu_count (group_of h)
count-same h h' e is = ap cpu_count (group-same h h' e is)

-- a count after an entry is as it was or one more
pub raises-each : (h h' : GroupHistory) (e : Entry) (before counts : List ℕ) → h' ≡ with_entry e h → AreRaises h before → AreRaises h' counts → (i : ℕ) → i < length before → (get_or counts i 0 ≡ get_or before i 0) ⊎ (get_or counts i 0 ≡ get_or before i 0 + 1)
raises-each h h' e before counts is was now i lt =
    let low : i < cpu_count (group_of h) = rw was.all at lt in
    let low' : i < cpu_count (group_of h') = omega (arith, low, count-same h h' e is) in
    let q : ℕ = cpu_at (group_of h) i in
    let old : get_or before i 0 ≡ raises (group_of h) q h.entries = was.each i low in
    let new : get_or counts i 0 ≡ raises (group_of h) q (h.entries ++ e ∷ []) = now.each i low' ∙ ap (λ (x : GroupHistory). raises (group_of x) (cpu_at (group_of x) i) x.entries) is in
    by_case (is_raise (group_of h) q (after (group_of h) e.step (past h)) (past h)) (sym old) (new ∙ raises-append (group_of h) q h.entries e)
  where
    by_case : (b : Bool) → {o n r : ℕ} → r ≡ o → n ≡ r + (if b then 1 else 0) → (n ≡ o) ⊎ (n ≡ o + 1)
    by_case true same more = inr (more ∙ ap (λ k. k + 1) same)
    by_case false same more = inl (omega (arith, same, more))

module _ (p : SeatView Entry GroupOf) (q : ℕ) (got : GroupHistory) (at : Progress) (taken : ℕ) (counts : List ℕ) (room : ℕ) (seat : IsSeat (about got) p q at taken counts room) (begun : IsBegunPlay (group_of got) got.entries) (later : StartsWith got.entries p.seen)
    (mine : AgreeOn (position_of_cpu (about got)) p.cpu got.entries p.seen) where
  own : AgreeOn cpu_of q got.entries p.seen
  own = agree-same (about got) p.cpu q seat.low seat.own got.entries p.seen (begun-home (group_of got) got.entries begun) (begun-home (group_of got) p.seen seat.begun) mine

  pub in-group : IsProcessorOf (group_of got) q
  in-group = cpu-of_group (about got) p.cpu q seat.low seat.own

  pub far-found : IsFar (group_of got) q got.entries at
  far-found = far-later (group_of got) q p.seen got.entries later own at seat.far

  -- the word that was taken is that of the list that was found
  word-found : taken ≡ word_taken (group_of got) q got.entries
  word-found = seat.word ∙ sym (word-others (group_of got) q p.seen got.entries later.0 later.1 own)

  -- nothing was added
  module _ (h' : GroupHistory) (p' : SeatView Entry GroupOf) (seen : p'.seen ≡ h'.entries) (same : h' ≡ got) where
    seen_is : p'.seen ≡ got.entries
    seen_is = seen ∙ ap (λ (x : GroupHistory). x.entries) same

    quiet : (turns turns' : ℕ) → IsQuiet (cpu_seat_view q turns p) (cpu_seat_view q turns' p')
    quiet turns turns' = record { later = (later.0, seen_is ∙ later.1); mine = ap (entries_of cpu_of q) seen_is ∙ own }

    turn-ended : (at' : Progress) → IsTurnDone (group_of got) q at.turns (past got) → IsTurnEnd (about got) (cpu_seat_view q at.turns p) (cpu_seat_view q at'.turns p')
    turn-ended at' over = record {
      quiet = quiet at.turns at'.turns;
      over = subst (λ (es : List Entry). IsTurnDone (group_of got) q at.turns (past_of (group_of got) es)) (sym seen_is) over;
    }

    ended : (at' : Progress) → IsOver (group_of got) q got.entries → at.turns ≡ horizon got.setup.drive → IsEnd (about got) (cpu_seat_view q at.turns p) (cpu_seat_view q at'.turns p')
    ended at' over all = record {
      quiet = quiet at.turns at'.turns;
      over = subst (λ (es : List Entry). IsOver (group_of got) q es) (sym seen_is) over;
      all = all;
    }

    quiet-seat : (at' : Progress) (counts' : List ℕ) → IsFar (group_of h') q h'.entries at' → length counts' ≡ length counts → p'.cpu ≡ p.cpu → p'.raises ≡ raises_of h' → IsSeat (about got) p' q at' taken counts' room
    quiet-seat at' counts' far long cpu raises_are = record {
      low = rw cpu seat.low;
      own = rw cpu seat.own;
      begun = rw seen_is begun;
      far = rw seen_is (subst (λ (x : GroupHistory). IsFar (group_of x) q x.entries at') same far);
      recorded = rw (cpu, seen_is) (ap (λ (rs : List ℕ). get_or rs p.cpu 0) (raises_are ∙ ap raises_of same) ∙ raises_of-at got p.cpu seat.low ∙ ap (λ (x : ℕ). raises (group_of got) x got.entries) seat.own);
      word = rw seen_is word-found;
      all = long ∙ seat.all;
      room_is = seat.room_is;
    }

  -- a step was taken
  module _ (e : Entry) (next : IsNextEntry got at.turns q e) (h' : GroupHistory) (more : h' ≡ with_entry e got) where
    entries_are : h'.entries ≡ got.entries ++ e ∷ []
    entries_are = ap (λ (x : GroupHistory). x.entries) more

    played : (p' : SeatView Entry GroupOf) (at' : Progress) → p'.seen ≡ h'.entries → IsPlay (about got) (cpu_seat_view q at.turns p) e (cpu_seat_view q at'.turns p')
    played p' at' seen = record {
      own = next.own;
      between = later.0;
      ends = seen ∙ entries_are ∙ ap (λ (es : List Entry). es ++ e ∷ []) later.1;
      mine = ap (entries_of cpu_of q) (seen ∙ entries_are) ∙ entries_here cpu_of q got.entries e next.own ∙ ap (λ (es : List Entry). es ++ e ∷ []) own;
      next = subst (λ (es : List Entry). IsNextStep (group_of got) at.turns q es e.step) later.1 next.next;
      reply = subst (λ (es : List Entry). e.reply ≡ reply_to (group_of got) e.step (past_of (group_of got) es)) later.1 next.reply;
    }

    played-seat : (p' : SeatView Entry GroupOf) (at' : Progress) (counts' now : List ℕ) (taken' room' : ℕ) → p'.seen ≡ h'.entries → length counts' ≡ length counts → p'.cpu ≡ p.cpu → p'.raises ≡ raises_of h' → IsBegunPlay (group_of h') h'.entries → IsFar (group_of h') q h'.entries at' → AreRaises h' now
        → taken' ≡ (if is_irq e.step.act then get_or now p.cpu 0 else taken) → room ≤ room' → IsSeat (about got) p' q at' taken' counts' room'
    played-seat p' at' counts' now taken' room' seen long cpu raises_are begun' far are word wide =
        let seen_at : p'.seen ≡ got.entries ++ e ∷ [] = seen ∙ entries_are in
        let told : raises (group_of h') (cpu_at (group_of h') p.cpu) h'.entries ≡ raises (group_of got) q (got.entries ++ e ∷ []) = ap (λ (x : GroupHistory). raises (group_of x) (cpu_at (group_of x) p.cpu) x.entries) more ∙ ap (λ (x : ℕ). raises (group_of got) x (got.entries ++ e ∷ [])) seat.own in
        let low = seat.low in
        let low' : p.cpu < cpu_count (group_of h') = omega (arith, low, count-same got h' e more) in
        record {
          low = rw cpu seat.low;
          own = rw cpu seat.own;
          begun = rw seen_at (subst (λ (x : GroupHistory). IsBegunPlay (group_of x) x.entries) more begun');
          far = rw seen_at (subst (λ (x : GroupHistory). IsFar (group_of x) q x.entries at') more far);
          recorded = rw (cpu, seen_at) (ap (λ (rs : List ℕ). get_or rs p.cpu 0) raises_are ∙ raises_of-at h' p.cpu low' ∙ told);
          word = rw seen_at (word ∙ by_case (is_irq e.step.act) (are.each p.cpu low' ∙ told) word-found ∙ sym (word-own (group_of got) q got.entries e next.own));
          all = long ∙ seat.all;
          room_is = let r = seat.room_is in omega (arith, r, wide);
        }
      where
        by_case : (b : Bool) → {a c d f : ℕ} → a ≡ c → d ≡ f → (if b then a else d) ≡ (if b then c else f)
        by_case true x y = x
        by_case false x y = y

    gift : (n : ℕ) (before now raised : List ℕ) → n ≡ cpu_count (group_of got) → AreRaises got before → AreRaises h' now → length h'.entries ≤ MOST_STEPS → All (λ i. i < length before) raised → ((i : ℕ) → times i raised ≤ 1)
        → ((i : ℕ) → i < length before → get_or now i 0 ≡ get_or before i 0 + times i raised)
        → IsGift (λ (x : GroupHistory). x.entries) (position_of_cpu (about h')) raises_of n p.cpu got.entries (raises_of got) raised h'
    gift n before now raised all was are few named once counted = record {
      list_is = inr (e, entries_are, ap (λ (s : GroupOf). position_of_cpu s e) (ap about more) ∙ cpu-position (about got) p.cpu (cpu_of e) seat.low (seat.own ∙ sym next.own));
      few = omega (arith, few);
      named = λ k d lt. let n_is : n ≡ length before = all ∙ sym was.all in rw n_is (named k d lt);
      once = once;
      counted = λ i lt.
          let low : i < cpu_count (group_of got) = rw all at lt in
          let low' : i < cpu_count (group_of h') = omega (arith, low, count-same got h' e more) in
          let a = raises_of-at h' i low' in
          let b = are.each i low' in
          let c = raises_of-at got i low in
          let d = was.each i low in
          let f = counted i (rw was.all low) in
          a ∙ sym b ∙ f ∙ ap (λ k. k + times i raised) (d ∙ sym c);
      quiet = λ same. absurd (let long = ap length (sym entries_are ∙ same) in omega (arith, long, length-append got.entries (e ∷ [])));
    }

-- ---- which setup and group it is

pub seat-of : (p : SeatView Entry GroupOf) (q : ℕ) (p0 : CpuSeatView) (t u : TurnOf GroupOf) (h : GroupHistory) (at : Progress) (taken : ℕ) (counts : List ℕ) (room : ℕ) → cpu_seat_view q at.turns p ≡ p0 → t ≡ u → p0.cell ≡ u.cell → t.cell.subject ≡ Some (about h) → About p.cell (λ s. IsSeat s p q at taken counts room)
    → IsSeat (about h) p q at taken counts room
seat-of p q p0 t u h at taken counts room same site cell subject seat =
    let cells : p.cell ≡ t.cell = ap (λ (x : CpuSeatView). x.cell) same ∙ cell ∙ sym (ap (λ (x : TurnOf GroupOf). x.cell) site) in
    seat (about h) (ap (λ (x : Cell GroupOf). x.subject) cells ∙ subject)

pub site-of : (t : TurnOf GroupOf) (h : GroupHistory) → t.cell.subject ≡ Some (about h) → (s : GroupOf) × (t.cell.subject ≡ Some s) × IsSite s t.cpus → IsSite (about h) t.cpus
site-of t h subject site = subst (λ (s : GroupOf). IsSite s t.cpus) (one_some t.cell.subject site.0 (about h) site.1 subject) site.2

-- ---- a play, from what the seat knew to what it knows

-- what a seat keeps
abbrev pub Keeps : SeatView Entry GroupOf → ℕ → Progress → ℕ → ℕ → List ℕ → ℕ → Type 0
Keeps p q at position taken counts room = (p.holds ≡ false) × (p.cpu ≡ position) × About p.cell (λ s. IsSeat s p q at taken counts room)

module _ (p p1 p' : SeatView Entry GroupOf) (p0 : CpuSeatView) (t u : TurnOf GroupOf) (got h' : GroupHistory) (q : ℕ) (at : Progress) (position taken : ℕ) (counts : List ℕ) (room : ℕ) (view : cpu_seat_view q at.turns p ≡ p0) (site : t ≡ u) (cell : p0.cell ≡ u.cell) (subject : t.cell.subject ≡ Some (about got))
    (keeps : Keeps p q at position taken counts room) (begun : IsBegunPlay (group_of got) got.entries) (later : StartsWith got.entries p.seen) (mine : AgreeOn (position_of_cpu (about got)) p.cpu got.entries p.seen)
    (took : p1 ≡ views.taken got.entries (raises_of got) p) (gave : p' ≡ views.given_back h'.entries (raises_of h') p1) where
  seat : IsSeat (about got) p q at taken counts room
  seat = seat-of p q p0 t u got at taken counts room view site cell subject keeps.2

  now_is : p' ≡ views.given_back h'.entries (raises_of h') (views.taken got.entries (raises_of got) p)
  now_is = gave ∙ ap (views.given_back h'.entries (raises_of h')) took

  subject_is : p'.cell.subject ≡ Some (about got)
  subject_is = ap (λ (x : SeatView Entry GroupOf). x.cell.subject) now_is ∙ ap (λ (x : Cell GroupOf). x.subject) (ap (λ (x : CpuSeatView). x.cell) view ∙ cell ∙ sym (ap (λ (x : TurnOf GroupOf). x.cell) site)) ∙ subject

  cpu_is : p'.cpu ≡ p.cpu
  cpu_is = ap (λ (x : SeatView Entry GroupOf). x.cpu) now_is

  seen_are : p'.seen ≡ h'.entries
  seen_are = ap (λ (x : SeatView Entry GroupOf). x.seen) now_is

  raises_are : p'.raises ≡ raises_of h'
  raises_are = ap (λ (x : SeatView Entry GroupOf). x.raises) now_is

  about_is : (s : GroupOf) → u.cell.subject ≡ Some s → about got ≡ s
  about_is s is = one_some u.cell.subject (about got) s (sym (ap (λ (x : TurnOf GroupOf). x.cell.subject) site) ∙ subject) is

  pub quiet-keeps : (at' : Progress) (counts' : List ℕ) → h' ≡ got → IsFar (group_of h') q h'.entries at' → length counts' ≡ length counts → Keeps p' q at' position taken counts' room
  quiet-keeps at' counts' same far long = (
    ap (λ (x : SeatView Entry GroupOf). x.holds) now_is,
    cpu_is ∙ keeps.1,
    λ s is. subst (λ (x : GroupOf). IsSeat x p' q at' taken counts' room) (one_some p'.cell.subject (about got) s subject_is is)
        (quiet-seat p q got at taken counts room seat begun later mine h' p' seen_are same at' counts' far long cpu_is raises_are),
  )

  pub turn-tells : (at' : Progress) → h' ≡ got → IsTurnDone (group_of got) q at.turns (past got) → About u.cell (λ s. IsTurnEnd s p0 (cpu_seat_view q at'.turns p'))
  turn-tells at' same over s is =
      subst (λ (x : GroupOf). IsTurnEnd x p0 (cpu_seat_view q at'.turns p')) (about_is s is)
      (subst (λ (x : CpuSeatView). IsTurnEnd (about got) x (cpu_seat_view q at'.turns p')) view (turn-ended p q got at taken counts room seat begun later mine h' p' seen_are same at' over))

  pub ended-tells : (at' : Progress) → h' ≡ got → IsOver (group_of got) q got.entries → at.turns ≡ horizon got.setup.drive → About u.cell (λ s. IsEnd s p0 (cpu_seat_view q at'.turns p'))
  ended-tells at' same over all s is =
      subst (λ (x : GroupOf). IsEnd x p0 (cpu_seat_view q at'.turns p')) (about_is s is)
      (subst (λ (x : CpuSeatView). IsEnd (about got) x (cpu_seat_view q at'.turns p')) view (ended p q got at taken counts room seat begun later mine h' p' seen_are same at' over all))

  pub quiet-later : h' ≡ got → StartsWith p'.seen p0.seen
  quiet-later same = subst (λ (x : CpuSeatView). StartsWith p'.seen x.seen) view (later.0, seen_are ∙ ap (λ (x : GroupHistory). x.entries) same ∙ later.1)

  module _ (e : Entry) (next : IsNextEntry got at.turns q e) (more : h' ≡ with_entry e got) where
    pub played-keeps : (at' : Progress) (counts' now : List ℕ) (taken' room' : ℕ) → IsBegunPlay (group_of h') h'.entries → IsFar (group_of h') q h'.entries at' → length counts' ≡ length counts → AreRaises h' now → taken' ≡ (if is_irq e.step.act then get_or now position 0 else taken) → room ≤ room'
        → Keeps p' q at' position taken' counts' room'
    played-keeps at' counts' now taken' room' begun' far long are word wide = (
      ap (λ (x : SeatView Entry GroupOf). x.holds) now_is,
      cpu_is ∙ keeps.1,
      λ s is. subst (λ (x : GroupOf). IsSeat x p' q at' taken' counts' room') (one_some p'.cell.subject (about got) s subject_is is)
          (played-seat p q got at taken counts room seat begun later mine e next h' more p' at' counts' now taken' room' seen_are long cpu_is raises_are begun' far are
          (word ∙ ap (λ i. if is_irq e.step.act then get_or now i 0 else taken) (sym keeps.1)) wide),
    )

    pub played-later : StartsWith p'.seen p0.seen
    played-later =
        let own : StartsWith p'.seen p.seen = (later.0 ++ e ∷ [], seen_are ∙ ap (λ (x : GroupHistory). x.entries) more ∙ ap (λ (es : List Entry). es ++ e ∷ []) later.1 ∙ append_assoc p.seen later.0 (e ∷ [])) in
        subst (λ (x : CpuSeatView). StartsWith p'.seen x.seen) view own

    pub played-tells : (at' : Progress) → About u.cell (λ s. IsPlay s p0 e (cpu_seat_view q at'.turns p'))
    played-tells at' s is =
        subst (λ (x : GroupOf). IsPlay x p0 e (cpu_seat_view q at'.turns p')) (about_is s is)
        (subst (λ (x : CpuSeatView). IsPlay (about got) x e (cpu_seat_view q at'.turns p')) view (played p q got at taken counts room seat begun later mine e next h' more p' at' seen_are))

-- what is given, where the seat has what was taken
pub gift-at : (p p1 : SeatView Entry GroupOf) (q : ℕ) (got h' : GroupHistory) (at : Progress) (taken room n : ℕ) (counts before now raised : List ℕ) (seat : IsSeat (about got) p q at taken counts room) (begun : IsBegunPlay (group_of got) got.entries) (later : StartsWith got.entries p.seen)
    (mine : AgreeOn (position_of_cpu (about got)) p.cpu got.entries p.seen) → p1 ≡ views.taken got.entries (raises_of got) p → (e : Entry) → IsNextEntry got at.turns q e → h' ≡ with_entry e got → n ≡ cpu_count (group_of got) → AreRaises got before → AreRaises h' now
    → length h'.entries ≤ MOST_STEPS → All (λ i. i < length before) raised → ((i : ℕ) → times i raised ≤ 1) → ((i : ℕ) → i < length before → get_or now i 0 ≡ get_or before i 0 + times i raised)
    → IsGift (λ (x : GroupHistory). x.entries) (position_of_cpu (about h')) raises_of n p1.cpu p1.seen p1.raises raised h'
gift-at p p1 q got h' at taken room n counts before now raised seat begun later mine took e next more all was are few named once counted =
    subst (λ (x : SeatView Entry GroupOf). IsGift (λ (y : GroupHistory). y.entries) (position_of_cpu (about h')) raises_of n x.cpu x.seen x.raises raised h') (sym took)
    (gift p q got at taken counts room seat begun later mine e next h' more n before now raised all was are few named once counted)

-- ---- a look at the processor's word

module _ (p p' : SeatView Entry GroupOf) (p0 : CpuSeatView) (t u : TurnOf GroupOf) (q : ℕ) (at : Progress) (position taken : ℕ) (counts : List ℕ) (room : ℕ) (view : cpu_seat_view q at.turns p ≡ p0) (site : t ≡ u) (cell : p0.cell ≡ u.cell) (keeps : Keeps p q at position taken counts room) where
  cells : p.cell ≡ t.cell
  cells = ap (λ (x : CpuSeatView). x.cell) view ∙ cell ∙ sym (ap (λ (x : TurnOf GroupOf). x.cell) site)

  seat-in : (s : GroupOf) → t.cell.subject ≡ Some s → IsSeat s p q at taken counts room
  seat-in s is = keeps.2 s (ap (λ (x : Cell GroupOf). x.subject) cells ∙ is)

  pub looked-low : (s : GroupOf) × (t.cell.subject ≡ Some s) × IsSite s t.cpus → position < t.cpus
  looked-low known = let low = (seat-in known.0 known.1).low in let all = known.2.all in let same = keeps.1 in omega (arith, low, all, same)

  module _ (word : ℕ) (is : p' ≡ views.looked position word p) where
    found_is : p'.found ≡ word
    found_is = ap (λ (x : SeatView Entry GroupOf). x.found) is

    pub looked-word : get_or p.raises position 0 ≤ word → About u.cell (λ s. raises (group_at s) p0.cpu p0.seen ≤ p'.found)
    looked-word found s is_at =
        let seat : IsSeat s p q at taken counts room = seat-in s (ap (λ (x : TurnOf GroupOf). x.cell.subject) site ∙ is_at) in
        let told : raises (group_at s) q p.seen ≤ p'.found = let r = seat.recorded in let f = rw (sym keeps.1) at found in omega (arith, r, f, found_is) in
        subst (λ (x : CpuSeatView). raises (group_at s) x.cpu x.seen ≤ p'.found) view told

    pub looked-pending : About u.cell (λ s. nat_lt taken word ≡ nat_lt (word_taken (group_at s) p0.cpu p0.seen) p'.found)
    looked-pending s is_at =
        let seat : IsSeat s p q at taken counts room = seat-in s (ap (λ (x : TurnOf GroupOf). x.cell.subject) site ∙ is_at) in
        subst (λ (x : CpuSeatView). nat_lt taken word ≡ nat_lt (word_taken (group_at s) x.cpu x.seen) p'.found) view (ap (λ k. nat_lt k word) seat.word ∙ ap (nat_lt (word_taken (group_at s) q p.seen)) (sym found_is))

    pub looked-is : cpu_seat_view q at.turns p' ≡ looked_up p'.found p0
    looked-is =
        let own : cpu_seat_view q at.turns p' ≡ looked_up p'.found (cpu_seat_view q at.turns p) = ap (cpu_seat_view q at.turns) is ∙ ap (λ k. looked_up k (cpu_seat_view q at.turns p)) (sym found_is) in
        own ∙ ap (looked_up p'.found) view

    pub looked-keeps : Keeps p' q at position taken counts room
    looked-keeps = subst (λ (x : SeatView Entry GroupOf). Keeps x q at position taken counts room) (sym is) (
      keeps.0,
      keeps.1,
      λ s is_at. let seat : IsSeat s p q at taken counts room = keeps.2 s is_at in record { low = seat.low; own = seat.own; begun = seat.begun; far = seat.far; recorded = seat.recorded; word = seat.word; all = seat.all; room_is = seat.room_is },
    )

-- ---- the seats of a site that is opened

pub seated : (p : SeatView Entry GroupOf) (q position count : ℕ) (counts : List ℕ) (room : ℕ) → p ≡ views.fresh p.cell position → About p.cell (λ s. (position < count) × (count ≡ cpu_count (group_at s)) × (cpu_at (group_at s) position ≡ q)) → counts ≡ replicate count 0 → count ≤ room
    → (at : Progress) → at ≡ record { turns = 0; steps = 0 } → Keeps p q at position 0 counts room
unfolding raises raises_from
seated p q position count counts room is known zeros wide at start = (
  ap (λ (x : SeatView Entry GroupOf). x.holds) is,
  ap (λ (x : SeatView Entry GroupOf). x.cpu) is,
  λ s is_at.
      let k = known s is_at in
      subst (λ (x : SeatView Entry GroupOf). IsSeat s x q at 0 counts room) (sym is) (record {
        low = let a = k.0 in let b = k.1 in omega (arith, a, b);
        own = k.2;
        begun = begun-first (group_at s);
        far = subst (λ (x : Progress). IsFar (group_at s) q [] x) (sym start) (far-first (group_at s) q);
        recorded = refl;
        word = refl;
        all = ap length zeros ∙ length-replicate count 0 ∙ k.1;
        room_is = let b = k.1 in omega (arith, b, wide);
      }),
)
