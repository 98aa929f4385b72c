-- What processors are linked to and run, read one after another, and the interrupts that are counted.
use Rattle.std.proofs.Common.{◌≡◌, ◌≢◌, ℕ, suc, ◌+◌, ◌<◌, ◌≤◌, Bool, true, false, List, [], ◌∷◌, ◌++◌, length, set, get_or, refl, sym, ap, ◌∙◌, subst, arith, eqb-true, length-append}
use Rattle.std.specs.Prelude.{◌==◌, if◌then◌else◌, replicate, All}
use Rattle.std.proofs.Math.Seq.{get_or-append_seam}
use Rattle.std.proofs.lemmas.Bool.Decides.{nat_tests}
use Rattle.std.proofs.lemmas.Grind.{get_or_default_zero}
use Rattle.std.proofs.lemmas.List.{get_or_append_left, get_or-set_same, get_or-set_other, length-set, length-replicate, get_or-map, get_or-replicate}
use Rattle.rt_base.specs.declared.TheConstants.{MOST_STEPS}
use Rattle.rt_rules.specs.declared.history.Entry.{Entry}
use Rattle.rt_model.specs.Group.{Group, group_processors}
use Rattle.rt_model.specs.Past.{Past}
use Rattle.rt_model.specs.Links.{pending}
use Rattle.rt_model.proofs.Steps.{past_of-append}
use Rattle.rt_model.specs.Histories.{after, past_of, past_from, is_raise, raises, raises_from}
use Rattle.rt_plays.specs.Groups.{GroupHistory, group_of, past, with_entry}
use Rattle.cpu_site.specs.declared.cpu_views.CpuView.{CpuView}
use Rattle.cpu_site.specs.Raises.{cpu_at, cpu_count, is_raised, raise_at, raises_of, HaveCounted, IsCpuView, AreCpuViews, AreRaises}

raised-is : (g : Group) (q : ℕ) (now before : Past) (s t : CpuView) → IsCpuView g q now s → IsCpuView g q before t → is_raised s t ≡ is_raise g q now before
unfolding is_raise pending
raised-is g q now before s t at_now at_before = rw (at_now.link, at_now.runs, at_before.link, at_before.runs) refl

-- ---- reading them for the first time

pub record AreSeen (g : Group) (p : Past) (cpu_views : List CpuView) (n : ℕ) : Type 0 where
  pub all : length cpu_views ≡ n
  pub each : (i : ℕ) (d : CpuView) → i < n → IsCpuView g (cpu_at g i) p (get_or cpu_views i d)

pub seen-none : (g : Group) (p : Past) → AreSeen g p [] 0
seen-none g p = record { all = refl; each = λ i d lt. absurd (omega (arith, lt)) }

pub seen-more : (g : Group) (p : Past) (cpu_views cpu_views' : List CpuView) (n q : ℕ) (s : CpuView) → AreSeen g p cpu_views n → cpu_views' ≡ cpu_views ++ s ∷ [] → q ≡ cpu_at g n → IsCpuView g q p s → AreSeen g p cpu_views' (n + 1)
seen-more g p cpu_views cpu_views' n q s seen is at this = subst (λ (ss : List CpuView). AreSeen g p ss (n + 1)) (sym is) (record {
  all = length-append cpu_views (s ∷ []) ∙ ap (λ k. k + 1) seen.all;
  each = λ i d lt. by_case i d lt (i == n) refl;
})
  where
    by_case : (i : ℕ) (d : CpuView) → i < n + 1 → (b : Bool) → (i == n) ≡ b → IsCpuView g (cpu_at g i) p (get_or (cpu_views ++ s ∷ []) i d)
    by_case i d lt true is =
        let here : i ≡ n = eqb-true i n is in
        let value : get_or (cpu_views ++ s ∷ []) (length cpu_views) d ≡ s = get_or-append_seam cpu_views s [] d in
        let position : length cpu_views ≡ i = seen.all ∙ sym here in
        rw (← position, value) (subst (λ k. IsCpuView g (cpu_at g k) p s) (sym seen.all) (subst (λ x. IsCpuView g x p s) at this))
    by_case i d lt false is =
        let other : i ≢ n = grind (arith, nat_tests, is) in
        let below : i < n = omega (arith, lt, other) in
        rw (get_or_append_left cpu_views (s ∷ []) d i (omega (arith, below, seen.all))) (seen.each i d below)

pub seen-all : (g : Group) (p : Past) (cpu_views : List CpuView) (n : ℕ) → AreSeen g p cpu_views n → n ≡ cpu_count g → AreCpuViews g p cpu_views
seen-all g p cpu_views n seen all = record { all = seen.all ∙ all; each = λ i d lt. seen.each i d (omega (arith, lt, all)) }

-- ---- the interrupts at the first processors are counted, and these are looked at anew

pub record AreCounted (g : Group) (now : Past) (cpu_views cpu_views' : List CpuView) (old new : List ℕ) (n : ℕ) : Type 0 where
  pub all : length new ≡ length old
  pub all_seen : length cpu_views' ≡ length cpu_views
  pub seen : (i : ℕ) (d : CpuView) → i < n → IsCpuView g (cpu_at g i) now (get_or cpu_views' i d)
  pub unseen : (i : ℕ) (d : CpuView) → n ≤ i → get_or cpu_views' i d ≡ get_or cpu_views i d
  pub done : (before : Past) → AreCpuViews g before cpu_views → (i : ℕ) → i < n → get_or new i 0 ≡ get_or old i 0 + raise_at g (cpu_at g i) now before
  pub rest : (i : ℕ) → n ≤ i → get_or new i 0 ≡ get_or old i 0

pub counted-first : (g : Group) (now : Past) (cpu_views : List CpuView) (old : List ℕ) → AreCounted g now cpu_views cpu_views old old 0
counted-first g now cpu_views old = record {
  all = refl;
  all_seen = refl;
  seen = λ i d lt. absurd (omega (arith, lt));
  unseen = λ i d from. refl;
  done = λ before are i lt. absurd (omega (arith, lt));
  rest = λ i from. refl;
}

module _ (g : Group) (now : Past) (cpu_views cpu_views' : List CpuView) (old new : List ℕ) (n : ℕ) (counted : AreCounted g now cpu_views cpu_views' old new n) (all : length cpu_views ≡ cpu_count g) (same : length old ≡ length cpu_views) (low : n < cpu_count g) (s : CpuView) (this : IsCpuView g (cpu_at g n) now s) (d : CpuView) where
  this-raise : (before : Past) → AreCpuViews g before cpu_views → (b : Bool) → is_raised s (get_or cpu_views' n d) ≡ b → raise_at g (cpu_at g n) now before ≡ (if b then 1 else 0)
  this-raise before are b is =
      let was : IsCpuView g (cpu_at g n) before (get_or cpu_views' n d) = rw (counted.unseen n d (omega arith)) (are.each n d low) in
      let same : is_raise g (cpu_at g n) now before ≡ b = sym (raised-is g (cpu_at g n) now before s (get_or cpu_views' n d) this was) ∙ is in
      rw same refl

  seen-next : (i : ℕ) (e : CpuView) → i < n + 1 → (b : Bool) → (i == n) ≡ b → IsCpuView g (cpu_at g i) now (get_or (set cpu_views' n s) i e)
  seen-next i e lt true is =
      let here : i ≡ n = eqb-true i n is in
      let value : get_or (set cpu_views' n s) n e ≡ s = get_or-set_same cpu_views' n s e (omega (arith, counted.all_seen, all, low)) in
      rw (here, value) this
  seen-next i e lt false is =
      let other : i ≢ n = grind (arith, nat_tests, is) in
      rw (get_or-set_other cpu_views' n i s e other) (counted.seen i e (omega (arith, lt, other)))

  unseen-next : (i : ℕ) (e : CpuView) → n + 1 ≤ i → get_or (set cpu_views' n s) i e ≡ get_or cpu_views i e
  unseen-next i e from = let other : i ≢ n = omega (arith, from) in get_or-set_other cpu_views' n i s e other ∙ counted.unseen i e (omega (arith, from))

  pub counted-none : is_raised s (get_or cpu_views' n d) ≡ false → AreCounted g now cpu_views (set cpu_views' n s) old new (n + 1)
  counted-none is = record {
    all = counted.all;
    all_seen = length-set cpu_views' n s ∙ counted.all_seen;
    seen = λ i e lt. seen-next i e lt (i == n) refl;
    unseen = unseen-next;
    done = λ before are i lt. by_case before are i lt (i == n) refl;
    rest = λ i from. counted.rest i (omega (arith, from));
  }
    where
      by_case : (before : Past) → AreCpuViews g before cpu_views → (i : ℕ) → i < n + 1 → (b : Bool) → (i == n) ≡ b → get_or new i 0 ≡ get_or old i 0 + raise_at g (cpu_at g i) now before
      by_case before are i lt true at =
          let here : i ≡ n = eqb-true i n at in
          let none : raise_at g (cpu_at g n) now before ≡ 0 = this-raise before are false is in
          let rest : get_or new n 0 ≡ get_or old n 0 = counted.rest n (omega arith) in
          rw here (omega (arith, none, rest))
      by_case before are i lt false at =
          let other : i ≢ n = grind (arith, nat_tests, at) in
          counted.done before are i (omega (arith, lt, other))

  pub counted-one : is_raised s (get_or cpu_views' n d) ≡ true → AreCounted g now cpu_views (set cpu_views' n s) old (set new n (get_or new n 0 + 1)) (n + 1)
  counted-one is = record {
    all = length-set new n _ ∙ counted.all;
    all_seen = length-set cpu_views' n s ∙ counted.all_seen;
    seen = λ i e lt. seen-next i e lt (i == n) refl;
    unseen = unseen-next;
    done = λ before are i lt. by_case before are i lt (i == n) refl;
    rest = λ i from. let other : i ≢ n = omega (arith, from) in get_or-set_other new n i (get_or new n 0 + 1) 0 other ∙ counted.rest i (omega (arith, from));
  }
    where
      by_case : (before : Past) → AreCpuViews g before cpu_views → (i : ℕ) → i < n + 1 → (b : Bool) → (i == n) ≡ b → get_or (set new n (get_or new n 0 + 1)) i 0 ≡ get_or old i 0 + raise_at g (cpu_at g i) now before
      by_case before are i lt true at =
          let here : i ≡ n = eqb-true i n at in
          let one : raise_at g (cpu_at g n) now before ≡ 1 = this-raise before are true is in
          let rest : get_or new n 0 ≡ get_or old n 0 = counted.rest n (omega arith) in
          let value : get_or (set new n (get_or new n 0 + 1)) n 0 ≡ get_or new n 0 + 1 = get_or-set_same new n _ 0 (omega (arith, counted.all, same, all, low)) in
          rw here (omega (arith, one, rest, value))
      by_case before are i lt false at =
          let other : i ≢ n = grind (arith, nat_tests, at) in
          get_or-set_other new n i (get_or new n 0 + 1) 0 other ∙ counted.done before are i (omega (arith, lt, other))

pub counted-all : (g : Group) (now : Past) (cpu_views cpu_views' : List CpuView) (old new : List ℕ) (n : ℕ) → AreCounted g now cpu_views cpu_views' old new n → length cpu_views ≡ cpu_count g → cpu_count g ≤ n → HaveCounted g now cpu_views cpu_views' old new
counted-all g now cpu_views cpu_views' old new n counted all past = record {
  seen = record { all = counted.all_seen ∙ all; each = λ i d lt. counted.seen i d (omega (arith, lt, past)) };
  all = counted.all;
  each = λ before are i lt. counted.done before are i (omega (arith, lt, past));
}

-- ---- the raises of a history, one entry further

raises_from-append : (g : Group) (q : ℕ) (es : List Entry) (p : Past) (e : Entry) → raises_from g q p (es ++ e ∷ []) ≡ raises_from g q p es + raise_at g q (after g e.step (past_from g p es)) (past_from g p es)
unfolding raises_from past_from
raises_from-append g q [] p e = by_case (is_raise g q (after g e.step p) p) refl
  where
    by_case : (b : Bool) → is_raise g q (after g e.step p) p ≡ b → (if b then suc 0 else 0) ≡ 0 + (if b then 1 else 0)
    by_case true is = refl
    by_case false is = refl
raises_from-append g q (x ∷ es) p e = by_case (is_raise g q (after g x.step p) p) (raises_from-append g q es (after g x.step p) e)
  where
    by_case : (b : Bool) → raises_from g q (after g x.step p) (es ++ e ∷ []) ≡ raises_from g q (after g x.step p) es + raise_at g q (after g e.step (past_from g (after g x.step p) es)) (past_from g (after g x.step p) es)
        → (if b then suc (raises_from g q (after g x.step p) (es ++ e ∷ [])) else raises_from g q (after g x.step p) (es ++ e ∷ []))
        ≡ (if b then suc (raises_from g q (after g x.step p) es) else raises_from g q (after g x.step p) es) + raise_at g q (after g e.step (past_from g (after g x.step p) es)) (past_from g (after g x.step p) es)
    by_case true rest = omega (arith, rest)
    by_case false rest = rest

pub raises-append : (g : Group) (q : ℕ) (es : List Entry) (e : Entry) → raises g q (es ++ e ∷ []) ≡ raises g q es + raise_at g q (after g e.step (past_of g es)) (past_of g es)
unfolding raises past_of
raises-append g q es e = raises_from-append g q es [] e

raises_from-few : (g : Group) (q : ℕ) (es : List Entry) (p : Past) → raises_from g q p es ≤ length es
unfolding raises_from
raises_from-few g q [] p = omega arith
raises_from-few g q (x ∷ es) p = by_case (is_raise g q (after g x.step p) p) (raises_from-few g q es (after g x.step p))
  where
    by_case : (b : Bool) → raises_from g q (after g x.step p) es ≤ length es → (if b then suc (raises_from g q (after g x.step p) es) else raises_from g q (after g x.step p) es) ≤ length (x ∷ es)
    by_case true low = omega (arith, low)
    by_case false low = omega (arith, low)

pub raises-few : (g : Group) (q : ℕ) (es : List Entry) → raises g q es ≤ length es
unfolding raises
raises-few g q es = raises_from-few g q es []

pub raises_of-at : (h : GroupHistory) (i : ℕ) → i < cpu_count (group_of h) → get_or (raises_of h) i 0 ≡ raises (group_of h) (cpu_at (group_of h) i) h.entries
raises_of-at h i lt = get_or-map (λ q. raises (group_of h) q h.entries) (group_processors (group_of h)) i 0 0 lt

-- ---- the counts of raises

pub raises-none : (h : GroupHistory) (counts : List ℕ) (n : ℕ) → h.entries ≡ [] → n ≡ cpu_count (group_of h) → counts ≡ replicate n 0 → AreRaises h counts
unfolding raises raises_from
raises-none h counts n none all is = record {
  all = ap (λ (cs : List ℕ). length cs) is ∙ length-replicate n 0 ∙ all;
  each = λ i lt. ap (λ (cs : List ℕ). get_or cs i 0) is ∙ get_or-replicate n i 0 0 (omega (arith, lt, all)) ∙ ap (λ (es : List Entry). raises (group_of h) (cpu_at (group_of h) i) es) (sym none);
}

pub raises-low : (h : GroupHistory) (counts : List ℕ) → AreRaises h counts → length h.entries ≤ MOST_STEPS → All (λ c. c < 4294967296) counts
raises-low h counts are few k d lt =
    let at : get_or counts k 0 ≡ raises (group_of h) (cpu_at (group_of h) k) h.entries = are.each k (rw are.all at lt) in
    let low : raises (group_of h) (cpu_at (group_of h) k) h.entries ≤ length h.entries = raises-few (group_of h) (cpu_at (group_of h) k) h.entries in
    let zero : get_or counts k d ≡ get_or counts k 0 = get_or_default_zero counts k d lt in
    omega (arith, at, low, zero, few)

raises-next : (h : GroupHistory) (e : Entry) (counts new : List ℕ) (cpu_views cpu_views' : List CpuView) → AreRaises h counts → AreCpuViews (group_of h) (past h) cpu_views
    → HaveCounted (group_of h) (past (with_entry e h)) cpu_views cpu_views' counts new → AreRaises (with_entry e h) new
raises-next h e counts new cpu_views cpu_views' are seen more = record {
  all = more.all ∙ are.all;
  each = λ i lt.
      let q : ℕ = cpu_at (group_of h) i in
      let one = more.each (past h) seen i lt in
      let was = are.each i lt in
      let now : past_of (group_of h) (h.entries ++ e ∷ []) ≡ after (group_of h) e.step (past h) = past_of-append (group_of h) h.entries e in
      let told : raises (group_of h) q (h.entries ++ e ∷ []) ≡ raises (group_of h) q h.entries + raise_at (group_of h) q (after (group_of h) e.step (past h)) (past h) = raises-append (group_of h) q h.entries e in
      let same : raise_at (group_of h) q (past (with_entry e h)) (past h) ≡ raise_at (group_of h) q (after (group_of h) e.step (past h)) (past h) = ap (λ (p : Past). raise_at (group_of h) q p (past h)) now in
      one ∙ ap (λ n. n + raise_at (group_of h) q (past (with_entry e h)) (past h)) was ∙ ap (λ n. raises (group_of h) q h.entries + n) same ∙ sym told;
}

pub raises-more : (h h' : GroupHistory) (e : Entry) (counts new : List ℕ) (cpu_views cpu_views' : List CpuView) → h' ≡ with_entry e h → AreRaises h counts → AreCpuViews (group_of h) (past h) cpu_views
    → HaveCounted (group_of h') (past h') cpu_views cpu_views' counts new → AreRaises h' new
raises-more h h' e counts new cpu_views cpu_views' is are seen more =
    subst (λ (x : GroupHistory). AreRaises x new) (sym is)
    (raises-next h e counts new cpu_views cpu_views' are seen (subst (λ (x : GroupHistory). HaveCounted (group_of x) (past x) cpu_views cpu_views' counts new) is more))

pub group-same : (h h' : GroupHistory) (e : Entry) → h' ≡ with_entry e h → group_of h' ≡ group_of h
group-same h h' e is = ap group_of is
