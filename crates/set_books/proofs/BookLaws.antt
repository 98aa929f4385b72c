-- Histories of books and of sets are one machine.
use Rattle.std.proofs.Common.{◌≡◌, ℕ, zero, suc, ◌+◌, ◌<◌, true, ◌⊎◌, inl, inr, List, [], ◌∷◌, length, map}
use Rattle.std.proofs.Common.{refl, sym, ap, ◌∙◌, subst, arith, eqb-true}
use Rattle.std.specs.Prelude.{Option, None, Some, slice_index, ◌==◌}
use Rattle.rt_task.specs.declared.Parts.{Parts}
use Rattle.rt_task.specs.declared.PluginKind.TheVariants.{PFp}
use Rattle.rt_task.specs.declared.Protocol.{Protocol}
use Rattle.rt_task.specs.declared.Protocol.TheVariants as protocols
use Rattle.rt_rules.specs.KeyOrder.{higher}
use Rattle.rt_rules.specs.Mpcp.{after_ask, passed_on}
use Rattle.rt_rules.specs.Numbers.{has, numbers_from}
use Rattle.rt_rules.specs.SemState.{SemState}
use Rattle.rt_rules.proofs.BoolLaws.{clash, either}
use Rattle.rt_rules.proofs.MemberLaws.{has-push, has-without}
use Rattle.rt_model.specs.BaseKeys.{above, base_key, key_by}
use Rattle.rt_model.specs.Group.{Group, protocol, task}
use Rattle.rt_plays.specs.Plays.{group_with}
use Rattle.split_rules.specs.SemHistories as sets
use Rattle.split_rules.specs.SemHistories.{next_by, nobody, seat_of}
use Rattle.split_rules.specs.declared.SemAct.{SemAct}
use Rattle.split_rules.specs.declared.SemAct.TheVariants as acts
use Rattle.split_rules.specs.declared.SemEntry.{SemEntry}
use Rattle.split_inbox.specs.Books as book
use Rattle.split_inbox.specs.Books.{above_prio, prio_key}
use Rattle.split_inbox.specs.declared.subject.SemOf.{SemOf}
use Rattle.split_inbox.proofs.Choosing.{foremost_same}
use Rattle.set_books.specs.SetBooks.{BooksAreLegal, IsAbout, rule_of}

index-map : (f : ℕ → ℕ) (a n i : ℕ) → i < n → slice_index (map f (numbers_from a n)) i ≡ f (a + i)
index-map f a zero i h = absurd (omega arith)
index-map f a (suc n) zero h = let e : a ≡ a + 0 = omega arith in ap f e
index-map f a (suc n) (suc i) h = let e : suc a + i ≡ a + suc i = omega arith in index-map f (suc a) n i (omega (arith, h)) ∙ ap f e

index-first : (f : ℕ → ℕ) (n i : ℕ) → i < n → slice_index (map f (numbers_from 0 n)) i ≡ f i
index-first f n i h = let e : 0 + i ≡ i = omega arith in index-map f 0 n i h ∙ ap f e

length-map-numbers : (f : ℕ → ℕ) (a n : ℕ) → length (map f (numbers_from a n)) ≡ n
length-map-numbers f a zero = refl
length-map-numbers f a (suc n) = ap suc (length-map-numbers f (suc a) n)

-- each number is below n
abbrev AllBelow : ℕ → List ℕ → Type 0
AllBelow n ts = (t : ℕ) → has t ts ≡ true → t < n

module _ (p : Parts) (s : ℕ) (about : SemOf) (fixed : protocol (group_with p 0) s ≡ protocols.Mpcp → p.plugin ≡ PFp) (is : IsAbout p s about) where
  abbrev g : Group
  g = group_with p 0

  abbrev count : ℕ
  count = length p.tasks + 1

  prio-is : (t : ℕ) → t < count → slice_index about.prios t ≡ (task g t).prio
  prio-is t h = ap (λ l. slice_index l t) is.prios_are ∙ index-first (λ u. (task g u).prio) count t h

  home-is : (t : ℕ) → t < count → slice_index about.homes t ≡ seat_of g t
  home-is t h = ap (λ l. slice_index l t) is.homes_are ∙ index-first (λ u. seat_of g u) count t h

  homes-count : length about.homes ≡ count
  homes-count = ap length is.homes_are ∙ length-map-numbers (λ u. seat_of g u) 0 count

  key-is : p.plugin ≡ PFp → (t : ℕ) → t < count → prio_key about.prios t ≡ base_key g t []
  unfolding base_key key_by
  key-is e t h = rw e (ap (λ n. record { band = 2; major = n; minor = t }) (prio-is t h))

  above-is : p.plugin ≡ PFp → (t u : ℕ) → t < count → u < count → above_prio about.prios t u ≡ above g [] t u
  unfolding above
  above-is e t u h k = ap (λ x. higher x (prio_key about.prios u)) (key-is e t h) ∙ ap (λ x. higher (base_key g t []) x) (key-is e u k)

  next-by : (x : Protocol) → (x ≡ protocols.Mpcp → p.plugin ≡ PFp) → (ts : List ℕ) → AllBelow count ts
      → book.next_by (rule_of x) about.prios ts ≡ next_by g x ts
  unfolding next_by
  next-by protocols.Mpcp pfp ts known =
      foremost_same (above_prio about.prios) (above g []) ts (λ t u h k. above-is (pfp refl) t u (known t h) (known u k))
  next-by protocols.Fmlp pfp ts known = refl
  next-by protocols.Omlp pfp ts known = refl
  next-by protocols.Pcp pfp ts known = refl
  next-by protocols.Srp pfp ts known = refl

  next-is : (ts : List ℕ) → AllBelow count ts → book.next_by about.rule about.prios ts ≡ next_by g (protocol g s) ts
  next-is ts known = ap (λ r. book.next_by r about.prios ts) is.rule_is ∙ next-by (protocol g s) fixed ts known

  -- who waits after an act
  known-asked : (t : ℕ) (o : Option ℕ) (l : SemState) → t < count → AllBelow count l.waiting → AllBelow count (after_ask t o l).waiting
  known-asked t None l h known = known
  known-asked t (Some v) l h known = λ u m. by_case u (either (u == t) (has u l.waiting) (sym (has-push u t l.waiting) ∙ m))
    where
      by_case : (u : ℕ) → (u == t ≡ true) ⊎ (has u l.waiting ≡ true) → u < count
      by_case u (inl e) = subst (λ v. v < count) (sym (eqb-true u t e)) h
      by_case u (inr e) = known u e

  known-passed : (o : Option ℕ) (ts : List ℕ) → AllBelow count ts → AllBelow count (passed_on o ts).waiting
  known-passed None ts known = known
  known-passed (Some v) ts known = λ u m. known u (has-without u v ts m)

  act-is : (t : ℕ) (a : SemAct) (l : SemState) → AllBelow count l.waiting → book.IsActAt about t a l → sets.IsActAt g (protocol g s) t a l
  act-is t (acts.Ask a) l known h = record { free_hands = h.free_hands; outside = h.outside; answer = h.answer }
  act-is t (acts.Release o) l known h = record { holds = h.holds; next = h.next ∙ next-is l.waiting known }

  after-is : (t : ℕ) (a : SemAct) (l : SemState) → AllBelow count l.waiting
      → book.after_act about t a l ≡ sets.after_act g (protocol g s) t a l
  after-is t (acts.Ask a) l known = refl
  after-is t (acts.Release o) l known = ap (λ (n : Option ℕ). passed_on n l.waiting) (next-is l.waiting known)

  known-after : (t : ℕ) (a : SemAct) (l : SemState) → t < count → AllBelow count l.waiting
      → AllBelow count (sets.after_act g (protocol g s) t a l).waiting
  known-after t (acts.Ask a) l h known = known-asked t l.holder l h known
  known-after t (acts.Release o) l h known = known-passed (next_by g (protocol g s) l.waiting) l.waiting known

  legal-from : (l : SemState) (es : List SemEntry) → AllBelow count l.waiting → book.IsLegalFrom about l es
      → sets.IsLegalFrom g (protocol g s) l es × (book.state_from about l es ≡ sets.state_from g (protocol g s) l es)
  legal-from l [] known h = (tt, refl)
  legal-from l (e ∷ es) known h =
      let n = homes-count in
      let here : e.task.0 < count = let k = h.0.known in omega (arith, k, n) in
      let l' : SemState = sets.after_act g (protocol g s) e.task.0 e.act l in
      let after : book.after_act about e.task.0 e.act l ≡ l' = after-is e.task.0 e.act l known in
      let rest = legal-from l' es (known-after e.task.0 e.act l here known) (subst (λ m. book.IsLegalFrom about m es) after h.1) in (
        (record { at_home = h.0.at_home ∙ home-is e.task.0 here; act = act-is e.task.0 e.act l known h.0.act }, rest.0),
        ap (λ m. book.state_from about m es) after ∙ rest.1,
      )

pub books_are_legal : BooksAreLegal
books_are_legal p s about es fixed is h =
    let both = legal-from p s about fixed is nobody es (λ t m. absurd (clash _ m refl)) h in
    record { legal = both.0; state_is = both.1 }
