-- What a seat has seen, once its turn was taken and given back.
use Rattle.std.proofs.Common.{◌≡◌, ℕ, false, List, [], ◌∷◌, ◌++◌, Some, sym, ap, ◌∙◌, subst}
use Rattle.turn_cell.specs.SeatViews.{Cell, given_back, taken}
use Rattle.turn_cell.specs.Words.{AgreeOn, StartsWith}
use Rattle.split_rules.specs.declared.SemEntry.{SemEntry}
use Rattle.split_inbox.specs.Books.{BookOf, IsHistory, IsLegalSem, cpu_of}
use Rattle.split_inbox.specs.declared.subject.SemOf.{SemOf}
use Rattle.split_laws.proofs.StepLaws.{some-same}
use Rattle.part_seat.specs.AtTurns.{HasGiven, IsFound}
use Rattle.part_seat.specs.Partitions.{Seat}

pub about-is : (cell turn : Cell SemOf) (s about : SemOf) → cell ≡ turn → cell.subject ≡ Some s → turn.subject ≡ Some about → about ≡ s
about-is cell turn s about same here there = sym (some-same (sym here ∙ ap (λ (k : Cell SemOf). k.subject) same ∙ there))

pub is-found : (s : SemOf) (q p : ℕ) (seen : List SemEntry) (b : BookOf) → b.about ≡ s → p ≡ q → IsHistory b.about b.entries → StartsWith b.entries seen
    → AgreeOn cpu_of p b.entries seen → IsFound s q seen b.entries
is-found s q p seen b about cpu kept later mine = record {
  legal = subst (λ x. IsLegalSem x b.entries) about kept.legal;
  later = later;
  mine = subst (λ n. AgreeOn cpu_of n b.entries seen) cpu mine;
}

pub has-given : (s : SemOf) (q : ℕ) (e : SemEntry) (a a1 a2 : Seat) (b b' : BookOf) → b.about ≡ s → IsFound s q a.seen b.entries → a.holds ≡ false
    → a1 ≡ taken b.entries [] a → b' ≡ record b { entries = b.entries ++ e ∷ [] } → IsHistory b'.about b'.entries → a2 ≡ given_back b'.entries [] a1
    → HasGiven s q e a a2
has-given s q e a a1 a2 b b' about found rests took made kept gave =
    let is : a2 ≡ given_back b'.entries [] (taken b.entries [] a) = gave ∙ ap (λ (k : Seat). given_back b'.entries [] k) took in
    let seen : a2.seen ≡ b'.entries = ap (λ (k : Seat). k.seen) is in
    let whole : record a { seen = a2.seen; raises = a2.raises } ≡ record a { seen = b'.entries; raises = [] } =
    ap (λ l. record a { seen = l; raises = a2.raises }) seen ∙ ap (λ r. record a { seen = b'.entries; raises = r }) (ap (λ (k : Seat). k.raises) is) in
    record {
      found = b.entries;
      is_found = found;
      seen = seen ∙ ap (λ (k : BookOf). k.entries) made;
      legal = subst (λ l. IsLegalSem s l) (sym seen) (subst (λ x. IsLegalSem x b'.entries) (ap (λ (k : BookOf). k.about) made ∙ about) kept.legal);
      same = is ∙ ap (λ h. record a { holds = h; seen = b'.entries; raises = [] }) (sym rests) ∙ sym whole;
    }
