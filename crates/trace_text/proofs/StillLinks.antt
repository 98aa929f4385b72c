-- The links of processors, some of which stay as they were.
use Rattle.std.proofs.Common.{◌≡◌, ℕ, true, not, List, [], ◌∷◌, refl, sym, ap, ◌∙◌}
use Rattle.std.specs.Prelude.{◌==◌, filter, OnOk, Result, Ok, Err}
use Rattle.rt_rules.specs.Numbers.{has, same}
use Rattle.rt_rules.proofs.BoolLaws.{or_true}
use Rattle.rt_rules.proofs.MemberLaws.{equal_self}
use Rattle.rt_changes.proofs.Lists.{same-self}
use Rattle.rt_model.specs.Group.{Group, group_processors}
use Rattle.rt_model.specs.Histories.{changed}
use Rattle.rt_model.specs.Links.{linked}
use Rattle.rt_model.specs.Past.{Past}
use Rattle.trace_lines.specs.declared.links.CpuLink.{CpuLink}
use Rattle.trace_lines.specs.Lines.{links_of}
use Rattle.trace_text.specs.Groups.{changed_links, cpus_in}
use Rattle.trace_text.specs.TraceText.{links_at}
use Rattle.trace_text.proofs.ReplayLaws.{changed_by, cpus-are}

module _ (g : Group) (was now : Past) where
  -- each of these processors is linked as before
  abbrev pub AreAsBefore : List ℕ → Type 0
  AreAsBefore qs = (q : ℕ) → has q qs ≡ true → linked g q now ≡ linked g q was

  of_rest : (q : ℕ) (qs : List ℕ) → AreAsBefore (q ∷ qs) → AreAsBefore qs
  of_rest q qs same p there = same p (rw there (or_true (p == q)))

  at_first : (q : ℕ) (qs : List ℕ) → AreAsBefore (q ∷ qs) → linked g q now ≡ linked g q was
  at_first q qs same = same q (rw (equal_self q) refl)

  pub links-stay : (qs : List ℕ) → AreAsBefore qs → links_at g now qs ≡ links_at g was qs
  links-stay [] all = refl
  links-stay (q ∷ qs) all = rw (at_first q qs all, links-stay qs (of_rest q qs all)) refl

  none-of : (qs : List ℕ) → AreAsBefore qs → filter (λ q. not (same (linked g q was) (linked g q now))) qs ≡ []
  none-of [] all = refl
  none-of (q ∷ qs) all = rw (at_first q qs all, same-self (linked g q was)) (none-of qs (of_rest q qs all))

  pub none-changed : AreAsBefore (group_processors g) → changed g was now ≡ []
  unfolding changed
  none-changed all = none-of (group_processors g) all

-- what was read of the links at a past, and those that are others than before
pub told-changed : (g : Group) (was now : Past) (before links changes : List CpuLink) → links_of before ≡ links_at g was (group_processors g)
    → links_of links ≡ links_at g now (cpus_in before) → links_of changes ≡ changed_links (links_of before) (links_at g now (cpus_in before))
    → (links_of links ≡ links_at g now (group_processors g)) × (links_of changes ≡ links_at g now (changed g was now))
told-changed g was now before links changes were read told =
    let all : links_of links ≡ links_at g now (group_processors g) = read ∙ ap (links_at g now) (cpus-are g was (group_processors g) before were) in
    (all, told ∙ ap (changed_links (links_of before)) (sym read) ∙ changed_by g was now before links (record { before_are = were; links_are = all }))

pub on-both : {A B C E : Type 0} (r : Result (Unit {0}) E) → OnOk r A → OnOk r B → (A → B → C) → OnOk r C
on-both (Ok u) a b f = f a b
on-both (Err e) a b f = tt
