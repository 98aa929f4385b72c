-- An engine that takes the steps of another again, and the links of its processors.
use Rattle.std.proofs.Common.{◌≡◌, ℕ, zero, suc, ◌+◌, ◌<◌, ◌≤◌, ◌==◌, Bool, true, false, not, List, [], ◌∷◌, length, map, drop, get_or, refl, sym, ap, ◌∙◌, subst, arith}
use Rattle.std.specs.Prelude.{All, filter, if◌then◌else◌}
use Rattle.std.proofs.lemmas.List.{get_or-drop, length-map}
use Rattle.std.proofs.Math.Seq.{drop-cons}
use Rattle.rt_base.specs.declared.CpuNo.{CpuNo}
use Rattle.rt_rules.specs.declared.history.Entry.{Entry}
use Rattle.rt_rules.specs.Numbers.{has, same}
use Rattle.rt_rules.proofs.BoolLaws.{or_true}
use Rattle.rt_rules.proofs.MemberLaws.{equal_self}
use Rattle.rt_model.specs.Group.{Group, group_processors}
use Rattle.rt_model.specs.Histories.{after, changed, past_from}
use Rattle.rt_model.specs.Links.{linked}
use Rattle.rt_model.specs.Past.{Past}
use Rattle.rt_plays.specs.Homes.{IsProcessorOf}
use Rattle.trace_lines.specs.declared.links.CpuLink.{CpuLink}
use Rattle.trace_lines.specs.Lines.{Link, link_of, links_of}
use Rattle.trace_text.specs.TraceText.{links_at}
use Rattle.trace_text.specs.Groups.{changed_links, cpu_numbers, cpus_in}

pub drop_end : {A : Type 0} (xs : List A) (n : ℕ) → length xs ≤ n → drop n xs ≡ []
drop_end [] zero h = refl
drop_end [] (suc n) h = refl
drop_end (x ∷ xs) zero h = absurd (omega arith)
drop_end (x ∷ xs) (suc n) h = drop_end xs n (omega arith)

-- each element's number is among the elements' numbers
all-has : {A : Type 0} (f : A → ℕ) (xs : List A) → All (λ x. has (f x) (map f xs) ≡ true) xs
all-has f [] k d h = absurd (omega arith)
all-has f (x ∷ xs) zero d h = rw (equal_self (f x)) refl
all-has f (x ∷ xs) (suc k) d h = rw (all-has f xs k d (omega arith)) (or_true (f (get_or xs k d) == f x))

pub cpus_there : (g : Group) (qs : List CpuNo) → cpu_numbers qs ≡ group_processors g → All (λ q. IsProcessorOf g q.0) qs
cpus_there g qs e k d h = subst (λ ys. has (get_or qs k d).0 ys ≡ true) e (all-has (λ (q : CpuNo). q.0) qs k d h)

cpus_of_links : (xs : List CpuLink) → map (λ (l : Link). l.0) (links_of xs) ≡ cpus_in xs
cpus_of_links [] = refl
cpus_of_links (x ∷ xs) = ap (λ ys. x.cpu.0 ∷ ys) (cpus_of_links xs)

cpus_at : (g : Group) (p : Past) (qs : List ℕ) → map (λ (l : Link). l.0) (links_at g p qs) ≡ qs
cpus_at g p [] = refl
cpus_at g p (q ∷ qs) = ap (λ ys. q ∷ ys) (cpus_at g p qs)

-- the links of processors at a past are of these processors
pub cpus-are : (g : Group) (p : Past) (qs : List ℕ) (xs : List CpuLink) → links_of xs ≡ links_at g p qs → cpus_in xs ≡ qs
cpus-are g p qs xs e = sym (cpus_of_links xs) ∙ ap (map (λ (l : Link). l.0)) e ∙ cpus_at g p qs

pub links_there : (g : Group) (p : Past) (xs : List CpuLink) → links_of xs ≡ links_at g p (group_processors g) → All (λ x. IsProcessorOf g x.cpu.0) xs
links_there g p xs e k d h =
    subst (λ ys. has (get_or xs k d).cpu.0 ys ≡ true) (cpus-are g p (group_processors g) xs e) (all-has (λ (x : CpuLink). x.cpu.0) xs k d h)

-- of the links at a past, those that were others before
changed_at : (g : Group) (was now : Past) (qs : List ℕ)
    → changed_links (links_at g was qs) (links_at g now qs) ≡ links_at g now (filter (λ q. not (same (linked g q was) (linked g q now))) qs)
changed_at g was now [] = refl
changed_at g was now (q ∷ qs) = by_case (same (linked g q was) (linked g q now)) (filter (λ q. not (same (linked g q was) (linked g q now))) qs) (changed_at g was now qs)
  where
    by_case : (b : Bool) (others : List ℕ) → changed_links (links_at g was qs) (links_at g now qs) ≡ links_at g now others
        → (if b then changed_links (links_at g was qs) (links_at g now qs) else ((q, linked g q now) ∷ changed_links (links_at g was qs) (links_at g now qs)))
        ≡ links_at g now (if not b then (q ∷ others) else others)
    by_case true others rest = rest
    by_case false others rest = ap (λ ls. (q, linked g q now) ∷ ls) rest

-- the links of a group's processors at a past, and those before
pub record AreRead (g : Group) (was now : Past) (before links : List CpuLink) : Type 0 where
  pub before_are : links_of before ≡ links_at g was (group_processors g)
  pub links_are : links_of links ≡ links_at g now (group_processors g)

pub changed_by : (g : Group) (was now : Past) (before links : List CpuLink) → AreRead g was now before links
    → changed_links (links_of before) (links_of links) ≡ links_at g now (changed g was now)
unfolding changed
changed_by g was now before links r =
    ap (λ (xs : List Link). changed_links xs (links_of links)) r.before_are
    ∙ ap (changed_links (links_at g was (group_processors g))) r.links_are ∙ changed_at g was now (group_processors g)

pub as_many : (g : Group) (was now : Past) (before links : List CpuLink) → AreRead g was now before links → length links ≡ length before
as_many g was now before links r =
    let a : length (links_of links) ≡ length links = length-map links link_of in
    let b : length (links_of before) ≡ length before = length-map before link_of in
    let c : length (links_at g now (group_processors g)) ≡ length (group_processors g) = length-map (group_processors g) (λ q. (q, linked g q now)) in
    let d : length (links_at g was (group_processors g)) ≡ length (group_processors g) = length-map (group_processors g) (λ q. (q, linked g q was)) in
    omega (arith, a, b, c, d, ap length r.links_are, ap length r.before_are)

-- one more
pub past_next : (g g' : Group) (p p' : Past) (es : List Entry) (i : ℕ) (d : Entry) → i < length es → g' ≡ g → p' ≡ after g' (get_or es i d).step p → past_from g p' (drop (i + 1) es) ≡ past_from g p (drop i es)
unfolding past_from
past_next g g' p p' es i d low same is = let next : i + 1 ≡ suc i = omega arith in rw (next, drop-cons es i d low, is, same) refl

-- all of them
pub all_taken : (g : Group) (now was : Past) (es : List Entry) (i : ℕ) → length es ≤ i → past_from g now (drop i es) ≡ past_from g was es → now ≡ past_from g was es
unfolding past_from
all_taken g now was es i all is = ap (past_from g now) (sym (drop_end es i all)) ∙ is

-- where the rest of two lists is the same, so is what stands at its beginning
pub at_position : (xs ys : List CpuLink) (i : ℕ) (d : CpuLink) → drop i xs ≡ drop i ys → get_or xs i d ≡ get_or ys i d
at_position xs ys i d same =
    let here : i + 0 ≡ i = omega arith in
    ap (λ (n : ℕ). get_or xs n d) (sym here) ∙ sym (get_or-drop i xs 0 d) ∙ ap (λ (zs : List CpuLink). get_or zs 0 d) same ∙ get_or-drop i ys 0 d
    ∙ ap (λ (n : ℕ). get_or ys n d) here
