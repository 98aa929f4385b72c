-- Links of which a part alone was read again.
use borrow.Rule.Slice.PartMut.{put_mid}
use Rattle.std.proofs.Common.{◌≡◌, ℕ, suc, ◌+◌, ◌-◌, ◌<◌, ◌≤◌, ◌⊎◌, inl, inr, List, [], ◌∷◌, ◌++◌, length, get_or, take, drop, refl, sym, ap, ◌∙◌, subst, arith, length-drop}
use Rattle.std.specs.Prelude.{All, if◌then◌else◌, slice_range}
use Rattle.std.proofs.lemmas.List.{get_or-drop, get_or-map, get_or-take, length-map, length-take-le, map-append, take-append-drop}
use Rattle.rt_rules.specs.Numbers.{same}
use Rattle.rt_changes.proofs.Lists.{same-self}
use Rattle.rt_model.specs.Group.{Group, group_processors}
use Rattle.rt_model.specs.Histories.{changed}
use Rattle.rt_model.specs.Links.{linked}
use Rattle.rt_model.specs.Past.{Past}
use Rattle.trace_lines.specs.declared.links.CpuLink.{CpuLink}
use Rattle.trace_lines.specs.Lines.{Link, link_of, links_of}
use Rattle.trace_text.specs.TraceText.{links_at}
use Rattle.trace_text.specs.Groups.{changed_links, cpus_in}
use Rattle.trace_text.proofs.ReplayLaws.{cpus-are}
use Rattle.trace_text.proofs.StillLinks.{told-changed}

changed-first : (fs xs ys : List Link) → changed_links (fs ++ xs) (fs ++ ys) ≡ changed_links xs ys
changed-first [] xs ys = refl
changed-first (f ∷ fs) xs ys = rw (same-self f.1) (changed-first fs xs ys)

changed-self : (cs : List Link) → changed_links cs cs ≡ []
changed-self [] = refl
changed-self (c ∷ cs) = rw (same-self c.1) (changed-self cs)

changed-last : (xs ys cs : List Link) → length xs ≡ length ys → changed_links (xs ++ cs) (ys ++ cs) ≡ changed_links xs ys
changed-last [] [] cs long = changed-self cs
changed-last [] (y ∷ ys) cs long = absurd (omega (arith, long))
changed-last (x ∷ xs) [] cs long = absurd (omega (arith, long))
changed-last (x ∷ xs) (y ∷ ys) cs long = ap (λ (zs : List Link). if same x.1 y.1 then zs else (y ∷ zs)) (changed-last xs ys cs (omega (arith, long)))

-- of lists that are alike outside a part, those that changed are those of the part
pub changed-middle : (fs xs ys cs : List Link) → length xs ≡ length ys → changed_links (fs ++ (xs ++ cs)) (fs ++ (ys ++ cs)) ≡ changed_links xs ys
changed-middle fs xs ys cs long = changed-first fs (xs ++ cs) (ys ++ cs) ∙ changed-last xs ys cs long

module _ (g : Group) (was now : Past) where
  -- the processor of a link is linked as before
  abbrev pub IsAsBefore : CpuLink → Type 0
  IsAsBefore x = linked g x.cpu.0 now ≡ linked g x.cpu.0 was

  links-still : (xs : List CpuLink) → All IsAsBefore xs → links_at g now (cpus_in xs) ≡ links_at g was (cpus_in xs)
  links-still [] all = refl
  links-still (x ∷ xs) all = rw (all 0 x (omega arith), links-still xs (λ k d low. all (suc k) d (omega (arith, low)))) refl

  links-both : (past : Past) (xs ys : List CpuLink) → links_at g past (cpus_in (xs ++ ys)) ≡ links_at g past (cpus_in xs) ++ links_at g past (cpus_in ys)
  links-both past [] ys = refl
  links-both past (x ∷ xs) ys = ap (λ (ls : List Link). (x.cpu.0, linked g x.cpu.0 past) ∷ ls) (links-both past xs ys)

  -- links that were read at a past are those of each of two parts
  each-part : (xs ys : List CpuLink) → links_of (xs ++ ys) ≡ links_at g was (cpus_in (xs ++ ys)) → (links_of xs ≡ links_at g was (cpus_in xs)) × (links_of ys ≡ links_at g was (cpus_in ys))
  each-part [] ys are = (refl, are)
  each-part (x ∷ xs) ys are =
      let first : link_of x ≡ (x.cpu.0, linked g x.cpu.0 was) = cc in
      let rest = each-part xs ys cc in
      (rw (first, rest.0) refl, rest.1)

  -- where a part between two others was read again, and the others are as before
  module _ (xs ys zs part changes : List CpuLink) (were : links_of (xs ++ (ys ++ zs)) ≡ links_at g was (cpus_in (xs ++ (ys ++ zs)))) (before : All IsAsBefore xs) (behind : All IsAsBefore zs)
      (read : links_of part ≡ links_at g now (cpus_in ys)) (told : links_of changes ≡ changed_links (links_of ys) (links_at g now (cpus_in ys))) where
    first : links_of xs ≡ links_at g now (cpus_in xs)
    first = (each-part xs (ys ++ zs) were).0 ∙ sym (links-still xs before)

    last : links_of zs ≡ links_at g now (cpus_in zs)
    last = (each-part ys zs (each-part xs (ys ++ zs) were).1).1 ∙ sym (links-still zs behind)

    all : links_of xs ++ (links_at g now (cpus_in ys) ++ links_of zs) ≡ links_at g now (cpus_in (xs ++ (ys ++ zs)))
    all = rw (first, last) (sym (links-both now xs (ys ++ zs) ∙ ap (λ (ls : List Link). links_at g now (cpus_in xs) ++ ls) (links-both now ys zs)))

    split : (ms : List CpuLink) → links_of (xs ++ (ms ++ zs)) ≡ links_of xs ++ (links_of ms ++ links_of zs)
    split ms = map-append link_of xs (ms ++ zs) ∙ ap (λ (ls : List Link). links_of xs ++ ls) (map-append link_of ms zs)

    long : length (links_of ys) ≡ length (links_at g now (cpus_in ys))
    long = omega (arith, length-map ys link_of, length-map ys (λ (x : CpuLink). x.cpu.0), length-map {B = Link} (cpus_in ys) (λ q. (q, linked g q now)))

    pub links-part : links_of (xs ++ (part ++ zs)) ≡ links_at g now (cpus_in (xs ++ (ys ++ zs)))
    links-part = split part ∙ ap (λ (ls : List Link). links_of xs ++ (ls ++ links_of zs)) read ∙ all

    pub changed-part : links_of changes ≡ changed_links (links_of (xs ++ (ys ++ zs))) (links_at g now (cpus_in (xs ++ (ys ++ zs))))
    changed-part =
        told ∙ sym (changed-middle (links_of xs) (links_of ys) (links_at g now (cpus_in ys)) (links_of zs) long)
        ∙ ap (λ (ls : List Link). changed_links ls (links_of xs ++ (links_at g now (cpus_in ys) ++ links_of zs))) (sym (split ys))
        ∙ ap (changed_links (links_of (xs ++ (ys ++ zs)))) all

-- the same by positions: where those from a to b alone were read again
module _ (g : Group) (was now : Past) (before part changes : List CpuLink) (a b : ℕ) (up : a ≤ b) (few : b ≤ length before) (were : links_of before ≡ links_at g was (group_processors g))
    (still : (k : ℕ) → k < length before → (k < a) ⊎ (b ≤ k) → linked g (get_or (group_processors g) k 0) now ≡ linked g (get_or (group_processors g) k 0) was)
    (read : links_of part ≡ links_at g now (cpus_in (slice_range before a b)))
    (told : links_of changes ≡ changed_links (links_of (slice_range before a b)) (links_at g now (cpus_in (slice_range before a b)))) where
  abbrev front : List CpuLink
  front = take a before

  abbrev middle : List CpuLink
  middle = slice_range before a b

  abbrev rear : List CpuLink
  rear = drop (b - a) (drop a before)

  whole : before ≡ front ++ (middle ++ rear)
  whole = sym (ap (λ (ys : List CpuLink). front ++ ys) (take-append-drop (b - a) (drop a before)) ∙ take-append-drop a before)

  numbers : cpus_in before ≡ group_processors g
  numbers = cpus-are g was (group_processors g) before were

  as_before : (k : ℕ) (d : CpuLink) → k < length before → (k < a) ⊎ (b ≤ k) → IsAsBefore g was now (get_or before k d)
  as_before k d low out =
      let number : get_or (group_processors g) k 0 ≡ (get_or before k d).cpu.0 = ap (λ (qs : List ℕ). get_or qs k 0) (sym numbers) ∙ get_or-map (λ (x : CpuLink). x.cpu.0) before k d 0 low in
      subst (λ q. linked g q now ≡ linked g q was) number (still k low out)

  still_front : All (IsAsBefore g was now) front
  still_front k d low =
      let place : k < a = omega (arith, low, up, few, length-take-le a before) in
      subst (IsAsBefore g was now) (sym (get_or-take a before k d place)) (as_before k d (omega (arith, place, up, few)) (inl place))

  still_rear : All (IsAsBefore g was now) rear
  still_rear k d low =
      let long = length-drop a before in
      let place : a + (b - a + k) < length before = omega (arith, low, up, few, long, length-drop (b - a) (drop a before)) in
      subst (IsAsBefore g was now) (sym (get_or-drop (b - a) (drop a before) k d ∙ get_or-drop a before (b - a + k) d)) (as_before (a + (b - a + k)) d place (inr (omega (arith, up))))

  were_parts : links_of (front ++ (middle ++ rear)) ≡ links_at g was (cpus_in (front ++ (middle ++ rear)))
  were_parts = subst (λ (xs : List CpuLink). links_of xs ≡ links_at g was (cpus_in xs)) whole (were ∙ ap (links_at g was) (sym numbers))

  pub told-part : (links_of (put_mid a (b - a) before part) ≡ links_at g now (group_processors g)) × (links_of changes ≡ links_at g now (changed g was now))
  told-part =
      let links = links-part g was now front middle rear part changes were_parts still_front still_rear read told in
      let others = changed-part g was now front middle rear part changes were_parts still_front still_rear read told in
      told-changed g was now before (put_mid a (b - a) before part) changes were (links ∙ ap (λ (xs : List CpuLink). links_at g now (cpus_in xs)) (sym whole))
      (others ∙ ap (λ (xs : List CpuLink). changed_links (links_of xs) (links_at g now (cpus_in xs))) (sym whole))
