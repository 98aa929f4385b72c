-- What the list of nodes shows after a change of the slab and the kept keys.
use Rattle.std.proofs.Common.{◌≡◌, ◌≢◌, ℕ, zero, suc, ◌+◌, ◌<◌, ◌≤◌, true, cond, ◌⊎◌, inl, inr, List, [], ◌∷◌, length, get_or, set, length-set, get_or-set_same, get_or-set_other, refl, sym, ap, ◌∙◌, arith, IsSome}
use Rattle.std.specs.Prelude.{Option, None, Some, is_some, map, count_by, replicate}
use Rattle.std.proofs.lemmas.List.{length-map}
use Rattle.std.proofs.lemmas.Bool.{cases_eq}
use Rattle.std.proofs.lemmas.Option.{same_Some}
use Rattle.std.proofs.lemmas.List.Sums.{sum_by-set, count_by-le-length}
use Rattle.slab.specs.Slab.{Slab, get, slab_len, Updates, with_value}
use Rattle.ready_heap.specs.declared.arena.Node.{Node}
use Rattle.ready_heap.specs.Arena.{node_in, IsArena}

-- how much a kept key counts
abbrev pub mark : Option ℕ → ℕ
mark o = cond (is_some o) 1 0

view_same : (nodes nodes' : Slab Node) (kept kept' : List (Option ℕ)) → length kept' ≡ length kept → ((u : ℕ) → node_in nodes' (get_or kept' u None) ≡ node_in nodes (get_or kept u None)) → map (node_in nodes') kept' ≡ map (node_in nodes) kept
view_same nodes nodes' [] [] e each = refl
view_same nodes nodes' [] (x ∷ xs) e each = absurd (omega arith)
view_same nodes nodes' (k ∷ ks) [] e each = absurd (omega arith)
view_same nodes nodes' (k ∷ ks) (x ∷ xs) e each = let here = each 0 in let rest = view_same nodes nodes' ks xs (omega arith) (λ u. each (suc u)) in cc

-- where one task alone has another node, the list shows that one changed
pub view-set : (nodes nodes' : Slab Node) (kept kept' : List (Option ℕ)) (t : ℕ) (v : Option Node) → length kept' ≡ length kept → node_in nodes' (get_or kept' t None) ≡ v → ((u : ℕ) → u ≢ t → node_in nodes' (get_or kept' u None) ≡ node_in nodes (get_or kept u None)) → map (node_in nodes') kept' ≡ set (map (node_in nodes) kept) t v
view-set nodes nodes' [] [] t v e here others = refl
view-set nodes nodes' [] (x ∷ xs) t v e here others = absurd (omega arith)
view-set nodes nodes' (k ∷ ks) [] t v e here others = absurd (omega arith)
view-set nodes nodes' (k ∷ ks) (x ∷ xs) zero v e here others = let rest = view_same nodes nodes' ks xs (omega arith) (λ u. others (suc u) (omega arith)) in cc
view-set nodes nodes' (k ∷ ks) (x ∷ xs) (suc t) v e here others = let first = others 0 (omega arith) in let rest = view-set nodes nodes' ks xs t v (omega arith) here (λ u ne. others (suc u) (λ same. ne (omega arith))) in cc

pub get_or-view : (nodes : Slab Node) (kept : List (Option ℕ)) (t : ℕ) → get_or (map (node_in nodes) kept) t None ≡ node_in nodes (get_or kept t None)
get_or-view nodes [] t = refl
get_or-view nodes (k ∷ ks) zero = refl
get_or-view nodes (k ∷ ks) (suc t) = get_or-view nodes ks t

-- a change at another key of the slab
pub node_in-updates : (nodes nodes' : Slab Node) (at : ℕ) (slot : Option Node) → Updates nodes nodes' at slot → (o : Option ℕ) → ((a : ℕ) → o ≡ Some a → a ≢ at) → node_in nodes' o ≡ node_in nodes o
node_in-updates nodes nodes' at slot up None apart = refl
node_in-updates nodes nodes' at slot up (Some a) apart = up.others a (apart a refl)

-- ---- a task is given a node

module _ (nodes nodes' : Slab Node) (kept : List (Option ℕ)) (t at : ℕ) (n : Node) (sound : IsArena nodes kept) (inside : t < length kept) (fresh : get nodes at ≡ None) (up : Updates nodes nodes' at (Some n)) where
  -- no kept key is the new one
  apart : (u a : ℕ) → get_or kept u None ≡ Some a → a ≢ at
  apart u a h same = let there : is_some (get nodes a) ≡ true = sound.live u a h in let none : get nodes a ≡ None = ap (get nodes) same ∙ fresh in let clash = rw none at there in cc

  pub view-insert : map (node_in nodes') (set kept t (Some at)) ≡ set (map (node_in nodes) kept) t (Some n)
  view-insert = view-set nodes nodes' kept (set kept t (Some at)) t (Some n) (length-set _ _ _) (ap (node_in nodes') (get_or-set_same kept t (Some at) None inside) ∙ up.changed)
      (λ u ne. ap (node_in nodes') (get_or-set_other kept t u (Some at) None ne) ∙ node_in-updates nodes nodes' at (Some n) up (get_or kept u None) (apart u))

  pub kept-insert : get_or kept t None ≡ None → slab_len nodes' ≡ slab_len nodes + 1 → nodes'.capacity ≡ nodes.capacity → IsArena nodes' (set kept t (Some at))
  kept-insert absent longer capacity = record {
    live = λ u a h. live u a h (cases_eq u t);
    once = λ u v a h k. once u v a h k (cases_eq u t) (cases_eq v t);
    count = longer ∙ counted;
    room = rw (length-set kept t (Some at), capacity) sound.room;
  }
    where
      here : get_or (set kept t (Some at)) t None ≡ Some at
      here = get_or-set_same kept t (Some at) None inside

      there : (u : ℕ) → u ≢ t → get_or (set kept t (Some at)) u None ≡ get_or kept u None
      there u ne = get_or-set_other kept t u (Some at) None ne

      live : (u a : ℕ) → get_or (set kept t (Some at)) u None ≡ Some a → (u ≡ t) ⊎ (u ≢ t) → IsSome (get nodes' a)
      live u a h (inl same) = let e : Some at ≡ Some a = sym here ∙ ap (λ i. get_or (set kept t (Some at)) i None) (sym same) ∙ h in let s : at ≡ a = same_Some at a e in rw (← s, up.changed)
      live u a h (inr ne) = let old : get_or kept u None ≡ Some a = sym (there u ne) ∙ h in rw (up.others a (apart u a old)) (sound.live u a old)

      once : (u v a : ℕ) → get_or (set kept t (Some at)) u None ≡ Some a → get_or (set kept t (Some at)) v None ≡ Some a → (u ≡ t) ⊎ (u ≢ t) → (v ≡ t) ⊎ (v ≢ t) → u ≡ v
      once u v a h k (inl p) (inl q) = p ∙ sym q
      once u v a h k (inl p) (inr q) = let e : Some at ≡ Some a = sym here ∙ ap (λ i. get_or (set kept t (Some at)) i None) (sym p) ∙ h in absurd (apart v a (sym (there v q) ∙ k) (sym (same_Some at a e)))
      once u v a h k (inr p) (inl q) = let e : Some at ≡ Some a = sym here ∙ ap (λ i. get_or (set kept t (Some at)) i None) (sym q) ∙ k in absurd (apart u a (sym (there u p) ∙ h) (sym (same_Some at a e)))
      once u v a h k (inr p) (inr q) = sound.once u v a (sym (there u p) ∙ h) (sym (there v q) ∙ k)

      counted : slab_len nodes + 1 ≡ count_by is_some (set kept t (Some at))
      counted =
          let sums = sum_by-set mark kept t (Some at) None inside in
          let none : mark (get_or kept t None) ≡ 0 = rw absent in
          let was : slab_len nodes ≡ count_by is_some kept = sound.count in
          omega (arith, sums, none, was)

-- ---- a task loses its node

module _ (nodes nodes' : Slab Node) (kept : List (Option ℕ)) (t at : ℕ) (sound : IsArena nodes kept) (inside : t < length kept) (of_task : get_or kept t None ≡ Some at) (up : Updates nodes nodes' at None) where
  others_at : (u a : ℕ) → u ≢ t → get_or kept u None ≡ Some a → a ≢ at
  others_at u a ne h same = ne (sound.once u t at (h ∙ ap (λ (i : ℕ). Some i) same) of_task)

  pub view-remove : map (node_in nodes') (set kept t None) ≡ set (map (node_in nodes) kept) t None
  view-remove = view-set nodes nodes' kept (set kept t None) t None (length-set _ _ _) (ap (node_in nodes') (get_or-set_same kept t None None inside))
      (λ u ne. ap (node_in nodes') (get_or-set_other kept t u None None ne) ∙ node_in-updates nodes nodes' at None up (get_or kept u None) (λ a h. others_at u a ne h))

  pub kept-remove : slab_len nodes' + 1 ≡ slab_len nodes → nodes'.capacity ≡ nodes.capacity → IsArena nodes' (set kept t None)
  kept-remove shorter capacity = record {
    live = λ u a h. live u a h (cases_eq u t);
    once = λ u v a h k. once u v a h k (cases_eq u t) (cases_eq v t);
    count = counted;
    room = rw (length-set kept t None, capacity) sound.room;
  }
    where
      gone : (u a : ℕ) → get_or (set kept t None) u None ≡ Some a → u ≡ t → ⊥
      gone u a h same = let e : None ≡ Some a = sym (get_or-set_same kept t None None inside) ∙ ap (λ i. get_or (set kept t None) i None) (sym same) ∙ h in cc

      there : (u a : ℕ) → get_or (set kept t None) u None ≡ Some a → u ≢ t → get_or kept u None ≡ Some a
      there u a h ne = sym (get_or-set_other kept t u None None ne) ∙ h

      live : (u a : ℕ) → get_or (set kept t None) u None ≡ Some a → (u ≡ t) ⊎ (u ≢ t) → IsSome (get nodes' a)
      live u a h (inl same) = absurd (gone u a h same)
      live u a h (inr ne) = let old = there u a h ne in rw (up.others a (others_at u a ne old)) (sound.live u a old)

      once : (u v a : ℕ) → get_or (set kept t None) u None ≡ Some a → get_or (set kept t None) v None ≡ Some a → (u ≡ t) ⊎ (u ≢ t) → (v ≡ t) ⊎ (v ≢ t) → u ≡ v
      once u v a h k (inl p) q = absurd (gone u a h p)
      once u v a h k (inr p) (inl q) = absurd (gone v a k q)
      once u v a h k (inr p) (inr q) = sound.once u v a (there u a h p) (there v a k q)

      counted : slab_len nodes' ≡ count_by is_some (set kept t None)
      counted =
          let sums = sum_by-set mark kept t None None inside in
          let one : mark (get_or kept t None) ≡ 1 = rw of_task in
          let was : slab_len nodes ≡ count_by is_some kept = sound.count in
          omega (arith, sums, one, was)

-- ---- a node is written

inside_of : {X : Type 0} (xs : List (Option X)) (i : ℕ) (x : X) → get_or xs i None ≡ Some x → i < length xs
inside_of [] i x h = cc
inside_of (y ∷ ys) zero x h = omega arith
inside_of (y ∷ ys) (suc i) x h = let rest = inside_of ys i x h in omega arith

pub view-with_value : (nodes : Slab Node) (kept : List (Option ℕ)) (t at : ℕ) (m n : Node) → IsArena nodes kept → get_or kept t None ≡ Some at → Some m ≡ get nodes at → map (node_in (with_value nodes at n)) kept ≡ set (map (node_in nodes) kept) t (Some n)
view-with_value nodes kept t at m n sound of_task there =
    let inside : at < length nodes.slots = inside_of nodes.slots at m (sym there) in
    let up : Updates nodes (with_value nodes at n) at (Some n) = record { changed = get_or-set_same nodes.slots at (Some n) None inside; others = λ a ne. get_or-set_other nodes.slots at a (Some n) None ne } in
    view-set nodes (with_value nodes at n) kept kept t (Some n) refl (ap (node_in (with_value nodes at n)) of_task ∙ up.changed)
    (λ u ne. node_in-updates nodes (with_value nodes at n) at (Some n) up (get_or kept u None) (λ a h same. ne (sound.once u t at (h ∙ ap (λ (i : ℕ). Some i) same) of_task)))

-- a read of a kept key within the list
pub kept_read : (kept : List (Option ℕ)) (t : ℕ) (o p : Option ℕ) → t < length kept → o ≡ get_or kept t o → o ≡ p → get_or kept t None ≡ p
kept_read [] t o p h read is = absurd (omega arith)
kept_read (k ∷ ks) zero o p h read is = sym read ∙ is
kept_read (k ∷ ks) (suc t) o p h read is = kept_read ks t o p (omega arith) read is

pub inside_view : (nodes : Slab Node) (kept : List (Option ℕ)) (view : List (Option Node)) (t : ℕ) → map (node_in nodes) kept ≡ view → t < length view → t < length kept
inside_view nodes kept view t e h = let same : length kept ≡ length view = sym (length-map kept (node_in nodes)) ∙ ap length e in omega arith

-- a task without a node has no kept key
pub absent-kept : (nodes : Slab Node) (kept : List (Option ℕ)) (t : ℕ) → IsArena nodes kept → node_in nodes (get_or kept t None) ≡ None → get_or kept t None ≡ None
absent-kept nodes kept t sound none = by_case (get_or kept t None) refl none
  where
    by_case : (o : Option ℕ) → get_or kept t None ≡ o → node_in nodes o ≡ None → o ≡ None
    by_case None e h = refl
    by_case (Some a) e h = let there : is_some (get nodes a) ≡ true = sound.live t a e in let clash = rw h at there in cc

-- there is room for the node of a task that has none
pub room_left : (nodes : Slab Node) (kept : List (Option ℕ)) (t : ℕ) → IsArena nodes kept → t < length kept → get_or kept t None ≡ None → slab_len nodes + 1 ≤ nodes.capacity
room_left nodes kept t sound inside absent =
    let sums = sum_by-set mark kept t (Some 0) None inside in
    let none : mark (get_or kept t None) ≡ 0 = rw absent in
    let most : count_by is_some (set kept t (Some 0)) ≤ length (set kept t (Some 0)) = count_by-le-length is_some (set kept t (Some 0)) in
    let was : slab_len nodes ≡ count_by is_some kept = sound.count in
    let wide = sound.room in
    let long : length (set kept t (Some 0)) ≡ length kept = length-set _ _ _ in
    omega (arith, sums, none, most, was, wide, long)

pub view-replicate : (nodes : Slab Node) (n : ℕ) → map (node_in nodes) (replicate n None) ≡ replicate n None
view-replicate nodes zero = refl
view-replicate nodes (suc n) = ap (λ xs. None ∷ xs) (view-replicate nodes n)
