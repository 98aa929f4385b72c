-- Lists whose elements go with their positions, or with those of another list.
use Rattle.std.proofs.Common.{◌≡◌, ℕ, zero, suc, ◌+◌, ◌<◌, ◌≤◌, List, [], ◌∷◌, ◌++◌, length, map, take, reverse, Some, refl, sym, ap, ◌∙◌, subst, append_assoc, arith, length-append}
use Rattle.std.specs.Prelude.{All, slice_get, slice_index_or}
use Rattle.std.specs.Global.{Vec}
use Rattle.std.proofs.lemmas.List.{length-take-le, map-append, map_push, reverse-append, take_all, take_more}
use Rattle.std.proofs.lemmas.Option.{get_or_from_slice_get, slice_get-get_or, slice_get_within}
use Rattle.turn_cell.specs.Words.{StartsWith}
use Rattle.split_part.specs.Columns.{AreBoth, AreFrom, IsColumn}
use Rattle.split_part.specs.inside.Deals.{IsPopped, lists}
use Rattle.split_part.proofs.Dealing.{last-same}

-- ---- with their positions

module _ {A : Type 0} (P : ℕ → A → Type 0) where
  pub from-joined : (n : ℕ) (xs ys : List A) → AreFrom P n xs → AreFrom P (n + length xs) ys → AreFrom P n (xs ++ ys)
  from-joined n [] ys h k = let e : n + 0 ≡ n = omega arith in subst (λ m. AreFrom P m ys) e k
  from-joined n (x ∷ xs) ys h k =
      let e : n + suc (length xs) ≡ suc n + length xs = omega arith in
      (h.0, from-joined (suc n) xs ys h.1 (subst (λ m. AreFrom P m ys) e k))

  pub from-parted : (n : ℕ) (xs ys : List A) → AreFrom P n (xs ++ ys) → AreFrom P n xs × AreFrom P (n + length xs) ys
  from-parted n [] ys h = let e : n ≡ n + 0 = omega arith in (tt, subst (λ m. AreFrom P m ys) e h)
  from-parted n (x ∷ xs) ys h =
      let e : suc n + length xs ≡ n + suc (length xs) = omega arith in
      let r = from-parted (suc n) xs ys h.1 in
      ((h.0, r.0), subst (λ m. AreFrom P m ys) e r.1)

  pub from-push : (n : ℕ) (xs : List A) (x : A) → AreFrom P n xs → P (n + length xs) x → AreFrom P n (xs ++ x ∷ [])
  from-push n xs x h k = from-joined n xs (x ∷ []) h (k, tt)

  pub from-at : (n : ℕ) (xs : List A) (i : ℕ) (d : A) → AreFrom P n xs → i < length xs → P (n + i) (slice_index_or xs i d)
  from-at n [] i d h low = absurd (omega (arith, low))
  from-at n (x ∷ xs) zero d h low = let e : n ≡ n + 0 = omega arith in subst (λ m. P m x) e h.0
  from-at n (x ∷ xs) (suc i) d h low =
      let e : suc n + i ≡ n + suc i = omega arith in
      subst (λ m. P m (slice_index_or xs i d)) e (from-at (suc n) xs i d h.1 (omega (arith, low)))

  pub from-each : (n : ℕ) (xs : List A) → ((i : ℕ) (d : A) → i < length xs → P (n + i) (slice_index_or xs i d)) → AreFrom P n xs
  from-each n [] h = tt
  from-each n (x ∷ xs) h =
      let e : n + 0 ≡ n = omega arith in (
        subst (λ m. P m x) e (h 0 x (omega arith)),
        from-each (suc n) xs (λ i d low. let k : n + suc i ≡ suc n + i = omega arith in subst (λ m. P m (slice_index_or xs i d)) k (h (suc i) d (omega (arith, low)))),
      )

pub from-so : {A : Type 0} (P Q : ℕ → A → Type 0) → ((i : ℕ) (x : A) → P i x → Q i x) → (n : ℕ) (xs : List A) → AreFrom P n xs → AreFrom Q n xs
from-so P Q so n [] h = tt
from-so P Q so n (x ∷ xs) h = (so n x h.0, from-so P Q so (suc n) xs h.1)

pub from-map : {A B : Type 0} (P : ℕ → B → Type 0) (f : A → B) (n : ℕ) (xs : List A) → AreFrom (λ i x. P i (f x)) n xs → AreFrom P n (map f xs)
from-map P f n [] h = tt
from-map P f n (x ∷ xs) h = (h.0, from-map P f (suc n) xs h.1)

pub reverse-push : {A : Type 0} (xs : List A) (x : A) → reverse (xs ++ x ∷ []) ≡ x ∷ reverse xs
reverse-push xs x = reverse-append xs (x ∷ [])

-- ---- with those of another list

module _ {A B : Type 0} (R : A → B → Type 0) where
  pub both-length : (xs : List A) (ys : List B) → AreBoth R xs ys → length xs ≡ length ys
  both-length [] [] h = refl
  both-length [] (y ∷ ys) h = absurd h
  both-length (x ∷ xs) [] h = absurd h
  both-length (x ∷ xs) (y ∷ ys) h = ap suc (both-length xs ys h.1)

  pub both-push : (xs : List A) (ys : List B) (x : A) (y : B) → AreBoth R xs ys → R x y → AreBoth R (xs ++ x ∷ []) (ys ++ y ∷ [])
  both-push [] [] x y h k = (k, tt)
  both-push [] (b ∷ ys) x y h k = absurd h
  both-push (a ∷ xs) [] x y h k = absurd h
  both-push (a ∷ xs) (b ∷ ys) x y h k = (h.0, both-push xs ys x y h.1 k)

  pub both-parted : (xs xs' : List A) (ys ys' : List B) → length xs ≡ length ys → AreBoth R (xs ++ xs') (ys ++ ys') → AreBoth R xs ys × AreBoth R xs' ys'
  both-parted [] xs' [] ys' e h = (tt, h)
  both-parted [] xs' (y ∷ ys) ys' e h = absurd (omega (arith, e))
  both-parted (x ∷ xs) xs' [] ys' e h = absurd (omega (arith, e))
  both-parted (x ∷ xs) xs' (y ∷ ys) ys' e h = let r = both-parted xs xs' ys ys' (omega (arith, e)) h.1 in ((h.0, r.0), r.1)

  pub both-at : (xs : List A) (ys : List B) (i : ℕ) (a : A) (b : B) → AreBoth R xs ys → i < length xs → R (slice_index_or xs i a) (slice_index_or ys i b)
  both-at [] ys i a b h low = absurd (omega (arith, low))
  both-at (x ∷ xs) [] i a b h low = absurd h
  both-at (x ∷ xs) (y ∷ ys) zero a b h low = h.0
  both-at (x ∷ xs) (y ∷ ys) (suc i) a b h low = both-at xs ys i a b h.1 (omega (arith, low))

-- ---- rows

module _ {A : Type 0} (k : ℕ) where
  pub popped-column : (rows rests : List (List A)) (xs : List A) → IsPopped (map (take (k + 1)) rows) rests xs → All (λ row. k < length row) rows
      → (rests ≡ map (take k) rows) × IsColumn k rows xs
  popped-column [] [] [] p h = (refl, tt)
  popped-column [] [] (y ∷ ys) p h = absurd p
  popped-column [] (r ∷ rests) xs p h = absurd p
  popped-column (row ∷ rows) [] xs p h = absurd p
  popped-column (row ∷ rows) (r ∷ rests) [] p h = absurd p
  popped-column (row ∷ rows) (r ∷ rests) (x ∷ xs) p h =
      let low : k < length row = h 0 row (omega arith) in
      let here = last-same (take k row) r (slice_index_or row k x) x (sym (take_more row k x low) ∙ p.0) in
      let others = popped-column rows rests xs p.1 (λ i d l. h (suc i) d (omega (arith, l))) in
      let first : r ≡ take k row = sym here.0 in
      ((λ i. first i ∷ others.0 i), (slice_get-get_or row k x low ∙ ap Some here.1, others.1))

  pub taken-full : (rows : List (List A)) → All (λ row. k < length row) rows → All (λ row. 0 < length row) (map (take (k + 1)) rows)
  taken-full [] h i d low = absurd (omega (arith, low))
  taken-full (row ∷ rows) h zero d low =
      let high : k < length row = h 0 row (omega arith) in
      let l = length-take-le (k + 1) row (omega (arith, high)) in
      omega (arith, l)
  taken-full (row ∷ rows) h (suc i) d low = taken-full rows (λ j e l. h (suc j) e (omega (arith, l))) i d (omega (arith, low))

pub take-whole : {A : Type 0} (n : ℕ) (rows : List (List A)) → All (λ row. length row ≡ n) rows → map (take n) rows ≡ rows
take-whole n [] h = refl
take-whole n (row ∷ rows) h =
    let e : length row ≡ n = h 0 row (omega arith) in
    let first : take n row ≡ row = take_all n row (omega (arith, e)) in
    let others = take-whole n rows (λ i d l. h (suc i) d (omega (arith, l))) in
    (λ i. first i ∷ others i)

-- a column of rows whose elements are each made of something
pub column-at : {A : Type 0} (k : ℕ) (rows : List (List A)) (xs : List A) (i : ℕ) (row : List A) (x : A) → IsColumn k rows xs → i < length rows
    → slice_get (slice_index_or rows i row) k ≡ Some (slice_index_or xs i x)
column-at k rows xs i row x h low = both-at (λ r y. slice_get r k ≡ Some y) rows xs i row x h low

-- ---- by what stands at a position

pub got : {A : Type 0} (xs : List A) (i : ℕ) → i < length xs → (x : A) × (slice_get xs i ≡ Some x)
got [] i low = absurd (omega (arith, low))
got (x ∷ xs) zero low = (x, refl)
got (x ∷ xs) (suc i) low = got xs i (omega (arith, low))

pub all-get : {A : Type 0} (P : A → Type 0) (xs : List A) (i : ℕ) (x : A) → All P xs → slice_get xs i ≡ Some x → P x
all-get P xs i x h e = subst P (get_or_from_slice_get xs i x x e) (h i x (slice_get_within xs i x e))

pub from-get : {A : Type 0} (P : ℕ → A → Type 0) (n : ℕ) (xs : List A) (i : ℕ) (x : A) → AreFrom P n xs → slice_get xs i ≡ Some x → P (n + i) x
from-get P n xs i x h e = subst (P (n + i)) (get_or_from_slice_get xs i x x e) (from-at P n xs i x h (slice_get_within xs i x e))

pub both-get : {A B : Type 0} (R : A → B → Type 0) (xs : List A) (ys : List B) (i : ℕ) (x : A) (y : B) → AreBoth R xs ys → slice_get xs i ≡ Some x → slice_get ys i ≡ Some y → R x y
both-get R xs ys i x y h e k =
    subst (λ b. R x b) (get_or_from_slice_get ys i y y k)
    (subst (λ a. R a (slice_index_or ys i y)) (get_or_from_slice_get xs i x x e) (both-at R xs ys i x y h (slice_get_within xs i x e)))

pub from-first : {A : Type 0} (P : ℕ → A → Type 0) (xs : List A) (i : ℕ) (x : A) → AreFrom P 0 xs → slice_get xs i ≡ Some x → P i x
from-first P xs i x h e = let z : 0 + i ≡ i = omega arith in subst (λ m. P m x) z (from-get P 0 xs i x h e)

pub get-first : {A : Type 0} (xs ys : List A) (i : ℕ) (x : A) → slice_get xs i ≡ Some x → slice_get (xs ++ ys) i ≡ Some x
get-first [] ys i x h = absurd (none i h)
  where
    none : (k : ℕ) → slice_get [] k ≡ Some x → ⊥
    none zero h = cc
    none (suc k) h = cc
get-first (y ∷ xs) ys zero x h = h
get-first (y ∷ xs) ys (suc i) x h = get-first xs ys i x h

pub get-between : {A : Type 0} (xs ys : List A) (x : A) → slice_get (xs ++ x ∷ ys) (length xs) ≡ Some x
get-between [] ys x = refl
get-between (y ∷ xs) ys x = get-between xs ys x

-- the elements at a position of rows that are each made of something are made of it too
pub column-made : {A C : Type 0} (f : C → List A) (x : C → A) (k : ℕ) → ((c : C) → slice_get (f c) k ≡ Some (x c)) → (cs : List C) (xs : List A) → IsColumn k (map f cs) xs → xs ≡ map x cs
column-made f x k is [] [] h = refl
column-made f x k is [] (y ∷ ys) h = absurd h
column-made f x k is (c ∷ cs) [] h = absurd h
column-made {A} f x k is (c ∷ cs) (y ∷ ys) h =
    let first : y ≡ x c = same (sym h.0 ∙ is c) in
    let others = column-made f x k is cs ys h.1 in
    (λ i. first i ∷ others i)
  where
    same : {a b : A} → Some a ≡ Some b → a ≡ b
    same e = cc

pub none-made : {A B C : Type 0} (f : A → List B) (h : C → A) → ((c : C) → f (h c) ≡ []) → (cs : List C) (n : ℕ) → slice_index_or (map f (map h cs)) n [] ≡ []
none-made f h none [] n = refl
none-made f h none (c ∷ cs) zero = none c
none-made f h none (c ∷ cs) (suc n) = none-made f h none cs n

pub map-back : {A C : Type 0} (f : A → C) (h : C → A) → ((c : C) → f (h c) ≡ c) → (cs : List C) → map f (map h cs) ≡ cs
map-back f h back [] = refl
map-back f h back (c ∷ cs) = let first = back c in let others = map-back f h back cs in (λ i. first i ∷ others i)

pub all-map : {A C : Type 0} (P : A → Type 0) (f : C → A) (cs : List C) → ((c : C) → P (f c)) → All P (map f cs)
all-map P f [] h i d low = absurd (omega (arith, low))
all-map P f (c ∷ cs) h zero d low = h c
all-map P f (c ∷ cs) h (suc i) d low = all-map P f cs h i d (omega (arith, low))

-- rows as vectors
pub lists-full : {A : Type 0} (P : List A → Type 0) (rows : List (Vec A)) → All P (lists rows) → All (λ (row : Vec A). P row.items) rows
lists-full P [] h i d low = absurd (omega (arith, low))
lists-full P (row ∷ rows) h zero d low = h 0 row.items (omega arith)
lists-full P (row ∷ rows) h (suc i) d low = lists-full P rows (λ j e l. h (suc j) e (omega (arith, l))) i d (omega (arith, low))

pub reversed-lists : {A : Type 0} (rows : List (Vec A)) (row : Vec A) → lists (reverse (rows ++ row ∷ [])) ≡ row.items ∷ lists (reverse rows)
reversed-lists rows row = ap lists (reverse-push rows row)

-- ---- rows that are popped, of which the first k + 1 elements are left

module _ {A : Type 0} (k : ℕ) (rows : List (List A)) (wide : All (λ row. k < length row) rows) (vecs : List (Vec A)) (are : lists vecs ≡ map (take (k + 1)) rows) where
  pub rows-full : All (λ (row : Vec A). 0 < length row.items) vecs
  rows-full = lists-full (λ row. 0 < length row) vecs (subst (All (λ row. 0 < length row)) (sym are) (taken-full k rows wide))

  pub popped-rows : (rests : List (Vec A)) (xs : List A) → IsPopped (lists vecs) (lists rests) xs → (lists rests ≡ map (take k) rows) × IsColumn k rows xs
  popped-rows rests xs popped = popped-column k rows (lists rests) xs (subst (λ l. IsPopped l (lists rests) xs) are popped) wide

pub wide-more : {A : Type 0} (n k : ℕ) (rows : List (List A)) → All (λ row. length row ≡ n) rows → k < n → All (λ row. k < length row) rows
wide-more n k rows wide low i d h = let e = wide i d h in omega (arith, e, low)

-- a list that begins with one and an element more
pub starts-less : {A : Type 0} (zs xs : List A) (x : A) → StartsWith zs (xs ++ x ∷ []) → StartsWith zs xs × (slice_get zs (length xs) ≡ Some x)
starts-less zs xs x h =
    let parts : zs ≡ xs ++ x ∷ h.0 = h.1 ∙ append_assoc xs (x ∷ []) h.0 in
    ((x ∷ h.0, parts), ap (λ l. slice_get l (length xs)) parts ∙ get-between xs h.0 x)

-- the element after those that are gone
pub get-after : {A : Type 0} (zs xs ys : List A) (x : A) → zs ≡ xs ++ x ∷ ys → slice_get zs (length xs) ≡ Some x
get-after zs xs ys x parts = ap (λ l. slice_get l (length xs)) parts ∙ get-between xs ys x

-- lists with one element more each
pub map-last : {A B : Type 0} (f : A → B) (xs : List A) (x : A) (ys : List B) (y : B) → ys ++ y ∷ [] ≡ map f (xs ++ x ∷ []) → (ys ≡ map f xs) × (y ≡ f x)
map-last f xs x ys y h = last-same ys (map f xs) y (f x) (h ∙ map-append f xs (x ∷ []))

-- nothing is left of a list without elements
pub no-elements : {A : Type 0} (xs : List A) → length xs ≡ 0 → xs ≡ []
no-elements [] h = refl
no-elements (x ∷ xs) h = absurd (omega (arith, h))

-- lists with the same elements are the same
pub same-list : {A : Type 0} (xs ys : List A) → length xs ≡ length ys → ((i : ℕ) → i < length xs → slice_get xs i ≡ slice_get ys i) → xs ≡ ys
same-list [] [] e h = refl
same-list [] (y ∷ ys) e h = absurd (omega (arith, e))
same-list (x ∷ xs) [] e h = absurd (omega (arith, e))
same-list {A} (x ∷ xs) (y ∷ ys) e h =
    let first : x ≡ y = same (h 0 (omega arith)) in
    let others = same-list xs ys (omega (arith, e)) (λ i low. h (suc i) (omega (arith, low))) in
    (λ i. first i ∷ others i)
  where
    same : {a b : A} → Some a ≡ Some b → a ≡ b
    same k = cc

-- one vector more, of a list that is made of something
pub lists-push : {A C : Type 0} (now before : List (Vec A)) (v : Vec A) (f : C → List A) (cs : List C) (c : C) → now ≡ before ++ v ∷ [] → v.items ≡ f c → lists before ≡ map f cs
    → lists now ≡ map f (cs ++ c ∷ [])
lists-push now before v f cs c more is so_far =
    ap lists more ∙ map_push (λ (w : Vec _). w.items) before v ∙ ap (λ l. l ++ v.items ∷ []) so_far ∙ ap (λ l. map f cs ++ l ∷ []) is ∙ sym (map_push f cs c)

-- ---- a list from which the last element is popped

module _ {A : Type 0} (xs xs' : List A) (x : A) (popped : xs ≡ xs' ++ x ∷ []) where
  pub length-popped : length xs ≡ length xs' + 1
  length-popped = ap length popped ∙ length-append xs' (x ∷ [])

  pub starts-popped : (zs : List A) → StartsWith zs xs → StartsWith zs xs' × (slice_get zs (length xs') ≡ Some x)
  starts-popped zs h = starts-less zs xs' x (subst (StartsWith zs) popped h)

  pub rows-popped : {B : Type 0} (rows : List (List B)) (vecs : List (Vec B)) → lists vecs ≡ map (take (length xs)) rows → lists vecs ≡ map (take (length xs' + 1)) rows
  rows-popped rows vecs are = are ∙ ap (λ n. map (take n) rows) length-popped

-- one element more in front of those that were pushed
pub from-popped : {A : Type 0} (P : ℕ → A → Type 0) (n m : ℕ) (now before : List A) (x : A) → now ≡ before ++ x ∷ [] → m ≡ n + 1 → AreFrom P m (reverse before) → P n x → AreFrom P n (reverse now)
from-popped P n m now before x more is h first =
    let e : m ≡ suc n = omega (arith, is) in
    subst (AreFrom P n) (sym (ap reverse more ∙ reverse-push before x)) (first, subst (λ k. AreFrom P k (reverse before)) e h)

-- one element more, of a list that is made of another
pub map-more : {A B : Type 0} (f : A → B) (ys ys' : List B) (xs xs' : List A) (y : B) (x : A) → ys' ≡ ys ++ y ∷ [] → xs' ≡ xs ++ x ∷ [] → ys ≡ map f xs → y ≡ f x → ys' ≡ map f xs'
map-more f ys ys' xs xs' y x a b h k = a ∙ ap (λ l. l ++ y ∷ []) h ∙ ap (λ z. map f xs ++ z ∷ []) k ∙ sym (ap (map f) b ∙ map_push f xs x)

pub lists-more : {A C : Type 0} (now before : List (Vec A)) (v : Vec A) (f : C → List A) (cs cs' : List C) (c : C) → now ≡ before ++ v ∷ [] → v.items ≡ f c → lists before ≡ map f cs
    → cs' ≡ cs ++ c ∷ [] → lists now ≡ map f cs'
lists-more now before v f cs cs' c more is so_far made = lists-push now before v f cs c more is so_far ∙ ap (map f) (sym made)

-- the same with the vectors in their order from the last
pub lists-popped : {A : Type 0} (P : ℕ → List A → Type 0) (n m : ℕ) (now before : List (Vec A)) (v : Vec A) → now ≡ before ++ v ∷ [] → m ≡ n + 1 → AreFrom P m (lists (reverse before)) → P n v.items
    → AreFrom P n (lists (reverse now))
lists-popped P n m now before v more is h first =
    let e : m ≡ suc n = omega (arith, is) in
    subst (AreFrom P n) (sym (ap (λ l. lists (reverse l)) more ∙ reversed-lists before v)) (first, subst (λ k. AreFrom P k (lists (reverse before))) e h)
