-- Rows that are changed one after the other.
use Rattle.std.proofs.Common.{Bool, true, false, append-nil, ◌≡◌, ◌∙◌, ℕ, zero, suc, ◌+◌, ◌<◌, ◌≤◌, List, [], ◌∷◌, ◌++◌, length, map, take, drop, get_or, set, refl, sym, ap, subst, arith, All}
use Rattle.std.specs.Prelude.{filter, if◌then◌else◌}
use Rattle.std.proofs.lemmas.List.{map-append, take_more}
use Rattle.std.proofs.lemmas.List.Edits.{map_over_more}
use Rattle.std.proofs.lemmas.List.Elements.{filter-append}
use Rattle.rt_base.specs.declared.CpuNo.{CpuNo}
use Rattle.rt_model.specs.Group.{Group}
use Rattle.trace_views.specs.Cells.{runs_no_unit}
use Rattle.chart_cells.specs.Cells.{cpu_numbers, playing_shown}
use Rattle.chart_rows.specs.declared.loops.Played.{Played}
use Rattle.chart_rows.specs.inside.Plays.{played_shown}
use Rattle.chart_rows.specs.Rows as rows

-- the first n are changed
abbrev pub changed : {A : Type 0} → (A → A) → ℕ → List A → List A
changed f n xs = map f (take n xs) ++ drop n xs

pub changed-more : {A : Type 0} (f : A → A) (xs ys : List A) (i : ℕ) (x y : A) → i < length xs → ys ≡ changed f i xs → x ≡ get_or ys i x → y ≡ f (get_or ys i x) → set ys i y ≡ changed f (i + 1) xs
changed-more f xs ys i x y inside is read made = ap (set ys i) (made ∙ ap f (sym read)) ∙ map_over_more f xs ys i x inside is read

pub changed-all : {A : Type 0} (f : A → A) (xs : List A) (n : ℕ) → length xs ≤ n → changed f n xs ≡ map f xs
changed-all f [] zero h = refl
changed-all f [] (suc n) h = refl
changed-all f (x ∷ xs) zero h = absurd (omega arith)
changed-all f (x ∷ xs) (suc n) h = ap (λ ys. f x ∷ ys) (changed-all f xs n (omega arith))

-- those behind are as they were
behind : {A : Type 0} (f : A → A) (n : ℕ) (zs : List A) (d : A) → n < length zs → get_or (changed f n zs) n d ≡ get_or zs n d
behind f zero zs d h = refl
behind f (suc n) [] d h = absurd (omega arith)
behind f (suc n) (z ∷ zs) d h = behind f n zs d (omega arith)

pub changed-at : {A : Type 0} (f : A → A) (xs ys : List A) (i : ℕ) (x : A) → i < length xs → ys ≡ changed f i xs → x ≡ get_or ys i x → x ≡ get_or xs i x
changed-at f xs ys i x low is read = read ∙ ap (λ zs. get_or zs i x) is ∙ behind f i xs x low

-- what holds of each of them holds of those behind
pub changed-all-at : {A : Type 0} (P : A → Type 0) (f : A → A) (xs ys : List A) (i : ℕ) (x : A) → All P xs → i < length xs → ys ≡ changed f i xs → x ≡ get_or ys i x → P (get_or ys i x)
changed-all-at P f xs ys i x all low is read = subst P (sym (changed-at f xs ys i x low is read) ∙ read) (all i x low)

-- ---- those that run a task, among the first

pub running-snoc : (g : Group) (t : ℕ) (ps : List rows.Played) (p : rows.Played) → rows.running g t (ps ++ p ∷ []) ≡ rows.running g t ps ++ (if runs_no_unit g t p.playing then p.cpu ∷ [] else [])
running-snoc g t ps p =
    ap (map (λ (x : rows.Played). x.cpu)) (filter-append (λ (x : rows.Played). runs_no_unit g t x.playing) ps (p ∷ []))
    ∙ map-append (λ (x : rows.Played). x.cpu) (filter (λ (x : rows.Played). runs_no_unit g t x.playing) ps) (filter (λ (x : rows.Played). runs_no_unit g t x.playing) (p ∷ []))
    ∙ ap (λ us. rows.running g t ps ++ us) (by_case (runs_no_unit g t p.playing))
  where
    by_case : (b : Bool) → map (λ (x : rows.Played). x.cpu) (if b then p ∷ [] else []) ≡ (if b then p.cpu ∷ [] else [])
    by_case true = refl
    by_case false = refl

running-next : (g : Group) (t : ℕ) (plays : List Played) (i : ℕ) (d : Played) → i < length plays
    → rows.running g t (map played_shown (take (i + 1) plays)) ≡ rows.running g t (map played_shown (take i plays)) ++ (if runs_no_unit g t (playing_shown (get_or plays i d).playing) then (get_or plays i d).cpu.0 ∷ [] else [])
running-next g t plays i d low =
    ap (λ xs. rows.running g t (map played_shown xs)) (take_more plays i d low) ∙ ap (rows.running g t) (map-append played_shown (take i plays) (get_or plays i d ∷ []))
    ∙ running-snoc g t (map played_shown (take i plays)) (played_shown (get_or plays i d))

pub running-yes : (g : Group) (t : ℕ) (plays : List Played) (i : ℕ) (d : Played) (old new : List CpuNo) → i < length plays → cpu_numbers old ≡ rows.running g t (map played_shown (take i plays))
    → runs_no_unit g t (playing_shown (get_or plays i d).playing) ≡ true → new ≡ old ++ (get_or plays i d).cpu ∷ [] → cpu_numbers new ≡ rows.running g t (map played_shown (take (i + 1) plays))
running-yes g t plays i d old new low before runs made =
    ap cpu_numbers made ∙ map-append (λ (q : CpuNo). q.0) old ((get_or plays i d).cpu ∷ []) ∙ ap (λ us. us ++ (get_or plays i d).cpu.0 ∷ []) before ∙ sym (running-next g t plays i d low ∙ rw runs refl)

pub running-no : (g : Group) (t : ℕ) (plays : List Played) (i : ℕ) (d : Played) (old new : List CpuNo) → i < length plays → cpu_numbers old ≡ rows.running g t (map played_shown (take i plays))
    → runs_no_unit g t (playing_shown (get_or plays i d).playing) ≡ false → new ≡ old → cpu_numbers new ≡ rows.running g t (map played_shown (take (i + 1) plays))
running-no g t plays i d old new low before idle made = ap cpu_numbers made ∙ before ∙ sym (running-next g t plays i d low ∙ rw idle (append-nil _))

-- ---- rows that are made one after the other

pub made-more : {A B C : Type 0} (n : A → B) (k : B → C) (xs : List A) (i : ℕ) (d : A) (x : C) (ys new : List C) → i < length xs → ys ≡ map k (map n (take i xs)) → x ≡ k (n (get_or xs i d))
    → new ≡ ys ++ x ∷ [] → new ≡ map k (map n (take (i + 1) xs))
made-more n k xs i d x ys new low before is made =
    made ∙ ap (λ y. ys ++ y ∷ []) is ∙ ap (λ zs. zs ++ k (n (get_or xs i d)) ∷ []) before
    ∙ sym (ap (λ zs. map k (map n zs)) (take_more xs i d low) ∙ ap (map k) (map-append n (take i xs) (get_or xs i d ∷ [])) ∙ map-append k (map n (take i xs)) (n (get_or xs i d) ∷ []))

pub made-all : {A : Type 0} (xs : List A) (i : ℕ) → length xs ≤ i → take i xs ≡ xs
made-all [] zero h = refl
made-all [] (suc i) h = refl
made-all (x ∷ xs) zero h = absurd (omega arith)
made-all (x ∷ xs) (suc i) h = ap (λ ys. x ∷ ys) (made-all xs i (omega arith))
