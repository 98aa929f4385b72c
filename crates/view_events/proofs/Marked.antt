-- Tracks with the marks of the jobs of their tasks.
use Rattle.std.proofs.Common.{◌≡◌, ◌∙◌, ℕ, zero, suc, true, ◌+◌, ◌<◌, List, [], ◌∷◌, length, map, get_or, set, refl, sym, ap, subst, arith, All}
use Rattle.std.specs.Prelude.{◌==◌}
use Rattle.std.proofs.lemmas.List.{get_or-map, length-map, map-set}
use Rattle.rt_rules.specs.Numbers.{has}
use Rattle.rt_rules.proofs.BoolLaws.{or_true}
use Rattle.rt_rules.proofs.MemberLaws.{equal_self}
use Rattle.rt_model.specs.Group as groups
use Rattle.rt_model.specs.Group.{Group}
use Rattle.rt_model.specs.Past.{Past}
use Rattle.chart_rows.proofs.Changed.{changed, changed-all-at, changed-more}
use Rattle.event_lines.specs.Tracks.{GroupTracks, TaskTrack}
use Rattle.event_lines.specs.TracksOf.{task_track, tracks_of}
use Rattle.span_feed.specs.Spanned.{unmarked}
use Rattle.view_events.specs.inside.JobMarks.{HasTaskOf, with_marks}

-- ---- the tracks of a group

mark-all : (g : Group) (past : Past) (ts : List ℕ) → map (with_marks g past) (map (λ (x : TaskTrack). record x { jobs = [] }) (map (task_track g past) ts)) ≡ map (task_track g past) ts
unfolding task_track
mark-all g past [] = refl
mark-all g past (t ∷ ts) = ap (λ xs. task_track g past t ∷ xs) (mark-all g past ts)

pub marked-are : (g : Group) (past : Past) (x : GroupTracks) → x ≡ unmarked (tracks_of g past) → record x { tasks = map (with_marks g past) x.tasks } ≡ tracks_of g past
unfolding tracks_of
marked-are g past x is =
    ap (λ (y : GroupTracks). record y { tasks = map (with_marks g past) y.tasks }) is
    ∙ ap (λ xs. record (tracks_of g past) { tasks = xs }) (mark-all g past (groups.tasks g))

-- ---- tracks that are marked one after the other

changed-length : {A : Type 0} (f : A → A) (xs : List A) (n : ℕ) → length (changed f n xs) ≡ length xs
changed-length f xs zero = refl
changed-length f [] (suc n) = refl
changed-length f (x ∷ xs) (suc n) = ap suc (changed-length f xs n)

module _ {A B : Type 0} (shown : B → A) (f : A → A) (xs : List A) (ys : List B) (i : ℕ) (y new : B) (low : i < length ys) (so_far : map shown ys ≡ changed f i xs) where
  inside : i < length xs
  inside = omega (arith, low, sym (length-map ys shown) ∙ ap length so_far ∙ changed-length f xs i)

  read-shown : get_or (map shown ys) i (shown y) ≡ shown (get_or ys i y)
  read-shown = get_or-map shown ys i y (shown y) low

  pub marked-more : y ≡ get_or ys i y → shown new ≡ f (shown (get_or ys i y)) → map shown (set ys i new) ≡ changed f (i + 1) xs
  marked-more read made =
      map-set shown ys i new ∙ changed-more f xs (map shown ys) i (shown y) (shown new) inside so_far (ap shown read ∙ sym read-shown) (made ∙ ap f (sym read-shown))

  pub marked-at : (P : A → Type 0) → y ≡ get_or ys i y → All P xs → P (shown (get_or ys i y))
  marked-at P read all = subst P read-shown (changed-all-at P f xs (map shown ys) i (shown y) all inside so_far (ap shown read ∙ sym read-shown))

-- ---- the tasks of tracks without marks

all-have : (g : Group) (past : Past) (us ts : List ℕ) → ((t : ℕ) → has t ts ≡ true → has t us ≡ true)
    → All (λ (x : TaskTrack). has x.task us ≡ true) (map (λ (x : TaskTrack). record x { jobs = [] }) (map (task_track g past) ts))
unfolding task_track
all-have g past us [] inside k d low = absurd (omega (arith, low))
all-have g past us (t ∷ ts) inside zero d low = inside t (rw (equal_self t) refl)
all-have g past us (t ∷ ts) inside (suc k) d low = all-have g past us ts (λ u h. inside u (rw h (or_true (u == t)))) k d (omega (arith, low))

pub unmarked-tasks : (g : Group) (past : Past) → All (HasTaskOf g) (unmarked (tracks_of g past)).tasks
unfolding tracks_of
unmarked-tasks g past = all-have g past (groups.tasks g) (groups.tasks g) (λ t h. h)
