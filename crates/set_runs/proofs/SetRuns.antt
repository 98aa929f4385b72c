-- The groups of a set, each with its run.
use Rattle.std.proofs.Common.{◌≡◌, ℕ, suc, ◌+◌, ◌^◌, ◌<◌, ◌≤◌, false, List, [], ◌∷◌, ◌++◌, length, map, get_or, refl, sym, ap, ◌∙◌, subst, arith, append_assoc}
use Rattle.std.specs.Prelude.{Result, Ok, Err, IfOk, is_ok, is_err, if◌then◌else◌}
use Rattle.std.proofs.lemmas.List.{append-nil, length-map, map-append, nil_from_length, get_or-map}
use Rattle.rt_base.specs.declared.NoMemory.{NoMemory}
use Rattle.rt_task.specs.declared.Parts.{Parts}
use Rattle.rt_task.specs.Validity.{IsValid}
use Rattle.rt_rules.specs.Numbers.{numbers_from}
use Rattle.rt_plays.specs.Groups.{GroupHistory, IsGroupOf}
use Rattle.rt_plays.proofs.GroupCount.{groups_are_counted}
use Rattle.rt_plays.specs.Plays.{group_count}
use Rattle.trace_text.proofs.GroupLaws.{all-groups, groups-few}
use Rattle.set_runs.specs.Runs.{AreRunsOf, IsRunOf}

-- each history is of the group at its position
abbrev pub AreRunsFrom : Parts → ℕ → List GroupHistory → Type 0
AreRunsFrom p a hs = (k : ℕ) (d : GroupHistory) → k < length hs → IsRunOf p (a + k) (get_or hs k d)

numbers-of : (p : Parts) (a : ℕ) (hs : List GroupHistory) → AreRunsFrom p a hs → map (λ (h : GroupHistory). h.group) hs ≡ numbers_from a (length hs)
numbers-of p a [] are = refl
numbers-of p a (h ∷ hs) are =
    let first : h.group ≡ a + 0 = (are 0 h (omega arith)).group_is in
    let here : h.group ≡ a = omega (arith, first) in
    let rest : AreRunsFrom p (suc a) hs = λ k d lt. (let e : a + suc k ≡ suc a + k = omega arith in rw e at (are (suc k) d (omega (arith, lt)))) in
    ap (λ m. m ∷ map (λ (x : GroupHistory). x.group) hs) here ∙ ap (λ (ms : List ℕ). a ∷ ms) (numbers-of p (suc a) hs rest)

pub set-run : (p : Parts) (hs : List GroupHistory) → IsValid p → length hs ≡ group_count p → ((n : ℕ) (d : GroupHistory) → n < length hs → IsRunOf p n (get_or hs n d)) → AreRunsOf p hs
set-run p hs valid count each =
    let are : AreRunsFrom p 0 hs = λ k d lt. (let e : k ≡ 0 + k = omega arith in subst (λ m. IsRunOf p m (get_or hs k d)) e (each k d lt)) in
    record {
      groups = all-groups p hs valid (λ k d lt. (each k d lt).setup_is) (numbers-of p 0 hs are ∙ ap (numbers_from 0) count);
      each = each;
    }

-- ---- what was not refused

module _ {A E : Type 0} where
  abbrev oks : List A → List (Result A E)
  oks xs = map (λ x. Ok x) xs

  -- one result more was taken
  pub all-pushed : (all : List (Result A E)) (got got' : List A) (rest rest' : List (Result A E)) (r : Result A E) (x : A) → all ≡ oks got ++ rest → rest ≡ r ∷ rest' → r ≡ Ok x → got' ≡ got ++ x ∷ [] → all ≡ oks got' ++ rest'
  all-pushed all got got' rest rest' r x are next is more =
      are ∙ ap (λ (l : List (Result A E)). oks got ++ l) (next ∙ ap (λ (y : Result A E). y ∷ rest') is)
      ∙ sym (append_assoc (oks got) (oks (x ∷ [])) rest')
      ∙ ap (λ (l : List (Result A E)). l ++ rest') (sym (map-append (λ y. Ok y) got (x ∷ [])))
      ∙ ap (λ (l : List A). oks l ++ rest') (sym more)

  -- none is left
  pub all-taken : (all : List (Result A E)) (got : List A) (rest : List (Result A E)) → all ≡ oks got ++ rest → length rest ≡ 0 → all ≡ oks got
  all-taken all got rest are none = are ∙ ap (λ (l : List (Result A E)). oks got ++ l) (nil_from_length rest none) ∙ append-nil (oks got)

  -- each of the results is a value
  pub ok-at : (all : List (Result A E)) (got : List A) (k : ℕ) (d : A) → all ≡ oks got → k < length got → get_or all k (Ok d) ≡ Ok (get_or got k d)
  ok-at all got k d are low = ap (λ (l : List (Result A E)). get_or l k (Ok d)) are ∙ get_or-map (λ y. Ok y) got k d (Ok d) low

-- what was not refused was put behind the others
pub pushed : {B E : Type 0} {X : Type 0} (r : Result B E) (xs ys : List X) → is_err r ≡ false → (if is_ok r then xs else ys) ≡ xs
pushed (Ok a) xs ys h = refl
pushed (Err e) xs ys h = cc

-- ---- the runs of all groups

pub group-there : (p : Parts) (count n : ℕ) → IsValid p → count ≡ group_count p → n < count → (n < 2 ^ 32) × IsGroupOf p n
group-there p count n valid is low =
    let few : group_count p ≤ 64 = groups-few p valid in
    let inside : n < group_count p = omega (arith, low, is) in
    (omega (arith, few, inside), (groups_are_counted p n valid).1 inside)

runs-of : (p : Parts) (count : ℕ) (runs : List (Result GroupHistory NoMemory)) (hs : List GroupHistory) → IsValid p → count ≡ group_count p → length runs ≡ count
    → ((i : ℕ) (d : Result GroupHistory NoMemory) → i < count → IfOk (get_or runs i d) (λ h. IsRunOf p i h)) → runs ≡ oks hs → AreRunsOf p hs
runs-of p count runs hs valid is long each are =
    let same : length runs ≡ length hs = ap length are ∙ length-map hs (λ (h : GroupHistory). let r : Result GroupHistory NoMemory = Ok h in r) in
    set-run p hs valid (omega (arith, same, long, is)) (λ k d low.
    subst (λ (r : Result GroupHistory NoMemory). IfOk r (λ h. IsRunOf p k h)) (ok-at runs hs k d are low) (each k (Ok d) (omega (arith, low, same, long))))

pub all-runs : {X : Type 0} (items : X → List GroupHistory) (p : Parts) (count : ℕ) (runs : List (Result GroupHistory NoMemory)) (r : Result X NoMemory) → IsValid p → count ≡ group_count p → length runs ≡ count
    → ((i : ℕ) (d : Result GroupHistory NoMemory) → i < count → IfOk (get_or runs i d) (λ h. IsRunOf p i h)) → IfOk r (λ v. runs ≡ oks (items v)) → IfOk r (λ v. AreRunsOf p (items v))
all-runs items p count runs (Ok v) valid is long each are = runs-of p count runs (items v) valid is long each are
all-runs items p count runs (Err e) valid is long each are = are
