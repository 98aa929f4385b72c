-- Laws of every past that moves make, by induction on the moves.
use Rattle.std.proofs.Common.{◌≡◌, ℕ, zero, suc, ◌+◌, ◌-◌, ◌<◌, ◌≤◌, Bool, true, false, ◌||◌, ◌⊎◌, inl, inr, eqb-true, List, [], ◌∷◌, length, map, refl, sym, ap, ◌∙◌, arith}
use Rattle.std.specs.Prelude.{Option, None, if◌then◌else◌, ◌==◌, is_some, nat_lt, slice_index_or}
use Rattle.std.proofs.lemmas.Bool.Decides.{nat_tests}
use Rattle.rt_task.specs.declared.Act.{Act}
use Rattle.rt_rules.specs.declared.history.Reply.{Reply}
use Rattle.rt_rules.specs.declared.history.Reply.TheVariants as replies
use Rattle.rt_rules.specs.Distinct.{IsDistinct}
use Rattle.rt_rules.specs.Numbers.{has, is, numbers_from}
use Rattle.rt_rules.specs.Placing.{tasks_in, placed, link_at}
use Rattle.rt_model.specs.Group.{Group, cpus, cluster, processors, first_cpu, cluster_with, first_in, cluster_in, no_cluster}
use Rattle.rt_model.specs.Histories.{past_from, past_of, after, LinksAreTheTop}
use Rattle.rt_model.specs.Links.{runs_of, links, linked}
use Rattle.rt_model.specs.Reachable.{IsReachable, opened, acted, clocked}
use Rattle.rt_model.specs.Outcomes.{past_act}
use Rattle.rt_model.specs.Past.{PastAct, Event, Clock, Acted, Past}
use Rattle.rt_model.specs.Runs.{runs, runs_after, runs_by, leaves}
use Rattle.rt_model.specs.Tops.{top}
use Rattle.rt_task.specs.declared.Cluster.{Cluster}
use Rattle.rt_rules.specs.declared.history.Entry.{Entry}
use Rattle.rt_rules.proofs.PlacingLaws.{has-tasks_in, has-placed, either, or_true, equal_self, distinct_cons, distinct-head, distinct-tail}
use Rattle.rt_rules.proofs.LinkLaws.{distinct-placed, links-runs, length-placed}
use Rattle.rt_rules.proofs.NumberLaws.{distinct-numbers_from, has-numbers_from, numbers_from-below}
use Rattle.rt_model.proofs.TopLaws.{distinct-top, length-top}
use Rattle.rt_model.proofs.AnswerLaws.{to_run, answer-runs_link}
use Rattle.rt_model.proofs.Steps.{runs-acted, links-step, past_act-cpu, past_act-reply}

-- ---- what runs on a list of processors

pub has-map : (t : ℕ) (f : ℕ → Option ℕ) (ps : List ℕ) → has t (tasks_in (map f ps)) ≡ true → (q : ℕ) × (has q ps ≡ true) × (is t (f q) ≡ true)
has-map t f [] h = cc
has-map t f (p ∷ ps) h = join (either (is t (f p)) _ (rw has-tasks_in at h)) (has-map t f ps)
  where
    join : (is t (f p) ≡ true) ⊎ (has t (tasks_in (map f ps)) ≡ true) → (has t (tasks_in (map f ps)) ≡ true → (q : ℕ) × (has q ps ≡ true) × (is t (f q) ≡ true)) → (q : ℕ) × (has q (p ∷ ps) ≡ true) × (is t (f q) ≡ true)
    join (inl k) rest = (p, rw (equal_self p), k)
    join (inr k) rest = let r = rest k in (r.0, rw r.1 (or_true (r.0 == p)), r.2)

pub map-has : (t q : ℕ) (f : ℕ → Option ℕ) (ps : List ℕ) → has q ps ≡ true → is t (f q) ≡ true → has t (tasks_in (map f ps)) ≡ true
map-has t q f [] h k = cc
map-has t q f (p ∷ ps) h k = rw (has-tasks_in t (f p) (map f ps)) (join (either (q == p) _ h) (map-has t q f ps))
  where
    join : (q == p ≡ true) ⊎ (has q ps ≡ true) → (has q ps ≡ true → is t (f q) ≡ true → has t (tasks_in (map f ps)) ≡ true) → is t (f p) || has t (tasks_in (map f ps)) ≡ true
    join (inl m) rest = let e : q ≡ p = eqb-true q p m in let n : is t (f p) ≡ true = rw e at k in rw n
    join (inr m) rest = rw (rest m k) (or_true (is t (f p)))

unless : (b : Bool) → (b ≡ true → ⊥) → b ≡ false
unless true h = absurd (h refl)
unless false h = refl

-- f and f' agree but at one processor, and what f' has there runs nowhere else
map-apart : (f f' : ℕ → Option ℕ) (c : ℕ) (ps : List ℕ) → IsDistinct ps → ((q : ℕ) → c == q ≡ false → f' q ≡ f q) → ((t q : ℕ) → has c ps ≡ true → is t (f' c) ≡ true → c == q ≡ false → has q ps ≡ true → is t (f q) ≡ true → ⊥) → IsDistinct (tasks_in (map f ps)) → IsDistinct (tasks_in (map f' ps))
map-apart f f' c [] dp same lone d = tt
map-apart f f' c (p ∷ ps) dp same lone d = distinct_cons (f' p) (map f' ps) (λ t h. unless _ (λ k. clash t h (has-map t f' ps k))) (map-apart f f' c ps dp.1 same (λ t q l a b m n. lone t q (rw l (or_true (c == p))) a b (rw m (or_true (q == p))) n) (distinct-tail (f p) (map f ps) d))
  where
    clash : (t : ℕ) → is t (f' p) ≡ true → (q : ℕ) × (has q ps ≡ true) × (is t (f' q) ≡ true) → ⊥
    clash t h r = by_cases (c == p) (c == r.0) refl refl
      where
        by_cases : (a b : Bool) → c == p ≡ a → c == r.0 ≡ b → ⊥
        by_cases true true e k = let m : p ≡ r.0 = sym (eqb-true c p e) ∙ eqb-true c r.0 k in let n : has p ps ≡ true = rw m r.1 in let o = dp.0 in cc
        by_cases true false e k = let m : c ≡ p = eqb-true c p e in lone t r.0 (rw e) (rw m h) k (rw r.1 (or_true (r.0 == p))) (rw (← same r.0 k) r.2)
        by_cases false true e k = let m : c ≡ r.0 = eqb-true c r.0 k in let n : has c ps ≡ true = rw m r.1 in lone t p (rw n (or_true (c == p))) (rw m r.2) e (rw (equal_self p)) (rw (← same p e) h)
        by_cases false false e k = let n : has t (tasks_in (map f ps)) ≡ true = map-has t r.0 f ps r.1 (rw (← same r.0 k) r.2) in let o = distinct-head t (f p) (map f ps) d (rw (← same p e) h) in cc

pub one_processor : (t p q : ℕ) (f : ℕ → Option ℕ) (ps : List ℕ) → IsDistinct (tasks_in (map f ps)) → has p ps ≡ true → has q ps ≡ true → is t (f p) ≡ true → is t (f q) ≡ true → p ≡ q
one_processor t p q f [] d hp hq k m = cc
one_processor t p q f (r ∷ ps) d hp hq k m = by_cases (p == r) (q == r) refl refl hp hq (one_processor t p q f ps (distinct-tail (f r) (map f ps) d))
  where
    by_cases : (a b : Bool) → p == r ≡ a → q == r ≡ b → a || has p ps ≡ true → b || has q ps ≡ true → (has p ps ≡ true → has q ps ≡ true → is t (f p) ≡ true → is t (f q) ≡ true → p ≡ q) → p ≡ q
    by_cases true true e g x y rest = eqb-true p r e ∙ sym (eqb-true q r g)
    by_cases true false e g x y rest = let same : p ≡ r = eqb-true p r e in let n = distinct-head t (f r) (map f ps) d (rw same at k) in let o = map-has t q f ps y m in cc
    by_cases false true e g x y rest = let same : q ≡ r = eqb-true q r g in let n = distinct-head t (f r) (map f ps) d (rw same at m) in let o = map-has t p f ps x k in cc
    by_cases false false e g x y rest = rest x y k m

pub link_at-numbers : (f : ℕ → Option ℕ) (a n q : ℕ) → has q (numbers_from a n) ≡ true → link_at (map f (numbers_from a n)) (q - a) ≡ f q
link_at-numbers f a zero q h = cc
link_at-numbers f a (suc n) q h = by_case (q == a) refl h (link_at-numbers f (suc a) n q)
  where
    by_case : (b : Bool) → q == a ≡ b → b || has q (numbers_from (suc a) n) ≡ true → (has q (numbers_from (suc a) n) ≡ true → link_at (map f (numbers_from (suc a) n)) (q - suc a) ≡ f q) → link_at (f a ∷ map f (numbers_from (suc a) n)) (q - a) ≡ f q
    by_case true e k rest = let same : q ≡ a = eqb-true q a e in let none : q - a ≡ 0 = omega arith in rw (none, same)
    by_case false e k rest = let above : suc a ≤ q = has-numbers_from q (suc a) n k in let one_more : q - a ≡ suc (q - suc a) = omega arith in rw one_more (rest k)

-- ---- by induction on the moves

-- no task runs twice in the cluster, and its links were placed over links that had no task twice
pub record IsSingle (g : Group) (c : ℕ) (past : Past) : Type 0 where
  pub before : List (Option ℕ)
  pub links_are : links g c past ≡ placed (top g c past) (runs_of g c past) before
  pub before_distinct : IsDistinct (tasks_in before)
  pub before_length : length before ≡ cpus g c
  pub runs_distinct : IsDistinct (tasks_in (runs_of g c past))

runs_after-cases : (t : ℕ) (d : PastAct) (before : Option ℕ) → is t (runs_after d before) ≡ true → (is t before ≡ true) ⊎ (is t (to_run d.reply) ≡ true)
runs_after-cases t d before h = by_case (is_some d.ended || leaves d.act d.reply) h
  where
    of_reply : (r : Reply) → is t (runs_by r before) ≡ true → (is t before ≡ true) ⊎ (is t (to_run r) ≡ true)
    of_reply (replies.Runs u) k = inr k
    of_reply replies.Idles k = cc
    of_reply _ k = inl k

    by_case : (b : Bool) → is t (if b then None else runs_by d.reply before) ≡ true → (is t before ≡ true) ⊎ (is t (to_run d.reply) ≡ true)
    by_case true k = cc
    by_case false k = of_reply d.reply k

pub length-runs_of : (g : Group) (c : ℕ) (past : Past) → length (runs_of g c past) ≡ cpus g c
unfolding runs_of processors
length-runs_of g c past = go (first_cpu g c) (cpus g c)
  where
    go : (a n : ℕ) → length (map (λ q. runs q past) (numbers_from a n)) ≡ n
    go a zero = refl
    go a (suc n) = ap suc (go (suc a) n)

pub length-links : (g : Group) (c : ℕ) (past : Past) → IsSingle g c past → length (links g c past) ≡ cpus g c
length-links g c past s = rw s.links_are (length-placed _ _ _ (length-runs_of g c past ∙ sym s.before_length) ∙ length-runs_of g c past)

links_distinct : (g : Group) (c : ℕ) (past : Past) → IsSingle g c past → IsDistinct (tasks_in (links g c past))
links_distinct g c past s = rw s.links_are (distinct-placed (top g c past) (runs_of g c past) s.before (distinct-top g c past) s.runs_distinct s.before_distinct)

-- an event after which no task runs twice leaves no task linked twice
single-step : (g : Group) (c : ℕ) (e : Event) (past : Past) → IsSingle g c past → IsDistinct (tasks_in (runs_of g c (e ∷ past))) → IsSingle g c (e ∷ past)
single-step g c e past s d = record {
  before = links g c past;
  links_are = links-step g c e past;
  before_distinct = links_distinct g c past s;
  before_length = length-links g c past s;
  runs_distinct = d;
}

runs_of-clock : (g : Group) (c tick : ℕ) (past : Past) → runs_of g c (Clock tick ∷ past) ≡ runs_of g c past
unfolding runs_of runs
runs_of-clock g c tick past = refl

none_runs : (ps : List ℕ) → IsDistinct (tasks_in (map (λ q. runs q []) ps))
unfolding runs
none_runs [] = tt
none_runs (p ∷ ps) = none_runs ps

linked-home : (g : Group) (c q : ℕ) (past : Past) → cluster_with g q ≡ c → linked g q past ≡ link_at (links g c past) (q - first_cpu g c)
unfolding linked
linked-home g c q past e = rw e

runs_of-acted : (g : Group) (c q : ℕ) (act : Act) (past : Past) → ((p : ℕ) → has p (processors g c) ≡ true → cluster_with g p ≡ c) → IsSingle g c past → IsDistinct (tasks_in (runs_of g c (Acted (past_act g q act past) ∷ past)))
unfolding runs_of processors
runs_of-acted g c q act past home s =
    map-apart (λ p. runs p past) (λ p. runs p (Acted (past_act g q act past) ∷ past)) q (processors g c) (distinct-numbers_from (first_cpu g c) (cpus g c))
    (λ p e. rw (runs-acted, past_act-cpu, e)) lone s.runs_distinct
  where
    lone : (t p : ℕ) → has q (processors g c) ≡ true → is t (runs q (Acted (past_act g q act past) ∷ past)) ≡ true → q == p ≡ false → has p (processors g c) ≡ true → is t (runs p past) ≡ true → ⊥
    lone t p hq h e hp k = clash (runs_after-cases t (past_act g q act past) (runs q past) (rw (runs-acted, past_act-cpu, equal_self q) at h))
      where
        other : q ≡ p → ⊥
        other m = let n : q == q ≡ false = rw (← m) at e in let o = equal_self q in cc

        clash : (is t (runs q past) ≡ true) ⊎ (is t (to_run (past_act g q act past).reply) ≡ true) → ⊥
        clash (inl m) = other (one_processor t q p (λ r. runs r past) (processors g c) s.runs_distinct hq hp m k)
        clash (inr m) =
            let l : is t (linked g q past) ≡ true = answer-runs_link g q t act past (rw past_act-reply at m) in
            let there : is t (link_at (links g c past) (q - first_cpu g c)) ≡ true = rw (← linked-home g c q past (home q hq)) l in
            let runs_there : is t (link_at (runs_of g c past) (p - first_cpu g c)) ≡ true = rw (link_at-numbers (λ r. runs r past) (first_cpu g c) (cpus g c) p hp) k in
            let same : q - first_cpu g c ≡ p - first_cpu g c = links-runs t (top g c past) (runs_of g c past) s.before _ _ (distinct-top g c past) s.runs_distinct s.before_distinct (length-runs_of g c past ∙ sym s.before_length) (omega (arith, length-top g c past, length-runs_of g c past)) (rw s.links_are at there) runs_there in
            let from_q : first_cpu g c ≤ q = has-numbers_from q (first_cpu g c) (cpus g c) hq in
            let from_p : first_cpu g c ≤ p = has-numbers_from p (first_cpu g c) (cpus g c) hp in
            other (omega arith)

pub single : (g : Group) (c : ℕ) → ((p : ℕ) → has p (processors g c) ≡ true → cluster_with g p ≡ c) → {past : Past} → IsReachable g past → IsSingle g c past
unfolding links runs_of
single g c home opened = record {
  before = runs_of g c [];
  links_are = refl;
  before_distinct = none_runs (processors g c);
  before_length = length-runs_of g c [];
  runs_distinct = none_runs (processors g c);
}
single g c home (clocked {past = past} tick made) = let s : IsSingle g c past = single g c home made in single-step g c (Clock tick) past s (rw (runs_of-clock g c tick past) s.runs_distinct)
single g c home (acted {past = past} q act made) = let s : IsSingle g c past = single g c home made in single-step g c (Acted (past_act g q act past)) past s (runs_of-acted g c q act past home s)

-- after every move the linked tasks of a cluster are exactly those of its top
pub links-top : (g : Group) (c : ℕ) → ((p : ℕ) → has p (processors g c) ≡ true → cluster_with g p ≡ c) → {past : Past} → IsReachable g past → (t : ℕ) → has t (tasks_in (links g c past)) ≡ has t (top g c past)
links-top g c home {past} made t =
    let s : IsSingle g c past = single g c home made in
    rw s.links_are (has-placed t (top g c past) (runs_of g c past) s.before (distinct-top g c past) s.runs_distinct s.before_distinct (length-runs_of g c past ∙ sym s.before_length) (omega (arith, length-top g c past, length-runs_of g c past)))

-- ---- histories

pub made-from : (g : Group) (es : List Entry) {past : Past} → IsReachable g past → IsReachable g (past_from g past es)
unfolding past_from after
made-from g [] made = made
made-from g (e ∷ es) made = made-from g es (acted e.step.cpu.0 e.step.act (clocked e.step.tick.0 made))

cluster_in-first : (ks : List Cluster) (c i : ℕ) → i < (slice_index_or ks c no_cluster).cpus → cluster_in ks (first_in ks c + i) ≡ c
cluster_in-first [] c i h = absurd (omega arith)
cluster_in-first (k ∷ ks) zero i h = let low : nat_lt (0 + i) k.cpus ≡ true = grind (arith, nat_tests) in rw low
cluster_in-first (k ∷ ks) (suc c) i h =
    let high : nat_lt (k.cpus + first_in ks c + i) k.cpus ≡ false = grind (arith, nat_tests) in
    let less : k.cpus + first_in ks c + i - k.cpus ≡ first_in ks c + i = omega arith in
    rw (high, less) (ap suc (cluster_in-first ks c i h))

pub processor-home : (g : Group) (c p : ℕ) → has p (processors g c) ≡ true → cluster_with g p ≡ c
unfolding cluster_with processors first_cpu cpus cluster
processor-home g c p h =
    let f : ℕ = first_in g.setup.clusters c in
    let n : ℕ = (slice_index_or g.setup.clusters c no_cluster).cpus in
    let low : f ≤ p = has-numbers_from p f n h in
    let high : p < f + n = numbers_from-below p f n h in
    let i : p ≡ f + (p - f) = omega arith in
    rw i (cluster_in-first g.setup.clusters c (p - f) (omega arith))

pub links_are_the_top : LinksAreTheTop
unfolding past_of
links_are_the_top g es c t = links-top g c (processor-home g c) (made-from g es opened) t
