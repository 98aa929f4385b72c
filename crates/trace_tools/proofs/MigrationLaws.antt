-- How often tasks moved.
use Rattle.std.proofs.Common.{◌≡◌, ◌∙◌, ◌≢◌, ℕ, zero, suc, ◌+◌, ◌<◌, ◌≤◌, Bool, true, false, List, [], ◌∷◌, length, cond, refl, sym, ap, arith, lit≤, length-set, get_or-set_other, get_or-set_same}
use Rattle.std.specs.Prelude.{None, Option, Some, min, nat_le, nat_eq, slice_index, slice_set, replicate}
use Rattle.std.proofs.lemmas.Bool.Decides.{nat_tests}
use Rattle.rt_base.specs.declared.TheConstants.{MOST_TASKS}
use Rattle.rt_rules.specs.declared.history.Reply.{Reply}
use Rattle.rt_rules.specs.declared.history.Reply.TheVariants as replies
use Rattle.rt_rules.specs.Numbers.{is}
use Rattle.trace_tools.specs.declared.shown.Shown.{Shown}
use Rattle.trace_tools.specs.Tools.{Tool, after, totals}
use Rattle.trace_tools.specs.Entries.{begins, begun_by, last_cpu, migrations, most, moves, moves_after, moves_from, moves_task}
use Rattle.trace_tools.specs.Rules.{is_elsewhere, migration_rules, migrate, new_migrations, nowhere, raised}
use Rattle.trace_tools.proofs.CountLaws.{raised-then, raised-within}
use Rattle.trace_tools.proofs.Zeros.{zeros}

-- one more than a processor, or 0
abbrev word : Option ℕ → ℕ
word None = 0
word (Some q) = suc q

-- the last_cpus are those of the entries before, which stand newest first
record Kept (before : List Shown) (last_cpus : List ℕ) : Type 0 where
  len : length last_cpus ≡ MOST_TASKS + 1
  each : (t : ℕ) → t ≤ MOST_TASKS → slice_index last_cpus t ≡ word (last_cpu t before)

elsewhere-word : (o : Option ℕ) (q : ℕ) → is_elsewhere (word o) q ≡ moves_from o q
elsewhere-word None q = refl
elsewhere-word (Some p) q = refl

begun-within : (r : Reply) (t : ℕ) → begun_by r ≡ Some t → t ≤ MOST_TASKS
begun-within (replies.Runs n) t h = by_case (nat_le n.0 MOST_TASKS) refl h
  where
    by_case : (b : Bool) → nat_le n.0 MOST_TASKS ≡ b → cond b (Some n.0) None ≡ Some t → t ≤ MOST_TASKS
    by_case true below is = grind (arith, nat_tests)
    by_case false below is = cc
begun-within replies.Done t h = cc
begun-within replies.Idles t h = cc
begun-within replies.Granted t h = cc
begun-within replies.Queued t h = cc
begun-within replies.Quiet t h = cc
begun-within replies.Deferred t h = cc
begun-within replies.Idle t h = cc
begun-within replies.Spent t h = cc
begun-within replies.NoBudget t h = cc
begun-within replies.NotDeclared t h = cc
begun-within replies.Nested t h = cc
begun-within replies.NotHeld t h = cc
begun-within replies.NotLast t h = cc
begun-within replies.Holding t h = cc
begun-within replies.InNp t h = cc
begun-within replies.NotInNp t h = cc
begun-within replies.TooEarly t h = cc
begun-within replies.NotSporadic t h = cc

abbrev at_last_cpus : ℕ → List ℕ → Tool
at_last_cpus n last_cpus = record { rules = migration_rules; state = n ∷ last_cpus }

-- an entry that begins none leaves the last_cpus
kept-none : (before : List Shown) (e : Shown) (last_cpus : List ℕ) → begins e ≡ None → Kept before last_cpus → Kept (e ∷ before) last_cpus
kept-none before e last_cpus none kept = record {
  len = kept.len;
  each = λ t h. kept.each t h ∙ ap (λ (o : Option ℕ). word (cond (is t o) (Some e.entry.step.cpu.0) (last_cpu t before))) (sym none);
}

last-some : (before : List Shown) (e : Shown) (t s : ℕ) → begins e ≡ Some t → last_cpu s (e ∷ before) ≡ cond (nat_eq s t) (Some e.entry.step.cpu.0) (last_cpu s before)
last-some before e t s some = ap (λ (o : Option ℕ). cond (is s o) (Some e.entry.step.cpu.0) (last_cpu s before)) some

last_cpu-some : (before : List Shown) (q : ℕ) (last_cpus : List ℕ) (t s : ℕ) → t < length last_cpus → slice_index last_cpus s ≡ word (last_cpu s before)
    → slice_index (slice_set last_cpus t (suc q)) s ≡ word (cond (nat_eq s t) (Some q) (last_cpu s before))
last_cpu-some before q last_cpus t s below old = by_case (nat_eq s t) refl
  where
    by_case : (b : Bool) → nat_eq s t ≡ b → slice_index (slice_set last_cpus t (suc q)) s ≡ word (cond b (Some q) (last_cpu s before))
    by_case true same =
        let e : s ≡ t = grind (arith, nat_tests) in
        ap (slice_index (slice_set last_cpus t (suc q))) e ∙ get_or-set_same last_cpus t (suc q) 0 below
    by_case false other =
        let ne : s ≢ t = grind (arith, nat_tests) in
        get_or-set_other last_cpus t s (suc q) 0 ne ∙ old

kept-some : (before : List Shown) (e : Shown) (last_cpus : List ℕ) (t : ℕ) → begins e ≡ Some t → t ≤ MOST_TASKS → Kept before last_cpus
    → Kept (e ∷ before) (slice_set last_cpus t (suc e.entry.step.cpu.0))
kept-some before e last_cpus t some within kept =
    let len : length last_cpus ≡ MOST_TASKS + 1 = kept.len in
    let below : t < length last_cpus = omega arith in
    record {
      len = length-set last_cpus t (suc e.entry.step.cpu.0) ∙ kept.len;
      each = λ s h. last_cpu-some before e.entry.step.cpu.0 last_cpus t s below (kept.each s h) ∙ ap word (sym (last-some before e t s some));
    }

abbrev last_cpus_after : Option ℕ → ℕ → List ℕ → List ℕ
last_cpus_after None q last_cpus = last_cpus
last_cpus_after (Some t) q last_cpus = slice_set last_cpus t (suc q)

kept-after : (before : List Shown) (e : Shown) (last_cpus : List ℕ) (o : Option ℕ) → begins e ≡ o → Kept before last_cpus → Kept (e ∷ before) (last_cpus_after o e.entry.step.cpu.0 last_cpus)
kept-after before e last_cpus None is kept = kept-none before e last_cpus is kept
kept-after before e last_cpus (Some t) is kept = kept-some before e last_cpus t is (begun-within e.entry.reply t is) kept

-- the count rises where a task moves
state-after : (before : List Shown) (q n : ℕ) (last_cpus : List ℕ) (o : Option ℕ) → ((t : ℕ) → o ≡ Some t → t ≤ MOST_TASKS) → Kept before last_cpus
    → migrate o q (n ∷ last_cpus) ≡ raised (moves_task o q before) n ∷ last_cpus_after o q last_cpus
state-after before q n last_cpus None within kept = refl
state-after before q n last_cpus (Some t) within kept =
    let word_is : slice_index last_cpus t ≡ word (last_cpu t before) = kept.each t (within t refl) in
    ap (λ (b : Bool). raised b n ∷ slice_set last_cpus t (suc q)) (ap (λ (p : ℕ). is_elsewhere p q) word_is ∙ elsewhere-word (last_cpu t before) q)

one-total : (n : ℕ) (last_cpus : List ℕ) → totals (at_last_cpus n last_cpus) ≡ n ∷ []
unfolding totals
one-total n last_cpus = refl

moved-after : (es before : List Shown) (n : ℕ) (last_cpus : List ℕ) → n ≤ most → Kept before last_cpus → totals (after es (at_last_cpus n last_cpus)) ≡ min (n + moves_after before es) most ∷ []
moved-after [] before n last_cpus h kept =
    let same : n ≡ min (n + 0) most = omega arith in
    one-total n last_cpus ∙ ap (λ (k : ℕ). k ∷ []) same
moved-after (e ∷ es) before n last_cpus h kept =
    let q : ℕ = e.entry.step.cpu.0 in
    let within : (t : ℕ) → begins e ≡ Some t → t ≤ MOST_TASKS = λ t is. begun-within e.entry.reply t is in
    let next : migrate (begins e) q (n ∷ last_cpus) ≡ raised (moves before e) n ∷ last_cpus_after (begins e) q last_cpus = state-after before q n last_cpus (begins e) within kept in
    ap (λ (state : List ℕ). totals (after es (record { rules = migration_rules; state = state }))) next
    ∙ moved-after es (e ∷ before) (raised (moves before e) n) (last_cpus_after (begins e) q last_cpus) (raised-within (moves before e) n h) (kept-after before e last_cpus (begins e) refl kept)
    ∙ ap (λ (k : ℕ). k ∷ []) (raised-then (moves before e) n (moves_after (e ∷ before) es) h)

-- so many zeros
abbrev zeros_of : ℕ → List ℕ
zeros_of n = replicate n 0

length-zeros : (n : ℕ) → length (zeros_of n) ≡ n
length-zeros zero = refl
length-zeros (suc n) = ap suc (length-zeros n)

nowhere-length : (n : ℕ) → length (nowhere n) ≡ n
unfolding nowhere
nowhere-length n = length-zeros n

nowhere-each : (n t : ℕ) → slice_index (nowhere n) t ≡ 0
unfolding nowhere
nowhere-each n t = zeros n t

pub nowhere-is : (n : ℕ) → zeros_of n ≡ nowhere n
unfolding nowhere
nowhere-is n = refl

pub moves-counted : (es : List Shown) → totals (after es new_migrations) ≡ migrations es
moves-counted es =
    let same : 0 + moves_after [] es ≡ moves_after [] es = omega arith in
    let kept : Kept [] (nowhere (MOST_TASKS + 1)) = record { len = nowhere-length (MOST_TASKS + 1); each = λ t h. nowhere-each (MOST_TASKS + 1) t } in
    moved-after es [] 0 (nowhere (MOST_TASKS + 1)) (lit≤ tt) kept ∙ ap (λ (k : ℕ). min k most ∷ []) same
