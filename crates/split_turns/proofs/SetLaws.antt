-- What a valid set says of its processors and its semaphores.
use Rattle.std.proofs.Common.{◌≡◌, ℕ, zero, suc, ◌+◌, ◌-◌, ◌<◌, ◌≤◌, Bool, true, false, List, [], ◌∷◌, ◌++◌, length, refl, sym, ap, ◌∙◌, arith, leb-true, ltb-true}
use Rattle.std.proofs.lemmas.Bool.{ltb-false}
use Rattle.std.proofs.lemmas.List.Sums.{sum_by-cons}
use Rattle.std.specs.Prelude.{◌&&◌, nat_le, nat_lt, slice_index_or, sum_by}
use Rattle.rt_base.specs.declared.TheConstants.{MOST_CLUSTERS, MOST_CPUS, MOST_RESVS, MOST_SEMS, MOST_TASKS}
use Rattle.rt_task.specs.Draft.{draft_of}
use Rattle.rt_task.specs.RuleWords.{stands_under}
use Rattle.rt_task.specs.SharingRules.{sem_sharing}
use Rattle.rt_task.specs.Lookups.{cpus as cpus_of_set}
use Rattle.rt_task.specs.SizeRules.{horizon_fits, whole_size}
use Rattle.rt_task.specs.declared.draft.Draft.{Draft}
use Rattle.rt_task.specs.Validity.{IsValid}
use Rattle.rt_task.specs.declared.Cluster.{Cluster}
use Rattle.rt_task.specs.declared.Parts.{Parts}
use Rattle.rt_task.specs.declared.PluginKind.{PluginKind}
use Rattle.rt_task.specs.declared.PluginKind.TheVariants as plugins
use Rattle.rt_task.specs.declared.Protocol.TheVariants as protocols
use Rattle.rt_task.specs.declared.Sem.{Sem}
use Rattle.rt_rules.proofs.BoolLaws.{both}
use Rattle.rt_model.specs.Group.{no_cluster, no_sem, protocol, sem}
use Rattle.rt_laws.proofs.ValidSets.{keeps_rows, rules_of}
use Rattle.rt_plays.specs.Plays.{group_with}
use Rattle.rt_plays.specs.Room.{processor_count}
use Rattle.rt_plays.proofs.SetLimits.{sets_are_in_limits}
use Rattle.rt_plays.proofs.ValidRows.{passes_rows}
use Rattle.rt_base.specs.declared.SemNo.{SemNo}
use Rattle.split_inbox.specs.declared.subject.SemOf.{SemOf}
use Rattle.split_inbox.specs.declared.subject.SemRule.{SemRule}
use Rattle.set_books.specs.SetBooks.{IsAbout}
use Rattle.set_books.proofs.BookLaws as books
use Rattle.split_turns.specs.Histories.{HistoriesAreOfSet}
use Rattle.split_turns.specs.SplitTurns.{AreTurnsFrom, IsTurnOf, book_of}
use Rattle.split_turns.specs.declared.turns.SemTurn.{SemTurn}

first-some : (ks : List Cluster) → 1 ≤ length ks → 1 ≤ (slice_index_or ks 0 no_cluster).cpus → 0 < sum_by (λ (k : Cluster). k.cpus) ks
first-some [] h k = absurd (omega (arith, h))
first-some (x ∷ ks) h k = omega (arith, k, sum_by-cons (λ (c : Cluster). c.cpus) x ks)

pub some-cpu : (p : Parts) → IsValid p → 0 < processor_count p
some-cpu p valid =
    let some = (rules_of (group_with p 0) valid).has_cluster in
    first-some p.clusters some ((sets_are_in_limits p valid).has_cpus 0 some)

fourth : (a b c d e : Bool) → a && (b && (c && (d && e))) ≡ true → d ≡ true
fourth true true true true e h = refl
fourth true true true false e h = cc
fourth true true false d e h = cc
fourth true false c d e h = cc
fourth false b c d e h = cc

pub few-sems : (p : Parts) → IsValid p → length p.sems ≤ MOST_SEMS
unfolding whole_size
few-sems p valid =
    let d : Draft = draft_of p in
    leb-true (length p.sems) MOST_SEMS
    (fourth (nat_le (length d.clusters) MOST_CLUSTERS) (nat_le (cpus_of_set d) MOST_CPUS) (nat_le (length d.tasks) MOST_TASKS) (nat_le (length p.sems) MOST_SEMS)
    (nat_le (length d.resvs) MOST_RESVS && horizon_fits d d.drive) (passes_rows p valid).size)

beyond : (xs : List Sem) (i : ℕ) → length xs ≤ i → slice_index_or xs i no_sem ≡ no_sem
beyond [] i h = refl
beyond (x ∷ xs) zero h = absurd (omega (arith, h))
beyond (x ∷ xs) (suc i) h = beyond xs i (omega (arith, h))

plugin-is : (k : PluginKind) → stands_under protocols.Mpcp k ≡ true → k ≡ plugins.PFp
plugin-is plugins.PFp h = refl
plugin-is plugins.GsnEdf h = cc
plugin-is plugins.CEdf h = cc
plugin-is plugins.PsnEdf h = cc
plugin-is plugins.PRes h = cc

-- MPCP stands under P-FP alone
pub mpcp-plugin : (p : Parts) (s : ℕ) → IsValid p → protocol (group_with p 0) s ≡ protocols.Mpcp → p.plugin ≡ plugins.PFp
unfolding sem_sharing protocol sem
mpcp-plugin p s valid is = by_case (nat_lt (s - 1) (length p.sems)) refl
  where
    by_case : (b : Bool) → nat_lt (s - 1) (length p.sems) ≡ b → p.plugin ≡ plugins.PFp
    by_case true h =
        let k = (keeps_rows p valid).sem (s - 1) no_sem (ltb-true _ _ h) in
        let under : stands_under (slice_index_or p.sems (s - 1) no_sem).protocol p.plugin ≡ true = (both _ _ k.keeps).0 in
        plugin-is p.plugin (ap (λ x. stands_under x p.plugin) (sym is) ∙ under)
    by_case false h =
        let none = ap (λ (x : Sem). x.protocol) (beyond p.sems (s - 1) (ltb-false _ _ h)) in
        let bad : protocols.Mpcp ≡ protocols.Fmlp = sym is ∙ none in cc

pub histories_are_of_set : HistoriesAreOfSet
histories_are_of_set p s es valid legal =
    let about : IsAbout p s (book_of p s) = record { sem_is = refl; rule_is = refl; homes_are = refl; prios_are = refl } in
    books.books_are_legal p s (book_of p s) es (mpcp-plugin p s valid) about legal

-- one turn more
pub turns-more : (p : Parts) (s : ℕ) (ts : List SemTurn) (t : SemTurn) → AreTurnsFrom p s ts → IsTurnOf p (s + length ts) t → AreTurnsFrom p s (ts ++ t ∷ [])
turns-more p s [] t are is = let e : s + 0 ≡ s = omega arith in let now : IsTurnOf p s t = rw (← e) is in (now, tt)
turns-more p s (x ∷ ts) t are is =
    let e : s + suc (length ts) ≡ suc s + length ts = omega arith in
    let now : IsTurnOf p (suc s + length ts) t = rw (← e) is in
    (are.0, turns-more p (suc s) ts t are.1 now)

pub book-same : (sem : SemNo) (r r' : SemRule) (h h' m m' q q' : List ℕ) → r ≡ r' → h ≡ h' → m ≡ m' → q ≡ q'
    → ◌≡◌ {A = SemOf} (record { sem = sem; rule = r; homes = h; prios = m; quotas = q }) (record { sem = sem; rule = r'; homes = h'; prios = m'; quotas = q' })
book-same sem r r' h h' m m' q q' a b c d = rw (a, b, c, d) refl
