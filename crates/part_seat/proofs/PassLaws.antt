-- What a release passes on.
use Rattle.std.proofs.Common.{◌≡◌, ℕ, ◌+◌, ◌≤◌, List, [], ◌∷◌, ◌++◌, length, Option, None, Some, refl, ap, ◌∙◌, subst, arith, length-append}
use Rattle.std.specs.Prelude.{option_map, slice_get}
use Rattle.std.proofs.Math.Seq.{get_or-append_seam}
use Rattle.std.proofs.lemmas.Option.{slice_get-get_or}
use Rattle.rt_base.specs.TaskNos.{number_of_task}
use Rattle.rt_base.specs.declared.CpuNo.{CpuNo}
use Rattle.rt_base.specs.declared.SemNo.{SemNo}
use Rattle.rt_base.specs.declared.TaskNo.{TaskNo}
use Rattle.rt_task.specs.declared.Parts.{Parts}
use Rattle.rt_plays.specs.Plays.{group_with}
use Rattle.split_rules.specs.SemHistories.{seat_of}
use Rattle.split_rules.specs.declared.SemAct.TheVariants as acts
use Rattle.split_rules.specs.declared.SemEntry.{SemEntry}
use Rattle.split_inbox.specs.Books as book
use Rattle.split_inbox.specs.Books.{entry}
use Rattle.split_laws.proofs.StepLaws.{some-same}
use Rattle.split_turns.specs.SplitTurns.{book_of}
use Rattle.split_turns.proofs.ListLaws.{length-mapped}
use Rattle.part_seat.specs.AtTurns.{IsPassedAt, claim_passed}
use Rattle.part_seat.specs.Partitions.{Seat, books_in}
use Rattle.part_seat.specs.declared.passed.Passed.{Passed}
use Rattle.part_seat.proofs.WaiterLaws.{passed-task}

abbrev pub passed_by : SemNo → ℕ → Option TaskNo → Option Passed
passed_by s n next = option_map (λ (t : TaskNo). record { sem = s; no = n; task = t }) next

pub passes-law : (s : SemNo) (no n : ℕ) (next : Option TaskNo) → no ≡ n
    → option_map claim_passed (passed_by s no next) ≡ option_map (λ u. record { sem = s.0; no = n; task = u }) (number_of_task next)
passes-law s number n None e = refl
passes-law s number n (Some t) e = ap (λ m. Some (record { sem = s.0; no = m; task = t.0 })) e

pub at-end : (xs : List SemEntry) (x : SemEntry) → slice_get (xs ++ x ∷ []) (length xs) ≡ Some x
at-end xs x = slice_get-get_or (xs ++ x ∷ []) (length xs) x (omega (arith, length-append xs (x ∷ []))) ∙ ap Some (get_or-append_seam xs x [] x)

module _ (p : Parts) (q : ℕ) (seats : List Seat) (s : SemNo) (cpu : CpuNo) (task : TaskNo) (found : List SemEntry) (no : ℕ) (low : 1 ≤ s.0) (high : s.0 ≤ length p.sems)
    (mine : cpu.0 ≡ q) where
  passed-some : (next : Option TaskNo) → books_in seats s.0 ≡ found ++ entry cpu task (acts.Release next) ∷ [] → book.IsLegalSem (book_of p s.0) (books_in seats s.0)
      → no + 1 ≡ length (books_in seats s.0) → (t : TaskNo) → next ≡ Some t → IsPassedAt p q seats (record { sem = s; no = no; task = t })
  passed-some next is legal count t some =
      let e : SemEntry = entry cpu task (acts.Release next) in
      let of = passed-task (book_of p s.0) found e t (ap acts.Release some) (subst (book.IsLegalSem (book_of p s.0)) is legal) in
      let homes = length-mapped (λ u. seat_of (group_with p 0) u) 0 (length p.tasks + 1) in
      let high_task = of.high in
      let position : no ≡ length found = let a = ap length is in let b = length-append found (e ∷ []) in omega (arith, a, b, count) in
      record {
        sem_low = low;
        sem_high = high;
        task_low = of.low;
        task_high = omega (arith, high_task, homes);
        task = task;
        granted =
            ap (λ l. slice_get l no) is ∙ ap (slice_get (found ++ e ∷ [])) position ∙ at-end found e
            ∙ ap (λ (o : Option TaskNo). Some (entry cpu task (acts.Release o))) some
            ∙ ap (λ n. Some (entry (record { 0 = n }) task (acts.Release (Some t)))) mine;
      }

  pub passed-at : (next : Option TaskNo) → books_in seats s.0 ≡ found ++ entry cpu task (acts.Release next) ∷ [] → book.IsLegalSem (book_of p s.0) (books_in seats s.0)
      → no + 1 ≡ length (books_in seats s.0) → (c : Passed) → passed_by s no next ≡ Some c → IsPassedAt p q seats c
  passed-at None is legal count c e = cc
  passed-at (Some t) is legal count c e = subst (IsPassedAt p q seats) (some-same e) (passed-some (Some t) is legal count t refl)
