-- What is read off the semaphores and keys that are kept is what the rules say.
use Rattle.std.proofs.Common.{◌≡◌, ◌∙◌, ℕ, List, [], ◌∷◌, length, arith, refl, ap}
use Rattle.std.specs.Prelude.{◌==◌, Option, None, Some, is_some, option_map}
use Rattle.std.proofs.lemmas.Bool.Decides.{nat_tests}
use Rattle.rt_base.specs.declared.SemNo.{SemNo}
use Rattle.rt_rules.specs.Numbers.{is_empty}
use Rattle.rt_model.specs.Holders.{holds}
use Rattle.sem_table.specs.SemTable.{row_at}
use Rattle.sem_table.specs.Told.{awaits_of}
use Rattle.sem_table.specs.KeptRows.{KeepsRow}
use Rattle.sem_table.proofs.Owner.{tells_owner}
use Rattle.sem_table.proofs.Rows.{grants_as_rules}
use Rattle.sem_table.proofs.ServedNext.{tells_served}
use Rattle.sem_table.proofs.SrpSets.{tells_passing}
use Rattle.group_sems.specs.Reading.{GrantIsRead, HoldingIsRead, OwnerIsRead, PassingIsRead, ServedIsRead}

pub owner_is_read : OwnerIsRead
owner_is_read g past valid made v s u known user k = tells_owner g past valid made v.table s u known user k.sems_are

pub grant_is_read : GrantIsRead
grant_is_read g e past valid made v t s h k = grants_as_rules g e past valid made v.table t s h k.sems_are

pub served_is_read : ServedIsRead
served_is_read g e past valid made v t s h k = tells_served g e past valid made v.table t s h k.sems_are

pub passing_is_read : PassingIsRead
passing_is_read g past valid made v t there k = tells_passing g past valid made v.table t there k.sems_are k.rows_are

-- ---- what a task holds and whether it waits

pub none-counted : (xs : List ℕ) → length xs == 0 ≡ is_empty xs
none-counted [] = refl
none-counted (x ∷ xs) = grind (arith, nat_tests)

some-mapped : (o : Option SemNo) → is_some o ≡ is_some (option_map (λ (n : SemNo). n.0) o)
some-mapped None = refl
some-mapped (Some n) = refl

pub holding_is_read : HoldingIsRead
holding_is_read g past valid made v t there k =
    let r : KeepsRow g t past (row_at v.table.rows t) = k.rows_are.rows t there in
    (ap (λ (n : ℕ). n == 0) r.held ∙ none-counted (holds g t past), some-mapped (awaits_of v.table t) ∙ ap is_some r.awaited)
