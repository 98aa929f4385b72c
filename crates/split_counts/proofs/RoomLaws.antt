-- A partition has room for what its script has still to do.
use Rattle.std.proofs.Common.{◌≡◌, ℕ, suc, ◌<◌, Bool, true, false, List, [], ◌∷◌, ◌++◌, length, sym, ap, ◌∙◌, subst, arith}
use Rattle.std.proofs.lemmas.List.{length-map}
use Rattle.std.specs.Prelude.{if◌then◌else◌}
use Rattle.rt_task.specs.declared.Act.{Act}
use Rattle.rt_task.specs.declared.Step.{Step}
use Rattle.split_rules.specs.Matching.{done_at, own, told}
use Rattle.split_rules.specs.PartHistories.{past_of, steps_of}
use Rattle.split_rules.specs.PartPast.{TaskDeed, deeds}
use Rattle.split_rules.specs.declared.SplitEntry.{SplitEntry}
use Rattle.split_laws.specs.Counts.{count_steps, names_sem}
use Rattle.split_laws.proofs.CountLaws.{acts_are_steps}
use Rattle.split_counts.specs.Room.{ComesNext, EntriesHaveRoom, FreedAreUnlocks, PostedAreFreed, PostsHaveRoom, freed, is_unlock}
use Rattle.split_counts.proofs.FreedLaws.{claims-freed, freed-from, given-freed}

-- a further step that passes the test is one more
one-more : (test : Act → Bool) (xs : List Step) (x : Step) (rest : List Step) → test x.act ≡ true
    → count_steps test xs < count_steps test (xs ++ x ∷ rest)
one-more test [] x rest h = rw h (omega arith)
one-more test (y ∷ xs) x rest h = by_test (test y.act) (one-more test xs x rest h)
  where
    by_test : (b : Bool) → count_steps test xs < count_steps test (xs ++ x ∷ rest)
        → (if b then suc (count_steps test xs) else count_steps test xs) < (if b then suc (count_steps test (xs ++ x ∷ rest)) else count_steps test (xs ++ x ∷ rest))
    by_test true k = omega (arith, k)
    by_test false k = k

comes-more : (test : Act → Bool) (script : List Step) (q : ℕ) (es : List SplitEntry) (x : Step) → ComesNext script q es x → test x.act ≡ true
    → count_steps test (steps_of q es) < count_steps test script
comes-more test script q es x next h =
    subst (λ (l : List Step). count_steps test (steps_of q es) < count_steps test l) (sym next.parts) (one-more test (steps_of q es) x next.rest h)

pub freed_are_unlocks : FreedAreUnlocks
unfolding past_of deeds
freed_are_unlocks g q es = let h = freed-from g q es [] in omega (arith, h)

pub entries_have_room : EntriesHaveRoom
entries_have_room g q s books es script x seen next h =
    let a = comes-more (names_sem s) script q es x next h in
    let b = acts_are_steps g q s es in
    let c : length (own q (books s)) ≡ length (done_at s (deeds (past_of g q es))) = sym (length-map (own q (books s)) (told s)) ∙ ap length (seen.did s) in
    omega (arith, a, b, c)

pub posted_are_freed : PostedAreFreed
posted_are_freed g q r books past posted seen has =
    claims-freed (posted r) (deeds past) (λ s.
    let a = given-freed g q r s 0 (books s) in
    let b = ap length (has r s) in
    let c = ap (λ (ds : List TaskDeed). length (freed ds)) (seen.did s) in
    omega (arith, a, b, c))

pub posts_have_room : PostsHaveRoom
posts_have_room g q r books posted es script x seen has next h =
    let a = comes-more is_unlock script q es x next h in
    let b = freed_are_unlocks g q es in
    let c = posted_are_freed g q r books (past_of g q es) posted seen has in
    omega (arith, a, b, c)
