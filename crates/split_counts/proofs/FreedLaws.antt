-- Who frees semaphores plays Unlocks, and grants are posted by those who free semaphores.
use Rattle.std.proofs.Common.{◌≡◌, ℕ, suc, ◌+◌, ◌≤◌, Bool, true, false, List, [], ◌∷◌, ◌++◌, length, map, Option, None, Some, refl, sym, ap, ◌∙◌, subst, append-nil, arith, length-append, eqb-true}
use Rattle.std.specs.List.{cons_option}
use Rattle.std.specs.Prelude.{◌==◌, ◌&&◌, if◌then◌else◌}
use Rattle.std.proofs.lemmas.List.Elements.{filter-append}
use Rattle.rt_base.specs.TaskNos.{number_of_task}
use Rattle.rt_base.specs.declared.SemNo.{SemNo}
use Rattle.rt_base.specs.declared.TaskNo.{TaskNo}
use Rattle.rt_task.specs.declared.Act.{Act}
use Rattle.rt_task.specs.declared.Act.TheVariants as acts
use Rattle.rt_task.specs.declared.Op.TheVariants as ops
use Rattle.rt_task.specs.declared.Step.{Step}
use Rattle.rt_rules.specs.declared.history.Reply.{Reply}
use Rattle.rt_rules.specs.declared.history.Reply.TheVariants as replies
use Rattle.rt_rules.proofs.BoolLaws.{clash}
use Rattle.rt_rules.proofs.MemberLaws.{equal_self}
use Rattle.rt_model.specs.Group.{Group}
use Rattle.rt_model.specs.Runs.{runs}
use Rattle.split_rules.specs.Matching.{deed_told, done_at, granted_by, is_done_at, own, told}
use Rattle.split_rules.specs.PartAnswers.{part_act}
use Rattle.split_rules.specs.PartHistories.{after, after_entry, past_from, step_by, steps_of}
use Rattle.split_rules.specs.PartPast.{Asks, Claim, Deed, Frees, Gets, PartPast, TaskDeed, deed_of, deeds, moves, with_deed}
use Rattle.split_rules.specs.SemHistories.{seat_of}
use Rattle.split_rules.specs.declared.SemAct.{SemAct}
use Rattle.split_rules.specs.declared.SemAct.TheVariants as sem_acts
use Rattle.split_rules.specs.declared.SemEntry.{SemEntry}
use Rattle.split_rules.specs.declared.SplitAct.{SplitAct}
use Rattle.split_rules.specs.declared.SplitAct.TheVariants as split
use Rattle.split_rules.specs.declared.SplitEntry.{SplitEntry}
use Rattle.split_laws.specs.Counts.{count_steps}
use Rattle.split_laws.specs.Posts.{given, given_from, given_to, of_sem}
use Rattle.split_counts.specs.Room.{freed, is_freeing, is_unlock}

abbrev one_if : Bool → ℕ
one_if b = if b then 1 else 0

freed-joined : (xs ys : List TaskDeed) → freed (xs ++ ys) ≡ freed xs ++ freed ys
freed-joined xs ys = filter-append (λ (d : TaskDeed). is_freeing d.deed) xs ys

-- one deed more
one-deed : (ds : List TaskDeed) (d : TaskDeed) → length (freed (ds ++ d ∷ [])) ≤ length (freed ds) + one_if (is_freeing d.deed)
one-deed ds d = subst (λ (l : List TaskDeed). length l ≤ length (freed ds) + one_if (is_freeing d.deed)) (sym (freed-joined ds (d ∷ []))) (by_deed (is_freeing d.deed))
  where
    by_deed : (b : Bool) → length (freed ds ++ (if b then d ∷ [] else [])) ≤ length (freed ds) + one_if b
    by_deed true = omega (arith, length-append (freed ds) (d ∷ []))
    by_deed false = omega (arith, length-append {A = TaskDeed} (freed ds) [])

same-deeds : (ds : List TaskDeed) (n : ℕ) → length (freed ds) ≤ length (freed ds) + n
same-deeds ds n = omega arith

module _ (ds : List TaskDeed) where
  lock-count : (r : SemNo) (reply : Reply) (o : Option ℕ) → length (freed (with_deed ds (deed_of (acts.Do (ops.Lock r)) reply o))) ≤ length (freed ds) + 0
  lock-count r replies.Granted (Some t) = one-deed ds (record { task = t; sem = r.0; deed = Asks _ })
  lock-count r replies.Queued (Some t) = one-deed ds (record { task = t; sem = r.0; deed = Asks _ })
  lock-count r replies.Granted None = same-deeds ds _
  lock-count r replies.Queued None = same-deeds ds _
  lock-count r _ o = same-deeds ds _

  unlock-count : (r : SemNo) (reply : Reply) (o : Option ℕ) → length (freed (with_deed ds (deed_of (acts.Do (ops.Unlock r)) reply o))) ≤ length (freed ds) + 1
  unlock-count r replies.Done (Some t) = one-deed ds (record { task = t; sem = r.0; deed = Frees })
  unlock-count r replies.Done None = same-deeds ds _
  unlock-count r _ o = same-deeds ds _

  act-count : (act : Act) (reply : Reply) (o : Option ℕ) → length (freed (with_deed ds (deed_of act reply o))) ≤ length (freed ds) + one_if (is_unlock act)
  act-count acts.Tick reply o = same-deeds ds _
  act-count acts.Irq reply o = same-deeds ds _
  act-count (acts.Arrive t) reply o = same-deeds ds _
  act-count (acts.Do (ops.Lock r)) reply o = lock-count r reply o
  act-count (acts.Do (ops.Unlock r)) reply o = unlock-count r reply o
  act-count (acts.Do ops.Work) reply o = same-deeds ds _
  act-count (acts.Do (ops.Sleep n)) reply o = same-deeds ds _
  act-count (acts.Do ops.NpOn) reply o = same-deeds ds _
  act-count (acts.Do ops.NpOff) reply o = same-deeds ds _
  act-count (acts.Do ops.End) reply o = same-deeds ds _

finish : (b : Bool) (a m x y : ℕ) → y ≤ x + one_if b → a ≤ y + m → a ≤ x + (if b then suc m else m)
finish true a m x y h k = omega arith
finish false a m x y h k = omega arith

-- the deeds after an entry
plain-deeds : (g : Group) (q : ℕ) (e : SplitEntry) (past : PartPast) (act : Act) → e.act ≡ split.Plain act
    → deeds (after g q e past) ≡ with_deed (deeds past) (deed_of act e.reply (runs q (moves past)))
unfolding after deeds part_act runs
plain-deeds g q e past act k = ap (λ (x : SplitAct). deeds (after_entry g q x e past)) k

take-freed : (g : Group) (q : ℕ) (e : SplitEntry) (past : PartPast) (r : SemNo) (n : ℕ) (t : TaskNo) → e.act ≡ split.Take r n t
    → freed (deeds (after g q e past)) ≡ freed (deeds past)
unfolding after deeds
take-freed g q e past r n t k =
    ap (λ (x : SplitAct). freed (deeds (after_entry g q x e past))) k
    ∙ freed-joined (deeds past) (record { task = t.0; sem = r.0; deed = Gets n } ∷ []) ∙ append-nil (freed (deeds past))

steps-plain : (q : ℕ) (e : SplitEntry) (es : List SplitEntry) (act : Act) → e.act ≡ split.Plain act
    → steps_of q (e ∷ es) ≡ record { cpu = record { 0 = q }; tick = e.tick; act = act } ∷ steps_of q es
steps-plain q e es act k = ap (λ (x : SplitAct). cons_option (step_by q x e) (steps_of q es)) k

steps-take : (q : ℕ) (e : SplitEntry) (es : List SplitEntry) (r : SemNo) (n : ℕ) (t : TaskNo) → e.act ≡ split.Take r n t → steps_of q (e ∷ es) ≡ steps_of q es
steps-take q e es r n t k = ap (λ (x : SplitAct). cons_option (step_by q x e) (steps_of q es)) k

pub freed-from : (g : Group) (q : ℕ) (es : List SplitEntry) (past : PartPast)
    → length (freed (deeds (past_from g q past es))) ≤ length (freed (deeds past)) + count_steps is_unlock (steps_of q es)
unfolding past_from
freed-from g q [] past = omega arith
freed-from g q (e ∷ es) past = by_act e.act refl (freed-from g q es (after g q e past))
  where
    by_act : (x : SplitAct) → e.act ≡ x
        → length (freed (deeds (past_from g q (after g q e past) es))) ≤ length (freed (deeds (after g q e past))) + count_steps is_unlock (steps_of q es)
        → length (freed (deeds (past_from g q (after g q e past) es))) ≤ length (freed (deeds past)) + count_steps is_unlock (steps_of q (e ∷ es))
    by_act (split.Plain act) k h =
        subst (λ (l : List Step). length (freed (deeds (past_from g q (after g q e past) es))) ≤ length (freed (deeds past)) + count_steps is_unlock l) (sym (steps-plain q e es act k))
        (finish (is_unlock act) (length (freed (deeds (past_from g q (after g q e past) es)))) (count_steps is_unlock (steps_of q es))
        (length (freed (deeds past))) (length (freed (deeds (after g q e past))))
        (subst (λ (l : List TaskDeed). length (freed l) ≤ length (freed (deeds past)) + one_if (is_unlock act)) (sym (plain-deeds g q e past act k))
        (act-count (deeds past) act e.reply (runs q (moves past)))) h)
    by_act (split.Take r n t) k h =
        subst (λ (l : List Step). length (freed (deeds (past_from g q (after g q e past) es))) ≤ length (freed (deeds past)) + count_steps is_unlock l) (sym (steps-take q e es r n t k))
        (subst (λ (l : List TaskDeed). length (freed (deeds (past_from g q (after g q e past) es))) ≤ length l + count_steps is_unlock (steps_of q es)) (take-freed g q e past r n t k) h)

-- the grants that entries gave are at most their releases
given-one : (g : Group) (q r s n : ℕ) (e : SemEntry) → length (given g q r s n e) ≤ length (freed (map (told s) (own q (e ∷ []))))
given-one g q r s n e = by_cpu (e.cpu.0 == q)
  where
    by_task : (ks : List Claim) (b : Bool) → length ks ≤ 1 → length (if b then ks else []) ≤ 1
    by_task ks true h = h
    by_task ks false h = omega arith

    by_next : (o : Option ℕ) → length (given_to g r s n o) ≤ 1
    by_next None = omega arith
    by_next (Some u) = by_task (record { sem = s; no = n; task = u } ∷ []) (seat_of g u == r) (omega arith)

    by_act : (x : SemAct) → length (given_to g r s n (granted_by x)) ≤ length (freed (record { task = e.task.0; sem = s; deed = deed_told x } ∷ []))
    by_act (sem_acts.Ask a) = omega arith
    by_act (sem_acts.Release o) = by_next (number_of_task o)

    by_cpu : (b : Bool) → length (if b then given_to g r s n (granted_by e.act) else []) ≤ length (freed (map (told s) (if b then e ∷ [] else [])))
    by_cpu true = by_act e.act
    by_cpu false = omega arith

own-more : (s q : ℕ) (e : SemEntry) (es : List SemEntry)
    → length (freed (map (told s) (own q (e ∷ es)))) ≡ length (freed (map (told s) (own q (e ∷ [])))) + length (freed (map (told s) (own q es)))
own-more s q e es = by_cpu (e.cpu.0 == q)
  where
    by_deed : (b : Bool) (ds : List TaskDeed) → length (if b then told s e ∷ ds else ds) ≡ length (if b then told s e ∷ [] else []) + length ds
    by_deed true ds = omega arith
    by_deed false ds = omega arith

    by_cpu : (b : Bool) → length (freed (map (told s) (if b then e ∷ own q es else own q es)))
        ≡ length (freed (map (told s) (if b then e ∷ [] else []))) + length (freed (map (told s) (own q es)))
    by_cpu true = by_deed (is_freeing (told s e).deed) (freed (map (told s) (own q es)))
    by_cpu false = omega arith

pub given-freed : (g : Group) (q r s n : ℕ) (es : List SemEntry) → length (given_from g q r s n es) ≤ length (freed (map (told s) (own q es)))
given-freed g q r s n [] = omega arith
given-freed g q r s n (e ∷ es) =
    let h = given-one g q r s n e in
    let k = given-freed g q r s (suc n) es in
    let a = own-more s q e es in
    let b = length-append (given g q r s n e) (given_from g q r s (suc n) es) in
    omega (arith, h, k, a, b)

-- the deeds that freed semaphore s
abbrev pub freed_at : ℕ → List TaskDeed → List TaskDeed
freed_at s ds = freed (done_at s ds)

abbrev pub frees_here : ℕ → TaskDeed → Bool
frees_here s d = is_freeing d.deed && d.sem == s

freed-here : (s : ℕ) (d : TaskDeed) (ds : List TaskDeed) → length (freed_at s (d ∷ ds)) ≡ one_if (frees_here s d) + length (freed_at s ds)
freed-here s d ds = by_deed d.deed
  where
    asks : (x : TaskDeed) (b : Bool) → is_freeing x.deed ≡ false → length (freed (if b then x ∷ done_at s ds else done_at s ds)) ≡ 0 + length (freed_at s ds)
    asks x true h = rw h (omega arith)
    asks x false h = omega arith

    frees : (x : TaskDeed) (b : Bool) → is_freeing x.deed ≡ true → length (freed (if b then x ∷ done_at s ds else done_at s ds)) ≡ one_if b + length (freed_at s ds)
    frees x true h = rw h (omega arith)
    frees x false h = omega arith

    by_deed : (x : Deed) → length (freed (if is_done_at s x d.sem then record { task = d.task; sem = d.sem; deed = x } ∷ done_at s ds else done_at s ds))
        ≡ one_if (is_freeing x && d.sem == s) + length (freed_at s ds)
    by_deed (Gets n) = omega arith
    by_deed (Asks a) = asks (record { task = d.task; sem = d.sem; deed = Asks a }) (d.sem == s) refl
    by_deed Frees = frees (record { task = d.task; sem = d.sem; deed = Frees }) (d.sem == s) refl

freed-more : (d : TaskDeed) (ds : List TaskDeed) → length (freed (d ∷ ds)) ≡ one_if (is_freeing d.deed) + length (freed ds)
freed-more d ds = by_deed (is_freeing d.deed)
  where
    by_deed : (b : Bool) → length (if b then d ∷ freed ds else freed ds) ≡ one_if b + length (freed ds)
    by_deed true = omega arith
    by_deed false = omega arith

-- the deeds without one that freed semaphore s
abbrev without_one : ℕ → List TaskDeed → List TaskDeed
without_one s [] = []
without_one s (d ∷ ds) = if frees_here s d then ds else d ∷ without_one s ds

both : (a b : Bool) → a && b ≡ true → (a ≡ true) × (b ≡ true)
both true true h = (refl, refl)
both true false h = absurd (clash false h refl)
both false b h = absurd (clash false h refl)

here-as : (s r : ℕ) (d : TaskDeed) → frees_here s d ≡ true → frees_here r d ≡ (s == r)
here-as s r d h =
    let p = both (is_freeing d.deed) (d.sem == s) h in
    ap (λ (b : Bool). b && d.sem == r) p.0 ∙ ap (λ (n : ℕ). n == r) (eqb-true d.sem s p.1)

one-less : (s r : ℕ) (ds : List TaskDeed) → 1 ≤ length (freed_at s ds)
    → length (freed_at r ds) ≡ one_if (s == r) + length (freed_at r (without_one s ds))
one-less s r [] h = absurd (omega (arith, h))
one-less s r (d ∷ ds) h = by_case (frees_here s d) refl (one-less s r ds)
  where
    by_case : (b : Bool) → frees_here s d ≡ b
        → (1 ≤ length (freed_at s ds) → length (freed_at r ds) ≡ one_if (s == r) + length (freed_at r (without_one s ds)))
        → length (freed_at r (d ∷ ds)) ≡ one_if (s == r) + length (freed_at r (if b then ds else d ∷ without_one s ds))
    by_case true k f = freed-here r d ds ∙ ap (λ (b : Bool). one_if b + length (freed_at r ds)) (here-as s r d k)
    by_case false k f =
        let a = freed-here s d ds ∙ ap (λ (b : Bool). one_if b + length (freed_at s ds)) k in
        let i = f (omega (arith, a, h)) in
        let x = freed-here r d ds in
        let y = freed-here r d (without_one s ds) in
        omega (arith, i, x, y)

all-less : (s : ℕ) (ds : List TaskDeed) → 1 ≤ length (freed_at s ds) → length (freed ds) ≡ 1 + length (freed (without_one s ds))
all-less s [] h = absurd (omega (arith, h))
all-less s (d ∷ ds) h = by_case (frees_here s d) refl (all-less s ds)
  where
    by_case : (b : Bool) → frees_here s d ≡ b → (1 ≤ length (freed_at s ds) → length (freed ds) ≡ 1 + length (freed (without_one s ds)))
        → length (freed (d ∷ ds)) ≡ 1 + length (freed (if b then ds else d ∷ without_one s ds))
    by_case true k f = freed-more d ds ∙ ap (λ (b : Bool). one_if b + length (freed ds)) (both (is_freeing d.deed) (d.sem == s) k).0
    by_case false k f =
        let a = freed-here s d ds ∙ ap (λ (b : Bool). one_if b + length (freed_at s ds)) k in
        let i = f (omega (arith, a, h)) in
        let x = freed-more d ds in
        let y = freed-more d (without_one s ds) in
        omega (arith, i, x, y)

sem-more : (r : ℕ) (k : Claim) (ks : List Claim) → length (of_sem r (k ∷ ks)) ≡ one_if (k.sem == r) + length (of_sem r ks)
sem-more r k ks = by_sem (k.sem == r)
  where
    by_sem : (b : Bool) → length (if b then k ∷ of_sem r ks else of_sem r ks) ≡ one_if b + length (of_sem r ks)
    by_sem true = omega arith
    by_sem false = omega arith

-- claims of which those of each semaphore are at most the deeds that freed it are at most the deeds that freed any
pub claims-freed : (ks : List Claim) (ds : List TaskDeed) → ((s : ℕ) → length (of_sem s ks) ≤ length (freed_at s ds)) → length ks ≤ length (freed ds)
claims-freed [] ds h = omega arith
claims-freed (k ∷ ks) ds h =
    let some : 1 ≤ length (freed_at k.sem ds) =
    let a = sem-more k.sem k ks ∙ ap (λ (b : Bool). one_if b + length (of_sem k.sem ks)) (equal_self k.sem) in
    let b = h k.sem in omega (arith, a, b) in
    let i = claims-freed ks (without_one k.sem ds) (λ r.
    let a = sem-more r k ks in let b = h r in let c = one-less k.sem r ds some in omega (arith, a, b, c)) in
    let z = all-less k.sem ds some in
    omega (arith, i, z)
