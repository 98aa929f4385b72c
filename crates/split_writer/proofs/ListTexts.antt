-- The lines of lists, of which a first part was written.
use Rattle.std.proofs.Common.{◌≡◌, ℕ, zero, suc, ◌+◌, ◌<◌, ◌≤◌, List, [], ◌∷◌, ◌++◌, length, drop, get_or, Option, None, refl, sym, ap, ◌∙◌, arith, append_assoc, append-nil}
use Rattle.std.proofs.Math.Seq.{drop-cons}
use Rattle.std.specs.Global.{Vec}
use Rattle.std.specs.Prelude.{flat_map, codes, decimal}
use Rattle.std.proofs.lemmas.List.{length-map}
use Rattle.std.proofs.lemmas.Grind.{flat_map-append}
use Rattle.rt_base.specs.TaskNos.{number_of_task, numbers_of_tasks}
use Rattle.rt_base.specs.declared.TaskNo.{TaskNo}
use Rattle.rt_task.specs.declared.Parts.{Parts}
use Rattle.rt_model.specs.Group.{Group}
use Rattle.split_rules.specs.PartHistories.{after, links_from}
use Rattle.split_rules.specs.PartLinks.{linked}
use Rattle.set_canonical.specs.Canonical.{canonical}
use Rattle.split_rules.specs.PartPast.{PartPast}
use Rattle.split_rules.specs.Partitions.{part_group}
use Rattle.split_rules.specs.declared.SemEntry.{SemEntry}
use Rattle.split_rules.specs.declared.SplitEntry.{SplitEntry}
use Rattle.split_text.specs.SplitText.{body_text, known, line_of, part_lines, parts_from, sem_act_words, sem_lines, sems_from, split_text}
use Rattle.split_writer.specs.PartPlays.{lists}
use Rattle.split_writer.specs.inside.Texts.{lines_with, part_block, part_words, texts}
use Rattle.trace_lines.specs.Grammar.{target_word, task_word}
use Rattle.trace_lines.specs.Known.{Known}
use Rattle.trace_lines.specs.Words.{Word}

drop_end : {A : Type 0} (xs : List A) (i : ℕ) → length xs ≤ i → drop i xs ≡ []
drop_end [] zero h = refl
drop_end [] (suc i) h = refl
drop_end (x ∷ xs) zero h = absurd (omega (arith, h))
drop_end (x ∷ xs) (suc i) h = drop_end xs i (omega (arith, h))

-- what came, with what is still to come, is the whole
pub come : (start out next : List ℕ) (line left whole : List ℕ) → out ++ (line ++ left) ≡ start ++ whole → next ≡ out ++ line → next ++ left ≡ start ++ whole
come start out next line left whole h e = ap (λ xs. xs ++ left) e ∙ append_assoc out line left ∙ h

pub all-come : (start out : List ℕ) (left whole : List ℕ) → out ++ left ≡ start ++ whole → left ≡ [] → out ≡ start ++ whole
all-come start out left whole h e = sym (ap (λ xs. out ++ xs) e ∙ append-nil out) ∙ h

-- ---- semaphores

abbrev pub sem_line : Known → ℕ → SemEntry → List Word
sem_line k i e = decimal i ∷ decimal e.cpu.0 ∷ task_word k e.task.0 ∷ sem_act_words k e.act

pub sem-next : (k : Known) (es : List SemEntry) (i : ℕ) (d : SemEntry) → i < length es
    → texts (sem_lines k i (drop i es)) ≡ line_of (sem_line k i (get_or es i d)) ++ texts (sem_lines k (i + 1) (drop (i + 1) es))
sem-next k es i d low = let next : i + 1 ≡ suc i = omega arith in rw (drop-cons es i d low, next) refl

pub sem-end : (k : Known) (es : List SemEntry) (i : ℕ) → length es ≤ i → texts (sem_lines k i (drop i es)) ≡ []
sem-end k es i h = rw (drop_end es i h) refl

pub sems-next : (p : Parts) (vs : List (Vec SemEntry)) (i : ℕ) (d : Vec SemEntry) → i < length vs
    → texts (sems_from p (i + 1) (lists (drop i vs)))
    ≡ line_of (codes "sem" ∷ decimal (i + 1) ∷ []) ++ (texts (sem_lines (known p) 0 (get_or vs i d).items) ++ texts (sems_from p (i + 1 + 1) (lists (drop (i + 1) vs))))
sems-next p vs i d low =
    let next : i + 1 ≡ suc i = omega arith in
    let more : suc i + 1 ≡ suc (suc i) = omega arith in
    rw (drop-cons vs i d low, next, more)
    (ap (λ xs. line_of (codes "sem" ∷ decimal (suc i) ∷ []) ++ xs)
    (flat_map-append line_of (sem_lines (known p) 0 (get_or vs i d).items) (sems_from p (suc (suc i)) (lists (drop (suc i) vs)))))

pub sems-end : (p : Parts) (vs : List (Vec SemEntry)) (i : ℕ) → length vs ≤ i → texts (sems_from p (i + 1) (lists (drop i vs))) ≡ []
sems-end p vs i h = rw (drop_end vs i h) refl

-- ---- partitions

pub entry-next : (k : Known) (ls : List (Option TaskNo)) (es : List SplitEntry) (i : ℕ) (d : SplitEntry) (o o' : Option TaskNo) → length ls ≡ suc (length es) → i < length es
    → texts (lines_with k i (numbers_of_tasks (drop i ls)) (drop i es))
    ≡ line_of (part_words k i (get_or es i d) (number_of_task (get_or ls i o)) (number_of_task (get_or ls (i + 1) o')))
    ++ texts (lines_with k (i + 1) (numbers_of_tasks (drop (i + 1) ls)) (drop (i + 1) es))
entry-next k ls es i d o o' long low =
    let next : i + 1 ≡ suc i = omega arith in
    rw (drop-cons es i d low, next, drop-cons ls i o (omega (arith, long, low)), drop-cons ls (suc i) o' (omega (arith, long, low))) refl

pub entry-end : (k : Known) (ls : List (Option TaskNo)) (es : List SplitEntry) (i : ℕ) → length es ≤ i → texts (lines_with k i (numbers_of_tasks (drop i ls)) (drop i es)) ≡ []
entry-end k ls es i h = rw (drop_end es i h) (by_links (numbers_of_tasks (drop i ls)))
  where
    by_links : (os : List (Option ℕ)) → texts (lines_with k i os []) ≡ []
    by_links [] = refl
    by_links (o ∷ []) = refl
    by_links (o ∷ o' ∷ os) = refl

-- the links of the definition are those that were found
pub part-lines : (k : Known) (g : Group) (q i : ℕ) (past : PartPast) (es : List SplitEntry)
    → lines_with k i (linked g q past ∷ links_from g q past es) es ≡ part_lines k g q i past es
unfolding part_lines links_from
part-lines k g q i past [] = refl
part-lines k g q i past (e ∷ es) = ap (λ xs. part_words k i e (linked g q past) (linked g q (after g q e past)) ∷ xs) (part-lines k g q (suc i) (after g q e past) es)

links-long : (g : Group) (q : ℕ) (past : PartPast) (es : List SplitEntry) → length (links_from g q past es) ≡ length es
unfolding links_from
links-long g q past [] = refl
links-long g q past (e ∷ es) = ap suc (links-long g q (after g q e past) es)

-- the lines of a partition, by the links that were found
module _ (p : Parts) (q : ℕ) (es : List SplitEntry) (ls : List (Option TaskNo)) (are : numbers_of_tasks ls ≡ linked (part_group p q) q [] ∷ links_from (part_group p q) q [] es) where
  pub links-all : length ls ≡ suc (length es)
  links-all = sym (length-map ls number_of_task) ∙ ap length are ∙ ap suc (links-long (part_group p q) q [] es)

  first-link : (o : Option TaskNo) → number_of_task (get_or ls 0 o) ≡ linked (part_group p q) q []
  first-link o = by_list ls are
    where
      head : List (Option ℕ) → Option ℕ
      head [] = None
      head (x ∷ xs) = x

      by_list : (xs : List (Option TaskNo)) → numbers_of_tasks xs ≡ linked (part_group p q) q [] ∷ links_from (part_group p q) q [] es → number_of_task (get_or xs 0 o) ≡ linked (part_group p q) q []
      by_list [] h = cc
      by_list (x ∷ xs) h = ap head h

  pub part-whole : (o : Option TaskNo)
      → line_of (codes "part" ∷ decimal q ∷ target_word (known p) (number_of_task (get_or ls 0 o)) ∷ []) ++ texts (lines_with (known p) 0 (numbers_of_tasks ls) es)
      ≡ texts (part_block p q es)
  part-whole o =
      ap (λ x. line_of (codes "part" ∷ decimal q ∷ target_word (known p) x ∷ []) ++ texts (lines_with (known p) 0 (numbers_of_tasks ls) es)) (first-link o)
      ∙ ap (λ xs. line_of (codes "part" ∷ decimal q ∷ target_word (known p) (linked (part_group p q) q []) ∷ []) ++ texts xs)
      (ap (λ xs. lines_with (known p) 0 xs es) are ∙ part-lines (known p) (part_group p q) q 0 [] es)

pub parts-next : (p : Parts) (vs : List (Vec SplitEntry)) (i : ℕ) (d : Vec SplitEntry) → i < length vs
    → texts (parts_from p i (lists (drop i vs))) ≡ texts (part_block p i (get_or vs i d).items) ++ texts (parts_from p (i + 1) (lists (drop (i + 1) vs)))
unfolding parts_from
parts-next p vs i d low =
    let next : i + 1 ≡ suc i = omega arith in
    rw (drop-cons vs i d low, next) (flat_map-append line_of (part_block p i (get_or vs i d).items) (parts_from p (suc i) (lists (drop (suc i) vs))))

pub parts-end : (p : Parts) (vs : List (Vec SplitEntry)) (i : ℕ) → length vs ≤ i → texts (parts_from p i (lists (drop i vs))) ≡ []
unfolding parts_from
parts-end p vs i h = rw (drop_end vs i h) refl

-- ---- the whole text

pub text-whole : (p : Parts) (books : List (List SemEntry)) (parts : List (List SplitEntry))
    → ((codes "rtsched split 1\nset " ++ (canonical p ++ 10 ∷ [])) ++ texts (sems_from p 1 books)) ++ (texts (parts_from p 0 parts) ++ codes "end\n") ≡ split_text p books parts
unfolding split_text body_text
text-whole p books parts =
    append_assoc (codes "rtsched split 1\nset " ++ (canonical p ++ 10 ∷ [])) (texts (sems_from p 1 books)) (texts (parts_from p 0 parts) ++ codes "end\n")
    ∙ ap (λ xs. (codes "rtsched split 1\nset " ++ (canonical p ++ 10 ∷ [])) ++ xs)
    (ap (λ xs. texts (sems_from p 1 books) ++ xs) (sym (flat_map-append line_of (parts_from p 0 parts) ((codes "end" ∷ []) ∷ []))) ∙ sym (flat_map-append line_of (sems_from p 1 books) (parts_from p 0 parts ++ (codes "end" ∷ []) ∷ [])))
    ∙ ap (λ xs. codes "rtsched split 1\nset " ++ xs) (append_assoc (canonical p) (10 ∷ []) (flat_map line_of (sems_from p 1 books ++ (parts_from p 0 parts ++ (codes "end" ∷ []) ∷ []))))
