-- The base keys that are told are those of the past.
use Rattle.std.proofs.Common.{◌≡◌, ◌∙◌, ◌<◌, ◌+◌, ℕ, Bool, true, false, List, ◌∷◌, length, refl, sym, ap, subst, arith}
use Rattle.std.specs.Prelude.{Option, None, Some, replicate, slice_index_or}
use Rattle.std.proofs.lemmas.List.{length-replicate}
use Rattle.rt_rules.specs.declared.Key.{Key}
use Rattle.rt_rules.specs.Numbers.{has, numbers_from}
use Rattle.rt_rules.proofs.BoolLaws.{both}
use Rattle.rt_rules.proofs.MemberLaws.{has-filter}
use Rattle.rt_rules.proofs.NumberLaws.{numbers_from-below}
use Rattle.rt_model.specs.BaseKeys.{base_key}
use Rattle.rt_model.specs.Group.{Group, tasks}
use Rattle.rt_changes.proofs.BaseKeys.{base_key-left}
use Rattle.group_sems.specs.Keeping.{BasesAreKept, BasesAreTold, rebased}
use Rattle.group_sems.proofs.Putting.{put-at, put-length, put-other, rebased-put}

-- a task of the group has a position
pub task-position : (g : Group) (t : ℕ) → has t (tasks g) ≡ true → t < length g.setup.tasks + 1
unfolding tasks
task-position g t h =
    let q : has t (numbers_from 1 (length g.setup.tasks)) ≡ true = (both _ _ (rw has-filter at h)).0 in
    let b = numbers_from-below t 1 (length g.setup.tasks) q in
    omega (arith, b)

rebased-at : (key : ℕ → Key) (us : List ℕ) (bases : List (Option Key)) (t : ℕ) → t < length bases → has t us ≡ true → slice_index_or (rebased key us bases) t None ≡ Some (key t)
rebased-at key us bases t low h = ap (λ (l : List (Option Key)). slice_index_or l t None) (rebased-put key us bases) ∙ put-at key us bases t low h

rebased-other : (key : ℕ → Key) (us : List ℕ) (bases : List (Option Key)) (t : ℕ) → has t us ≡ false → slice_index_or (rebased key us bases) t None ≡ slice_index_or bases t None
rebased-other key us bases t h = ap (λ (l : List (Option Key)). slice_index_or l t None) (rebased-put key us bases) ∙ put-other key us bases t h

rebased-length : (key : ℕ → Key) (us : List ℕ) (bases : List (Option Key)) → length (rebased key us bases) ≡ length bases
rebased-length key us bases = ap (λ (l : List (Option Key)). length l) (rebased-put key us bases) ∙ put-length key us bases

pub bases_are_told : BasesAreTold
bases_are_told g valid = record {
  room = rebased-length _ (tasks g) none ∙ none-room;
  are = λ t there. rebased-at _ (tasks g) none t (subst (λ (n : ℕ). t < n) (sym none-room) (task-position g t there)) there;
}
  where
    none : List (Option Key)
    none = replicate (length g.setup.tasks + 1) None

    none-room : length none ≡ length g.setup.tasks + 1
    none-room = length-replicate (length g.setup.tasks + 1) None

pub bases_are_kept : BasesAreKept
bases_are_kept g e past valid made us bases others k = record {
  room = rebased-length _ us bases ∙ k.room;
  are = λ t there. by_case t there (has t us) refl;
}
  where
    by_case : (t : ℕ) → has t (tasks g) ≡ true → (b : Bool) → has t us ≡ b → slice_index_or (rebased (λ u. base_key g u (e ∷ past)) us bases) t None ≡ Some (base_key g t (e ∷ past))
    by_case t there true h = rebased-at _ us bases t (subst (λ (n : ℕ). t < n) (sym k.room) (task-position g t there)) h
    by_case t there false h = rebased-other _ us bases t h ∙ k.are t there ∙ ap (λ (x : Key). Some x) (sym (base_key-left g t e past (others t h)))
