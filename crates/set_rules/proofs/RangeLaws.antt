-- Laws of the rules.
use Rattle.std.proofs.Common.{◌≡◌, ℕ, ◌+◌, max, List, [], ◌∷◌, ◌++◌, nat_le, ◌==◌, if◌then◌else◌, refl, arith}
use Rattle.rt_task.specs.declared.draft.DraftCluster.{DraftCluster}
use Rattle.rt_task.specs.RangeRules.{group_follows, groups_top}
use Rattle.rt_task.specs.RuleWords.{is_empty}

pub group_follows_top : (earlier : List DraftCluster) (g : ℕ) → group_follows earlier g ≡ (if is_empty earlier then g == 0 else nat_le g (groups_top earlier + 1))
group_follows_top [] g = refl
group_follows_top (k ∷ ks) g = refl

pub groups_top-push : (ks : List DraftCluster) (c : DraftCluster) → groups_top (ks ++ c ∷ []) ≡ max (groups_top ks) c.group
groups_top-push [] c = omega arith
groups_top-push (k ∷ ks) c = let e = groups_top-push ks c in omega (arith, e)

pub ruleset top_laws = groups_top-push
