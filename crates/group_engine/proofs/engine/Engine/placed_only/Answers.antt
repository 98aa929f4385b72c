use Rattle.std.proofs.Common.{◌≡◌, ◌≢◌, ℕ, ◌∷◌, ◌++◌, [], sym, ◌∙◌, subst}
use Rattle.std.specs.Prelude.{IfSome, None, Option, Some}
use Rattle.rt_base.specs.declared.ClusterNo.{ClusterNo}
use Rattle.rt_rules.specs.declared.history.Entry.{Entry}
use Rattle.rt_model.specs.Group.{cluster_with}
use Rattle.rt_model.specs.Links.{linked}
use Rattle.rt_plays.specs.Groups.{GroupHistory, group_of, past, with_entry}
use Rattle.rt_plays.specs.Homes.{IsProcessorOf}
use Rattle.cluster_table.specs.Marks.{only_one}
use Rattle.group_engine.specs.Links.{AreMarked}
use Rattle.group_engine.proofs.LinksKept.{linked-apart}
use Rattle.group_engine.proofs.engine.Engine.placed_only.Goals as goal

pub returns : goal.returns
returns c = λ h e same. by_only h e same c.only.result c.only.ensures
  where
    by_only : (h : GroupHistory) (e : Entry) → c.args.self.now ≡ with_entry e h → (o : Option ClusterNo) → o ≡ only_one c.self.inside.placed
        → IfSome o (λ k. (q : ℕ) → IsProcessorOf (group_of h) q → cluster_with (group_of h) q ≢ k.0 → linked (group_of h) q (past c.args.self.now) ≡ linked (group_of h) q (past h))
    by_only h e same None is = tt
    by_only h e same (Some k) is = λ q of apart.
        let marked : AreMarked (group_of h) (h.entries ++ e ∷ []) c.self.inside.placed =
        subst (λ (v : GroupHistory). AreMarked (group_of v) v.entries c.self.inside.placed) (c.self.view_is ∙ same) c.self.invariant.placed_are in
        rw same (linked-apart (group_of h) h.entries e c.self.inside.placed k marked (sym is) q of apart)
