use Rattle.std.proofs.Common.{◌∷◌, ◌++◌, [], sym, ◌∙◌, subst}
use Rattle.rt_plays.specs.Groups.{GroupHistory, group_of}
use Rattle.group_engine.specs.Links.{AreMarked}
use Rattle.group_engine.proofs.LinksKept.{linked-none}
use Rattle.group_engine.proofs.engine.Engine.has_placed.Goals as goal

pub returns : goal.returns
returns c = λ h e same out q of.
    let marked : AreMarked (group_of h) (h.entries ++ e ∷ []) c.self.inside.placed =
    subst (λ (v : GroupHistory). AreMarked (group_of v) v.entries c.self.inside.placed) (c.self.view_is ∙ same) c.self.invariant.placed_are in
    rw same (linked-none (group_of h) h.entries e c.self.inside.placed marked (sym c.has_any.ensures ∙ out) q of)
