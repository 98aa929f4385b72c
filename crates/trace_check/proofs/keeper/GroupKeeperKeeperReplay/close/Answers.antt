use Rattle.std.proofs.Common.{◌≡◌, ℕ, ◌+◌, List, [], ◌∷◌, ◌++◌, length, rules, ap, ◌∙◌, sym, arith}
use Rattle.rt_plays.specs.Groups.{GroupHistory}
use Rattle.trace_laws.specs.PlayedGroups.{full_group}
use Rattle.trace_laws.proofs.PlayedGroups.{groups-more}
use Rattle.trace_check.proofs.keeper.GroupKeeperKeeperReplay.close.Goals as goal

pub returns : goal.returns
returns c = λ hs es kept count played.
    let p = c.args.setup.now in
    let n : ℕ = c.args.group.0 in
    let before = c.args.self.now.groups.items in
    let last : c.in_ok-played.played ≡ full_group p n c.args.self.now.entries.items = search rules in
    let pushed : c.push.new.self.items ≡ before ++ c.in_ok-played.played ∷ [] = search rules in
    let number : n ≡ 0 + length hs = omega (arith, count) in (
      pushed ∙ ap (λ (x : GroupHistory). before ++ x ∷ []) (last ∙ ap (full_group p n) kept.1 ∙ ap (λ (m : ℕ). full_group p m es) number)
          ∙ ap (λ (xs : List GroupHistory). xs ++ full_group p (0 + length hs) es ∷ []) kept.0 ∙ sym (groups-more p 0 hs es),
      search rules,
    )
