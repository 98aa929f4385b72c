use Rattle.std.proofs.Common.{◌≡◌, [], ◌∷◌, ◌++◌, length, ap, ◌∙◌, arith}
use Rattle.split_rules.specs.declared.SemAct.TheVariants as acts
use Rattle.split_inbox.specs.Books.{BookOf, entry}
use Rattle.split_tests.proofs.GrantLaws.{made}
use Rattle.split_tests.proofs.inbox.grant_of.Goals as goal

pub new-requires-2 : goal.new-requires-2
new-requires-2 g c =
    let t = c.take-book.ensures in
    let many : length c.take-book.result.entries ≡ 2 =
    (let l = c.in-len2.len_at_least in let m = c.in-len2.len_below in let e = ap length c.entries.ensures.entries in omega (arith, l, m, e)) in
    let b = c.take-book.result in
    let freed = c.release-next.ensures.entry
    ∙ ap (λ o. let x : BookOf = record b { entries = b.entries ++ entry (record { 0 = 0 }) (record { 0 = 1 }) (acts.Release o) ∷ [] } in x) c.in_ok-_task.ensures in
    made g.N.Names.turns c.args.turn.now c.args.seat.now c.take-book.new.seat c.give.new.seat c.in_ok-seen.seen c.take-book.result c.release-next.new.self
    c.requires.turn c.requires.names t.seat c.give.ensures c.in_ok-seen.ensures.copy many freed t.subject c.entries-history.ensures.kept
