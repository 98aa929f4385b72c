use Rattle.std.proofs.Common.{◌≡◌, ◌+◌, ◌∷◌, ◌++◌, [], refl, arith, append_assoc}
use Rattle.json.specs.Lex.{after_comma, after_value}
use Rattle.set_read.specs.Names.{names_seen}
use Rattle.set_read.specs.inside.Texts.{tokens_at}
use Rattle.set_read.specs.inside.Tokens.{item_depth, task_read, tasks_read}
use Rattle.set_read.proofs.PlainLaws.{one_last, one_more}
use Rattle.set_read.proofs.plain_tasks.tasks.Goals as goal

pub loop-number-preserved : goal.loop-number-preserved
loop-number-preserved c =
    let (place, begin, so_far) = c.loop-number.invariant in
    let s = c.in_ok-task in
    let names = names_seen c.args.names.now in
    let n = c.loop-number.number in
    let pushed : c.push.new.self.items ≡ c.loop-number.found.items ++ s.task ∷ [] = grind arith in (
      after_comma,
      refl,
      λ tasks rest says.
          rw (pushed, append_assoc)
          (so_far (s.task ∷ tasks) rest
          (one_more item_depth (task_read names n) (tasks_read names (n + 1)) (tasks_read names n)
          (λ d ds. refl) place c.loop-number.left.now s.rest.now c.in-Some.more.now s.task tasks rest begin s.ensures
          c.in-Some.ensures.lexed says)),
    )

pub returns-in-None : goal.returns-in-None
returns-in-None c =
    let (place, begin, so_far) = c.loop-number.invariant in
    let s = c.in_ok-task in
    let names = names_seen c.args.names.now in
    let n = c.loop-number.number in
    let last = c.in_ok-after-in-None in
    let pushed : c.push.new.self.items ≡ c.loop-number.found.items ++ s.task ∷ [] = grind arith in
    rw pushed
    (so_far (s.task ∷ []) (tokens_at after_value last.field-0.now)
    (one_last item_depth (task_read names n) (tasks_read names (n + 1)) (tasks_read names n)
    (λ d ds. refl) place c.loop-number.left.now s.rest.now
    last.field-0.now s.task refl begin s.ensures last.ensures.lexed))
