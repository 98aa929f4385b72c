use Rattle.std.proofs.Common.{◌≡◌, ◌∷◌, ◌++◌, [], refl, arith, append_assoc}
use Rattle.json.specs.Lex.{after_comma, after_value}
use Rattle.set_read.specs.Document.{step_form}
use Rattle.set_read.specs.Forms.{every}
use Rattle.set_read.specs.Names.{names_seen}
use Rattle.set_read.specs.inside.Texts.{tokens_at}
use Rattle.set_read.specs.inside.Tokens.{item_depth}
use Rattle.set_read.proofs.PlainLaws.{one_last, one_more}
use Rattle.set_read.proofs.plain_steps.steps.Goals as goal

pub loop-found-preserved : goal.loop-found-preserved
loop-found-preserved c =
    let (place, begin, so_far) = c.loop-found.invariant in
    let s = c.in_ok-step in
    let names = names_seen c.args.names.now in
    let pushed : c.push.new.self.items ≡ c.loop-found.found.items ++ s.step ∷ [] = grind arith in (
      after_comma,
      refl,
      λ steps rest says.
          rw (pushed, append_assoc)
          (so_far (s.step ∷ steps) rest
          (one_more item_depth (step_form names) (every (step_form names)) (every (step_form names))
          (λ d ds. refl) place c.loop-found.left.now s.rest.now c.in-Some.more.now s.step steps rest begin s.ensures.says
          c.in-Some.ensures.lexed says)),
    )

pub returns-in-None : goal.returns-in-None
returns-in-None c =
    let (place, begin, so_far) = c.loop-found.invariant in
    let s = c.in_ok-step in
    let names = names_seen c.args.names.now in
    let last = c.in_ok-after-in-None in
    let pushed : c.push.new.self.items ≡ c.loop-found.found.items ++ s.step ∷ [] = grind arith in
    rw pushed
    (so_far (s.step ∷ []) (tokens_at after_value last.field-0.now)
    (one_last item_depth (step_form names) (every (step_form names)) (every (step_form names))
    (λ d ds. refl) place c.loop-found.left.now s.rest.now
    last.field-0.now s.step refl begin s.ensures.says last.ensures.lexed))
