-- Legal histories: each reply is the answer in the past that the entries before it made.
use Rattle.std.specs.Prelude.{◌≡◌, ℕ, suc, Bool, not, ◌&&◌, ◌||◌, List, [], ◌∷◌, map, Option, if◌then◌else◌, filter, ⊤}
use Rattle.rt_task.specs.declared.Step.{Step}
use Rattle.rt_rules.specs.declared.history.Reply.{Reply}
use Rattle.rt_rules.specs.declared.history.Entry.{Entry}
use Rattle.rt_rules.specs.Numbers.{same, has}
use Rattle.rt_rules.specs.Placing.{tasks_in}
use Rattle.rt_model.specs.Answers.{answer}
use Rattle.rt_model.specs.Group.{Group, group_processors}
use Rattle.rt_model.specs.Links.{pending, linked, links}
use Rattle.rt_model.specs.Outcomes.{past_act}
use Rattle.rt_model.specs.Past.{Clock, Acted, Past}
use Rattle.rt_model.specs.Tops.{top}

abbrev pub clock_moved : Step → Past → Past
clock_moved step past = Clock step.tick.0 ∷ past

module _ (g : Group) where
  -- the reply to a step, and the past after it
  unfoldable pub reply_to : Step → Past → Reply
  reply_to step past = answer g step.cpu.0 step.act (clock_moved step past)

  unfoldable pub after : Step → Past → Past
  after step past = Acted (past_act g step.cpu.0 step.act (clock_moved step past)) ∷ clock_moved step past

  -- the past that the entries make, from the oldest on
  unfoldable pub past_from : Past → List Entry → Past
  past_from past [] = past
  past_from past (e ∷ es) = past_from (after e.step past) es

  unfoldable pub past_of : List Entry → Past
  past_of es = past_from [] es

  abbrev pub IsLegalFrom : Past → List Entry → Type 0
  IsLegalFrom past [] = ⊤
  IsLegalFrom past (e ∷ es) = (e.reply ≡ reply_to e.step past) × IsLegalFrom (after e.step past) es

  abbrev pub IsLegal : List Entry → Type 0
  IsLegal es = IsLegalFrom [] es

  unfoldable pub past_by : Past → List Step → Past
  past_by past [] = past
  past_by past (step ∷ steps) = past_by (after step past) steps

  -- the processors whose link is another than it was
  unfoldable pub changed : Past → Past → List ℕ
  changed was now = filter (λ q. not (same (linked g q was) (linked g q now))) (group_processors g)

  -- the reply to each step in order, with the links that the step changed
  unfoldable pub played : Past → List Step → List (Reply × List (ℕ × Option ℕ))
  played past [] = []
  played past (step ∷ steps) =
      let next = after step past in
      (reply_to step past, map (λ q. (q, linked g q next)) (changed past next)) ∷ played next steps

  -- how many entries left a new interrupt pending at a processor
  unfoldable pub is_raise : ℕ → Past → Past → Bool
  is_raise q now before = pending g q now && (not (pending g q before) || not (same (linked g q before) (linked g q now)))

  unfoldable pub raises_from : ℕ → Past → List Entry → ℕ
  raises_from q past [] = 0
  raises_from q past (e ∷ es) =
      let next = after e.step past in
      if is_raise q next past then suc (raises_from q next es) else raises_from q next es

  unfoldable pub raises : ℕ → List Entry → ℕ
  raises q es = raises_from q [] es

-- after each history the linked tasks of a cluster are exactly those of its top: a law of the definitions
abbrev pub LinksAreTheTop : Type 0
LinksAreTheTop =
    (g : Group) (es : List Entry) (c t : ℕ) → has t (tasks_in (links g c (past_of g es))) ≡ has t (top g c (past_of g es))
