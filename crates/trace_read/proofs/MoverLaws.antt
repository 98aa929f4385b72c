-- The line of an entry says who takes its step.
use Rattle.std.proofs.Common.{◌≡◌, ℕ, ◌<◌, ◌^◌, ◌==◌, Bool, true, false, List, [], ◌∷◌, ◌++◌, map, Option, Some, decimal, refl, ap, ◌∙◌, arith}
use Rattle.std.specs.Prelude.{codes}
use Rattle.rt_task.specs.declared.Act.{Act}
use Rattle.rt_task.specs.declared.Act.TheVariants as acts
use Rattle.rt_task.specs.declared.Op.TheVariants as ops
use Rattle.rt_rules.specs.declared.history.Entry.{Entry}
use Rattle.trace_lines.specs.Words.{Word, join}
use Rattle.trace_lines.specs.Grammar.{act_words, link_word, line_text, line_words, reply_words}
use Rattle.trace_lines.specs.Known.{Known, IsEntryLine, IsLine}
use Rattle.trace_lines.specs.Lines.{Link, entry_line}
use Rattle.trace_read.specs.Movers.{begins_with, mover_in, mover_of, says_tick}
use Rattle.trace_read.specs.Reading.{front}
use Rattle.trace_read.specs.Seen.{Tells}
use Rattle.trace_read.specs.declared.mover.Mover.{Mover}
use Rattle.trace_read.proofs.LineLaws.{fits_64, line_body}
use Rattle.trace_read.proofs.ReadLaws.{front_is}
use Rattle.trace_read.proofs.WordLaws.{cut-join, decimal-plain, small_at-join}

-- the first letter of some words is that of the first
first-letter : (x : ℕ) (w : Word) (ws : List Word) → begins_with 116 (join 32 ((x ∷ w) ∷ ws)) ≡ (x == 116)
first-letter x w [] = refl
first-letter x w (v ∷ ws) = refl

-- of the acts a Tick alone begins with a t
tick-said : (k : Known) (act : Act) (ws : List Word) → begins_with 116 (join 32 (act_words k act ++ ws)) ≡ says_tick act
tick-said k acts.Tick ws = first-letter 116 (codes "ick") ws
tick-said k acts.Irq ws = first-letter 105 (codes "rq") ws
tick-said k (acts.Arrive t) ws = refl
tick-said k (acts.Do ops.Work) ws = first-letter 119 (codes "ork") ws
tick-said k (acts.Do (ops.Lock s)) ws = refl
tick-said k (acts.Do (ops.Unlock s)) ws = refl
tick-said k (acts.Do (ops.Sleep n)) ws = refl
tick-said k (acts.Do ops.NpOn) ws = first-letter 110 (codes "pon") ws
tick-said k (acts.Do ops.NpOff) ws = first-letter 110 (codes "poff") ws
tick-said k (acts.Do ops.End) ws = first-letter 101 (codes "nd") ws

said-body : (k : Known) (i : ℕ) (e : Entry) (links : List Link) → IsEntryLine k i e.step.tick.0 e.step.cpu.0 e.step.act e.reply links
    → mover_in (join 32 (decimal i ∷ decimal e.step.tick.0 ∷ decimal e.step.cpu.0 ∷ (act_words k e.step.act ++ (reply_words k e.reply ++ map (link_word k) links)))) ≡ Some (mover_of e.step)
said-body k i e links h =
    let ws : List Word = act_words k e.step.act ++ (reply_words k e.reply ++ map (link_word k) links) in
    let first = cut-join (decimal i) (decimal e.step.tick.0 ∷ decimal e.step.cpu.0 ∷ ws) (decimal-plain i (fits_64 i h.number)) in
    let second = cut-join (decimal e.step.tick.0) (decimal e.step.cpu.0 ∷ ws) (decimal-plain e.step.tick.0 h.tick_fits) in
    let third = small_at-join e.step.cpu.0 ws h.cpu_fits in
    rw (first, second, third) (ap (λ (b : Bool). Some (record { cpu = e.step.cpu; is_tick = b })) (tick-said k e.step.act (reply_words k e.reply ++ map (link_word k) links)))

pub mover-said : (k : Known) (i : ℕ) (e : Entry) (links : List Link) (text more : List ℕ) → Tells k → IsLine k (entry_line i e links) → text ≡ line_text k (entry_line i e links) ++ more
    → mover_in (front text) ≡ Some (mover_of e.step)
unfolding line_words
mover-said k i e links text more tell known is = ap mover_in (front_is k text more (entry_line i e links) tell known is) ∙ said-body k i e links known
