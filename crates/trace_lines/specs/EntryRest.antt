-- The line of an entry from its processor on.
use Rattle.std.specs.Prelude.{ℕ, List, [], ◌∷◌, ◌++◌, map, decimal}
use Rattle.rt_rules.specs.declared.history.Entry.{Entry}
use Rattle.trace_lines.specs.Words.{Word, further}
use Rattle.trace_lines.specs.Lines.{Link}
use Rattle.trace_lines.specs.Known.{Known}
use Rattle.trace_lines.specs.Grammar.{act_words, reply_words, link_word}

module _ (k : Known) (e : Entry) (links : List Link) where
  -- the words after the tick
  abbrev pub words_after_tick : List Word
  words_after_tick = decimal e.step.cpu.0 ∷ (act_words k e.step.act ++ (reply_words k e.reply ++ map (link_word k) links))

  -- their text, a space before each, and the line feed
  unfoldable pub text_after_tick : List ℕ
  text_after_tick = further 32 words_after_tick ++ 10 ∷ []
