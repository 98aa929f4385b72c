-- The lines of a partition's entries, by the links that were found.
use Rattle.std.specs.Prelude.{ℕ, suc, List, [], ◌∷◌, ◌++◌, Option, codes, decimal, flat_map}
use Rattle.rt_task.specs.declared.Parts.{Parts}
use Rattle.split_rules.specs.PartLinks.{linked}
use Rattle.split_rules.specs.Partitions.{part_group}
use Rattle.split_rules.specs.declared.SplitEntry.{SplitEntry}
use Rattle.split_text.specs.SplitText.{known, line_of, link_words, part_lines, split_act_words}
use Rattle.trace_lines.specs.Grammar.{reply_words, target_word}
use Rattle.trace_lines.specs.Known.{Known}
use Rattle.trace_lines.specs.Words.{Word}

-- lines, one after the other
abbrev pub texts : List (List Word) → List ℕ
texts ls = flat_map line_of ls

module _ (k : Known) where
  -- an entry by its number, and the links before it and after it
  abbrev pub part_words : ℕ → SplitEntry → Option ℕ → Option ℕ → List Word
  part_words i e was now =
      decimal i ∷ decimal e.tick.0 ∷ (split_act_words k e.act ++ (reply_words k e.reply ++ link_words k was now))

  -- each entry, numbered from i on, where the links begin with the one before the first
  abbrev pub lines_with : ℕ → List (Option ℕ) → List SplitEntry → List (List Word)
  lines_with i (was ∷ now ∷ more) (e ∷ es) = part_words i e was now ∷ lines_with (suc i) (now ∷ more) es
  lines_with _ _ _ = []

-- the lines of a partition's history
abbrev pub part_block : Parts → ℕ → List SplitEntry → List (List Word)
part_block p q es =
    (codes "part" ∷ decimal q ∷ target_word (known p) (linked (part_group p q) q []) ∷ [])
    ∷ part_lines (known p) (part_group p q) q 0 [] es
