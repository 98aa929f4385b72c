use Rattle.std.proofs.Common.{◌≡◌, ◌-◌, length, take, drop, get_or, true, refl, sym, ap, ◌∙◌, arith}
use Rattle.json.specs.Lex.{between, lex}
use Rattle.json.specs.Word.{ends_word, is_space}
use Rattle.set_read.proofs.FirstLaws.{blank_ends, blank_first, first_split}
use Rattle.set_read.proofs.lexemes.after_blanks.Goals as goal

pub loop-left-preserved : goal.loop-left-preserved
loop-left-preserved c =
    let l = c.loop-left in
    let xs = l.left.now in
    let x = get_or xs 0 0 in
    let rest = take (length xs - 1) (drop 1 xs) in
    let blank : is_space x ≡ true = sym c.is_blank.ensures ∙ c.if-not-is_blank.false in
    let split = first_split x xs c.in-len1-up.len_at_least refl in
    let ended : ends_word xs ≡ true = ap ends_word split ∙ blank_ends x rest blank in
    record {
      lexed = sym (blank_first x rest blank) ∙ ap (lex between) (sym split) ∙ l.invariant.lexed;
      ends = λ e. l.invariant.ends ended;
      shorter = omega (arith, ap length split, l.invariant.shorter);
    }
