use Rattle.std.proofs.Common.{◌+◌, ◌-◌, length, take, drop, get_or, arith}
use Rattle.std.proofs.lemmas.List.{take_more}
use Rattle.set_read.proofs.FirstLaws.{place_split, plain_push, word_first}
use Rattle.set_read.proofs.lexemes.unquoted.Goals as goal

pub returns-in-34-clause-lexed : goal.returns-in-34-clause-lexed
returns-in-34-clause-lexed c =
    let xs = c.args.bytes.now in
    let i = c.loop-i.i in
    word_first (take i xs) (take (length xs - (i + 1)) (drop (i + 1) xs)) xs
    (place_split 34 i xs c.loop-i-test.true c.in-34.is) c.loop-i.invariant

pub loop-i-preserved : goal.loop-i-preserved
loop-i-preserved c =
    let xs = c.args.bytes.now in
    let i = c.loop-i.i in
    let x = get_or xs i 0 in
    plain_push (take i xs) (take (i + 1) xs) x (take_more xs i 0 c.loop-i-test.true) c.loop-i.invariant (λ e. omega arith)
    (λ e. omega arith) c.if-low-lt32.false
