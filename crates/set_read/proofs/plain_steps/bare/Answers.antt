use Rattle.std.proofs.Common.{refl, arith}
use Rattle.std.specs.Prelude.{codes}
use Rattle.json.specs.Print.{escape_byte}
use Rattle.set_read.proofs.FirstLaws.{has_split, word_first}
use Rattle.set_read.proofs.plain_steps.bare.Goals as goal

pub returns-in-119-clause-word : goal.returns-in-119-clause-word
unfolding escape_byte
returns-in-119-clause-word c =
    let xs = c.args.bytes.now in
    (codes "work", word_first (codes "work") _ xs (has_split (codes "work\"") xs 0 (omega arith) (omega arith)) refl, refl)

pub returns-in-105-clause-word : goal.returns-in-105-clause-word
unfolding escape_byte
returns-in-105-clause-word c =
    let xs = c.args.bytes.now in
    (codes "irq", word_first (codes "irq") _ xs (has_split (codes "irq\"") xs 0 (omega arith) (omega arith)) refl, refl)

pub returns-in-101-clause-word : goal.returns-in-101-clause-word
unfolding escape_byte
returns-in-101-clause-word c =
    let xs = c.args.bytes.now in
    (codes "end", word_first (codes "end") _ xs (has_split (codes "end\"") xs 0 (omega arith) (omega arith)) refl, refl)

pub returns-in-116-clause-word : goal.returns-in-116-clause-word
unfolding escape_byte
returns-in-116-clause-word c =
    let xs = c.args.bytes.now in
    (codes "tick", word_first (codes "tick") _ xs (has_split (codes "tick\"") xs 0 (omega arith) (omega arith)) refl, refl)

pub returns-in-110-clause-word : goal.returns-in-110-clause-word
unfolding escape_byte
returns-in-110-clause-word c =
    let xs = c.args.bytes.now in
    (codes "npon", word_first (codes "npon") _ xs (has_split (codes "npon\"") xs 0 (omega arith) (omega arith)) refl, refl)

pub returns-in-110-bytes-clause-word : goal.returns-in-110-bytes-clause-word
unfolding escape_byte
returns-in-110-bytes-clause-word c =
    let xs = c.args.bytes.now in
    (codes "npoff", word_first (codes "npoff") _ xs (has_split (codes "npoff\"") xs 0 (omega arith) (omega arith)) refl, refl)
