use Rattle.std.proofs.Common.{refl, arith}
use Rattle.std.specs.Prelude.{codes}
use Rattle.json.specs.Print.{escape_byte}
use Rattle.set_read.proofs.FirstLaws.{has_split, word_first}
use Rattle.set_read.proofs.plain_bodies.bare.Goals as goal

pub returns-in-110-clause-word : goal.returns-in-110-clause-word
unfolding escape_byte
returns-in-110-clause-word c =
    let xs = c.args.bytes.now in
    (codes "npon", word_first (codes "npon") _ xs (has_split (codes "npon\"") xs 0 (omega arith) (omega arith)) refl, refl)

pub returns-in-110-bytes-clause-word : goal.returns-in-110-bytes-clause-word
unfolding escape_byte
returns-in-110-bytes-clause-word c =
    let xs = c.args.bytes.now in
    (codes "npoff", word_first (codes "npoff") _ xs (has_split (codes "npoff\"") xs 0 (omega arith) (omega arith)) refl, refl)

pub returns-in-101-clause-word : goal.returns-in-101-clause-word
unfolding escape_byte
returns-in-101-clause-word c =
    let xs = c.args.bytes.now in
    (codes "end", word_first (codes "end") _ xs (has_split (codes "end\"") xs 0 (omega arith) (omega arith)) refl, refl)
