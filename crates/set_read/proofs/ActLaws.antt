-- The one argument of a word: a name or a number.
use Rattle.std.proofs.Common.{◌≡◌, ℕ, Bool, true, false, List, Some, refl, subst, sym}
use Rattle.std.specs.Prelude.{bytes_eq, codes, option_and_then, option_map}
use Rattle.std.proofs.lemmas.Slice.Eq.{bytes_eq-Decides}
use Rattle.rt_task.specs.declared.Act.TheVariants as acts
use Rattle.serde_json.specs.Data.{Data, null, boolean, number, string, array, object, unsigned, negative, float}
use Rattle.serde_json.specs.Find.{as_str, as_number, as_u64}
use Rattle.set_read.specs.Document.{Names, op_with, act_with}

pub is_name : (d : Data) (s : List ℕ) → Some s ≡ as_str d → d ≡ string s
is_name null s e = cc
is_name (boolean b) s e = cc
is_name (number n) s e = cc
is_name (string t) s e = cc
is_name (array ds) s e = cc
is_name (object ms) s e = cc

pub is_count : (d : Data) (n : ℕ) → Some n ≡ option_and_then as_u64 (as_number d) → d ≡ number (unsigned n)
is_count null n e = cc
is_count (boolean b) n e = cc
is_count (number (unsigned m)) n e = cc
is_count (number (negative z)) n e = cc
is_count (number (float x)) n e = cc
is_count (string t) n e = cc
is_count (array ds) n e = cc
is_count (object ms) n e = cc

-- with a number stand operations alone
pub counted_act : (names : Names) (w : List ℕ) (n : ℕ)
    → act_with names w (number (unsigned n)) ≡ option_map acts.Do (op_with names w (number (unsigned n)))
counted_act names w n = by_word (bytes_eq w (codes "arrive")) refl
  where
    by_word : (b : Bool) → bytes_eq w (codes "arrive") ≡ b
        → act_with names w (number (unsigned n)) ≡ option_map acts.Do (op_with names w (number (unsigned n)))
    by_word true e =
        subst (λ v. act_with names v (number (unsigned n)) ≡ option_map acts.Do (op_with names v (number (unsigned n)))) (sym ((bytes_eq-Decides w (codes "arrive")).0 e)) refl
    by_word false e = rw e refl
