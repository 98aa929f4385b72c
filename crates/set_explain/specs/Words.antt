-- The rules in words that several members have.
use Rattle.std.specs.Prelude.{ℕ, List, codes}

abbrev pub a_number : List ℕ
a_number = codes "a whole number"

abbrev pub a_text : List ℕ
a_text = codes "a text in quotes"

abbrev pub an_array : List ℕ
an_array = codes "an array"

abbrev pub true_or_false : List ℕ
true_or_false = codes "true or false"

abbrev pub a_span : List ℕ
a_span = codes "from 1 to 999999999999 ticks"

abbrev pub a_prio : List ℕ
a_prio = codes "from 1, the highest, to 511"

abbrev pub a_cluster : List ℕ
a_cluster = codes "the number of a cluster; the first is 0"

abbrev pub a_name : List ℕ
a_name = codes "1 to 32 letters, digits, _ and -"

abbrev pub a_new_name : List ℕ
a_new_name = codes "no element before has this name"

abbrev pub declared_sems : List ℕ
declared_sems = codes "each semaphore that it names is declared in sems"

abbrev pub at_most_64 : List ℕ
at_most_64 = codes "at most 64"
