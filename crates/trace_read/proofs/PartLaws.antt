-- The parts of a line come back out of its text.
use Rattle.std.proofs.Common.{◌≡◌, ℕ, ◌<◌, ◌≤◌, ◌^◌, ◌==◌, ◌||◌, ◌⊎◌, inl, inr, Bool, true, false, List, [], ◌∷◌, ◌++◌, map, All, codes, Option, Some, None, decimal, refl, ap, arith, length, length-append}
use Rattle.std.proofs.lemmas.Bool.Decides.{nat_tests}
use Rattle.std.proofs.lemmas.List.Elements.{All-head, All-tail}
use Rattle.std.proofs.lemmas.Fmt.{decimal_nonempty}
use Rattle.std.specs.List.{list_all}
use Rattle.std.specs.Prelude.{bytes_eq, nat_le}
use Rattle.std.proofs.lemmas.Bool.{and_parts, eqb-true, leb-true}
use Rattle.rt_task.specs.RuleWords.{is_name, is_name_byte, within}
use Rattle.rt_task.specs.declared.Op.TheVariants as ops
use Rattle.rt_task.specs.declared.Act.{Act}
use Rattle.rt_task.specs.declared.Act.TheVariants as acts
use Rattle.rt_rules.specs.declared.history.Reply.{Reply}
use Rattle.rt_rules.specs.declared.history.Reply.TheVariants as replies
use Rattle.set_read.specs.Forms.{word_in}
use Rattle.trace_lines.specs.declared.format.Version.{Version}
use Rattle.trace_lines.specs.declared.format.Version.TheVariants.{One, Two}
use Rattle.trace_lines.specs.Words.{Word, join}
use Rattle.trace_lines.specs.Lines.{Link}
use Rattle.trace_lines.specs.Grammar as grammar
use Rattle.trace_lines.specs.Grammar.{task_word, target_word, act_words, reply_words, number_word, link_word}
use Rattle.trace_lines.specs.Known.{Known, IsNumberOf, name_at, Is64, ActIsKnown, ReplyIsKnown, TargetIsKnown, BoundIsKnown, LinkIsKnown}
use Rattle.trace_read.specs.Seen.{Tells}
use Rattle.trace_read.specs.Reading.{each_in, number_in, small_or_dash, task_by, task_in, target_in, task_at, bare_acts, act_with, act_at, bare_replies, reply_at, link_in, links_in, totals_in}
use Rattle.trace_read.proofs.WordLaws.{is_plain_byte, is_plain, AllPlain, AllFilled, is_plain-append, no_word, cut-first, cut-join, pieces-join, IsNoDigit, decimal-free, decimal-plain, number_in-decimal, small_in-decimal, when_32-same, number_at-join}

fits_64 : (n : ℕ) → n < 2 ^ 32 → n < 2 ^ 64
fits_64 n h = omega arith

dash : IsNoDigit 45
dash = record { differs = λ d h. grind (arith, nat_tests) }

colon : IsNoDigit 58
colon = record { differs = λ d h. grind (arith, nat_tests) }

-- ---- tasks

either : (a b : Bool) → a || b ≡ true → (a ≡ true) ⊎ (b ≡ true)
either true b h = inl refl
either false b h = inr h

within-plain : (low high b : ℕ) → 33 ≤ low → high ≤ 127 → within low high b ≡ true → is_plain_byte b ≡ true
within-plain low high b above below h =
    let parts = and_parts (nat_le low b) (nat_le b high) h in
    let least : 32 < b = omega (arith, leb-true low b parts.0) in
    let most : b < 128 = omega (arith, leb-true b high parts.1) in
    grind (arith, nat_tests)

same-plain : (c b : ℕ) → 33 ≤ c → c ≤ 127 → b == c ≡ true → is_plain_byte b ≡ true
same-plain c b above below h =
    let same : b ≡ c = eqb-true b c h in
    let least : 32 < b = omega arith in
    let most : b < 128 = omega arith in
    grind (arith, nat_tests)

-- a letter or digit of ASCII, `_` or `-`
name_byte-plain : (b : ℕ) → is_name_byte b ≡ true → is_plain_byte b ≡ true
name_byte-plain b h =
    elim (either (within 48 57 b) _ h) [
      | inl digit ↦ within-plain 48 57 b (omega arith) (omega arith) digit
      | inr letters ↦ elim (either (within 65 90 b) _ letters) [
        | inl capital ↦ within-plain 65 90 b (omega arith) (omega arith) capital
        | inr others ↦ elim (either (within 97 122 b) _ others) [
          | inl small ↦ within-plain 97 122 b (omega arith) (omega arith) small
          | inr marks ↦ elim (either (b == 95) (b == 45) marks) [
            | inl low ↦ same-plain 95 b (omega arith) (omega arith) low
            | inr dash_is ↦ same-plain 45 b (omega arith) (omega arith) dash_is
          ]
        ]
      ]
    ]

bytes-plain : (w : Word) → list_all is_name_byte w ≡ true → is_plain w ≡ true
bytes-plain [] h = refl
bytes-plain (b ∷ w) h =
    let parts = and_parts (is_name_byte b) (list_all is_name_byte w) h in
    rw (name_byte-plain b parts.0) (bytes-plain w parts.1)

-- a name has no space and no line feed
pub name-plain : (w : Word) → is_name w ≡ true → is_plain w ≡ true
name-plain w h = bytes-plain w (and_parts _ _ h).1

task-plain : (k : Known) (t : ℕ) (v : Version) → Tells k → IsNumberOf (length k.names) t → is_plain (grammar.task_in v k.names t) ≡ true
task-plain k t One tell h = decimal-plain t (fits_64 t h.fits)
task-plain k t Two tell h = name-plain (name_at k.names t) (tell.is_named t h)

pub task_word-plain : (k : Known) (t : ℕ) → Tells k → IsNumberOf (length k.names) t → is_plain (task_word k t) ≡ true
task_word-plain k t tell h = task-plain k t k.version tell h

task_by-word : (k : Known) (t : ℕ) (v : Version) → Tells k → IsNumberOf (length k.names) t → task_by v k.names (grammar.task_in v k.names t) ≡ Some t
task_by-word k t One tell h = small_in-decimal t h.fits
task_by-word k t Two tell h = ap Some (tell.is_found t h)

-- a task is found by its number, and by its name
task_in-word : (k : Known) (t : ℕ) → Tells k → IsNumberOf (length k.names) t → task_in k (task_word k t) ≡ Some t
task_in-word k t tell h = task_by-word k t k.version tell h

no_dash : (names : List Word) (t : ℕ) (v : Version) → t < 2 ^ 64 → bytes_eq (grammar.task_in v names t) (codes "-") ≡ false
no_dash names t One low = no_word 45 (decimal t) [] (decimal-free 45 t dash low)
no_dash names t Two low = refl

target_in-word : (k : Known) (o : Option ℕ) → Tells k → TargetIsKnown k o → target_in k (target_word k o) ≡ Some o
target_in-word k None tell h = refl
target_in-word k (Some t) tell h = rw (no_dash k.names t k.version (fits_64 t h.fits), task_in-word k t tell h) refl

target-plain : (k : Known) (o : Option ℕ) → Tells k → TargetIsKnown k o → is_plain (target_word k o) ≡ true
target-plain k None tell h = refl
target-plain k (Some t) tell h = task_word-plain k t tell h

pub task_at-join : (k : Known) (t : ℕ) (ws : List Word) → Tells k → IsNumberOf (length k.names) t → task_at k (join 32 (task_word k t ∷ ws)) ≡ Some (t, join 32 ws)
task_at-join k t ws tell h = rw (cut-join (task_word k t) ws (task_word-plain k t tell h), task_in-word k t tell h) refl

-- ---- acts

arrive-join : (k : Known) (w : Word) (t : ℕ) (ws : List Word) → is_plain w ≡ true → word_in bare_acts w ≡ None → bytes_eq w (codes "arrive") ≡ true → Tells k → IsNumberOf (length k.names) t
    → act_at k (join 32 (w ∷ task_word k t ∷ ws)) ≡ Some (acts.Arrive (record { 0 = t }), join 32 ws)
arrive-join k w t ws plain none is tell h = rw (cut-join w (task_word k t ∷ ws) plain, none, is, task_at-join k t ws tell h) refl

bare_act-join : (k : Known) (w : Word) (a : Act) (ws : List Word) → is_plain w ≡ true → word_in bare_acts w ≡ Some a → act_at k (join 32 (w ∷ ws)) ≡ Some (a, join 32 ws)
bare_act-join k w a ws plain is = rw (cut-join w ws plain, is) refl

act_with-join : (k : Known) (w : Word) (n : ℕ) (a : Act) (ws : List Word) → is_plain w ≡ true → word_in bare_acts w ≡ None → bytes_eq w (codes "arrive") ≡ false → n < 2 ^ 64 → act_with w n ≡ Some a
    → act_at k (join 32 (w ∷ decimal n ∷ ws)) ≡ Some (a, join 32 ws)
act_with-join k w n a ws plain none other fits is = rw (cut-join w (decimal n ∷ ws) plain, none, other, number_at-join n ws fits, is) refl

pub act_at-join : (k : Known) (a : Act) (ws : List Word) → Tells k → ActIsKnown k a → act_at k (join 32 (act_words k a ++ ws)) ≡ Some (a, join 32 ws)
act_at-join k acts.Tick ws tell h = bare_act-join k (codes "tick") acts.Tick ws refl refl
act_at-join k acts.Irq ws tell h = bare_act-join k (codes "irq") acts.Irq ws refl refl
act_at-join k (acts.Arrive t) ws tell h = arrive-join k (codes "arrive") t.0 ws refl refl refl tell h
act_at-join k (acts.Do ops.Work) ws tell h = bare_act-join k (codes "work") (acts.Do ops.Work) ws refl refl
act_at-join k (acts.Do (ops.Lock s)) ws tell h = act_with-join k (codes "lock") s.0 (acts.Do (ops.Lock s)) ws refl refl refl (fits_64 s.0 h.fits) (rw (when_32-same s.0 h.fits) refl)
act_at-join k (acts.Do (ops.Unlock s)) ws tell h = act_with-join k (codes "unlock") s.0 (acts.Do (ops.Unlock s)) ws refl refl refl (fits_64 s.0 h.fits) (rw (when_32-same s.0 h.fits) refl)
act_at-join k (acts.Do (ops.Sleep n)) ws tell h = act_with-join k (codes "sleep") n (acts.Do (ops.Sleep n)) ws refl refl refl h refl
act_at-join k (acts.Do ops.NpOn) ws tell h = bare_act-join k (codes "npon") (acts.Do ops.NpOn) ws refl refl
act_at-join k (acts.Do ops.NpOff) ws tell h = bare_act-join k (codes "npoff") (acts.Do ops.NpOff) ws refl refl
act_at-join k (acts.Do ops.End) ws tell h = bare_act-join k (codes "end") (acts.Do ops.End) ws refl refl

pub act-plain : (k : Known) (a : Act) → Tells k → ActIsKnown k a → AllPlain (act_words k a)
act-plain k acts.Tick tell h = (refl, tt)
act-plain k acts.Irq tell h = (refl, tt)
act-plain k (acts.Arrive t) tell h = (refl, (task_word-plain k t.0 tell h, tt))
act-plain k (acts.Do ops.Work) tell h = (refl, tt)
act-plain k (acts.Do (ops.Lock s)) tell h = (refl, (decimal-plain s.0 (fits_64 s.0 h.fits), tt))
act-plain k (acts.Do (ops.Unlock s)) tell h = (refl, (decimal-plain s.0 (fits_64 s.0 h.fits), tt))
act-plain k (acts.Do (ops.Sleep n)) tell h = (refl, (decimal-plain n h, tt))
act-plain k (acts.Do ops.NpOn) tell h = (refl, tt)
act-plain k (acts.Do ops.NpOff) tell h = (refl, tt)
act-plain k (acts.Do ops.End) tell h = (refl, tt)

-- ---- replies

bare_reply-join : (k : Known) (w : Word) (r : Reply) (ws : List Word) → is_plain w ≡ true → word_in bare_replies w ≡ Some r → reply_at k (join 32 (w ∷ ws)) ≡ Some (r, join 32 ws)
bare_reply-join k w r ws plain is = rw (cut-join w ws plain, is) refl

runs-join : (k : Known) (w : Word) (t : ℕ) (ws : List Word) → is_plain w ≡ true → word_in bare_replies w ≡ None → bytes_eq w (codes "runs") ≡ true → Tells k → IsNumberOf (length k.names) t
    → reply_at k (join 32 (w ∷ task_word k t ∷ ws)) ≡ Some (replies.Runs (record { 0 = t }), join 32 ws)
runs-join k w t ws plain none is tell h = rw (cut-join w (task_word k t ∷ ws) plain, none, is, task_at-join k t ws tell h) refl

pub reply_at-join : (k : Known) (r : Reply) (ws : List Word) → Tells k → ReplyIsKnown k r → reply_at k (join 32 (reply_words k r ++ ws)) ≡ Some (r, join 32 ws)
reply_at-join k (replies.Runs t) ws tell h = runs-join k (codes "runs") t.0 ws refl refl refl tell h
reply_at-join k replies.Done ws tell h = bare_reply-join k (codes "done") replies.Done ws refl refl
reply_at-join k replies.Idles ws tell h = bare_reply-join k (codes "idles") replies.Idles ws refl refl
reply_at-join k replies.Granted ws tell h = bare_reply-join k (codes "granted") replies.Granted ws refl refl
reply_at-join k replies.Queued ws tell h = bare_reply-join k (codes "queued") replies.Queued ws refl refl
reply_at-join k replies.Quiet ws tell h = bare_reply-join k (codes "quiet") replies.Quiet ws refl refl
reply_at-join k replies.Deferred ws tell h = bare_reply-join k (codes "deferred") replies.Deferred ws refl refl
reply_at-join k replies.Idle ws tell h = bare_reply-join k (codes "idle") replies.Idle ws refl refl
reply_at-join k replies.Spent ws tell h = bare_reply-join k (codes "spent") replies.Spent ws refl refl
reply_at-join k replies.NoBudget ws tell h = bare_reply-join k (codes "nobudget") replies.NoBudget ws refl refl
reply_at-join k replies.NotDeclared ws tell h = bare_reply-join k (codes "notdeclared") replies.NotDeclared ws refl refl
reply_at-join k replies.Nested ws tell h = bare_reply-join k (codes "nested") replies.Nested ws refl refl
reply_at-join k replies.NotHeld ws tell h = bare_reply-join k (codes "notheld") replies.NotHeld ws refl refl
reply_at-join k replies.NotLast ws tell h = bare_reply-join k (codes "notlast") replies.NotLast ws refl refl
reply_at-join k replies.Holding ws tell h = bare_reply-join k (codes "holding") replies.Holding ws refl refl
reply_at-join k replies.InNp ws tell h = bare_reply-join k (codes "innp") replies.InNp ws refl refl
reply_at-join k replies.NotInNp ws tell h = bare_reply-join k (codes "notinnp") replies.NotInNp ws refl refl
reply_at-join k replies.TooEarly ws tell h = bare_reply-join k (codes "tooearly") replies.TooEarly ws refl refl
reply_at-join k replies.NotSporadic ws tell h = bare_reply-join k (codes "notsporadic") replies.NotSporadic ws refl refl

pub reply-plain : (k : Known) (r : Reply) → Tells k → ReplyIsKnown k r → AllPlain (reply_words k r)
reply-plain k (replies.Runs t) tell h = (refl, (task_word-plain k t.0 tell h, tt))
reply-plain k replies.Done tell h = (refl, tt)
reply-plain k replies.Idles tell h = (refl, tt)
reply-plain k replies.Granted tell h = (refl, tt)
reply-plain k replies.Queued tell h = (refl, tt)
reply-plain k replies.Quiet tell h = (refl, tt)
reply-plain k replies.Deferred tell h = (refl, tt)
reply-plain k replies.Idle tell h = (refl, tt)
reply-plain k replies.Spent tell h = (refl, tt)
reply-plain k replies.NoBudget tell h = (refl, tt)
reply-plain k replies.NotDeclared tell h = (refl, tt)
reply-plain k replies.Nested tell h = (refl, tt)
reply-plain k replies.NotHeld tell h = (refl, tt)
reply-plain k replies.NotLast tell h = (refl, tt)
reply-plain k replies.Holding tell h = (refl, tt)
reply-plain k replies.InNp tell h = (refl, tt)
reply-plain k replies.NotInNp tell h = (refl, tt)
reply-plain k replies.TooEarly tell h = (refl, tt)
reply-plain k replies.NotSporadic tell h = (refl, tt)

-- ---- numbers and dashes

pub small_or_dash-word : (o : Option ℕ) → BoundIsKnown o → small_or_dash (number_word o) ≡ Some o
small_or_dash-word None h = refl
small_or_dash-word (Some n) h = rw (no_word 45 (decimal n) [] (decimal-free 45 n dash (fits_64 n h)), small_in-decimal n h) refl

pub number_word-plain : (o : Option ℕ) → BoundIsKnown o → is_plain (number_word o) ≡ true
number_word-plain None h = refl
number_word-plain (Some n) h = decimal-plain n (fits_64 n h)

-- ---- links

link_in-word : (k : Known) (x : Link) → Tells k → LinkIsKnown k x → link_in k (link_word k x) ≡ Some x
link_in-word k x tell h =
    let halves = cut-first 58 (decimal x.0) (target_word k x.1) (decimal-free 58 x.0 colon (fits_64 x.0 h.0)) in
    let cpu = small_in-decimal x.0 h.0 in
    let task = target_in-word k x.1 tell h.1 in
    rw (halves, cpu, task) refl

link-plain : (k : Known) (x : Link) → Tells k → LinkIsKnown k x → is_plain (link_word k x) ≡ true
link-plain k x tell h = is_plain-append (decimal x.0) (58 ∷ target_word k x.1) (decimal-plain x.0 (fits_64 x.0 h.0)) (target-plain k x.1 tell h.1)

link_filled : (k : Known) (x : Link) → LinkIsKnown k x → 0 < length (link_word k x)
link_filled k x h = omega (arith, length-append (decimal x.0) (58 ∷ target_word k x.1))

pub links-plain : (k : Known) (xs : List Link) → Tells k → All (LinkIsKnown k) xs → AllPlain (map (link_word k) xs)
links-plain k [] tell h = tt
links-plain k (x ∷ xs) tell h = (link-plain k x tell (All-head (LinkIsKnown k) x xs h), links-plain k xs tell (All-tail (LinkIsKnown k) x xs h))

links_filled : (k : Known) (xs : List Link) → All (LinkIsKnown k) xs → AllFilled (map (link_word k) xs)
links_filled k [] h = tt
links_filled k (x ∷ xs) h = (link_filled k x (All-head (LinkIsKnown k) x xs h), links_filled k xs (All-tail (LinkIsKnown k) x xs h))

each_link : (k : Known) (xs : List Link) → Tells k → All (LinkIsKnown k) xs → each_in (link_in k) (map (link_word k) xs) ≡ Some xs
each_link k [] tell h = refl
each_link k (x ∷ xs) tell h = rw (link_in-word k x tell (All-head (LinkIsKnown k) x xs h), each_link k xs tell (All-tail (LinkIsKnown k) x xs h)) refl

pub links_in-join : (k : Known) (xs : List Link) → Tells k → All (LinkIsKnown k) xs → links_in k (join 32 (map (link_word k) xs)) ≡ Some xs
links_in-join k xs tell h = rw (pieces-join (map (link_word k) xs) (links-plain k xs tell h) (links_filled k xs h)) (each_link k xs tell h)

-- ---- totals

pub totals-plain : (xs : List ℕ) → All Is64 xs → AllPlain (map decimal xs)
totals-plain [] h = tt
totals-plain (x ∷ xs) h = (decimal-plain x (All-head Is64 x xs h), totals-plain xs (All-tail Is64 x xs h))

totals_filled : (xs : List ℕ) → All Is64 xs → AllFilled (map decimal xs)
totals_filled [] h = tt
totals_filled (x ∷ xs) h = (decimal_nonempty x (All-head Is64 x xs h), totals_filled xs (All-tail Is64 x xs h))

each_total : (xs : List ℕ) → All Is64 xs → each_in number_in (map decimal xs) ≡ Some xs
each_total [] h = refl
each_total (x ∷ xs) h = rw (number_in-decimal x (All-head Is64 x xs h), each_total xs (All-tail Is64 x xs h)) refl

pub totals_in-join : (xs : List ℕ) → All Is64 xs → totals_in (join 32 (map decimal xs)) ≡ Some xs
totals_in-join xs h = rw (pieces-join (map decimal xs) (totals-plain xs h) (totals_filled xs h)) (each_total xs h)
