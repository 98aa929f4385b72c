-- The text of a valid set's histories is read back, and no other histories have it, whatever stands behind it.
use Rattle.std.proofs.Common.{◌≡◌, ◌≢◌, ℕ, ◌+◌, List, [], ◌∷◌, ◌++◌, map, All, Option, None, Ok, Err, codes, length, refl, sym, ap, subst, ◌∙◌, arith, append_assoc, append-nil, length-append, inl, inr, ◌⊎◌}
use Rattle.std.specs.Prelude.{flat_map}
use Rattle.std.proofs.lemmas.List.Concat.{flat_map-append}
use Rattle.std.proofs.lemmas.List.Elements.{All-append, All-head, All-tail}
use Rattle.rt_task.specs.declared.bad_set.BadSet.{BadSet}
use Rattle.rt_task.specs.declared.Parts.{Parts}
use Rattle.rt_task.specs.Validity.{IsValid}
use Rattle.rt_rules.specs.declared.history.Entry.{Entry}
use Rattle.rt_model.specs.Group.{Group, group_processors}
use Rattle.rt_model.specs.Past.{Past}
use Rattle.rt_model.specs.Histories.{after, changed, past_of}
use Rattle.rt_model.specs.Blocking.{requests}
use Rattle.rt_plays.specs.Plays.{ArePlays, group_with}
use Rattle.set_canonical.specs.Canonical.{canonical}
use Rattle.set_read.specs.Sets.{set}
use Rattle.set_laws.proofs.CanonicalLaws.{set-of-canonical}
use Rattle.trace_lines.specs.declared.format.Version.{Version}
use Rattle.trace_lines.specs.FirstLine.{first_line}
use Rattle.trace_lines.specs.Grammar.{line_text}
use Rattle.trace_lines.specs.Known.{Known, known_of, IsLine}
use Rattle.trace_lines.specs.Lines.{Line, group_line, entry_line, block_line, end_line, count_line}
use Rattle.trace_tools.specs.Tools.{Tool}
use Rattle.trace_text.specs.TraceText.{lines_from, trace_text, entry_lines, block_lines, group_lines, links_at}
use Rattle.trace_text.specs.CountLines.{count_lines}
use Rattle.trace_read.specs.Reads.{HasHead, AreLines, IsRefused, IsTraceOf, stop_at}
use Rattle.trace_read.specs.declared.fault.TraceFault.{TraceFault}
use Rattle.trace_read.specs.declared.fault.TraceFault.TheVariants as faults
use Rattle.trace_read.specs.Seen.{Tells}
use Rattle.trace_read.proofs.FitLaws.{All-parts}
use Rattle.trace_read.proofs.LineLaws.{line_body, line_text-ends, line-unique, lines-unique}
use Rattle.trace_read.proofs.TellLaws.{valid-tells}
use Rattle.trace_laws.specs.ValidTexts.{IsTextOf}
use Rattle.trace_laws.specs.TraceLaws.{ArePlayed, CountedTraceIsRead, TraceIsRead, TraceIsNotRefused, TracesTellApart, VersionsTellApart}
use Rattle.trace_laws.proofs.OneLine.{canonical-one_line}
use Rattle.trace_laws.proofs.Heads.{head-unique, lines_of, longer-begins, longer-head, trace-head, version-unique}
use Rattle.trace_laws.proofs.KnownLines.{known-lines}

-- ---- the lines

no_text : (k : Known) (l : Line) (more : List ℕ) → [] ≢ line_text k l ++ more
no_text k l more e =
    omega (arith, ap length e, length-append (line_text k l) more, ap length (line_text-ends k l), length-append (line_body k l) (10 ∷ []))

-- known lines and nothing after them
pub are-lines : (k : Known) (ls : List Line) → All (IsLine k) ls → AreLines k (flat_map (line_text k) ls) ls []
are-lines k ls known = record { lines_known = known; text_is = sym (append-nil (flat_map (line_text k) ls)); none_further = λ l more is e. no_text k l more e }

pub all_known : (v : Version) (p : Parts) (hs : List (List Entry)) → ArePlayed p hs → All (IsLine (known_of v p)) (lines_from p 0 hs)
all_known v p hs played = known-lines v p played.valid hs played.plays

-- a text of histories has their lines, and more behind them where tools counted
pub text-begins : (tools : List Tool) (v : Version) (p : Parts) (hs : List (List Entry)) (text : List ℕ) → IsTextOf tools v p hs text → (more : List ℕ) × (text ≡ trace_text v p hs ++ more)
text-begins tools v p hs text (inl is) = ([], is ∙ sym (append-nil (trace_text v p hs)))
text-begins tools v p hs text (inr is) = (flat_map (line_text (known_of v p)) (count_lines tools p hs), is)

-- ---- it is read

same_set : (s t : List ℕ) (p q : Parts) → s ≡ t → set s ≡ Ok q → set t ≡ Ok p → q ≡ p
same_set s t p q same g h = cc

lines_read : (k : Known) (rest left : List ℕ) (lines ls : List Line) (stop : Option ℕ) → Tells k → All (IsLine k) ls → rest ≡ flat_map (line_text k) ls → AreLines k rest lines left → stop ≡ stop_at lines left → (lines ≡ ls) × (stop ≡ None)
lines_read k rest left lines ls stop tell known same are stop_is =
    let both = lines-unique k rest lines ls left [] tell are (subst (λ (t : List ℕ). AreLines k t ls []) (sym same) (are-lines k ls known)) in
    (both.0, stop_is ∙ ap (stop_at lines) both.1)

pub trace-is-read : TraceIsRead
trace-is-read v w p q hs lines stop played t =
    let valid = played.valid in
    let heads = head-unique w v (trace_text v p hs) t.set_text t.rest (canonical p) (lines_of v p hs) t.head (trace-head v p hs (canonical-one_line p valid)) in
    let same : q ≡ p = same_set t.set_text (canonical p) p q heads.set_text t.set_is (set-of-canonical p valid) in
    let read = lines_read (known_of v p) t.rest t.left lines (lines_from p 0 hs) stop (valid-tells v p valid) (all_known v p hs played) heads.rest
    (subst (λ (u : Version). AreLines (known_of u p) t.rest lines t.left) heads.version (subst (λ (x : Parts). AreLines (known_of w x) t.rest lines t.left) same t.lines_are)) t.stop_is in
    (heads.version, same, read.0, read.1)

pub counted-trace-is-read : CountedTraceIsRead
counted-trace-is-read tools v w p q hs lines stop played counts t =
    let valid = played.valid in
    let k : Known = known_of v p in
    let ls : List Line = lines_from p 0 hs ++ count_lines tools p hs in
    let known : All (IsLine k) ls = All-append (IsLine k) (lines_from p 0 hs) (count_lines tools p hs) (all_known v p hs played) counts in
    let more : List ℕ = flat_map (line_text k) (count_lines tools p hs) in
    let text : List ℕ = trace_text v p hs ++ more in
    let heads = head-unique w v text t.set_text t.rest (canonical p) (lines_of v p hs ++ more) t.head (longer-head v p hs more text refl (canonical-one_line p valid)) in
    let same : q ≡ p = same_set t.set_text (canonical p) p q heads.set_text t.set_is (set-of-canonical p valid) in
    let read = lines_read k t.rest t.left lines ls stop (valid-tells v p valid) known (heads.rest ∙ sym (flat_map-append (line_text k) (lines_from p 0 hs) (count_lines tools p hs)))
    (subst (λ (u : Version). AreLines (known_of u p) t.rest lines t.left) heads.version (subst (λ (x : Parts). AreLines (known_of w x) t.rest lines t.left) same t.lines_are)) t.stop_is in
    (heads.version, same, read.0, read.1)

-- ---- it is not refused

no_bad_set : (s t : List ℕ) (p : Parts) (b : BadSet) → s ≡ t → set s ≡ Err b → set t ≡ Ok p → ⊥
no_bad_set s t p b same g h = let both = sym g ∙ ap set same ∙ h in cc

-- the text has a head in the format of its first line
head_at : (v w : Version) (p : Parts) (hs : List (List Entry)) (more text rest : List ℕ) → IsValid p → text ≡ trace_text v p hs ++ more → text ≡ first_line w ++ rest → HasHead w text (canonical p) (lines_of v p hs ++ more)
head_at v w p hs more text rest valid is begins =
    let same : v ≡ w = version-unique v w (codes "set " ++ (canonical p ++ 10 ∷ (lines_of v p hs ++ more))) rest (sym (longer-begins v p hs more text is) ∙ begins) in
    subst (λ (u : Version). HasHead u text (canonical p) (lines_of v p hs ++ more)) same (longer-head v p hs more text is (canonical-one_line p valid))

not_refused : (v : Version) (p : Parts) (hs : List (List Entry)) (more text : List ℕ) (fault : TraceFault) → ArePlayed p hs → text ≡ trace_text v p hs ++ more → IsRefused text fault → fault ≡ faults.NoMemory
not_refused v p hs more text (faults.NotTrace n) played is (inl h) = absurd (h.1 v _ (longer-begins v p hs more text is))
not_refused v p hs more text (faults.NotTrace n) played is (inr h) =
    absurd (h.1.no_set (canonical p) (lines_of v p hs ++ more) (head_at v h.1.version p hs more text h.1.rest played.valid is h.1.begins))
not_refused v p hs more text (faults.BadSet b) played is h =
    let heads = head-unique h.version v text h.set_text h.rest (canonical p) (lines_of v p hs ++ more) h.head (longer-head v p hs more text is (canonical-one_line p played.valid)) in
    absurd (no_bad_set h.set_text (canonical p) p b heads.set_text h.refused (set-of-canonical p played.valid))
not_refused v p hs more text faults.NoMemory played is h = refl

pub trace-is-not-refused : TraceIsNotRefused
trace-is-not-refused tools v p hs text fault played is refused =
    let begins = text-begins tools v p hs text is in
    not_refused v p hs begins.0 text fault played begins.1 refused

-- ---- lines hold their histories

-- the entries of these lines, up to the next line of a group
abbrev pub entries_first : List Line → List Entry
entries_first [] = []
entries_first (group_line g links ∷ ls) = []
entries_first (entry_line i e links ∷ ls) = e ∷ entries_first ls
entries_first (block_line i t s ends all bound ∷ ls) = entries_first ls
entries_first (end_line ∷ ls) = entries_first ls
entries_first (count_line name totals ∷ ls) = entries_first ls

-- those of each group
abbrev pub histories_said : List Line → List (List Entry)
histories_said [] = []
histories_said (group_line g links ∷ ls) = entries_first ls ∷ histories_said ls
histories_said (entry_line i e links ∷ ls) = histories_said ls
histories_said (block_line i t s ends all bound ∷ ls) = histories_said ls
histories_said (end_line ∷ ls) = histories_said ls
histories_said (count_line name totals ∷ ls) = histories_said ls

pub first-entries : (g : Group) (i : ℕ) (past : Past) (es : List Entry) (ls : List Line) → entries_first (entry_lines g i past es ++ ls) ≡ es ++ entries_first ls
unfolding entry_lines
first-entries g i past [] ls = refl
first-entries g i past (e ∷ es) ls = ap (λ (xs : List Entry). e ∷ xs) (first-entries g (i + 1) (after g e.step past) es ls)

pub said-entries : (g : Group) (i : ℕ) (past : Past) (es : List Entry) (ls : List Line) → histories_said (entry_lines g i past es ++ ls) ≡ histories_said ls
unfolding entry_lines
said-entries g i past [] ls = refl
said-entries g i past (e ∷ es) ls = said-entries g (i + 1) (after g e.step past) es ls

-- lines that say nothing of entries
passed_over : {A B : Type 0} (f : A → Line) (said : List Line → B) → ((x : A) (ls : List Line) → said (f x ∷ ls) ≡ said ls) → (xs : List A) (ls : List Line) → said (map f xs ++ ls) ≡ said ls
passed_over f said h [] ls = refl
passed_over f said h (x ∷ xs) ls = h x (map f xs ++ ls) ∙ passed_over f said h xs ls

first-blocks : (g : Group) (past : Past) (ls : List Line) → entries_first (block_lines g past ++ ls) ≡ entries_first ls
unfolding block_lines
first-blocks g past ls = passed_over _ entries_first (λ r ms. refl) (requests past) ls

said-blocks : (g : Group) (past : Past) (ls : List Line) → histories_said (block_lines g past ++ ls) ≡ histories_said ls
unfolding block_lines
said-blocks g past ls = passed_over _ histories_said (λ r ms. refl) (requests past) ls

pub said-group : (g : Group) (es : List Entry) (ls : List Line) → histories_said (group_lines g es ++ ls) ≡ (es ++ entries_first ls) ∷ histories_said ls
unfolding group_lines
said-group g es ls =
    let blocks : List Line = block_lines g (past_of g es) in
    let apart : (entry_lines g 0 [] es ++ blocks) ++ ls ≡ entry_lines g 0 [] es ++ (blocks ++ ls) = append_assoc (entry_lines g 0 [] es) blocks ls in
    let first : entries_first ((entry_lines g 0 [] es ++ blocks) ++ ls) ≡ es ++ entries_first ls =
    ap entries_first apart ∙ first-entries g 0 [] es (blocks ++ ls) ∙ ap (λ (xs : List Entry). es ++ xs) (first-blocks g (past_of g es) ls) in
    let later : histories_said ((entry_lines g 0 [] es ++ blocks) ++ ls) ≡ histories_said ls = ap histories_said apart ∙ said-entries g 0 [] es (blocks ++ ls) ∙ said-blocks g (past_of g es) ls in
    rw (first, later) refl

-- the lines of further groups, and the line `end`, say no further entry
first-lines : (p : Parts) (n : ℕ) (hs : List (List Entry)) → entries_first (lines_from p n hs) ≡ []
unfolding group_lines
first-lines p n [] = refl
first-lines p n (es ∷ hs) = refl

pub said-lines : (p : Parts) (n : ℕ) (hs : List (List Entry)) → histories_said (lines_from p n hs) ≡ hs
said-lines p n [] = refl
said-lines p n (es ∷ hs) =
    said-group (group_with p n) es (lines_from p (n + 1) hs)
    ∙ rw (first-lines p (n + 1) hs, append-nil es, said-lines p (n + 1) hs) refl

-- ---- one of two lists of lines begins the other where their texts do

-- the one list has more lines, and they stand in the text behind those of the other
pub record HasMore (k : Known) (ls vs : List Line) (x y : List ℕ) : Type 0 where
  pub more : List Line
  pub lines_are : vs ≡ ls ++ more
  pub rest_is : x ≡ flat_map (line_text k) more ++ y

more-cons : (k : Known) (l v : Line) (ls vs : List Line) (x y : List ℕ) → l ≡ v → HasMore k ls vs x y → HasMore k (l ∷ ls) (v ∷ vs) x y
more-cons k l v ls vs x y same h = record { more = h.more; lines_are = rw (same, h.lines_are) refl; rest_is = h.rest_is }

pub lines-begin : (k : Known) (ls vs : List Line) (x y : List ℕ) → Tells k → All (IsLine k) ls → All (IsLine k) vs → flat_map (line_text k) ls ++ x ≡ flat_map (line_text k) vs ++ y → HasMore k ls vs x y ⊎ HasMore k vs ls y x
lines-begin k [] vs x y tell g h e = inl (record { more = vs; lines_are = refl; rest_is = e })
lines-begin k (l ∷ ls) [] x y tell g h e = inr (record { more = l ∷ ls; lines_are = refl; rest_is = sym e })
lines-begin k (l ∷ ls) (v ∷ vs) x y tell g h e =
    let first = line-unique k l v (flat_map (line_text k) ls ++ x) (flat_map (line_text k) vs ++ y) tell (All-head (IsLine k) l ls g) (All-head (IsLine k) v vs h)
    (sym (append_assoc (line_text k l) (flat_map (line_text k) ls) x) ∙ e ∙ append_assoc (line_text k v) (flat_map (line_text k) vs) y) in
    elim (lines-begin k ls vs x y tell (All-tail (IsLine k) l ls g) (All-tail (IsLine k) v vs h) first.1) [
      | inl m ↦ inl (more-cons k l v ls vs x y first.0 m)
      | inr m ↦ inr (more-cons k v l vs ls y x (sym first.0) m)
    ]

-- ---- lines of plays begin those of no others

-- the lines up to the first `end`
abbrev through_end : List Line → List Line
through_end [] = []
through_end (group_line g links ∷ ls) = group_line g links ∷ through_end ls
through_end (entry_line i e links ∷ ls) = entry_line i e links ∷ through_end ls
through_end (block_line i t s ends all bound ∷ ls) = block_line i t s ends all bound ∷ through_end ls
through_end (end_line ∷ ls) = end_line ∷ []
through_end (count_line name totals ∷ ls) = count_line name totals ∷ through_end ls

through-entries : (g : Group) (i : ℕ) (past : Past) (es : List Entry) (ls : List Line) → through_end (entry_lines g i past es ++ ls) ≡ entry_lines g i past es ++ through_end ls
unfolding entry_lines
through-entries g i past [] ls = refl
through-entries g i past (e ∷ es) ls =
    let now : Past = after g e.step past in
    ap (λ (xs : List Line). entry_line i e (links_at g now (changed g past now)) ∷ xs) (through-entries g (i + 1) now es ls)

through-each : {A : Type 0} (f : A → Line) → ((x : A) (ls : List Line) → through_end (f x ∷ ls) ≡ f x ∷ through_end ls) → (xs : List A) (ls : List Line) → through_end (map f xs ++ ls) ≡ map f xs ++ through_end ls
through-each f h [] ls = refl
through-each f h (x ∷ xs) ls = h x (map f xs ++ ls) ∙ ap (λ (ms : List Line). f x ∷ ms) (through-each f h xs ls)

through-blocks : (g : Group) (past : Past) (ls : List Line) → through_end (block_lines g past ++ ls) ≡ block_lines g past ++ through_end ls
unfolding block_lines
through-blocks g past ls = through-each _ (λ r ms. refl) (requests past) ls

through-group : (g : Group) (es : List Entry) (ls : List Line) → through_end (group_lines g es ++ ls) ≡ group_lines g es ++ through_end ls
unfolding group_lines
through-group g es ls =
    let entries : List Line = entry_lines g 0 [] es in
    let blocks : List Line = block_lines g (past_of g es) in
    ap (λ (ms : List Line). group_line g.number (links_at g [] (group_processors g)) ∷ ms)
    (ap through_end (append_assoc entries blocks ls) ∙ through-entries g 0 [] es (blocks ++ ls) ∙ ap (λ (ms : List Line). entries ++ ms) (through-blocks g (past_of g es) ls)
    ∙ sym (append_assoc entries blocks (through_end ls)))

through-lines : (p : Parts) (n : ℕ) (hs : List (List Entry)) (more : List Line) → through_end (lines_from p n hs ++ more) ≡ lines_from p n hs
through-lines p n [] more = refl
through-lines p n (es ∷ hs) more =
    let g : Group = group_with p n in
    ap through_end (append_assoc (group_lines g es) (lines_from p (n + 1) hs) more) ∙ through-group g es (lines_from p (n + 1) hs ++ more)
    ∙ ap (λ (ls : List Line). group_lines g es ++ ls) (through-lines p (n + 1) hs more)

pub begin-same : (p : Parts) (hs hs' : List (List Entry)) (more : List Line) → lines_from p 0 hs' ≡ lines_from p 0 hs ++ more → hs ≡ hs'
begin-same p hs hs' more e =
    let lines : lines_from p 0 hs ≡ lines_from p 0 hs' =
    sym (through-lines p 0 hs more) ∙ ap through_end (sym e ∙ sym (append-nil (lines_from p 0 hs'))) ∙ through-lines p 0 hs' [] in
    sym (said-lines p 0 hs) ∙ ap histories_said lines ∙ said-lines p 0 hs'

-- ---- different histories have different texts

rests-apart : (v : Version) (p : Parts) (hs hs' : List (List Entry)) (x y : List ℕ) → IsValid p → ArePlays p hs → ArePlays p hs' → lines_of v p hs ++ x ≡ lines_of v p hs' ++ y → hs ≡ hs'
rests-apart v p hs hs' x y valid plays plays' e =
    elim (lines-begin (known_of v p) (lines_from p 0 hs) (lines_from p 0 hs') x y (valid-tells v p valid) (known-lines v p valid hs plays) (known-lines v p valid hs' plays') e) [
      | inl m ↦ begin-same p hs hs' m.more m.lines_are
      | inr m ↦ sym (begin-same p hs' hs m.more m.lines_are)
    ]

-- whatever stands behind them
pub texts-apart : (v : Version) (p : Parts) (hs hs' : List (List Entry)) (x y text : List ℕ) → IsValid p → ArePlays p hs → ArePlays p hs' → text ≡ trace_text v p hs ++ x → text ≡ trace_text v p hs' ++ y → hs ≡ hs'
texts-apart v p hs hs' x y text valid plays plays' e f =
    let one = canonical-one_line p valid in
    let heads = head-unique v v text (canonical p) (lines_of v p hs ++ x) (canonical p) (lines_of v p hs' ++ y) (longer-head v p hs x text e one) (longer-head v p hs' y text f one) in
    rests-apart v p hs hs' x y valid plays plays' heads.rest

pub traces-tell-apart : TracesTellApart
traces-tell-apart tools others v p hs hs' text played played' is is' =
    let begins = text-begins tools v p hs text is in
    let begins' = text-begins others v p hs' text is' in
    texts-apart v p hs hs' begins.0 begins'.0 text played.valid played.plays played'.plays begins.1 begins'.1

-- ---- what is read begins with the lines of the plays, whatever stands behind them

pub record IsReadFirst (v w : Version) (p q : Parts) (hs : List (List Entry)) (lines : List Line) : Type 0 where
  pub version : w ≡ v
  pub setup : q ≡ p
  pub later : List Line
  pub lines_are : lines ≡ lines_from p 0 hs ++ later

pub first-read : (k : Known) (rest left more : List ℕ) (lines ls : List Line) → Tells k → All (IsLine k) ls → rest ≡ flat_map (line_text k) ls ++ more → AreLines k rest lines left → (later : List Line) × (lines ≡ ls ++ later)
first-read k rest left more lines ls tell known same are =
    elim (lines-begin k lines ls left more tell are.lines_known known (sym are.text_is ∙ same)) [
      | inl m ↦ by_more m.more (subst (All (IsLine k)) m.lines_are known) m.lines_are m.rest_is
      | inr m ↦ (m.more, m.lines_are)
    ]
  where
    by_more : (further : List Line) → All (IsLine k) (lines ++ further) → ls ≡ lines ++ further → left ≡ flat_map (line_text k) further ++ more → (later : List Line) × (lines ≡ ls ++ later)
    by_more [] all is rest_is = ([], sym (append-nil lines) ∙ sym is ∙ sym (append-nil ls))
    by_more (l ∷ further) all is rest_is =
        let l_is : IsLine k l = All-head (IsLine k) l further (All-parts (IsLine k) lines (l ∷ further) all).1 in
        absurd (are.none_further l (flat_map (line_text k) further ++ more) l_is (rest_is ∙ append_assoc (line_text k l) (flat_map (line_text k) further) more))

pub read-first : (v w : Version) (p q : Parts) (hs : List (List Entry)) (more text : List ℕ) (lines : List Line) (stop : Option ℕ) → ArePlayed p hs → text ≡ trace_text v p hs ++ more → IsTraceOf text w q lines stop → IsReadFirst v w p q hs lines
read-first v w p q hs more text lines stop played is t =
    let valid = played.valid in
    let heads = head-unique w v text t.set_text t.rest (canonical p) (lines_of v p hs ++ more) t.head (longer-head v p hs more text is (canonical-one_line p valid)) in
    let same : q ≡ p = same_set t.set_text (canonical p) p q heads.set_text t.set_is (set-of-canonical p valid) in
    let read = first-read (known_of v p) t.rest t.left more lines (lines_from p 0 hs) (valid-tells v p valid) (all_known v p hs played) heads.rest
    (subst (λ (u : Version). AreLines (known_of u p) t.rest lines t.left) heads.version (subst (λ (x : Parts). AreLines (known_of w x) t.rest lines t.left) same t.lines_are)) in
    record { version = heads.version; setup = same; later = read.0; lines_are = read.1 }

-- ---- different formats

pub versions-tell-apart : VersionsTellApart
versions-tell-apart tools others v w p q hs hs' text is is' =
    let begins = text-begins tools v p hs text is in
    let begins' = text-begins others w q hs' text is' in
    version-unique v w (codes "set " ++ (canonical p ++ 10 ∷ (lines_of v p hs ++ begins.0))) (codes "set " ++ (canonical q ++ 10 ∷ (lines_of w q hs' ++ begins'.0)))
    (sym (longer-begins v p hs begins.0 text begins.1) ∙ longer-begins w q hs' begins'.0 text begins'.1)
