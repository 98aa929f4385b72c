-- Parts of events that were put one behind the other are the events.
use Rattle.std.proofs.Common.{◌≡◌, ◌∙◌, ℕ, ◌-◌, List, [], ◌∷◌, ◌++◌, map, refl, sym, ap, append_assoc, append-nil}
use Rattle.std.specs.List.{concat, join_with_byte}
use Rattle.std.specs.Prelude.{codes, decimal}
use Rattle.rt_task.specs.declared.Parts.{Parts}
use Rattle.rt_model.specs.Group.{Group, sem}
use Rattle.trace_views.specs.Cells.{Doing, TaskCell}
use Rattle.trace_views.specs.Cells as cells
use Rattle.event_texts.specs.Records.{Piece, begun, count_event, instant_event, microseconds, named, on_thread, quoted, span_event, strings, thread_event, truth}
use Rattle.event_texts.specs.TaskSpans.{cell_arguments, kind, name, sem_name}
use Rattle.event_lines.specs.inside.Commas.{with_comma, with_commas}
use Rattle.event_lines.specs.inside.Openings.{Thread, category, cell_rest, count_to, instant_words, instants_on, name_in, named_to, object, span_to, verb}
use Rattle.event_lines.specs.TrackEvents.{group_words, process_name, some_group}

abbrev pub joined : List Piece → Piece → Piece
joined [] r = r
joined (x ∷ xs) r = x ++ joined xs r

pub concat-joined : (xs : List Piece) (r : Piece) → concat xs ++ r ≡ joined xs r
concat-joined [] r = refl
concat-joined (x ∷ xs) r = append_assoc x (concat xs) r ∙ ap (λ l. x ++ l) (concat-joined xs r)

-- an event alone
pub alone : (old new : List ℕ) (e : Piece) → new ≡ old ++ with_comma e → new ≡ old ++ with_commas (e ∷ [])
alone old new e h = h ∙ ap (λ xs. old ++ xs) (sym (append-nil (with_comma e)))

named-put : (head what name : Piece) → head ++ (named_to what ++ (name ++ codes "\"}},\n")) ≡ (head ++ named what name) ++ 44 ∷ 10 ∷ []
named-put head what name =
    ap (λ xs. head ++ xs) (concat-joined (codes ",\"name\":\"" ∷ what ∷ codes "\",\"args\":{\"name\":\"" ∷ []) (name ++ codes "\"}},\n")
    ∙ sym (concat-joined (codes ",\"name\":\"" ∷ what ∷ codes "\",\"args\":{\"name\":\"" ∷ name ∷ codes "\"}}" ∷ []) (44 ∷ 10 ∷ [])))
    ∙ sym (append_assoc head (named what name) (44 ∷ 10 ∷ []))

pub process-put : (process n : ℕ) (what : Piece)
    → begun (codes "M") process ++ (named_to (codes "process_name") ++ (group_words n what ++ codes "\"}},\n")) ≡ with_comma (process_name process n what)
unfolding with_comma process_name
process-put process n what = named-put (begun (codes "M") process) (codes "process_name") (group_words n what)

pub thread-put : (process thread : ℕ) (name : Piece)
    → on_thread (codes "M") process thread ++ (named_to (codes "thread_name") ++ (name ++ codes "\"}},\n")) ≡ with_comma (thread_event process thread name)
unfolding with_comma
thread-put process thread name = named-put (on_thread (codes "M") process thread) (codes "thread_name") name

instant-joined : (o ts t w n j k e comma : List ℕ) → (o ++ ts) ++ (t ++ ((w ++ (n ++ j)) ++ (k ++ (e ++ comma)))) ≡ (o ++ (ts ++ (t ++ (w ++ (n ++ (j ++ (k ++ (e ++ [])))))))) ++ comma
instant-joined o ts t w n j k e comma = simp (append_assoc, append-nil)

pub instant-put : (thread : Thread) (tick : ℕ) (name : Piece) (job : ℕ)
    → instants_on thread ++ (microseconds tick ++ (instant_words name ++ (decimal job ++ codes "}},\n"))) ≡ with_comma (instant_event thread.process thread.number tick name job)
unfolding with_comma
instant-put thread tick name job =
    instant-joined (on_thread (codes "i") thread.process thread.number) (codes ",\"ts\":") (microseconds tick) (codes ",\"s\":\"t\",\"name\":\"") name (codes "\",\"args\":{\"job\":") (decimal job) (codes "}}") (44 ∷ 10 ∷ [])

pub count-put : (process tick : ℕ) (name : Piece) (left : ℕ)
    → count_to process tick ++ (name ++ (codes "\",\"args\":{\"left\":" ++ (decimal left ++ codes "}},\n"))) ≡ with_comma (count_event process tick name left)
unfolding with_comma
count-put process tick name left =
    concat-joined (begun (codes "C") process ∷ codes ",\"ts\":" ∷ microseconds tick ∷ codes ",\"name\":\"" ∷ []) (name ++ (codes "\",\"args\":{\"left\":" ++ (decimal left ++ codes "}},\n")))
    ∙ sym (concat-joined (begun (codes "C") process ∷ codes ",\"ts\":" ∷ microseconds tick ∷ codes ",\"name\":\"" ∷ name ∷ codes "\",\"args\":{\"left\":"
    ∷ decimal left ∷ codes "}}" ∷ []) (44 ∷ 10 ∷ []))

-- ---- spans

span-joined : (o ts f dur d cat k nm n ar u e comma : List ℕ)
    → ((o ++ ts) ++ (f ++ (dur ++ d))) ++ ((cat ++ (k ++ nm)) ++ (n ++ (ar ++ (u ++ (e ++ comma))))) ≡ (o ++ (ts ++ (f ++ (dur ++ (d ++ (cat ++ (k ++ (nm ++ (n ++ (ar ++ (u ++ (e ++ [])))))))))))) ++ comma
span-joined o ts f dur d cat k nm n ar u e comma = simp (append_assoc, append-nil)

pub span-put : (thread : Thread) (from to : ℕ) (kind name arguments : Piece)
    → span_to thread from to ++ (category kind ++ (name ++ (codes "\",\"args\":{" ++ (arguments ++ codes "}},\n")))) ≡ with_comma (span_event thread.process thread.number from to kind name arguments)
unfolding with_comma
span-put thread from to kind name arguments =
    span-joined (on_thread (codes "X") thread.process thread.number) (codes ",\"ts\":") (microseconds from) (codes ",\"dur\":") (microseconds (to - from)) (codes ",\"cat\":\"") kind (codes "\",\"name\":\"")
    name (codes "\",\"args\":{") arguments (codes "}}") (44 ∷ 10 ∷ [])

name-told : (g : Group) (d : Doing) → verb d ++ object g d ≡ name g d
name-told g (cells.works qs) = refl
name-told g (cells.blocked s) = refl
name-told g (cells.waits s) = refl
name-told g cells.sleeping = refl
name-told g (cells.running qs) = refl
name-told g cells.ready = refl
name-told g cells.away = refl

arguments-joined : (ar jb j h st np t ra r e : List ℕ)
    → (ar ++ jb) ++ (j ++ (h ++ (st ++ (np ++ (t ++ (ra ++ (r ++ e))))))) ≡ ar ++ ((jb ++ (j ++ (h ++ (st ++ (np ++ (t ++ (ra ++ (r ++ [])))))))) ++ e)
arguments-joined ar jb j h st np t ra r e = simp (append_assoc, append-nil)

arguments-told : (g : Group) (c : TaskCell) → codes "\",\"args\":{\"job\":" ++ (decimal c.job ++ cell_rest g c) ≡ codes "\",\"args\":{" ++ (cell_arguments g c ++ codes "}},\n")
arguments-told g c =
    arguments-joined (codes "\",\"args\":{") (codes "\"job\":") (decimal c.job) (codes ",\"holds\":") (strings (map (sem_name g) c.held)) (codes ",\"nonpreemptive\":") (truth c.non_preemptive) (codes ",\"raised\":") (truth c.raised) (codes "}},\n")

head-joined : (o c v n r : List ℕ) → o ++ ((c ++ v) ++ (n ++ r)) ≡ o ++ (c ++ ((v ++ n) ++ r))
head-joined o c v n r = simp append_assoc

-- a span of a task, as it is put
pub there-put : (g : Group) (thread : Thread) (from to : ℕ) (c : TaskCell)
    → span_to thread from to ++ ((category (kind c.doing) ++ verb c.doing) ++ (object g c.doing ++ (codes "\",\"args\":{\"job\":" ++ (decimal c.job ++ cell_rest g c))))
    ≡ with_comma (span_event thread.process thread.number from to (kind c.doing) (name g c.doing) (cell_arguments g c))
there-put g thread from to c =
    let head = span_to thread from to in
    head-joined head (category (kind c.doing)) (verb c.doing) (object g c.doing) (codes "\",\"args\":{\"job\":" ++ (decimal c.job ++ cell_rest g c))
    ∙ (λ i. head ++ (category (kind c.doing) ++ (name-told g c.doing i ++ arguments-told g c i)))
    ∙ span-put thread from to (kind c.doing) (name g c.doing) (cell_arguments g c)

-- what it says behind the number of its job, as it is put
pub rest-put : (p : Parts) (c : TaskCell)
    → codes ",\"holds\":[" ++ (join_with_byte 44 (map quoted (map (name_in p.sems) c.held))
    ++ (codes "],\"nonpreemptive\":" ++ (truth c.non_preemptive ++ (codes ",\"raised\":" ++ (truth c.raised ++ codes "}},\n"))))) ≡ cell_rest (some_group p) c
unfolding sem
rest-put p c =
    ap (λ x. codes ",\"holds\":[" ++ x)
    (sym (append_assoc (join_with_byte 44 (map quoted (map (name_in p.sems) c.held))) (codes "]") (codes ",\"nonpreemptive\":" ++ (truth c.non_preemptive ++ (codes ",\"raised\":" ++ (truth c.raised ++ codes "}},\n"))))))
