-- The laws by which a partition plays: what it may rely on at the semaphores, how it goes on seeing their histories, and what it posts.
use Rattle.std.specs.Prelude.{◌≡◌, ℕ, ◌<◌, false, List, [], ◌∷◌, ◌++◌, length, None, Some}
use Rattle.rt_rules.specs.Numbers.{has, is}
use Rattle.rt_rules.specs.SemState.{SemState}
use Rattle.rt_model.specs.Group.{Group}
use Rattle.split_rules.specs.Matching.{Books, DoMatch, claims, granted_at, taken_at, told}
use Rattle.split_rules.specs.PartHistories.{IsEntryAt, IsLegalFrom, after, past_of}
use Rattle.split_rules.specs.PartPast.{Claim, PartPast, Took, deeds}
use Rattle.split_rules.specs.PartSems.{awaiting, holding}
use Rattle.split_rules.specs.SemHistories.{IsLegalSem, seat_of, sem_state}
use Rattle.split_rules.specs.declared.SemEntry.{SemEntry}
use Rattle.split_rules.specs.declared.SplitEntry.{SplitEntry}
use Rattle.split_laws.specs.Parts.{Among, HasSeen, HaveGrown, IsActIn, IsPartPast, IsSeat}
use Rattle.split_laws.specs.Posts.{HasPosted, TakenGrant, claims_of, cpu_at, given}
use Rattle.split_laws.specs.Runs.{IsOutcome}

-- a task neither holds the semaphore nor waits for it
pub record IsIdleAt (t : ℕ) (l : SemState) : Type 0 where
  pub free_hands : is t l.holder ≡ false
  pub outside : has t l.waiting ≡ false

-- of each partition that has seen these histories
abbrev pub EverySeen : (Group → ℕ → Books → PartPast → Type 0) → Type 0
EverySeen law = (g : Group) (q : ℕ) (books : Books) (past : PartPast) → IsPartPast g q past → HasSeen g q books past → law g q books past

-- A task of the partition that holds and waits for nothing may ask.
abbrev pub MayAsk : Type 0
MayAsk = EverySeen (λ g q books past. (t s : ℕ) → seat_of g t ≡ q → holding t past ≡ None → awaiting t past ≡ None
    → IsIdleAt t (sem_state g s (books s)))

-- A task that holds a semaphore, as its partition knows, is the holder.
abbrev pub MayRelease : Type 0
MayRelease = EverySeen (λ g q books past. (t s : ℕ) → holding t past ≡ Some s → (sem_state g s (books s)).holder ≡ Some t)

-- The histories may grow by entries of others.
abbrev pub SeenGrows : Type 0
SeenGrows = EverySeen (λ g q books past. (books' : Books) → HaveGrown q books books' → ((s : ℕ) → IsLegalSem g s (books' s)) →
    HasSeen g q books' past)

-- An entry that does nothing at a semaphore leaves what was seen.
abbrev pub SeenAlone : Type 0
SeenAlone = EverySeen (λ g q books past. (e : SplitEntry) → deeds (after g q e past) ≡ deeds past → HasSeen g q books (after g q e past))

-- An entry that asks for a semaphore or frees it, with the outcome of the entries before it, leaves that history legal, and is seen.
pub record IsSeenAct (g : Group) (q s : ℕ) (b : SemEntry) (books books' : Books) (past' : PartPast) : Type 0 where
  pub legal : IsLegalSem g s (books s ++ b ∷ [])
  pub seen : IsActIn q s b books books' → HasSeen g q books' past'

abbrev pub SeenActs : Type 0
SeenActs = EverySeen (λ g q books past. (books' : Books) (s : ℕ) (b : SemEntry) (e : SplitEntry) → IsSeat g q → IsEntryAt g q past e
    → deeds (after g q e past) ≡ deeds past ++ told s b ∷ [] → b.cpu.0 ≡ q → IsOutcome g s b.act (sem_state g s (books s))
    → IsSeenAct g q s b books books' (after g q e past))

-- A grant that was not taken before is taken where its task waits, and is seen.
pub record IsSeenTake (g : Group) (q : ℕ) (books : Books) (past : PartPast) (k : Claim) : Type 0 where
  pub waits : awaiting k.task past ≡ Some k.sem
  pub seen : HasSeen g q books (Took k ∷ past)

abbrev pub SeenTakes : Type 0
SeenTakes = EverySeen (λ g q books past. (k : Claim) → seat_of g k.task ≡ q → granted_at (books k.sem) k.no ≡ Some k.task
    → has k.no (taken_at k.task k.sem (claims (deeds past))) ≡ false → IsSeenTake g q books past k)

-- It was not taken before where its number is above those that were taken of the same processor and the same semaphore.
abbrev pub GrantIsFresh : Type 0
GrantIsFresh = (books : Books) (xs : List TakenGrant) (ks : List Claim) (p : ℕ) (k : Claim) → ks ≡ claims_of xs
    → ((x : TakenGrant) → Among x xs → cpu_at (books x.claim.sem) x.claim.no ≡ Some x.from) → cpu_at (books k.sem) k.no ≡ Some p
    → ((x : TakenGrant) → Among x xs → x.from ≡ p → x.claim.sem ≡ k.sem → x.claim.no < k.no)
    → has k.no (taken_at k.task k.sem ks) ≡ false

-- The partition matches what it has seen.
abbrev pub SeenMatches : Type 0
SeenMatches = EverySeen (λ g q books past. DoMatch q books past)

-- What was posted stays what it is as the histories grow by entries of others, and takes the grant of an own entry.
abbrev pub PostedGrows : Type 0
PostedGrows = (g : Group) (q : ℕ) (books books' : Books) (posted : ℕ → List Claim) → HasPosted g q books posted → HaveGrown q books books'
    → HasPosted g q books' posted

abbrev pub PostedActs : Type 0
PostedActs = (g : Group) (q s : ℕ) (b : SemEntry) (books books' : Books) (posted posted' : ℕ → List Claim) → HasPosted g q books posted
    → IsActIn q s b books books' → ((r : ℕ) → posted' r ≡ posted r ++ given g q r s (length (books s)) b) → HasPosted g q books' posted'

-- Each number that was posted is below the length of its semaphore's history.
abbrev pub PostedIsBelow : Type 0
PostedIsBelow = (g : Group) (q : ℕ) (books : Books) (posted : ℕ → List Claim) → HasPosted g q books posted → (r : ℕ) (k : Claim)
    → Among k (posted r) → k.no < length (books k.sem)

-- Each grant of a semaphore's history was posted to the inbox of its task's processor.
pub record IsPosted (posted : ℕ → ℕ → List Claim) (r : ℕ) (k : Claim) : Type 0 where
  pub poster : ℕ
  pub there : Among k (posted poster r)

abbrev pub GrantsArePosted : Type 0
GrantsArePosted = (g : Group) (books : Books) (posted : ℕ → ℕ → List Claim) → ((q : ℕ) → HasPosted g q books (posted q)) → (s n u : ℕ)
    → granted_at (books s) n ≡ Some u → IsPosted posted (seat_of g u) (record { sem = s; no = n; task = u })

-- At the opening nothing is seen, and nothing was posted.
pub record IsOpenedPart (g : Group) (q : ℕ) (books : Books) (posted : ℕ → List Claim) : Type 0 where
  pub part : IsPartPast g q []
  pub seen : HasSeen g q books []
  pub posted_none : HasPosted g q books posted

abbrev pub OpenedPart : Type 0
OpenedPart = (g : Group) (q : ℕ) (books : Books) (posted : ℕ → List Claim) → ((s : ℕ) → books s ≡ []) → ((r : ℕ) → posted r ≡ []) →
    IsOpenedPart g q books posted

-- An entry that the rules give joins a legal history, and the past after it is that of the longer one.
pub record IsJoined (g : Group) (q : ℕ) (es : List SplitEntry) (e : SplitEntry) : Type 0 where
  pub legal : IsLegalFrom g q [] (es ++ e ∷ [])
  pub past_is : past_of g q (es ++ e ∷ []) ≡ after g q e (past_of g q es)

abbrev pub EntryJoins : Type 0
EntryJoins = (g : Group) (q : ℕ) (es : List SplitEntry) (e : SplitEntry) → IsLegalFrom g q [] es → IsEntryAt g q (past_of g q es) e →
    IsJoined g q es e
