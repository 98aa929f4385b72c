use Rattle.std.proofs.Common.{◌≡◌, ◌++◌, ◌<◌, ℕ, List, length, refl, sym, ap, ◌∙◌, subst, append-nil}
use Rattle.split_laws.specs.Posts.{HasPosted}
use Rattle.split_rules.specs.PartPast.{Claim}
use Rattle.split_rules.specs.Partitions.{part_group}
use Rattle.split_laws.specs.Counts.{count_steps}
use Rattle.split_counts.specs.Room.{is_unlock}
use Rattle.part_player.specs.Players.{own_script}
use Rattle.part_seat.specs.AtTurns.{IsPassedAt}
use Rattle.part_seat.specs.Partitions.{PartOf, books_in, group_of}
use Rattle.part_seat.specs.PartSeats.{passed_to, posted_in}
use Rattle.part_seat.specs.Steps.{HasStepped}
use Rattle.part_seat.specs.declared.passed.Played2.TheVariants.{Did}
use Rattle.part_seat.proofs.SeatLaws.{carried}
use Rattle.part_seat.proofs.StepLaws as laws
use Rattle.part_seat.proofs.posts.play.Goals as goal
use Rattle.part_seat.proofs.posts.play.Goals.{in-Some-passed, in-None}

pub post-requires-clause-passed : goal.post-requires-clause-passed
post-requires-clause-passed g c =
    let played = c.in-Some.ensures.played in
    carried (λ p q. IsPassedAt p q c.play.new.self.seats c.in-Some-passed.passed) c.args.part.now c.play.new.self played.same (played.passed c.in-Some-passed.passed c.in-Some-passed.is).0

pub post-requires-clause-quota : goal.post-requires-clause-quota
post-requires-clause-quota g c r =
    let played = c.in-Some.ensures.played in
    carried (λ p q. length (posted_in c.args.senders.now r) < count_steps is_unlock (own_script p q)) c.args.part.now c.play.new.self played.same
    (laws.play-quota c.args.part.now c.play.new.self c.in-Some.played played (posted_in c.args.senders.now) c.requires.posted c.entries-entries.ensures.kept c.in-Some-passed.passed c.in-Some-passed.is r)

pub post-requires-clause-rising : goal.post-requires-clause-rising
post-requires-clause-rising g c r k m same =
    let played = c.in-Some.ensures.played in
    laws.play-rises c.args.part.now c.play.new.self c.in-Some.played played (posted_in c.args.senders.now) c.requires.posted c.in-Some-passed.passed c.in-Some-passed.is r k m same

pub returns-clause-step : goal.returns-clause-step
returns-clause-step g c =
    let a = c.args.part.now in
    let a' = c.play.new.self in
    let played = c.in-Some.ensures.played in
    let made : HasStepped (Did c.in-Some.played.entry) a a' = record {
      same = played.same;
      step = (played.entries, played.plain);
      claims_are = laws.play-claims a a' c.in-Some.played played;
      kept = laws.play-kept a a' c.in-Some.played played;
    } in
    elim c.match-played.branch [
      | in-Some-passed w ↦ subst (λ (x : PartOf). HasStepped (Did c.in-Some.played.entry) a x) (sym (w.part-is ∙ w.post.ensures.part)) made
      | in-None w ↦ subst (λ (x : PartOf). HasStepped (Did c.in-Some.played.entry) a x) (sym w.part-is) made
    ]

pub returns-clause-posted : goal.returns-clause-posted
returns-clause-posted g c =
    let a = c.args.part.now in
    let a' = c.play.new.self in
    let r = c.in-Some.played in
    let played = c.in-Some.ensures.played in
    let made : (posted' : ℕ → List Claim) → ((i : ℕ) → posted' i ≡ posted_in c.args.senders.now i ++ laws.sent (group_of a) i r.passed) → HasPosted (group_of a') a'.cpu (books_in a'.seats) posted' =
    λ posted' h. carried (λ p q. HasPosted (part_group p q) q (books_in a'.seats) posted') a a' played.same (laws.play-posted a a' r played (posted_in c.args.senders.now) c.requires.posted posted' h) in
    elim c.match-played.branch [
      | in-Some-passed w ↦
          let k = w.in-Some-passed.passed in
          let to : (i : ℕ) → posted_in w.post.new.senders i ≡ posted_in c.args.senders.now i ++ laws.sent (group_of a) i r.passed =
          λ i. w.post.ensures.posted i
          ∙ ap (λ l. posted_in c.args.senders.now i ++ l) (carried (λ p q. passed_to (part_group p q) i k ≡ passed_to (group_of a) i k) a a' played.same refl ∙ ap (laws.sent (group_of a) i) (sym w.in-Some-passed.is)) in
          subst (λ (x : PartOf). HasPosted (group_of x) x.cpu (books_in x.seats) (posted_in c.match-played.senders)) (sym (w.part-is ∙ w.post.ensures.part))
          (subst (λ l. HasPosted (group_of a') a'.cpu (books_in a'.seats) (posted_in l)) (sym w.senders-is) (made (posted_in w.post.new.senders) to))
      | in-None w ↦
          subst (λ (x : PartOf). HasPosted (group_of x) x.cpu (books_in x.seats) (posted_in c.match-played.senders)) (sym w.part-is)
          (subst (λ l. HasPosted (group_of a') a'.cpu (books_in a'.seats) (posted_in l)) (sym w.senders-is)
          (made (posted_in c.args.senders.now) (λ i. sym (append-nil (posted_in c.args.senders.now i)) ∙ ap (λ l. posted_in c.args.senders.now i ++ l) (ap (laws.sent (group_of a) i) (sym w.in-None.is)))))
    ]
