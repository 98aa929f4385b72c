-- Texts that come to a sink one after the other.
use Rattle.std.proofs.Common.{◌≡◌, ℕ, ◌≤◌, List, [], ◌++◌, refl, sym, ap, subst, ◌∙◌, arith, append_assoc, append-nil}
use Rattle.std.specs.Prelude.{◌≢◌}
use Rattle.std.specs.Prelude.{Result, Ok, Err, IsErrAnd, OnOk, OnErr}
use Rattle.rt_fault.specs.Faults.{HasRisen}
use Rattle.rt_fault.specs.Ends.{writing}
use Rattle.rt_fault.specs.Held.{Held, Extends, ExtendsByPrefix}
use Rattle.rt_fault.proofs.HeldLaws.{Extends-none, Extends-append, ExtendsByPrefix-append, ExtendsByPrefix-more, ExtendsByPrefix-front}
use Rattle.trace_writer.specs.declared.stop.WriteStop.{WriteStop}
use Rattle.trace_writer.specs.declared.stop.WriteStop.TheVariants as stops
use Rattle.trace_writer.specs.Writing.{Came, Sends}

-- by what was held, and how many faults were counted, before and after
abbrev pub CameFrom : Result (Unit {0}) WriteStop → Held → Held → ℕ → ℕ → List ℕ → Type 0
CameFrom r a b f g text = Came r (record { old = record { held = a; faults = f }; new = record { held = b; faults = g } }) text

-- a first part of the text came, and this is what is left of it
pub record Coming (old new : Held) (before after : ℕ) (text left : List ℕ) : Type 0 where
  pub front : List ℕ
  pub came : Extends old new front
  pub unfailed : after ≡ before
  pub split : text ≡ front ++ left

-- no byte came yet
pub coming-start : (h : Held) (f : ℕ) (text : List ℕ) → Coming h h f f text text
coming-start h f text = record { front = []; came = Extends-none h; unfailed = refl; split = refl }

-- and none is gathered
pub coming-gathered : (h : Held) (f : ℕ) (text kept : List ℕ) → kept ≡ [] → Coming h h f f text (kept ++ text)
coming-gathered h f text kept none = rw none (coming-start h f text)

-- the next part came
pub coming-next : (a b c : Held) (f g h : ℕ) (text part left : List ℕ) → Coming a b f g text (part ++ left) → CameFrom (Ok tt) b c g h part → Coming a c f h text left
coming-next a b c f g h text part left s p = record {
  front = s.front ++ part;
  came = Extends-append a b c s.front part s.came p.0;
  unfailed = p.1 ∙ s.unfailed;
  split = s.split ∙ sym (append_assoc s.front part left);
}

-- the next part stopped
pub coming-stop : (e : WriteStop) (a b c : Held) (f g h : ℕ) (text part left : List ℕ) → Coming a b f g text (part ++ left) → CameFrom (Err e) b c g h part → CameFrom (Err e) a c f h text
coming-stop stops.Fault a b c f g h text part left s p =
    let prefix = ExtendsByPrefix-more a c (s.front ++ part) left (ExtendsByPrefix-append a b c s.front part s.came p.0) in
    (rw (s.split, ← append_assoc) prefix, rw s.unfailed at p.1, rw s.unfailed at p.2)
coming-stop stops.NoMemory a b c f g h text part left s p =
    let prefix = ExtendsByPrefix-more a c (s.front ++ part) left (ExtendsByPrefix-append a b c s.front part s.came p.0) in
    (rw (s.split, ← append_assoc) prefix, p.1 ∙ s.unfailed)

-- memory ran out before the next part
pub coming-cut : (a b : Held) (f g : ℕ) (text left : List ℕ) → Coming a b f g text left → CameFrom (Err stops.NoMemory) a b f g text
coming-cut a b f g text left s = (ExtendsByPrefix-front a b text s.front left s.split s.came, s.unfailed)

-- all of it came
pub coming-end : (a b : Held) (f g : ℕ) (text : List ℕ) → Coming a b f g text [] → CameFrom (Ok tt) a b f g text
coming-end a b f g text s = (rw (s.split, append-nil) s.came, s.unfailed)

-- memory ran out before any part
pub came-none : (h : Held) (f : ℕ) (text : List ℕ) → CameFrom (Err stops.NoMemory) h h f f text
came-none h f text = coming-cut h h f f text text (coming-start h f text)

-- the same where the end is handed on
pub came-err : (r : Result (Unit {0}) WriteStop) (e : WriteStop) (a b : Held) (f g : ℕ) (text : List ℕ) → IsErrAnd r (λ x. x ≡ e) → CameFrom (Err e) a b f g text → CameFrom r a b f g text
came-err (Ok u) e a b f g text h p = absurd h
came-err (Err x) e a b f g text h p = rw h p

-- the last part came, or stopped
pub coming-last : (r : Result (Unit {0}) WriteStop) (a b c : Held) (f g h : ℕ) (text part : List ℕ) → Coming a b f g text part → CameFrom r b c g h part → CameFrom r a c f h text
coming-last (Ok u) a b c f g h text part s p = (rw s.split (Extends-append a b c s.front part s.came p.0), p.1 ∙ s.unfailed)
coming-last (Err e) a b c f g h text part s p = coming-stop e a b c f g h text part [] more p
  where
    more : Coming a b f g text (part ++ [])
    more = record { front = s.front; came = s.came; unfailed = s.unfailed; split = s.split ∙ ap (λ xs. s.front ++ xs) (sym (append-nil part)) }

-- what is left is said otherwise
pub coming-by : {a b : Held} {f g : ℕ} {text left left' : List ℕ} → left ≡ left' → Coming a b f g text left → Coming a b f g text left'
coming-by {a} {b} {f} {g} {text} same s = subst (Coming a b f g text) same s

-- a part that is gathered behind what is kept, or nothing more, as a slice of the text shows
pub gathers : (kept now part left more : List ℕ) → now ≡ kept ++ part → left ≡ part ++ more → kept ++ left ≡ now ++ more
gathers kept now part left more gathered next = rw (gathered, next) (sym (append_assoc kept part more))

pub gathers-none : (kept shown left : List ℕ) → shown ≡ kept → left ≡ [] → kept ++ left ≡ shown
gathers-none kept shown left same none = rw (same, none) (append-nil kept)

-- a text of three parts
pub record HasParts (text one two three : List ℕ) : Type 0 where
  pub parts_are : text ≡ one ++ (two ++ three)

-- ---- the same of a sink, by what it tells that it holds, and of its faults

module _ {K : Type 0} (held : K → Held) (faults : K → ℕ) where
  abbrev pub CameTo : Result (Unit {0}) WriteStop → K → K → List ℕ → Type 0
  CameTo r a b text = Came r (writing held faults a b) text

  abbrev pub IsComing : K → K → List ℕ → List ℕ → Type 0
  IsComing a b text left = Coming (held a) (held b) (faults a) (faults b) text left

  -- the text that came is said otherwise
  pub came-by : (r : Result (Unit {0}) WriteStop) (a b : K) (text text' : List ℕ) → text ≡ text' → CameTo r a b text → CameTo r a b text'
  came-by r a b text text' same p = subst (CameTo r a b) same p

  -- memory ran out before any part
  pub stopped-before : (r : Result (Unit {0}) WriteStop) (a : K) (text : List ℕ) → IsErrAnd r (λ x. x ≡ stops.NoMemory) → CameTo r a a text
  stopped-before r a text is = came-err r stops.NoMemory (held a) (held a) (faults a) (faults a) text is (came-none (held a) (faults a) text)

  -- the next part
  module _ (a b : K) (text : List ℕ) where
    pub comes-next : (c : K) (part left : List ℕ) → IsComing a b text (part ++ left) → CameTo (Ok tt) b c part → IsComing a c text left
    comes-next c part left s p = coming-next (held a) (held b) (held c) (faults a) (faults b) (faults c) text part left s p

    pub comes-stop : (r : Result (Unit {0}) WriteStop) (e : WriteStop) (c : K) (part left : List ℕ) → IsErrAnd r (λ x. x ≡ e) → IsComing a b text (part ++ left) → CameTo (Err e) b c part → CameTo r a c text
    comes-stop r e c part left is s p =
        came-err r e (held a) (held c) (faults a) (faults c) text is (coming-stop e (held a) (held b) (held c) (faults a) (faults b) (faults c) text part left s p)

    -- the next part is gathered with what is kept, and a first part of both came
    pub sends-next : (c : K) (gathered kept left : List ℕ) → IsComing a b text (gathered ++ left) → Sends (Ok tt) (writing held faults b c) gathered kept → IsComing a c text (kept ++ left)
    sends-next c gathered kept left s p = comes-next c p.0 (kept ++ left) (coming-by (ap (λ xs. xs ++ left) p.1 ∙ append_assoc p.0 kept left) s) p.2

    pub sends-stop : (r : Result (Unit {0}) WriteStop) (e : WriteStop) (c : K) (gathered kept left : List ℕ) → IsErrAnd r (λ x. x ≡ e) → IsComing a b text (gathered ++ left)
        → Sends (Err e) (writing held faults b c) gathered kept → CameTo r a c text
    sends-stop r e c gathered kept left is s p = comes-stop r e c gathered left is s p

    pub comes-cut : (r : Result (Unit {0}) WriteStop) (left : List ℕ) → IsErrAnd r (λ x. x ≡ stops.NoMemory) → IsComing a b text left → CameTo r a b text
    comes-cut r left is s = came-err r stops.NoMemory (held a) (held b) (faults a) (faults b) text is (coming-cut (held a) (held b) (faults a) (faults b) text left s)

    pub comes-last : (r : Result (Unit {0}) WriteStop) (c : K) (part : List ℕ) → IsComing a b text part → CameTo r b c part → CameTo r a c text
    comes-last r c part s p = coming-last r (held a) (held b) (held c) (faults a) (faults b) (faults c) text part s p

    pub comes-end : IsComing a b text [] → CameTo (Ok tt) a b text
    comes-end s = coming-end (held a) (held b) (faults a) (faults b) text s

  -- a text of two parts
  pub came-both : (r : Result (Unit {0}) WriteStop) (a b c : K) (one two : List ℕ) → CameTo (Ok tt) a b one → CameTo r b c two → CameTo r a c (one ++ two)
  came-both r a b c one two p last = comes-last a b (one ++ two) r c two (comes-next a a (one ++ two) b one two (coming-start (held a) (faults a) (one ++ two)) p) last

  pub stopped-front : (r : Result (Unit {0}) WriteStop) (e : WriteStop) (a b : K) (one two : List ℕ) → IsErrAnd r (λ x. x ≡ e) → CameTo (Err e) a b one → CameTo r a b (one ++ two)
  stopped-front r e a b one two is p = comes-stop a a (one ++ two) r e b one two is (coming-start (held a) (faults a) (one ++ two)) p

  -- a text of three parts
  module _ {text one two three : List ℕ} (parts : HasParts text one two three) (a b : K) where
    first : IsComing a a text (one ++ (two ++ three))
    first = coming-by parts.parts_are (coming-start (held a) (faults a) text)

    pub stopped-first : (r : Result (Unit {0}) WriteStop) (e : WriteStop) → IsErrAnd r (λ x. x ≡ e) → CameTo (Err e) a b one → CameTo r a b text
    stopped-first r e is p = comes-stop a a text r e b one (two ++ three) is first p

    pub stopped-second : (r : Result (Unit {0}) WriteStop) (e : WriteStop) (c : K) → IsErrAnd r (λ x. x ≡ e) → CameTo (Ok tt) a b one → CameTo (Err e) b c two → CameTo r a c text
    stopped-second r e c is p q = comes-stop a b text r e c two three is (comes-next a a text b one (two ++ three) first p) q

    pub came-third : (r : Result (Unit {0}) WriteStop) (c d : K) → CameTo (Ok tt) a b one → CameTo (Ok tt) b c two → CameTo r c d three → CameTo r a d text
    came-third r c d p q last = comes-last a c text r d three (comes-next a b text c two three (comes-next a a text b one (two ++ three) first p) q) last

-- the parts of an end
pub came-ok : (r : Result (Unit {0}) WriteStop) (a b : Held) (f g : ℕ) (text : List ℕ) → CameFrom r a b f g text → OnOk r (Extends a b text)
came-ok (Ok u) a b f g text p = p.0
came-ok (Err e) a b f g text p = tt

pub came-stopped : (r : Result (Unit {0}) WriteStop) (a b : Held) (f g : ℕ) (text : List ℕ) → CameFrom r a b f g text → OnErr r (ExtendsByPrefix a b text)
came-stopped (Ok u) a b f g text p = tt
came-stopped (Err stops.Fault) a b f g text p = p.0
came-stopped (Err stops.NoMemory) a b f g text p = p.0

pub came-fault : (r : Result (Unit {0}) WriteStop) (a b : Held) (f g : ℕ) (text : List ℕ) → CameFrom r a b f g text → r ≡ Err stops.Fault → HasRisen f g
came-fault (Ok u) a b f g text p e = cc
came-fault (Err stops.Fault) a b f g text p e = p.2
came-fault (Err stops.NoMemory) a b f g text p e = cc

pub came-counted : (r : Result (Unit {0}) WriteStop) (a b : Held) (f g : ℕ) (text : List ℕ) → CameFrom r a b f g text → f ≤ g
came-counted (Ok u) a b f g text p = let e : g ≡ f = p.1 in omega arith
came-counted (Err stops.Fault) a b f g text p = p.1
came-counted (Err stops.NoMemory) a b f g text p = let e : g ≡ f = p.1 in omega arith

pub came-unfailed : (r : Result (Unit {0}) WriteStop) (a b : Held) (f g : ℕ) (text : List ℕ) → CameFrom r a b f g text → r ≢ Err stops.Fault → g ≡ f
came-unfailed (Ok u) a b f g text p other = p.1
came-unfailed (Err stops.Fault) a b f g text p other = absurd (other refl)
came-unfailed (Err stops.NoMemory) a b f g text p other = p.1
