-- The lines of a group, part by part as they are written.
use Rattle.std.proofs.Common.{◌≡◌, ℕ, zero, suc, ◌+◌, ◌<◌, ◌≤◌, List, [], ◌∷◌, ◌++◌, length, map, drop, get_or, refl, sym, ap, ◌∙◌, arith}
use Rattle.std.specs.Prelude.{flat_map}
use Rattle.std.proofs.lemmas.Simd.{map-map}
use Rattle.std.proofs.Math.Seq.{drop-cons}
use Rattle.rt_task.specs.declared.Parts.{Parts}
use Rattle.rt_rules.specs.Numbers.{numbers_from, rest}
use Rattle.rt_task.specs.Validity.{IsValid}
use Rattle.rt_model.specs.Blocking.{requests}
use Rattle.rt_model.specs.Group.{Group}
use Rattle.rt_model.specs.Histories.{past_from, past_of}
use Rattle.rt_model.specs.Past.{Past}
use Rattle.rt_plays.specs.Groups.{GroupHistory, group_of, past}
use Rattle.rt_changes.specs.Tallies.{tallies, tally}
use Rattle.block_counts.specs.declared.seen.Seen.{Seen}
use Rattle.block_counts.specs.SeenWords.{tallies_of, tally_of}
use Rattle.trace_lines.specs.Lines.{Line}
use Rattle.trace_lines.specs.Grammar.{line_text}
use Rattle.trace_lines.specs.Known.{Known}
use Rattle.trace_text.specs.TraceText.{block_lines}
use Rattle.trace_text.specs.Groups.{AreGroupsOf, request_line}
use Rattle.trace_text.proofs.ReplayLaws.{drop_end}
use Rattle.trace_text.proofs.GroupLaws.{groups-counted, groups-few}

abbrev pub texts : Known → List Line → List ℕ
texts k ls = flat_map (line_text k) ls

-- the lines of a past's requests, by their counts
pub request_lines : (g : Group) (past : Past) → block_lines g past ≡ map request_line (tallies g past)
unfolding block_lines
request_lines g past = sym (map-map request_line (tally g past) (requests past))

-- the line of a request in the list, and the lines after it
pub request_next : (k : Known) (xs : List Seen) (i : ℕ) (d : Seen) → i < length xs
    → texts k (map request_line (tallies_of (drop i xs))) ≡ line_text k (request_line (tally_of (get_or xs i d))) ++ texts k (map request_line (tallies_of (drop (i + 1) xs)))
request_next k xs i d low = let next : i + 1 ≡ suc i = omega arith in rw (drop-cons xs i d low, next) refl

pub requests_end : (k : Known) (xs : List Seen) (i : ℕ) → length xs ≤ i → texts k (map request_line (tallies_of (drop i xs))) ≡ []
requests_end k xs i h = rw (drop_end xs i h) refl

pub past_none : (g : Group) → past_of g [] ≡ []
unfolding past_of past_from
past_none g = refl

-- ---- groups

numbered : {A : Type 0} (f : A → ℕ) (xs : List A) (a i : ℕ) (d : A) → map f xs ≡ numbers_from a (length xs) → i < length xs → f (get_or xs i d) ≡ a + i
numbered f [] a i d e low = absurd (omega arith)
numbered f (x ∷ xs) a zero d e low = ap (first_or a) e ∙ omega arith
  where
    first_or : ℕ → List ℕ → ℕ
    first_or b [] = b
    first_or b (y ∷ ys) = y
numbered f (x ∷ xs) a (suc i) d e low = numbered f xs (suc a) i d (ap rest e) (omega arith) ∙ omega arith

pub history_group : (p : Parts) (hs : List GroupHistory) (i : ℕ) (d : GroupHistory) → AreGroupsOf p hs → i < length hs → group_of (get_or hs i d) ≡ record { setup = p; number = i }
history_group p hs i d are low =
    let setup_is : (get_or hs i d).setup ≡ p = are.of_setup i d low in
    let number_is : (get_or hs i d).group ≡ i = numbered (λ (h : GroupHistory). h.group) hs 0 i d are.in_order low ∙ omega arith in
    rw (setup_is, number_is) refl

pub item_number : (p : Parts) (hs : List GroupHistory) (i : ℕ) (h : GroupHistory) → AreGroupsOf p hs → i < length hs → h ≡ get_or hs i h → h.group ≡ i
item_number p hs i h are low e = ap (λ (x : GroupHistory). x.group) e ∙ ap (λ (g : Group). g.number) (history_group p hs i h are low)

-- a valid set has few groups
pub few_groups : (p : Parts) (hs : List GroupHistory) → AreGroupsOf p hs → IsValid p → length hs ≤ 64
few_groups p hs are valid = omega (arith, groups-counted p hs valid are, groups-few p valid)
