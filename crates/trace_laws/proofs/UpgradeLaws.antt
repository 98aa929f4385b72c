-- A valid text has one upgrade, which is valid and its own upgrade.
use Rattle.std.proofs.Common.{◌≡◌, ℕ, List, Ok, refl, sym, ap, subst, ◌∙◌, ◌++◌, inr}
use Rattle.rt_task.specs.declared.Parts.{Parts}
use Rattle.rt_rules.specs.declared.history.Entry.{Entry}
use Rattle.rt_plays.specs.Plays.{ArePlays}
use Rattle.set_canonical.specs.Canonical.{canonical}
use Rattle.set_read.specs.Sets.{set}
use Rattle.set_laws.proofs.CanonicalLaws.{set-of-canonical}
use Rattle.trace_lines.specs.declared.format.Version.{Version}
use Rattle.trace_lines.specs.declared.format.Version.TheVariants.{Two}
use Rattle.trace_tools.specs.Tools.{Tool}
use Rattle.trace_text.specs.TraceText.{trace_text}
use Rattle.trace_text.specs.CountLines.{counted_text}
use Rattle.trace_laws.specs.TraceLaws.{ArePlayed}
use Rattle.trace_laws.specs.ValidTexts.{IsTextOf}
use Rattle.trace_laws.specs.Upgrades.{IsValidOf, UpgradeIsKept, UpgradeIsThere, UpgradeIsValid}
use Rattle.trace_laws.proofs.Heads.{head-unique, lines_of, longer-head}
use Rattle.trace_laws.proofs.OneLine.{canonical-one_line}
use Rattle.trace_laws.proofs.ReadBack.{text-begins, texts-apart}

-- one text is of one format, of one set and of one list of plays
pub record SaysTheSame (v w : Version) (p q : Parts) (hs hs' : List (List Entry)) : Type 0 where
  pub version : v ≡ w
  pub setup : p ≡ q
  pub histories : hs ≡ hs'

one_set : (p q : Parts) → canonical p ≡ canonical q → set (canonical p) ≡ Ok p → set (canonical q) ≡ Ok q → p ≡ q
one_set p q same g h = cc

same_histories : (v : Version) (p q : Parts) (hs hs' : List (List Entry)) (x y text : List ℕ) → p ≡ q → ArePlayed p hs → ArePlayed q hs' → text ≡ trace_text v p hs ++ x → text ≡ trace_text v q hs' ++ y → hs ≡ hs'
same_histories v p q hs hs' x y text same played played' e f =
    texts-apart v p hs hs' x y text played.valid played.plays (subst (λ (r : Parts). ArePlays r hs') (sym same) played'.plays) e (f ∙ ap (λ (r : Parts). trace_text v r hs' ++ y) (sym same))

says-the-same : (tools others : List Tool) (v w : Version) (p q : Parts) (hs hs' : List (List Entry)) (text : List ℕ) → ArePlayed p hs → ArePlayed q hs' → IsTextOf tools v p hs text → IsTextOf others w q hs' text → SaysTheSame v w p q hs hs'
says-the-same tools others v w p q hs hs' text played played' is is' =
    let here = text-begins tools v p hs text is in
    let there = text-begins others w q hs' text is' in
    let heads = head-unique v w text (canonical p) (lines_of v p hs ++ here.0) (canonical q) (lines_of w q hs' ++ there.0)
    (longer-head v p hs here.0 text here.1 (canonical-one_line p played.valid)) (longer-head w q hs' there.0 text there.1 (canonical-one_line q played'.valid)) in
    let setup : p ≡ q = one_set p q heads.set_text (set-of-canonical p played.valid) (set-of-canonical q played'.valid) in
    record {
      version = heads.version;
      setup = setup;
      histories = same_histories v p q hs hs' here.0 there.0 text setup played played' here.1 (there.1 ∙ ap (λ (u : Version). trace_text u q hs' ++ there.0) (sym heads.version));
    }

same_text : (tools : List Tool) (p q : Parts) (hs hs' : List (List Entry)) → p ≡ q → hs ≡ hs' → counted_text Two tools p hs ≡ counted_text Two tools q hs'
same_text tools p q hs hs' setup histories = ap (λ (r : Parts). counted_text Two tools r hs) setup ∙ ap (counted_text Two tools q) histories

played-of : (tools : List Tool) (v : Version) (p : Parts) (text : List ℕ) (n : ℕ) (h : IsValidOf tools v p text n) → ArePlayed p h.is_text.histories
played-of tools v p text n h = record { valid = h.valid; plays = h.is_text.plays }

pub upgrade-is-there : UpgradeIsThere
upgrade-is-there tools v p text n h =
    let played = played-of tools v p text n h in (
      counted_text Two tools p h.is_text.histories,
      (
        record { version = v; setup = p; histories = h.is_text.histories; played = played; text_is = h.is_text.text_is; upgraded_is = refl },
        λ other u.
            let same = says-the-same tools tools u.version v u.setup p u.histories h.is_text.histories text u.played played u.text_is h.is_text.text_is in
            u.upgraded_is ∙ same_text tools u.setup p u.histories h.is_text.histories same.setup same.histories,
      ),
    )

pub upgrade-is-valid : UpgradeIsValid
upgrade-is-valid tools v p text upgraded n h u =
    let same = says-the-same tools tools u.version v u.setup p u.histories h.is_text.histories text u.played (played-of tools v p text n h) u.text_is h.is_text.text_is in
    record {
      histories = h.is_text.histories;
      plays = h.is_text.plays;
      text_is = inr (u.upgraded_is ∙ same_text tools u.setup p u.histories h.is_text.histories same.setup same.histories);
      count = h.is_text.count;
    }

pub upgrade-is-kept : UpgradeIsKept
upgrade-is-kept tools text upgraded again u a =
    let same = says-the-same tools tools a.version Two a.setup u.setup a.histories u.histories upgraded a.played u.played a.text_is (inr u.upgraded_is) in
    a.upgraded_is ∙ same_text tools a.setup u.setup a.histories u.histories same.setup same.histories ∙ sym u.upgraded_is
