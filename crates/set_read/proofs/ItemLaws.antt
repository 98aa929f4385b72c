-- The items that tokens say, token by token.
use Rattle.std.proofs.Common.{◌≡◌, ℕ, List, [], ◌∷◌, Option, Some, None, refl, ◌∙◌, arith}
use Rattle.json.specs.Token.{Token}
use Rattle.json.specs.Json.{after_end_array}
use Rattle.rt_task.specs.declared.Act.{Act}
use Rattle.rt_task.specs.declared.draft.Piece.{Piece}
use Rattle.serde_json.specs.Data.{Data, number, string, array, unsigned, no_items, item}
use Rattle.set_read.specs.Document.{Names, act_form, step_form, piece_form}
use Rattle.set_read.specs.Forms.{◌>>=◌}
use Rattle.set_read.specs.inside.Tokens.{item_depth, argument_depth, piece_depth, piece_argument_depth, piece_after, SaysNumber, SaysItems, SaysValue}
use Rattle.set_read.proofs.TokenLaws.{no_more_items, one_item, array_said, number_item, string_item}

pub none_said : {A : Type 0} (depth : ℕ) (form : List Data → Option A) (ts r : List Token) (x : A) → after_end_array ts ≡ Some r
    → form [] ≡ Some x
    → SaysItems depth form ts x r
none_said depth form ts r x last e = (no_items, no_more_items depth ts r last, e)

pub named_said : {A : Type 0} (depth : ℕ) (form : List Data → Option A) (s : List ℕ) (ts t r : List Token) (x : A) → ts ≡ Token.string s ∷ t
    → after_end_array t ≡ Some r → form (string s ∷ []) ≡ Some x → SaysItems depth form ts x r
named_said depth form s ts t r x first last e =
    (item (string s) no_items, string_item depth s ts t r no_items first (no_more_items depth t r last), e)

pub counted_said : {A : Type 0} (depth : ℕ) (form : List Data → Option A) (n : ℕ) (ts t r : List Token) (x : A) → SaysNumber ts n t
    → after_end_array t ≡ Some r → form (number (unsigned n) ∷ []) ≡ Some x → SaysItems depth form ts x r
counted_said depth form n ts t r x first last e =
    (item (number (unsigned n)) no_items, number_item depth n ts t r no_items first (no_more_items depth t r last), e)

-- an item, and then others
pub one_said : {A : Type 0} (depth : ℕ) (form : Data → Option A) (later all : List Data → Option (List A))
    (ts r rest : List Token) (x : A) (xs : List A)
    → ((d : Data) (ds : List Data) → all (d ∷ ds) ≡ (form d >>= λ y. later ds >>= λ ys. Some (y ∷ ys)))
    → after_end_array ts ≡ None → SaysValue depth form ts x r → SaysItems depth later r xs rest → SaysItems depth all ts (x ∷ xs) rest
one_said depth form later all ts r rest x xs split going (d, first, is) (ds, more, are) =
    (item d ds, one_item depth ts r rest d ds going first more, split d _ ∙ rw (is, are) refl)

module _ (names : Names) where
  pub step_said : (ts a b c d r : List Token) (cpu tick : ℕ) (w : List ℕ) (act : Act) → ts ≡ Token.begin_array ∷ a → SaysNumber a cpu b
      → SaysNumber b tick c → c ≡ Token.string w ∷ d → SaysItems argument_depth (act_form names w) d act r
      → SaysValue item_depth (step_form names) ts (record { cpu = cpu; tick = tick; act = act }) r
  unfolding step_form
  step_said ts a b c d r cpu tick w act opened q t word (ds, said, e) =
      let words = string_item argument_depth w c d r ds word said in
      let ticks = number_item argument_depth tick b c r (item (string w) ds) t words in
      let cpus = number_item argument_depth cpu a b r (item (number (unsigned tick)) (item (string w) ds)) q ticks in (
        array (item (number (unsigned cpu)) (item (number (unsigned tick)) (item (string w) ds))),
        rw opened (array_said item_depth a r _ (omega arith) cpus),
        rw e refl,
      )

  pub piece_said : (ts a b r : List Token) (w : List ℕ) (piece : Piece) → ts ≡ Token.begin_array ∷ a → a ≡ Token.string w ∷ b
      → SaysItems piece_argument_depth (piece_after names w) b piece r → SaysValue piece_depth (piece_form names) ts piece r
  unfolding piece_form
  piece_said ts a b r w piece opened word (ds, said, e) = (
    array (item (string w) ds),
    rw opened (array_said piece_depth a r _ (omega arith) (string_item piece_argument_depth w a b r ds word said)),
    e,
  )
