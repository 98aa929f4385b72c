-- The values that a text says, lexeme by lexeme.
use Rattle.std.proofs.Common.{◌≡◌, ℕ, true, false, List, [], ◌∷◌, Option, None, Some, refl, sym, ap, ◌∙◌}
use Rattle.json.specs.Json.{after_end_array, read_key}
use Rattle.json.specs.Lex.{token, comma, between, lex, Place, fresh, after_value, after_comma, begins_colon, may_begin, if_allowed, place_token, punctuate, tokens}
use Rattle.json.specs.Token.{Token}
use Rattle.json.specs.Word.{ends_word}
use Rattle.rt_task.specs.declared.Act.{Act}
use Rattle.rt_task.specs.declared.draft.Piece.{Piece}
use Rattle.serde_json.specs.Data.{Data, number, string, unsigned}
use Rattle.set_read.specs.Document.{Names, act_form, piece_form, step_form}
use Rattle.set_read.specs.Forms.{◌>>=◌}
use Rattle.set_read.specs.inside.Texts.{tokens_at, BeginsWith, BeginsWithNumber, BeginsWithArgument, BeginsWithValue, EndsArray}
use Rattle.set_read.specs.inside.Tokens.{item_depth, argument_depth, piece_depth, piece_argument_depth, piece_after, SaysNumber, SaysItems}
use Rattle.set_read.proofs.PlaceLaws.{token_at}
use Rattle.set_read.proofs.ItemLaws.{none_said, counted_said, named_said, one_said, piece_said, step_said}

-- ---- one lexeme, and the tokens from the place behind it

number_token : (p : Place) (text rest : List ℕ) (n : ℕ) → may_begin p ≡ true → BeginsWithNumber n text rest
    → SaysNumber (tokens_at p text) n (tokens_at after_value rest)
number_token p text rest n begin (s, first, is) = (
  s,
  ap (punctuate p) first ∙ token_at p (Token.number s) (lex between rest)
      ∙ ap (λ b. if_allowed b (Token.number s) (λ next. punctuate next (lex between rest)) after_value) begin,
  is,
)

word_token : (p : Place) (text rest s : List ℕ) → may_begin p ≡ true → BeginsWith (token (Token.string s)) text rest
    → begins_colon (lex between rest) ≡ false
    → tokens_at p text ≡ Token.string s ∷ tokens_at after_value rest
word_token p text rest s begin first no_key =
    let more = λ (next : Place). punctuate next (lex between rest) in
    ap (punctuate p) first ∙ token_at p (Token.string s) (lex between rest) ∙ ap (λ b. place_token p (Token.string s) b more) no_key
    ∙ ap (λ b. if_allowed b (Token.string s) more after_value) begin

bracket_token : (p : Place) (text rest : List ℕ) → may_begin p ≡ true → BeginsWith (token Token.begin_array) text rest
    → tokens_at p text ≡ Token.begin_array ∷ tokens rest
bracket_token p text rest begin first =
    ap (punctuate p) first ∙ token_at p Token.begin_array (lex between rest)
    ∙ ap (λ b. if_allowed b Token.begin_array (λ next. punctuate next (lex between rest)) fresh) begin

comma_token : (text rest : List ℕ) → BeginsWith comma text rest → tokens_at after_value text ≡ tokens_at after_comma rest
unfolding punctuate
comma_token text rest first = ap (punctuate after_value) first

pub end_token : (text rest : List ℕ) → BeginsWith (token Token.end_array) text rest
    → tokens_at after_value text ≡ Token.end_array ∷ tokens_at after_value rest
unfolding punctuate
end_token text rest first = ap (punctuate after_value) first

pub brace_token : (p : Place) (text rest : List ℕ) → may_begin p ≡ true → BeginsWith (token Token.begin_object) text rest
    → tokens_at p text ≡ Token.begin_object ∷ tokens rest
brace_token p text rest begin first =
    ap (punctuate p) first ∙ token_at p Token.begin_object (lex between rest)
    ∙ ap (λ b. if_allowed b Token.begin_object (λ next. punctuate next (lex between rest)) fresh) begin

pub end_of_object : (text rest : List ℕ) → BeginsWith (token Token.end_object) text rest
    → read_key (tokens_at after_value text) ≡ Some (None, tokens_at after_value rest)
unfolding punctuate
end_of_object text rest first = ap (λ ls. read_key (punctuate after_value ls)) first

-- the end of the object, and of the text
pub end_of_text : (text rest : List ℕ) → BeginsWith (token Token.end_object) text rest → lex between rest ≡ lex between []
    → read_key (tokens_at after_value text) ≡ Some (None, [])
unfolding lex punctuate
end_of_text text rest first over = ap (λ ls. read_key (punctuate after_value ls)) (first ∙ ap (λ ls. token Token.end_object ∷ ls) over)

-- ---- arrays

pub name_argument : {A : Type 0} (depth : ℕ) (form : List Data → Option A) (s text quoted rest : List ℕ) (x : A)
    → lex between quoted ≡ lex between text → BeginsWith (token (Token.string s)) quoted rest → Some x ≡ form (string s ∷ [])
    → BeginsWithArgument depth form x text rest
name_argument depth form s text quoted rest x same first e last closed ended =
    let word = word_token after_comma text rest s refl (sym same ∙ first) (ap begins_colon closed) in
    named_said depth form s (tokens_at after_comma text) (tokens_at after_value rest) (tokens_at after_value last) x word
    (ap after_end_array (end_token rest last closed)) (sym e)

pub number_argument : {A : Type 0} (depth : ℕ) (form : List Data → Option A) (text plain rest : List ℕ) (n : ℕ) (x : A)
    → lex between plain ≡ lex between text → (ends_word rest ≡ true → BeginsWithNumber n plain rest)
    → Some x ≡ form (number (unsigned n) ∷ [])
    → BeginsWithArgument depth form x text rest
number_argument depth form text plain rest n x same first e last closed ended =
    let f = first ended in
    let said = number_token after_comma text rest n refl (f.0, sym same ∙ f.1, f.2) in
    counted_said depth form n (tokens_at after_comma text) (tokens_at after_value rest) (tokens_at after_value last) x said
    (ap after_end_array (end_token rest last closed)) (sym e)

module _ {A : Type 0} (depth : ℕ) (form : List ℕ → List Data → Option A) (place : Place) (begin : may_begin place ≡ true) where
  pub bare_ends : (w text quoted rest last : List ℕ) (x : A) → lex between quoted ≡ lex between text
      → BeginsWith (token (Token.string w)) quoted rest → form w [] ≡ Some x → BeginsWith (token Token.end_array) rest last
      → EndsArray depth form place x text last
  bare_ends w text quoted rest last x same first e closed = (
    w,
    tokens_at after_value rest,
    word_token place text rest w begin (sym same ∙ first) (ap begins_colon closed),
    none_said depth (form w) (tokens_at after_value rest) (tokens_at after_value last) x
        (ap after_end_array (end_token rest last closed)) e,
  )

  pub argument_ends : (w text quoted rest more behind last : List ℕ) (x : A) → lex between quoted ≡ lex between text
      → BeginsWith (token (Token.string w)) quoted rest → BeginsWith comma rest more → BeginsWithArgument depth (form w) x more behind
      → BeginsWith (token Token.end_array) behind last → ends_word behind ≡ true → EndsArray depth form place x text last
  argument_ends w text quoted rest more behind last x same first next says closed ended = (
    w,
    tokens_at after_comma more,
    word_token place text rest w begin (sym same ∙ first) (ap begins_colon next)
        ∙ ap (λ ts. Token.string w ∷ ts) (comma_token rest more next),
    says last closed ended,
  )

module _ (names : Names) where
  pub plain_step : (text a b c d e rest : List ℕ) (cpu tick : ℕ) (act : Act) → BeginsWith (token Token.begin_array) text a
      → BeginsWithNumber cpu a b
      → BeginsWith comma b c → BeginsWithNumber tick c d → BeginsWith comma d e
      → EndsArray argument_depth (act_form names) after_comma act e rest
      → BeginsWithValue item_depth (step_form names) (record { cpu = cpu; tick = tick; act = act }) text rest
  plain_step text a b c d e rest cpu tick act opened first next second after (w, ts, word, says) place begin =
      let array = bracket_token place text a begin opened in
      let cpu_said = rw (comma_token b c next) at (number_token fresh a b cpu refl first) in
      let tick_said = rw (comma_token d e after) at (number_token after_comma c d tick refl second) in (
        step_said names (tokens_at place text) (tokens a) (tokens_at after_comma c) (tokens_at after_comma e) ts
            (tokens_at after_value rest) cpu tick w act
            array cpu_said tick_said word says,
        ap after_end_array array,
      )

  pub plain_piece : (text a rest : List ℕ) (piece : Piece) → BeginsWith (token Token.begin_array) text a
      → EndsArray piece_argument_depth (piece_after names) fresh piece a rest
      → BeginsWithValue piece_depth (piece_form names) piece text rest
  plain_piece text a rest piece opened (w, ts, word, says) place begin =
      let array = bracket_token place text a begin opened in (
        piece_said names (tokens_at place text) (tokens a) ts (tokens_at after_value rest) w piece array word says,
        ap after_end_array array,
      )

-- ---- items

-- A list of items has its form where the first has its own, and the others have theirs.
module _ {A : Type 0} (depth : ℕ) (form : Data → Option A) (later all : List Data → Option (List A))
    (split : (d : Data) (ds : List Data) → all (d ∷ ds) ≡ (form d >>= λ y. later ds >>= λ ys. Some (y ∷ ys))) where
  -- behind an item a comma stands, and more of them, or the bracket that closes them
  pub one_more : (place : Place) (text rest more : List ℕ) (x : A) (xs : List A) (ts : List Token) → may_begin place ≡ true
      → BeginsWithValue depth form x text rest → BeginsWith comma rest more → SaysItems depth later (tokens_at after_comma more) xs ts
      → SaysItems depth all (tokens_at place text) (x ∷ xs) ts
  one_more place text rest more x xs ts begin first next others =
      let s = first place begin in
      one_said depth form later all (tokens_at place text) (tokens_at after_value rest) ts x xs split s.1 s.0
      (rw (comma_token rest more next) others)

  pub one_last : (place : Place) (text rest last : List ℕ) (x : A) → later [] ≡ Some [] → may_begin place ≡ true
      → BeginsWithValue depth form x text rest → BeginsWith (token Token.end_array) rest last
      → SaysItems depth all (tokens_at place text) (x ∷ []) (tokens_at after_value last)
  one_last place text rest last x over begin first closed =
      let s = first place begin in
      let none =
      none_said depth later (tokens_at after_value rest) (tokens_at after_value last) []
      (ap after_end_array (end_token rest last closed)) over in
      one_said depth form later all (tokens_at place text) (tokens_at after_value rest) (tokens_at after_value last) x [] split s.1 s.0 none
