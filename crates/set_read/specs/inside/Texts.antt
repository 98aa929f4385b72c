-- What stands at the front of a text, by the lexemes and the tokens that are read of it.
use Rattle.std.specs.Prelude.{◌≡◌, ℕ, List, [], ◌∷◌, ◌++◌, Option, None, Some, true}
use Rattle.json.specs.Json as json
use Rattle.json.specs.Lex.{Lexeme, token, between, lex, Place, after_value, after_comma, may_begin, punctuate, tokens}
use Rattle.json.specs.Token.{Token}
use Rattle.json.specs.Word.{ends_word}
use Rattle.serde_json.specs.Data.{Data, unsigned}
use Rattle.serde_json.specs.Read.{number_of, of_json}
use Rattle.set_read.specs.inside.Tokens.{LeavesItems, SaysItems, SaysValue, with_no_items}

-- the tokens from a place of the text on
abbrev pub tokens_at : Place → List ℕ → List Token
tokens_at place text = punctuate place (lex between text)

-- the lexeme stands first, and rest follows it
abbrev pub BeginsWith : Lexeme → List ℕ → List ℕ → Type 0
BeginsWith l text rest = lex between text ≡ l ∷ lex between rest

-- a number of 64 bits
abbrev pub BeginsWithNumber : ℕ → List ℕ → List ℕ → Type 0
BeginsWithNumber n text rest = (s : List ℕ) × BeginsWith (token (Token.number s)) text rest × (number_of s ≡ Some (unsigned n))

-- ---- arrays

-- the one argument of a word, if the bracket that closes the array follows it
abbrev pub BeginsWithArgument : {A : Type 0} → ℕ → (List Data → Option A) → A → List ℕ → List ℕ → Type 0
BeginsWithArgument depth form x text rest =
    (last : List ℕ) → BeginsWith (token Token.end_array) rest last → ends_word rest ≡ true
    → SaysItems depth form (tokens_at after_comma text) x (tokens_at after_value last)

-- a word at this place of an array, its argument if it has one, and the bracket that closes the array
abbrev pub EndsArray : {A : Type 0} → ℕ → (List ℕ → List Data → Option A) → Place → A → List ℕ → List ℕ → Type 0
EndsArray depth form place x text rest =
    (word : List ℕ) × (ts : List Token) × (tokens_at place text ≡ Token.string word ∷ ts)
    × SaysItems depth (form word) ts x (tokens_at after_value rest)

-- a value of this form, wherever a value may begin
abbrev pub BeginsWithValue : {A : Type 0} → ℕ → (Data → Option A) → A → List ℕ → List ℕ → Type 0
BeginsWithValue depth form x text rest =
    (place : Place) → may_begin place ≡ true
    → SaysValue depth form (tokens_at place text) x (tokens_at after_value rest) × (json.after_end_array (tokens_at place text) ≡ None)

-- ---- the text before the items of a last member

-- the bracket of the items, and the two that close them and the object
abbrev pub closing : List ℕ
closing = 91 ∷ 93 ∷ 125 ∷ []

-- the text before the bracket of the items, where the object reads as this value if there are none
abbrev pub OpensItems : List ℕ → ℕ → List ℕ → Data → Type 0
OpensItems key depth text value =
    (ms : json.Members) × ((items : List ℕ) → LeavesItems key depth (tokens (text ++ 91 ∷ items)) ms (tokens items))
    × (of_json (with_no_items key ms) ≡ Some value)
