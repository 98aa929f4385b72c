-- The value that bytes are, as reading them answers.
use Rattle.std.proofs.Common.{◌≡◌, ℕ, List, Bool, true, false, None, Some, refl}
use Rattle.std.specs.Str.{IsUtf8, is_utf8}
use Rattle.std.proofs.lemmas.Str.{is_utf8-from_IsUtf8, IsUtf8-from_is_utf8}
use Rattle.serde_json.specs.Data.{Data}
use Rattle.serde_json.specs.Read.{read}
use Rattle.set_read.specs.Sets.{value_of}

pub value-read : (bytes : List ℕ) (d : Data) → IsUtf8 bytes → read bytes ≡ Some d → value_of bytes ≡ Some d
unfolding value_of
value-read bytes d utf8 e = rw (is_utf8-from_IsUtf8 bytes utf8, e) refl

pub value-unread : (bytes : List ℕ) → (IsUtf8 bytes → read bytes ≡ None) → value_of bytes ≡ None
unfolding value_of
value-unread bytes h = by_test (is_utf8 bytes) refl
  where
    by_test : (b : Bool) → is_utf8 bytes ≡ b → value_of bytes ≡ None
    by_test true e = rw (e, h (IsUtf8-from_is_utf8 bytes e)) refl
    by_test false e = rw e refl
