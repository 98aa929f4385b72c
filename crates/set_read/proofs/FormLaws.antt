-- Laws of forms.
use Rattle.std.proofs.Common.{◌≡◌, ℕ, List, [], ◌∷◌, map, ◌&&◌, Some, String, string_bytes, refl, ap}
use Rattle.std.specs.List.{list_all}
use Rattle.std.specs.declared.alloc.Global.{Global}
use Rattle.serde_json.specs.Data.{Data, null, boolean, number, string, array, object, Members}
use Rattle.serde_json.specs.Find.{as_object}
use Rattle.serde_json.specs.View.{view, items_view, members_view}
use Rattle.serde_json.specs.declared.value.Value.{Value}
use Rattle.set_read.specs.Forms as forms

pub all_among-members_view : (words : List (List ℕ)) (es : List (String Global × Value)) → forms.all_among words (members_view es) ≡ list_all (λ k. forms.is_among words (string_bytes k)) (map (λ e. e.0) es)
all_among-members_view words [] = refl
all_among-members_view words (e ∷ es) = ap (λ b. forms.is_among words (string_bytes e.0) && b) (all_among-members_view words es)

pub object_of-members : (words : List (List ℕ)) (d : Data) (ms : Members) → Some ms ≡ as_object d → forms.when (forms.all_among words ms) ≡ forms.object_of words d
object_of-members words null ms e = cc
object_of-members words (boolean b) ms e = cc
object_of-members words (number n) ms e = cc
object_of-members words (string s) ms e = cc
object_of-members words (array ds) ms e = cc
object_of-members words (object ns) ms e = let same : ms ≡ ns = cc in ap (λ x. forms.when (forms.all_among words x)) same

pub listed_items : (vs : List Value) → forms.listed (items_view vs) ≡ map view vs
listed_items [] = refl
listed_items (v ∷ vs) = ap (λ ds. view v ∷ ds) (listed_items vs)
