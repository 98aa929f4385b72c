-- The whole text is read as the whole value.
use Rattle.std.proofs.Common.{◌≡◌, ℕ, suc, ◌≤◌, max, List, [], ◌∷◌, ◌++◌, map, Some, refl, ap, ap₂, ◌∙◌, arith, subst}
use Rattle.std.specs.Prelude.{codes, flat_map}
use Rattle.rt_model.specs.Group.{Group}
use Rattle.rt_model.specs.Past.{Past}
use Rattle.serde_json.specs.Data.{Data, array, items_depth, string}
use Rattle.serde_json.specs.Read.{read}
use Rattle.serde_json.specs.Written.{compact_text}
use Rattle.event_texts.specs.EventText.{event_text}
use Rattle.event_texts.specs.EventText as text
use Rattle.event_texts.specs.Records.{Piece}
use Rattle.event_laws.specs.AsRead.{ItemsAreWhole, as_read}
use Rattle.event_laws.specs.EventValues.{Field, items_of, members_of, object_of}
use Rattle.event_laws.specs.GroupValues.{document_of, event_value, group_events}
use Rattle.event_laws.proofs.Events.{AreEvents, Each, IsEvent}
use Rattle.event_laws.proofs.Lines.{document, document-read, document_text, objects}
use Rattle.event_laws.proofs.Pieces.{text_of}

objects-of : (vs : List (List Field)) → objects (map members_of vs) ≡ map object_of vs
objects-of [] = refl
objects-of (v ∷ vs) = ap (λ l. object_of v ∷ l) (objects-of vs)

texts-of : (vs : List (List Field)) → map text_of vs ≡ map compact_text (objects (map members_of vs))
texts-of [] = refl
texts-of (v ∷ vs) = ap (λ l. text_of v ∷ l) (texts-of vs)

items-whole : (vs : List (List Field)) → Each IsEvent vs → ItemsAreWhole (items_of (objects (map members_of vs)))
items-whole [] h = tt
items-whole (v ∷ vs) h = (h.0.whole, items-whole vs h.1)

items-shallow : (vs : List (List Field)) → Each IsEvent vs → items_depth (items_of (objects (map members_of vs))) ≤ 10
items-shallow [] h = omega arith
items-shallow (v ∷ vs) h = omega (arith, h.0.shallow, items-shallow vs h.1)

pub text-read : (gs : List (Group × Past)) → AreEvents (flat_map (λ (x : Group × Past). text.group_events x.0 x.1) gs) (flat_map (λ (x : Group × Past). group_events x.0 x.1) gs)
    → read (event_text gs) ≡ Some (as_read (event_value gs))
unfolding event_text event_value
text-read gs are =
    ap (λ ps. read (document_text ps)) (are.texts ∙ texts-of vs)
    ∙ document-read (map members_of vs) (tt, (items-whole vs are.events, tt)) (omega (arith, items-shallow vs are.events))
    ∙ ap (λ ds. Some (as_read (document_by ds))) (objects-of vs)
  where
    vs : List (List Field)
    vs = flat_map (λ (x : Group × Past). group_events x.0 x.1) gs

    document_by : List Data → Data
    document_by ds = object_of ((codes "displayTimeUnit", string (codes "ms")) ∷ (codes "traceEvents", array (items_of ds)) ∷ [])
