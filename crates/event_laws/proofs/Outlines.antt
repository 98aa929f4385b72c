-- What the outline of a value is read as, where its numbers are whole.
use Rattle.std.proofs.Common.{◌≡◌, ℕ, suc, max, ◌^◌, ◌<◌, ◌≤◌, Some, option_map, refl, ap, ap₂, ◌∙◌}
use Rattle.json.specs.Tree as tree
use Rattle.json.proofs.Printed.Decimals.{IsNumber-decimal}
use Rattle.serde_json.specs.Data.{unsigned, negative, float, Data, null, boolean, number, string, array, object, Items, no_items, item, Members, no_members, member, put, depth, items_depth, members_depth}
use Rattle.serde_json.specs.Read.{of_json, of_items, of_members}
use Rattle.serde_json.specs.Written.{outline, items_outline, members_outline}
use Rattle.serde_json.proofs.Numbers.{number_of-decimal}
use Rattle.event_laws.specs.AsRead.{IsWhole, ItemsAreWhole, MembersAreWhole, as_read, items_read, members_read}

mutual
  pub of_json-outline : (d : Data) → IsWhole d → of_json (outline d) ≡ Some (as_read d)
  of_json-outline null h = refl
  of_json-outline (boolean b) h = refl
  of_json-outline (number (unsigned n)) h = ap (option_map number) (number_of-decimal n h)
  of_json-outline (number (negative z)) h = absurd h
  of_json-outline (number (float x)) h = absurd h
  of_json-outline (string s) h = refl
  of_json-outline (array ds) h = ap (option_map array) (of_items-outline ds h)
  of_json-outline (object ms) h = ap (option_map object) (of_members-outline ms no_members h)

  of_items-outline : (ds : Items) → ItemsAreWhole ds → of_items (items_outline ds) ≡ Some (items_read ds)
  of_items-outline no_items h = refl
  of_items-outline (item d ds) h = rw (of_json-outline d h.0) (ap (option_map (item (as_read d))) (of_items-outline ds h.1))

  of_members-outline : (ms found : Members) → MembersAreWhole ms → of_members (members_outline ms) found ≡ Some (members_read ms found)
  of_members-outline no_members found h = refl
  of_members-outline (member k d ms) found h = rw (of_json-outline d h.0) (of_members-outline ms (put k (as_read d) found) h.1)

-- each number's text is a number, and the outline nests as deep

mutual
  pub HasNumbers-outline : (d : Data) → IsWhole d → tree.HasNumbers (outline d)
  HasNumbers-outline null h = tt
  HasNumbers-outline (boolean b) h = tt
  HasNumbers-outline (number (unsigned n)) h = IsNumber-decimal n h
  HasNumbers-outline (number (negative z)) h = absurd h
  HasNumbers-outline (number (float x)) h = absurd h
  HasNumbers-outline (string s) h = tt
  HasNumbers-outline (array ds) h = ItemsHaveNumbers-outline ds h
  HasNumbers-outline (object ms) h = MembersHaveNumbers-outline ms h

  ItemsHaveNumbers-outline : (ds : Items) → ItemsAreWhole ds → tree.ItemsHaveNumbers (items_outline ds)
  ItemsHaveNumbers-outline no_items h = tt
  ItemsHaveNumbers-outline (item d ds) h = (HasNumbers-outline d h.0, ItemsHaveNumbers-outline ds h.1)

  MembersHaveNumbers-outline : (ms : Members) → MembersAreWhole ms → tree.MembersHaveNumbers (members_outline ms)
  MembersHaveNumbers-outline no_members h = tt
  MembersHaveNumbers-outline (member k d ms) h = (HasNumbers-outline d h.0, MembersHaveNumbers-outline ms h.1)

mutual
  pub depth-outline : (d : Data) → tree.depth (outline d) ≡ depth d
  depth-outline null = refl
  depth-outline (boolean b) = refl
  depth-outline (number n) = refl
  depth-outline (string s) = refl
  depth-outline (array ds) = ap suc (items_depth-outline ds)
  depth-outline (object ms) = ap suc (members_depth-outline ms)

  items_depth-outline : (ds : Items) → tree.items_depth (items_outline ds) ≡ items_depth ds
  items_depth-outline no_items = refl
  items_depth-outline (item d ds) = ap₂ max (depth-outline d) (items_depth-outline ds)

  members_depth-outline : (ms : Members) → tree.members_depth (members_outline ms) ≡ members_depth ms
  members_depth-outline no_members = refl
  members_depth-outline (member k d ms) = ap₂ max (depth-outline d) (members_depth-outline ms)
