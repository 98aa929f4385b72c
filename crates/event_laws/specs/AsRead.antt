-- What a value is read as: the members of an object go in one after another, each to its position by its key.
use Rattle.std.specs.Prelude.{◌<◌, ◌^◌, List, ⊤}
use Rattle.serde_json.specs.Data.{Data, null, boolean, number, string, array, object, Items, no_items, item, Members, no_members, member}
use Rattle.serde_json.specs.Data.{put}
use Rattle.serde_json.specs.Data.{unsigned, negative, float}

abbrev mutual
  pub as_read : Data → Data
  as_read null = null
  as_read (boolean b) = boolean b
  as_read (number n) = number n
  as_read (string s) = string s
  as_read (array ds) = array (items_read ds)
  as_read (object ms) = object (members_read ms no_members)

  pub items_read : Items → Items
  items_read no_items = no_items
  items_read (item d ds) = item (as_read d) (items_read ds)

  pub members_read : Members → Members → Members
  members_read no_members found = found
  members_read (member k d ms) found = members_read ms (put k (as_read d) found)

-- its numbers are whole numbers below 2^64
abbrev mutual
  pub IsWhole : Data → Type 0
  IsWhole null = ⊤
  IsWhole (boolean b) = ⊤
  IsWhole (number (unsigned n)) = n < 2 ^ 64
  IsWhole (number (negative z)) = ⊥
  IsWhole (number (float x)) = ⊥
  IsWhole (string s) = ⊤
  IsWhole (array ds) = ItemsAreWhole ds
  IsWhole (object ms) = MembersAreWhole ms

  pub ItemsAreWhole : Items → Type 0
  ItemsAreWhole no_items = ⊤
  ItemsAreWhole (item d ds) = IsWhole d × ItemsAreWhole ds

  pub MembersAreWhole : Members → Type 0
  MembersAreWhole no_members = ⊤
  MembersAreWhole (member k d ms) = IsWhole d × MembersAreWhole ms
