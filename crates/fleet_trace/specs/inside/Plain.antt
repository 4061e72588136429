-- JSON values whose compact text reads back.
use Rattle.std.specs.Prelude.{◌≡◌, ◌^◌, ◌<◌, ⊤}
use Rattle.serde_json.specs.Data.{unsigned, negative, float, Data, null, boolean, number, string, array, object, Items, no_items, item, Members, no_members, member, put}

-- the members, put in one after another
abbrev pub put_all : Members → Members → Members
put_all no_members found = found
put_all (member k d ms) found = put_all ms (put k d found)

abbrev mutual
  -- each number is a count, and each object has its keys once and in order
  pub IsPlain : Data → Type 0
  IsPlain null = ⊤
  IsPlain (boolean b) = ⊤
  IsPlain (number (unsigned n)) = n < 2 ^ 64
  IsPlain (number (negative z)) = ⊥
  IsPlain (number (float x)) = ⊥
  IsPlain (string s) = ⊤
  IsPlain (array ds) = ItemsArePlain ds
  IsPlain (object ms) = MembersArePlain ms × (put_all ms no_members ≡ ms)

  pub ItemsArePlain : Items → Type 0
  ItemsArePlain no_items = ⊤
  ItemsArePlain (item d ds) = IsPlain d × ItemsArePlain ds

  pub MembersArePlain : Members → Type 0
  MembersArePlain no_members = ⊤
  MembersArePlain (member k d ms) = IsPlain d × MembersArePlain ms
