-- The text of plain data reads as that data.
use Rattle.std.proofs.Common.{◌≡◌, ◌≤◌, suc, max, List, [], Option, Some, false, refl, sym, ap, ap₂, ◌∙◌, arith, append-nil}
use Rattle.std.specs.Option.{option_map, option_and_then}
use Rattle.json.specs.Token.{Token}
use Rattle.json.specs.Json as json
use Rattle.json.specs.Tree as tree
use Rattle.json.proofs.Printed.Trees.{value-json_tokens, ArePrintable-json_tokens}
use Rattle.json.proofs.Printed.Tokens.{tokens-print}
use Rattle.json.specs.Lex.{tokens}
use Rattle.json.proofs.Printed.Decimals.{IsNumber-decimal}
use Rattle.serde_json.specs.Data.{unsigned, negative, float, Data, null, boolean, number, string, array, object, Items, no_items, item, Members, no_members, member, put, depth, items_depth, members_depth}
use Rattle.serde_json.specs.Read.{read, max_depth, of_json, of_items, of_members}
use Rattle.serde_json.specs.Written.{compact_text, outline, items_outline, members_outline, has_float, items_have_float, members_have_float}
use Rattle.serde_json.proofs.Numbers.{number_of-decimal}
use Rattle.serde_json.proofs.Texts.{print-outline}
use Rattle.fleet_trace.specs.inside.Plain.{IsPlain, ItemsArePlain, MembersArePlain, put_all}

-- the data of parsed text that has nothing after it
abbrev whole : Option (json.Json × List Token) → Option Data
whole o = option_and_then of_json (option_and_then (λ p. json.if_last p.0 p.1) o)

mutual
  has_numbers : (d : Data) → IsPlain d → tree.HasNumbers (outline d)
  has_numbers null h = tt
  has_numbers (boolean b) h = tt
  has_numbers (number (unsigned n)) h = IsNumber-decimal n h
  has_numbers (number (negative z)) h = absurd h
  has_numbers (number (float x)) h = absurd h
  has_numbers (string s) h = tt
  has_numbers (array ds) h = items_have_numbers ds h
  has_numbers (object ms) h = members_have_numbers ms h.0

  items_have_numbers : (ds : Items) → ItemsArePlain ds → tree.ItemsHaveNumbers (items_outline ds)
  items_have_numbers no_items h = tt
  items_have_numbers (item d ds) h = (has_numbers d h.0, items_have_numbers ds h.1)

  members_have_numbers : (ms : Members) → MembersArePlain ms → tree.MembersHaveNumbers (members_outline ms)
  members_have_numbers no_members h = tt
  members_have_numbers (member k d ms) h = (has_numbers d h.0, members_have_numbers ms h.1)

mutual
  same_depth : (d : Data) → tree.depth (outline d) ≡ depth d
  same_depth null = refl
  same_depth (boolean b) = refl
  same_depth (number n) = refl
  same_depth (string s) = refl
  same_depth (array ds) = ap suc (items_same_depth ds)
  same_depth (object ms) = ap suc (members_same_depth ms)

  items_same_depth : (ds : Items) → tree.items_depth (items_outline ds) ≡ items_depth ds
  items_same_depth no_items = refl
  items_same_depth (item d ds) = ap₂ max (same_depth d) (items_same_depth ds)

  members_same_depth : (ms : Members) → tree.members_depth (members_outline ms) ≡ members_depth ms
  members_same_depth no_members = refl
  members_same_depth (member k d ms) = ap₂ max (same_depth d) (members_same_depth ms)

mutual
  of_outline : (d : Data) → IsPlain d → of_json (outline d) ≡ Some d
  of_outline null h = refl
  of_outline (boolean b) h = refl
  of_outline (number (unsigned n)) h = ap (option_map number) (number_of-decimal n h)
  of_outline (number (negative z)) h = absurd h
  of_outline (number (float x)) h = absurd h
  of_outline (string s) h = refl
  of_outline (array ds) h = ap (option_map array) (of_items_outline ds h)
  of_outline (object ms) h = ap (option_map object) (of_members_outline ms no_members h.0 ∙ ap (λ (x : Members). Some x) h.1)

  of_items_outline : (ds : Items) → ItemsArePlain ds → of_items (items_outline ds) ≡ Some ds
  of_items_outline no_items h = refl
  of_items_outline (item d ds) h = rw (of_outline d h.0, of_items_outline ds h.1) refl

  of_members_outline : (ms found : Members) → MembersArePlain ms → of_members (members_outline ms) found ≡ Some (put_all ms found)
  of_members_outline no_members found h = refl
  of_members_outline (member k d ms) found h = rw (of_outline d h.0) (of_members_outline ms (put k d found) h.1)

pub reads_back : (d : Data) → IsPlain d → depth d ≤ max_depth → read (compact_text d) ≡ Some d
reads_back d h shallow =
    let printed : tokens (compact_text d) ≡ tree.json_tokens (outline d) = ap tokens (sym (print-outline d)) ∙ tokens-print (tree.json_tokens (outline d)) (ArePrintable-json_tokens (outline d) (has_numbers d h)) in
    ap whole (ap (json.value max_depth) (printed ∙ sym (append-nil (tree.json_tokens (outline d)))) ∙ value-json_tokens (outline d) max_depth [] (omega (arith, same_depth d))) ∙ of_outline d h

mutual
  pub no_float : (d : Data) → IsPlain d → has_float d ≡ false
  no_float null h = refl
  no_float (boolean b) h = refl
  no_float (number (unsigned n)) h = refl
  no_float (number (negative z)) h = absurd h
  no_float (number (float x)) h = absurd h
  no_float (string s) h = refl
  no_float (array ds) h = items_no_float ds h
  no_float (object ms) h = members_no_float ms h.0

  items_no_float : (ds : Items) → ItemsArePlain ds → items_have_float ds ≡ false
  items_no_float no_items h = refl
  items_no_float (item d ds) h = rw (no_float d h.0) (items_no_float ds h.1)

  members_no_float : (ms : Members) → MembersArePlain ms → members_have_float ms ≡ false
  members_no_float no_members h = refl
  members_no_float (member k d ms) h = rw (no_float d h.0) (members_no_float ms h.1)
