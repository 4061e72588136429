-- The text, piece by piece.
use Rattle.std.proofs.Common.{◌≡◌, ◌∙◌, ◌++◌, [], List, ℕ, ap, codes, append_assoc}
use Rattle.std.specs.Fmt.{digits}
use Rattle.json.specs.Print.{escape_byte}
use Rattle.serde_json.specs.Written.{compact_text}
use Rattle.fleet_trace.specs.Text.{opening_data}
use Rattle.fleet_site.specs.Record.{record_of}
use Rattle.fleet_site.specs.Text.{lists_text, rest_text}
use Rattle.fleet_site.proofs.Lists.{text-pieces}
use Rattle.fleet_site.proofs.write.write_site.Goals as goal

joined : (t0 t1 t2 t3 t4 a b o d : List ℕ) → t0 ≡ [] → t1 ≡ t0 ++ a → t2 ≡ t1 ++ b → t3 ≡ t2 ++ o → t4 ≡ t3 ++ d → t4 ≡ a ++ (b ++ (o ++ d))
joined t0 t1 t2 t3 t4 a b o d h0 h1 h2 h3 h4 = rw (h4, h3, h2, h1, h0) (append_assoc (a ++ b) o d ∙ append_assoc a b (o ++ d))

pub returns : goal.returns
returns c =
    joined _ _ _ _ _ _ _ _ _ c.new-text.ensures.bytes c.in_ok-push_lists.ensures c.in_ok-push_str.ensures.bytes c.in_ok-push_opening.ensures.text c.in_ok-push_rest.ensures
    ∙ text-pieces (record_of c.args.site.now)
