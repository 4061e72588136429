-- The text, piece by piece.
use Rattle.std.proofs.Common.{◌≡◌, ◌∙◌, ◌++◌, refl, List, ℕ, ap, codes, map, string_bytes, append_assoc}
use Rattle.std.proofs.lemmas.Result.{on_ok_weaker}
use Rattle.std.specs.Fmt.{digits}
use Rattle.serde_json.specs.Written.{compact_text, has_float}
use Rattle.fleet_trace.specs.Text.{counted, listed}
use Rattle.fleet_site.specs.Text.{change_data, dropped_data}
use Rattle.fleet_site.proofs.Lists.{changes-no_float, dropped-no_float, grown}
use Rattle.fleet_site.proofs.write.push_lists.Goals as goal

joined : (t0 t1 t2 t3 a b c : List ℕ) → t1 ≡ t0 ++ a → t2 ≡ t1 ++ b → t3 ≡ t2 ++ c → t3 ≡ t0 ++ (a ++ (b ++ c))
joined t0 t1 t2 t3 a b c h1 h2 h3 = rw (h3, h2, h1) (append_assoc (t0 ++ a) b c ∙ append_assoc t0 a (b ++ c))

pub returns : goal.returns
unfolding digits
returns c =
    let cs = c.args.site.now.changes.items in
    let ds = c.args.site.now.dropped.items in
    let first = grown _ _ _ _ (codes "{\"changes\":") (c.in_ok-changes.ensures ∙ ap (λ xs. listed (map change_data xs)) c.deref.ensures.value) (changes-no_float cs) c.in_ok-push_value.ensures in
    let second = grown _ _ _ _ (codes ",\"chapter\":") c.from.ensures refl c.in_ok-push_value-2.ensures in
    on_ok_weaker c.push_value-3.result (λ told. joined _ _ _ _ _ _ _ first second (grown _ _ _ _ (codes ",\"dropped\":") (c.in_ok-dropped.ensures ∙ ap (λ xs. listed (map dropped_data xs)) c.deref-2.ensures.value) (dropped-no_float ds) told)) c.push_value-3.ensures
