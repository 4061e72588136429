-- The text, piece by piece.
use Rattle.std.proofs.Common.{◌≡◌, ◌∙◌, ◌++◌, refl, List, ℕ, ap, codes, map, append_assoc}
use Rattle.fleet_trace.specs.Text.{listed}
use Rattle.fleet_site.specs.Text.{standing_data}
use Rattle.std.specs.Fmt.{digits}
use Rattle.std.specs.Prelude.{Result, Ok, Err, OnOk, is_ok, if◌then◌else◌}
use Rattle.std.proofs.lemmas.Result.{on_ok_weaker}
use Rattle.fleet_site.proofs.Lists.{grown, on_ok_if, standings-no_float}
use Rattle.fleet_site.proofs.write.push_rest.Goals as goal

joined : (t0 t1 t2 t3 a b c : List ℕ) → t1 ≡ t0 ++ a → t2 ≡ t1 ++ b → t3 ≡ t2 ++ c → t3 ≡ t0 ++ (a ++ (b ++ c))
joined t0 t1 t2 t3 a b c h1 h2 h3 = rw (h3, h2, h1) (append_assoc (t0 ++ a) b c ∙ append_assoc t0 a (b ++ c))

pub returns : goal.returns
unfolding digits
returns c =
    let first = grown _ _ _ _ (codes ",\"map\":") c.from.ensures refl c.in_ok-push_value.ensures in
    let second = grown _ _ _ _ (codes ",\"standings\":") (c.in_ok-standings.ensures ∙ ap (λ xs. listed (map standing_data xs)) c.deref.ensures.value) (standings-no_float c.args.site.now.standings.items) c.in_ok-push_value-2.ensures in
    on_ok_weaker c.push_str.result (λ last. joined _ _ _ _ _ _ (codes ",\"version\":1}") first second last) (on_ok_if c.push_str.result _ _ _ c.push_str.ensures.bytes)
