use Rattle.std.proofs.Common.{◌≡◌, ◌++◌, ◌∙◌, ap, false, string_bytes}
use Rattle.std.proofs.lemmas.Result.{on_ok_weaker}
use Rattle.serde_json.specs.Written.{compact_text, has_float}
use Rattle.fleet_trace.proofs.NoFloat as none
use Rattle.fleet_trace.proofs.pieces.push_opening.Goals as goal

pub returns-clause-text : goal.returns-clause-text
returns-clause-text g c =
    let value = c.in_ok-value.ensures.value in
    on_ok_weaker c.push_value.result (λ told. told (ap has_float value ∙ none.opening c.args.opening.now) ∙ ap (λ x. string_bytes c.args.text.now ++ compact_text x) value) c.push_value.ensures
