use Rattle.std.proofs.Common.{◌∙◌, ◌++◌, ℕ, List, ap, string_bytes}
use Rattle.std.specs.Prelude.{codes}
use Rattle.fleet_survey.specs.Json.{promised}
use Rattle.fleet_survey.proofs.Pieces.{pushed, three-is}
use Rattle.fleet_survey.proofs.json.write_promises.Goals as goal

pub returns : goal.returns
returns c =
    let begun = string_bytes c.push_str.new.self in
    let more = string_bytes c.push_str-2.new.self in
    let all = string_bytes c.push_str-3.new.self in
    pushed c.push_str-3.result all (more ++ codes "\"}\n") more _ c.push_str-3.ensures.bytes
    (λ h. three-is (string_bytes c.args.out.now) (codes "\"promises\":\"") (promised c.args.standing) (codes "\"}\n") begun more all c.in_ok-push_str.ensures.bytes
    (c.in_ok-push_str-2.ensures.bytes ∙ ap (λ (xs : List ℕ). begun ++ xs) c.promised.ensures) h)
