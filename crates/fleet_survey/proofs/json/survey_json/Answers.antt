use Rattle.std.proofs.Common.{◌∙◌, ◌++◌, ℕ, List, ap, string_bytes}
use Rattle.std.specs.Prelude.{codes}
use Rattle.fleet_survey.specs.declared.ends.DeadEnd.{DeadEnd}
use Rattle.fleet_survey.specs.Json.{bridges_json, ends_json, listed_json, promises_json, served_json, sizes_json, survey_json}
use Rattle.fleet_survey.proofs.Pieces.{seven-is}
use Rattle.fleet_survey.proofs.json.survey_json.Goals as goal

pub returns : goal.returns
returns c =
    let s = c.args.s.now in
    let begun = string_bytes c.push_str.new.self in
    let sizes = string_bytes c.write_sizes.new.out in
    let bridges = string_bytes c.write_bridges.new.out in
    let ends = string_bytes c.write_ends.new.out in
    seven-is (string_bytes c.new-out.result) (codes "{") (sizes_json s) (bridges_json s.bridges.items) (ends_json s.ends.items) (served_json s.served) (listed_json c.args.listed) (promises_json s.standing)
    begun sizes bridges ends (string_bytes c.write_served.new.out) (string_bytes c.write_listed.new.out) (string_bytes c.write_promises.new.out)
    c.in_ok-push_str.ensures.bytes c.in_ok-write_sizes.ensures (c.in_ok-write_bridges.ensures ∙ ap (λ (xs : List (ℕ × ℕ)). sizes ++ bridges_json xs) c.deref.ensures.value)
    (c.in_ok-write_ends.ensures ∙ ap (λ (xs : List DeadEnd). bridges ++ ends_json xs) c.deref-2.ensures.value) c.in_ok-write_served.ensures c.in_ok-write_listed.ensures c.in_ok-write_promises.ensures
    ∙ ap (λ (xs : List ℕ). xs ++ survey_json s c.args.listed) c.new-out.ensures.bytes
