use Rattle.std.proofs.Common.{◌++◌, string_bytes}
use Rattle.std.specs.Prelude.{codes}
use Rattle.fleet_survey.specs.Json.{bridge_json, commas}
use Rattle.fleet_survey.proofs.Pieces.{pushed, three-is}
use Rattle.fleet_survey.proofs.json.write_bridges.Goals as goal

pub returns : goal.returns
returns c =
    let bridges = commas bridge_json c.args.bridges.now in
    let begun = string_bytes c.push_str.new.self in
    let more = string_bytes c.write_each_bridge.new.out in
    let all = string_bytes c.push_str-2.new.self in
    pushed c.push_str-2.result all (more ++ codes "],") more _ c.push_str-2.ensures.bytes
    (λ h. three-is (string_bytes c.args.out.now) (codes "\"bridges\":[") bridges (codes "],") begun more all c.in_ok-push_str.ensures.bytes c.in_ok-write_each_bridge.ensures h)
