-- Why there is no text for a map and traces.
use Rattle.std.proofs.Common.{rules, ◌≡◌, refl}
use Rattle.std.specs.Prelude.{Err}
use Rattle.std.proofs.lemmas.Result.{IfErr-weaker}
use Rattle.fleet_map.specs.Grammar.{map_of, view}
use Rattle.fleet_stats.specs.Report.IsNone.{unmapped, refused}
use Rattle.fleet_stats.proofs.answer.stats.Goals as goal

pub returns-in-Ok-clause-fault : goal.returns-in-Ok-clause-fault
returns-in-Ok-clause-fault c = IfErr-weaker c.stats_of.result _ _ (λ f why. refused (view c.in-Ok.floor) c.in-Ok.ensures.exact why) c.stats_of.ensures.fault

pub returns-in-Err : goal.returns-in-Err
returns-in-Err c =
    let named : map_of c.args.bytes.now ≡ Err c.in-Err.fault = search rules in
    record { text = tt; fault = unmapped c.in-Err.fault named refl }
