-- There is no map.
use Rattle.std.proofs.Common.{refl, subst, sym}
use Rattle.fleet_map.specs.Grammar.{map_of, Fails}
use Rattle.fleet_map.specs.declared.fault.MapFault.{MapFault}
use Rattle.fleet_plans.specs.Answer.{no_map}
use Rattle.fleet_convert.proofs.Converted.{map_fails}
use Rattle.fleet_convert.proofs.tracing.trace_of_valid.Goals as goal

pub returns-in_ok-fault-in-Err-clause-fault : goal.returns-in_ok-fault-in-Err-clause-fault
returns-in_ok-fault-in-Err-clause-fault c =
    let named = c.in_ok-fault-in-Err.fault in
    let e = c.in_ok-fault-in-Err.ensures in
    record {
      told = no_map named (map_fails named (map_of c.args.bytes.now) (subst (λ (f : MapFault). Fails f (map_of c.args.bytes.now)) (sym e.same) c.in-Err.ensures.exact) e.named) refl;
      not_valid = refl;
    }
