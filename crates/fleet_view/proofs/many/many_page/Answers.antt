-- There is no map.
use Rattle.std.proofs.Common.{refl, subst, sym}
use Rattle.fleet_map.specs.Grammar.{map_of, Fails}
use Rattle.fleet_map.specs.declared.fault.MapFault.{MapFault}
use Rattle.fleet_view.specs.Runs.{no_map}
use Rattle.fleet_view.proofs.Told.{map_fails}
use Rattle.fleet_view.proofs.many.many_page.Goals as goal

pub returns-in_ok-named_fault-in-Err : goal.returns-in_ok-named_fault-in-Err
returns-in_ok-named_fault-in-Err c =
    let named = c.in_ok-named_fault-in-Err.field-0 in
    let e = c.in_ok-named_fault-in-Err.ensures in
    no_map named (map_fails named (map_of c.args.bytes.now) (subst (λ (f : MapFault). Fails f (map_of c.args.bytes.now)) (sym e.same) c.in-Err.ensures.exact) e.named) refl
