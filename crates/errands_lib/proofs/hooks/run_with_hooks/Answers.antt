-- The program's hooks have its laws.
use Rattle.std.proofs.Common.{subst}
use Rattle.std.specs.Prelude.{IfSome}
use Rattle.fleet_text.specs.Kit.{KitLaws}
use Rattle.fleet_text.specs.Transfer.{bytes_of}
use Rattle.errands_lib.specs.Told.{IsShown}
use Rattle.fleet_text.proofs.Kits.{laws-are, kit-is}
use Rattle.errands_lib.proofs.hooks.run_with_hooks.Goals as goal

pub returns-clause-done : goal.returns-clause-done
returns-clause-done g c =
    let plain = laws-are (λ h. h.law) (λ h. h.law) (λ h. h.law) 16 _ _ _
    c.in_ok-plain.ensures.ties c.fixed.ensures.law c.in_ok-plain.ensures.arrivals c.fixed-2.ensures.law c.in_ok-plain.ensures.farewells c.fixed-3.ensures.law in
    let south = laws-are (λ h. h.law) (λ h. h.law) (λ h. h.law) 16 _ _ _
    c.in_ok-south.ensures.ties c.south_first.ensures.law c.in_ok-south.ensures.arrivals c.by_tick.ensures.law c.in_ok-south.ensures.farewells c.by_cell.ensures.law in
    subst (λ (k : KitLaws). IfSome (g.I.Read.remaining c.args.map.now) (λ first. IfSome (bytes_of g.I.Read.remaining c.args.other) (λ second.
    IsShown k c.args.job.now first second (g.W.Write.contents c.args.output.now) (g.W.Write.contents c.run_program.new.output) (g.E.Write.contents c.args.error.now) (g.E.Write.contents c.run_program.new.error) c.run_program.result))) (kit-is plain south) c.run_program.ensures
