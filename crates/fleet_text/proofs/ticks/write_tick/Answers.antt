-- The lines of a tick.
use Rattle.std.proofs.Common.{◌∙◌, ◌++◌, ap, Some, option_copied, string_bytes}
use Rattle.std.proofs.lemmas.Result.{on_ok_weaker}
use Rattle.fleet_text.proofs.RunLines.{moved}
use Rattle.fleet_text.proofs.ticks.write_tick.Goals as goal

pub returns-in-Tick : goal.returns-in-Tick
returns-in-Tick g c =
    let t = c.in-Tick in
    on_ok_weaker c.write_moves.result
    (λ h. h ∙ ap (λ text. string_bytes c.args.out.now ++ text)
    (moved c.args.tick (option_copied c.args.entry) t.to c.as_slice-to.result.now t.arrived c.as_slice-arrived.result.now t.farewells c.as_slice.result.now
    (ap (λ o. option_copied o) c.in-Some.is ∙ ap (λ e. Some e) t.is) c.as_slice-to.ensures c.as_slice-arrived.ensures c.as_slice.ensures))
    c.write_moves.ensures
