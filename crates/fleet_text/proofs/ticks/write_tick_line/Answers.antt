-- The word and the number, the cells, and the end of the line.
use Rattle.std.proofs.Common.{◌∙◌, ◌++◌, ap, sym, codes, decimal, string_bytes}
use Rattle.std.proofs.lemmas.List.{append_assoc}
use Rattle.std.proofs.lemmas.Result.{on_ok_weaker}
use Rattle.fleet_text.specs.Output.{place_text}
use Rattle.fleet_text.proofs.RunLines.{on}
use Rattle.fleet_text.proofs.ticks.write_tick_line.Goals as goal

pub returns : goal.returns
returns g c =
    let old = string_bytes c.args.out.now in
    let tick = codes "tick " ++ decimal c.args.tick ++ codes ":" in
    let begun = c.in_ok-write.ensures.bytes ∙ ap (λ l. old ++ l) (sym (append_assoc (codes "tick ") (decimal c.args.tick) (codes ":"))) in
    let placed = on old tick (place_text c.args.cells.now) _ _ begun c.in_ok-write_place.ensures in
    on_ok_weaker c.write-2.result (λ h. on old (tick ++ place_text c.args.cells.now) (codes "\n") _ _ placed h) c.write-2.ensures.bytes
