-- The path with one more cell.
use Rattle.std.proofs.Common.{◌≡◌, ℕ, List, [], ◌∷◌, ◌++◌, length, ap, subst, sym, arith}
use Rattle.std.proofs.lemmas.List.{length-append}
use Rattle.fleet_plans.specs.Agents.{pieces, cells_led}
use Rattle.fleet_plans.proofs.Parts.{joined}
use Rattle.fleet_plans.proofs.Pieces.{led_more}
use Rattle.fleet_plans.proofs.agents.cells_of.Goals as goal

pub loop-part-preserved : goal.loop-part-preserved
loop-part-preserved c =
    let w = c.args.sides.width in
    let h = c.args.sides.height in
    let all = cells_led w h 32 (pieces c.args.text.now) in
    let old = c.loop-part.cells.items in
    let part = c.in-Some.part.now in
    let parts = pieces c.in-Some.after.now in
    let cell = c.in-Some-led_cell.cell in
    let more : c.push.new.self.items ≡ old ++ cell ∷ [] = c.in_ok-push.ensures.items in
    let left : all ≡ joined old (cells_led w h c.loop-part.lead (part ∷ parts)) =
    subst (λ (ps : List (List ℕ)). all ≡ joined old (cells_led w h c.loop-part.lead ps)) c.in-Some.ensures.cut c.loop-part.invariant.read in
    record {
      read = rw more (led_more w h c.loop-part.lead all old part parts left cell (sym c.in-Some-led_cell.ensures));
      few = omega (arith, ap (λ (l : List ℕ). length l) more, length-append old (cell ∷ []), c.loop-part.invariant.few, c.in-Some.ensures.shorter);
    }
