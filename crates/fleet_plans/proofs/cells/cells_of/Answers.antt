-- The list with one more cell.
use Rattle.std.proofs.Common.{◌≡◌, ℕ, List, [], ◌∷◌, ◌++◌, length, ap, subst, sym, arith}
use Rattle.std.proofs.lemmas.List.{length-append}
use Rattle.fleet_plans.specs.Cells.{parts_of}
use Rattle.fleet_plans.proofs.Parts.{IsRead, one_cell_more}
use Rattle.fleet_plans.proofs.cells.cells_of.Goals as goal

pub loop-first-preserved : goal.loop-first-preserved
loop-first-preserved g c =
    let w = c.args.sides.width in
    let h = c.args.sides.height in
    let parts = parts_of c.args.text.now in
    let old = c.loop-first.cells.items in
    let first = c.in-Some.first.now in
    let cell = c.in-Some-cell_of.cell in
    let more : c.push.new.self.items ≡ old ++ cell ∷ [] = c.in_ok-push.ensures.items in
    let left : IsRead w h parts old (first ∷ c.in-Some-first_part.second.now ∷ parts_of c.in-Some-first_part.after.now) =
    subst (λ (ps : List (List ℕ)). IsRead w h parts old (first ∷ ps)) c.in-Some-first_part.ensures.cut
    (subst (λ (ps : List (List ℕ)). IsRead w h parts old ps) c.in-Some.ensures.cut c.loop-first.invariant.read) in
    record {
      read = rw more (one_cell_more w h parts old first c.in-Some-first_part.second.now (parts_of c.in-Some-first_part.after.now) cell (sym c.in-Some-cell_of.ensures) left);
      few = omega (arith, ap (λ (l : List ℕ). length l) more, length-append old (cell ∷ []), c.loop-first.invariant.few, c.in-Some.ensures.shorter, c.in-Some-first_part.ensures.shorter);
    }
