-- The list with one more cell.
use Rattle.std.proofs.Common.{◌≡◌, ℕ, List, [], ◌∷◌, ◌++◌, length, ap, subst, sym, arith}
use Rattle.std.proofs.lemmas.List.{length-append}
use Rattle.fleet_plans.specs.Cells.{parts_of}
use Rattle.fleet_plans.proofs.Parts.{AreFaced, one_faced_more}
use Rattle.fleet_plans.proofs.cells.faced_cells.Goals as goal

pub loop-first-preserved : goal.loop-first-preserved
loop-first-preserved g c =
    let w = c.args.sides.width in
    let h = c.args.sides.height in
    let parts = parts_of c.args.text.now in
    let old = c.loop-first.cells.items in
    let first = c.in-Some.first.now in
    let second = c.in-Some-first_part.second.now in
    let third = c.in-Some-first_part-2.third.now in
    let rest = parts_of c.in-Some-first_part-2.after.now in
    let cell = c.in-Some-faced_of.cell in
    let more : c.push.new.self.items ≡ old ++ cell ∷ [] = c.in_ok-push.ensures.items in
    let left : AreFaced w h parts old (first ∷ second ∷ third ∷ rest) =
    subst (λ (ps : List (List ℕ)). AreFaced w h parts old (first ∷ second ∷ ps)) c.in-Some-first_part-2.ensures.cut
    (subst (λ (ps : List (List ℕ)). AreFaced w h parts old (first ∷ ps)) c.in-Some-first_part.ensures.cut
    (subst (λ (ps : List (List ℕ)). AreFaced w h parts old ps) c.in-Some.ensures.cut c.loop-first.invariant.read)) in
    record {
      read = rw more (one_faced_more w h parts old first second third rest left cell (sym c.in-Some-faced_of.ensures));
      few =
          omega (
            arith,
            ap (λ (l : List ℕ). length l) more,
            length-append old (cell ∷ []),
            c.loop-first.invariant.few,
            c.in-Some.ensures.shorter,
            c.in-Some-first_part.ensures.shorter,
            c.in-Some-first_part-2.ensures.shorter,
          );
    }
