-- The errand that is finished on the cell, by the front errand that the queue has or lacks.
use Rattle.std.proofs.Common.{◌≡◌, ℕ, List, [], ◌∷◌, eqb, true, false, Some, None, ap, ◌∙◌, refl}
use Rattle.std.specs.Prelude.{slice_get}
use Rattle.std.proofs.lemmas.Bool.{eq-eqb, ne_eqb}
use Rattle.fleet_queue.specs.declared.errand.Errand.{Errand}
use Rattle.fleet_state.specs.Landed.{landing}
use Rattle.fleet_state.proofs.landing.landing.Goals as goal

no_front : (u : List Errand) (cell : ℕ) → None ≡ slice_get u 0 → None ≡ landing cell u
no_front [] cell e = refl
no_front (x ∷ u) cell e = cc

lands : (u : List Errand) (f : Errand) (cell : ℕ) → Some f ≡ slice_get u 0 → f.cell ≡ cell → Some f ≡ landing cell u
lands [] f cell e l = cc
lands (x ∷ u) f cell e l =
    let same : x ≡ f = cc in
    let here : eqb x.cell cell ≡ true = eq-eqb x.cell cell (ap (λ (f : Errand). f.cell) same ∙ l) in
    rw here e

passes : (u : List Errand) (f : Errand) (cell : ℕ) → Some f ≡ slice_get u 0 → (f.cell ≡ cell → ⊥) →
    None ≡ landing cell u
passes [] f cell e n = cc
passes (x ∷ u) f cell e n =
    let same : f ≡ x = cc in
    let past : eqb x.cell cell ≡ false = ne_eqb x.cell cell (λ k. n (ap (λ (f : Errand). f.cell) same ∙ k)) in
    rw past refl

pub returns-in_err-front : goal.returns-in_err-front
returns-in_err-front g c =
    rw c.from_residual.ensures (no_front c.args.queue.now.items c.args.cell c.in_err-front.ensures)

pub returns-then-front-cell : goal.returns-then-front-cell
returns-then-front-cell g c =
    lands c.args.queue.now.items c.in_ok-front.front c.args.cell c.in_ok-front.ensures c.if-front-cell.true

pub returns-else-front-cell : goal.returns-else-front-cell
returns-else-front-cell g c =
    passes c.args.queue.now.items c.in_ok-front.front c.args.cell c.in_ok-front.ensures c.if-front-cell.false
