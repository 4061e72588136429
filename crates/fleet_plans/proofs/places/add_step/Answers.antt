-- The judge took what a line says.
use Rattle.std.proofs.Common.{◌≡◌, ℕ, ◌++◌, ◌∷◌, List, [], true, sym, ◌∙◌, subst}
use Rattle.fleet_plans.specs.Judge.{HasJudged}
use Rattle.fleet_plans.specs.Shown.{shown}
use Rattle.fleet_plans.specs.inside.Fits.{fits}
use Rattle.fleet_plans.proofs.Lines.{line_taken}
use Rattle.fleet_plans.proofs.places.add_step.Goals as goal

pub returns-clause-read : goal.returns-clause-read
returns-clause-read g c = λ m places was.
    let head = shown c.args.head.now in
    let time = c.count-time.result in
    let fit : true ≡ fits head time c.in-Some.place = subst (λ (p : List ℕ). true ≡ fits head time p) c.as_slice.ensures c.if-not-fits.ensures in
    let given : HasJudged m (places ++ c.in-Some.place ∷ []) c.take.new.self =
    subst (λ (p : List ℕ). HasJudged m (places ++ p ∷ []) c.take.new.self) c.as_slice-2.ensures (c.in_ok-take.ensures.taken m places was) in
    line_taken c.args.sides.width c.args.sides.height head m places c.args.judge.now c.take.new.self time c.args.line.now c.in-Some.place was c.count-time.ensures c.if-is_empty.ensures
    (sym c.in_ok-place.ensures.read ∙ c.in-Some.is) fit given
