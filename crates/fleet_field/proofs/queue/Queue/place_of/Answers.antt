use Rattle.std.proofs.Common.{◌≡◌, ◌+◌, ◌<◌, List, length, slice_index_or, ap, subst}
use Rattle.fleet_field.proofs.Queued.{found_first, found_second, found_nowhere}
use Rattle.fleet_field.specs.inside.Queue.{Queue}
use Rattle.fleet_field.specs.Field.{Aim}
use Rattle.fleet_field.specs.FieldCache.{HasKept}
use Rattle.fleet_field.proofs.queue.Queue.place_of.Goals as goal

pub returns-in-Some : goal.returns-in-Some
returns-in-Some g c =
    subst (λ (xs : List Aim). (c.in-Some.at < length xs) × ((f : Aim) → f ≡ slice_index_or xs c.in-Some.at f → f.goal ≡ c.args.goal)) (ap (λ (q : Queue). q.items) c.self.view_is)
    (found_first c.self.inside.fields.items c.self.inside.goals.items c.self.invariant c.as_slices.result.0.now c.as_slices.result.1.now c.as_slices.ensures.items c.args.goal c.in-Some.at c.in-Some.ensures.0 c.in-Some.ensures.1)

pub returns-in-Some-place_among : goal.returns-in-Some-place_among
returns-in-Some-place_among g c =
    let at = length c.as_slices.result.0.now + c.in-Some-place_among.at in
    subst (λ (xs : List Aim). (at < length xs) × ((f : Aim) → f ≡ slice_index_or xs at f → f.goal ≡ c.args.goal)) (ap (λ (q : Queue). q.items) c.self.view_is)
    (found_second c.self.inside.fields.items c.self.inside.goals.items c.self.invariant c.as_slices.result.0.now c.as_slices.result.1.now c.as_slices.ensures.items c.args.goal c.in-Some-place_among.at c.in-Some-place_among.ensures.0 c.in-Some-place_among.ensures.1)

pub returns-in-None : goal.returns-in-None
returns-in-None g c =
    subst (λ (xs : List Aim). HasKept xs c.args.goal → ⊥) (ap (λ (q : Queue). q.items) c.self.view_is)
    (found_nowhere c.self.inside.fields.items c.self.inside.goals.items c.self.invariant c.as_slices.result.0.now c.as_slices.result.1.now c.as_slices.ensures.items c.args.goal c.in_default.ensures c.in-None.ensures)
