-- A turn is planned, and vehicles follow.
use Rattle.std.proofs.Common.{◌≡◌, ℕ, ◌+◌, ◌++◌, List, length, map, sym, ◌∙◌, ap, subst}
use Rattle.std.specs.List.{filter}
use Rattle.fleet_execution.specs.Course.{with_step}
use Rattle.fleet_execution.specs.Executes.{Executes}
use Rattle.fleet_execution.specs.Kept.{Kept, desk}
use Rattle.live_vehicles.specs.declared.place.Place.{Place}
use Rattle.live_vehicles.specs.declared.stand.Stand.{Stand}
use Rattle.live_vehicles.specs.Places.{is_late, is_there, stand_of}
use Rattle.live_vehicles.proofs.Following.{tracks_step}
use Rattle.live_vehicles.proofs.Steps.{follows_step, on_step}
use Rattle.live_vehicles.proofs.vehicles.Vehicles.plan.Goals as goal

pub returns-clause-planned : goal.returns-clause-planned
returns-clause-planned c ok o x =
    let to = c.args.to.now in
    let step = c.steps-step.result in
    let news = c.note_step.new.places.items in
    let here : Executes (desk c.is_step.new.self) o = subst (λ (k : Kept). Executes (desk k) o) (sym c.is_step.ensures.same) x.tracks.executes in
    let executes = c.plan.ensures.planned o here in
    let next : step ≡ o.run.plan.steps + 1 = c.steps-step.ensures ∙ sym executes.steps in
    let tracks = tracks_step c.args.self.now.run c.plan.new.self c.args.self.now.places.items news o to step x.tracks executes next
    c.note_step.ensures.length c.note_step.ensures.stepped in
    let stands : c.deref-3.result.now ≡ map (stand_of news step) c.args.arrived.now =
    c.deref-3.ensures.value ∙ (c.in_ok-stands.ensures ∙ ap (λ (ps : List Place). map (stand_of ps step) c.args.arrived.now) c.deref.ensures.value) in
    let due = c.in_ok-sort_out.ensures.due ∙ (ap (λ (ps : List Place). c.args.due.now.items ++ filter (is_there ps) c.deref-3.result.now) c.deref-2.ensures.value ∙ ap (λ (ss : List Stand). c.args.due.now.items ++ filter (is_there news) ss) stands) in
    let waits = c.in_ok-sort_out.ensures.waits ∙ (ap (λ (ps : List Place). c.args.self.now.waits.items ++ filter (is_late ps) c.deref-3.result.now) c.deref-2.ensures.value ∙ ap (λ (ss : List Stand). c.args.self.now.waits.items ++ filter (is_late news) ss) stands) in
    (follows_step c.args.self.now _ o to c.args.arrived.now step x tracks next waits, on_step c.plan.new.self news o to c.args.arrived.now step c.args.due.now.items c.sort_out.new.due.items tracks next due)
