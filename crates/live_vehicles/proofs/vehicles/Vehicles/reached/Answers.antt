-- A report is taken, and those that waited are sorted.
use Rattle.std.proofs.Common.{◌≡◌, List, [], ◌++◌, ◌∙◌, ap, Vec}
use Rattle.std.specs.List.{filter}
use Rattle.live_vehicles.specs.declared.place.Place.{Place}
use Rattle.live_vehicles.specs.declared.stand.Stand.{Stand}
use Rattle.live_vehicles.specs.Places.{is_late, is_there}
use Rattle.live_vehicles.proofs.Steps.{has_reached}
use Rattle.live_vehicles.proofs.vehicles.Vehicles.reached.Goals as goal

pub returns-in_ok-sort_out-in-Ok-clause-reached : goal.returns-in_ok-sort_out-in-Ok-clause-reached
returns-in_ok-sort_out-in-Ok-clause-reached c ok o x =
    let news = c.take.new.places.items in
    let before = c.args.due.now.items in
    let listed = c.deref-in-Ok.ensures.value ∙ ap (λ (v : Vec Stand _). v.items) c.replace-waits.ensures.value in
    let empty = ap (λ (v : Vec Stand _). v.items) c.replace-waits.ensures.after ∙ c.new.ensures.items in
    let due = c.in_ok-sort_out-in-Ok.ensures.due
    ∙ (ap (λ (ps : List Place). before ++ filter (is_there ps) c.deref-in-Ok.result.now) c.deref.ensures.value ∙ ap (λ (ss : List Stand). before ++ filter (is_there news) ss) listed) in
    let waits = c.in_ok-sort_out-in-Ok.ensures.waits
    ∙ (ap (λ (l : List Stand). l ++ filter (is_late c.deref.result.now) c.deref-in-Ok.result.now) empty
    ∙ (ap (λ (ps : List Place). filter (is_late ps) c.deref-in-Ok.result.now) c.deref.ensures.value ∙ ap (λ (ss : List Stand). filter (is_late news) ss) listed)) in
    has_reached c.args.self.now _ o c.args.robot c.in-Ok.field-0.tick before c.sort_out.new.due.items x (c.in-Ok.ensures.taken.1 o x.tracks) due waits
