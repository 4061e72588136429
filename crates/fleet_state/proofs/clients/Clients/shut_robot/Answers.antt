-- The book of the clients, in which the robot is shut.
use Rattle.std.proofs.Common.{◌∙◌, ap, true}
use Rattle.std.specs.Prelude.{slice_set}
use Rattle.fleet_book.specs.Counts.{Counts}
use Rattle.fleet_state.specs.Clients.{Clients}
use Rattle.fleet_state.proofs.clients.Clients.shut_robot.Goals as goal

pub returns-clause-counts : goal.returns-clause-counts
returns-clause-counts g c =
    let shut_in : Counts → Counts = λ x. record x { shut = slice_set x.shut c.args.robot true } in
    c.shut_robot.ensures ∙ ap (λ (x : Clients). shut_in x.counts) c.self.view_is
