use Rattle.fleet_c.proofs.SameFleet.{batch_same, gives_same, goes_same, one_given_same, orders_same, shuts_same, ticks_same, turns_same, widens_same}
use Rattle.fleet_c.proofs.law.calls_keep_the_fleet.Goals as goal

pub returns-clause-goes : goal.returns-clause-goes
returns-clause-goes g c = λ cells w n client code order told says. goes_same cells w n client code order told says

pub returns-clause-orders : goal.returns-clause-orders
returns-clause-orders g c = λ w n client code order told says. orders_same w n client code order told says

pub returns-clause-batches : goal.returns-clause-batches
returns-clause-batches g c = λ cells w n requests before after code count taken. batch_same cells w n requests before after code count taken

pub returns-clause-ticks : goal.returns-clause-ticks
returns-clause-ticks g c = λ w n code report is. ticks_same w n code report is

pub returns-clause-shuts : goal.returns-clause-shuts
returns-clause-shuts g c = λ w n robot code left is. shuts_same w n robot code left is

pub returns-clause-gives : goal.returns-clause-gives
returns-clause-gives g c = λ w n client code note says. one_given_same w n client code note says

pub returns-clause-gives_many : goal.returns-clause-gives_many
returns-clause-gives_many g c = λ w n client count before after given. gives_same w n client count before after given

pub returns-clause-widens : goal.returns-clause-widens
returns-clause-widens g c = λ w n client extra code says. widens_same w n client extra code says

pub returns-clause-turns : goal.returns-clause-turns
returns-clause-turns g c = λ w n code turned. turns_same w n code turned
