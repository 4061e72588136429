use Rattle.std.proofs.Common.{length}
use Rattle.fleet_core.specs.Hooks.{laws_of}
use Rattle.fleet_core.specs.OpeningFaults.{IsRefused}
use Rattle.fleet_office.proofs.Over.{refused-err, refused-ok}
use Rattle.fleet_office.proofs.office.Office+N+A.open.Goals as goal

pub returns-in-Err-clause-refused : goal.returns-in-Err-clause-refused
returns-in-Err-clause-refused g c fault named =
    refused-err c.open.result c.in-Err.fault fault (IsRefused c.args.grid c.args.starts.items (length c.args.desk.clients) c.args.desk.limits (laws_of c.args.hooks) fault) c.in-Err.is (c.open.ensures.refused fault named)

pub returns-in-Ok-clause-refused : goal.returns-in-Ok-clause-refused
returns-in-Ok-clause-refused g c fault named =
    refused-ok c.open.result _ _ fault (IsRefused c.args.grid c.args.starts.items (length c.args.desk.clients) c.args.desk.limits (laws_of c.args.hooks) fault) c.in-Ok.is (c.open.ensures.refused fault named)

pub returns-in-Err-clause-clients : goal.returns-in-Err-clause-clients
returns-in-Err-clause-clients g c = tt

pub returns-in-Err-clause-ticker : goal.returns-in-Err-clause-ticker
returns-in-Err-clause-ticker g c = tt

pub returns-in-Ok-clause-clients : goal.returns-in-Ok-clause-clients
returns-in-Ok-clause-clients g c = c.in-Ok.ensures.clients

pub returns-in-Ok-clause-ticker : goal.returns-in-Ok-clause-ticker
returns-in-Ok-clause-ticker g c = c.in-Ok.ensures.ticker
