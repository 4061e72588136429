-- An entry by how many values it has.
use Rattle.std.proofs.Common.{sym, subst, List}
use Rattle.serde_json.specs.Data.{Data}
use Rattle.serde_json.specs.View.{view}
use Rattle.fleet_trace.specs.Reads.{Gives}
use Rattle.fleet_trace.specs.Told.{entry_from}
use Rattle.fleet_trace.proofs.Lists.{two, three, four}
use Rattle.fleet_trace.proofs.read.entries.entry_of.Goals as goal

pub returns-in-len2 : goal.returns-in-len2
returns-in-len2 c =
    subst (λ (ds : List Data). Gives (λ x. x) c.found.result (entry_from c.args.version ds)) (sym (two view c.args.values.now c.in-len2.len_at_least c.in-len2.len_below c.word-item.is c.robot-item.is))
    (subst (λ told. Gives (λ x. x) c.found.result told) c.shut_of.ensures c.found.ensures)

pub returns-in-len3 : goal.returns-in-len3
returns-in-len3 c =
    subst (λ (ds : List Data). Gives (λ x. x) c.found-in-len3.result (entry_from c.args.version ds))
    (sym (three view c.args.values.now c.in-len3.len_at_least c.in-len3.len_below c.word-item-then-values-lt4.is c.robot-item-then-values-lt4.is c.stamp-item.is))
    (subst (λ told. Gives (λ x. x) c.found-in-len3.result told) c.farewell_of.ensures c.found-in-len3.ensures)

pub returns-in-len4 : goal.returns-in-len4
returns-in-len4 c =
    subst (λ (ds : List Data). Gives (λ x. x) c.event_of.result (entry_from c.args.version ds))
    (sym (four view c.args.values.now c.in-len4.len_at_least c.in-len4.len_below c.word-item-then-values-lt5.is c.first-item.is c.second-item.is c.third-item.is)) c.event_of.ensures
