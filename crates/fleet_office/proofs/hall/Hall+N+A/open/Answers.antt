use Rattle.std.proofs.Common.{◌≡◌, length, ap, sym, ◌∙◌, subst}
use Rattle.std.proofs.lemmas.List.{length-replicate}
use Rattle.fleet_core.specs.Core.{World, opened_world}
use Rattle.fleet_core.specs.Hooks.{laws_of}
use Rattle.fleet_core.specs.OpeningFaults.{IsRefused}
use Rattle.fleet_history.specs.History.{clients, unknown_client}
use Rattle.fleet_history.specs.declared.history.ClientState.{ClientState}
use Rattle.fleet_office.specs.inside.Openings.{IsUnused}
use Rattle.fleet_office.proofs.Opening.{opened-unused}
use Rattle.fleet_office.proofs.Over.{refused-err, refused-ok}
use Rattle.fleet_office.proofs.hall.Hall+N+A.open.Goals as goal

pub over-requires-clause-named : goal.over-requires-clause-named
over-requires-clause-named g c = c.requires.named

pub over-requires-clause-start : goal.over-requires-clause-start
over-requires-clause-start g c =
    let s = c.desk.inside in
    let count : c.len-count.result ≡ length c.args.desk.clients = c.len-count.ensures ∙ s.clients.ok.0 ∙ ap (λ d. length d.clients) c.desk.view_is in
    let limits : s.limits ≡ c.args.desk.limits = ap (λ d. d.limits) c.desk.view_is in
    let is : c.in-Ok.world.core ≡ opened_world c.args.grid c.args.starts.items (length c.args.desk.clients) c.args.desk.limits (laws_of c.args.hooks) = rw (← count, ← limits) c.in-Ok.ensures.ok in
    c.requires.start ∙ sym is

pub over-requires-clause-unused : goal.over-requires-clause-unused
over-requires-clause-unused g c =
    subst IsUnused (sym c.in-Ok.ensures.ok) (opened-unused c.args.grid c.args.starts.items c.len-count.result c.desk.inside.limits (laws_of c.args.hooks))

pub over-requires-clause-clients : goal.over-requires-clause-clients
over-requires-clause-clients g c =
    let s = c.desk.inside in
    let count : c.len-count.result ≡ length c.args.desk.clients = c.len-count.ensures ∙ s.clients.ok.0 ∙ ap (λ d. length d.clients) c.desk.view_is in
    sym count ∙ sym (length-replicate {A = ClientState} c.len-count.result unknown_client) ∙ ap (λ (w : World g.row.A.Denot). clients w.history) (sym c.in-Ok.ensures.ok)

pub over-requires-clause-limits : goal.over-requires-clause-limits
over-requires-clause-limits g c = sym (ap (λ d. d.limits) c.desk.view_is) ∙ ap (λ (w : World g.row.A.Denot). w.limits) (sym c.in-Ok.ensures.ok)

pub returns-in-Ok-clause-hall : goal.returns-in-Ok-clause-hall
returns-in-Ok-clause-hall g c =
    let s = c.desk.inside in
    let count : c.len-count.result ≡ length c.args.desk.clients = c.len-count.ensures ∙ s.clients.ok.0 ∙ ap (λ d. length d.clients) c.desk.view_is in
    let limits : s.limits ≡ c.args.desk.limits = ap (λ d. d.limits) c.desk.view_is in
    c.over.ensures.hall ∙ rw (← count, ← limits) c.in-Ok.ensures.ok

pub returns-in-Ok-clause-clients : goal.returns-in-Ok-clause-clients
returns-in-Ok-clause-clients g c = c.over.ensures.clients

pub returns-in-Ok-clause-ticker : goal.returns-in-Ok-clause-ticker
returns-in-Ok-clause-ticker g c = c.over.ensures.ticker

pub returns-in-Ok-clause-refused : goal.returns-in-Ok-clause-refused
returns-in-Ok-clause-refused g c fault named =
    let s = c.desk.inside in
    let count : c.len-count.result ≡ length c.args.desk.clients = c.len-count.ensures ∙ s.clients.ok.0 ∙ ap (λ d. length d.clients) c.desk.view_is in
    let limits : s.limits ≡ c.args.desk.limits = ap (λ d. d.limits) c.desk.view_is in
    refused-ok c.open.result c.in-Ok.world _ fault (IsRefused c.args.grid c.args.starts.items (length c.args.desk.clients) c.args.desk.limits (laws_of c.args.hooks) fault) c.in-Ok.is
    (rw (← count, ← limits) (c.open.ensures.refused fault named))

pub returns-in-Err-clause-refused : goal.returns-in-Err-clause-refused
returns-in-Err-clause-refused g c fault named =
    let s = c.desk.inside in
    let count : c.len-count.result ≡ length c.args.desk.clients = c.len-count.ensures ∙ s.clients.ok.0 ∙ ap (λ d. length d.clients) c.desk.view_is in
    let limits : s.limits ≡ c.args.desk.limits = ap (λ d. d.limits) c.desk.view_is in
    refused-err c.open.result c.in-Err.fault fault (IsRefused c.args.grid c.args.starts.items (length c.args.desk.clients) c.args.desk.limits (laws_of c.args.hooks) fault) c.in-Err.is
    (rw (← count, ← limits) (c.open.ensures.refused fault named))

pub returns-in-Err-clause-hall : goal.returns-in-Err-clause-hall
returns-in-Err-clause-hall g c = tt

pub returns-in-Err-clause-clients : goal.returns-in-Err-clause-clients
returns-in-Err-clause-clients g c = tt

pub returns-in-Err-clause-ticker : goal.returns-in-Err-clause-ticker
returns-in-Err-clause-ticker g c = tt
