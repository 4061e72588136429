-- The result of an office that is opened for a script.
use Rattle.std.proofs.Common.{◌≡◌, ◌∙◌, ap, length, sym, subst, IfOk, rules}
use Rattle.std.proofs.lemmas.Result.{IfOk-from_err}
use Rattle.fleet_book.specs.declared.limits.Limits.{Limits}
use Rattle.fleet_core.specs.Core.{opened_world}
use Rattle.fleet_core.specs.Hooks.{laws_of}
use Rattle.fleet_history.specs.History.{history_of}
use Rattle.fleet_serve.specs.Posted.{AreNew}
use Rattle.fleet_serve.specs.inside.Ends.{IsEnd}
use Rattle.fleet_serve.proofs.Faults.{later-none, opens-err, refused-err, opens-ok}
use Rattle.fleet_serve.proofs.serving.serve_at.Goals as goal

pub serve_opened-requires-clause-fresh : goal.serve_opened-requires-clause-fresh
serve_opened-requires-clause-fresh g c κs within = subst (AreNew g.N.ScriptName.orders) (sym c.in-Ok.ensures.clients.0) c.requires.fresh

pub returns-in-Err-clause-opens : goal.returns-in-Err-clause-opens
returns-in-Err-clause-opens g c =
    let script = c.args.script.now in
    let starts : c.in_ok-starts.starts.items ≡ script.starts.items = search rules in
    opens-err c.args.grid script.starts.items c.in_ok-starts.starts.items script.clients (length c.args.desk.clients) script.limits c.args.desk.limits (laws_of c.args.hooks)
    starts c.requires.clients c.requires.limits c.in-Err.fault c.opening_fault.result c.in-Err.ensures.refused c.opening_fault.ensures.named

pub returns-in-Ok-clause-opens : goal.returns-in-Ok-clause-opens
returns-in-Ok-clause-opens g c f why =
    let script = c.args.script.now in
    let starts : c.in_ok-starts.starts.items ≡ script.starts.items = search rules in
    absurd (opens-ok c.args.grid script.starts.items c.in_ok-starts.starts.items script.clients (length c.args.desk.clients) script.limits c.args.desk.limits (laws_of c.args.hooks)
    starts c.requires.clients c.requires.limits (c.in-Ok.office, c.in-Ok.clients, c.in-Ok.ticker) c.in-Ok.ensures.refused f why)

pub returns-in-Err-clause-refused : goal.returns-in-Err-clause-refused
returns-in-Err-clause-refused g c f is =
    let script = c.args.script.now in
    let starts : c.in_ok-starts.starts.items ≡ script.starts.items = search rules in
    refused-err c.args.grid script.starts.items c.in_ok-starts.starts.items script.clients (length c.args.desk.clients) script.limits c.args.desk.limits (laws_of c.args.hooks)
    starts c.requires.clients c.requires.limits c.in-Err.fault c.opening_fault.result c.in-Err.ensures.refused c.opening_fault.ensures.only f is

pub returns-in-Ok-clause-refused : goal.returns-in-Ok-clause-refused
returns-in-Ok-clause-refused g c f is = absurd (later-none c.serve_opened.result f c.serve_opened.ensures.later is)

pub serve_opened-requires-clause-on : goal.serve_opened-requires-clause-on
serve_opened-requires-clause-on g c κs within = c.in-Ok.ensures.clients.1

pub serve_opened-requires-clause-events : goal.serve_opened-requires-clause-events
serve_opened-requires-clause-events g c κs within = c.requires.events

pub returns-in-Ok-clause-ended : goal.returns-in-Ok-clause-ended
returns-in-Ok-clause-ended g c =
    let r = c.serve_opened.result in
    let script = c.args.script.now in
    subst (λ w. IfOk r (λ s. IsEnd w script.events.items script.limits.orders script.clients s.lane_full s.last.grid (history_of s.last.chapter) s.last.chapter.number s.last.tick s.last.rest.items)) c.requires.start
    (subst (λ es. IfOk r (λ s. IsEnd g.N.OfficeName.start es script.limits.orders script.clients s.lane_full s.last.grid (history_of s.last.chapter) s.last.chapter.number s.last.tick s.last.rest.items)) (sym c.requires.events)
    (subst (λ o. IfOk r (λ s. IsEnd g.N.OfficeName.start g.N.ScriptName.events o script.clients s.lane_full s.last.grid (history_of s.last.chapter) s.last.chapter.number s.last.tick s.last.rest.items)) (sym c.requires.orders)
    (subst (λ n. IfOk r (λ s. IsEnd g.N.OfficeName.start g.N.ScriptName.events g.N.ScriptName.orders n s.lane_full s.last.grid (history_of s.last.chapter) s.last.chapter.number s.last.tick s.last.rest.items)) c.requires.rings c.serve_opened.ensures.ended)))

pub returns-in_err-starts-clause-ended : goal.returns-in_err-starts-clause-ended
returns-in_err-starts-clause-ended g c = IfOk-from_err c.from_residual.result _ c.from_residual.ensures.0

pub returns-in-Err-clause-ended : goal.returns-in-Err-clause-ended
returns-in-Err-clause-ended g c = tt

-- the office begins with the script's world
pub open-requires-clause-start : goal.open-requires-clause-start
open-requires-clause-start g c =
    let script = c.args.script.now in
    let starts : c.in_ok-starts.starts.items ≡ script.starts.items = search rules in
    c.requires.start
    ∙ ap (λ xs. opened_world c.args.grid xs script.clients script.limits (laws_of c.args.hooks)) (sym starts)
    ∙ ap (λ n. opened_world c.args.grid c.in_ok-starts.starts.items n script.limits (laws_of c.args.hooks)) (sym c.requires.clients)
    ∙ ap (λ (l : Limits). opened_world c.args.grid c.in_ok-starts.starts.items (length c.args.desk.clients) l (laws_of c.args.hooks)) (sym c.requires.limits)
