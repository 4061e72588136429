-- What the calm state brings is due after the history.
use Rattle.std.proofs.Common.{◌∙◌, sym, take}
use Rattle.std.proofs.lemmas.Result.{IfOk-weaker}
use Rattle.fleet_state.proofs.Parts.{queue-count}
use Rattle.fleet_trace.proofs.CalmDues.{calm-due, calm-leaving, calm-robots}
use Rattle.fleet_trace.proofs.judging.due.landings_after.Goals as goal

pub landings-requires : goal.landings-requires
landings-requires g c =
    c.requires.robots ∙ sym (queue-count c.in_ok-state.ensures ∙ calm-robots c.args.grid.now c.args.chapter.now.opening (take c.args.entries c.args.chapter.now.entries.items))

pub returns-clause-arrived : goal.returns-clause-arrived
returns-clause-arrived g c =
    let es = take c.args.entries c.args.chapter.now.entries.items in
    IfOk-weaker c.landings.result _ _
    (λ l is. is c.args.grid.now _ c.in_ok-state.ensures ∙ calm-due c.args.grid.now c.args.chapter.now.opening es c.args.to.now) c.landings.ensures.arrived

pub returns-clause-leaving : goal.returns-clause-leaving
returns-clause-leaving g c =
    let es = take c.args.entries c.args.chapter.now.entries.items in
    let o = c.args.chapter.now.opening in
    let m = c.args.grid.now in
    IfOk-weaker c.landings.result _ _
    (λ l is. λ arrived others shown.
    is arrived others m _ c.in_ok-state.ensures (shown ∙ sym (calm-due m o es c.args.to.now)) ∙ calm-leaving m o es c.args.to.now arrived others) c.landings.ensures.leaving
