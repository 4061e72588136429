use Rattle.std.proofs.Common.{◌≡◌, ◌∙◌, sym, ap, subst}
use Rattle.fleet_history.specs.History.{History, clock}
use Rattle.fleet_office.specs.Hall.{HallView}
use Rattle.fleet_office.specs.inside.LastTicks.{EndsInTick, IsEndOf}
use Rattle.fleet_office.proofs.TickSteps.{turned-ends, is-last}
use Rattle.fleet_office.proofs.hall_state.HallState.turn_into.Goals as goal

pub write-requires : goal.write-requires
write-requires g c =
    let same : c.as_slice.result.now ≡ c.turn.new.self.world.history.entries = c.as_slice.ensures.value ∙ ap (λ (h : History g.row.A.Denot). h.entries) c.chapter.ensures.history ∙ ap (λ (v : HallView g.row.A.Denot). v.world.history.entries) c.self.view_is in
    subst (λ es. EndsInTick es) (sym same) (turned-ends c.args.self.now c.turn.new.self c.in_ok-report.report c.recall_laws.ensures.lawful.legal c.in_ok-report.ensures.ok)

pub returns-clause-ok : goal.returns-clause-ok
returns-clause-ok g c =
    let same : c.as_slice.result.now ≡ c.turn.new.self.world.history.entries = c.as_slice.ensures.value ∙ ap (λ (h : History g.row.A.Denot). h.entries) c.chapter.ensures.history ∙ ap (λ (v : HallView g.row.A.Denot). v.world.history.entries) c.self.view_is in
    let tick : c.write.new.self.tick ≡ clock c.turn.new.self.world.history = c.write.ensures.tick ∙ c.clock.ensures ∙ ap (λ (v : HallView g.row.A.Denot). clock v.world.history) c.self.view_is in
    (c.in_ok-report.ensures.ok, is-last c.turn.new.self.world c.write.new.self tick (subst (λ es. IsEndOf es c.write.new.self) same c.write.ensures.end))
