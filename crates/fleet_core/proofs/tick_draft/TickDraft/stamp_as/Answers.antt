use Rattle.std.proofs.Common.{◌∙◌, length, map, sym, subst}
use Rattle.std.specs.Option.{option_map}
use Rattle.std.proofs.lemmas.List.{length-map}
use Rattle.fleet_core.specs.Hooks.{spare_laws}
use Rattle.fleet_core.specs.inside.Stamped.{MayStamp, laws_as, spare_as}
use Rattle.fleet_core.proofs.OwnLaws.{may-by}
use Rattle.fleet_core.proofs.Refusals.{not_true}
use Rattle.fleet_core.proofs.tick_draft.TickDraft.stamp_as.Goals as goal

pub stamp_least-requires : goal.stamp_least-requires
stamp_least-requires g c =
    let robots = c.args.robots.now in
    let laws = map (λ h. h.law) c.args.arrivals.now in
    let spare = spare_laws c.args.farewells.now.items in
    record {
      may = may-by (length-map robots (λ x. x.arrival_law)) (length-map robots _)
          (subst (λ b. MayStamp (length (laws_as b robots laws)) (length (spare_as b robots spare)) (spare_as b robots spare) c.args.self.now.to.items c.args.self.now.arrived.items c.args.self.now.leaving.items) c.if-least.true c.requires.may);
      orderly = c.requires.orderly;
    }

pub stamp-requires : goal.stamp-requires
stamp-requires g c =
    let robots = c.args.robots.now in
    let laws = map (λ h. h.law) c.args.arrivals.now in
    let spare = spare_laws c.args.farewells.now.items in
    may-by (length-map c.args.arrivals.now (λ h. h.law)) (length-map c.args.farewells.now.items (λ f. option_map (λ x. x.law) f) ∙ sym c.args.farewells.now.ok.0)
    (subst (λ b. MayStamp (length (laws_as b robots laws)) (length (spare_as b robots spare)) (spare_as b robots spare) c.args.self.now.to.items c.args.self.now.arrived.items c.args.self.now.leaving.items) c.if-least.false c.requires.may)

pub returns-then-least : goal.returns-then-least
returns-then-least g c = record {
  to = c.stamp_least.ensures.to;
  stamped = rw c.if-least.true c.stamp_least.ensures.stamped;
  spent = λ e. absurd (not_true c.if-least.true e);
  lowest = λ e. c.stamp_least.ensures.lowest;
  report = c.stamp_least.ensures.report;
}

pub returns-else-least : goal.returns-else-least
returns-else-least g c = record {
  to = c.stamp.ensures.to;
  stamped = rw c.if-least.false c.stamp.ensures.stamped;
  spent = λ e. c.stamp.ensures.spent;
  lowest = λ e. absurd (not_true e c.if-least.false);
  report = c.stamp.ensures.report;
}
