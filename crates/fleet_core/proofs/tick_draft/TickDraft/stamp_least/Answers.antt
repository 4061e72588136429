use Rattle.std.proofs.Common.{◌∙◌, length, ap, sym, refl, arith}
use Rattle.std.proofs.lemmas.List.{length-map}
use Rattle.fleet_history.specs.declared.history.Bye.{Bye}
use Rattle.fleet_history.specs.Legal.{due_of}
use Rattle.fleet_core.proofs.OwnLaws.{least-stamps, least-last_stamps}
use Rattle.fleet_core.proofs.tick_draft.TickDraft.stamp_least.Goals as goal

pub arrive-requires : goal.arrive-requires
arrive-requires g c = c.requires.may.arriving

pub take_leave-requires : goal.take_leave-requires
take_leave-requires g c = c.requires.may.leaving

pub of-requires : goal.of-requires
of-requires g c =
    let come = sym (length-map c.arrive.new.arrived.items due_of) ∙ ap length c.arrive.ensures.shows ∙ length-map c.args.self.now.arrived.items due_of in
    let gone = sym (length-map c.take_leave.new.leaving.items (λ (b : Bye). b.robot)) ∙ ap length c.take_leave.ensures.robots ∙ length-map c.args.self.now.leaving.items (λ (b : Bye). b.robot) in
    record {
      arrived = omega (arith, c.requires.may.few_arriving, come, c.len.ensures, c.arrive.new.arrived.ok.0);
      farewells = omega (arith, c.requires.may.few_leaving, gone, c.len-2.ensures, c.take_leave.new.leaving.ok.0);
    }

pub returns-clause-to : goal.returns-clause-to
returns-clause-to g c = refl

pub returns-clause-stamped : goal.returns-clause-stamped
returns-clause-stamped g c =
    let robots = c.args.robots.now in
    record {
      shows = c.arrive.ensures.shows;
      stamps = least-stamps robots c.args.self.now.arrived.items c.arrive.new.arrived.items c.arrive.ensures.shows c.requires.may.arriving c.requires.orderly.arrivals c.arrive.ensures.stamps;
      robots = c.take_leave.ensures.robots;
      last_stamps = least-last_stamps robots c.args.self.now.leaving.items c.take_leave.new.leaving.items c.take_leave.ensures.robots c.requires.may.leaving c.requires.orderly.farewells c.take_leave.ensures.stamps;
    }

pub returns-clause-lowest : goal.returns-clause-lowest
returns-clause-lowest g c = (c.arrive.ensures.stamps, c.take_leave.ensures.stamps)
