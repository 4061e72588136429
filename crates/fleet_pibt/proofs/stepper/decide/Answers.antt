-- A plan on an empty board, which is empty again when it is written out.
use Rattle.std.proofs.Common.{ap, length, sym, subst, ◌∙◌, arith}
use Rattle.fleet_grid.proofs.Forms.{floor_inside}
use Rattle.fleet_pibt.specs.inside.Entry.{IsEmpty}
use Rattle.fleet_pibt.proofs.Entries.{planned-decided, standing-from}
use Rattle.fleet_pibt.proofs.Ordered.{order-names}
use Rattle.fleet_pibt.proofs.Planning.{scene-distinct}
use Rattle.fleet_pibt.proofs.Stepped.{chosen-from}
use Rattle.fleet_pibt.proofs.stepper.decide.Goals as goal

pub place-requires-clause-few : goal.place-requires-clause-few
place-requires-clause-few g c = rw c.requires.from (g.met.S.Sight.is_scene c.args.scene.now c.requires.whole).few

pub place-requires-clause-inside : goal.place-requires-clause-inside
place-requires-clause-inside g c =
    let s = g.S.Sight.setting c.args.scene.now in
    let scene = g.met.S.Sight.is_scene c.args.scene.now c.requires.whole in
    rw (c.requires.from, c.requires.clear.standings) (λ r less. floor_inside s.floor _ (scene.placed.on_floor r less))

pub place-requires-clause-distinct : goal.place-requires-clause-distinct
place-requires-clause-distinct g c = rw c.requires.from (scene-distinct (g.S.Sight.setting c.args.scene.now) (g.met.S.Sight.is_scene c.args.scene.now c.requires.whole))

pub place-requires-clause-empty : goal.place-requires-clause-empty
place-requires-clause-empty g c = c.requires.clear.nobody

pub plan_all-requires-clause-whole : goal.plan_all-requires-clause-whole
plan_all-requires-clause-whole g c = c.requires.whole

pub put_in_order-requires-clause-same_length : goal.put_in_order-requires-clause-same_length
put_in_order-requires-clause-same_length g c = c.requires.queued

pub put_in_order-requires-clause-roll : goal.put_in_order-requires-clause-roll
put_in_order-requires-clause-roll g c = c.requires.roll

pub plan_all-requires-clause-queue : goal.plan_all-requires-clause-queue
plan_all-requires-clause-queue g c = order-names (g.S.Sight.setting c.args.scene.now) c.args.waits.now c.put_in_order.new.queue (c.requires.waited ∙ ap length c.requires.from) c.put_in_order.ensures.order

pub plan_all-requires-clause-targets : goal.plan_all-requires-clause-targets
plan_all-requires-clause-targets g c = c.requires.clear.targets ∙ ap length c.requires.from

pub plan_all-requires-clause-holders : goal.plan_all-requires-clause-holders
plan_all-requires-clause-holders g c = ap length c.place.ensures.holder ∙ c.requires.clear.holders

pub plan_all-requires-clause-no_target : goal.plan_all-requires-clause-no_target
plan_all-requires-clause-no_target g c = c.requires.clear.no_target

pub plan_all-requires-clause-standing : goal.plan_all-requires-clause-standing
plan_all-requires-clause-standing g c =
    standing-from (g.S.Sight.setting c.args.scene.now) c.place.new.seats.standing (c.place.ensures.same_length ∙ c.requires.clear.standings)
    (rw c.requires.from at c.place.ensures.placed)

pub plan_all-requires-clause-no_holder : goal.plan_all-requires-clause-no_holder
plan_all-requires-clause-no_holder g c = subst IsEmpty (sym c.place.ensures.holder) c.requires.clear.no_holder

pub lift-requires-clause-inside : goal.lift-requires-clause-inside
lift-requires-clause-inside g c =
    let s = g.S.Sight.setting c.args.scene.now in
    let scene = g.met.S.Sight.is_scene c.args.scene.now c.requires.whole in
    rw (c.requires.from, ap length c.plan_all.ensures.standing ∙ c.place.ensures.same_length ∙ c.requires.clear.standings) (λ r less. floor_inside s.floor _ (scene.placed.on_floor r less))

pub lift-requires-clause-placed : goal.lift-requires-clause-placed
lift-requires-clause-placed g c = rw c.plan_all.ensures.standing c.place.ensures.placed

pub settle-requires-clause-few : goal.settle-requires-clause-few
settle-requires-clause-few g c = rw (c.requires.same_length, c.requires.from) (g.met.S.Sight.is_scene c.args.scene.now c.requires.whole).few

pub settle-requires-clause-same : goal.settle-requires-clause-same
settle-requires-clause-same g c = c.plan_all.ensures.planned.targets ∙ sym (c.requires.same_length ∙ ap length c.requires.from)

pub settle-requires-clause-matched : goal.settle-requires-clause-matched
settle-requires-clause-matched g c = rw c.lift.ensures.holder (record { held = c.plan_all.ensures.planned.tidy.held; kept = c.plan_all.ensures.planned.tidy.kept })

pub settle-requires-clause-decided : goal.settle-requires-clause-decided
settle-requires-clause-decided g c =
    let p = c.plan_all.new.board in
    let b = c.args.board.now in
    λ r less. planned-decided (g.S.Sight.setting c.args.scene.now) b.target c.place.new.seats.holder p.target p.seats.holder c.put_in_order.new.queue (order-names (g.S.Sight.setting c.args.scene.now) c.args.waits.now c.put_in_order.new.queue (c.requires.waited ∙ ap length c.requires.from) c.put_in_order.ensures.order) c.plan_all.ensures.planned r
    (omega (arith, c.requires.same_length, ap length c.requires.from))

pub returns-clause-clear : goal.returns-clause-clear
returns-clause-clear g c = record {
  targets = c.settle.ensures.targets ∙ c.plan_all.ensures.planned.targets ∙ sym (ap length c.requires.from);
  standings = ap length c.settle.ensures.standing ∙ c.lift.ensures.same_length ∙ ap length c.plan_all.ensures.standing ∙ c.place.ensures.same_length ∙ c.requires.clear.standings;
  holders = c.settle.ensures.holders ∙ ap length c.lift.ensures.holder ∙ c.plan_all.ensures.planned.holders;
  no_target = c.settle.ensures.no_target;
  nobody = subst IsEmpty (sym c.settle.ensures.standing) c.lift.ensures.empty;
  no_holder = c.settle.ensures.no_holder;
}

pub returns-clause-chosen : goal.returns-clause-chosen
returns-clause-chosen g c =
    let s = g.S.Sight.setting c.args.scene.now in
    let p = c.plan_all.new.board in
    let b = c.args.board.now in
    let planned = c.plan_all.ensures.planned in
    let names = order-names s c.args.waits.now c.put_in_order.new.queue (c.requires.waited ∙ ap length c.requires.from) c.put_in_order.ensures.order in
    chosen-from s c.put_in_order.new.queue b.target c.place.new.seats.holder p.target p.seats.holder c.settle.new.to c.requires.clear.no_target (subst IsEmpty (sym c.place.ensures.holder) c.requires.clear.no_holder) planned
    (planned-decided s b.target c.place.new.seats.holder p.target p.seats.holder c.put_in_order.new.queue names planned)
    (c.settle.auto.to ∙ c.requires.same_length ∙ ap length c.requires.from) c.settle.ensures.taken

pub returns-clause-order : goal.returns-clause-order
returns-clause-order g c = c.put_in_order.ensures.order

pub returns-clause-roll : goal.returns-clause-roll
returns-clause-roll g c = c.put_in_order.ensures.roll
