use Rattle.std.proofs.Common.{rules, ◌≡◌, ◌<◌, ℕ, length, get_or, subst, Some, List, refl}
use Rattle.std.specs.Prelude.{Ok, Err, Result, OnOk, slice_get}
use Rattle.std.proofs.lemmas.Option.{slice_get-get_or}
use Rattle.fleet_lanes.specs.Names.{LaneName}
use Rattle.fleet_lanes.specs.Ends.{ClientView}
use Rattle.fleet_office.specs.Views.{AreOn, OthersStay, core, cores}
use Rattle.fleet_office.specs.inside.Lanes.{DrainsLane}
use Rattle.fleet_office.proofs.Places.{from_first, map_at}
use Rattle.fleet_office.proofs.Emptied.{none_taken}
use Rattle.fleet_office.proofs.Settling.{cores_set, number_settled, keeps_others, left_number, left_none}
use Rattle.fleet_office.proofs.hall_state.HallState.drain_number.Goals as goal

on_at : {A : Type 0} (rings : List (LaneName A)) (cs : List (ClientView A)) (k : ℕ) (r : ClientView A) → k < length cs → AreOn rings (cores cs) → slice_get rings (get_or cs k r).number ≡ Some (get_or cs k r).lane
on_at rings cs k r inside on = on k (core (get_or cs k r)) (map_at core cs k (get_or cs k r) (slice_get-get_or cs k r inside))

pub drain-requires : goal.drain-requires
drain-requires g c = on_at g.N.OfficeName.rings c.args.clients.now c.in-Some.k c.index-clients-k.result c.in-Some.ensures.some.1 c.requires.on

on_ok_map : {X E : Type 0} {P Q : Type 0} (r : Result X E) → (P → Q) → OnOk r P → OnOk r Q
on_ok_map (Ok x) f p = f p
on_ok_map (Err e) f p = tt

pub returns-in_default-clause-drains : goal.returns-in_default-clause-drains
returns-in_default-clause-drains g c =
    let d = none_taken c.args.self.now.world c.args.number in
    (0, left_none c.args.self.now.ends c.args.clients.now c.args.number 0 (λ k x at. c.in_default.ensures.none k x (from_first k) at), (d.0, d.1, tt))

pub returns-clause-clients : goal.returns-clause-clients
returns-clause-clients g c =
    let cs = c.args.clients.now in
    let k = c.in-Some.k in
    let x = get_or cs k c.index-clients-k.result in
    cores_set cs k x c.drain.new.client (slice_get-get_or cs k c.index-clients-k.result c.in-Some.ensures.some.1) c.drain.ensures.client

pub returns-clause-kept : goal.returns-clause-kept
returns-clause-kept g c =
    let cs = c.args.clients.now in
    let k = c.in-Some.k in
    let x = get_or cs k c.index-clients-k.result in
    let at = slice_get-get_or cs k c.index-clients-k.result c.in-Some.ensures.some.1 in
    keeps_others cs c.args.number k x c.drain.new.client (c.in-Some.ensures.some.2 x at) c.drain.ensures.client

pub returns-clause-others : goal.returns-clause-others
returns-clause-others g c =
    let x = get_or c.args.clients.now c.in-Some.k c.index-clients-k.result in
    let at = slice_get-get_or c.args.clients.now c.in-Some.k c.index-clients-k.result c.in-Some.ensures.some.1 in
    subst (λ m. OthersStay m c.args.self.now.ends c.drain.new.self.ends) (c.in-Some.ensures.some.2 x at) c.drain.ensures.others

pub returns-clause-drains : goal.returns-clause-drains
returns-clause-drains g c =
    let x = get_or c.args.clients.now c.in-Some.k c.index-clients-k.result in
    let at = slice_get-get_or c.args.clients.now c.in-Some.k c.index-clients-k.result c.in-Some.ensures.some.1 in
    let number = c.in-Some.ensures.some.2 x at in
    let d = c.drain.ensures.drains in (
      d.0,
      left_number c.args.self.now.ends c.args.clients.now c.args.number c.in-Some.k d.0 x at number c.requires.distinct d.1,
      subst (λ m. DrainsLane c.args.self.now.world m d.0 c.drain.new.self.world c.drain.result) number d.2,
    )

pub returns-clause-ok : goal.returns-clause-ok
returns-clause-ok g c =
    let cs = c.args.clients.now in
    let k = c.in-Some.k in
    let x = get_or cs k c.index-clients-k.result in
    let at = slice_get-get_or cs k c.index-clients-k.result c.in-Some.ensures.some.1 in
    on_ok_map c.drain.result (number_settled c.drain.new.self.ends cs c.args.number k x c.drain.new.client at (c.in-Some.ensures.some.2 x at) c.requires.distinct) c.drain.ensures.ok

pub returns-in_default-clause-kept : goal.returns-in_default-clause-kept
returns-in_default-clause-kept g c = λ k x at other. at

pub returns-in_default-clause-others : goal.returns-in_default-clause-others
returns-in_default-clause-others g c = record { count = refl; each = λ k e other at. at }

pub returns-in_default-clause-ok : goal.returns-in_default-clause-ok
returns-in_default-clause-ok g c = λ k x at same. absurd (c.in_default.ensures.none k x (from_first k) at same)

pub bounds-clients-k : goal.bounds-clients-k
bounds-clients-k g c = c.in-Some.ensures.some.1

pub returns-clause-full : goal.returns-clause-full
returns-clause-full g c = c.drain.ensures.full

pub returns-clause-total : goal.returns-clause-total
returns-clause-total g c = c.drain.ensures.total

pub offset_bounds-clients-k : goal.offset_bounds-clients-k
offset_bounds-clients-k g c = let less : c.in-Some.k < length c.args.clients.now = c.in-Some.ensures.some.1 in search rules depth 3
