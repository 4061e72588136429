use Rattle.std.proofs.Common.{ℕ, List, Option, ◌≡◌, length, sym, ap, ◌∙◌, subst, arith, inl, inr}
use Rattle.fleet_history.specs.History.{history_of, clock}
use Rattle.fleet_history.specs.Laws.{EachTick}
use Rattle.turns_law.specs.Turns.{Turns}
use Rattle.mover.specs.Moving.{IsPlannedAs}
use Rattle.fleet_core.specs.Core.{World, ServesInTurns}
use Rattle.fleet_office.specs.Hall.{HallView}
use Rattle.fleet_office.specs.Views.{ClientCore, AreOn, AreDistinct, AreSettled, cores}
use Rattle.fleet_office.specs.Draining.{DrainsFirst}
use Rattle.fleet_office.specs.inside.Leftovers.{AreRooms}
use Rattle.fleet_office.specs.Concluded.{AreHome, IsAway, IsMet, AreTold}
use Rattle.fleet_office.proofs.Settling.{first_frame, lent_back}
use Rattle.fleet_office.proofs.Ended.{told-same}
use Rattle.fleet_office.proofs.conclude.Hall+N+A.conclude.Goals as goal

-- lanes that were emptied from the hall and the clients as they were handed in
begun_with : {A : Type 0} (count : ℕ) (seen hall : HallView A) (cs items : List (ClientCore A)) (last : World A) → seen ≡ hall → cs ≡ items →
    DrainsFirst count seen.ends cs seen.world last → DrainsFirst count hall.ends items hall.world last
begun_with count seen hall cs items last same clients drains =
    subst (λ xs. DrainsFirst count hall.ends xs hall.world last) clients (subst (λ v. DrainsFirst count v.ends cs v.world last) same drains)

pub wind_down-requires-clause-on : goal.wind_down-requires-clause-on
wind_down-requires-clause-on g c =
    let e = c.as_mut_slice.ensures.value in
    subst (λ xs. AreOn g.N.OfficeName.rings (cores xs)) (sym e) c.requires.on

pub wind_down-requires-clause-distinct : goal.wind_down-requires-clause-distinct
wind_down-requires-clause-distinct g c =
    let e = c.as_mut_slice.ensures.value in
    let a = c.as_slice.ensures.value in
    subst (λ xs. AreDistinct (cores xs)) (a ∙ sym e) c.in_default.ensures.ok.distinct

pub returns-in-Err-wind_down-clause-err : goal.returns-in-Err-wind_down-clause-err
returns-in-Err-wind_down-clause-err g c =
    let count = length g.N.OfficeName.rings in
    let a = c.as_slice.ensures.value in
    let home : AreHome count c.args.clients.items c.args.tickers.items (clock c.args.self.state.world.history) =
    subst (λ xs. AreHome count xs c.args.tickers.items (clock c.args.self.state.world.history)) a c.in_default.ensures.ok in
    let last = c.wind_down.new.self.world in
    let clients = ap cores c.as_mut_slice.ensures.value in
    let same = c.see_home.ensures.same in
    let met : IsMet count c.args.self.state.ends (cores c.args.clients.items) c.args.self.state.world last c.in-Err-wind_down.fault =
    subst (λ xs. IsMet count c.args.self.state.ends xs c.args.self.state.world last c.in-Err-wind_down.fault) clients
    (subst (λ v. IsMet count v.ends (cores c.as_mut_slice.result.now) v.world last c.in-Err-wind_down.fault) same c.in-Err-wind_down.ensures.err) in
    inr (home, (last, met))

pub returns-in-Err-wind_down-clause-back : goal.returns-in-Err-wind_down-clause-back
returns-in-Err-wind_down-clause-back g c =
    let items = c.args.clients.items in
    let e = c.as_mut_slice.ensures.value in
    let same : cores c.wind_down.new.clients ≡ cores items = c.wind_down.ensures.clients ∙ ap cores e in
    let now = lent_back c.wind_down.new.clients items c.args.clients.len (omega (arith, c.args.clients.ok.0)) same in
    let h = c.come_home-in-Err-wind_down.ensures in
    (ap cores (h.0 ∙ now) ∙ same, h.1 ∙ c.see_home.ensures.tickers)

pub finish-requires-clause-on : goal.finish-requires-clause-on
finish-requires-clause-on g c =
    let items = c.args.clients.items in
    let e = c.as_mut_slice.ensures.value in
    let same : cores c.wind_down.new.clients ≡ cores items = c.wind_down.ensures.clients ∙ ap cores e in
    let now = lent_back c.wind_down.new.clients items c.args.clients.len (omega (arith, c.args.clients.ok.0)) same in
    subst (AreOn g.N.OfficeName.rings) (sym (ap cores now ∙ same)) c.requires.on

pub finish-requires-clause-distinct : goal.finish-requires-clause-distinct
finish-requires-clause-distinct g c =
    let items = c.args.clients.items in
    let e = c.as_mut_slice.ensures.value in
    let a = c.as_slice.ensures.value in
    let same : cores c.wind_down.new.clients ≡ cores items = c.wind_down.ensures.clients ∙ ap cores e in
    let now = lent_back c.wind_down.new.clients items c.args.clients.len (omega (arith, c.args.clients.ok.0)) same in
    subst AreDistinct (ap cores a ∙ sym (ap cores now ∙ same)) c.in_default.ensures.ok.distinct

pub finish-requires-clause-settled : goal.finish-requires-clause-settled
finish-requires-clause-settled g c =
    let items = c.args.clients.items in
    let e = c.as_mut_slice.ensures.value in
    let same : cores c.wind_down.new.clients ≡ cores items = c.wind_down.ensures.clients ∙ ap cores e in
    let now = lent_back c.wind_down.new.clients items c.args.clients.len (omega (arith, c.args.clients.ok.0)) same in
    subst (AreSettled c.wind_down.new.self.ends) (sym now) c.in-Ok.ensures.settled

pub finish-requires-clause-rooms : goal.finish-requires-clause-rooms
finish-requires-clause-rooms g c =
    let items = c.args.clients.items in
    let e = c.as_mut_slice.ensures.value in
    let same : cores c.wind_down.new.clients ≡ cores items = c.wind_down.ensures.clients ∙ ap cores e in
    let now = lent_back c.wind_down.new.clients items c.args.clients.len (omega (arith, c.args.clients.ok.0)) same in
    subst (AreRooms c.in-Ok.rooms.items c.wind_down.new.self.world) (sym now) c.in-Ok.ensures.rooms

pub returns-clause-drains : goal.returns-clause-drains
returns-clause-drains g c =
    let count = length g.N.OfficeName.rings in
    let last = c.wind_down.new.self.world in
    let f = c.finish.ensures in
    let hall = c.args.self.state in
    let items = c.args.clients.items in
    let drains = begun_with count c.see_home.new.self hall (cores c.as_mut_slice.result.now) (cores items) last c.see_home.ensures.same (ap cores c.as_mut_slice.ensures.value) c.in-Ok.ensures.drains in
    let frame = first_frame count hall.ends (cores items) hall.world last drains in
    record { world = last; drains = drains; floor = f.floor ∙ frame.0; number = f.number ∙ frame.2; history = f.history }

-- no turns changed
turns_are : (g : _) (c : goal.After-drop-hall-3 g) → c.wind_down.new.self.world.turns ≡ c.args.self.state.world.turns
turns_are g c =
    let count = length g.N.OfficeName.rings in
    let last = c.wind_down.new.self.world in
    let hall = c.args.self.state in
    let items = c.args.clients.items in
    let drains = begun_with count c.see_home.new.self hall (cores c.as_mut_slice.result.now) (cores items) last c.see_home.ensures.same (ap cores c.as_mut_slice.ensures.value) c.in-Ok.ensures.drains in
    (first_frame count hall.ends (cores items) hall.world last drains).3

pub returns-clause-planned : goal.returns-clause-planned
returns-clause-planned g c =
    let count = length g.N.OfficeName.rings in
    let last = c.wind_down.new.self.world in
    let f = c.finish in
    let hall = c.args.self.state in
    let items = c.args.clients.items in
    let drains = begun_with count c.see_home.new.self hall (cores c.as_mut_slice.result.now) (cores items) last c.see_home.ensures.same (ap cores c.as_mut_slice.ensures.value) c.in-Ok.ensures.drains in
    subst (λ u. EachTick (IsPlannedAs u f.result.grid hall.world.ties) (history_of f.result.chapter)) (turns_are g c)
    (subst (λ t. EachTick (IsPlannedAs last.turns f.result.grid t) (history_of f.result.chapter)) (first_frame count hall.ends (cores items) hall.world last drains).1 f.ensures.planned)

pub returns-clause-told : goal.returns-clause-told
returns-clause-told g c =
    let items = c.args.clients.items in
    let f = c.finish in
    let e = c.as_mut_slice.ensures.value in
    let same : cores c.wind_down.new.clients ≡ cores items = c.wind_down.ensures.clients ∙ ap cores e in
    let now = lent_back c.wind_down.new.clients items c.args.clients.len (omega (arith, c.args.clients.ok.0)) same in
    told-same g.N.OfficeName.start f.result.chapter.number (history_of f.result.chapter) items c.wind_down.new.clients f.result.rest.items same
    (subst (λ xs. AreTold g.N.OfficeName.start f.result.chapter.number (history_of f.result.chapter) xs f.result.rest.items) now f.ensures.told)

pub returns-clause-all : goal.returns-clause-all
returns-clause-all g c =
    let count = length g.N.OfficeName.rings in
    let a = c.as_slice.ensures.value in
    let home : AreHome count c.args.clients.items c.args.tickers.items (clock c.args.self.state.world.history) =
    subst (λ xs. AreHome count xs c.args.tickers.items (clock c.args.self.state.world.history)) a c.in_default.ensures.ok in
    home.all

pub returns-in-Err : goal.returns-in-Err
returns-in-Err g c =
    let count = length g.N.OfficeName.rings in
    let h = c.come_home.ensures in
    record {
      drains = tt;
      legal = tt;
      planned = tt;
      advancing = tt;
      bounded = tt;
      served = tt;
      told = tt;
      tick = tt;
      all = tt;
      home = tt;
      err = inl (subst (λ xs. IsAway count xs c.args.tickers.items (clock c.args.self.state.world.history) c.in-Err.fault) c.as_slice.ensures.value c.in-Err.ensures.err);
      back = (ap cores h.0, h.1 ∙ c.see_home.ensures.tickers);
      on = subst (AreOn g.N.OfficeName.rings) (ap cores (sym h.0)) c.requires.on;
    }

pub returns-clause-legal : goal.returns-clause-legal
returns-clause-legal g c = c.finish.ensures.legal

pub returns-clause-advancing : goal.returns-clause-advancing
returns-clause-advancing g c = λ none. c.finish.ensures.advancing (turns_are g c ∙ none)

pub returns-clause-tick : goal.returns-clause-tick
returns-clause-tick g c =
    let was = c.in_default.ensures.ok.counted in
    let total = c.wind_down.ensures.total ∙ ap (λ v. v.total) c.see_home.ensures.same in
    let f = c.finish.ensures in
    (f.tick ∙ ap clock (sym f.history), f.tick ∙ sym c.recall_laws-2.ensures.lawful.clock ∙ total ∙ c.recall_laws.ensures.lawful.clock ∙ sym was)

pub returns-clause-home : goal.returns-clause-home
returns-clause-home g c =
    subst (λ xs. AreHome (length g.N.OfficeName.rings) xs c.args.tickers.items (clock c.args.self.state.world.history)) c.as_slice.ensures.value c.in_default.ensures.ok

pub returns-clause-err : goal.returns-clause-err
returns-clause-err g c = tt

pub returns-clause-back : goal.returns-clause-back
returns-clause-back g c = tt

pub returns-clause-on : goal.returns-clause-on
returns-clause-on g c = tt

pub returns-clause-bounded : goal.returns-clause-bounded
returns-clause-bounded g c = λ none. c.finish.ensures.bounded (turns_are g c ∙ none)

pub returns-clause-served : goal.returns-clause-served
returns-clause-served g c =
    let f = c.finish in
    subst (λ (u : Option Turns). ServesInTurns u f.result.grid (history_of f.result.chapter)) (turns_are g c) f.ensures.served

pub returns-in-Err-wind_down-clause-bounded : goal.returns-in-Err-wind_down-clause-bounded
returns-in-Err-wind_down-clause-bounded g c = tt

pub returns-in-Err-wind_down-clause-served : goal.returns-in-Err-wind_down-clause-served
returns-in-Err-wind_down-clause-served g c = tt

pub returns-in-Err-wind_down-clause-on : goal.returns-in-Err-wind_down-clause-on
returns-in-Err-wind_down-clause-on g c =
    let items = c.args.clients.items in
    let e = c.as_mut_slice.ensures.value in
    let same : cores c.wind_down.new.clients ≡ cores items = c.wind_down.ensures.clients ∙ ap cores e in
    let now = lent_back c.wind_down.new.clients items c.args.clients.len (omega (arith, c.args.clients.ok.0)) same in
    let h = c.come_home-in-Err-wind_down.ensures in
    subst (AreOn g.N.OfficeName.rings) (sym (ap cores (h.0 ∙ now) ∙ same)) c.requires.on

pub returns-in-Err-wind_down-clause-drains : goal.returns-in-Err-wind_down-clause-drains
returns-in-Err-wind_down-clause-drains g c = tt

pub returns-in-Err-wind_down-clause-legal : goal.returns-in-Err-wind_down-clause-legal
returns-in-Err-wind_down-clause-legal g c = tt

pub returns-in-Err-wind_down-clause-planned : goal.returns-in-Err-wind_down-clause-planned
returns-in-Err-wind_down-clause-planned g c = tt

pub returns-in-Err-wind_down-clause-advancing : goal.returns-in-Err-wind_down-clause-advancing
returns-in-Err-wind_down-clause-advancing g c = tt

pub returns-in-Err-wind_down-clause-told : goal.returns-in-Err-wind_down-clause-told
returns-in-Err-wind_down-clause-told g c = tt

pub returns-in-Err-wind_down-clause-tick : goal.returns-in-Err-wind_down-clause-tick
returns-in-Err-wind_down-clause-tick g c = tt

pub returns-in-Err-wind_down-clause-all : goal.returns-in-Err-wind_down-clause-all
returns-in-Err-wind_down-clause-all g c = tt

pub returns-in-Err-wind_down-clause-home : goal.returns-in-Err-wind_down-clause-home
returns-in-Err-wind_down-clause-home g c = tt
