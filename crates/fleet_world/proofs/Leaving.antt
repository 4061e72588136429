-- What a session leaves at the end of a run is the state that the run led to.
use Rattle.std.proofs.Common.{◌≡◌, ◌∙◌, ℕ, List, [], ◌∷◌, map, replicate, refl, sym, ap}
use Rattle.fleet_grid.specs.Floor.{Floor}
use Rattle.fleet_book.specs.declared.event.Event.{Event}
use Rattle.fleet_book.specs.declared.limits.Limits.{Limits}
use Rattle.fleet_book.specs.declared.notice.Notice.{Notice}
use Rattle.fleet_book.specs.declared.order.Order.{Order}
use Rattle.fleet_history.specs.History.{clients}
use Rattle.fleet_core.specs.Core.{World}
use Rattle.fleet_core.specs.Hooks.{HookLaws, AreOrderly}
use Rattle.fleet_core.specs.Opening.{CanOpen}
use Rattle.fleet_world.specs.declared.reply.Reply.{Reply}
use Rattle.fleet_world.specs.Run.{State, Lists, Run, lane, outlet, state_of, opened_state}
use Rattle.fleet_world.specs.Played.{client_lists}
use Rattle.fleet_world.specs.Talk.{Talk, Waiting, forget_lists, opened_talk}
use Rattle.fleet_world.specs.inside.Shown.{Leads}
use Rattle.fleet_world.proofs.Collecting.{leads-opened}
use Rattle.fleet_world.proofs.RunLaws.{IsEnd, ends, end-clients, end-left}

lanes_kept : (all : List Lists) → map (λ (w : Waiting). w.lane) (map forget_lists all) ≡ map lane all
lanes_kept [] = refl
lanes_kept (l ∷ all) = ap (λ rest. lane l ∷ rest) (lanes_kept all)

outlets_kept : (all : List Lists) → map (λ (w : Waiting). w.outlet) (map forget_lists all) ≡ map outlet all
outlets_kept [] = refl
outlets_kept (l ∷ all) = ap (λ rest. outlet l ∷ rest) (outlets_kept all)

-- a run of these events leaves this world and these lists
pub record IsLeft {A : Type 0} (first : State A) (events : List Event) (replies : List Reply) (w : World A) (lanes : List (List Order)) (outlets collected : List (List Notice)) : Type 0 where
  pub last : State A
  pub run : Run first events replies last
  pub end : IsEnd first.world last
  pub in_lanes : lanes ≡ map lane last.clients
  pub in_outlets : outlets ≡ map outlet last.clients
  pub got : collected ≡ map (λ l. l.collected) last.clients
  pub same : state_of w (client_lists w.history lanes outlets collected) ≡ last

pub left : {A : Type 0} (m : Floor) (starts : List ℕ) (n : ℕ) (limits : Limits) (laws : HookLaws) (t u : Talk A) (before after : List (List Notice)) (events : List Event) (replies : List Reply)
    (w : World A) (lanes : List (List Order)) (outlets collected : List (List Notice)) → CanOpen m starts n limits laws → AreOrderly laws → t ≡ opened_talk m starts n limits laws → before ≡ replicate n [] →
    Leads t before events replies u after → w ≡ u.world → lanes ≡ map (λ w. w.lane) u.clients → outlets ≡ map (λ w. w.outlet) u.clients → collected ≡ after →
    IsLeft (opened_state m starts n limits laws) events replies w lanes outlets collected
left {A} m starts n limits laws t u before after events replies w lanes outlets collected can orderly opened none leads world a b c =
    let (last, run, shows) = leads-opened m starts n limits laws t u before after events replies can orderly opened none leads in
    let end = ends m starts n limits laws events replies last can orderly run in
    let in_lanes = a ∙ ap (λ (x : Talk A). map (λ (w : Waiting). w.lane) x.clients) (sym shows.talk) ∙ lanes_kept last.clients in
    let in_outlets = b ∙ ap (λ (x : Talk A). map (λ (w : Waiting). w.outlet) x.clients) (sym shows.talk) ∙ outlets_kept last.clients in
    let all = c ∙ sym shows.got in
    record {
      last = last;
      run = run;
      end = end;
      in_lanes = in_lanes;
      in_outlets = in_outlets;
      got = all;
      same = end-left last.world w last.clients lanes outlets collected end.rings (world ∙ ap (λ (x : Talk A). x.world) (sym shows.talk)) in_lanes in_outlets all;
    }

-- it leaves as many clients as there were
pub left-clients : {A : Type 0} (m : Floor) (starts : List ℕ) (n : ℕ) (limits : Limits) (laws : HookLaws) (t u : Talk A) (before after : List (List Notice)) (events : List Event) (replies : List Reply) →
    CanOpen m starts n limits laws → AreOrderly laws → t ≡ opened_talk m starts n limits laws → before ≡ replicate n [] → Leads t before events replies u after → clients u.world.history ≡ n
left-clients {A} m starts n limits laws t u before after events replies can orderly opened none leads =
    let (last, run, shows) = leads-opened m starts n limits laws t u before after events replies can orderly opened none leads in
    ap (λ (x : Talk A). clients x.world.history) (sym shows.talk) ∙ end-clients m starts n limits laws last (ends m starts n limits laws events replies last can orderly run)
