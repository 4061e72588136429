-- What holds at the end of a run.
use Rattle.std.proofs.Common.{◌≡◌, ℕ, ◌<◌, List, [], ◌++◌, None, length, map, sym, ap, ◌∙◌, subst, arith}
use Rattle.std.specs.Prelude.{slice_index_or}
use Rattle.std.proofs.lemmas.List.{append_assoc, length-map, length-replicate, get_or-replicate, get_or-map}
use Rattle.fleet_grid.specs.Floor.{Floor}
use Rattle.fleet_book.specs.declared.event.Event.{Event}
use Rattle.fleet_book.specs.declared.limits.Limits.{Limits}
use Rattle.fleet_book.specs.declared.notice.Notice.{Notice}
use Rattle.fleet_book.specs.declared.order.Order.{Order}
use Rattle.fleet_history.specs.declared.history.Opening.{Opening}
use Rattle.fleet_history.specs.History.{start, clients, client_at, unknown_client}
use Rattle.fleet_history.specs.Laws.{EachTick, orders}
use Rattle.fleet_history.specs.Rings.{KeepsRing}
use Rattle.fleet_history.proofs.Rings.{ring-legal}
use Rattle.fleet_history.proofs.Ticks.{each_tick-start}
use Rattle.fleet_planner.specs.Planned.{IsPlanned}
use Rattle.mover.specs.Moving.{IsPlannedAs}
use Rattle.fleet_world.specs.declared.reply.Reply.{Reply}
use Rattle.fleet_core.specs.Core.{World, opening_of, opened_world}
use Rattle.fleet_core.specs.Hooks.{HookLaws, AreOrderly}
use Rattle.fleet_core.specs.Opening.{CanOpen}
use Rattle.fleet_world.specs.Laws.{KeepsRings, KeepsEachRing, CollectsInOrder, IsSameGround}
use Rattle.fleet_world.specs.Played.{client_lists}
use Rattle.fleet_world.specs.Run.{State, Lists, Run, lane, outlet, mailbox, lists, no_lists, state_of, opened_state}
use Rattle.fleet_world.proofs.FinalLists.{lists-left, KeepsRings-opened}
use Rattle.fleet_world.proofs.StepLaws.{IsLegalWorld, legal-run, ground-run, planned-run}
use Rattle.fleet_bound.specs.Bound.{KeepsBound, WaitsAreBounded}
use Rattle.fleet_bound.specs.Roomy.{AdvancesIfRoomy, AreRoomy}
use Rattle.fleet_bound.proofs.BoundLaws.{bounded-legal}
use Rattle.fleet_bound.proofs.Roomy.{roomy-ticks}
use Rattle.fleet_core.proofs.Manners.{plainly}
use Rattle.fleet_core.proofs.WaitBound.{bound-opened}
use Rattle.fleet_core.proofs.OpeningFacts.{legal-opened}
use Rattle.fleet_world.proofs.Rings.{KeepsRings-run}

abbrev pub AreAdvancing : {A : Type 0} → World A → Type 0
AreAdvancing w = AdvancesIfRoomy w.floor w.history

-- if all errands go to roomy cells, the waits are below the bound
abbrev pub AreBounded : {A : Type 0} → World A → Type 0
AreBounded w = AreRoomy w.floor w.history → WaitsAreBounded w.floor w.history

-- they are where they were at the opening, and each tick since is advancing
bounded-same : {A : Type 0} (o w : World A) → IsSameGround o w → KeepsBound o.floor (start o.history.opening) → IsLegalWorld w → AreAdvancing w → AreBounded w
bounded-same {A = A} o w same begins legal advancing roomy =
    let opened : KeepsBound w.floor (start w.history.opening)
    = subst (λ f. KeepsBound f (start w.history.opening)) (sym same.floor) (subst (λ (p : Opening A). KeepsBound o.floor (start p)) (sym same.opening) begins) in
    bounded-legal w.floor w.history legal (advancing roomy) opened

-- what holds of the state that a run leads to from this world
pub record IsEnd {A : Type 0} (o : World A) (s : State A) : Type 0 where
  pub legal : IsLegalWorld s.world
  pub ground : IsSameGround o s.world
  pub rings : KeepsRings s
  pub planned : EachTick (IsPlanned s.world.floor s.world.ties) s.world.history
  pub advancing : AreAdvancing s.world
  pub bounded : AreBounded s.world

pub ends : {A : Type 0} (m : Floor) (starts : List ℕ) (n : ℕ) (limits : Limits) (laws : HookLaws) (events : List Event) (replies : List Reply) (s : State A) →
    CanOpen m starts n limits laws → AreOrderly laws → Run (opened_state m starts n limits laws) events replies s → IsEnd (opened_world m starts n limits laws) s
ends {A = A} m starts n limits laws events replies s can orderly r =
    let o : State A = opened_state m starts n limits laws in
    let opening : Opening A = opening_of starts n limits laws in
    let legal = legal-run o s events replies r (legal-opened m starts n limits laws can orderly) in
    let ground = ground-run o s events replies r in
    let planned : EachTick (IsPlanned s.world.floor s.world.ties) s.world.history =
    plainly s.world.floor s.world.ties s.world.history s.world.turns ground.turns (planned-run o s events replies r (each_tick-start (IsPlannedAs None m laws.ties) opening)) in
    let advancing : AreAdvancing s.world = roomy-ticks s.world.floor s.world.ties s.world.history legal planned in
    record {
      legal = legal;
      ground = ground;
      rings = KeepsRings-run o s events replies r (KeepsRings-opened m starts n limits laws);
      planned = planned;
      advancing = advancing;
      bounded = bounded-same (opened_world m starts n limits laws) s.world ground (bound-opened m starts n limits laws can orderly) legal advancing;
    }

-- lists that look the same by parts are of one length
pub same_length : {X Y Z : Type 0} (f : X → Z) (xs : List X) (g : Y → Z) (ys : List Y) → map f xs ≡ map g ys → length xs ≡ length ys
same_length f xs g ys e = sym (length-map xs f) ∙ ap length e ∙ length-map ys g

-- the state that is handed out is the one that the run led to
pub end-left : {A : Type 0} (w v : World A) (ends : List Lists) (lanes : List (List Order)) (outlets collected : List (List Notice)) → KeepsRings (state_of w ends) → v ≡ w →
    lanes ≡ map lane ends → outlets ≡ map outlet ends → collected ≡ map (λ l. l.collected) ends → state_of v (client_lists v.history lanes outlets collected) ≡ state_of w ends
end-left {A = A} w v ends lanes outlets collected k same a b d =
    subst (λ (v : World A). state_of v (client_lists v.history lanes outlets collected) ≡ state_of w ends) (sym same)
    (ap (λ (l : List Lists). state_of w l) (lists-left w ends lanes outlets collected k a b d))

module _ {A : Type 0} (m : Floor) (starts : List ℕ) (n : ℕ) (limits : Limits) (laws : HookLaws) (s : State A) (e : IsEnd (opened_world m starts n limits laws) s) where
  -- there are as many clients as were asked for
  pub end-clients : clients s.world.history ≡ n
  end-clients = ap (λ (o : Opening A). length o.clients) e.ground.opening ∙ length-replicate n unknown_client

  -- none of them was known before
  end-unknown : (c : ℕ) → c < n → client_at s.world.history c ≡ unknown_client
  end-unknown c l = ap (λ (o : Opening A). slice_index_or o.clients c unknown_client) e.ground.opening ∙ get_or-replicate n c unknown_client unknown_client l

  pub end-each : KeepsEachRing s
  end-each c l =
      let h = s.world.history in
      let law = e.rings.each c l in
      let known : c < n = omega (arith, end-clients) in
      subst (λ (t : List Order). KeepsRing h c t ((lists s c).given ++ mailbox s c)) law.taken
      (subst (λ (t : List Notice). KeepsRing h c (orders h c) t) (sym law.told) (ring-legal s.world.floor h c e.legal (end-unknown c known)))

-- what was collected is the beginning of the notices
pub end-once : {A : Type 0} (s : State A) (collected : List (List Notice)) → KeepsRings s → collected ≡ map (λ l. l.collected) s.clients → CollectsInOrder s.world.history collected
end-once s collected k d c l =
    let law = k.each c l in
    let known : c < length s.clients = omega (arith, k.list_count) in
    let got : slice_index_or collected c [] ≡ (lists s c).collected = ap (λ xs. slice_index_or xs c []) d ∙ get_or-map (λ (l : Lists). l.collected) s.clients c no_lists [] known in (
      outlet (lists s c) ++ mailbox s c,
      ap (λ (x : List Notice). x ++ (outlet (lists s c) ++ mailbox s c)) got
          ∙ sym (append_assoc (lists s c).collected (outlet (lists s c)) (mailbox s c))
          ∙ ap (λ (x : List Notice). x ++ mailbox s c) law.collected_prefix
          ∙ law.told,
    )
