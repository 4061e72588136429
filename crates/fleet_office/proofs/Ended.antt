-- What holds of a history that was handed out.
use Rattle.std.proofs.Common.{◌≡◌, ◌++◌, ℕ, List, Option, None, sym, ap, ◌∙◌, subst, arith, append_assoc}
use Rattle.std.specs.Prelude.{slice_get, Vec, Result, Ok, Err, IfOk}
use Rattle.std.proofs.lemmas.Option.{slice_get_within}
use Rattle.fleet_book.specs.declared.notice.Notice.{Notice}
use Rattle.fleet_grid.specs.Floor.{Floor}
use Rattle.fleet_history.specs.History.{History, client_at}
use Rattle.fleet_history.specs.Legal.{IsLegal}
use Rattle.fleet_history.specs.Laws.{EachTick, orders}
use Rattle.fleet_history.specs.Notices.{notices}
use Rattle.fleet_history.specs.Rings.{KeepsRing}
use Rattle.turns_law.specs.Turns.{Turns}
use Rattle.mover.specs.Moving.{IsPlannedAs}
use Rattle.fleet_bound.specs.Bound.{WaitsAreBounded}
use Rattle.fleet_bound.specs.Roomy.{AdvancesIfRoomy, HasBound}
use Rattle.fleet_core.specs.Core.{World, ServesInTurns, pending}
use Rattle.fleet_lanes.specs.Names.{LaneName}
use Rattle.fleet_lanes.specs.Ends.{EndView, ClientView}
use Rattle.fleet_office.specs.Since.{GoesOn, IsSince, IsChapterSince}
use Rattle.fleet_office.specs.Hall.{HallView, IsLawful}
use Rattle.fleet_office.specs.Views.{AreOn, AreSettled, ClientCore, core, cores}
use Rattle.fleet_office.specs.inside.Leftovers.{SameBut, LeftoversAre}
use Rattle.fleet_office.specs.Concluded.{IsTold, AreTold, IsLast}
use Rattle.fleet_office.proofs.Places.{at_map, map_at, there_is}
use Rattle.fleet_office.proofs.Settling.{first_opening}
use Rattle.fleet_office.proofs.Sinces.{goes-own, goes-unknown, since-chapter}

module _ {A : Type 0} (w v : World A) (m : Floor) (h : History A) (floor : m ≡ v.floor) (history : h ≡ v.history) (same : SameBut w v) where
  pub legal-ended : IsLegal v.floor v.history → IsLegal m h
  legal-ended l = subst (λ k. IsLegal m k) (sym history) (subst (λ k. IsLegal k v.history) (sym floor) l)

  -- what holds of the turns, the map and the history
  as-ended : (P : Option Turns → Floor → History A → Type 0) → P v.turns v.floor v.history → P w.turns m h
  as-ended P p = subst (λ k. P w.turns m k) (sym history) (subst (λ k. P w.turns k v.history) (sym floor) (subst (λ t. P t v.floor v.history) same.turns p))

  pub planned-ended : EachTick (IsPlannedAs v.turns v.floor v.ties) v.history → EachTick (IsPlannedAs w.turns m w.ties) h
  planned-ended p = subst (λ t. EachTick (IsPlannedAs w.turns m t) h) same.ties (as-ended (λ turns k g. EachTick (IsPlannedAs turns k v.ties) g) p)

  pub advancing-ended : (v.turns ≡ None → AdvancesIfRoomy v.floor v.history) → w.turns ≡ None → AdvancesIfRoomy m h
  advancing-ended = as-ended (λ turns k g. turns ≡ None → AdvancesIfRoomy k g)

  pub bounded-ended : (v.turns ≡ None → HasBound v.floor v.history → WaitsAreBounded v.floor v.history) → w.turns ≡ None → HasBound m h → WaitsAreBounded m h
  bounded-ended = as-ended (λ turns k g. turns ≡ None → HasBound k g → WaitsAreBounded k g)

  pub served-ended : ServesInTurns v.turns v.floor v.history → ServesInTurns w.turns m h
  served-ended = as-ended (λ turns k g. ServesInTurns turns k g)

module _ {A : Type 0} (rings : List (LaneName A)) (began : World A) (w : World A) (ends : List (EndView A)) (t : ℕ) (law : IsLawful rings began w ends t) where
  -- what each client was told, once its lane is empty
  pub told-ended : (number : ℕ) (h : History A) (cs : List (ClientView A)) (rests : List (Vec Notice A)) → number ≡ w.number → h ≡ w.history → AreOn rings (cores cs) → AreSettled ends cs → LeftoversAre rests w cs → AreTold began number h cs rests
  told-ended number h cs rests same is on settled rest k x at =
      let c = x.number in
      let r = rest k x at in
      let ring = on k (core x) (map_at core cs k x at) in
      let e = there_is ends c (omega (arith, slice_get_within rings c x.lane ring, law.ring_count)) in
      let s = settled k x at in
      let all : e.0.given ++ (pending w c).notices ≡ x.collected ++ r.0.items =
      ap (λ g. g ++ (pending w c).notices) (sym (s.given e.0 e.1)) ∙ append_assoc x.collected x.known (pending w c).notices ∙ ap (λ y. x.collected ++ y) (sym r.2) in
      let on : GoesOn began.history w.history c x.sent (x.collected ++ r.0.items) =
      subst (λ o. GoesOn began.history w.history c o (x.collected ++ r.0.items)) (s.taken e.0 e.1) (subst (GoesOn began.history w.history c e.0.taken) all (law.laws c e.0 e.1).keeps) in
      let own = λ (z : number ≡ began.number). goes-own w.floor began.history w.history c x.sent (x.collected ++ r.0.items) law.legal (law.since.opening (sym same ∙ z)) on in (
        r.0,
        r.1,
        subst (λ g. IsTold began number g x r.0.items) (sym is)
            (record {
              goes_on = on;
              keeps = λ unknown. goes-unknown began.floor began.history w.history c x.sent (x.collected ++ r.0.items) law.since.begun law.since.legal unknown on;
              orders = λ z. (own z).0;
              notices = λ z. (own z).1;
            }),
      )

-- of the clients as they were handed in
pub told-same : {A : Type 0} (began : World A) (number : ℕ) (h : History A) (cs now : List (ClientView A)) (rests : List (Vec Notice A)) → cores now ≡ cores cs → AreTold began number h now rests → AreTold began number h cs rests
told-same began number h cs now rests same told k x at =
    let d = at_map core now k (core x) (ap (λ z. slice_get z k) same ∙ map_at core cs k x at) in
    let n : d.0.number ≡ x.number = ap (λ z. z.number) d.2 in
    let r = told k d.0 d.1 in
    let sent = ap (λ z. z.sent) d.2 in
    let collected = ap (λ z. z.collected) d.2 in (
      r.0,
      ap (slice_get rests) (sym n) ∙ r.1,
      record {
        goes_on = subst (λ c. GoesOn began.history h c x.sent (x.collected ++ r.0.items)) n (subst (λ o. GoesOn began.history h d.0.number o (x.collected ++ r.0.items)) sent (subst (λ g. GoesOn began.history h d.0.number d.0.sent (g ++ r.0.items)) collected r.2.goes_on));
        keeps = λ unknown. subst (λ c. KeepsRing h c x.sent (x.collected ++ r.0.items)) n (subst (λ o. KeepsRing h d.0.number o (x.collected ++ r.0.items)) sent (subst (λ g. KeepsRing h d.0.number d.0.sent (g ++ r.0.items)) collected (r.2.keeps (ap (client_at began.history) n ∙ unknown))));
        orders = λ z. ap (orders h) (sym n) ∙ r.2.orders z ∙ sent;
        notices = λ z. ap (notices h) (sym n) ∙ r.2.notices z ∙ ap (λ g. g ++ r.0.items) collected;
      },
    )

-- the last chapter is one of the office that began so
pub last-since : {A X E : Type 0} (began : World A) (count : ℕ) (hall : HallView A) (cs : List (ClientCore A)) (r : Result X E) (floor : X → Floor) (number : X → ℕ) (history : X → History A) →
    IsSince began hall.world → IfOk r (λ x. IsLast count hall cs (floor x) (number x) (history x)) → IfOk r (λ x. IsChapterSince began (floor x) (number x) (history x))
last-since {A = A} began count hall cs (Ok x) floor number history since last =
    since-chapter began hall.world (floor x) (number x) (history x) since last.floor last.number
    (ap (λ (h : History A). h.opening) last.history ∙ first_opening count hall.ends cs hall.world last.world last.drains)
last-since began count hall cs (Err e) floor number history since last = tt

-- what holds of it with the turns of the last world holds with those of its beginning
pub last-as : {A X E : Type 0} (began w : World A) (r : Result X E) (P : Option Turns → X → Type 0) → w.turns ≡ began.turns → IfOk r (P w.turns) → IfOk r (P began.turns)
last-as began w r P same holds = subst (λ turns. IfOk r (P turns)) same holds

-- and its ticks are planned by the ties of its beginning
pub last-planned : {A X E : Type 0} (began w : World A) (r : Result X E) (floor : X → Floor) (history : X → History A) →
    w.ties ≡ began.ties → w.turns ≡ began.turns → IfOk r (λ x. EachTick (IsPlannedAs w.turns (floor x) w.ties) (history x)) →
    IfOk r (λ x. EachTick (IsPlannedAs began.turns (floor x) began.ties) (history x))
last-planned began w r floor history same turns planned =
    last-as began w r (λ u x. EachTick (IsPlannedAs u (floor x) began.ties) (history x)) turns
    (subst (λ ties. IfOk r (λ x. EachTick (IsPlannedAs w.turns (floor x) ties) (history x))) same planned)
