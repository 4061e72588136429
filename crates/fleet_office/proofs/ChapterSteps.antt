-- The next chapter keeps the law of the lock.
use Rattle.std.proofs.Common.{◌≡◌, ◌↔◌, ◌<◌, ◌≤◌, ◌⊎◌, ⊎_elim, ℕ, List, length, sym, ap, subst, arith, ◌∙◌}
use Rattle.std.specs.Prelude.{Ok, Err, Result, Option, Some, None, OnErr, OnOk, IfOk, IfSome}
use Rattle.fleet_history.specs.History.{History, history_of}
use Rattle.fleet_history.specs.Laws.{EachTick}
use Rattle.mover.specs.Moving.{IsPlannedAs}
use Rattle.fleet_bound.specs.Bound.{WaitsAreBounded}
use Rattle.fleet_bound.specs.Roomy.{AdvancesIfRoomy, HasBound}
use Rattle.fleet_history.specs.Legal.{IsLegal}
use Rattle.fleet_history.specs.declared.history.Chapter.{Chapter}
use Rattle.fleet_history.proofs.Next.{next-clients}
use Rattle.fleet_core.specs.Core.{World, ServesInTurns, next_world}
use Rattle.fleet_core.specs.declared.faults.ChapterFault.{ChapterFault}
use Rattle.fleet_lanes.specs.Names.{LaneName}
use Rattle.fleet_lanes.specs.Ends.{EndView}
use Rattle.fleet_office.specs.Hall.{HallView, IsLawful, next_hall}
use Rattle.fleet_office.specs.Chapters.{IsChapterOf, HandsOutGrown}
use Rattle.fleet_office.proofs.Places.{within}
use Rattle.fleet_office.proofs.Sinces.{since-next, goes-next}

module _ {A : Type 0} (rings : List (LaneName A)) (began : World A) where
  pub lawful_next : (w : World A) (ends : List (EndView A)) (t : ℕ) → IsLegal (next_world w).floor (next_world w).history → IsLawful rings began w ends t → IsLawful rings began (next_world w) ends t
  lawful_next w ends t legal h = record {
    laws = λ c e at. record {
      lane = (h.laws c e at).lane;
      keeps = goes-next began.history w.floor w.history c e.taken _ h.legal (omega (arith, within ends c e at, h.end_count)) (h.laws c e at).keeps;
    };
    legal = legal;
    clock = omega (arith, h.clock);
    box_count = h.box_count ∙ sym (next-clients w.history);
    end_count = h.end_count ∙ sym (next-clients w.history);
    ring_count = h.ring_count;
    few = h.few;
    valid = h.valid;
    since = since-next began w h.since;
  }

  pub kept-next : {C E : Type 0} (w v : World A) (ends : List (EndView A)) (t : ℕ) (r : Result C E) → OnOk r (v ≡ next_world w) → OnErr r (v ≡ w) → IsLegal v.floor v.history →
      IsLawful rings began w ends t → IsLawful rings began v ends t
  kept-next w v ends t (Ok x) ok err legal h = subst (λ x. IsLawful rings began x ends t) (sym ok) (lawful_next w ends t (subst (λ (x : World A). IsLegal x.floor x.history) ok legal) h)
  kept-next w v ends t (Err e) ok err legal h = subst (λ x. IsLawful rings began x ends t) (sym err) h

abbrev ok_in : {X : Type 0} (E : Type 0) → Option X → Result (Option X) E
ok_in E x = Ok x

at_least : (a b : ℕ) → (a ≤ b) ⊎ (b < a)
at_least a b = grind arith

some_is_none : {X E : Type 0} {x : X} → ok_in E (Some x) ≡ ok_in E None → ⊥
some_is_none s = cc

-- what is handed out is the chapter of a lawful hall
pub handed : {A : Type 0} (rings : List (LaneName A)) (began : World A) (v : HallView A) (r : Result (Chapter A) ChapterFault) → IsLawful rings began v.world v.ends v.total →
    IfOk r (λ c. history_of c ≡ v.world.history) → IfOk r (λ c. c.number ≡ v.world.number) → OnOk r (EachTick (IsPlannedAs v.world.turns v.world.floor v.world.ties) v.world.history) →
    OnOk r (v.world.turns ≡ None → AdvancesIfRoomy v.world.floor v.world.history) →
    OnOk r (v.world.turns ≡ None → HasBound v.world.floor v.world.history → WaitsAreBounded v.world.floor v.world.history) →
    OnOk r (ServesInTurns v.world.turns v.world.floor v.world.history) →
    IfOk r (λ c. (h : HallView A) × IsChapterOf rings began h c.number (history_of c))
handed rings began v (Ok c) lawful is number planned advancing bounded served = (
  v,
  record {
    lawful = lawful;
    history = is;
    number = number;
    planned = subst (EachTick (IsPlannedAs v.world.turns v.world.floor v.world.ties)) (sym is) planned;
    advancing = subst (λ k. v.world.turns ≡ None → AdvancesIfRoomy v.world.floor k) (sym is) advancing;
    bounded = subst (λ k. v.world.turns ≡ None → HasBound v.world.floor k → WaitsAreBounded v.world.floor k) (sym is) bounded;
    served = subst (ServesInTurns v.world.turns v.world.floor) (sym is) served;
  },
)
handed rings began v (Err e) lawful is number planned advancing bounded served = tt

-- a grown chapter that was handed out has at least as many entries as were asked for
pub grown-enough : {A E : Type 0} (h g : HallView A) (least : ℕ) (r : Result (Option (Chapter A)) E) → ((r ≡ Ok None) ↔ (length h.world.history.entries < least)) →
    IfOk r (λ found. HandsOutGrown h found g) → IfOk r (λ found. IfSome found (λ c. least ≤ length (history_of c).entries))
grown-enough h g least (Ok None) few turned = tt
grown-enough {A = A} h g least (Ok (Some c)) few turned =
    ⊎_elim
    (λ (more : least ≤ length h.world.history.entries). subst (λ n. least ≤ n) (sym (ap (λ (x : History A). length x.entries) turned.0)) more)
    (λ (less : length h.world.history.entries < least). absurd (some_is_none (few.1 less)))
    (at_least least (length h.world.history.entries))
grown-enough h g least (Err e) few turned = tt

-- what holds where a call is refused holds with a fact more
pub with-fact : {X P Q : Type 0} → Q → (X ↔ P) → (X ↔ (Q × P))
with-fact q h = ((λ x. (q, h.0 x)), (λ p. h.1 p.1))

-- and is the chapter of a lawful hall
pub grown-handed : {A E : Type 0} (rings : List (LaneName A)) (began : World A) (h g : HallView A) (r : Result (Option (Chapter A)) E) → IsLawful rings began h.world h.ends h.total →
    EachTick (IsPlannedAs h.world.turns h.world.floor h.world.ties) h.world.history →
    (h.world.turns ≡ None → AdvancesIfRoomy h.world.floor h.world.history) →
    (h.world.turns ≡ None → HasBound h.world.floor h.world.history → WaitsAreBounded h.world.floor h.world.history) →
    ServesInTurns h.world.turns h.world.floor h.world.history →
    IfOk r (λ found. HandsOutGrown h found g) → IfOk r (λ found. IfSome found (λ c. (v : HallView A) × IsChapterOf rings began v c.number (history_of c)))
grown-handed rings began h g (Ok None) lawful planned advancing bounded served turned = tt
grown-handed rings began h g (Ok (Some c)) lawful planned advancing bounded served turned = (
  h,
  record {
    lawful = lawful;
    history = turned.0;
    number = turned.1;
    planned = subst (EachTick (IsPlannedAs h.world.turns h.world.floor h.world.ties)) (sym turned.0) planned;
    advancing = subst (λ k. h.world.turns ≡ None → AdvancesIfRoomy h.world.floor k) (sym turned.0) advancing;
    bounded = subst (λ k. h.world.turns ≡ None → HasBound h.world.floor k → WaitsAreBounded h.world.floor k) (sym turned.0) bounded;
    served = subst (ServesInTurns h.world.turns h.world.floor) (sym turned.0) served;
  },
)
grown-handed rings began h g (Err e) lawful planned advancing bounded served turned = tt

abbrev hall_of : {A : Type 0} → World A → List (EndView A) → ℕ → HallView A
hall_of w ends t = record { world = w; ends = ends; total = t }

module _ {A C E : Type 0} (w v : World A) (ends : List (EndView A)) (t : ℕ) where
  pub hall-next : (r : Result C E) → OnOk r (v ≡ next_world w) → OnOk r (hall_of v ends t ≡ next_hall (hall_of w ends t))
  hall-next (Ok x) e = ap (λ u. hall_of u ends t) e
  hall-next (Err x) e = tt

  pub hall-stays : (r : Result C E) → OnErr r (v ≡ w) → OnErr r (hall_of v ends t ≡ hall_of w ends t)
  hall-stays (Ok x) e = tt
  hall-stays (Err x) e = ap (λ u. hall_of u ends t) e
