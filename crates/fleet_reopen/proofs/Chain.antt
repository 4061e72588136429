-- What is promised of one chapter holds over chapters that follow one another.
use Rattle.std.proofs.Common.{◌≡◌, ℕ, ◌<◌, ◌*◌, List, [], ◌∷◌, ◌++◌, Some, length, true, refl, sym, ap, subst, ◌∙◌, arith}
use Rattle.std.specs.List.{flat_map}
use Rattle.std.proofs.lemmas.List.{append-nil, append_assoc}
use Rattle.std.proofs.lemmas.List.Concat.{flat_map-append}
use Rattle.fleet_grid.specs.Floor.{Floor}
use Rattle.fleet_book.specs.declared.notice.Notice.{Notice}
use Rattle.fleet_book.specs.declared.order.Order.{Order}
use Rattle.fleet_history.specs.declared.history.Opening.{Opening}
use Rattle.fleet_history.specs.History.{History, start, robots, clients, client_at, is_closed, unknown_client}
use Rattle.fleet_history.specs.Laws.{EachTick, orders, order_by}
use Rattle.fleet_history.specs.Legal.{IsInOrder, IsLegal, opened, grown}
use Rattle.fleet_history.specs.Next.{next_opening}
use Rattle.fleet_history.specs.Notices.{notices, told}
use Rattle.fleet_history.specs.Rings.{KeepsRing}
use Rattle.fleet_history.proofs.Told.{orders-after, notices-after}
use Rattle.fleet_history.proofs.Legal.{legal-opening}
use Rattle.fleet_history.proofs.Next.{next-clients, next-robots, start-closed}
use Rattle.fleet_history.proofs.Rings.{ring-after, ring-begins, ring-next}
use Rattle.fleet_planner.specs.Planned.{IsAdvancingTick}
use Rattle.fleet_bound.specs.Bound.{KeepsBound}
use Rattle.fleet_bound.specs.Roomy.{AdvancesIfRoomy, AreRoomy}
use Rattle.fleet_bound.proofs.BoundLaws.{bound-legal, bound-next}
use Rattle.turns_law.specs.Turns.{Turns}
use Rattle.turns_history.specs.Fleets.{TurnLimits, AreTurnsFor}
use Rattle.turns_history.specs.Kept.{AreServedBelow, KeepsTurnsAfter}
use Rattle.turns_history.proofs.Keeping.{next-keeps}
use Rattle.fleet_core.specs.Core.{ServesInTurns}
use Rattle.fleet_reopen.specs.Chapters.{AreChapters, first, next, all_orders, all_notices}

-- a chapter goes on with the lists of those before it
ring-chapter : {A : Type 0} (m : Floor) (h : History A) (c : ℕ) (taken : List Order) (ns : List Notice) → IsLegal m h → KeepsRing (start h.opening) c taken ns → KeepsRing h c (taken ++ orders h c) (ns ++ notices h c)
ring-chapter m h c taken ns (opened {o} i) keeps = rw (append-nil taken, append-nil ns) keeps
ring-chapter {A = A} m g c taken ns (grown {h} e legal f same) keeps =
    let before = ring-chapter m h c taken ns legal (subst (λ (k : History A). KeepsRing (start k.opening) c taken ns) same keeps) in
    subst (λ (k : History A). KeepsRing k c (taken ++ orders k c) (ns ++ notices k c)) (sym same)
    (rw (orders-after h c e, notices-after h c e, ← append_assoc taken (orders h c) (order_by c e), ← append_assoc ns (notices h c) (told h c e))
    (ring-after m h c (taken ++ orders h c) (ns ++ notices h c) legal before e f))

flat_more : {X Y : Type 0} (f : X → List Y) (xs all : List X) (x : X) → all ≡ xs ++ x ∷ [] → flat_map f all ≡ flat_map f xs ++ f x
flat_more f xs all x same = ap (flat_map f) same ∙ flat_map-append f xs (x ∷ []) ∙ ap (λ ys. flat_map f xs ++ ys) (append-nil (f x))

module _ {A : Type 0} (m : Floor) (P : History A → Type 0) (o : Opening A) where
  pub chain-legal : (before : List (History A)) (h : History A) → AreChapters m P o before h → IsLegal m h
  chain-legal before h (first legal has same) = legal
  chain-legal all g (next chain legal has same more) = legal

  pub chain-clients : (before : List (History A)) (h : History A) → AreChapters m P o before h → clients h ≡ length o.clients
  chain-clients before h (first legal has same) = ap (λ (p : Opening A). length p.clients) same
  chain-clients all g (next {before} {h} chain legal has same more) = ap (λ (p : Opening A). length p.clients) same ∙ next-clients h ∙ chain-clients before h chain

  pub chain-robots : (before : List (History A)) (h : History A) → AreChapters m P o before h → robots h ≡ length o.robots
  chain-robots before h (first legal has same) = ap (λ (p : Opening A). length p.robots) same
  chain-robots all g (next {before} {h} chain legal has same more) = ap (λ (p : Opening A). length p.robots) same ∙ next-robots h ∙ chain-robots before h chain

  -- each notice once and numbered, from the first chapter to the last
  pub chain-rings : (before : List (History A)) (h : History A) (c : ℕ) → c < length o.clients → client_at (start o) c ≡ unknown_client → AreChapters m P o before h →
      KeepsRing h c (all_orders before h c) (all_notices before h c)
  chain-rings before h c known new (first legal has same) =
      ring-chapter m h c [] [] legal (subst (λ (p : Opening A). KeepsRing (start p) c [] []) (sym same) (ring-begins m o c (opened (subst (IsInOrder m) same (legal-opening m h legal))) new))
  chain-rings all g c known new (next {before} {h} chain legal has same more) =
      let mine = chain-rings before h c known new chain in
      let on = ring-next m h c (all_orders before h c) (all_notices before h c) (chain-legal before h chain) (omega (arith, known, chain-clients before h chain)) mine in
      rw (flat_more (λ (k : History A). orders k c) before all h more, flat_more (λ (k : History A). notices k c) before all h more)
      (ring-chapter m g c (all_orders before h c) (all_notices before h c) legal (subst (λ (p : Opening A). KeepsRing (start p) c (all_orders before h c) (all_notices before h c)) (sym same) on))

  -- who is closed stays closed
  pub chain-closed : (before : List (History A)) (h g : History A) (c : ℕ) → AreChapters m P o before h → g.opening ≡ next_opening h → c < clients h → is_closed h c ≡ true → is_closed (start g.opening) c ≡ true
  chain-closed before h g c chain same known closed = subst (λ (p : Opening A). is_closed (start p) c ≡ true) (sym same) (start-closed h c known ∙ closed)

-- where each tick advances the bound on waits is kept, from the first chapter to the last
pub chain-bound : {A : Type 0} (m : Floor) (o : Opening A) (before : List (History A)) (h : History A) → AreChapters m (EachTick (IsAdvancingTick m)) o before h → KeepsBound m (start o) → KeepsBound m h
chain-bound {A = A} m o before h (first legal advancing same) keeps = bound-legal m h legal advancing (subst (λ (p : Opening A). KeepsBound m (start p)) (sym same) keeps)
chain-bound {A = A} m o all g (next {before} {h} chain legal advancing same more) keeps =
    bound-legal m g legal advancing
    (subst (λ (p : Opening A). KeepsBound m (start p)) (sym same) (bound-next m h (chain-legal m (EachTick (IsAdvancingTick m)) o before h chain) (chain-bound m o before h chain keeps)))

-- what each chapter of a chain has follows of each
chain-weaker : {A : Type 0} (m : Floor) (P Q : History A → Type 0) (o : Opening A) (before : List (History A)) (h : History A) → ((k : History A) → P k → Q k) → AreChapters m P o before h → AreChapters m Q o before h
chain-weaker m P Q o before h so (first legal has same) = first legal (so h has) same
chain-weaker m P Q o all g so (next {before} {h} chain legal has same more) = next (chain-weaker m P Q o before h so chain) legal (so g has) same more

-- so it is where worlds promise that each tick advances, since all errands go to roomy cells
pub chain-roomy : {A : Type 0} (m : Floor) (o : Opening A) (before : List (History A)) (h : History A) → AreChapters m (λ (k : History A). AreRoomy m k × AdvancesIfRoomy m k) o before h → KeepsBound m (start o) → KeepsBound m h
chain-roomy {A = A} m o before h chain = chain-bound m o before h (chain-weaker m (λ (k : History A). AreRoomy m k × AdvancesIfRoomy m k) (EachTick (IsAdvancingTick m)) o before h (λ k has. has.1 has.0) chain)

-- in turns the bound on waits for served errands is kept
module _ {A : Type 0} (m : Floor) (t : Turns) (l : TurnLimits) (o : Opening A) (are : AreTurnsFor m t l (robots (start o))) (begins : KeepsTurnsAfter m t l (start o)) where
  pub chain-serves : (before : List (History A)) (h : History A) → AreChapters m (ServesInTurns (Some t) m) o before h → KeepsTurnsAfter m t l h × AreServedBelow t (robots h * l.turn) h
  chain-serves before h (first legal serves same) =
      serves t l refl (subst (λ (p : Opening A). AreTurnsFor m t l (robots (start p))) (sym same) are) (subst (λ (p : Opening A). KeepsTurnsAfter m t l (start p)) (sym same) begins)
  chain-serves all g (next {before} {h} chain legal serves same more) =
      let many : robots g ≡ length o.robots = chain-robots m (ServesInTurns (Some t) m) o all g (next chain legal serves same more) in
      let was = chain-serves before h chain in
      let on = next-keeps m t l h (chain-legal m (ServesInTurns (Some t) m) o before h chain) was.0 in
      serves t l refl (subst (λ (n : ℕ). AreTurnsFor m t l n) (sym many) are) (subst (λ (p : Opening A). KeepsTurnsAfter m t l (start p)) (sym same) on)
