-- The law of the lock at an opening.
use Rattle.std.proofs.Common.{◌≡◌, ℕ, zero, suc, ◌++◌, List, [], ◌∷◌, length, get_or, replicate, Some, refl, ap, sym, ◌∙◌, subst, arith}
use Rattle.std.specs.Prelude.{slice_get}
use Rattle.std.specs.Option.{option_map}
use Rattle.std.proofs.lemmas.List.{length-map, length-replicate}
use Rattle.std.proofs.lemmas.Option.{slice_get-map}
use Rattle.fleet_grid.specs.Floor.{Floor}
use Rattle.fleet_book.specs.declared.limits.Limits.{Limits}
use Rattle.fleet_history.specs.declared.history.ClientState.{ClientState}
use Rattle.fleet_history.specs.History.{clients, unknown_client}
use Rattle.fleet_history.specs.Legal.{IsLegal}
use Rattle.fleet_core.specs.Hooks.{HookLaws}
use Rattle.fleet_core.specs.Pending.{Pending, no_pending}
use Rattle.fleet_core.specs.Opening.{AreInRange}
use Rattle.fleet_core.specs.Core.{World, pending, opened_world}
use Rattle.fleet_lanes.specs.Names.{LaneName}
use Rattle.fleet_lanes.specs.Ends.{EndView, ClientView}
use Rattle.fleet_office.specs.Views.{ArePairs, AreOn, ClientCore, core, cores, rings_of}
use Rattle.fleet_office.specs.Hall.{IsLawful}
use Rattle.fleet_office.specs.Since.{GoesOn}
use Rattle.fleet_office.specs.inside.Openings.{IsUnused}
use Rattle.fleet_office.proofs.Places.{at_map}
use Rattle.fleet_office.proofs.Sinces.{goes-begins, since-begins}

no_notice : (n k limit : ℕ) → (get_or (replicate {A = Pending} n (record { notices = []; limit = limit })) k no_pending).notices ≡ []
no_notice zero k limit = refl
no_notice (suc n) zero limit = refl
no_notice (suc n) (suc k) limit = no_notice n k limit

-- the place of the other list
beside : {X Y : Type 0} (xs : List X) (ys : List Y) (k : ℕ) (x : X) → length xs ≡ length ys → slice_get xs k ≡ Some x → (y : Y) × (slice_get ys k ≡ Some y)
beside [] ys k x e at = cc
beside (z ∷ xs) [] k x e at = absurd (omega arith)
beside (z ∷ xs) (y ∷ ys) zero x e at = (y, refl)
beside (z ∷ xs) (y ∷ ys) (suc k) x e at = beside xs ys k x (omega arith) at

module _ {A : Type 0} where
  ring_at : (ends : List (EndView A)) (k : ℕ) (e : EndView A) → slice_get ends k ≡ Some e → slice_get (rings_of ends) k ≡ Some e.lane
  ring_at ends k e at = slice_get-map (λ x. x.lane) ends k ∙ ap (option_map (λ x. x.lane)) at

  -- a world that was just opened
  pub opened-unused : (m : Floor) (starts : List ℕ) (n : ℕ) (limits : Limits) (laws : HookLaws) → IsUnused (opened_world {A = A} m starts n limits laws)
  opened-unused m starts n limits laws = record {
    entries = refl;
    clock = refl;
    box_count = length-replicate {A = Pending} n (record { notices = []; limit = limits.mailbox }) ∙ sym (length-replicate {A = ClientState} n unknown_client);
    boxes = λ c. no_notice n c limits.mailbox;
  }

  -- the lock's law over such a world
  pub over-unused : (w : World A) (limits : Limits) (cs : List (ClientView A)) (es : List (EndView A)) (rings : List (LaneName A)) (t : ℕ) → ArePairs cs es limits → rings_of es ≡ rings →
      AreInRange (length cs) w.limits → IsUnused w → IsLegal w.floor w.history → length cs ≡ clients w.history → t ≡ 0 → IsLawful rings w w es t
  over-unused w limits cs es rings t pairs named range unused legal count none_made = record {
    laws = λ k e at.
        let c = beside es cs k e (sym pairs.count) at in
        let new = pairs.each k c.0 e c.1 at in
        let none : e.given ++ (pending w k).notices ≡ [] = ap (λ x. x ++ (pending w k).notices) (ap (λ x. x.given) new.hall) ∙ unused.boxes k in
        record {
          lane = subst (λ r. slice_get r k ≡ Some e.lane) named (ring_at es k e at);
          keeps = subst (λ o. GoesOn w.history w.history k o (e.given ++ (pending w k).notices)) (sym (ap (λ x. x.taken) new.hall))
              (subst (GoesOn w.history w.history k []) (sym none) (goes-begins w.history k unused.entries));
        };
    since = since-begins w unused.entries legal;
    legal = legal;
    clock = none_made ∙ sym unused.clock;
    box_count = unused.box_count;
    end_count = sym pairs.count ∙ count;
    ring_count = simp length-map at (ap length named);
    few = omega (arith, range.1.1, pairs.count);
    valid = range.0;
  }

  pub all_on : (limits : Limits) (cs : List (ClientView A)) (es : List (EndView A)) (rings : List (LaneName A)) → ArePairs cs es limits → rings_of es ≡ rings → AreOn rings (cores cs)
  all_on limits cs es rings pairs named k x at =
      let c = at_map core cs k x at in
      let e = beside cs es k c.0 pairs.count c.1 in
      let new = pairs.each k c.0 e.0 c.1 e.1 in
      subst (λ (y : ClientCore A). slice_get rings y.number ≡ Some y.lane) c.2
      (subst (λ r. slice_get r c.0.number ≡ Some c.0.lane) named
      (subst (λ j. slice_get (rings_of es) j ≡ Some c.0.lane) (sym (ap (λ y. y.number) new.client))
      (ring_at es k e.0 e.1 ∙ ap Some (ap (λ y. y.lane) new.hall))))
