-- The least stamps of the robots' own laws.
use Rattle.std.proofs.Common.{◌≡◌, ◌∙◌, ℕ, ◌<◌, Bool, true, false, List, [], ◌∷◌, Option, Some, None, length, length-append, map, get_or, ap, refl, sym, subst, arith, inl, inr}
use Rattle.std.specs.Prelude.{All, is_some, slice_index_or}
use Rattle.std.proofs.lemmas.List.{append_cancel_left, length-map, get_or-map, get_or_past}
use Rattle.std.proofs.lemmas.Bool.{cases_lt}
use Rattle.fleet_grid.specs.Floor.{Floor}
use Rattle.fleet_hooks.specs.declared.law.StampLaw.{StampLaw}
use Rattle.fleet_hooks.specs.Law.{IsStampLaw, IsStamp}
use Rattle.fleet_history.specs.declared.history.Arrival.{Arrival}
use Rattle.fleet_history.specs.declared.history.Bye.{Bye}
use Rattle.fleet_history.specs.declared.history.Entry.{Entry}
use Rattle.fleet_history.specs.declared.history.RobotState.{RobotState}
use Rattle.fleet_history.specs.History.{History, after}
use Rattle.fleet_history.specs.Legal.{IsLegal, Due, due_of, no_law}
use Rattle.fleet_history.proofs.Legal.{legal-opening, unknown_robot}
use Rattle.fleet_core.specs.Calls.{HasLeastStamps}
use Rattle.fleet_core.specs.Hooks.{law_at, AreFarewells, IsLastStamp}
use Rattle.fleet_core.specs.inside.Stamped.{AreClosures, MayStamp, HaveStamps, laws_as, own_laws, spare_as}
use Rattle.fleet_core.proofs.Matches.{arrivals-alike}
use Rattle.fleet_core.proofs.StampLists.{word-at}

least_of : (law : StampLaw) → IsStampLaw law → IsStamp law law.low
least_of law some = record { low = omega arith; high = some }

no_law_left : (law : StampLaw) → None ≡ Some law → ⊥
no_law_left law e = cc

same_law : (a b : StampLaw) → Some a ≡ Some b → a ≡ b
same_law a b e = cc

module _ {A : Type 0} where
  -- the least stamp that a robot's law allows
  pub least-arrival : (robots : List (RobotState A)) (r : ℕ) (d : RobotState A) → r < length robots → (get_or robots r d).arrival_law.low ≡ (law_at (map (λ x. x.arrival_law) robots) r).low
  least-arrival robots r d l = ap (λ (law : StampLaw). law.low) (sym (get_or-map (λ (x : RobotState A). x.arrival_law) robots r d no_law l))

  pub least-farewell : (robots : List (RobotState A)) (r : ℕ) (d : RobotState A) → r < length robots → (get_or robots r d).farewell_law.low ≡ (law_at (map (λ x. x.farewell_law) robots) r).low
  least-farewell robots r d l = ap (λ (law : StampLaw). law.low) (sym (get_or-map (λ (x : RobotState A). x.farewell_law) robots r d no_law l))

  -- the least stamps are in the laws
  pub least-stamps : (robots : List (RobotState A)) (come stamped : List Arrival) → map due_of stamped ≡ map due_of come → All (λ a. a.robot < length robots) come → All (λ x. IsStampLaw x.arrival_law) robots →
      All (λ a. a.stamp ≡ (law_at (map (λ x. x.arrival_law) robots) a.robot).low) stamped → All (λ a. IsStamp (law_at (map (λ x. x.arrival_law) robots) a.robot) a.stamp) stamped
  least-stamps robots come stamped shows known orderly least i d l =
      let r = (get_or stamped i d).robot in
      let same : length stamped ≡ length come = sym (length-map stamped due_of) ∙ ap length shows ∙ length-map come due_of in
      let m : i < length come = omega (arith, l, same) in
      let here : r < length robots = omega (arith, known i d m, ap (λ (x : Due). x.robot) (word-at due_of stamped come i d shows l m)) in
      let law = law_at (map (λ (x : RobotState A). x.arrival_law) robots) r in
      let some : IsStampLaw law = subst IsStampLaw (sym (get_or-map (λ (x : RobotState A). x.arrival_law) robots r unknown_robot no_law here)) (orderly r unknown_robot here) in
      subst (IsStamp law) (sym (least i d l)) (least_of law some)

  pub least-last_stamps : (robots : List (RobotState A)) (gone last : List Bye) → map (λ b. b.robot) last ≡ map (λ b. b.robot) gone → All (λ b. b.robot < length robots) gone → All (λ x. IsStampLaw x.farewell_law) robots →
      All (λ b. b.stamp ≡ (law_at (map (λ x. x.farewell_law) robots) b.robot).low) last → All (λ b. IsLastStamp (own_laws robots) b.robot b.stamp) last
  least-last_stamps robots gone last same_robots known orderly least i d l =
      let r = (get_or last i d).robot in
      let name : Bye → ℕ = λ b. b.robot in
      let same : length last ≡ length gone = sym (length-map last name) ∙ ap length same_robots ∙ length-map gone name in
      let m : i < length gone = omega (arith, l, same) in
      let here : r < length robots = omega (arith, known i d m, word-at name last gone i d same_robots l m) in
      let law = (get_or robots r unknown_robot).farewell_law in
      let at : (get_or last i d).stamp ≡ law.low = least i d l ∙ sym (least-farewell robots r unknown_robot here) in
      (law, get_or-map (λ (x : RobotState A). Some x.farewell_law) robots r unknown_robot None here, subst (IsStamp law) (sym at) (least_of law (orderly r unknown_robot here)))

  -- each robot has its own law
  pub own-farewells : (h : History A) → AreFarewells h (own_laws h.opening.robots)
  own-farewells h =
      let robots = h.opening.robots in
      let spare : RobotState A → Option StampLaw = λ x. Some x.farewell_law in
      let at : (r : ℕ) → r < length robots → slice_index_or (map spare robots) r None ≡ Some (get_or robots r unknown_robot).farewell_law =
      λ r l. get_or-map spare robots r unknown_robot None l in
      record {
        count = length-map robots spare;
        each = λ r law e. elim (cases_lt r (length robots)) [
          | inl l ↦ same_law law (get_or robots r unknown_robot).farewell_law (sym e ∙ at r l) ∙ sym (get_or-map (λ (x : RobotState A). x.farewell_law) robots r unknown_robot no_law l)
          | inr l ↦ absurd (no_law_left law (sym (get_or_past (map spare robots) r None (omega (arith, l, length-map robots spare))) ∙ e))
        ];
        unspent = λ r l d. ap is_some (at r l);
      }

  -- in a legal history each law allows a stamp
  pub have-stamps : (m : Floor) (h : History A) → IsLegal m h → HaveStamps h.opening.robots
  have-stamps m h legal =
      let known = (legal-opening m h legal).robots in
      record { arrivals = λ i d l. (known i d l).arrival_law; farewells = λ i d l. (known i d l).farewell_law }

  -- the closures, or the robots' own laws
  pub closures-as : (h : History A) (least : Bool) (laws : List StampLaw) (spare : List (Option StampLaw)) → (least ≡ false → AreClosures h laws spare) →
      AreClosures h (laws_as least h.opening.robots laws) (spare_as least h.opening.robots spare)
  closures-as h true laws spare given = record { arrivals = arrivals-alike h (map (λ x. x.arrival_law) h.opening.robots) refl; farewells = own-farewells h }
  closures-as h false laws spare given = given refl

  -- an entry that was added is the one that is found there
  pub not-grown : (h : History A) (e : Entry A) → h ≡ after h e → ⊥
  not-grown h e same = omega (arith, ap (λ (g : History A). length g.entries) same, length-append h.entries (e ∷ []))

  first_of_one : (x y : Entry A) → x ∷ [] ≡ y ∷ [] → x ≡ y
  first_of_one x y same = cc

  pub least-added : (h : History A) (x e : Entry A) → HasLeastStamps h x → after h x ≡ after h e → HasLeastStamps h e
  least-added h x e has same =
      subst (HasLeastStamps h) (first_of_one x e (append_cancel_left h.entries (x ∷ []) (e ∷ []) (ap (λ (g : History A). g.entries) same))) has

-- the numbers of closures, told otherwise
pub may-by : {hooks closures n m : ℕ} {spare : List (Option StampLaw)} {to : List ℕ} {come : List Arrival} {gone : List Bye} → hooks ≡ n → closures ≡ m → MayStamp hooks closures spare to come gone → MayStamp n m spare to come gone
may-by {closures = closures} {n = n} {spare = spare} {to = to} {come = come} {gone = gone} a b may =
    subst (λ k. MayStamp n k spare to come gone) b (subst (λ k. MayStamp k closures spare to come gone) a may)
