-- The first part of an opening that is not in order.
use Rattle.std.proofs.Common.{◌≡◌, ◌∙◌, ℕ, ◌+◌, ◌<◌, List, length, get_or, map, Bool, false, Option, Some, refl, sym, ap, subst, arith}
use Rattle.std.specs.Prelude.{◌↔◌, All, None, Result, Ok, Err, IsTrue, IfOk, MatchOption}
use Rattle.std.specs.List.{slice_index_or}
use Rattle.fleet_grid.specs.Floor.{Floor, IsFloor}
use Rattle.fleet_grid.specs.Step.{IsPlacement}
use Rattle.fleet_history.specs.declared.history.ClientState.{ClientState}
use Rattle.fleet_history.specs.declared.history.RobotState.{RobotState}
use Rattle.fleet_history.specs.declared.history.Opening.{Opening}
use Rattle.fleet_history.specs.History.{unknown_client}
use Rattle.fleet_history.specs.Legal.{IsRobotInOrder, IsClientInOrder, IsInOrder}
use Rattle.fleet_trace.specs.declared.part.OpeningPart.{OpeningPart}
use Rattle.fleet_trace.specs.declared.part.OpeningPart.TheVariants.{Robots, Clients, Queue, Life, Cells, Robot, Client, Names}
use Rattle.fleet_trace.specs.inside.Clients.{AreClientsInOrder}
use Rattle.fleet_trace.specs.inside.Opened.{AreClientNamesInOrder, AreSizesInOrder, owed_in}
use Rattle.fleet_trace.specs.OutOfOrder.{HasNumbers, IsPlaced, IsOutOfOrder, IsFirstClient, IsFirstRobot, AreClientsBefore, AreCountsInOrder, AreNamesOfInOrder}
use Rattle.fleet_trace.proofs.AllItems.{all_more, cell_at, length-cells}
use Rattle.fleet_trace.proofs.ErrandNames.{impossible, get-slice, get-within}
use Rattle.fleet_trace.proofs.OpeningOrder.{item_is, in_order, client_fine, client_tested, names_tested}

pub numbers : {A : Type 0} (o : Opening A) → AreSizesInOrder o → HasNumbers o
numbers o sizes = ((sizes.some_robots, sizes.few_robots), (sizes.some_clients, sizes.few_clients), sizes.queue, sizes.life)

-- an opening with such a part is not in order
pub out_of_order : {A : Type 0} (m : Floor) (o : Opening A) (part : OpeningPart) → IsOutOfOrder m o part → IsInOrder m o → ⊥
out_of_order m o Robots bad fine = bad (fine.some_robots, fine.few_robots)
out_of_order m o Clients bad fine = bad.1 (fine.some_clients, fine.few_clients)
out_of_order m o Queue bad fine = bad.2 fine.queue
out_of_order m o Life bad fine = bad.3 fine.life
out_of_order m o Cells bad fine = bad.1 fine.placed
out_of_order m o (Robot r) bad fine =
    let first = bad.2 in first.out (subst (IsRobotInOrder m o) (item_is o.robots r first.robot first.stands) (fine.robots r first.robot (get-within o.robots r first.robot first.stands)))
out_of_order m o (Client c) bad fine = bad.3.1 (fine.clients c bad.3.0.known)
out_of_order m o (Names c) bad fine = bad.3.2 (record {
  apart = λ r q i j x y a b own other. fine.names.apart r q i j x y a b (own ∙ sym other);
  rising = λ r i j x y less a b own other. fine.names.rising r i j x y less a b (own ∙ sym other);
})

module _ {A : Type 0} (m : Floor) (o : Opening A) (found : Option OpeningPart) (told : MatchOption found (IsInOrder m o) (IsOutOfOrder m o)) where
  pub some_out : (part : OpeningPart) → found ≡ Some part → IsInOrder m o → ⊥
  some_out part is = out_of_order m o part (subst (λ (f : Option _). MatchOption f (IsInOrder m o) (IsOutOfOrder m o)) is told)

  pub none_out : found ≡ None → IsInOrder m o
  none_out is = subst (λ (f : Option _). MatchOption f (IsInOrder m o) (IsOutOfOrder m o)) is told

-- ---- a client's names, in two words

module _ {A : Type 0} (o : Opening A) (c : ℕ) where
  pub names_of : AreClientNamesInOrder o.robots c → AreNamesOfInOrder o c
  names_of fine = record {
    apart = λ r q i j x y a b own other same. fine.apart r q i j x.number (record { errand = x; stands = a; client = own; number = refl }) (record { errand = y; stands = b; client = other; number = sym same });
    rising = λ r i j x y less a b own other. fine.rising r i j x.number y.number less (record { errand = x; stands = a; client = own; number = refl }) (record { errand = y; stands = b; client = other; number = refl });
  }

  pub client_names_of : AreNamesOfInOrder o c → AreClientNamesInOrder o.robots c
  client_names_of fine = record {
    apart = λ r q i j n a b. fine.apart r q i j a.errand b.errand a.stands b.stands a.client b.client (a.number ∙ sym b.number);
    rising = λ r i j n l less a b. omega (arith, fine.rising r i j a.errand b.errand less a.stands b.stands a.client b.client, a.number, b.number);
  }

-- ---- a robot of a list that the opening lends

module _ {A : Type 0} (m : Floor) (o : Opening A) (robots : List (RobotState A)) (r : ℕ) (x : RobotState A) (lent : robots ≡ o.robots) (is : x ≡ get_or robots r x) (less : r < length robots) where
  here : get_or o.robots r x ≡ x
  here = sym (is ∙ ap (λ (xs : List (RobotState A)). get_or xs r x) lent)

  within : r < length o.robots
  within = subst (λ (xs : List (RobotState A)). r < length xs) lent less

  pub floor_at : IsPlacement m (map (λ x. x.cell) o.robots) → IsFloor m x.cell
  floor_at placed =
      subst (IsFloor m) (cell_at o.robots r x within ∙ ap (λ (y : RobotState A). y.cell) here) (placed.on_floor r (omega (arith, within, length-cells o.robots)))

  pub robot_on : IsRobotInOrder m o x → ((k : ℕ) (d : RobotState A) → k < r → IsRobotInOrder m o (get_or o.robots k d)) → (k : ℕ) (d : RobotState A) → k < r + 1 → IsRobotInOrder m o (get_or o.robots k d)
  robot_on fine before = all_more (IsRobotInOrder m o) o.robots r x within here fine before

  pub robot_out : (b : Bool) → b ≡ false → (IsTrue b ↔ IsRobotInOrder m o x) → ((k : ℕ) (d : RobotState A) → k < r → IsRobotInOrder m o (get_or o.robots k d)) → IsFirstRobot m o r
  robot_out b bad tests before = record {
    robot = x;
    stands = get-slice o.robots r x within ∙ ap (λ (y : RobotState A). Some y) here;
    before = λ q y earlier stands. subst (IsRobotInOrder m o) (item_is o.robots q y stands) (before q y earlier);
    out = λ fine. impossible (sym bad ∙ tests.1 fine);
  }

-- ---- a client of lists that the opening lends

module _ {A : Type 0} (o : Opening A) (robots : List (RobotState A)) (clients : List ClientState) (c owed : ℕ) (of_robots : robots ≡ o.robots) (of_clients : clients ≡ o.clients) (counted : owed ≡ owed_in robots c) (less : c < length clients) where
  module _ (counts : (k : ℕ) → k < c → AreCountsInOrder o k) (names : (k : ℕ) → k < c → AreClientNamesInOrder o.robots k) where
    before : AreClientsBefore o c
    before = record {
      known = subst (λ (cs : List ClientState). c < length cs) of_clients less;
      counts = counts;
      names = λ k earlier. names_of o k (names k earlier);
    }

    pub client_out : (b : Bool) → b ≡ false → (IsTrue b ↔ IsClientInOrder o.life owed (slice_index_or clients c unknown_client)) → IsFirstClient o (Client c)
    client_out b bad tests = (before, λ fine. impossible (sym bad ∙ tests.1 (client_tested o robots clients c owed of_robots of_clients counted fine)))

    pub names_out : IsClientInOrder o.life owed (slice_index_or clients c unknown_client) → (b : Bool) → b ≡ false → (IsTrue b ↔ AreClientNamesInOrder robots c) → IsFirstClient o (Names c)
    names_out fine b bad tests = (before, client_fine o robots clients c owed of_robots of_clients counted fine, λ named. impossible (sym bad ∙ tests.1 (names_tested o robots clients c owed of_robots of_clients counted (client_names_of o c named))))

-- where all but the clients is in order
module _ {A : Type 0} (m : Floor) (o : Opening A) (sizes : AreSizesInOrder o) (placed : IsPlaced m o) (robots : All (IsRobotInOrder m o) o.robots) where
  by_client : (part : OpeningPart) → IsFirstClient o part → IsOutOfOrder m o part
  by_client (Client c) first = (numbers o sizes, placed, robots, first)
  by_client (Names c) first = (numbers o sizes, placed, robots, first)
  by_client _ first = absurd first

  pub by_clients : {E : Type 0} (found : Result (Option OpeningPart) E) → IfOk found (λ part. MatchOption part (AreClientsInOrder o) (IsFirstClient o)) → IfOk found (λ part. MatchOption part (IsInOrder m o) (IsOutOfOrder m o))
  by_clients (Ok None) clients = in_order m o sizes placed robots clients
  by_clients (Ok (Some part)) first = by_client part first
  by_clients (Err e) h = h
