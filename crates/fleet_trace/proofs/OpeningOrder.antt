-- An opening is in order where each of its parts is.
use Rattle.std.proofs.Common.{◌≡◌, ℕ, ◌<◌, ◌≤◌, inl, inr, List, [], ◌∷◌, length, get_or, map, Option, Some, refl, sym, ap, subst, ◌∙◌, arith}
use Rattle.std.specs.Prelude.{All}
use Rattle.std.specs.List.{slice_get, slice_index_or}
use Rattle.std.specs.Option.{unwrap_or}
use Rattle.std.proofs.lemmas.Bool.{cases_lt}
use Rattle.fleet_grid.specs.Floor.{Floor}
use Rattle.fleet_grid.specs.Step.{IsPlacement}
use Rattle.fleet_queue.specs.declared.errand.Errand.{Errand}
use Rattle.fleet_history.specs.declared.history.ClientState.{ClientState}
use Rattle.fleet_history.specs.declared.history.RobotState.{RobotState}
use Rattle.fleet_history.specs.declared.history.Opening.{Opening}
use Rattle.fleet_history.specs.History.{unknown_client}
use Rattle.fleet_history.specs.Legal.{IsRobotInOrder, IsClientInOrder, AreNamesInOrder, IsInOrder, owed_at}
use Rattle.fleet_trace.specs.inside.Opened.{errands_in, owed_in, AreClientNamesInOrder, AreSizesInOrder}
use Rattle.fleet_trace.specs.inside.Clients.{AreClientsInOrder}
use Rattle.fleet_trace.proofs.ErrandNames.{get-slice, get-within, errands_at_robot, none_past}

pub item_is : {X : Type 0} (xs : List X) (i : ℕ) (x : X) → slice_get xs i ≡ Some x → get_or xs i x ≡ x
item_is xs i x e = ap (λ (o : Option _). unwrap_or o x) (sym (get-slice xs i x (get-within xs i x e)) ∙ e)

known : {A : Type 0} (m : Floor) (o : Opening A) (robots : List (RobotState A)) → All (IsRobotInOrder m o) robots → (r i : ℕ) (x : Errand) → slice_get (errands_in robots r) i ≡ Some x → x.client < length o.clients
known m o [] fine r i x e = cc
known m o (y ∷ robots) fine r i x e = elim (cases_lt r (length (y ∷ robots))) [
  | inl less ↦ (
      let here : slice_get (get_or (y ∷ robots) r y).errands i ≡ Some x = ap (λ (xs : List Errand). slice_get xs i) (errands_at_robot (y ∷ robots) r y less) ∙ e in
      let item = (fine r y less).known i x (get-within (get_or (y ∷ robots) r y).errands i x here) in
      subst (λ (z : Errand). z.client < length o.clients) (item_is (get_or (y ∷ robots) r y).errands i x here) item)
  | inr more ↦ absurd (omega (arith, get-within (errands_in (y ∷ robots) r) i x e, ap length (none_past (y ∷ robots) r more)))
]

names_from : {A : Type 0} (m : Floor) (o : Opening A) → All (IsRobotInOrder m o) o.robots → ((c : ℕ) → c < length o.clients → AreClientNamesInOrder o.robots c) → AreNamesInOrder o
names_from m o fine each = record {
  apart = λ r q i j x y a b client number.
      (each x.client (known m o o.robots fine r i x a)).apart r q i j x.number (record { errand = x; stands = a; client = refl; number = refl }) (record { errand = y; stands = b; client = sym client; number = sym number });
  rising = λ r i j x y less a b client.
      (each x.client (known m o o.robots fine r i x a)).rising r i j x.number y.number less (record { errand = x; stands = a; client = refl; number = refl }) (record { errand = y; stands = b; client = sym client; number = refl });
}

pub in_order : {A : Type 0} (m : Floor) (o : Opening A) → AreSizesInOrder o → IsPlacement m (map (λ x. x.cell) o.robots) → All (IsRobotInOrder m o) o.robots → AreClientsInOrder o → IsInOrder m o
in_order m o sizes placed robots clients = record {
  some_robots = sizes.some_robots;
  few_robots = sizes.few_robots;
  some_clients = sizes.some_clients;
  few_clients = sizes.few_clients;
  queue = sizes.queue;
  life = sizes.life;
  placed = placed;
  robots = robots;
  clients = clients.clients;
  names = names_from m o robots clients.names;
}

-- ---- a client is tested together with what it is owed

module _ {A : Type 0} (o : Opening A) (robots : List (RobotState A)) (clients : List ClientState) (c owed : ℕ) (of_robots : robots ≡ o.robots) (of_clients : clients ≡ o.clients) (counted : owed ≡ owed_in robots c) where
  owed-here : owed ≡ owed_at o c
  owed-here = counted ∙ ap (λ (xs : List (RobotState A)). owed_in xs c) of_robots

  pub owed-few : ((k : ℕ) → owed_at o k ≤ 2199023255552) → owed ≤ 2199023255552
  owed-few few = subst (λ (n : ℕ). n ≤ 2199023255552) (sym owed-here) (few c)

  pub client_fine : IsClientInOrder o.life owed (slice_index_or clients c unknown_client) → IsClientInOrder o.life (owed_at o c) (slice_index_or o.clients c unknown_client)
  client_fine h =
      subst (λ (cs : List ClientState). IsClientInOrder o.life (owed_at o c) (slice_index_or cs c unknown_client)) of_clients
      (subst (λ (n : ℕ). IsClientInOrder o.life n (slice_index_or clients c unknown_client)) owed-here h)

  pub client_tested : IsClientInOrder o.life (owed_at o c) (slice_index_or o.clients c unknown_client) → IsClientInOrder o.life owed (slice_index_or clients c unknown_client)
  client_tested fine =
      subst (λ (n : ℕ). IsClientInOrder o.life n (slice_index_or clients c unknown_client)) (sym owed-here)
      (subst (λ (cs : List ClientState). IsClientInOrder o.life (owed_at o c) (slice_index_or cs c unknown_client)) (sym of_clients) fine)

  pub names_fine : AreClientNamesInOrder robots c → AreClientNamesInOrder o.robots c
  names_fine h = subst (λ (xs : List (RobotState A)). AreClientNamesInOrder xs c) of_robots h

  pub names_tested : AreClientNamesInOrder o.robots c → AreClientNamesInOrder robots c
  names_tested fine = subst (λ (xs : List (RobotState A)). AreClientNamesInOrder xs c) (sym of_robots) fine

module _ {A : Type 0} (m : Floor) (o : Opening A) (robots : List (RobotState A)) (of_robots : robots ≡ o.robots) where
  pub placed_fine : IsPlacement m (map (λ x. x.cell) robots) → IsPlacement m (map (λ x. x.cell) o.robots)
  placed_fine h = subst (λ (xs : List (RobotState A)). IsPlacement m (map (λ x. x.cell) xs)) of_robots h
