-- A robot and its errand are in order, test by test.
use Rattle.std.proofs.Common.{◌≡◌, ◌∙◌, ℕ, ◌<◌, ◌≤◌, List, [], ◌∷◌, length, Bool, true, false, refl, sym, ap, subst, arith}
use Rattle.std.specs.Prelude.{◌↔◌, ◌==◌, All, IsTrue, slice_index_or}
use Rattle.std.proofs.lemmas.Bool.{ne_eqb}
use Rattle.fleet_grid.specs.Floor.{Floor, IsFloor, IsNeighbour}
use Rattle.fleet_grid.specs.Walk.{AreJoined}
use Rattle.fleet_hooks.specs.Law.{IsStampLaw}
use Rattle.fleet_queue.specs.declared.errand.Errand.{Errand}
use Rattle.fleet_history.specs.declared.history.ClientState.{ClientState}
use Rattle.fleet_history.specs.declared.history.RobotState.{RobotState}
use Rattle.fleet_history.specs.declared.history.Opening.{Opening}
use Rattle.fleet_history.specs.History.{unknown_client}
use Rattle.fleet_history.specs.Legal.{IsRobotInOrder, is_none_left}
use Rattle.fleet_trace.specs.inside.Opened.{IsErrandInOrder, IsWaitInOrder}
use Rattle.fleet_trace.proofs.ErrandNames.{impossible}

-- a test that failed refuses what it is needed for
pub refuses : (P : Type 0) (b : Bool) → b ≡ false → (P → b ≡ true) → IsTrue false ↔ P
refuses P b bad needed = (λ never. absurd (impossible never), λ fine. sym bad ∙ needed fine)

pub decides : (P : Type 0) (b : Bool) → b ≡ false → (P → b ≡ true) → IsTrue b ↔ P
decides P b bad needed = (λ yes. absurd (impossible (sym bad ∙ yes)), needed)

pub never_in : {P : Type 0} → (P → ⊥) → IsTrue false ↔ P
never_in none = (λ never. absurd (impossible never), λ fine. absurd (none fine))

module _ (m : Floor) (clients : List ClientState) (cell : ℕ) (e : Errand) where
  pub unknown : length clients ≤ e.client → IsTrue false ↔ IsErrandInOrder m clients cell e
  unknown past = never_in (λ fine. omega (arith, past, fine.known))

  pub too_low : e.number < 1 → IsTrue false ↔ IsErrandInOrder m clients cell e
  too_low low = never_in (λ fine. omega (arith, low, fine.numbered.0))

  pub too_high : (slice_index_or clients e.client unknown_client).accepted < e.number → IsTrue false ↔ IsErrandInOrder m clients cell e
  too_high high = never_in (λ fine. omega (arith, high, fine.numbered.1))

  pub reached : (b : Bool) → e.client < length clients → 1 ≤ e.number → e.number ≤ (slice_index_or clients e.client unknown_client).accepted → IsFloor m e.cell
      → (IsTrue b ↔ AreJoined (IsNeighbour m) cell e.cell) → IsTrue b ↔ IsErrandInOrder m clients cell e
  reached b known low high floor tests = (
    λ yes. record { known = known; numbered = (low, high); on_floor = floor; reachable = tests.0 yes },
    λ fine. tests.1 fine.reachable,
  )

is_none-length : (errands : List Errand) → (length errands == 0) ≡ is_none_left errands
is_none-length [] = refl
is_none-length (e ∷ errands) = ne_eqb (length (e ∷ errands)) 0 (λ none. omega (arith, none))

-- a robot whose errands are lent as a list
module _ {A : Type 0} (m : Floor) (o : Opening A) (x : RobotState A) (errands : List Errand) (lent : errands ≡ x.errands) where
  idle-is : (idle : Bool) → idle ≡ (length errands == 0) → idle ≡ is_none_left x.errands
  idle-is idle same = same ∙ ap (λ (es : List Errand). length es == 0) lent ∙ is_none-length x.errands

  pub long : o.queue < length errands → IsTrue false ↔ IsRobotInOrder m o x
  long more = never_in (λ fine. omega (arith, more, ap length lent, fine.room))

  pub unfit_wait : (b idle : Bool) → b ≡ false → idle ≡ (length errands == 0) → (IsTrue b ↔ IsWaitInOrder x.wait idle o.tick) → IsTrue false ↔ IsRobotInOrder m o x
  unfit_wait b idle bad same tests = refuses (IsRobotInOrder m o x) b bad
      (λ fine. tests.1 (subst (λ (i : Bool). IsWaitInOrder x.wait i o.tick) (sym (idle-is idle same)) (record { waits = fine.waits; not_longer = fine.not_longer })))

  pub all_fine : (b idle : Bool) (clients : List ClientState) → clients ≡ o.clients → IsStampLaw x.arrival_law → IsStampLaw x.farewell_law → length errands ≤ o.queue
      → idle ≡ (length errands == 0) → IsWaitInOrder x.wait idle o.tick → (IsTrue b ↔ All (IsErrandInOrder m clients x.cell) errands) → IsTrue b ↔ IsRobotInOrder m o x
  all_fine b idle clients known arrival farewell room same wait tests =
      let waited : IsWaitInOrder x.wait (is_none_left x.errands) o.tick = subst (λ (i : Bool). IsWaitInOrder x.wait i o.tick) (idle-is idle same) wait in
      let told : IsTrue b ↔ All (IsErrandInOrder m o.clients x.cell) x.errands =
      subst (λ (es : List Errand). IsTrue b ↔ All (IsErrandInOrder m o.clients x.cell) es) lent (subst (λ (cs : List ClientState). IsTrue b ↔ All (IsErrandInOrder m cs x.cell) errands) known tests) in (
        λ yes. record {
          arrival_law = arrival;
          farewell_law = farewell;
          waits = waited.waits;
          not_longer = waited.not_longer;
          room = omega (arith, room, ap length lent);
          known = λ k d less. (told.0 yes k d less).known;
          numbered = λ k d less. (told.0 yes k d less).numbered;
          on_floor = λ k d less. (told.0 yes k d less).on_floor;
          reachable = λ k d less. (told.0 yes k d less).reachable;
        },
        λ fine. told.1 (λ k d less. record {
          known = fine.known k d less;
          numbered = fine.numbered k d less;
          on_floor = fine.on_floor k d less;
          reachable = fine.reachable k d less;
        }),
      )
