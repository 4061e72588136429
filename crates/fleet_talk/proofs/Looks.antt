-- The line of a look, from what is read of a world one after another.
use Rattle.std.proofs.Common.{◌≡◌, ℕ, ◌<◌, List, Option, Some, None, refl, sym, ap, subst, ◌∙◌}
use Rattle.std.specs.Prelude.{MatchOption, IfSome, slice_index}
use Rattle.fleet_core.specs.Core.{World}
use Rattle.fleet_grid.specs.Floor.{Floor, IsNeighbour}
use Rattle.fleet_pibt.specs.Advancing.{HasWayAhead, IsFullBeyond}
use Rattle.fleet_pibt.specs.Goals.{IsNearer}
use Rattle.fleet_queue.specs.declared.errand.Errand.{Errand}
use Rattle.fleet_talk.specs.Look.{IsBlocked}
use Rattle.fleet_core.proofs.WaitBound.{eldest-known}
use Rattle.fleet_history.specs.History.{History, front, place, robots}
use Rattle.fleet_pibt.specs.Eldest.{IsEldest}
use Rattle.fleet_planner.specs.Aimed.{IsIdle}
use Rattle.fleet_planner.specs.Planned.{waits}
use Rattle.fleet_text.specs.Answers.{look_line}

pub same_line : {tick tick' chapter chapter' entries entries' : ℕ} {cells cells' : List ℕ} (eldest within blocked : Option ℕ)
    → tick ≡ tick' → chapter ≡ chapter' → entries ≡ entries' → cells ≡ cells'
    → look_line (record { tick = tick; chapter = chapter; entries = entries; eldest = eldest; within = within; blocked = blocked }) cells
    ≡ look_line (record { tick = tick'; chapter = chapter'; entries = entries'; eldest = eldest; within = within; blocked = blocked }) cells'
same_line eldest within blocked t n e c = rw (t, n, e, c) refl

-- the eldest is one of the robots
pub at-eldest : {A : Type 0} (h : History A) (found : Option ℕ) (e : ℕ) → MatchOption found (IsIdle h) (λ e. IsEldest (waits h) e) → found ≡ Some e → e < robots h
at-eldest h found e is same = eldest-known h e (subst (λ (o : Option ℕ). MatchOption o (IsIdle h) (λ x. IsEldest (waits h) x)) same is)

abbrev or_else : {X : Type 0} → X → Option X → X
or_else x None = x
or_else x (Some y) = y

same_some : {X : Type 0} (x y : X) → Some x ≡ Some y → x ≡ y
same_some x y is = ap (or_else x) is

some_not_none : {X P : Type 0} (x : X) → Some x ≡ None → P
some_not_none x bad = cc

module _ {A : Type 0} (w : World A) (eldest : Option ℕ) (robot : ℕ) (is : eldest ≡ Some robot) where
  its_front : (e : ℕ) (errand : Errand) → eldest ≡ Some e → front w.history e ≡ Some errand → (e ≡ robot) × (front w.history robot ≡ Some errand)
  its_front e errand same at = let one = same_some e robot (sym same ∙ is) in (one, subst (λ (r : ℕ). front w.history r ≡ Some errand) one at)

  -- without an errand it goes nowhere
  pub not-blocked : front w.history robot ≡ None → IsBlocked w eldest None
  not-blocked none = record { idle = λ _. refl; way = λ e errand same at. let (one, its) = its_front e errand same at in some_not_none errand (sym its ∙ none) }

  abbrev Told : Floor → List ℕ → Errand → Option ℕ → Type 0
  Told m cells errand found = MatchOption found
      (HasWayAhead m cells errand.cell (slice_index cells robot))
      (λ c. IsNearer m errand.cell c (slice_index cells robot) × IsFullBeyond m cells (slice_index cells robot) c)

  told : (m : Floor) (cells : List ℕ) (errand : Errand) (found : Option ℕ) → (found ≡ None → HasWayAhead m cells errand.cell (slice_index cells robot))
      → IfSome found (λ c. IsNeighbour m (slice_index cells robot) c × IsNearer m errand.cell c (slice_index cells robot) × IsFullBeyond m cells (slice_index cells robot) c)
      → Told m cells errand found
  told m cells errand None free there = free refl
  told m cells errand (Some c) free (near, nearer, full) = (nearer, full)

  pub blocked-by : (m : Floor) (cells : List ℕ) (errand : Errand) (found : Option ℕ) → m ≡ w.floor → cells ≡ place w.history → front w.history robot ≡ Some errand
      → (found ≡ None → HasWayAhead m cells errand.cell (slice_index cells robot))
      → IfSome found (λ c. IsNeighbour m (slice_index cells robot) c × IsNearer m errand.cell c (slice_index cells robot) × IsFullBeyond m cells (slice_index cells robot) c)
      → IsBlocked w eldest found
  blocked-by m cells errand found floor placed at free there =
      let here = subst (λ (xs : List ℕ). Told w.floor xs errand found) placed (subst (λ (x : Floor). Told x cells errand found) floor (told m cells errand found free there)) in
      record {
        idle = λ none. some_not_none robot (sym is ∙ none);
        way = λ e other same front_is.
            let (one, its) = its_front e other same front_is in
            let errands : errand ≡ other = same_some errand other (sym at ∙ its) in
            subst (λ (r : ℕ). MatchOption found (HasWayAhead w.floor (place w.history) other.cell (slice_index (place w.history) r)) (λ c. IsNearer w.floor other.cell c (slice_index (place w.history) r) × IsFullBeyond w.floor (place w.history) (slice_index (place w.history) r) c)) (sym one)
            (subst (λ (x : Errand). Told w.floor (place w.history) x found) errands here);
      }
