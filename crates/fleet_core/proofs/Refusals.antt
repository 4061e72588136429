-- Answers that may be refused.
use Rattle.std.proofs.Common.{◌≡◌, ◌∙◌, ℕ, ◌<◌, ◌≤◌, List, ◌↔◌, IsTrue, Bool, true, false, sym, subst, arith}
use Rattle.std.specs.Prelude.{Result, Ok, Err, IfOk, OnOk}
use Rattle.fleet_planner.specs.Courses.{goals_of}
use Rattle.fleet_grid.specs.Floor.{Floor, IsNeighbour}
use Rattle.fleet_grid.specs.Walk.{IsBridgeless}
use Rattle.fleet_field.specs.Store.{Keeps}
use Rattle.fleet_hooks.specs.declared.law.TieLaw.{TieLaw}
use Rattle.fleet_book.specs.declared.limits.Limits.{Limits}
use Rattle.fleet_history.specs.History.{History, robots}
use Rattle.fleet_state.specs.State.{State}
use Rattle.mover.specs.Moving.{Mover}
use Rattle.fleet_core.specs.inside.Kept.{IsKept}
use Rattle.fleet_core.specs.inside.Mailboxes.{Mailboxes}
use Rattle.fleet_planner.proofs.GoalsKept.{aimed-kept}
use Rattle.fleet_core.specs.inside.Ready.{IsOnSame}
use Rattle.fleet_core.proofs.Manners.{turns-as, ties-as}
pub use Rattle.fleet_planner.proofs.Refused.{all_err, on_ok_map, on_err_map}

-- what holds of each answer of a call that is always refused
pub none_ok : {X E : Type 0} (P : Type 0) (r : Result X E) → OnOk r ⊥ → OnOk r P
none_ok P (Ok x) none = absurd none
none_ok P (Err e) none = tt

pub none_ok_at : {X E : Type 0} (P : X → Type 0) (r : Result X E) → OnOk r ⊥ → IfOk r P
none_ok_at P (Ok x) none = absurd none
none_ok_at P (Err e) none = tt

-- a core whose planner was refused keeps what it kept
pub kept-refused : {A : Type 0} {m : Floor} {limits : Limits} {ties : List TieLaw} {n : ℕ} {h : History A} {s : State A} {p : Mover} {x : Mailboxes} → IsKept m limits ties n h s p x →
    {q : Mover} → goals_of q.planner.aims ≡ goals_of p.planner.aims → IsOnSame m p q → IsKept m limits ties n h s q x
kept-refused {m = m} {h = h} {p = p} k {q = q} aims same = record {
  is = k.is;
  room = k.room;
  within = k.within;
  boxed = k.boxed;
  aimed = record {
    aimed = aims ∙ k.aimed.aimed;
    on = same.on;
    sized = same.size ∙ k.aimed.sized;
    bridge = subst (λ (b : Bool). IsTrue b ↔ IsBridgeless (IsNeighbour m)) (sym same.bridge) k.aimed.bridge;
    kept = same.keeps;
  };
  turns = turns-as m (robots h) p.turns q.turns same.turns k.turns;
  tied = ties-as same.turns k.tied;
  bounded = k.bounded;
}

-- no two numbers stand both ways
pub not_both : {a b : ℕ} → a < b → b ≤ a → ⊥
not_both less most = omega (arith, less, most)

pub not_same : {a b : ℕ} → a < b → a ≡ b → ⊥
not_same less same = omega (arith, less, same)

pub not_true : {b : Bool} → b ≡ true → b ≡ false → ⊥
not_true p q = cc

-- what a core keeps, with other fields in its planner
pub kept-fields : {A : Type 0} {m : Floor} {limits : Limits} {ties : List TieLaw} {n : ℕ} {h : History A} {s : State A} {p q : Mover} {x : Mailboxes} → IsKept m limits ties n h s p x →
    q.turns ≡ p.turns → q.planner.aims ≡ p.planner.aims → q.planner.size ≡ p.planner.size → q.planner.bridgeless ≡ p.planner.bridgeless → Keeps m q.planner.kept → IsKept m limits ties n h s q x
kept-fields {m = m} {h = h} {p = p} {q = q} k turns same size bridge kept = record {
  is = k.is;
  room = k.room;
  within = k.within;
  boxed = k.boxed;
  aimed = aimed-kept k.is k.aimed same size bridge kept;
  turns = turns-as m (robots h) p.turns q.turns turns k.turns;
  tied = ties-as turns k.tied;
  bounded = k.bounded;
}
