-- The opening that is not in order.
use Rattle.std.proofs.Common.{◌≡◌, ℕ, inl, inr, refl, arith}
use Rattle.fleet_grid.specs.Floor.{Floor}
use Rattle.fleet_history.specs.declared.history.Entry.{Entry}
use Rattle.fleet_history.specs.declared.history.Entry.TheVariants.{Take, Tick, Shut}
use Rattle.fleet_history.specs.History.{History, with_entries}
use Rattle.fleet_history.specs.Legal.{IsInOrder}
use Rattle.fleet_trace.specs.Judged.{Breaks, IsFirstIllegal}

-- no entry breaks the first rule
no_entry : {A : Type 0} (m : Floor) (h : History A) (e : Entry A) (rule : ℕ) → rule ≡ 1 → Breaks m h e rule → ⊥
no_entry m h (Take client order v) rule is (inl b) = omega (arith, b.0, is)
no_entry m h (Take client order v) rule is (inr b) = omega (arith, b.0, is)
no_entry m h (Tick to arrived farewells) rule is (inl b) = omega (arith, b.0, is)
no_entry m h (Tick to arrived farewells) rule is (inr (step, inl b)) = omega (arith, b.0, is)
no_entry m h (Tick to arrived farewells) rule is (inr (step, inr (inl b))) = omega (arith, b.0, is)
no_entry m h (Tick to arrived farewells) rule is (inr (step, inr (inr b))) = omega (arith, b.0, is)
no_entry m h (Shut robot farewell) rule is (inl b) = omega (arith, b.0, is)
no_entry m h (Shut robot farewell) rule is (inr (inl b)) = omega (arith, b.0, is)
no_entry m h (Shut robot farewell) rule is (inr (inr b)) = omega (arith, b.0, is)

pub not_in_order : {A : Type 0} (m : Floor) (h : History A) (at : ℕ) → IsFirstIllegal m h at 1 → IsInOrder m h.opening → ⊥
not_in_order m h at (inl first) order = first.2 order
not_in_order m h at (inr k) order = no_entry m (with_entries h k.before) k.entry 1 refl k.breaks
