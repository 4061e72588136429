-- A robot that loses errands, and is else as it was.
use Rattle.std.proofs.Common.{◌≡◌, ◌∙◌, ◌+◌, ◌≤◌, ℕ, List, [], ◌∷◌, Option, Some, Bool, true, false, not, is_some, ap, arith, inl, inr, refl, subst, sym}
use Rattle.std.specs.Prelude.{map, count_by, if◌then◌else◌}
use Rattle.std.proofs.lemmas.Bool.{cases_Bool}
use Rattle.fleet_grid.specs.Floor.{Floor}
use Rattle.fleet_queue.specs.declared.errand.Errand.{Errand}
use Rattle.fleet_history.specs.declared.history.RobotState.{RobotState}
use Rattle.fleet_history.specs.Legal.{is_none_left}
use Rattle.fleet_refit.specs.declared.change.Dropped.{Dropped}
use Rattle.fleet_refit.specs.declared.seat.Seat.{Seat}
use Rattle.fleet_refit.specs.declared.seat.Standing.{Standing}
use Rattle.fleet_refit.specs.declared.seat.Standing.TheVariants as standing
use Rattle.fleet_refit.specs.Account.{AreSome}
use Rattle.fleet_refit.specs.Changed.{ComesTo, Cuts, IsCut, Leaves, Stands, emptied, on_cell}
use Rattle.fleet_refit.specs.Settled.{IsSettled, SettlesAs}
use Rattle.fleet_refit.specs.Sifting.{cut_wait, dropped_of, is_same}
use Rattle.fleet_refit.specs.Site.{is_gone}
use Rattle.fleet_refit.proofs.Shorter.{some-all, some-none, sifted-some, sifted-count}

-- the robot of that number loses errands
pub record Loses {A : Type 0} (robot : ℕ) (x y : RobotState A) (dropped : List Dropped) : Type 0 where
  pub arrival_law : y.arrival_law ≡ x.arrival_law
  pub farewell_law : y.farewell_law ≡ x.farewell_law
  pub some : AreSome y.errands x.errands
  pub waits : is_some x.wait ≡ not (is_none_left x.errands) → is_some y.wait ≡ not (is_none_left y.errands)
  pub longer : (t : ℕ) → ((w : ℕ) → x.wait ≡ Some w → w ≤ t) → (w : ℕ) → y.wait ≡ Some w → w ≤ t
  pub gone : List Errand
  pub named : dropped ≡ map (dropped_of robot) gone
  pub counted : (test : Errand → Bool) → count_by test x.errands ≡ count_by test y.errands + count_by test gone

-- it stands where it stood, unless it is taken away
pub record Remains {A : Type 0} (x y : Seat A) : Type 0 where
  pub cell : y.robot.cell ≡ x.robot.cell
  pub there : is_gone y.standing ≡ false → is_gone x.standing ≡ false

abbrev pub LosesAs : {A : Type 0} → ℕ → Seat A → Seat A → List Dropped → Type 0
LosesAs robot x y dropped = Loses robot x.robot y.robot dropped

abbrev pub LosesThere : {A : Type 0} → ℕ → Seat A → Seat A → List Dropped → Type 0
LosesThere robot x y dropped = Remains x y × Loses robot x.robot y.robot dropped

-- ---- nothing is lost

pub loses-nothing : {A : Type 0} (robot : ℕ) (x : RobotState A) → Loses robot x x []
loses-nothing robot x = record {
  arrival_law = refl;
  farewell_law = refl;
  some = some-all x.errands;
  waits = λ e. e;
  longer = λ t all. all;
  gone = [];
  named = refl;
  counted = λ test. omega arith;
}

pub stays-there : {A : Type 0} (robot : ℕ) (x : Seat A) → LosesThere robot x x []
stays-there robot x = (record { cell = refl; there = λ e. e }, loses-nothing robot x.robot)

-- ---- all is lost

pub loses-all : {A : Type 0} (robot : ℕ) (x : RobotState A) → Loses robot x (emptied x) (map (dropped_of robot) x.errands)
loses-all robot x = record {
  arrival_law = refl;
  farewell_law = refl;
  some = some-none x.errands;
  waits = λ e. refl;
  longer = λ t all w e. cc;
  gone = x.errands;
  named = refl;
  counted = λ test. omega arith;
}

-- ---- some are lost

cut-waits : (all stay : List Errand) (wait : Option ℕ) → AreSome stay all → is_some wait ≡ not (is_none_left all) → is_some (cut_wait all stay wait) ≡ not (is_none_left stay)
cut-waits all [] wait some is = refl
cut-waits [] (f ∷ stay) wait some is = refl
cut-waits (e ∷ all) (f ∷ stay) wait some is = elim (cases_Bool (is_same e f)) [ inl t ↦ rw (t) is | inr t ↦ rw (t) refl ]

cut-longer : (all stay : List Errand) (wait : Option ℕ) (t : ℕ) → ((w : ℕ) → wait ≡ Some w → w ≤ t) → (w : ℕ) → cut_wait all stay wait ≡ Some w → w ≤ t
cut-longer all [] wait t each w is = cc
cut-longer [] (f ∷ stay) wait t each w is = let z : 0 ≡ w = cc in omega (arith, z)
cut-longer (e ∷ all) (f ∷ stay) wait t each w is = go (is_same e f) is
  where
    go : (b : Bool) → (if b then wait else Some 0) ≡ Some w → w ≤ t
    go true now = each w now
    go false now = let z : 0 ≡ w = cc in omega (arith, z)

pub loses-some : {A : Type 0} (S : Errand → Type 0) (robot : ℕ) (x y : RobotState A) (dropped : List Dropped) → Cuts S robot x y dropped → Loses robot x y dropped
loses-some S robot x y dropped cuts =
    let some : AreSome y.errands x.errands = sifted-some cuts.sifted in
    let wait : y.wait ≡ cut_wait x.errands y.errands x.wait = ap (λ z. z.wait) cuts.rest in
    record {
      arrival_law = ap (λ z. z.arrival_law) cuts.rest;
      farewell_law = ap (λ z. z.farewell_law) cuts.rest;
      some = some;
      waits = λ is. ap is_some wait ∙ cut-waits x.errands y.errands x.wait some is;
      longer = λ t each w is. cut-longer x.errands y.errands x.wait t each w (sym wait ∙ is);
      gone = cuts.gone;
      named = cuts.named;
      counted = λ test. sifted-count test cuts.sifted;
    }

-- ---- each way to become another

pub stand-there : {A : Type 0} (kind : Standing) (robot : ℕ) (x y : Seat A) → is_gone x.standing ≡ false → Stands kind x y → LosesThere robot x y []
stand-there {A} kind robot x y here is = (
  record { cell = ap (λ z. z.robot.cell) is; there = λ e. here },
  subst (λ (z : Seat A). Loses robot x.robot z.robot []) (sym is) (loses-nothing robot x.robot),
)

pub leave-there : {A : Type 0} (robot : ℕ) (out : List Dropped) (x y : Seat A) → Leaves robot out x y → LosesThere robot x y out
leave-there {A} robot out x y (is, listed) = (
  record { cell = ap (λ z. z.robot.cell) is; there = λ e. let z : true ≡ false = sym (ap (λ w. is_gone w.standing) is) ∙ e in cc },
  subst (λ (z : Seat A). Loses robot x.robot z.robot out) (sym is) (subst (λ l. Loses robot x.robot (emptied x.robot) l) (sym listed) (loses-all robot x.robot)),
)

on-cell : {A : Type 0} (robot cell : ℕ) (x : RobotState A) → Loses robot x (on_cell cell x) []
on-cell robot cell x = record {
  arrival_law = refl;
  farewell_law = refl;
  some = some-all x.errands;
  waits = λ e. e;
  longer = λ t all. all;
  gone = [];
  named = refl;
  counted = λ test. omega arith;
}

pub come-as : {A : Type 0} (cell robot : ℕ) (x y : Seat A) → ComesTo cell x y → LosesAs robot x y []
come-as {A} cell robot x y is = subst (λ (z : Seat A). Loses robot x.robot z.robot []) (sym is) (on-cell robot cell x.robot)

pub cut-there : {A : Type 0} (S : Errand → Type 0) (robot : ℕ) (out : List Dropped) (x y : Seat A) → IsCut S robot out x y → LosesThere robot x y out
cut-there S robot out x y (same, cuts) = (
  record { cell = ap (λ z. z.cell) cuts.rest; there = λ e. sym (ap is_gone same) ∙ e },
  loses-some S robot x.robot y.robot out cuts,
)

settle-as : {A : Type 0} (m : Floor) (robot : ℕ) (kind : Standing) (x y : Seat A) (out : List Dropped) → SettlesAs m robot kind x y out → LosesThere robot x y out
settle-as m robot standing.Moving x y out cut = cut-there _ robot out x y cut
settle-as {A} m robot standing.Held x y out (same, none) = subst (λ (z : Seat A). LosesThere robot x z out) (sym same) (subst (λ l. LosesThere robot x x l) (sym none) (stays-there robot x))
settle-as {A} m robot standing.Gone x y out (same, none) = subst (λ (z : Seat A). LosesThere robot x z out) (sym same) (subst (λ l. LosesThere robot x x l) (sym none) (stays-there robot x))

pub settle-there : {A : Type 0} (m : Floor) (robot : ℕ) (x y : Seat A) (out : List Dropped) → IsSettled m robot x y out → LosesThere robot x y out
settle-there m robot x y out is = settle-as m robot x.standing x y out is
