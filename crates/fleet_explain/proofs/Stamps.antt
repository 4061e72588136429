-- The entry that has a stamp outside of its robot's law.
use Rattle.std.proofs.Common.{◌≡◌, ◌∙◌, ℕ, ◌-◌, ◌≤◌, Bool, true, false, inl, inr, List, [], ◌∷◌, ◌++◌, Option, Some, None, refl, sym, ap, subst, arith, map}
use Rattle.std.specs.Prelude.{All, slice_get, nat_lt, ◌||◌, if◌then◌else◌}
use Rattle.std.proofs.lemmas.Bool.{cases_lt, lt-ltb}
use Rattle.std.proofs.lemmas.List.Elements.{All-nil, All-cons}
use Rattle.fleet_grid.specs.Floor.{Floor}
use Rattle.fleet_hooks.specs.declared.law.StampLaw.{StampLaw}
use Rattle.fleet_hooks.specs.Law.{IsStamp}
use Rattle.fleet_history.specs.declared.history.Arrival.{Arrival}
use Rattle.fleet_history.specs.declared.history.Bye.{Bye}
use Rattle.fleet_history.specs.declared.history.RobotState.{RobotState}
use Rattle.fleet_history.specs.declared.history.Entry.{Entry}
use Rattle.fleet_history.specs.declared.history.Entry.TheVariants.{Take, Tick, Shut}
use Rattle.fleet_history.specs.History.{History}
use Rattle.fleet_history.specs.Legal.{arrival_law, farewell_law}
use Rattle.fleet_trace.specs.Judged.{before, Breaks, IsFirstIllegal}
use Rattle.fleet_explain.specs.declared.stamp.RobotStamp.{RobotStamp}
use Rattle.fleet_explain.specs.Stamps.{by_law, arrival_stamp, farewell_stamp, stamps_of, is_outside, first_outside}
use Rattle.fleet_explain.specs.Details.{stamp_detail, IsDetail}
use Rattle.fleet_explain.proofs.AtEntry.{entry_at, the_same}

-- ---- the first of two lists, one after the other

before_others : (b : Bool) (s r : RobotStamp) (o p : Option RobotStamp) → (o ≡ Some r → p ≡ Some r) → (if b then Some s else o) ≡ Some r → (if b then Some s else p) ≡ Some r
before_others true s r o p rest is = is
before_others false s r o p rest is = rest is

pub first_in : (xs ys : List RobotStamp) (r : RobotStamp) → first_outside xs ≡ Some r → first_outside (xs ++ ys) ≡ Some r
first_in [] ys r is = cc
first_in (x ∷ xs) ys r is = before_others (is_outside x) x r (first_outside xs) (first_outside (xs ++ ys)) (first_in xs ys r) is

-- nothing was found at an item, nor after it
none_here : (b : Bool) (s : RobotStamp) (o : Option RobotStamp) → (if b then Some s else o) ≡ None → (b ≡ false) × (o ≡ None)
none_here true s o is = absurd cc
none_here false s o is = (refl, is)

pub first_past : (xs ys : List RobotStamp) → first_outside xs ≡ None → first_outside (xs ++ ys) ≡ first_outside ys
first_past [] ys is = refl
first_past (x ∷ xs) ys is =
    let here = none_here (is_outside x) x (first_outside xs) is in
    ap (λ (b : Bool). if b then Some x else first_outside (xs ++ ys)) here.0 ∙ first_past xs ys here.1

none_of_both : (xs ys : List RobotStamp) → first_outside (xs ++ ys) ≡ None → (first_outside xs ≡ None) × (first_outside ys ≡ None)
none_of_both [] ys is = (refl, is)
none_of_both (x ∷ xs) ys is =
    let here = none_here (is_outside x) x (first_outside (xs ++ ys)) is in
    let rest = none_of_both xs ys here.1 in
    (ap (λ (b : Bool). if b then Some x else first_outside xs) here.0 ∙ rest.0, rest.1)

-- ---- a stamp that is not outside of its law

neither : (a b : Bool) → (a || b) ≡ false → (a ≡ false) × (b ≡ false)
neither true b is = absurd cc
neither false b is = (refl, is)

not_less : (a b : ℕ) → nat_lt a b ≡ false → b ≤ a
not_less a b is = elim (cases_lt a b) [
  | inl less ↦ absurd (let yes = lt-ltb a b less in cc)
  | inr more ↦ more
]

allowed : (law : StampLaw) (robot stamp : ℕ) → is_outside (by_law robot stamp law) ≡ false → IsStamp law stamp
allowed law robot stamp is =
    let both = neither (nat_lt stamp law.low) (nat_lt law.high stamp) is in
    record { low = not_less stamp law.low both.0; high = not_less law.high stamp both.1 }

module _ {X : Type 0} (f : X → RobotStamp) (P : X → Type 0) (allows : (x : X) → is_outside (f x) ≡ false → P x) where
  all_allowed : (xs : List X) → first_outside (map f xs) ≡ None → All P xs
  all_allowed [] is = All-nil P
  all_allowed (x ∷ xs) is =
      let here = none_here (is_outside (f x)) (f x) (first_outside (map f xs)) is in
      All-cons P x xs (allows x here.0) (all_allowed xs here.1)

-- ---- what the seventh rule says of an entry

none_breaks : {A : Type 0} (m : Floor) (h : History A) (e : Entry A) (rule : ℕ) → rule ≡ 7 → first_outside (stamps_of h.opening.robots e) ≡ None → Breaks m h e rule → ⊥
none_breaks m h (Take client order v) rule is none (inl b) = omega (arith, b.0, is)
none_breaks m h (Take client order v) rule is none (inr b) = omega (arith, b.0, is)
none_breaks m h (Tick to arrived farewells) rule is none (inl b) = omega (arith, b.0, is)
none_breaks m h (Tick to arrived farewells) rule is none (inr (step, inl b)) = omega (arith, b.0, is)
none_breaks m h (Tick to arrived farewells) rule is none (inr (step, inr (inl b))) = omega (arith, b.0, is)
none_breaks m h (Tick to arrived farewells) rule is none (inr (step, inr (inr b))) =
    let both = none_of_both (map (λ (a : Arrival). arrival_stamp h.opening.robots a.robot a.stamp) arrived)
    (map (λ (y : Bye). farewell_stamp h.opening.robots y.robot y.stamp) farewells) none in
    b.3 (
      all_allowed (λ (a : Arrival). arrival_stamp h.opening.robots a.robot a.stamp) (λ (a : Arrival). IsStamp (arrival_law h a.robot) a.stamp)
          (λ a. allowed (arrival_law h a.robot) a.robot a.stamp) arrived both.0,
      all_allowed (λ (y : Bye). farewell_stamp h.opening.robots y.robot y.stamp) (λ (y : Bye). IsStamp (farewell_law h y.robot) y.stamp)
          (λ y. allowed (farewell_law h y.robot) y.robot y.stamp) farewells both.1,
    )
none_breaks m h (Shut robot farewell) rule is none (inl b) = omega (arith, b.0, is)
none_breaks m h (Shut robot farewell) rule is none (inr (inl b)) = omega (arith, b.0, is)
none_breaks m h (Shut robot None) rule is none (inr (inr b)) = b.3 tt
none_breaks m h (Shut robot (Some stamp)) rule is none (inr (inr b)) =
    let s = farewell_stamp h.opening.robots robot stamp in
    b.3 (allowed (farewell_law h robot) robot stamp (none_here (is_outside s) s None none).0)

pub stamp_told : {A : Type 0} (m : Floor) (h : History A) (at : ℕ) → IsFirstIllegal m h at 7 → (e : Entry A) → slice_get h.entries (at - 1) ≡ Some e
    → (o : Option RobotStamp) → o ≡ first_outside (stamps_of h.opening.robots e) → IsDetail m h at 7 (stamp_detail o)
stamp_told m h at first e there (Some s) is = (refl, (e, there, sym is))
stamp_told {A} m h at first e there None is =
    let k = entry_at m h at 7 (λ bad. omega (arith, bad)) first in
    let broken = subst (λ (x : Entry A). Breaks m (before h (at - 1)) x 7) (the_same (slice_get h.entries (at - 1)) k.entry e k.there there) k.breaks in
    absurd (none_breaks m (before h (at - 1)) e 7 refl (sym is) broken)

-- ---- the stamps of a tick

module _ {A : Type 0} (robots : List (RobotState A)) (e : Entry A) (to : List ℕ) (arrived shown : List Arrival) (farewells byes : List Bye) (is : e ≡ Tick to arrived farewells) (same : shown ≡ arrived) where
  abbrev arrivals : List Arrival → List RobotStamp
  arrivals xs = map (λ (a : Arrival). arrival_stamp robots a.robot a.stamp) xs

  abbrev leaving : List Bye → List RobotStamp
  leaving xs = map (λ (b : Bye). farewell_stamp robots b.robot b.stamp) xs

  pub tick_some : (o : Option RobotStamp) (s : RobotStamp) → o ≡ first_outside (map (λ (a : Arrival). arrival_stamp robots a.robot a.stamp) shown) → o ≡ Some s → Some s ≡ first_outside (stamps_of robots e)
  tick_some o s found some =
      let here : first_outside (arrivals arrived) ≡ Some s = ap (λ (xs : List Arrival). first_outside (arrivals xs)) (sym same) ∙ (sym found ∙ some) in
      subst (λ (x : Entry A). Some s ≡ first_outside (stamps_of robots x)) (sym is) (sym (first_in (arrivals arrived) (leaving farewells) s here))

  pub tick_none : (o p : Option RobotStamp) → o ≡ first_outside (map (λ (a : Arrival). arrival_stamp robots a.robot a.stamp) shown) → o ≡ None → byes ≡ farewells
      → p ≡ first_outside (map (λ (b : Bye). farewell_stamp robots b.robot b.stamp) byes) → p ≡ first_outside (stamps_of robots e)
  tick_none o p found none alike rest =
      let here : first_outside (arrivals arrived) ≡ None = ap (λ (xs : List Arrival). first_outside (arrivals xs)) (sym same) ∙ (sym found ∙ none) in
      subst (λ (x : Entry A). p ≡ first_outside (stamps_of robots x)) (sym is)
      (rest ∙ (ap (λ (xs : List Bye). first_outside (leaving xs)) alike ∙ sym (first_past (arrivals arrived) (leaving farewells) here)))
