-- The closures of a world belong to it also after an entry.
use Rattle.std.proofs.Common.{◌≡◌, ℕ, ◌<◌, List, [], ◌∷◌, length, get_or, cond, eqb, Bool, true, false, ◌&&◌, ◌||◌, not, Option, Some, None, sym, refl, ◌∙◌, subst, arith, inl, inr}
use Rattle.std.specs.Prelude.{slice_set, slice_index_or, is_some, All, IfSome}
use Rattle.std.proofs.lemmas.List.{length-set, get_or-set_same, get_or-set_other, get_or_past}
use Rattle.std.proofs.lemmas.Bool.{cases_eq, cases_lt, eq-eqb, eqb-true, cond_both}
use Rattle.fleet_grid.specs.Floor.{Floor}
use Rattle.fleet_hooks.specs.Law.{IsStamp}
use Rattle.fleet_hooks.specs.declared.law.StampLaw.{StampLaw}
use Rattle.fleet_book.specs.declared.order.Order.{Order}
use Rattle.fleet_book.specs.declared.order.Order.TheVariants.{Go, Close, Withdraw}
use Rattle.fleet_book.specs.declared.verdict.Verdict.{Verdict}
use Rattle.fleet_book.specs.declared.verdict.Verdict.TheVariants.{Accepted}
use Rattle.fleet_history.specs.declared.history.Entry.{Entry}
use Rattle.fleet_history.specs.declared.history.Entry.TheVariants as entry
use Rattle.fleet_history.specs.declared.history.Arrival.{Arrival}
use Rattle.fleet_history.specs.declared.history.Bye.{Bye}
use Rattle.fleet_history.specs.declared.history.Opening.{Opening}
use Rattle.fleet_history.specs.History.{History, start, after, robots, unfinished, is_shut, errand_for}
use Rattle.fleet_history.specs.Verdicts.{IsVerdict, standing}
use Rattle.fleet_history.specs.Legal.{IsLegal, is_done, is_none_left, is_leaving, arrival_law, farewell_law, IsFarewell}
use Rattle.fleet_history.specs.Next.{next_opening}
use Rattle.fleet_history.proofs.After.{shut-after}
use Rattle.fleet_history.proofs.Next.{next-robots, start-arrival_law, start-done, start-farewell_law}
use Rattle.fleet_history.proofs.Arrivals.{unfinished-after_shut}
use Rattle.fleet_history.proofs.Places.{done-after_take}
use Rattle.fleet_history.proofs.Legal.{accepted-rule}
use Rattle.fleet_core.specs.Hooks.{law_at, AreArrivals, AreFarewells, IsLastStamp}
use Rattle.fleet_core.specs.inside.Spent.{spent_if}
use Rattle.fleet_planner.proofs.GoalsKept.{none_left_nil}

true_or_false : (b : Bool) → b ≡ true → b ≡ false → ⊥
true_or_false b p q = cc

both_true : (a b : Bool) → (a && b) ≡ true → (a ≡ true) × (b ≡ true)
both_true true b e = (refl, e)
both_true false b e = cc

-- what was done before stays so
done_back : (a b : Bool) → (a ≡ true → b ≡ true) → b ≡ false → a ≡ false
done_back true b f e = absurd (true_or_false b (f refl) e)
done_back false b f e = refl

-- nothing is accepted for a shut robot
none_for_shut : {A : Type 0} (m : Floor) (h : History A) (c r : ℕ) (order : Order) (v : Verdict) → IsVerdict m h c order v → is_shut h r ≡ true → errand_for r c order v ≡ []
none_for_shut m h c r (Go robot cell) (Accepted n) is shut =
    let why = accepted-rule (standing h c (Go robot cell)) is.facts n robot cell is.judged in
    cond_both (eqb robot r) (record { client = c; number = n; cell = cell } ∷ []) [] (λ xs. xs ≡ [])
    (λ t. absurd (true_or_false (is_shut h r) shut (subst (λ k. is_shut h k ≡ false) (eqb-true robot r t) why.not_shut)))
    (λ t. refl)
none_for_shut m h c r (Go robot cell) v is shut = refl
none_for_shut m h c r Close v is shut = refl
none_for_shut m h c r (Withdraw number) v is shut = refl

module _ {A : Type 0} (h : History A) (spare : List (Option StampLaw)) (k : AreFarewells h spare) where
  pub farewells-take : (m : Floor) (c : ℕ) (order : Order) (v : Verdict) → IsLegal m h → IsVerdict m h c order v → AreFarewells (after h (entry.Take c order v)) spare
  farewells-take m c order v legal is = record {
    count = k.count;
    each = k.each;
    unspent = λ r l d. k.unspent r l (done_back (is_done h r) (is_done (after h (entry.Take c order v)) r) (λ was. done-after_take m h c order v r legal is l ∙ was) d);
  }

  shut_more : (robot : ℕ) (farewell : Option ℕ) (r : ℕ) → is_done h r ≡ true → is_done (after {A = A} h (entry.Shut robot farewell)) r ≡ true
  shut_more robot farewell r was =
      let both = both_true (is_shut h r) (is_none_left (unfinished h r)) was in
      rw (unfinished-after_shut h robot farewell r, shut-after h r (entry.Shut robot farewell), both.0, both.1) refl

  -- a robot that is shut with errands keeps its farewell
  pub farewells-shut : (robot : ℕ) (farewell : Option ℕ) → AreFarewells (after h (entry.Shut robot farewell)) spare
  farewells-shut robot farewell = record {
    count = k.count;
    each = k.each;
    unspent = λ r l d. k.unspent r l (done_back (is_done h r) (is_done (after h (entry.Shut robot farewell)) r) (shut_more robot farewell r) d);
  }

  some_after : (r robot : ℕ) (law : StampLaw) → slice_index_or (slice_set spare robot None) r None ≡ Some law → robot < length spare → slice_index_or spare r None ≡ Some law
  some_after r robot law e inside =
      elim (cases_eq robot r) [
        | inl s ↦ (let q : None ≡ Some law = sym (subst (λ i. slice_index_or (slice_set spare robot None) i None ≡ None) s (get_or-set_same spare robot None None inside)) ∙ e in absurd (none_some law q))
        | inr ne ↦ sym (get_or-set_other spare robot r None None (λ s. ne (sym s))) ∙ e
      ]
    where
      none_some : (law : StampLaw) → None ≡ Some law → ⊥
      none_some law q = cc

  -- one that is shut without errands has spent it
  pub farewells-done : (robot : ℕ) (farewell : Option ℕ) → robot < robots h → unfinished h robot ≡ [] → AreFarewells (after h (entry.Shut robot farewell)) (slice_set spare robot None)
  farewells-done robot farewell inside none =
      let e : Entry A = entry.Shut robot farewell in
      record {
        count = length-set spare robot None ∙ k.count;
        each = λ r law s. k.each r law (some_after r robot law s (omega (arith, k.count)));
        unspent = λ r l d. elim (cases_eq robot r) [
          | inl s ↦ absurd (true_or_false (is_done (after h e) robot) (rw (unfinished-after_shut h robot farewell robot, none, shut-after h robot e, eq-eqb robot robot refl) (is_true (is_shut h robot))) (subst (λ i. is_done (after h e) i ≡ false) (sym s) d))
          | inr ne ↦ rw (get_or-set_other spare robot r None None (λ s. ne (sym s))) (k.unspent r l (done_back (is_done h r) (is_done (after h e) r) (shut_more robot farewell r) d))
        ];
      }
    where
      is_true : (b : Bool) → ((b || true) && true) ≡ true
      is_true true = refl
      is_true false = refl

  -- the farewell of a robot that is shut without errands
  pub farewells-idle : (robot : ℕ) (farewell : Option ℕ) (idle : Bool) → robot < robots h → idle ≡ is_none_left (unfinished h robot) → AreFarewells (after h (entry.Shut robot farewell)) (spent_if idle robot spare)
  farewells-idle robot farewell true inside is = farewells-done robot farewell inside (none_left_nil (unfinished h robot) (sym is))
  farewells-idle robot farewell false inside is = farewells-shut robot farewell

  pub farewell-is : (robot : ℕ) (farewell : Option ℕ) → IfSome farewell (λ stamp. IsLastStamp spare robot stamp) → IsFarewell h robot farewell
  farewell-is robot None e = tt
  farewell-is robot (Some stamp) (law, is, within) = subst (λ x. IsStamp x stamp) (k.each robot law is) within

  pub farewell-there : (robot : ℕ) → robot < robots h → is_shut h robot ≡ false → is_some (slice_index_or spare robot None) ≡ true
  farewell-there robot l not_shut = k.unspent robot l (rw not_shut refl)

  pub last_stamps-are : (xs : List Bye) → All (λ b. IsLastStamp spare b.robot b.stamp) xs → All (λ b. IsStamp (farewell_law h b.robot) b.stamp) xs
  last_stamps-are xs all i d l = let x = all i d l in subst (λ law. IsStamp law (get_or xs i d).stamp) (k.each (get_or xs i d).robot x.0 x.1) x.2

  -- who leaves has its farewell
  pub leaver-has : (g : History A) (r : ℕ) → r < robots h → is_leaving h g r ≡ true → is_some (slice_index_or spare r None) ≡ true
  leaver-has g r l e = k.unspent r l (not_true (is_done h r) (both_true (not (is_done h r)) (is_done g r) e).0)
    where
      not_true : (b : Bool) → not b ≡ true → b ≡ false
      not_true true q = cc
      not_true false q = refl

  -- the farewells after an entry with which some robots leave
  pub farewells-left : (g : History A) (spare' : List (Option StampLaw)) → robots g ≡ robots h → ((r : ℕ) → farewell_law g r ≡ farewell_law h r) → length spare' ≡ length spare →
      ((r : ℕ) → is_done h r ≡ true → r < robots h → is_done g r ≡ true) →
      ((r : ℕ) → r < robots h → slice_index_or spare' r None ≡ cond (is_leaving h g r) None (slice_index_or spare r None)) → AreFarewells g spare'
  farewells-left g spare' same laws count stays spent = record {
    count = count ∙ k.count ∙ sym same;
    each = λ r law e. laws_at r law e;
    unspent = λ r l d.
        let was : is_done h r ≡ false = done_back (is_done h r) (is_done g r) (λ t. stays r t (omega arith)) d in
        rw (spent r (omega arith), d, was) (k.unspent r (omega arith) was);
  }
    where
      no_law : (law : StampLaw) → None ≡ Some law → ⊥
      no_law law q = cc

      through : (b : Bool) (o : Option StampLaw) (law : StampLaw) → cond b None o ≡ Some law → o ≡ Some law
      through true o law q = absurd (no_law law q)
      through false o law q = q

      laws_at : (r : ℕ) (law : StampLaw) → slice_index_or spare' r None ≡ Some law → law ≡ farewell_law g r
      laws_at r law e =
          elim (cases_lt r (robots h)) [
            | inl l ↦ k.each r law (through (is_leaving h g r) (slice_index_or spare r None) law (sym (spent r l) ∙ e)) ∙ sym (laws r)
            | inr l ↦ absurd (no_law law (sym (get_or_past spare' r None (omega (arith, count, k.count))) ∙ e))
          ]

-- the stamps of arrivals lie in the laws of the history
pub stamps-are : {A : Type 0} (h : History A) (laws : List StampLaw) → AreArrivals h laws → (xs : List Arrival) → All (λ a. a.robot < robots h) xs →
    All (λ a. IsStamp (law_at laws a.robot) a.stamp) xs → All (λ a. IsStamp (arrival_law h a.robot) a.stamp) xs
stamps-are h laws k xs known all i d l = subst (λ law. IsStamp law (get_or xs i d).stamp) (k.each (get_or xs i d).robot (known i d l)) (all i d l)

-- the laws of arrivals are those of the opening
pub arrivals-same : {A : Type 0} (h g : History A) (laws : List StampLaw) → g.opening ≡ h.opening → AreArrivals h laws → AreArrivals g laws
arrivals-same {A = A} h g laws same k = subst (λ (o : Opening A). AreArrivals (record { opening = o; entries = g.entries }) laws) (sym same) (record { count = k.count; each = k.each })

-- a chapter that goes on has the same laws, and the same robots are done
pub arrivals-next : {A : Type 0} (h : History A) (laws : List StampLaw) → AreArrivals h laws → AreArrivals (start (next_opening h)) laws
arrivals-next h laws k = record {
  count = k.count ∙ sym (next-robots h);
  each = λ r l. let inside : r < robots h = omega (arith, next-robots h) in k.each r inside ∙ sym (start-arrival_law h r inside);
}

pub farewells-next : {A : Type 0} (h : History A) (spare : List (Option StampLaw)) → AreFarewells h spare → AreFarewells (start (next_opening h)) spare
farewells-next h spare k = record {
  count = k.count ∙ sym (next-robots h);
  each = λ r law e.
      let inside = left_inside spare r law e in
      let known : r < robots h = omega (arith, inside, k.count) in
      k.each r law e ∙ sym (start-farewell_law h r known);
  unspent = λ r l d. let known : r < robots h = omega (arith, next-robots h) in k.unspent r known (sym (start-done h r known) ∙ d);
}
  where
    no_law : (law : StampLaw) → None ≡ Some law → ⊥
    no_law law q = cc

    left_inside : (spare : List (Option StampLaw)) (r : ℕ) (law : StampLaw) → slice_index_or spare r None ≡ Some law → r < length spare
    left_inside spare r law e = elim (cases_lt r (length spare)) [ inl l ↦ l | inr l ↦ absurd (no_law law (sym (get_or_past spare r None l) ∙ e)) ]
