-- Robots with served goals, and the first of them.
use Rattle.std.proofs.Common.{◌≡◌, ◌≢◌, ℕ, zero, suc, ◌+◌, ◌<◌, ◌≤◌, ◌⊎◌, inl, inr, Option, Some, None, Bool, true, false, List, length, slice_index, sym, subst, refl, ap, ◌∙◌, arith}
use Rattle.std.specs.Prelude.{nat_lt, if◌then◌else◌}
use Rattle.std.proofs.lemmas.Bool.{cases_eq, cases_lt, cases_Bool, ltb-true, lt-ltb}
use Rattle.fleet_pibt.specs.Eldest.{IsEldest, IsEldestOf}
use Rattle.fleet_pibt.specs.Order.{wait_of, ComesBefore}
use Rattle.fleet_pibt.proofs.Precedences.{outranks}
use Rattle.fleet_planner.specs.Lending.{IsRank, AreRanks, goal_at}
use Rattle.turns_law.specs.Turns.{Turns}
use Rattle.turns_law.specs.Fleet.{Fleet, wait_if_served, served_wait}

not_less : (a b : ℕ) → b ≤ a → nat_lt a b ≡ false
not_less a b le = elim (cases_Bool (nat_lt a b)) [ inl e ↦ (let less = ltb-true a b e in absurd (omega (arith, le, less))) | inr e ↦ e ]

-- a robot with a served goal
pub record HasServed (t : Turns) (goal wait : Option ℕ) (w : ℕ) : Type 0 where
  pub cell : ℕ
  pub goal_is : goal ≡ Some cell
  pub wait_is : wait ≡ Some w
  pub served : t.robots ≤ slice_index t.capacity (slice_index t.core cell)

pub served_some : (t : Turns) (goal wait : Option ℕ) (w : ℕ) → wait_if_served t goal wait ≡ Some w → HasServed t goal wait w
served_some t None wait w e = absurd (let p : None ≡ Some w = e in cc)
served_some t (Some g) wait w e = elim (cases_lt (slice_index t.capacity (slice_index t.core g)) t.robots) [
  | inl less ↦ absurd (let p : None ≡ Some w = sym (ap (λ (b : Bool). if b then None else wait) (lt-ltb (slice_index t.capacity (slice_index t.core g)) t.robots less)) ∙ e in cc)
  | inr more ↦ record {
    cell = g;
    goal_is = refl;
    wait_is = sym (ap (λ (b : Bool). if b then None else wait) (not_less (slice_index t.capacity (slice_index t.core g)) t.robots more)) ∙ e;
    served = more;
  }
]

pub served_from : (t : Turns) (goal wait : Option ℕ) (g : ℕ) → goal ≡ Some g → t.robots ≤ slice_index t.capacity (slice_index t.core g) → wait_if_served t goal wait ≡ wait
served_from t goal wait g is more =
    ap (λ (o : Option ℕ). wait_if_served t o wait) is
    ∙ ap (λ (b : Bool). if b then None else wait) (not_less (slice_index t.capacity (slice_index t.core g)) t.robots more)

pub unserved_none : (t : Turns) (goal wait : Option ℕ) (g : ℕ) → goal ≡ Some g → slice_index t.capacity (slice_index t.core g) < t.robots → wait_if_served t goal wait ≡ None
unserved_none t goal wait g is less =
    ap (λ (o : Option ℕ). wait_if_served t o wait) is
    ∙ ap (λ (b : Bool). if b then None else wait) (lt-ltb (slice_index t.capacity (slice_index t.core g)) t.robots less)

pub idle_none : (t : Turns) (goal wait : Option ℕ) → goal ≡ None → wait_if_served t goal wait ≡ None
idle_none t goal wait none = ap (λ (o : Option ℕ). wait_if_served t o wait) none

-- ---- ranks

-- who comes before a robot by served waits comes before it by ranks
rank_before : (t : Turns) (n : ℕ) (goal wait rank : Option ℕ) (w e r : ℕ) → n ≡ t.robots → IsRank t.core t.capacity n goal wait rank → ((v : ℕ) → wait ≡ Some v → v + 1 < 9223372036854775808) →
    ComesBefore (Some w) (wait_if_served t goal wait) e r → ComesBefore (Some (w + 9223372036854775808)) rank e r
rank_before t n goal None rank w e r many is early before = subst (λ (o : Option ℕ). ComesBefore (Some (w + 9223372036854775808)) o e r) (sym (is.idle refl)) tt
rank_before t n None (Some v) rank w e r many is early before =
    let l = early v refl in
    subst (λ (o : Option ℕ). ComesBefore (Some (w + 9223372036854775808)) o e r) (sym (is.aimless v refl refl)) (inl (omega (arith, l)))
rank_before t n (Some g) (Some v) rank w e r many is early before = elim (cases_lt (slice_index t.capacity (slice_index t.core g)) t.robots) [
  | inl less ↦ (
      let l = early v refl in
      let own = is.unserved g v refl refl (λ more. omega (arith, less, more, many)) in
      subst (λ (o : Option ℕ). ComesBefore (Some (w + 9223372036854775808)) o e r) (sym own) (inl (omega (arith, l))))
  | inr more ↦ (
      let own = is.served g v refl refl (omega (arith, more, many)) in
      let plain : ComesBefore (Some w) (Some v) e r = subst (λ (o : Option ℕ). ComesBefore (Some w) o e r) (served_from t (Some g) (Some v) g refl more) before in
      subst (λ (o : Option ℕ). ComesBefore (Some (w + 9223372036854775808)) o e r) (sym own) (higher plain))
]
  where
    higher : ComesBefore (Some w) (Some v) e r → ComesBefore (Some (w + 9223372036854775808)) (Some (v + 9223372036854775808)) e r
    higher (inl a) = inl (omega (arith, a))
    higher (inr a) = inr (ap (λ (k : ℕ). k + 9223372036854775808) a.0, a.1)

-- so the first robot by served waits is the first by ranks
pub eldest_ranked : (t : Turns) (f : Fleet) (own : List (Option ℕ)) (e : ℕ) → length f.waits ≡ t.robots → AreRanks t.core t.capacity f.goals f.waits own →
    ((r w : ℕ) → wait_of f.waits r ≡ Some w → w + 1 < 9223372036854775808) → IsEldestOf (served_wait t f) t.robots e → IsEldest own e
eldest_ranked t f own e many are early eldest = record {
  known = (let l = eldest.known in let same = are.same_length in omega (arith, l, same, many));
  age = eldest.age + 9223372036854775808;
  waits = (are.each e (let l = eldest.known in omega (arith, l, many))).served mine.cell eldest.age mine.goal_is mine.wait_is (let l = mine.served in omega (arith, l, many));
  first = λ r l ne. (
      let known : r < length f.waits = (let same = are.same_length in omega (arith, l, same)) in
      rank_before t (length f.waits) (goal_at f.goals r) (wait_of f.waits r) (wait_of own r) eldest.age e r many (are.each r known) (early r) (eldest.first r (omega (arith, known, many)) ne));
}
  where
    mine : HasServed t (goal_at f.goals e) (wait_of f.waits e) eldest.age
    mine = served_some t (goal_at f.goals e) (wait_of f.waits e) eldest.age eldest.waits

-- there is one first robot
pub eldest_once : (waits : ℕ → Option ℕ) (n a b : ℕ) → IsEldestOf waits n a → IsEldestOf waits n b → a ≡ b
eldest_once waits n a b p q = elim (outranks waits n a p b q.age q.known q.waits) [
  | inl x ↦ elim (outranks waits n b q a p.age p.known p.waits) [ inl y ↦ omega (arith, x, y) | inr y ↦ (let same = y.0 in omega (arith, x, same)) ]
  | inr x ↦ elim (outranks waits n b q a p.age p.known p.waits) [ inl y ↦ (let same = x.0 in omega (arith, y, same)) | inr y ↦ (let one = x.1 in let two = y.1 in omega (arith, one, two)) ]
]
