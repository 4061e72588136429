-- A plan with a further step.
use Rattle.std.proofs.Common.{◌≡◌, ℕ, ◌+◌, ◌<◌, ◌≤◌, inl, inr, Bool, true, false, leb, cond, List, get_or, refl, sym, subst, arith, rules}
use Rattle.execution_law.specs.Run.{Plan, Run, Moves, Leaves, IsMate, Turns}
use Rattle.execution_law.specs.Rule.{HasEnded, IsFree, IsNext, MayBegin}
use Rattle.execution_law.specs.Change.{Extends, BeginsWith}
use Rattle.execution_law.proofs.Cycles.{moves_as, leaves_as, mate_as, turns_as, leads_inside}
use Rattle.fleet_execution.specs.Course.{longer}

cell_by : (b : Bool) (x y : ℕ) → b ≡ true → cond b x y ≡ x
cell_by true x y e = refl
cell_by false x y e = cc

cell_else : (b : Bool) (x y : ℕ) → b ≡ false → cond b x y ≡ y
cell_else true x y e = cc
cell_else false x y e = refl

module _ (plan : Plan) (to : List ℕ) where
  pub cell_old : (t r : ℕ) → t ≤ plan.steps → (longer plan to).cell t r ≡ plan.cell t r
  cell_old t r small = let b : leb t plan.steps ≡ true = search rules in cell_by (leb t plan.steps) (plan.cell t r) (get_or to r 0) b

  pub cell_new : (t r : ℕ) → plan.steps < t → (longer plan to).cell t r ≡ get_or to r 0
  cell_new t r large = let b : leb t plan.steps ≡ false = search rules in cell_else (leb t plan.steps) (plan.cell t r) (get_or to r 0) b

  pub extends : Extends plan (plan.steps + 1) (longer plan to).cell
  extends = record { longer = omega arith; same = λ t r small inside. cell_old t r small }

  same_on : (t r : ℕ) → t ≤ plan.steps → r < plan.robots → (longer plan to).cell t r ≡ plan.cell t r
  same_on t r small inside = cell_old t r small

  same_back : (t r : ℕ) → t ≤ plan.steps → r < plan.robots → plan.cell t r ≡ (longer plan to).cell t r
  same_back t r small inside = sym (cell_old t r small)

  pub moves_on : (r t : ℕ) → t ≤ plan.steps → r < plan.robots → Moves plan r t → Moves (longer plan to) r t
  moves_on r t small inside m = moves_as plan (plan.steps + 1) (longer plan to).cell plan.steps same_on r t small inside m

  pub leaves_on : (r t c : ℕ) → t ≤ plan.steps → r < plan.robots → Leaves plan r t c → Leaves (longer plan to) r t c
  leaves_on r t c small inside m = leaves_as plan (plan.steps + 1) (longer plan to).cell plan.steps same_on r t c small inside m

  pub mate_on : (t r q : ℕ) → t ≤ plan.steps → r < plan.robots → IsMate plan t r q → IsMate (longer plan to) t r q
  mate_on t r q small inside m = mate_as plan (plan.steps + 1) (longer plan to).cell plan.steps same_on t r q small inside m

  pub turns_on : (t r : ℕ) → t ≤ plan.steps → r < plan.robots → Turns plan t r → Turns (longer plan to) t r
  turns_on t r small inside m = turns_as plan (plan.steps + 1) (longer plan to).cell plan.steps same_on t r small inside m

  pub moves_back : (r t : ℕ) → t ≤ plan.steps → r < plan.robots → Moves (longer plan to) r t → Moves plan r t
  moves_back r t small inside m = moves_as (longer plan to) plan.steps plan.cell plan.steps same_back r t small inside m

  pub leaves_back : (r t c : ℕ) → t ≤ plan.steps → r < plan.robots → Leaves (longer plan to) r t c → Leaves plan r t c
  leaves_back r t c small inside m = leaves_as (longer plan to) plan.steps plan.cell plan.steps same_back r t c small inside m

  pub mate_back : (t r q : ℕ) → t ≤ plan.steps → r < plan.robots → IsMate (longer plan to) t r q → IsMate plan t r q
  mate_back t r q small inside m = mate_as (longer plan to) plan.steps plan.cell plan.steps same_back t r q small inside m

  pub turns_back : (t r : ℕ) → t ≤ plan.steps → r < plan.robots → Turns (longer plan to) t r → Turns plan t r
  turns_back t r small inside m = turns_as (longer plan to) plan.steps plan.cell plan.steps same_back t r small inside m

-- a move of a step that the plan had before may begin only if it might before
module _ (run : Run) (to : List ℕ) (within : (r : ℕ) → r < run.plan.robots → run.begun r ≤ run.plan.steps) where
  free_back : (q : ℕ) → q < run.plan.robots → IsFree (record run { plan = longer run.plan to }) q → IsFree run q
  free_back q inside free = record {
    stands = free.stands;
    turned = λ arrived turns p mate. free.turned arrived (turns_on run.plan to (run.begun q) q (within q inside) inside turns) p (mate_on run.plan to (run.begun q) q p (within q inside) inside mate);
  }

  next_back : (q u : ℕ) → q < run.plan.robots → u ≤ run.plan.steps → IsNext (record run { plan = longer run.plan to }) q u → IsNext run q u
  next_back q u inside small next = record {
    planned = small;
    moves = moves_back run.plan to q u small inside next.moves;
    begins = next.begins;
    first = λ s later earlier moves. next.first s later earlier (moves_on run.plan to q s (omega arith) inside moves);
  }

  ended_back : (q e : ℕ) → q < run.plan.robots → e ≤ run.plan.steps → HasEnded (record run { plan = longer run.plan to }) q e → HasEnded run q e
  ended_back q e inside small ended = elim ended [
    | inl there ↦ inl there
    | inr both ↦ inr (both.0, elim both.1 [ inl started ↦ inl started | inr turns ↦ inr (turns_back run.plan to e q small inside turns) ])
  ]

  pub may_back : (r u : ℕ) → r < run.plan.robots → u ≤ run.plan.steps → MayBegin (record run { plan = longer run.plan to }) r u → MayBegin run r u
  may_back r u inside small may = elim may [
    | inl alone ↦ inl (record {
      free = free_back r inside alone.free;
      next = next_back r u inside small alone.next;
      clear = λ q e q_in early leaves. (
          let there : Leaves run.plan q e ((longer run.plan to).cell u r) = subst (λ (c : ℕ). Leaves run.plan q e c) (sym (cell_old run.plan to u r small)) leaves in
          ended_back q e q_in (omega arith) (alone.clear q e q_in early (leaves_on run.plan to q e ((longer run.plan to).cell u r) (omega arith) q_in there)));
    })
    | inr turn ↦ inr (record {
      turns = turns_back run.plan to u r small inside turn.turns;
      free = λ q mate. free_back q (mate_in q mate) (turn.free q (mate_on run.plan to u r q small inside mate));
      next = λ q mate. next_back q u (mate_in q mate) small (turn.next q (mate_on run.plan to u r q small inside mate));
    })
  ]
    where
      mate_in : (q : ℕ) → IsMate run.plan u r q → q < run.plan.robots
      mate_in q mate = leads_inside run.plan u mate.count r q inside mate.leads

  pub group_on : (r u q : ℕ) → r < run.plan.robots → u ≤ run.plan.steps → BeginsWith run.plan u r q → BeginsWith (longer run.plan to) u r q
  group_on r u q inside small with_it = elim with_it [
    | inl same ↦ inl same
    | inr turning ↦ inr (turns_on run.plan to u r small inside turning.0, mate_on run.plan to u r q small inside turning.1)
  ]
