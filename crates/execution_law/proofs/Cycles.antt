-- Robots that follow one another in a step, and turn in a cycle.
use Rattle.std.proofs.Common.{◌≡◌, ℕ, zero, suc, ◌-◌, ◌<◌, ◌≤◌, sym, ◌∙◌, subst, refl, arith}
use Rattle.execution_law.specs.Run.{Plan, IsConflictFree, Moves, Leaves, Follows, Leads, IsMate, Turns}

-- one more robot at the end
pub append : (plan : Plan) (t n r q p : ℕ) → Leads plan t n r q → p < plan.robots → Follows plan t q p → Leads plan t (suc n) r p
append plan t zero r q p one inside follows = (p, inside, subst (λ (x : ℕ). Follows plan t x p) (sym one) follows, refl)
append plan t (suc n) r q p first inside follows = (first.0, first.1, first.2, append plan t n first.0 q p first.3 inside follows)

-- only one robot leaves the cell that r enters
one_before : (plan : Plan) (t r p q : ℕ) → IsConflictFree plan → t ≤ plan.steps → p < plan.robots → q < plan.robots → Follows plan t r p → Follows plan t r q → p ≡ q
one_before plan t r p q free small p_in q_in p_before q_before =
    free.distinct (t - 1) p q (omega arith) p_in q_in (p_before.leaves.cell ∙ sym q_before.leaves.cell)

-- who leaves the cell that a robot enters that turns, turns with it
pub record TurnsWith (plan : Plan) (t r p : ℕ) : Type 0 where
  pub turns : Turns plan t p
  pub mate : IsMate plan t p r

pub turns_on : (plan : Plan) (t r p : ℕ) → IsConflictFree plan → t ≤ plan.steps → p < plan.robots → Turns plan t r → Follows plan t r p → TurnsWith plan t r p
turns_on plan t r p free small inside turns follows =
    let first : Leads plan t (suc turns.count) r r = turns.leads in
    let one : first.0 ≡ p = one_before plan t r first.0 p free small first.1 inside first.2 follows in
    let rest : Leads plan t turns.count p r = subst (λ (x : ℕ). Leads plan t turns.count x r) one first.3 in
    record {
      turns = record { count = turns.count; leads = append plan t turns.count p r p rest inside follows };
      mate = record { count = turns.count; leads = rest };
    }

pub leads_inside : (plan : Plan) (t n r q : ℕ) → r < plan.robots → Leads plan t n r q → q < plan.robots
leads_inside plan t zero r q inside leads = subst (λ (x : ℕ). x < plan.robots) leads inside
leads_inside plan t (suc n) r q inside leads = leads_inside plan t n leads.0 q leads.1 leads.3

-- a mate's mate is a mate
mate_after : (plan : Plan) (t n r q p : ℕ) → Leads plan t n r q → IsMate plan t q p → IsMate plan t r p
mate_after plan t zero r q p leads mate = subst (λ (x : ℕ). IsMate plan t x p) (sym leads) mate
mate_after plan t (suc n) r q p leads mate =
    let rest = mate_after plan t n leads.0 q p leads.3 mate in
    record { count = suc rest.count; leads = (leads.0, leads.1, leads.2, rest.leads) }

pub mate_of_mate : (plan : Plan) (t r q p : ℕ) → IsMate plan t r q → IsMate plan t q p → IsMate plan t r p
mate_of_mate plan t r q p first second = mate_after plan t first.count r q p first.leads second

-- those that turn with a robot turn
lead_turns : (plan : Plan) (t n r q : ℕ) → IsConflictFree plan → t ≤ plan.steps → Turns plan t r → Leads plan t n r q → Turns plan t q
lead_turns plan t zero r q free small turns leads = subst (λ (x : ℕ). Turns plan t x) leads turns
lead_turns plan t (suc n) r q free small turns leads =
    let next = turns_on plan t r leads.0 free small leads.1 turns leads.2 in
    lead_turns plan t n leads.0 q free small next.turns leads.3

pub mate_turns : (plan : Plan) (t r q : ℕ) → IsConflictFree plan → t ≤ plan.steps → Turns plan t r → IsMate plan t r q → Turns plan t q
mate_turns plan t r q free small turns mate = lead_turns plan t mate.count r q free small turns mate.leads

-- and each of those that turn with a robot is followed up to it
lead_back : (plan : Plan) (t n r q : ℕ) → IsConflictFree plan → t ≤ plan.steps → Turns plan t r → Leads plan t n r q → IsMate plan t q r
lead_back plan t zero r q free small turns leads = record { count = zero; leads = sym leads }
lead_back plan t (suc n) r q free small turns leads =
    let next = turns_on plan t r leads.0 free small leads.1 turns leads.2 in
    mate_of_mate plan t q leads.0 r (lead_back plan t n leads.0 q free small next.turns leads.3) next.mate

pub mate_back : (plan : Plan) (t r q : ℕ) → IsConflictFree plan → t ≤ plan.steps → Turns plan t r → IsMate plan t r q → IsMate plan t q r
mate_back plan t r q free small turns mate = lead_back plan t mate.count r q free small turns mate.leads

-- the robot that leaves the cell which a robot enters that turns
pub record IsBefore (plan : Plan) (t r p : ℕ) : Type 0 where
  pub inside : p < plan.robots
  pub follows : Follows plan t r p
  pub mate : IsMate plan t r p

pub record HasBefore (plan : Plan) (t r : ℕ) : Type 0 where
  pub robot : ℕ
  pub is : IsBefore plan t r robot

pub before_it : (plan : Plan) (t r : ℕ) → Turns plan t r → HasBefore plan t r
before_it plan t r turns =
    let first : Leads plan t (suc turns.count) r r = turns.leads in
    record {
      robot = first.0;
      is = record { inside = first.1; follows = first.2; mate = record { count = suc zero; leads = (first.0, first.1, first.2, refl) } };
    }

-- two plans that agree on the cells up to a step
module _ (plan : Plan) (steps : ℕ) (cell : ℕ → ℕ → ℕ) (limit : ℕ) (same : (t r : ℕ) → t ≤ limit → r < plan.robots → cell t r ≡ plan.cell t r) where
  pub moves_as : (r t : ℕ) → t ≤ limit → r < plan.robots → Moves plan r t → Moves (record plan { steps = steps; cell = cell }) r t
  moves_as r t small inside moves = record {
    later = moves.later;
    other = λ (e : cell t r ≡ cell (t - 1) r). moves.other (sym (same t r small inside) ∙ (e ∙ same (t - 1) r (omega arith) inside));
  }

  pub leaves_as : (r t c : ℕ) → t ≤ limit → r < plan.robots → Leaves plan r t c → Leaves (record plan { steps = steps; cell = cell }) r t c
  leaves_as r t c small inside leaves = record { moves = moves_as r t small inside leaves.moves; cell = same (t - 1) r (omega arith) inside ∙ leaves.cell }

  follows_as : (t r q : ℕ) → t ≤ limit → r < plan.robots → q < plan.robots → Follows plan t r q → Follows (record plan { steps = steps; cell = cell }) t r q
  follows_as t r q small r_in q_in follows =
      let leaves : Leaves plan q t (cell t r) = subst (λ (x : ℕ). Leaves plan q t x) (sym (same t r small r_in)) follows.leaves in
      record { enters = moves_as r t small r_in follows.enters; leaves = leaves_as q t (cell t r) small q_in leaves }

  leads_as : (t n r q : ℕ) → t ≤ limit → r < plan.robots → Leads plan t n r q → Leads (record plan { steps = steps; cell = cell }) t n r q
  leads_as t zero r q small inside leads = leads
  leads_as t (suc n) r q small inside leads = (leads.0, leads.1, follows_as t r leads.0 small inside leads.1 leads.2, leads_as t n leads.0 q small leads.1 leads.3)

  pub mate_as : (t r q : ℕ) → t ≤ limit → r < plan.robots → IsMate plan t r q → IsMate (record plan { steps = steps; cell = cell }) t r q
  mate_as t r q small inside mate = record { count = mate.count; leads = leads_as t mate.count r q small inside mate.leads }

  pub turns_as : (t r : ℕ) → t ≤ limit → r < plan.robots → Turns plan t r → Turns (record plan { steps = steps; cell = cell }) t r
  turns_as t r small inside turns = record { count = turns.count; leads = leads_as t (suc turns.count) r r small inside turns.leads }
