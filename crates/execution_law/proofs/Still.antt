-- A move that may begin may begin until it has begun.
use Rattle.std.proofs.Common.{◌≡◌, ◌≢◌, ℕ, ◌<◌, ◌≤◌, inl, inr, sym, ◌∙◌, subst, refl, arith}
use Rattle.std.proofs.lemmas.Bool.{cases_lt}
use Rattle.execution_law.specs.Run.{Run, Leaves, IsMate, Turns}
use Rattle.execution_law.specs.Rule.{HasEnded, IsFree, IsNext, MayTurn, MayBegin, IsLawful}
use Rattle.execution_law.specs.Change.{Extends, BeginsWith, Begins, Reports}
use Rattle.execution_law.proofs.Cycles.{leads_inside, mate_of_mate, mate_turns, mate_back, leaves_as, moves_as, mate_as, turns_as}
use Rattle.execution_law.proofs.Kept.{next_of, still, mate_of, further, ended_still, ended_planned}

one_step : (run : Run) (q u t : ℕ) → IsNext run q u → IsNext run q t → u ≡ t
one_step run q u t a b = elim (cases_lt u t) [
  | inl less ↦ absurd (b.first u a.begins less a.moves)
  | inr more ↦ elim (cases_lt t u) [
    | inl less ↦ absurd (a.first t b.begins less b.moves)
    | inr at ↦ omega arith
  ]
]

module _ (run : Run) (r t : ℕ) (b : ℕ → ℕ) (lawful : IsLawful run) (begins : Begins run r t b) where
  old : (q : ℕ) → q < run.plan.robots → (BeginsWith run.plan t r q → ⊥) → b q ≡ run.begun q
  old q q_in apart = elim (begins.each q q_in) [
    | inl new ↦ absurd (apart new.0)
    | inr was ↦ was.1
  ]

  free_begun : (q : ℕ) → b q ≡ run.begun q → IsFree run q → IsFree (record run { begun = b }) q
  free_begun q was free = record {
    stands = was ∙ free.stands;
    turned = λ arrived turns p mate.
        let then_turns : Turns run.plan (run.begun q) q = subst (λ (x : ℕ). Turns run.plan x q) was turns in
        let then_mate : IsMate run.plan (run.begun q) q p = subst (λ (x : ℕ). IsMate run.plan x q p) was mate in
        omega (arith, was, free.turned arrived then_turns p then_mate);
  }

  next_begun : (q u : ℕ) → b q ≡ run.begun q → IsNext run q u → IsNext (record run { begun = b }) q u
  next_begun q u was next = record {
    planned = next.planned;
    moves = next.moves;
    begins = omega (arith, was, next.begins);
    first = λ s later earlier moves. next.first s (omega (arith, was, later)) earlier moves;
  }

  mates_apart : (s u q : ℕ) → MayTurn run s u → (BeginsWith run.plan t r s → ⊥) → IsMate run.plan u s q → BeginsWith run.plan t r q → ⊥
  mates_apart s u q turn apart mate with_it =
      let next = next_of run r t b lawful begins q with_it in
      let same : u ≡ t = one_step run q u t (turn.next q mate) next in
      let s_turns : Turns run.plan t s = subst (λ (x : ℕ). Turns run.plan x s) same turn.turns in
      let q_mate : IsMate run.plan t s q = subst (λ (x : ℕ). IsMate run.plan x s q) same mate in
      let q_turns = mate_turns run.plan t s q lawful.free_of_conflicts next.planned s_turns q_mate in
      let s_mate = mate_back run.plan t s q lawful.free_of_conflicts next.planned s_turns q_mate in
      let r_turns : Turns run.plan t r = elim with_it [
        | inl one ↦ subst (λ (x : ℕ). Turns run.plan t x) one q_turns
        | inr turning ↦ turning.0
      ] in
      apart (inr (r_turns, mate_of_mate run.plan t r q s (mate_of run r t b lawful begins q with_it) s_mate))

  pub ready_begun : (s u : ℕ) → s < run.plan.robots → MayBegin run s u → (BeginsWith run.plan t r s → ⊥) → MayBegin (record run { begun = b }) s u
  ready_begun s u s_in may apart = elim may [
    | inl alone ↦ inl (record {
      free = free_begun s (old s s_in apart) alone.free;
      next = next_begun s u (old s s_in apart) alone.next;
      clear = λ q e q_in early leaves. still run r t b lawful begins q e q_in (alone.clear q e q_in early leaves);
    })
    | inr turn ↦ inr (record {
      turns = turn.turns;
      free = λ q mate. free_begun q (old q (leads_inside run.plan u mate.count s q s_in mate.leads) (mates_apart s u q turn apart mate)) (turn.free q mate);
      next = λ q mate. next_begun q u (old q (leads_inside run.plan u mate.count s q s_in mate.leads) (mates_apart s u q turn apart mate)) (turn.next q mate);
    })
  ]

module _ (run : Run) (r : ℕ) (c : ℕ → ℕ) (reports : Reports run r c) where
  free_reported : (q : ℕ) → q < run.plan.robots → IsFree run q → IsFree (record run { reached = c }) q
  free_reported q q_in free =
      let other : q ≢ r = λ (same : q ≡ r). (let stood : run.begun r ≡ run.reached r = subst (λ (x : ℕ). run.begun x ≡ run.reached x) same free.stands in omega (arith, stood, reports.under_way)) in
      record {
        stands = free.stands ∙ sym (reports.others q q_in other);
        turned = λ arrived turns p mate. omega (arith, free.turned arrived turns p mate, further run r c reports p (leads_inside run.plan (run.begun q) mate.count q p q_in mate.leads));
      }

  next_reported : (q u : ℕ) → IsNext run q u → IsNext (record run { reached = c }) q u
  next_reported q u next = record { planned = next.planned; moves = next.moves; begins = next.begins; first = next.first }

  pub ready_reported : (s u : ℕ) → s < run.plan.robots → MayBegin run s u → MayBegin (record run { reached = c }) s u
  ready_reported s u s_in may = elim may [
    | inl alone ↦ inl (record {
      free = free_reported s s_in alone.free;
      next = next_reported s u alone.next;
      clear = λ q e q_in early leaves. ended_still run run.begun c q e (omega arith) (further run r c reports q q_in) (alone.clear q e q_in early leaves);
    })
    | inr turn ↦ inr (record {
      turns = turn.turns;
      free = λ q mate. free_reported q (leads_inside run.plan u mate.count s q s_in mate.leads) (turn.free q mate);
      next = λ q mate. next_reported q u (turn.next q mate);
    })
  ]

module _ (run : Run) (steps : ℕ) (cell : ℕ → ℕ → ℕ) (lawful : IsLawful run) (extends : Extends run.plan steps cell) where
  same_back : (t r : ℕ) → t ≤ run.plan.steps → r < run.plan.robots → run.plan.cell t r ≡ cell t r
  same_back t r small inside = sym (extends.same t r small inside)

  free_planned : (q : ℕ) → q < run.plan.robots → IsFree run q → IsFree (record run { plan = record run.plan { steps = steps; cell = cell } }) q
  free_planned q q_in free = record {
    stands = free.stands;
    turned = λ arrived turns p mate. free.turned arrived
        (turns_as (record run.plan { steps = steps; cell = cell }) run.plan.steps run.plan.cell run.plan.steps same_back (run.begun q) q (lawful.within q q_in) q_in turns) p
        (mate_as (record run.plan { steps = steps; cell = cell }) run.plan.steps run.plan.cell run.plan.steps same_back (run.begun q) q p (lawful.within q q_in) q_in mate);
  }

  next_planned : (q u : ℕ) → q < run.plan.robots → IsNext run q u → IsNext (record run { plan = record run.plan { steps = steps; cell = cell } }) q u
  next_planned q u q_in next = record {
    planned = omega (arith, next.planned, extends.longer);
    moves = moves_as run.plan steps cell run.plan.steps extends.same q u next.planned q_in next.moves;
    begins = next.begins;
    first = λ s later earlier moves. next.first s later earlier
        (moves_as (record run.plan { steps = steps; cell = cell }) run.plan.steps run.plan.cell run.plan.steps same_back q s (omega (arith, next.planned, earlier)) q_in moves);
  }

  clear_planned : (s u q e : ℕ) → s < run.plan.robots → u ≤ run.plan.steps → ((p f : ℕ) → p < run.plan.robots → f ≤ u → Leaves run.plan p f (run.plan.cell u s) → HasEnded run p f)
      → q < run.plan.robots → e ≤ u → Leaves (record run.plan { steps = steps; cell = cell }) q e (cell u s) → HasEnded (record run { plan = record run.plan { steps = steps; cell = cell } }) q e
  clear_planned s u q e s_in small clear q_in early leaves =
      let then_leaves : Leaves run.plan q e (cell u s) = leaves_as (record run.plan { steps = steps; cell = cell }) run.plan.steps run.plan.cell run.plan.steps same_back q e (cell u s) (omega arith) q_in leaves in
      ended_planned run steps cell extends q e (omega arith) q_in (clear q e q_in early (subst (λ (x : ℕ). Leaves run.plan q e x) (extends.same u s small s_in) then_leaves))

  mate_then : (s u q : ℕ) → s < run.plan.robots → u ≤ run.plan.steps → IsMate (record run.plan { steps = steps; cell = cell }) u s q → IsMate run.plan u s q
  mate_then s u q s_in small mate = mate_as (record run.plan { steps = steps; cell = cell }) run.plan.steps run.plan.cell run.plan.steps same_back u s q small s_in mate

  pub ready_planned : (s u : ℕ) → s < run.plan.robots → MayBegin run s u → MayBegin (record run { plan = record run.plan { steps = steps; cell = cell } }) s u
  ready_planned s u s_in may = elim may [
    | inl alone ↦ inl (record {
      free = free_planned s s_in alone.free;
      next = next_planned s u s_in alone.next;
      clear = λ q e q_in early leaves. clear_planned s u q e s_in alone.next.planned alone.clear q_in early leaves;
    })
    | inr turn ↦ (
        let small : u ≤ run.plan.steps = (turn.next s (record { count = 0; leads = refl })).planned in
        inr (record {
          turns = turns_as run.plan steps cell run.plan.steps extends.same u s small s_in turn.turns;
          free = λ q mate. (let was = mate_then s u q s_in small mate in free_planned q (leads_inside run.plan u was.count s q s_in was.leads) (turn.free q was));
          next = λ q mate. (let was = mate_then s u q s_in small mate in next_planned q u (leads_inside run.plan u was.count s q s_in was.leads) (turn.next q was));
        }))
  ]
