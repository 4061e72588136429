-- What keeps a run lawful.
use Rattle.std.proofs.Common.{◌≡◌, ◌≢◌, ℕ, ◌+◌, ◌-◌, ◌<◌, ◌≤◌, inl, inr, sym, ◌∙◌, subst, refl, arith}
use Rattle.std.proofs.lemmas.Bool.{cases_eq, cases_lt}
use Rattle.execution_law.specs.declared.clearance.Clearance.{Clearance}
use Rattle.execution_law.specs.Run.{Plan, Run, IsConflictFree, Moves, Leaves, Follows, IsMate, Turns}
use Rattle.execution_law.specs.Rule.{HasEnded, IsFree, IsNext, MayBeginAlone, MayTurn, IsLawful}
use Rattle.execution_law.specs.Change.{opened, Extends, BeginsWith, Begins, Reports}
use Rattle.execution_law.proofs.Cycles.{turns_on, leads_inside, mate_of_mate, mate_turns, before_it, moves_as, leaves_as, mate_as, turns_as}
use Rattle.execution_law.proofs.Visits.{at_step, stays, entered_between, ended-begun}

pub ended_still : (run : Run) (b c : ℕ → ℕ) (q e : ℕ) → run.begun q ≤ b q → run.reached q ≤ c q → HasEnded run q e → HasEnded (record run { begun = b; reached = c }) q e
ended_still run b c q e more further ended = elim ended [
  | inl there ↦ inl (omega (arith, there, further))
  | inr both ↦ inr (omega (arith, both.0, more), both.1)
]

-- a stay on the cell from which robot p turns, before that turn
ended_before_turn : (run : Run) (t r p q e : ℕ) → IsLawful run → p < run.plan.robots → IsFree run p → IsNext run p t → Follows run.plan t r p
    → q < run.plan.robots → e < t → Leaves run.plan q e (run.plan.cell t r) → HasEnded run q e
ended_before_turn run t r p q e lawful p_in free next follows q_in early leaves = elim (cases_eq q p) [
  | inl same ↦ own same
  | inr other ↦ others other
]
  where
    own : q ≡ p → HasEnded run q e
    own same =
        let moves : Moves run.plan p e = subst (λ (x : ℕ). Moves run.plan x e) same leaves.moves in
        elim (cases_lt (run.begun p) e) [
          | inl later ↦ absurd (next.first e later early moves)
          | inr begun ↦ subst (λ (x : ℕ). HasEnded run x e) (sym same) (inl (omega (arith, begun, free.stands)))
        ]

    on : (k : ℕ) → run.begun p ≤ k → k < t → run.plan.cell k p ≡ run.plan.cell t r
    on k from before = stays run p t k next from before ∙ follows.leaves.cell

    others : (q ≡ p → ⊥) → HasEnded run q e
    others other =
        let some : 0 < e = leaves.moves.later in
        let small : e - 1 ≤ run.plan.steps = omega (arith, next.planned) in
        elim (cases_lt (run.begun p) e) [
          | inl later ↦ absurd (other (lawful.free_of_conflicts.distinct (e - 1) q p small q_in p_in (leaves.cell ∙ sym (on (e - 1) (omega arith) (omega arith)))))
          | inr begun ↦ (
              let off : run.plan.cell (e - 1) p ≢ run.plan.cell t r = λ (same : run.plan.cell (e - 1) p ≡ run.plan.cell t r).
              other (lawful.free_of_conflicts.distinct (e - 1) q p small q_in p_in (leaves.cell ∙ sym same)) in
              let to : e - 1 + (run.begun p - (e - 1)) ≡ run.begun p = omega arith in
              let at : run.plan.cell (e - 1 + (run.begun p - (e - 1))) p ≡ run.plan.cell t r = at_step run p (e - 1 + (run.begun p - (e - 1))) (run.begun p) to ∙ on (run.begun p) (omega arith) next.begins in
              let enters = entered_between run p (run.plan.cell t r) (e - 1) (run.begun p - (e - 1)) off at in
              lawful.order p enters.step q e p_in (omega (arith, enters.until, to)) enters.moves q_in (omega (arith, enters.after, some))
              (subst (λ (x : ℕ). Leaves run.plan q e x) (sym enters.cell) leaves))
        ]

-- a robot that may begin alone turns in no cycle
pub alone_never_turns : (run : Run) (r t : ℕ) → IsLawful run → r < run.plan.robots → MayBeginAlone run r t → Turns run.plan t r → ⊥
alone_never_turns run r t lawful inside may turns =
    let before = before_it run.plan t r turns in
    let ended = may.clear before.robot t before.is.inside (omega arith) before.is.follows.leaves in
    let begun = ended-begun run before.robot t lawful before.is.inside ended in
    let with_it = turns_on run.plan t r before.robot lawful.free_of_conflicts may.next.planned before.is.inside turns before.is.follows in
    omega (arith, may.next.begins, lawful.together before.robot r t before.is.inside with_it.turns with_it.mate begun)

module _ (run : Run) (r t : ℕ) (b : ℕ → ℕ) (lawful : IsLawful run) (begins : Begins run r t b) where
  pub next_of : (q : ℕ) → BeginsWith run.plan t r q → IsNext run q t
  next_of q with_it = elim begins.may [
    | inl alone ↦ elim with_it [
      | inl same ↦ subst (λ (x : ℕ). IsNext run x t) (sym same) alone.next
      | inr turning ↦ absurd (alone_never_turns run r t lawful begins.inside alone turning.0)
    ]
    | inr turn ↦ elim with_it [
      | inl same ↦ subst (λ (x : ℕ). IsNext run x t) (sym same) (turn.next r (record { count = 0; leads = refl }))
      | inr turning ↦ turn.next q turning.1
    ]
  ]

  grows : (q : ℕ) → q < run.plan.robots → run.begun q ≤ b q
  grows q q_in = elim (begins.each q q_in) [
    | inl new ↦ omega (arith, new.1, (next_of q new.0).begins)
    | inr old ↦ omega (arith, old.1)
  ]

  pub still : (q e : ℕ) → q < run.plan.robots → HasEnded run q e → HasEnded (record run { begun = b }) q e
  still q e q_in ended = ended_still run b run.reached q e (grows q q_in) (omega arith) ended

  pub mate_of : (q : ℕ) → BeginsWith run.plan t r q → IsMate run.plan t r q
  mate_of q with_it = elim with_it [
    | inl same ↦ record { count = 0; leads = sym same }
    | inr turning ↦ turning.1
  ]

  -- a move that begins now is that of step t
  now : (s u : ℕ) → s < run.plan.robots → run.begun s < u → u ≤ b s → Moves run.plan s u → BeginsWith run.plan t r s × (u ≡ t)
  now s u s_in new begun moves = elim (begins.each s s_in) [
    | inl with_it ↦ (
      with_it.0,
      elim (cases_lt u t) [
        | inl less ↦ absurd ((next_of s with_it.0).first u new less moves)
        | inr at ↦ omega (arith, with_it.1)
      ],
    )
    | inr old ↦ absurd (omega (arith, old.1))
  ]

  turn_order : MayTurn run r t → (s q e : ℕ) → s < run.plan.robots → q < run.plan.robots → BeginsWith run.plan t r s → e ≤ t → Leaves run.plan q e (run.plan.cell t s) → HasEnded (record run { begun = b }) q e
  turn_order turn s q e s_in q_in with_it early leaves =
      let small = (turn.next s (mate_of s with_it)).planned in
      let s_turns = mate_turns run.plan t r s lawful.free_of_conflicts small turn.turns (mate_of s with_it) in
      let before = before_it run.plan t s s_turns in
      let p_mate = mate_of_mate run.plan t r s before.robot (mate_of s with_it) before.is.mate in
      elim (cases_lt e t) [
        | inl less ↦ still q e q_in (ended_before_turn run t s before.robot q e lawful before.is.inside (turn.free before.robot p_mate) (turn.next before.robot p_mate) before.is.follows q_in less leaves)
        | inr at ↦ (
            let last : e ≡ t = omega arith in
            let leaves_now : Leaves run.plan q t (run.plan.cell t s) = subst (λ (x : ℕ). Leaves run.plan q x (run.plan.cell t s)) last leaves in
            let one : before.robot ≡ q = lawful.free_of_conflicts.distinct (t - 1) before.robot q (omega (arith, small)) before.is.inside q_in (before.is.follows.leaves.cell ∙ sym leaves_now.cell) in
            let q_mate : IsMate run.plan t r q = subst (λ (x : ℕ). IsMate run.plan t r x) one p_mate in
            let q_turns = mate_turns run.plan t r q lawful.free_of_conflicts small turn.turns q_mate in
            elim (begins.each q q_in) [
              | inl new ↦ inr (omega (arith, new.1, last), inr (subst (λ (x : ℕ). Turns run.plan x q) (sym last) q_turns))
              | inr old ↦ absurd (old.0 (inr (turn.turns, q_mate)))
            ])
      ]

  order_now : (s q e : ℕ) → s < run.plan.robots → q < run.plan.robots → BeginsWith run.plan t r s → e ≤ t → Leaves run.plan q e (run.plan.cell t s) → HasEnded (record run { begun = b }) q e
  order_now s q e s_in q_in with_it early leaves = elim begins.may [
    | inl alone ↦ elim with_it [
      | inl same ↦ still q e q_in (alone.clear q e q_in early (subst (λ (x : ℕ). Leaves run.plan q e (run.plan.cell t x)) same leaves))
      | inr turning ↦ absurd (alone_never_turns run r t lawful begins.inside alone turning.0)
    ]
    | inr turn ↦ turn_order turn s q e s_in q_in with_it early leaves
  ]

  together_now : (s q : ℕ) → s < run.plan.robots → q < run.plan.robots → BeginsWith run.plan t r s → Turns run.plan t s → IsMate run.plan t s q → t ≤ b q
  together_now s q s_in q_in with_it turns mate = elim begins.may [
    | inl alone ↦ absurd (elim with_it [
      | inl same ↦ alone_never_turns run r t lawful begins.inside alone (subst (λ (x : ℕ). Turns run.plan t x) same turns)
      | inr turning ↦ alone_never_turns run r t lawful begins.inside alone turning.0
    ])
    | inr turn ↦ elim (begins.each q q_in) [
      | inl new ↦ omega (arith, new.1)
      | inr old ↦ absurd (old.0 (inr (turn.turns, mate_of_mate run.plan t r s q (mate_of s with_it) mate)))
    ]
  ]

  order_begun : (s u q e : ℕ) → s < run.plan.robots → u ≤ b s → Moves run.plan s u → q < run.plan.robots → e ≤ u → Leaves run.plan q e (run.plan.cell u s) → HasEnded (record run { begun = b }) q e
  order_begun s u q e s_in begun moves q_in early leaves = elim (cases_lt (run.begun s) u) [
    | inr old ↦ still q e q_in (lawful.order s u q e s_in old moves q_in early leaves)
    | inl new ↦ (
        let here = now s u s_in new begun moves in
        order_now s q e s_in q_in here.0 (omega (arith, here.1)) (subst (λ (x : ℕ). Leaves run.plan q e (run.plan.cell x s)) here.1 leaves))
  ]

  together_begun : (s q u : ℕ) → s < run.plan.robots → Turns run.plan u s → IsMate run.plan u s q → u ≤ b s → u ≤ b q
  together_begun s q u s_in turns mate begun =
      let q_in = leads_inside run.plan u mate.count s q s_in mate.leads in
      elim (cases_lt (run.begun s) u) [
        | inr old ↦ omega (arith, lawful.together s q u s_in turns mate old, grows q q_in)
        | inl new ↦ (
            let before = before_it run.plan u s turns in
            let here = now s u s_in new begun before.is.follows.enters in
            let all = together_now s q s_in q_in here.0 (subst (λ (x : ℕ). Turns run.plan x s) here.1 turns) (subst (λ (x : ℕ). IsMate run.plan x s q) here.1 mate) in
            omega (arith, all, here.1))
      ]

  pub begun_lawful : IsLawful (record run { begun = b })
  begun_lawful = record {
    free_of_conflicts = lawful.free_of_conflicts;
    within = λ q q_in. elim (begins.each q q_in) [
      | inl new ↦ omega (arith, new.1, (next_of q new.0).planned)
      | inr old ↦ omega (arith, old.1, lawful.within q q_in)
    ];
    behind = λ q q_in. omega (arith, lawful.behind q q_in, grows q q_in);
    moves = λ q q_in some. elim (begins.each q q_in) [
      | inl new ↦ subst (λ (x : ℕ). Moves run.plan q x) (sym new.1) (next_of q new.0).moves
      | inr old ↦ subst (λ (x : ℕ). Moves run.plan q x) (sym old.1) (lawful.moves q q_in (omega (arith, some, old.1)))
    ];
    order = order_begun;
    together = together_begun;
  }

pub further : (run : Run) (r : ℕ) (c : ℕ → ℕ) → Reports run r c → (q : ℕ) → q < run.plan.robots → run.reached q ≤ c q
further run r c reports q q_in = elim (cases_eq q r) [
  | inl same ↦ subst (λ (x : ℕ). run.reached x ≤ c x) (sym same) (omega (arith, reports.own, reports.under_way))
  | inr other ↦ omega (arith, reports.others q q_in other)
]

pub reported_lawful : (run : Run) (r : ℕ) (c : ℕ → ℕ) → IsLawful run → Reports run r c → IsLawful (record run { reached = c })
reported_lawful run r c lawful reports = record {
  free_of_conflicts = lawful.free_of_conflicts;
  within = lawful.within;
  behind = λ q q_in. elim (cases_eq q r) [
    | inl same ↦ subst (λ (x : ℕ). c x ≤ run.begun x) (sym same) (omega (arith, reports.own))
    | inr other ↦ omega (arith, reports.others q q_in other, lawful.behind q q_in)
  ];
  moves = lawful.moves;
  order = λ s u q e s_in begun moves q_in early leaves. ended_still run run.begun c q e (omega arith) (further run r c reports q q_in) (lawful.order s u q e s_in begun moves q_in early leaves);
  together = lawful.together;
}

pub opened_lawful : (clearance : Clearance) (plan : Plan) → IsConflictFree plan → IsLawful (opened clearance plan)
opened_lawful clearance plan free = record {
  free_of_conflicts = free;
  within = λ r r_in. omega arith;
  behind = λ r r_in. omega arith;
  moves = λ r r_in some. absurd (omega arith);
  order = λ r t q e r_in begun moves q_in early leaves. absurd (omega (arith, moves.later));
  together = λ r q t r_in turns mate begun. omega arith;
}

pub ended_planned : (run : Run) (steps : ℕ) (cell : ℕ → ℕ → ℕ) → Extends run.plan steps cell → (q e : ℕ) → e ≤ run.plan.steps → q < run.plan.robots → HasEnded run q e
    → HasEnded (record run { plan = record run.plan { steps = steps; cell = cell } }) q e
ended_planned run steps cell extends q e small q_in ended = elim ended [
  | inl there ↦ inl there
  | inr both ↦ inr (
    both.0,
    elim both.1 [
      | inl started ↦ inl started
      | inr turns ↦ inr (turns_as run.plan steps cell run.plan.steps extends.same e q small q_in turns)
    ],
  )
]

module _ (run : Run) (steps : ℕ) (cell : ℕ → ℕ → ℕ) (lawful : IsLawful run) (extends : Extends run.plan steps cell) (free : IsConflictFree (record run.plan { steps = steps; cell = cell })) where
  back : (t r : ℕ) → t ≤ run.plan.steps → r < run.plan.robots → run.plan.cell t r ≡ cell t r
  back t r small inside = sym (extends.same t r small inside)

  old_moves : (r t : ℕ) → t ≤ run.plan.steps → r < run.plan.robots → Moves (record run.plan { steps = steps; cell = cell }) r t → Moves run.plan r t
  old_moves r t small inside moves = moves_as (record run.plan { steps = steps; cell = cell }) run.plan.steps run.plan.cell run.plan.steps back r t small inside moves

  order_planned : (r t q e : ℕ) → r < run.plan.robots → t ≤ run.begun r → Moves (record run.plan { steps = steps; cell = cell }) r t → q < run.plan.robots → e ≤ t → Leaves (record run.plan { steps = steps; cell = cell }) q e (cell t r) → HasEnded (record run { plan = record run.plan { steps = steps; cell = cell } }) q e
  order_planned r t q e r_in begun moves q_in early leaves =
      let small : t ≤ run.plan.steps = omega (arith, lawful.within r r_in) in
      let old_leaves : Leaves run.plan q e (cell t r) = leaves_as (record run.plan { steps = steps; cell = cell }) run.plan.steps run.plan.cell run.plan.steps back q e (cell t r) (omega arith) q_in leaves in
      let ended = lawful.order r t q e r_in begun (old_moves r t small r_in moves) q_in early (subst (λ (x : ℕ). Leaves run.plan q e x) (extends.same t r small r_in) old_leaves) in
      ended_planned run steps cell extends q e (omega arith) q_in ended

  pub planned_lawful : IsLawful (record run { plan = record run.plan { steps = steps; cell = cell } })
  planned_lawful = record {
    free_of_conflicts = free;
    within = λ r r_in. omega (arith, lawful.within r r_in, extends.longer);
    behind = lawful.behind;
    moves = λ r r_in some. moves_as run.plan steps cell run.plan.steps extends.same r (run.begun r) (lawful.within r r_in) r_in (lawful.moves r r_in some);
    order = order_planned;
    together = λ r q t r_in turns mate begun.
        let small : t ≤ run.plan.steps = omega (arith, lawful.within r r_in) in
        lawful.together r q t r_in
        (turns_as (record run.plan { steps = steps; cell = cell }) run.plan.steps run.plan.cell run.plan.steps back t r small r_in turns)
        (mate_as (record run.plan { steps = steps; cell = cell }) run.plan.steps run.plan.cell run.plan.steps back t r q small r_in mate) begun;
  }
