-- What a whole plan gives: a step that is conflict-free and purposeful, keeps out of the shut door, and in which the first
-- robot advances.
use Rattle.std.proofs.Common.{◌≡◌, ◌≢◌, ℕ, zero, suc, ◌<◌, ◌≤◌, ◌⊎◌, inl, inr, Option, Some, List, length, slice_index, slice_set, slice_get, unwrap_or, sym, subst, refl, ap, ◌∙◌, arith}
use Rattle.std.proofs.lemmas.Bool.{cases_eq}
use Rattle.fleet_grid.specs.Floor.{IsFloor, IsNeighbourIn}
use Rattle.fleet_grid.specs.Step.{IsConflictFree}
use Rattle.fleet_grid.specs.Walk.{IsDistance}
use Rattle.fleet_hooks.specs.declared.law.TieLaw.{TieLaw}
use Rattle.fleet_pibt.specs.Advancing.{Advances}
use Rattle.fleet_pibt.specs.Door.{IsFullWithDoor, HasWayWithDoor, IsPurposefulWithDoor, IsByLawWithDoor}
use Rattle.fleet_pibt.specs.inside.Entry.{table}
use Rattle.fleet_pibt.specs.Goals.{aim, IsNearer, AreGoals}
use Rattle.fleet_pibt.specs.inside.Plan.{Pulled, Tidy, Written}
use Rattle.fleet_pibt.specs.inside.Plan.Pulled.{nearer as pulled_nearer, taken as pulled_taken}
use Rattle.fleet_pibt.specs.Purposeful.{IsDrawn}
use Rattle.fleet_pibt.specs.Purposeful.IsDrawn.{nearer as drawn_nearer, taken as drawn_taken}
use Rattle.fleet_pibt.specs.inside.Setting.{Setting, robots, cell_of, adjacent, near, cost, IsScene, IsChoices, Refused, IsChosen, NamesAll}
use Rattle.fleet_pibt.specs.inside.Setting.Refused.{was_shut, pushed}
use Rattle.fleet_pibt.proofs.Reserve.{none_or_some}
use Rattle.fleet_pibt.proofs.Closed.{closed-apart, closed-full}
use Rattle.fleet_pibt.proofs.Planning.{Written-set, scene-distinct}
use Rattle.fleet_pibt.proofs.Distances.{adjacent-apart, distance-unique, distance-step, distance-ahead, distance-none, cost-own, cost-beside}

module _ (s : Setting) (scene : IsScene s) (waits : List (Option ℕ)) (are : AreGoals s.floor s.from waits s.goals s.distance) (queue to : List ℕ) (same : length to ≡ robots s) (names : NamesAll s queue) (chosen : IsChosen s queue to) where
  abbrev target : ℕ → Option ℕ
  target = table chosen.0

  abbrev holder : ℕ → Option ℕ
  holder = table chosen.1

  tidy : Tidy (near s) (robots s) (cell_of s) (cost s) target holder
  tidy = chosen.6.tidy

  goes : (r : ℕ) → r < robots s → target r ≡ Some (slice_index to r)
  goes = chosen.7

  pub passes : (r : ℕ) → r < robots s → (slice_index to r ≡ cell_of s r) ⊎ near s (cell_of s r) (slice_index to r)
  passes r l = tidy.legal r _ (goes r l)

  moves : (r : ℕ) → r < robots s → (slice_index to r ≡ cell_of s r) ⊎ adjacent s (cell_of s r) (slice_index to r)
  moves r l = elim (passes r l) [ inl e ↦ inl e | inr n ↦ inr n.0 ]

  apart : (i j : ℕ) → i < robots s → j < robots s → slice_index to i ≡ slice_index to j → i ≡ j
  apart i j li lj e =
      let a : holder (slice_index to i) ≡ Some i = tidy.held i _ (goes i li) in
      let b : holder (slice_index to j) ≡ Some j = tidy.held j _ (goes j lj) in
      cc (ap holder e)

  pub conflict-free : IsConflictFree s.floor s.from to
  conflict-free = record {
    same_length = same;
    on_floor = λ r l. elim (moves r l) [
      | inl e ↦ subst (λ (x : ℕ). IsFloor s.floor x) (sym e) (scene.placed.on_floor r l)
      | inr n ↦ n.1.to
    ];
    moves = moves;
    no_vertex_conflict = λ i j l m e. absurd (omega (arith, apart i j (omega arith) m e));
    no_swapping_conflict = λ i j l m e f. absurd (omega (arith, tidy.swapless i j (cc (goes i (omega arith))) (cc (goes j m))));
  }

  -- nearer by distance is nearer by cost, at a robot's own cell and next to it
  cost-is : (r c : ℕ) → r < robots s → (c ≡ cell_of s r) ⊎ adjacent s (cell_of s r) c → IsDistance (adjacent s) c (aim s.from s.goals r) (cost s r c)
  cost-is r c l at = elim at [
    | inl e ↦ subst (λ (x : ℕ). IsDistance (adjacent s) x (aim s.from s.goals r) (cost s r x)) (sym e) (cost-own s scene waits are r l)
    | inr n ↦ cost-beside s scene waits are r l c n
  ]

  cost-nearer : (r a b : ℕ) → r < robots s → (a ≡ cell_of s r) ⊎ adjacent s (cell_of s r) a → (b ≡ cell_of s r) ⊎ adjacent s (cell_of s r) b → IsNearer s.floor (aim s.from s.goals r) a b → cost s r a < cost s r b
  cost-nearer r a b l at bt it =
      let x = distance-unique (adjacent s) a (aim s.from s.goals r) _ _ it.near_is (cost-is r a l at) in
      let y = distance-unique (adjacent s) b (aim s.from s.goals r) _ _ it.far_is (cost-is r b l bt) in
      omega (arith, x, y, it.less)

  nearer-cost : (r a b : ℕ) → r < robots s → (a ≡ cell_of s r) ⊎ adjacent s (cell_of s r) a → (b ≡ cell_of s r) ⊎ adjacent s (cell_of s r) b → cost s r a < cost s r b → IsNearer s.floor (aim s.from s.goals r) a b
  nearer-cost r a b l at bt less = record { near = cost s r a; far = cost s r b; near_is = cost-is r a l at; far_is = cost-is r b l bt; less = less }

  drawn-from : {r : ℕ} → Pulled (cell_of s) (cost s) target r → IsDrawn s.floor s.goals s.from to r
  drawn-from (pulled_nearer r c e less) =
      let l : r < robots s = tidy.real r c e in
      let it : c ≡ slice_index to r = cc (goes r l) in
      let less' : cost s r (slice_index to r) < cost s r (cell_of s r) = subst (λ (x : ℕ). cost s r x < cost s r (cell_of s r)) it less in
      drawn_nearer r l (nearer-cost r (slice_index to r) (cell_of s r) l (moves r l) (inl refl) less')
  drawn-from (pulled_taken r j e ne p) =
      let lj : j < robots s = tidy.real j _ e in
      drawn_taken r j lj ne (cc (goes j lj)) (drawn-from p)

  pub purposeful : IsPurposefulWithDoor s.floor s.door s.goals s.from to
  purposeful = record {
    none_passed_over = λ r w l n closer free empty.
        (let less = cost-nearer r w (slice_index to r) l (inr n.0) (moves r l) closer in
        elim (none_or_some (holder w)) [
          | inl none ↦ tidy.keen r _ w (goes r l) n less free none
          | inr some ↦ (
              let a : target some.0 ≡ Some w = tidy.kept w some.0 some.1 in
              let la : some.0 < robots s = tidy.real some.0 w a in
              empty some.0 (omega arith) (cc (goes some.0 la)))
        ]);
    drawn = λ r l ne. drawn-from (tidy.pulled r _ (goes r l) ne);
  }

  -- the first of the queue
  module _ (some : 0 < length queue) where
    abbrev eldest : ℕ
    eldest = slice_index queue 0

    small : eldest < robots s
    small = names.known 0 some

    abbrev cells : List ℕ
    cells = (chosen.6.tried some).0

    choices : IsChoices s eldest cells
    choices = (chosen.6.tried some).1

    first : slice_index cells 0 ≡ cell_of s eldest ⊎ near s (cell_of s eldest) (slice_index cells 0)
    first = choices.each 0 (omega (arith, choices.five))

    -- its first choice was refused: a robot stands there and on each cell beyond
    refused : Refused s chosen.2 chosen.3 eldest (slice_index cells 0) → IsFullWithDoor s.floor s.door s.from (cell_of s eldest) (slice_index cells 0) × (slice_index cells 0 ≢ cell_of s eldest)
    refused r = go (slice_index cells 0) refl r
      where
        go : (c : ℕ) → slice_index cells 0 ≡ c → Refused s chosen.2 chosen.3 eldest c → IsFullWithDoor s.floor s.door s.from (cell_of s eldest) c × (c ≢ cell_of s eldest)
        go c is (was_shut shut) = let j = shut (chosen.5 c) in absurd (cc (j.1, chosen.4 j.0))
        go c is (pushed k t2 h2 stands failed) =
            let t1 : List (Option ℕ) = slice_set chosen.2 eldest (Some c) in
            let w : Written (table chosen.2) eldest (Some c) (table t1) = Written-set chosen.2 eldest (Some c) (omega (arith, small, chosen.6.was)) in
            let w' : Written (table chosen.2) eldest (Some (cell_of s k)) (table t1) = subst (λ (x : ℕ). Written (table chosen.2) eldest (Some x) (table t1)) (sym stands.1) w in
            let beyond : IsFullWithDoor s.floor s.door s.from (cell_of s eldest) (cell_of s k) = record {
              apart = closed-apart (near s) (robots s) (cell_of s) (cost s) (scene-distinct s scene) (table chosen.2) eldest k (table t1) (table (slice_set chosen.3 c (Some eldest))) (table t2) (table h2) chosen.4 small stands.0 w' failed;
              full = closed-full (near s) (robots s) (cell_of s) (cost s) (scene-distinct s scene) (table chosen.2) eldest k (table t1) (table (slice_set chosen.3 c (Some eldest))) (table t2) (table h2) chosen.4 small stands.0 w' failed;
            } in (
              subst (λ (x : ℕ). IsFullWithDoor s.floor s.door s.from (cell_of s eldest) x) stands.1 beyond,
              λ e.
                  let it : k ≡ eldest = scene-distinct s scene k eldest stands.0 small (cc (stands.1)) in
                  cc (failed.grown.keep eldest c w.at, failed.grown.idle, ap (table t2) it),
            )

    D : ℕ
    D = cost s eldest (cell_of s eldest)

    first-near : slice_index cells 0 ≢ cell_of s eldest → near s (cell_of s eldest) (slice_index cells 0)
    first-near ne = elim first [ inl e ↦ absurd (ne e) | inr n ↦ n ]

    -- it stands on its goal
    home-first : D ≡ 0 → slice_index cells 0 ≡ cell_of s eldest
    unfolding D
    home-first z = elim first [
      | inl e ↦ e
      | inr n ↦ (let j = choices.own_first 0 (omega (arith, choices.five)) (λ e. adjacent-apart s scene _ _ n.0 (sym e)) (omega arith) in absurd (omega (arith, j.1)))
    ]

    Way : Type 0
    Way = HasWayWithDoor s.floor s.door s.from (aim s.from s.goals eldest) (cell_of s eldest)

    -- its first choice is one step nearer
    away-first : Way → (d : ℕ) → D ≡ suc d → cost s eldest (slice_index cells 0) ≤ d
    unfolding D Way
    away-first way d e =
        let from_own : IsDistance (adjacent s) (cell_of s eldest) (aim s.from s.goals eldest) (suc d) = subst (λ (x : ℕ). IsDistance (adjacent s) (cell_of s eldest) (aim s.from s.goals eldest) x) e (cost-own s scene waits are eldest small) in
        let ahead = distance-ahead (adjacent s) (cell_of s eldest) (aim s.from s.goals eldest) d from_own in
        let w = way.passage ahead.0 ahead.1 (record { near = d; far = suc d; near_is = ahead.2; far_is = from_own; less = omega arith }) in
        let cw : cost s eldest w.0 < cost s eldest (cell_of s eldest) = cost-nearer eldest w.0 (cell_of s eldest) small (inr w.1.0) (inl refl) w.2 in
        let at = choices.all w.0 w.1 in
        elim (cases_eq at.0 0) [
          | inl z ↦ (let it : cost s eldest (slice_index cells 0) ≡ cost s eldest w.0 = ap (cost s eldest) (cc (at.2, ap (slice_index cells) z)) in omega arith)
          | inr more ↦ (
              let le = choices.sorted 0 at.0 (omega arith) at.1 in
              let it : cost s eldest (slice_index cells at.0) ≡ cost s eldest w.0 = ap (cost s eldest) at.2 in omega arith)
        ]

    away-moves : Way → (d : ℕ) → D ≡ suc d → slice_index cells 0 ≢ cell_of s eldest
    unfolding D
    away-moves way d e same = let it : cost s eldest (slice_index cells 0) ≡ cost s eldest (cell_of s eldest) = ap (cost s eldest) same in
        let le = away-first way d e in omega arith

    first-beside : (slice_index cells 0 ≡ cell_of s eldest) ⊎ adjacent s (cell_of s eldest) (slice_index cells 0)
    first-beside = elim first [ inl e ↦ inl e | inr n ↦ inr n.0 ]

    away-nearer : Way → (d : ℕ) → D ≡ suc d → IsNearer s.floor (aim s.from s.goals eldest) (slice_index cells 0) (cell_of s eldest)
    unfolding D
    away-nearer way d e = nearer-cost eldest _ _ small first-beside (inl refl) (let le = away-first way d e in omega arith)

    -- it has its first choice
    pub first-taken : HasWayWithDoor s.floor s.door s.from (aim s.from s.goals eldest) (cell_of s eldest) → slice_index to eldest ≡ slice_index cells 0
    unfolding Way
    first-taken way = elim ((chosen.6.tried some).2) [
      | inl e ↦ (cc (goes eldest small))
      | inr r ↦ (
          let it = refused r in
          absurd (go D refl it))
    ]
      where
        go : (d : ℕ) → D ≡ d → (IsFullWithDoor s.floor s.door s.from (cell_of s eldest) (slice_index cells 0) × (slice_index cells 0 ≢ cell_of s eldest)) → ⊥
        go zero e it = it.1 (home-first e)
        go (suc d) e it = way.free (slice_index cells 0) (first-near it.1) (away-nearer way d e) it.0

    pub advanced : HasWayWithDoor s.floor s.door s.from (aim s.from s.goals eldest) (cell_of s eldest) → Advances s.floor (aim s.from s.goals eldest) (cell_of s eldest) (slice_index to eldest)
    unfolding D Way
    advanced way = go D refl
      where
        at : slice_index to eldest ≡ slice_index cells 0
        at = first-taken way

        go : (d : ℕ) → D ≡ d → Advances s.floor (aim s.from s.goals eldest) (cell_of s eldest) (slice_index to eldest)
        go zero e = inr (distance-none (adjacent s) _ _ (subst (λ (x : ℕ). IsDistance (adjacent s) (cell_of s eldest) (aim s.from s.goals eldest) x) e (cost-own s scene waits are eldest small)), at ∙ home-first e)
        go (suc d) e =
            let ne = away-moves way d e in
            let n = (first-near ne).0 in
            let one = cost-beside s scene waits are eldest small (slice_index cells 0) n in
            let step = distance-step (adjacent s) (cell_of s eldest) (slice_index cells 0) (aim s.from s.goals eldest) _ _ n (cost-own s scene waits are eldest small) one in
            let le = away-first way d e in
            let is : cost s eldest (slice_index cells 0) ≡ d = omega arith in
            inl (
              d,
              subst (λ (x : ℕ). IsDistance (adjacent s) (cell_of s eldest) (aim s.from s.goals eldest) x) e (cost-own s scene waits are eldest small),
              subst (λ (x : ℕ). IsDistance (adjacent s) x (aim s.from s.goals eldest) d) (sym at) (subst (λ (x : ℕ). IsDistance (adjacent s) (slice_index cells 0) (aim s.from s.goals eldest) x) is one),
            )

    pub by-law : HasWayWithDoor s.floor s.door s.from (aim s.from s.goals eldest) (cell_of s eldest) → (law : TieLaw) → slice_get s.laws eldest ≡ Some law →
        IsByLawWithDoor s.floor s.door law (aim s.from s.goals eldest) (cell_of s eldest) (slice_index to eldest)
    by-law way law is d e b step closer other opens closer_b under =
        let at = first-taken way in
        let step' : IsNeighbourIn s.floor d (cell_of s eldest) (slice_index cells 0) = subst (λ (x : ℕ). IsNeighbourIn s.floor d (cell_of s eldest) x) at step in
        let n : adjacent s (cell_of s eldest) (slice_index cells 0) = (d, step') in
        let one = cost-beside s scene waits are eldest small (slice_index cells 0) n in
        let far = distance-step (adjacent s) (cell_of s eldest) (slice_index cells 0) (aim s.from s.goals eldest) _ _ n (cost-own s scene waits are eldest small) one in
        let less = cost-nearer eldest b (cell_of s eldest) small (inr (e, other)) (inl refl) closer_b in
        choices.tied law is d e b step' other opens (omega arith) under

-- the same at a robot that is known to be the first, and its goal
module _ (s : Setting) (scene : IsScene s) (waits : List (Option ℕ)) (are : AreGoals s.floor s.from waits s.goals s.distance) (queue to : List ℕ) (same : length to ≡ robots s) (names : NamesAll s queue) (chosen : IsChosen s queue to)
    (e g : ℕ) (first : (0 < length queue) × (slice_index queue 0 ≡ e)) (is : s.goals e ≡ Some g) where
  aim-is : aim s.from s.goals e ≡ g
  aim-is = ap (λ (o : Option ℕ). unwrap_or o (cell_of s e)) is

  pub advances-at : HasWayWithDoor s.floor s.door s.from g (cell_of s e) → Advances s.floor g (cell_of s e) (slice_index to e)
  advances-at =
      subst (λ (x : ℕ). HasWayWithDoor s.floor s.door s.from x (cell_of s e) → Advances s.floor x (cell_of s e) (slice_index to e)) aim-is
      (subst (λ (x : ℕ). HasWayWithDoor s.floor s.door s.from (aim s.from s.goals x) (cell_of s x) → Advances s.floor (aim s.from s.goals x) (cell_of s x) (slice_index to x)) first.1
      (advanced s scene waits are queue to same names chosen first.0))

  pub by-law-at : HasWayWithDoor s.floor s.door s.from g (cell_of s e) → (law : TieLaw) → slice_get s.laws e ≡ Some law → IsByLawWithDoor s.floor s.door law g (cell_of s e) (slice_index to e)
  by-law-at =
      subst (λ (x : ℕ). HasWayWithDoor s.floor s.door s.from x (cell_of s e) → (law : TieLaw) → slice_get s.laws e ≡ Some law → IsByLawWithDoor s.floor s.door law x (cell_of s e) (slice_index to e)) aim-is
      (subst (λ (x : ℕ). HasWayWithDoor s.floor s.door s.from (aim s.from s.goals x) (cell_of s x) → (law : TieLaw) → slice_get s.laws x ≡ Some law → IsByLawWithDoor s.floor s.door law (aim s.from s.goals x) (cell_of s x) (slice_index to x)) first.1
      (by-law s scene waits are queue to same names chosen first.0))
