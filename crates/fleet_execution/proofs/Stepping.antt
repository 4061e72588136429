-- Notes of a further step, as the state keeps them.
use Rattle.std.proofs.Common.{◌≡◌, ◌≢◌, ℕ, ◌+◌, ◌*◌, ◌%◌, ◌<◌, ◌≤◌, ◌⊎◌, inl, inr, List, Option, Some, None, length, get_or, set, refl, sym, ◌∙◌, ap, subst, arith, length-set, get_or-set_same, get_or-set_other}
use Rattle.std.proofs.lemmas.Bool.{cases_eq, cases_lt}
use Rattle.std.proofs.lemmas.Nat.{same_from_place, mul-add-lt}
use Rattle.std.proofs.lemmas.List.{get_or_past}
use Rattle.fleet_execution.specs.declared.robot.Leave.{Leave}
use Rattle.fleet_execution.specs.declared.robot.Planned.{Planned}
use Rattle.fleet_execution.specs.declared.state.State.{State}
use Rattle.fleet_execution.specs.Executes.{IsKept}
use Rattle.fleet_execution.specs.Stepped.{IsMover, AreLast, IsTold}
use Rattle.fleet_execution.specs.State.{desk_of, slot_of, blank, IsSized}
use Rattle.fleet_execution.proofs.Places.{one_place}

abbrev leave_at : ℕ → ℕ → Leave
leave_at r t = record { robot = r; step = t }

abbrev windowed : {A : Type 0} → State A → List Planned → State A
windowed y w = record y { window = w }

abbrev fresh : List ℕ → List (Option Leave) → ℕ → Planned
fresh to leaves i = record { to = get_or to i 0; after = get_or leaves (get_or to i 0) None; follower = None }

-- what the first n robots have in the new step
pub record AreCells {A : Type 0} (s0 s : State A) (to : List ℕ) (step n : ℕ) : Type 0 where
  pub rest : s ≡ record s0 { window = s.window }
  pub size : length s.window ≡ length s0.window
  pub now : (r : ℕ) → r < n → (desk_of s).window r step ≡ record { to = get_or to r 0; after = (desk_of s0).leave (get_or to r 0); follower = None }
  pub others : (r t : ℕ) → r < s0.count → t % s0.ahead ≢ step % s0.ahead → (desk_of s).window r t ≡ (desk_of s0).window r t

pub more_cells : {A : Type 0} (s0 s : State A) (to : List ℕ) (step i k : ℕ) (v : Planned) (w : List Planned) → AreCells s0 s to step i → i < s0.count
    → k ≡ slot_of s.ahead s.count i step → k < length s.window → w ≡ set s.window k v
    → v ≡ record { to = get_or to i 0; after = (desk_of s).leave (get_or to i 0); follower = None } → AreCells s0 (record s { window = w }) to step (i + 1)
more_cells {A} s0 s to step i k v w cells inside k_is k_in w_is v_is =
    let count : s.count ≡ s0.count = ap (λ (y : State A). y.count) cells.rest in
    let ahead : s.ahead ≡ s0.ahead = ap (λ (y : State A). y.ahead) cells.rest in
    let leaves : s.leaves ≡ s0.leaves = ap (λ (y : State A). y.leaves) cells.rest in
    record {
      rest = ap (λ (y : State A). windowed y w) cells.rest;
      size = ap length w_is ∙ (length-set s.window k v ∙ cells.size);
      now = λ r less. elim (cases_eq r i) [
        | inl same ↦ (
            let there : slot_of s.ahead s.count r step ≡ k = ap (λ (y : ℕ). slot_of s.ahead s.count y step) same ∙ sym k_is in
            let it : get_or w k blank ≡ v = ap (λ (y : List Planned). get_or y k blank) w_is ∙ get_or-set_same s.window k v blank k_in in
            ap (λ (y : ℕ). get_or w y blank) there ∙ (it ∙ (v_is ∙ (ap (λ (y : List (Option Leave)). fresh to y i) leaves ∙ ap (λ (y : ℕ). fresh to s0.leaves y) (sym same)))))
        | inr other ↦ (
            let apart : slot_of s.ahead s.count r step ≢ k = λ e. other (omega (arith, e, k_is)) in
            ap (λ (y : List Planned). get_or y (slot_of s.ahead s.count r step) blank) w_is ∙ (get_or-set_other s.window k (slot_of s.ahead s.count r step) v blank apart ∙ cells.now r (omega (arith, less, other))))
      ];
      others = λ r t r_in far. (
          let apart : slot_of s.ahead s.count r t ≢ k = λ e. far (
          let same = (same_from_place (t % s.ahead) r (step % s.ahead) i s.count (omega (arith, r_in, count)) (omega (arith, inside, count)) (e ∙ k_is)).0 in
          sym (ap (λ (y : ℕ). t % y) ahead) ∙ (same ∙ ap (λ (y : ℕ). step % y) ahead)) in
          ap (λ (y : List Planned). get_or y (slot_of s.ahead s.count r t) blank) w_is ∙ (get_or-set_other s.window k (slot_of s.ahead s.count r t) v blank apart ∙ cells.others r t r_in far));
    }

-- each that moves was told to the one that leaves its new cell last
pub record AreFollowed {A : Type 0} (s0 s : State A) (to : List ℕ) (n : ℕ) : Type 0 where
  pub rest : s ≡ record s0 { window = s.window }
  pub size : length s.window ≡ length s0.window
  pub cells : (r t : ℕ) → ((desk_of s).window r t).to ≡ ((desk_of s0).window r t).to
  pub after : (r t : ℕ) → ((desk_of s).window r t).after ≡ ((desk_of s0).window r t).after
  pub told : IsTold (desk_of s0) to n (desk_of s).window

-- a robot of which nothing has to be told
pub followed_on : {A : Type 0} (s0 s : State A) (to : List ℕ) (i : ℕ) → AreFollowed s0 s to i
    → ((v : Leave) → IsMover (desk_of s0) to i → (desk_of s0).leave (get_or to i 0) ≡ Some v → IsKept s0.ahead (s0.steps + 1) v.step → ⊥) → AreFollowed s0 s to (i + 1)
followed_on s0 s to i f none = record {
  rest = f.rest;
  size = f.size;
  cells = f.cells;
  after = f.after;
  told = record {
    told = λ p v less moves is kept. elim (cases_eq p i) [
      | inl same ↦ absurd (none v (subst (λ (y : ℕ). IsMover (desk_of s0) to y) same moves) (subst (λ (y : ℕ). (desk_of s0).leave (get_or to y 0) ≡ Some v) same is) kept)
      | inr other ↦ f.told.told p v (omega (arith, less, other)) moves is kept
    ];
    old = f.told.old;
  };
}

-- a robot that is told
module _ {A : Type 0} (s0 s t : State A) (to : List ℕ) (i : ℕ) (l : Leave) (sized : IsSized s0) (f : AreFollowed s0 s to i) (last : AreLast (desk_of s0) to) (inside : i < s0.count) (cell_in : get_or to i 0 < length s0.leaves)
    (moves : IsMover (desk_of s0) to i) (is : (desk_of s0).leave (get_or to i 0) ≡ Some l) (kept : IsKept s0.ahead (s0.steps + 1) l.step) (rest : t ≡ record s { window = t.window })
    (w_is : t.window ≡ set s.window (slot_of s.ahead s.count l.robot l.step) (record ((desk_of s).window l.robot l.step) { follower = Some i })) where
  count : s.count ≡ s0.count
  count = ap (λ (y : State A). y.count) f.rest

  ahead : s.ahead ≡ s0.ahead
  ahead = ap (λ (y : State A). y.ahead) f.rest

  known : (l.robot < s0.count) × (l.step ≤ s0.steps + 1) × (0 < l.step)
  known = last.known (get_or to i 0) l cell_in is

  read : (r u : ℕ) → (desk_of t).window r u ≡ get_or (set s.window (slot_of s.ahead s.count l.robot l.step) (record ((desk_of s).window l.robot l.step) { follower = Some i })) (slot_of s.ahead s.count r u) blank
  read r u =
      let t_count : t.count ≡ s.count = ap (λ (y : State A). y.count) rest in
      let t_ahead : t.ahead ≡ s.ahead = ap (λ (y : State A). y.ahead) rest in
      ap (λ (y : List Planned). get_or y (slot_of t.ahead t.count r u) blank) w_is
      ∙ ap (λ (y : ℕ). get_or (set s.window (slot_of s.ahead s.count l.robot l.step) (record ((desk_of s).window l.robot l.step) { follower = Some i })) y blank)
      (ap (λ (y : ℕ). slot_of y t.count r u) t_ahead ∙ ap (λ (y : ℕ). slot_of s.ahead y r u) t_count)

  place_in : slot_of s.ahead s.count l.robot l.step < length s.window
  place_in =
      let a : s.count * s.ahead ≡ s0.count * s0.ahead = ap (λ (y : ℕ). y * s.ahead) count ∙ ap (λ (y : ℕ). s0.count * y) ahead in
      let some : 0 < s.ahead = omega (arith, sized.some, ahead) in
      let row : l.step % s.ahead < s.ahead = omega (arith, some) in
      let column : l.robot < s.count = omega (arith, known.0, count) in
      omega (arith, mul-add-lt (l.step % s.ahead) s.count l.robot s.ahead row column, a, sized.window, f.size)

  hit : (r u : ℕ) → slot_of s.ahead s.count r u ≡ slot_of s.ahead s.count l.robot l.step → (desk_of t).window r u ≡ record ((desk_of s).window l.robot l.step) { follower = Some i }
  hit r u e = read r u ∙ (ap (λ (y : ℕ). get_or (set s.window (slot_of s.ahead s.count l.robot l.step) (record ((desk_of s).window l.robot l.step) { follower = Some i })) y blank) e
      ∙ get_or-set_same s.window (slot_of s.ahead s.count l.robot l.step) (record ((desk_of s).window l.robot l.step) { follower = Some i }) blank place_in)

  miss : (r u : ℕ) → slot_of s.ahead s.count r u ≢ slot_of s.ahead s.count l.robot l.step → (desk_of t).window r u ≡ (desk_of s).window r u
  miss r u other = read r u ∙ get_or-set_other s.window (slot_of s.ahead s.count l.robot l.step) (slot_of s.ahead s.count r u) (record ((desk_of s).window l.robot l.step) { follower = Some i }) blank other

  same_to : (r u : ℕ) → ((desk_of t).window r u).to ≡ ((desk_of s).window r u).to
  same_to r u = elim (cases_eq (slot_of s.ahead s.count r u) (slot_of s.ahead s.count l.robot l.step)) [
    | inl e ↦ ap (λ (y : Planned). y.to) (hit r u e) ∙ ap (λ (y : ℕ). (get_or s.window y blank).to) (sym e)
    | inr other ↦ ap (λ (y : Planned). y.to) (miss r u other)
  ]

  same_after : (r u : ℕ) → ((desk_of t).window r u).after ≡ ((desk_of s).window r u).after
  same_after r u = elim (cases_eq (slot_of s.ahead s.count r u) (slot_of s.ahead s.count l.robot l.step)) [
    | inl e ↦ ap (λ (y : Planned). y.after) (hit r u e) ∙ ap (λ (y : ℕ). (get_or s.window y blank).after) (sym e)
    | inr other ↦ ap (λ (y : Planned). y.after) (miss r u other)
  ]

  -- one place of kept steps is one robot and step
  one : (v : Leave) → v.robot < s0.count → IsKept s0.ahead (s0.steps + 1) v.step → slot_of s.ahead s.count v.robot v.step ≡ slot_of s.ahead s.count l.robot l.step → v ≡ l
  one v v_in v_kept e =
      let both = same_from_place (v.step % s.ahead) v.robot (l.step % s.ahead) l.robot s.count (omega (arith, v_in, count)) (omega (arith, known.0, count)) e in
      let place : v.step % s0.ahead ≡ l.step % s0.ahead = sym (ap (λ (y : ℕ). v.step % y) ahead) ∙ (both.0 ∙ ap (λ (y : ℕ). l.step % y) ahead) in
      let step = one_place s0.ahead (s0.steps + 1) v.step l.step v_kept kept place in
      ap (λ (y : ℕ). leave_at y v.step) both.1 ∙ ap (λ (y : ℕ). leave_at l.robot y) step

  some_same : (a b : Leave) → Some a ≡ Some b → a ≡ b
  some_same a b e = cc

  told_now : (p : ℕ) (v : Leave) → p < i + 1 → IsMover (desk_of s0) to p → (desk_of s0).leave (get_or to p 0) ≡ Some v → IsKept s0.ahead (s0.steps + 1) v.step → ((desk_of t).window v.robot v.step).follower ≡ Some p
  told_now p v less p_moves p_is v_kept = elim (cases_eq p i) [
    | inl same ↦ (
        let v_is : v ≡ l = some_same v l (sym p_is ∙ (ap (λ (y : ℕ). (desk_of s0).leave (get_or to y 0)) same ∙ is)) in
        ap (λ (y : Leave). ((desk_of t).window y.robot y.step).follower) v_is ∙ (ap (λ (y : Planned). y.follower) (hit l.robot l.step refl) ∙ ap (λ (y : ℕ). Some y) (sym same)))
    | inr other ↦ (
        let p_in : p < s0.count = omega (arith, less, inside) in
        let v_in = v_inside p v p_in p_moves p_is in
        elim (cases_eq (slot_of s.ahead s.count v.robot v.step) (slot_of s.ahead s.count l.robot l.step)) [
          | inl e ↦ absurd (other (last.apart p i l p_in inside p_moves moves (p_is ∙ ap (λ (y : Leave). Some y) (one v v_in v_kept e)) is))
          | inr apart ↦ ap (λ (y : Planned). y.follower) (miss v.robot v.step apart) ∙ f.told.told p v (omega (arith, less, other)) p_moves p_is v_kept
        ])
  ]
    where
      v_inside : (p : ℕ) (v : Leave) → p < s0.count → IsMover (desk_of s0) to p → (desk_of s0).leave (get_or to p 0) ≡ Some v → v.robot < s0.count
      v_inside p v p_in p_moves p_is = elim (cases_lt (get_or to p 0) (length s0.leaves)) [
        | inl cell ↦ (last.known (get_or to p 0) v cell p_is).0
        | inr past ↦ absurd (no_leave (get_or s0.leaves (get_or to p 0) None) v (get_or_past s0.leaves (get_or to p 0) None past) p_is)
      ]
        where
          no_leave : (o : Option Leave) (v : Leave) → o ≡ None → o ≡ Some v → ⊥
          no_leave o v none some = cc

  old_now : (q e : ℕ) → q < s0.count → IsKept s0.ahead (s0.steps + 1) e → (((desk_of t).window q e).follower ≡ ((desk_of s0).window q e).follower)
      ⊎ ((p : ℕ) × (p < s0.count) × IsMover (desk_of s0) to p × ((desk_of s0).leave (get_or to p 0) ≡ Some (record { robot = q; step = e })))
  old_now q e q_in e_kept = elim (cases_eq (slot_of s.ahead s.count q e) (slot_of s.ahead s.count l.robot l.step)) [
    | inl same ↦ inr (i, inside, moves, is ∙ ap (λ (y : Leave). Some y) (sym (one (leave_at q e) q_in e_kept same)))
    | inr apart ↦ elim (f.told.old q e q_in e_kept) [
      | inl was ↦ inl (ap (λ (y : Planned). y.follower) (miss q e apart) ∙ was)
      | inr told ↦ inr told
    ]
  ]

  pub followed_more : AreFollowed s0 t to (i + 1)
  followed_more = record {
    rest = rest ∙ ap (λ (y : State A). windowed y t.window) f.rest;
    size = ap length w_is ∙ (length-set s.window _ _ ∙ f.size);
    cells = λ r u. same_to r u ∙ f.cells r u;
    after = λ r u. same_after r u ∙ f.after r u;
    told = record { told = told_now; old = old_now };
  }

by_leave : (o : Option Leave) (P : Type 0) → (o ≡ None → P) → ((l : Leave) → o ≡ Some l → P) → P
by_leave None P none some = none refl
by_leave (Some l) P none some = some l refl

no_leave : (o : Option Leave) (l : Leave) → o ≡ None → o ≡ Some l → ⊥
no_leave o l none some = cc

some_leave : (o : Option Leave) (a b : Leave) → o ≡ Some a → o ≡ Some b → a ≡ b
some_leave o a b x y = cc

-- one more robot, as `follow` says
pub followed_step : {A : Type 0} (s0 s t : State A) (to : List ℕ) (i step : ℕ) → IsSized s0 → AreFollowed s0 s to i → AreLast (desk_of s0) to → i < s0.count → get_or to i 0 < length s0.leaves → step ≡ s0.steps + 1
    → t ≡ record s { window = t.window }
    → ((l : Leave) → IsMover (desk_of s) to i → (desk_of s).leave (get_or to i 0) ≡ Some l → step < l.step + s.ahead
    → t.window ≡ set s.window (slot_of s.ahead s.count l.robot l.step) (record ((desk_of s).window l.robot l.step) { follower = Some i }))
    → (((l : Leave) → IsMover (desk_of s) to i → (desk_of s).leave (get_or to i 0) ≡ Some l → step < l.step + s.ahead → ⊥) → t.window ≡ s.window)
    → AreFollowed s0 t to (i + 1)
followed_step {A} s0 s t to i step sized f last inside cell_in step_is rest told same =
    let ahead : s.ahead ≡ s0.ahead = ap (λ (y : State A). y.ahead) f.rest in
    let mover : IsMover (desk_of s) to i → IsMover (desk_of s0) to i = λ m e. m (e ∙ sym (ap (λ (y : State A). ((desk_of y).robot i).last) f.rest)) in
    let mover_back : IsMover (desk_of s0) to i → IsMover (desk_of s) to i = λ m e. m (e ∙ ap (λ (y : State A). ((desk_of y).robot i).last) f.rest) in
    let leaves : (desk_of s).leave (get_or to i 0) ≡ (desk_of s0).leave (get_or to i 0) = ap (λ (y : State A). (desk_of y).leave (get_or to i 0)) f.rest in
    let stays : ((l : Leave) → IsMover (desk_of s0) to i → (desk_of s0).leave (get_or to i 0) ≡ Some l → s0.steps + 1 < l.step + s0.ahead → ⊥) → AreFollowed s0 t to (i + 1) = λ none. (
    let w : t.window ≡ s.window = same (λ l m is late. none l (mover m) (sym leaves ∙ is) (omega (arith, late, step_is, ahead))) in
    let t_is : t ≡ s = rest ∙ ap (λ (ws : List Planned). windowed s ws) w in
    subst (λ (y : State A). AreFollowed s0 y to (i + 1)) (sym t_is) (followed_on s0 s to i f (λ l m is kept. none l m is kept.late))) in
    elim (cases_eq (get_or to i 0) ((desk_of s0).robot i).last) [
      | inl rests ↦ stays (λ l m is late. m rests)
      | inr moves ↦ by_leave ((desk_of s0).leave (get_or to i 0)) (AreFollowed s0 t to (i + 1))
          (λ nobody. stays (λ l m is late. no_leave ((desk_of s0).leave (get_or to i 0)) l nobody is))
          (λ l is. elim (cases_lt (s0.steps + 1) (l.step + s0.ahead)) [
            | inr past ↦ stays (λ v m v_is late. (
                let one = some_leave ((desk_of s0).leave (get_or to i 0)) v l v_is is in
                omega (arith, late, past, ap (λ (y : Leave). y.step) one)))
            | inl late ↦ (
                let known = last.known (get_or to i 0) l cell_in is in
                let kept : IsKept s0.ahead (s0.steps + 1) l.step = record { some = known.2; planned = known.1; late = late } in
                followed_more s0 s t to i l sized f last inside cell_in moves is kept rest (told l (mover_back moves) (leaves ∙ is) (omega (arith, late, step_is, ahead))))
          ])
    ]

pub sized_window : {A : Type 0} (s : State A) (w : List Planned) → IsSized s → length w ≡ length s.window → IsSized (record s { window = w })
sized_window s w z same = record { some = z.some; robots = z.robots; window = same ∙ z.window; unreached = z.unreached; ready = z.ready; marks = z.marks; small = z.small }
