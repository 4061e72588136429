-- A plan as it goes from robot to robot, over lists.
use Rattle.std.proofs.Common.{Bool, IsTrue, eqb, refl, ◌↔◌, ◌≡◌, ◌≢◌, ℕ, ◌+◌, ◌<◌, ◌≤◌, ◌*◌, ◌⊎◌, inl, inr, Option, Some, None, List, length, slice_index, slice_set, sym, subst, ap, ◌∙◌, arith}
use Rattle.std.proofs.Math.ListN.{set}
use Rattle.std.specs.Option.{option_eq}
use Rattle.std.proofs.lemmas.Bool.{cases_eq, cases_lt}
use Rattle.std.proofs.lemmas.Bool.Decides.{eqb_tells}
use Rattle.std.proofs.lemmas.List.{get_or-set_same, get_or-set_other}
use Rattle.std.proofs.lemmas.Nat.{mul-le}
use Rattle.fleet_pibt.specs.inside.Plan.{Written, Distinct}
use Rattle.fleet_grid.specs.Floor.{Floor, HasForm, IsFloor}
use Rattle.fleet_grid.proofs.Forms.{floor_inside}
use Rattle.fleet_pibt.proofs.Grow.{Grown-refl, Grown-trans, Shut-keep}
use Rattle.fleet_pibt.specs.inside.Entry.{table}
use Rattle.fleet_pibt.specs.inside.Setting.{Setting, robots, cell_of, near, cost, Stands, Unmoved, IsScene, IsStanding, IsReady, IsDone, HasFailed, HasGrown, IsShut, Refused, IsChoice, IsChoices, HasTried}
use Rattle.fleet_pibt.specs.inside.Setting.Refused.{was_shut}
use Rattle.fleet_pibt.proofs.Reserve.{none_or_some}

-- distinct robots stand on distinct cells
pub scene-distinct : (s : Setting) → IsScene s → Distinct (robots s) (cell_of s)
scene-distinct s scene a b la lb e = elim (cases_lt a b) [
  | inl less ↦ absurd (scene.placed.distinct a b less lb e)
  | inr more ↦ elim (cases_eq a b) [
    | inl same ↦ same
    | inr apart ↦ absurd (scene.placed.distinct b a (omega arith) la (sym e))
  ]
]

-- who stands on a cell, as a table tells that has stayed as it was
module _ (s : Setting) (old : List (Option ℕ)) (standing : IsStanding s old) (new : List (Option ℕ)) (same : new ≡ old) (cell : ℕ) where
  pub standing-some : (robot : ℕ) → Some robot ≡ table new cell → Stands s robot cell
  standing-some robot e = standing.stands cell robot (cc (e, same))

  pub standing-none : None ≡ table new cell → Unmoved s cell
  standing-none e = standing.known cell (cc (e, same))

-- whether an entry is that number
entry-tells : (o : Option ℕ) (n : ℕ) → IsTrue (option_eq eqb o (Some n)) ↔ (o ≡ Some n)
entry-tells None n = (λ e. absurd (cc (e)), λ e. absurd (cc (e)))
entry-tells (Some x) n = elim (eqb_tells x n) [
  | inl p ↦ (λ e. ap Some p.1, λ e. p.0)
  | inr p ↦ (λ e. absurd (cc (p.0, e)), λ e. absurd (p.1 (cc (e))))
]

pub stander_known : (s : Setting) (standing : List (Option ℕ)) (cell other : ℕ) → IsStanding s standing → Some other ≡ table standing cell → other < robots s
stander_known s standing cell other is at = (is.stands cell other (sym at)).0

-- whether the one who stands on a cell has decided on another's cell
pub meets_tells : (s : Setting) (standing target : List (Option ℕ)) (robot cell other own : ℕ) (o : Option ℕ) (b : Bool) → IsScene s → IsStanding s standing → Some other ≡ table standing cell →
    o ≡ table target other → own ≡ cell_of s robot → b ≡ option_eq eqb o (Some own) → IsTrue b ↔ ((k : ℕ) × Stands s k cell × (table target k ≡ Some (cell_of s robot)))
meets_tells s standing target robot cell other own o b scene is at got here tells =
    let stands : Stands s other cell = is.stands cell other (sym at) in (
      (λ yes. (other, stands, cc ((entry-tells o own).0 (sym tells ∙ yes), got, here))),
      (λ w.
          let same : w.0 ≡ other = scene-distinct s scene w.0 other w.1.0 stands.0 (w.1.1 ∙ sym stands.1) in
          let found : o ≡ Some own = cc (w.2, got, here, ap (table target) same) in
          tells ∙ (entry-tells o own).1 found),
    )

-- there are few cells
pub cells-few : (m : Floor) → HasForm m → length m.letters ≤ 1048576
cells-few m form = below m.height m.width form.low form.slim form.covered
  where
    below : (h w : ℕ) → h ≤ 1024 → w ≤ 1024 → length m.letters ≡ h * w → length m.letters ≤ 1048576
    below h w lh lw e = let p : h * w ≤ 1024 * 1024 = mul-le h w 1024 1024 lh lw in omega (arith, p)

pub Written-set : (xs : List (Option ℕ)) (i : ℕ) (v : Option ℕ) → i < length xs → Written (table xs) i v (table (slice_set xs i v))
Written-set xs i v l = record { at = get_or-set_same xs i v None l; off = λ x ne. get_or-set_other xs i x v None ne }

-- where a plan stands after `k` choices
pub record IsTrying (s : Setting) (target holder target' holder' : List (Option ℕ)) (robot : ℕ) (cells : List ℕ) (k : ℕ) : Type 0 where
  pub grown : HasGrown s target holder target' holder' robot
  pub targets : length target' ≡ length target
  pub holders : length holder' ≡ length holder
  pub tried : (j : ℕ) → j < k → IsShut s target' holder' robot (slice_index cells j)
  pub refused : 0 < k → Refused s target holder robot (slice_index cells 0)
  pub start : k ≡ 0 → (target' ≡ target) × (holder' ≡ holder)

-- before the first choice
pub trying-start : (s : Setting) (target holder : List (Option ℕ)) (robot : ℕ) (cells : List ℕ) → IsReady s target holder robot → IsTrying s target holder target holder robot cells 0
trying-start s target holder robot cells ready = record {
  grown = Grown-refl (near s) (robots s) (cell_of s) (cost s) robot (table target) (table holder) ready.tidy ready.edge ready.idle;
  targets = refl;
  holders = refl;
  tried = λ j less. absurd (omega (arith, less));
  refused = λ less. absurd (omega (arith, less));
  start = λ e. (refl, refl);
}

-- a cell that is shut is refused at once
pub refused-shut : (s : Setting) (target holder : List (Option ℕ)) (robot cell : ℕ) → IsReady s target holder robot → IsShut s target holder robot cell →
    HasGrown s target holder target holder robot × IsShut s target holder robot cell × Refused s target holder robot cell
refused-shut s target holder robot cell ready shut = (Grown-refl (near s) (robots s) (cell_of s) (cost s) robot (table target) (table holder) ready.tidy ready.edge ready.idle, shut, was_shut shut)

module _ (s : Setting) (scene : IsScene s) (target holder target' holder' : List (Option ℕ)) (robot : ℕ) (cells : List ℕ) (k : ℕ)
    (ready : IsReady s target holder robot) (choices : IsChoices s robot cells) (trying : IsTrying s target holder target' holder' robot cells k) where
  pub trying-ready : IsReady s target' holder' robot
  trying-ready = record {
    known = ready.known;
    targets = trying.targets ∙ ready.targets;
    holders = trying.holders ∙ ready.holders;
    tidy = trying.grown.tidy;
    edge = trying.grown.edge;
    idle = trying.grown.idle;
  }

  trying-own : (j : ℕ) → j < k → slice_index cells j ≡ cell_of s robot → table holder' (cell_of s robot) ≢ None
  trying-own j l e free =
      let same : table holder' (slice_index cells j) ≡ None = cc (ap (table holder') e) in
      let it = trying.tried j l same in
      cc (trying.grown.tidy.held it.0 _ it.1)

  trying-first : k < length cells → (w : ℕ) → near s (cell_of s robot) w → cost s robot w < cost s robot (slice_index cells k) → Unmoved s w → table holder' w ≢ None
  trying-first l w beside less unmoved free =
      let at = choices.all w beside in
      elim (cases_lt at.0 k) [
        | inl below ↦ (
            let same : table holder' (slice_index cells at.0) ≡ None = cc (ap (table holder') at.2) in
            let it = trying.tried at.0 below same in
            unmoved it.0 (trying.grown.tidy.real it.0 _ it.1) (cc (it.2, at.2)))
        | inr above ↦ elim (cases_eq at.0 k) [
          | inl same ↦ (let e : slice_index cells k ≡ w = cc (at.2, ap (slice_index cells) same) in
              let lt : cost s robot w < cost s robot w = subst (λ (x : ℕ). cost s robot w < cost s robot x) e less in omega arith)
          | inr ne ↦ (
              let le = choices.sorted k at.0 (omega arith) at.1 in
              let le' : cost s robot (slice_index cells k) ≤ cost s robot w = subst (λ (x : ℕ). cost s robot (slice_index cells k) ≤ cost s robot x) at.2 le in
              omega (arith, le', less))
        ]
      ]

  trying-drawn : k < length cells → slice_index cells k ≢ cell_of s robot → (cost s robot (slice_index cells k) < cost s robot (cell_of s robot)) ⊎ (table holder' (cell_of s robot) ≢ None)
  trying-drawn l ne = elim (cases_lt (cost s robot (slice_index cells k)) (cost s robot (cell_of s robot))) [
    | inl less ↦ inl less
    | inr more ↦ (let j = choices.own_first k l ne more in inr (trying-own j.0 j.1 j.2))
  ]

  pub trying-choice : k < length cells → IsChoice s target' holder' robot (slice_index cells k)
  trying-choice l = record { legal = choices.each k l; first = trying-first l; drawn = trying-drawn l }

  -- no choice is left
  trying-around : length cells ≤ k → (w : ℕ) → near s (cell_of s robot) w → IsShut s target' holder' robot w
  trying-around all w beside =
      let at = choices.all w beside in
      subst (λ (x : ℕ). IsShut s target' holder' robot x) at.2 (trying.tried at.0 (omega (arith, at.1)))

  trying-held : length cells ≤ k → table holder (cell_of s robot) ≢ None
  trying-held all free =
      let at = choices.own in
      elim (none_or_some (table holder' (cell_of s robot))) [
        | inl none ↦ trying-own at.0 (omega (arith, at.1)) at.2 none
        | inr some ↦ (
            let q : ℕ = some.0 in
            let a : table target' q ≡ Some (cell_of s robot) = trying.grown.tidy.kept _ q some.1 in
            elim (none_or_some (table target q)) [
              | inl none ↦ (
                  let e : cell_of s robot ≡ cell_of s q = trying.grown.stay q _ none a in
                  let same : q ≡ robot = scene-distinct s scene q robot (trying.grown.tidy.real q _ a) ready.known (sym e) in
                  cc (trying.grown.idle, ap (table target') same))
              | inr old ↦ (
                  let same : old.0 ≡ cell_of s robot = cc (trying.grown.keep q old.0 old.1) in
                  cc (ready.tidy.held q old.0 old.1, ap (table holder) same))
            ])
      ]

  pub trying-failed : length cells ≤ k → HasFailed s target holder target' holder' robot
  trying-failed all = record { grown = trying.grown; around = trying-around all; own = trying-held all }

pub choice-inside : (s : Setting) → IsScene s → (target holder : List (Option ℕ)) (robot cell : ℕ) → robot < robots s → IsChoice s target holder robot cell → cell < length s.floor.letters
choice-inside s scene target holder robot cell small choice = floor_inside s.floor cell
    (elim choice.legal [
      | inl own ↦ subst (λ (x : ℕ). IsFloor s.floor x) (sym own) (scene.placed.on_floor robot small)
      | inr beside ↦ beside.0.1.to
    ])

module _ (s : Setting) (target holder target' holder' : List (Option ℕ)) (robot : ℕ) (cells : List ℕ) (k : ℕ)
    (trying : IsTrying s target holder target' holder' robot cells k) (target'' holder'' : List (Option ℕ)) where
  first-refused : Refused s target' holder' robot (slice_index cells k) → Refused s target holder robot (slice_index cells 0)
  first-refused refused = elim (cases_eq k 0) [
    | inl zero_k ↦ (
        let same = trying.start zero_k in
        let a : Refused s target holder' robot (slice_index cells k) = subst (λ (x : List (Option ℕ)). Refused s x holder' robot (slice_index cells k)) same.0 refused in
        let b : Refused s target holder robot (slice_index cells k) = subst (λ (x : List (Option ℕ)). Refused s target x robot (slice_index cells k)) same.1 a in
        subst (λ (x : ℕ). Refused s target holder robot (slice_index cells x)) zero_k b)
    | inr some ↦ trying.refused (omega arith)
  ]

  pub trying-more : length target'' ≡ length target' → length holder'' ≡ length holder' →
      HasGrown s target' holder' target'' holder'' robot × IsShut s target'' holder'' robot (slice_index cells k) × Refused s target' holder' robot (slice_index cells k) →
      IsTrying s target holder target'' holder'' robot cells (k + 1)
  trying-more lt lh failed = record {
    grown = Grown-trans (near s) (robots s) (cell_of s) (cost s) robot (table target) (table holder) (table target') (table holder') (table target'') (table holder'') trying.grown failed.0;
    targets = lt ∙ trying.targets;
    holders = lh ∙ trying.holders;
    tried = λ j l. elim (cases_eq j k) [
      | inl e ↦ subst (λ (x : ℕ). IsShut s target'' holder'' robot (slice_index cells x)) (sym e) failed.1
      | inr ne ↦ Shut-keep (near s) (robots s) (cell_of s) (cost s) robot (table target) (table holder) (table target') (table holder') (table target'') (table holder'') trying.grown failed.0 (slice_index cells j) (trying.tried j (omega arith))
    ];
    refused = λ l. first-refused failed.2;
    start = λ e. absurd (omega arith);
  }

  pub trying-tried : IsChoices s robot cells → table target'' robot ≡ Some (slice_index cells k) → HasTried s target holder target'' robot
  trying-tried choices at = (
    cells,
    choices,
    elim (cases_eq k 0) [
      | inl e ↦ inl (cc (ap (slice_index cells) e))
      | inr ne ↦ inr (trying.refused (omega arith))
    ],
  )

  pub trying-done : IsDone s target' holder' target'' holder'' robot → IsDone s target holder target'' holder'' robot
  trying-done done = record {
    keep = λ r c e. done.keep r c (trying.grown.keep r c e);
    settled = done.settled;
    tidy = done.tidy;
    edge = done.edge;
  }
