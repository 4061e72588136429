-- In a tree whose cells have their parents' tops, and whose numbers are those of a walk through it, both ends of each edge have one top.
use Rattle.std.proofs.Common.{◌≡◌, ◌≢◌, ℕ, ◌<◌, ◌≤◌, ◌⊎◌, inl, inr, refl, sym, ap, ◌∙◌, arith}
use Rattle.std.specs.Prelude.{length, slice_index}
use Rattle.std.proofs.lemmas.Bool.{cases_eq, cases_lt}
use Rattle.fleet_grid.specs.Floor.{Floor, HasForm, IsFloor, IsNeighbour}
use Rattle.fleet_grid.proofs.Forms.{floor_inside}
use Rattle.fleet_bridge.specs.declared.tree.Tree.{Tree}
use Rattle.fleet_bridge.specs.inside.Tree.{IsFit, IsFitUp, IsTree, AreUnder}
use Rattle.fleet_bridge.specs.inside.Spanning.{IsFitUpIn}
use Rattle.fleet_bridge.specs.inside.Preorder.{IsWhole, IsListed, IsWalk, IsWalked}
use Rattle.fleet_bridge.proofs.Ranges.{within}
use Rattle.fleet_bridge.proofs.Rounds.{near_turn}

module _ (Near : ℕ → ℕ → Type 0) (Cell : ℕ → Type 0) (n count : ℕ) (up number end top far order : ℕ → ℕ)
    (turn : (x y : ℕ) → Near x y → Near y x) (cell : (x y : ℕ) → Near x y → Cell x) (inside : (x : ℕ) → Cell x → x < n)
    (fits : (x : ℕ) → x < n → IsFitUp Near up number end top x) (whole : (x : ℕ) → Cell x → IsWhole Near up number end far order count x)
    (listed : (k : ℕ) → k < count → IsListed Cell number order k) where
  -- an edge of the tree
  abbrev OnTree : ℕ → ℕ → Type 0
  OnTree x y = (Near x y) × ((up x ≡ y) ⊎ (up y ≡ x))

  turn_tree : (x y : ℕ) → OnTree x y → OnTree y x
  turn_tree x y e = (turn x y e.0, elim e.1 [ inl is ↦ inr is | inr is ↦ inl is ])

  cell_tree : (x y : ℕ) → OnTree x y → Cell x
  cell_tree x y e = cell x y e.0

  up_same : (x y : ℕ) → x < n → up x ≡ y → top x ≡ top y
  up_same x y small is = elim (cases_eq (up x) x) [ inl own ↦ ap top (sym own ∙ is) | inr ne ↦ (fits x small).same ne ∙ ap top is ]

  same_tree : (x y : ℕ) → OnTree x y → top x ≡ top y
  same_tree x y e = elim e.1 [ inl is ↦ up_same x y (inside x (cell x y e.0)) is | inr is ↦ sym (up_same y x (inside y (cell y x (turn x y e.0))) is) ]

  -- with these edges alone it is a tree as the ranges ask for
  tree : IsTree OnTree n up number end top
  tree x small =
      let fit = fits x small in
      record {
        edge = λ ne. (fit.edge ne, inl refl);
        rises = fit.rises;
        nests = fit.nests;
        some = fit.some;
        root = fit.root;
        same = λ d e. same_tree x d e;
      }

  whole_tree : (x : ℕ) → Cell x → IsWhole OnTree up number end far order count x
  whole_tree x in_x =
      let it = whole x in_x in
      record {
        here = it.here;
        last = it.last;
        child = it.child;
        next = it.next;
        held = λ d e. it.held d e.0;
        hands = it.hands;
      }

  -- of two ends of an edge off the tree one is in the range of the other
  same_top : (x y : ℕ) → Near x y → top x ≡ top y
  same_top x y near =
      let in_x = cell x y near in
      let in_y = cell y x (turn x y near) in
      elim (cases_eq (up x) y) [
        | inl is ↦ up_same x y (inside x in_x) is
        | inr not_up ↦ elim (cases_eq (up y) x) [
          | inl is ↦ sym (up_same y x (inside y in_y) is)
          | inr not_down ↦ (
              let one = (whole x in_x).held y near not_up not_down in
              let two = (whole y in_y).held x (turn x y near) not_down not_up in
              elim (cases_lt (number y) (number x)) [
                | inl less ↦ (within OnTree Cell n count up number end top far order turn_tree cell_tree inside tree whole_tree listed y x in_y in_x (omega (arith, less)) two.1).one_top
                | inr more ↦ sym ((within OnTree Cell n count up number end top far order turn_tree cell_tree inside tree whole_tree listed x y in_x in_y more one.1).one_top)
              ])
        ]
      ]

  pub fit_all : (x : ℕ) → x < n → IsFit Near up number end top x
  fit_all x small =
      let fit = fits x small in
      record {
        edge = fit.edge;
        rises = fit.rises;
        nests = fit.nests;
        some = fit.some;
        root = fit.root;
        same = λ d near. same_top x d near;
      }

-- of a map: what the checks of a tree show
pub walked : {A : Type 0} (m : Floor) (t : Tree A) → HasForm m → ((c : ℕ) → c < length m.letters → IsFitUpIn m t c) → IsWalk m t → AreUnder t.up.items (length m.letters) t.low.items → IsWalked m t
walked m t form fits walk under = record {
  spanning = record {
    form = form;
    fits = fit_all (IsNeighbour m) (IsFloor m) (length m.letters) (length t.order.items) (slice_index t.up.items) (slice_index t.number.items) (slice_index t.end.items) (slice_index t.top.items) (slice_index t.far.items) (slice_index t.order.items)
        (near_turn m) (λ x y e. e.1.from) (floor_inside m) fits walk.whole walk.listed;
    low = under;
  };
  walk = walk;
}
