-- What is read of a table is what its lines say.
use Rattle.std.proofs.Common.{◌≡◌, ℕ, zero, suc, ◌+◌, ◌-◌, ◌⊎◌, inl, inr, Bool, true, false, List, [], ◌∷◌, ◌++◌, length, Option, Some, None, Result, Ok, Err, refl, sym, ap, subst}
use Rattle.std.specs.Prelude.{◌&&◌, if◌then◌else◌, nat_lt, slice_get}
use Rattle.std.specs.Option.{option_and_then}
use Rattle.std.proofs.lemmas.Option.{same_Some}
use Rattle.std.proofs.lemmas.List.{length_push}
use Rattle.fleet_map.specs.Text.{number_of}
use Rattle.fleet_plans.specs.declared.limit.TheConstants.{MOST_PLAN_BYTES}
use Rattle.fleet_plans.specs.Form.{is_header}
use Rattle.fleet_plans.specs.Places.{is_number}
use Rattle.fleet_plans.specs.Scenario.{cell_of}
use Rattle.fleet_plans.specs.Table.{Fields, Trails, fields_of, no_trails, with_cell, with_robot, with_numbers, with_fields, with_row, trails_of, table_of, paths_of}
use Rattle.fleet_plans.specs.Grammar.{HasAt, Puts, IsPut, AgreesWith, IsTable}
use Rattle.fleet_plans.proofs.Grammar.{went_on}

-- ---- items of a list with one more

got : (xs : List ℕ) (x k c : ℕ) → slice_get (xs ++ x ∷ []) k ≡ Some c → (slice_get xs k ≡ Some c) ⊎ ((k ≡ length xs) × (c ≡ x))
got [] x zero c is = inr (refl, sym (same_Some x c is))
got [] x (suc k) c is = absurd cc
got (y ∷ ys) x zero c is = inl is
got (y ∷ ys) x (suc k) c is = elim (got ys x k c is) [ inl was ↦ inl was | inr p ↦ inr (ap suc p.0, p.1) ]

kept_item : (xs : List ℕ) (x k c : ℕ) → slice_get xs k ≡ Some c → slice_get (xs ++ x ∷ []) k ≡ Some c
kept_item [] x k c is = absurd cc
kept_item (y ∷ ys) x zero c is = is
kept_item (y ∷ ys) x (suc k) c is = kept_item ys x k c is

last_item : (xs : List ℕ) (x : ℕ) → slice_get (xs ++ x ∷ []) (length xs) ≡ Some x
last_item [] x = refl
last_item (y ∷ ys) x = last_item ys x

-- ---- one more cell of a path

record AreAdded (old new : List (List ℕ)) (r t c : ℕ) : Type 0 where
  kept : (q s x : ℕ) → HasAt old q s x → HasAt new q s x
  here : HasAt new r t c
  only : (q s x : ℕ) → HasAt new q s x → HasAt old q s x ⊎ ((q ≡ r) × (s ≡ t) × (x ≡ c))

-- a path before them leaves it so
path_before : (p : List ℕ) (old new : List (List ℕ)) (r t c : ℕ) → AreAdded old new r t c → AreAdded (p ∷ old) (p ∷ new) (suc r) t c
path_before p old new r t c is = record { kept = kept; here = is.here; only = only }
  where
    kept : (q s x : ℕ) → HasAt (p ∷ old) q s x → HasAt (p ∷ new) q s x
    kept zero s x has = has
    kept (suc q) s x has = is.kept q s x has

    only : (q s x : ℕ) → HasAt (p ∷ new) q s x → HasAt (p ∷ old) q s x ⊎ ((q ≡ suc r) × (s ≡ t) × (x ≡ c))
    only zero s x has = inl has
    only (suc q) s x has = elim (is.only q s x has) [ inl was ↦ inl was | inr e ↦ inr (ap suc e.0, e.1, e.2) ]

longer : (path : List ℕ) (c : ℕ) → AreAdded (path ∷ []) ((path ++ c ∷ []) ∷ []) 0 (length path) c
longer path c = record { kept = kept; here = last_item path c; only = only }
  where
    kept : (q s x : ℕ) → HasAt (path ∷ []) q s x → HasAt ((path ++ c ∷ []) ∷ []) q s x
    kept zero s x has = kept_item path c s x has
    kept (suc q) s x has = absurd cc

    only : (q s x : ℕ) → HasAt ((path ++ c ∷ []) ∷ []) q s x → HasAt (path ∷ []) q s x ⊎ ((q ≡ 0) × (s ≡ length path) × (x ≡ c))
    only zero s x has = elim (got path c s x has) [ inl was ↦ inl was | inr e ↦ inr (refl, e.0, e.1) ]
    only (suc q) s x has = absurd cc

cell_added : (whole : List (List ℕ)) (path : List ℕ) (c : ℕ) → AreAdded (whole ++ path ∷ []) (whole ++ (path ++ c ∷ []) ∷ []) (length whole) (length path) c
cell_added [] path c = longer path c
cell_added (p ∷ ps) path c = path_before p (ps ++ path ∷ []) (ps ++ (path ++ c ∷ []) ∷ []) (length ps) (length path) c (cell_added ps path c)

first_added : (c : ℕ) → AreAdded [] ((c ∷ []) ∷ []) 0 0 c
first_added c = record { kept = λ q s x has. absurd cc; here = refl; only = only }
  where
    only : (q s x : ℕ) → HasAt ((c ∷ []) ∷ []) q s x → HasAt [] q s x ⊎ ((q ≡ 0) × (s ≡ 0) × (x ≡ c))
    only zero zero x has = inr (refl, refl, sym (same_Some c x has))
    only zero (suc s) x has = absurd cc
    only (suc q) s x has = absurd cc

path_added : (paths : List (List ℕ)) (c : ℕ) → AreAdded paths (paths ++ (c ∷ []) ∷ []) (length paths) 0 c
path_added [] c = first_added c
path_added (p ∷ ps) c = path_before p ps (ps ++ (c ∷ []) ∷ []) (length ps) 0 c (path_added ps c)

-- ---- one more line

some_if : (b : Bool) (x y : Trails) → (if b then Some x else None) ≡ Some y → x ≡ y
some_if true x y is = same_Some x y is
some_if false x y is = absurd cc

abbrev read : Trails → Result Trails ℕ
read t = Ok t

read_if : (b : Bool) (n : ℕ) (x y : Trails) → (if b then read x else Err n) ≡ Ok y → x ≡ y
read_if true n x y is = cc
read_if false n x y is = absurd cc

module _ (w h : ℕ) where
  abbrev Adds : List ℕ → List (List ℕ) → List (List ℕ) → Type 0
  Adds line old new = (r : ℕ) × (s : ℕ) × (c : ℕ) × Puts w h line r s c × AreAdded old new r s c

  module _ (t u : Trails) (line : List ℕ) (f : Fields) (are : fields_of line ≡ Some f) (cell : ℕ) (there : cell_of w h f.column f.row ≡ Some cell) where
    a_cell : is_number (length t.whole) (number_of f.agent) ≡ true → is_number (length t.path) (number_of f.time) ≡ true → with_cell t cell ≡ Some u → Adds line (paths_of t) (paths_of u)
    a_cell numbered timed is =
        let new : Trails = record { whole = t.whole; path = t.path ++ cell ∷ [] } in
        let same = some_if (nat_lt (length t.path) MOST_PLAN_BYTES) new u is in
        let added = cell_added t.whole t.path cell in (
          length t.whole,
          length t.path,
          cell,
          record { words = f; are = are; numbered = numbered; timed = timed; there = there },
          subst (λ (x : Trails). AreAdded (paths_of t) (paths_of x) (length t.whole) (length t.path) cell) same added,
        )

    a_robot : is_number (length t.whole + 1) (number_of f.agent) ≡ true → is_number 0 (number_of f.time) ≡ true → with_robot t cell ≡ Some u → Adds line (paths_of t) (paths_of u)
    a_robot numbered timed is =
        let new : Trails = record { whole = t.whole ++ t.path ∷ []; path = cell ∷ [] } in
        let same = some_if (nat_lt 0 (length t.path) && nat_lt (length t.whole) (MOST_PLAN_BYTES - 1)) new u is in
        let count : length (t.whole ++ t.path ∷ []) ≡ length t.whole + 1 = length_push t.whole t.path in
        let added = path_added (t.whole ++ t.path ∷ []) cell in (
          length t.whole + 1,
          0,
          cell,
          record { words = f; are = are; numbered = numbered; timed = timed; there = there },
          subst (λ (n : ℕ). AreAdded (paths_of t) (paths_of u) n 0 cell) count (subst (λ (x : Trails). AreAdded (paths_of t) (paths_of x) (length (t.whole ++ t.path ∷ [])) 0 cell) same added),
        )

    by_numbers : (a b c d : Bool) → is_number (length t.whole) (number_of f.agent) ≡ a → is_number (length t.path) (number_of f.time) ≡ b → is_number (length t.whole + 1) (number_of f.agent) ≡ c → is_number 0 (number_of f.time) ≡ d
        → (if a && b then with_cell t cell else if c && d then with_robot t cell else None) ≡ Some u → Adds line (paths_of t) (paths_of u)
    by_numbers true true c d pa pb pc pd is = a_cell pa pb is
    by_numbers true false true true pa pb pc pd is = a_robot pc pd is
    by_numbers true false true false pa pb pc pd is = absurd cc
    by_numbers true false false d pa pb pc pd is = absurd cc
    by_numbers false b true true pa pb pc pd is = a_robot pc pd is
    by_numbers false b true false pa pb pc pd is = absurd cc
    by_numbers false b false d pa pb pc pd is = absurd cc

  row_adds : (t : Trails) (line : List ℕ) (u : Trails) → with_row w h t line ≡ Some u → Adds line (paths_of t) (paths_of u)
  row_adds t line u is = by (fields_of line) refl is
    where
      by_cell : (f : Fields) → fields_of line ≡ Some f → (o : Option ℕ) → cell_of w h f.column f.row ≡ o → option_and_then (with_numbers t (number_of f.agent) (number_of f.time)) o ≡ Some u → Adds line (paths_of t) (paths_of u)
      by_cell f are None there it = absurd cc
      by_cell f are (Some cell) there it =
          by_numbers t u line f are cell there (is_number (length t.whole) (number_of f.agent)) (is_number (length t.path) (number_of f.time)) (is_number (length t.whole + 1) (number_of f.agent)) (is_number 0 (number_of f.time)) refl refl refl refl it

      by : (o : Option Fields) → fields_of line ≡ o → option_and_then (with_fields w h t) o ≡ Some u → Adds line (paths_of t) (paths_of u)
      by None are it = absurd cc
      by (Some f) are it = by_cell f are (cell_of w h f.column f.row) refl it

  -- ---- all lines

  record AreRead (lines old new : List (List ℕ)) : Type 0 where
    kept : (q s x : ℕ) → HasAt old q s x → HasAt new q s x
    each : (k : ℕ) (line : List ℕ) → slice_get lines k ≡ Some line → AgreesWith w h new line
    all : (q s x : ℕ) → HasAt new q s x → HasAt old q s x ⊎ IsPut w h lines q s x

  none_read : (paths : List (List ℕ)) → AreRead [] paths paths
  none_read paths = record { kept = λ q s x has. has; each = λ k line at. absurd cc; all = λ q s x has. inl has }

  line_read : (line : List ℕ) (lines old mid new : List (List ℕ)) → Adds line old mid → AreRead lines mid new → AreRead (line ∷ lines) old new
  line_read line lines old mid new (r, t, c, puts, added) rest = record { kept = λ q s x has. rest.kept q s x (added.kept q s x has); each = each; all = all }
    where
      each : (k : ℕ) (l : List ℕ) → slice_get (line ∷ lines) k ≡ Some l → AgreesWith w h new l
      each zero l at = subst (λ (x : List ℕ). AgreesWith w h new x) (same_Some line l at) (record { robot = r; time = t; cell = c; puts = puts; has = rest.kept r t c added.here })
      each (suc k) l at = rest.each k l at

      here : (q s x : ℕ) → q ≡ r → s ≡ t → x ≡ c → Puts w h line q s x
      here q s x a b e =
          subst (λ (y : ℕ). Puts w h line y s x) (sym a) (subst (λ (y : ℕ). Puts w h line r y x) (sym b) (subst (λ (y : ℕ). Puts w h line r t y) (sym e) puts))

      all : (q s x : ℕ) → HasAt new q s x → HasAt old q s x ⊎ IsPut w h (line ∷ lines) q s x
      all q s x has = elim (rest.all q s x has) [
        | inl more ↦ elim (added.only q s x more) [ inl was ↦ inl was | inr e ↦ inr (record { at = 0; line = line; is = refl; puts = here q s x e.0 e.1 e.2 }) ]
        | inr put ↦ inr (record { at = suc put.at; line = put.line; is = put.is; puts = put.puts })
      ]

  trails_read : (t : Trails) (n : ℕ) (lines : List (List ℕ)) (u : Trails) → trails_of w h t n lines ≡ Ok u → AreRead lines (paths_of t) (paths_of u)
  unfolding trails_of
  trails_read t n [] u is =
      subst (λ (x : Trails). AreRead [] (paths_of t) (paths_of x)) (read_if (nat_lt 0 (length t.path)) n t u is) (none_read (paths_of t))
  trails_read t n (line ∷ lines) u is =
      let (more, taken, rest) = went_on n (with_row w h t line) (λ more. trails_of w h more (n + 1) lines) u is in
      line_read line lines (paths_of t) (paths_of more) (paths_of u) (row_adds t line more taken) (trails_read more (n + 1) lines u rest)

  nothing : (q s x : ℕ) → HasAt ([] ∷ []) q s x → ⊥
  nothing zero s x has = cc
  nothing (suc q) s x has = cc

  pub is-table : (lines : List (List ℕ)) (t : Trails) → table_of w h lines ≡ Ok t → IsTable w h lines (paths_of t)
  is-table [] t is = absurd cc
  is-table (first ∷ cells) t is = by (is_header first) refl is
    where
      so : is_header first ≡ true → AreRead cells ([] ∷ []) (paths_of t) → IsTable w h (first ∷ cells) (paths_of t)
      so headed all = record {
        first = first;
        cells = cells;
        parts = refl;
        headed = headed;
        each = all.each;
        all = λ q s x has. elim (all.all q s x has) [ inl none ↦ absurd (nothing q s x none) | inr put ↦ put ];
      }

      by : (b : Bool) → is_header first ≡ b → (if b then trails_of w h no_trails 2 cells else Err 1) ≡ Ok t → IsTable w h (first ∷ cells) (paths_of t)
      by true headed it = so headed (trails_read no_trails 2 cells t it)
      by false headed it = absurd cc
