-- Tables most of whose entries are empty.
use Rattle.std.proofs.Common.{Bool, zero, suc, map, replicate, ◌≡◌, ◌≢◌, ℕ, ◌+◌, ◌<◌, ◌≤◌, inl, inr, Option, Some, None, List, [], ◌∷◌, length, get_or, slice_index, slice_set, sym, subst, refl, ap, ◌∙◌, arith}
use Rattle.std.proofs.lemmas.Bool.{cases_eq, cases_lt}
use Rattle.std.proofs.lemmas.List.{get_or-set_same, get_or-set_other, get_or_past, map-set}
use Rattle.std.proofs.Math.ListN.{length-set, set}
use Rattle.fleet_pibt.specs.inside.Plan.{Distinct}
use Rattle.std.proofs.lemmas.Bool.Decides.{eqb_tells}
use Rattle.fleet_pibt.specs.inside.Entry.{entry_beside, entry_by, table, IsEmpty}
use Rattle.fleet_pibt.specs.inside.Setting.{Setting, robots, IsStanding, NamesAll, IsPlanned}
use Rattle.fleet_pibt.specs.inside.Tables.{IsPlaced, IsTaken, IsMatched}
use Rattle.fleet_pibt.proofs.Reserve.{none_or_some}

pub table-inside : (xs : List (Option ℕ)) (k v : ℕ) → table xs k ≡ Some v → k < length xs
table-inside xs k v e = elim (cases_lt k (length xs)) [ inl l ↦ l | inr m ↦ absurd (cc (e, get_or_past xs k None m)) ]

pub table-cleared : (xs : List (Option ℕ)) (i k v : ℕ) → table (slice_set xs i None) k ≡ Some v → (k ≢ i) × (table xs k ≡ Some v)
table-cleared xs i k v e =
    let ne : k ≢ i = λ (p : k ≡ i).
    (elim (cases_lt i (length xs)) [
      | inl l ↦ cc (get_or-set_same xs i None None l, ap (λ (x : ℕ). get_or (slice_set xs i None) x None) p)
      | inr m ↦ cc (get_or_past (slice_set xs i None) k None (omega (arith, length-set xs i None)))
    ]) in
    (ne, cc (get_or-set_other xs i k None None ne))

cleared-empty : (xs : List (Option ℕ)) (i : ℕ) → IsEmpty xs → IsEmpty (slice_set xs i None)
cleared-empty xs i empty c = elim (none_or_some (table (slice_set xs i None) c)) [
  | inl none ↦ none
  | inr some ↦ (let was = table-cleared xs i c some.0 some.1 in absurd (cc (empty c, was.1)))
]

-- an empty table in which an entry is emptied
pub cleared-next : (xs ys : List (Option ℕ)) (i long : ℕ) → length xs ≡ long → IsEmpty xs → ys ≡ slice_set xs i None → (length ys ≡ long) × IsEmpty ys
cleared-next xs ys i long l empty is = (ap length is ∙ length-set xs i None ∙ l, rw is (cleared-empty xs i empty))

module _ (from : List ℕ) (distinct : Distinct (length from) (slice_index from)) (standing : List (Option ℕ)) (k : ℕ) (l : k < length from) (inside : slice_index from k < length standing) (placed : IsPlaced from standing k) where
  place-stands : (c r : ℕ) → table (slice_set standing (slice_index from k) (Some k)) c ≡ Some r → (r < k + 1) × (slice_index from r ≡ c)
  place-stands c r e = elim (cases_eq c (slice_index from k)) [
    | inl q ↦ (let same : k ≡ r = cc (get_or-set_same standing (slice_index from k) (Some k) None inside) in
        (omega arith, cc (ap (slice_index from) same)))
    | inr q ↦ (let old = placed.stands c r (cc (get_or-set_other standing (slice_index from k) c (Some k) None q)) in (omega arith, old.1))
  ]

  place-placed : (r : ℕ) → r < k + 1 → table (slice_set standing (slice_index from k) (Some k)) (slice_index from r) ≡ Some r
  place-placed r m = elim (cases_eq r k) [
    | inl q ↦ subst (λ (x : ℕ). table (slice_set standing (slice_index from k) (Some k)) (slice_index from x) ≡ Some x) (sym q) (get_or-set_same standing (slice_index from k) (Some k) None inside)
    | inr q ↦ (
        let ne : slice_index from r ≢ slice_index from k = λ (p : slice_index from r ≡ slice_index from k). q (distinct r k (omega arith) l p) in
        get_or-set_other standing (slice_index from k) (slice_index from r) (Some k) None ne ∙ placed.placed r (omega arith))
  ]

  pub place-more : IsPlaced from (slice_set standing (slice_index from k) (Some k)) (k + 1)
  place-more = record { stands = place-stands; placed = place-placed }

-- the robots from `k` on stand in the table
abbrev pub Rests : List ℕ → List (Option ℕ) → ℕ → Type 0
Rests from standing k = (c r : ℕ) → table standing c ≡ Some r → (k ≤ r) × (r < length from) × (slice_index from r ≡ c)

pub lift-more : (from : List ℕ) (standing : List (Option ℕ)) (k : ℕ) → Rests from standing k → Rests from (slice_set standing (slice_index from k) None) (k + 1)
lift-more from standing k rests c r e =
    let old = table-cleared standing (slice_index from k) c r e in
    let it = rests c r old.1 in
    let ne : r ≢ k = λ (p : r ≡ k). old.0 (cc (it.2, ap (slice_index from) p)) in
    (omega arith, it.1, it.2)

pub lift-done : (from : List ℕ) (standing : List (Option ℕ)) (k : ℕ) → length from ≤ k → Rests from standing k → IsEmpty standing
lift-done from standing k l rests c = elim (none_or_some (table standing c)) [
  | inl none ↦ none
  | inr some ↦ (let it = rests c some.0 some.1 in absurd (omega (arith, it.0, it.1)))
]

-- the first `k` robots are off the board, and written out
pub record IsSettled (target0 holder0 target holder : List (Option ℕ)) (to : List ℕ) (k : ℕ) : Type 0 where
  pub targets : length target ≡ length target0
  pub holders : length holder ≡ length holder0
  pub taken : IsTaken target0 to k
  pub done : (r : ℕ) → r < k → table target r ≡ None
  pub rest : (r : ℕ) → k ≤ r → table target r ≡ table target0 r
  pub held : (c r : ℕ) → table holder c ≡ Some r → (k ≤ r) × (table holder0 c ≡ Some r)

module _ (target0 holder0 target holder : List (Option ℕ)) (to : List ℕ) (k v : ℕ) (matched : IsMatched target0 holder0) (settled : IsSettled target0 holder0 target holder to k) where
  pub settle-inside : (c : ℕ) → table target k ≡ Some c → c < length holder
  settle-inside c e =
      let old : table target0 k ≡ Some c = cc (settled.rest k (omega arith)) in
      let at = table-inside holder0 c k (matched.held k c old) in
      omega (arith, at, settled.holders)

  module _ (l : k < length to) (is : table target k ≡ Some v) where
    settle-taken : IsTaken target0 (slice_set to k v) (k + 1)
    settle-taken r c m e = elim (cases_eq r k) [
      | inl q ↦ (
          let a : table target0 k ≡ Some c = cc (ap (table target0) q) in
          let same : v ≡ c = cc (settled.rest k (omega arith)) in
          cc (get_or-set_same to k v 0 l))
      | inr q ↦ get_or-set_other to k r v 0 q ∙ settled.taken r c (omega arith) e
    ]

    settle-done : (r : ℕ) → r < k + 1 → table (slice_set target k None) r ≡ None
    settle-done r m = elim (cases_eq r k) [
      | inl q ↦ subst (λ (x : ℕ). table (slice_set target k None) x ≡ None) (sym q) (get_or-set_same target k None None (table-inside target k v is))
      | inr q ↦ get_or-set_other target k r None None q ∙ settled.done r (omega arith)
    ]

    settle-held : (c r : ℕ) → table (slice_set holder v None) c ≡ Some r → (k + 1 ≤ r) × (table holder0 c ≡ Some r)
    settle-held c r e =
        let old = table-cleared holder v c r e in
        let it = settled.held c r old.1 in
        let ne : r ≢ k = λ (p : r ≡ k).
        (let a : table target0 r ≡ Some c = matched.kept c r it.1 in
        let b : table target0 k ≡ Some v = cc (settled.rest k (omega arith)) in
        old.0 (cc (ap (table target0) p))) in
        (omega arith, it.1)

    pub settle-more : IsSettled target0 holder0 (slice_set target k None) (slice_set holder v None) (slice_set to k v) (k + 1)
    settle-more = record {
      targets = length-set target k None ∙ settled.targets;
      holders = length-set holder v None ∙ settled.holders;
      taken = settle-taken;
      done = settle-done;
      rest = λ r m. get_or-set_other target k r None None (λ (p : r ≡ k). omega arith) ∙ settled.rest r (omega arith);
      held = settle-held;
    }

pub settle-start : (target holder : List (Option ℕ)) (to : List ℕ) → IsSettled target holder target holder to 0
settle-start target holder to = record { targets = refl; holders = refl; taken = λ r c m. absurd (omega arith); done = λ r m. absurd (omega arith); rest = λ r m. refl; held = λ c r e. (omega arith, e) }

pub settle-empty : (target0 holder0 target holder : List (Option ℕ)) (to : List ℕ) (k : ℕ) → IsMatched target0 holder0 → length target0 ≤ k → IsSettled target0 holder0 target holder to k → IsEmpty target × IsEmpty holder
settle-empty target0 holder0 target holder to k matched l settled = (
  λ r. elim (cases_lt r k) [ inl m ↦ settled.done r m | inr m ↦ get_or_past target r None (omega (arith, settled.targets)) ],
  λ c. elim (none_or_some (table holder c)) [
    | inl none ↦ none
    | inr some ↦ (let it = settled.held c some.0 some.1 in
        let a = table-inside target0 some.0 c (matched.kept c some.0 it.1) in absurd (omega (arith, it.0, a)))
  ],
)

pub standing-from : (s : Setting) (standing : List (Option ℕ)) → length standing ≡ length s.floor.letters → IsPlaced s.from standing (robots s) → IsStanding s standing
standing-from s standing l placed = record {
  all = l;
  stands = placed.stands;
  known = λ c none r m at. cc (placed.placed r m, none, at);
}

pub planned-decided : (s : Setting) (target0 holder0 target holder : List (Option ℕ)) (queue : List ℕ) → NamesAll s queue → IsPlanned s target0 holder0 target holder queue (length queue) → (r : ℕ) → r < robots s → table target r ≢ None
planned-decided s target0 holder0 target holder queue names planned r l none =
    let j = names.all r l in
    planned.decided j.0 j.1 (cc (none, ap (table target) j.2))

-- a number that is entered can be read, and nothing where the empty entry is written
pub entry-some : (nothing n : ℕ) → n < nothing → entry_beside nothing n ≡ Some n
entry-some nothing n l = elim (eqb_tells n nothing) [ inl p ↦ absurd (omega (arith, p.1)) | inr p ↦ ap (λ (b : Bool). entry_by b n) p.0 ]

-- one more robot is entered
pub place-none : (from : List ℕ) (standing : List (Option ℕ)) → IsEmpty standing → IsPlaced from standing 0
place-none from standing empty = record { stands = λ c r at. absurd (cc (at, empty c)); placed = λ r less. absurd (omega (arith, less)) }

pub place-next : (from : List ℕ) (standing standing' standing0 : List (Option ℕ)) (k : ℕ) → Distinct (length from) (slice_index from) → k < length from → slice_index from k < length standing0 → length standing ≡ length standing0 →
    IsPlaced from standing k → standing' ≡ slice_set standing (slice_index from k) (Some k) → (length standing' ≡ length standing0) × IsPlaced from standing' (k + 1)
place-next from standing standing' standing0 k distinct l inside same placed e =
    rw e (length-set standing (slice_index from k) (Some k) ∙ same, place-more from distinct standing k l (omega arith) placed)

-- one robot less stands there
pub lift-next : (from : List ℕ) (standing standing' standing0 : List (Option ℕ)) (k : ℕ) → length standing ≡ length standing0 → Rests from standing k → standing' ≡ slice_set standing (slice_index from k) None →
    (length standing' ≡ length standing0) × Rests from standing' (k + 1)
lift-next from standing standing' standing0 k same rests e = rw e (length-set standing (slice_index from k) None ∙ same, lift-more from standing k rests)

pub entry-none : (nothing : ℕ) → entry_beside nothing nothing ≡ None
entry-none nothing = elim (eqb_tells nothing nothing) [ inl p ↦ ap (λ (b : Bool). entry_by b nothing) p.0 | inr p ↦ absurd (p.1 refl) ]

-- a new table is empty
module _ {X : Type 0} (read : X → Option ℕ) (x : X) (none : read x ≡ None) where
  blank-at : (n k : ℕ) → table (map read (replicate n x)) k ≡ None
  blank-at zero k = refl
  blank-at (suc n) zero = none
  blank-at (suc n) (suc k) = blank-at n k

  blank-length : (n : ℕ) → length (map read (replicate n x)) ≡ n
  blank-length zero = refl
  blank-length (suc n) = ap suc (blank-length n)

  pub blank-empty : (n : ℕ) (xs : List X) → xs ≡ replicate n x → (length (map read xs) ≡ n) × IsEmpty (map read xs)
  blank-empty n xs e = rw e (blank-length n, blank-at n)

-- an entry is written, of which this is read
pub read-written : {X : Type 0} (read : X → Option ℕ) (xs : List X) (k : ℕ) (y : X) (o : Option ℕ) (ys : List (Option ℕ)) → read y ≡ o → map read xs ≡ ys → map read (set xs k y) ≡ set ys k o
read-written read xs k y o ys is same = map-set read xs k y ∙ ap (λ (p : Option ℕ). set (map read xs) k p) is ∙ ap (λ (zs : List (Option ℕ)). set zs k o) same

read-kept-from : {X : Type 0} (read : X → Option ℕ) (xs : List X) (k : ℕ) (x y : X) → x ≡ get_or xs k x → read y ≡ read x → map read (set xs k y) ≡ map read xs
read-kept-from read [] k x y e same = refl
read-kept-from read (z ∷ xs) zero x y e same = ap (λ (o : Option ℕ). o ∷ map read xs) (same ∙ ap read e)
read-kept-from read (z ∷ xs) (suc k) x y e same = ap (λ (os : List (Option ℕ)). read z ∷ os) (read-kept-from read xs k x y e same)

-- an entry is written where what is read of it stays
pub read-kept : {X : Type 0} (read : X → Option ℕ) (xs : List X) (k : ℕ) (x y : X) (ys : List (Option ℕ)) → x ≡ get_or xs k x → read y ≡ read x → map read xs ≡ ys → map read (set xs k y) ≡ ys
read-kept read xs k x y ys e same is = read-kept-from read xs k x y e same ∙ is
