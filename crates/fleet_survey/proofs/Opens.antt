-- Cells are marked one after another.
use Rattle.std.proofs.Common.{◌≡◌, ◌⊎◌, inl, inr, ◌∙◌, ℕ, ◌<◌, ◌+◌, Bool, true, false, List, [], ◌++◌, length, get_or, take, drop, refl, sym, ap, subst, arith, get_or-set_other, get_or-set_same}
use Rattle.std.specs.Prelude.{slice_index, slice_set}
use Rattle.std.proofs.Math.Seq.{take-append_seam}
use Rattle.std.proofs.lemmas.Bool.{cases_eq, cases_lt}
use Rattle.std.proofs.lemmas.List.{get_or_past, length-set}
use Rattle.std.proofs.lemmas.Option.{unwrap_or-slice_get}
use Rattle.fleet_grid.specs.Floor.{Floor}
use Rattle.fleet_roomy.specs.Unroomy.{has}
use Rattle.fleet_survey.specs.Mended.{AreMarked, IsAmong, IsOpened}
use Rattle.fleet_survey.specs.Pruned.{AreMarks, IsMapOf}

has_get : (xs : List Bool) (c : ℕ) → has xs c ≡ get_or xs c false
has_get xs c = unwrap_or-slice_get xs c false

pub opened_is : (m p : Floor) (none marks more : List Bool) (walls : List ℕ) → ((c : ℕ) → has none c ≡ false) → AreMarks m none marks → AreMarked walls (length walls) marks more → IsMapOf m more p → IsOpened m walls p
opened_is m p none marks more walls nobody are marked is = record {
  height = is.height;
  width = is.width;
  floor = λ c. (
    λ f. elim ((marked.marked c).0 ((is.floor c).0 f)) [
      | inl was ↦ inl ((are.marked c).0 was).0
      | inr it ↦ inr (it.0, omega (arith, it.1, are.size))
    ],
    λ f. (is.floor c).1 ((marked.marked c).1 (elim f [
      | inl floor ↦ inl ((are.marked c).1 (floor, nobody c))
      | inr it ↦ inr (it.0, omega (arith, it.1, are.size))
    ])),
  );
}

-- a list that is lent and written back whole
pub marked_back : (cells : List ℕ) (end len : ℕ) (items lent new seen : List Bool) → lent ≡ items → len ≡ length items → seen ≡ take len (new ++ drop (length new) items) → AreMarked cells end lent new → AreMarked cells end items seen
marked_back cells end len items lent new seen is whole back marked =
    let size : length new ≡ length items = marked.size ∙ ap length is in
    let all : take len (new ++ drop (length new) items) ≡ new = ap (λ (i : ℕ). take i (new ++ drop (length new) items)) (whole ∙ sym size) ∙ take-append_seam new (drop (length new) items) in
    subst (λ (xs : List Bool). AreMarked cells end items xs) (sym (back ∙ all)) (subst (λ (xs : List Bool). AreMarked cells end xs new) is marked)

pub none_has : (cells : List Bool) → cells ≡ [] → (c : ℕ) → has cells c ≡ false
none_has cells none c = has_get cells c ∙ (ap (λ (xs : List Bool). get_or xs c false) none ∙ get_or_past [] c false (omega arith))

pub marked_none : (cells : List ℕ) (marks : List Bool) → AreMarked cells 0 marks marks
marked_none cells marks = record { size = refl; marked = λ c. (λ is. inl is, λ is. elim is [ inl was ↦ was | inr it ↦ absurd (omega (arith, it.0.1)) ]) }

pub marked_next : (cells : List ℕ) (i : ℕ) (before now : List Bool) → AreMarked cells i before now → AreMarked cells (i + 1) before (slice_set now (slice_index cells i) true)
marked_next cells i before now known = record { size = length-set now x true ∙ known.size; marked = λ c. (marked c, back c) }
  where
    x : ℕ
    x = slice_index cells i

    off : (c : ℕ) → (c ≡ x → ⊥) → has (slice_set now x true) c ≡ has now c
    off c other = has_get (slice_set now x true) c ∙ (get_or-set_other now x c true false other ∙ sym (has_get now c))

    on : (c : ℕ) → c ≡ x → c < length before → has (slice_set now x true) c ≡ true
    on c same inside = has_get (slice_set now x true) c ∙ subst (λ (k : ℕ). get_or (slice_set now x true) k false ≡ true) (sym same) (get_or-set_same now x true false (omega (arith, same, inside, known.size)))

    inside_of : (marks : List Bool) (c : ℕ) → has marks c ≡ true → c < length marks
    inside_of marks c is = elim (cases_lt c (length marks)) [
      | inl less ↦ less
      | inr past ↦ absurd (let gone : false ≡ true = sym (get_or_past marks c false past) ∙ (sym (has_get marks c) ∙ is) in cc gone)
    ]

    wider : (c : ℕ) → IsAmong cells i c → IsAmong cells (i + 1) c
    wider c among = (among.0, omega (arith, among.1), among.2)

    marked : (c : ℕ) → has (slice_set now x true) c ≡ true → (has before c ≡ true) ⊎ (IsAmong cells (i + 1) c × (c < length before))
    marked c is = elim (cases_eq c x) [
      | inl same ↦ (let inside = inside_of (slice_set now x true) c is in inr ((i, omega arith, sym same), omega (arith, inside, length-set now x true, known.size)))
      | inr other ↦ elim ((known.marked c).0 (sym (off c other) ∙ is)) [
        | inl was ↦ inl was
        | inr it ↦ inr (wider c it.0, it.1)
      ]
    ]

    stays : (c : ℕ) → has now c ≡ true → c < length before → has (slice_set now x true) c ≡ true
    stays c is inside = elim (cases_eq c x) [
      | inl same ↦ on c same inside
      | inr other ↦ off c other ∙ is
    ]

    back : (c : ℕ) → (has before c ≡ true) ⊎ (IsAmong cells (i + 1) c × (c < length before)) → has (slice_set now x true) c ≡ true
    back c (inl was) = stays c ((known.marked c).1 (inl was)) (inside_of before c was)
    back c (inr it) = elim (cases_lt it.0.0 i) [
      | inl below ↦ stays c ((known.marked c).1 (inr ((it.0.0, below, it.0.2), it.1))) it.1
      | inr from ↦ (let e : it.0.0 ≡ i = omega (arith, from, it.0.1) in on c (sym it.0.2 ∙ subst (λ (k : ℕ). slice_index cells it.0.0 ≡ slice_index cells k) e refl) it.1)
    ]
