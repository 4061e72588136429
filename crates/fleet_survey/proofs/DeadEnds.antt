-- Dead ends are found one after another.
use Rattle.std.proofs.Common.{◌≡◌, ◌∙◌, ◌↔◌, ◌⊎◌, inl, inr, ℕ, ◌+◌, ◌<◌, ◌≤◌, Bool, true, false, List, [], ◌∷◌, ◌++◌, length, get_or, Option, None, Some, sym, subst, arith}
use Rattle.std.specs.Prelude.{slice_index}
use Rattle.std.specs.List.{Any, Contains}
use Rattle.std.proofs.lemmas.Bool.{cases_Bool, cases_lt, false_from_ne_true}
use Rattle.std.proofs.lemmas.List.{get_or_default}
use Rattle.std.proofs.lemmas.List.Elements.{All-nil, All-push, Contains-append_left, Contains-push_cases}
use Rattle.std.proofs.lemmas.List.Quantifiers.{Any-push, all_pairs_push}
use Rattle.fleet_grid.specs.Floor.{Floor}
use Rattle.fleet_grid.specs.Walk.{Walks, AreJoined}
use Rattle.fleet_grid.proofs.Edges.{neighbour_back}
use Rattle.fleet_roomy.specs.Unroomy.{AreUnroomy, IsRoomyCell, IsUnroomyCell, has}
use Rattle.fleet_survey.specs.declared.ends.DeadEnd.{DeadEnd}
use Rattle.fleet_survey.specs.DeadEnds.{AreDeadEnds, HangsBy, HasCell, IsDeadEnd, IsFree, IsMarked, IsMouth}
use Rattle.fleet_survey.specs.Survey.{AreCells}
use Rattle.fleet_survey.specs.Taken.{AreAllTaken, AreFound, LeadsTo}

-- ---- lists

any_left : {X : Type 0} (P : X → Type 0) (xs ys : List X) → Any P xs → Any P (xs ++ ys)
any_left P xs ys (k, x, inside, at, p) = let c = Contains-append_left xs ys x (k, inside, at) in (c.0, x, c.1, c.2, p)

any_push_cases : {X : Type 0} (P : X → Type 0) (xs : List X) (y : X) → Any P (xs ++ y ∷ []) → Any P xs ⊎ P y
any_push_cases P xs y (k, x, inside, at, p) = elim (Contains-push_cases xs y x (k, inside, at)) [
  | inl c ↦ inl (c.0, x, c.1, c.2, p)
  | inr e ↦ inr (subst P (sym e) p)
]

-- ---- those that were found

pub none_found : (m : Floor) (marks left : List Bool) (ends : List DeadEnd) → left ≡ marks → ends ≡ [] → AreFound m marks left ends
none_found m marks left ends same none = subst (λ (xs : List Bool). AreFound m marks xs ends) (sym same) (subst (AreFound m marks marks) (sym none) (record {
  off = λ c is. (is, λ any. absurd (omega (arith, any.2)));
  found = λ c is off. absurd (let bad : true ≡ false = sym is ∙ off in cc bad);
  closed = λ a b near here there. there;
  each = All-nil (IsDeadEnd m (IsMarked marks) (IsFree m marks));
  apart = λ i j d less inside. absurd (omega (arith, inside));
}))

module _ (m : Floor) (marks left after : List Bool) (ends : List DeadEnd) (first : ℕ) (e : DeadEnd) (k : AreFound m marks left ends) (is : has left first ≡ true) (t : AreAllTaken m first left after e.cells.items) where
  -- walks over cells that are left go within the marks
  walk_marked : (a b : ℕ) (xs : List ℕ) → IsMarked marks a → Walks (LeadsTo m left) a xs b → Walks (HangsBy m (IsMarked marks)) a xs b
  walk_marked a b [] marked w = w
  walk_marked a b (x ∷ xs) marked w =
      let next = (k.off x w.0.1).0 in
      ((w.0.0, marked, next), walk_marked x b xs next w.1)

  -- walks within the marks stay within what was taken
  walk_taken : (a b : ℕ) (xs : List ℕ) → HasCell a e → Walks (HangsBy m (IsMarked marks)) a xs b → HasCell b e
  walk_taken a b [] there w = subst (λ (c : ℕ). HasCell c e) w there
  walk_taken a b (x ∷ xs) there w =
      let was = k.closed a x w.0.0 (t.taken.were a there).0 w.0.2 in
      walk_taken x b xs (t.taken.gone x was (t.closed a x there w.0.0)) w.1

  first_in : HasCell first e
  first_in = (0, (t.first_is is).0, get_first)
    where
      get_first : get_or e.cells.items 0 first ≡ first
      get_first = get_or_default e.cells.items 0 first 0 (t.first_is is).0 ∙ (t.first_is is).1

  pub end_is : IsMouth m (IsFree m marks) e.cells.items e.mouth → IsDeadEnd m (IsMarked marks) (IsFree m marks) e
  end_is mouth = record {
    some = (t.first_is is).0;
    cells = λ c. (
      λ there. (
          let was = t.taken.were c there in
          ((k.off c was.0).0, subst (λ (x : ℕ). AreJoined (HangsBy m (IsMarked marks)) x c) (sym (t.first_is is).1) (record { steps = was.1.steps; walk = walk_marked first c was.1.steps (k.off first is).0 was.1.walk }))),
      λ it. (let j = subst (λ (x : ℕ). AreJoined (HangsBy m (IsMarked marks)) x c) (t.first_is is).1 it.1 in walk_taken first c j.steps first_in j.walk),
    );
    once = t.taken.once;
    mouth = mouth;
  }

  pub end_found : IsMouth m (IsFree m marks) e.cells.items e.mouth → AreFound m marks after (ends ++ e ∷ [])
  end_found mouth = record {
    off = λ c here. (
        let was = t.taken.left_were c here in
        let it = k.off c was.0 in (
          it.0,
          λ any. elim (any_push_cases (HasCell c) ends e any) [
            | inl early ↦ it.1 early
            | inr now ↦ was.1 now
          ],
        ));
    found = λ c marked gone. elim (cases_Bool (has left c)) [
      | inl here ↦ Any-push (HasCell c) ends e (t.taken.gone c here gone)
      | inr off ↦ any_left (HasCell c) ends (e ∷ []) (k.found c marked off)
    ];
    closed = λ a b near here marked. elim (cases_Bool (has after b)) [
      | inl there ↦ there
      | inr gone ↦ absurd (
          let was = k.closed a b near (t.taken.left_were a here).0 marked in
          let off = t.closed b a (t.taken.gone b was gone) (neighbour_back m a b near) in
          let bad : true ≡ false = sym here ∙ off in
          cc bad)
    ];
    each = All-push (IsDeadEnd m (IsMarked marks) (IsFree m marks)) ends e k.each (end_is mouth);
    apart = all_pairs_push (λ d f. (c : ℕ) → HasCell c d → HasCell c f → ⊥) ends e k.apart
        (λ i d inside c one two. (k.off c (t.taken.were c two).0).1 (i, get_or ends i d, inside, get_or_default ends i (get_or ends i d) d inside, one));
  }

  pub first_gone : has after first ≡ false
  first_gone = false_from_ne_true (has after first) (λ here. (t.taken.left_were first here).1 first_in)

  pub gone_still : (c : ℕ) → has left c ≡ false → has after c ≡ false
  gone_still c off = false_from_ne_true (has after c) (λ here. let bad : true ≡ false = sym (t.taken.left_were c here).0 ∙ off in absurd (cc bad))

-- all cells of a list below a place are gone
abbrev pub AreGone : List Bool → List ℕ → ℕ → Type 0
AreGone left cells end = (i : ℕ) → i < end → has left (slice_index cells i) ≡ false

pub none_gone : (left : List Bool) (cells : List ℕ) → AreGone left cells 0
none_gone left cells i less = absurd (omega (arith, less))

pub one_gone : (left after : List Bool) (cells : List ℕ) (place : ℕ) → AreGone left cells place → ((c : ℕ) → has left c ≡ false → has after c ≡ false) → has after (slice_index cells place) ≡ false → AreGone after cells (place + 1)
one_gone left after cells place known still here i less = elim (cases_lt i place) [
  | inl early ↦ still (slice_index cells i) (known i early)
  | inr from ↦ (let same : i ≡ place = omega (arith, less, from) in subst (λ (j : ℕ). has after (slice_index cells j) ≡ false) (sym same) here)
]

pub all_found : (m : Floor) (marks left : List Bool) (ends : List DeadEnd) (cells : List ℕ) (place : ℕ) → ((c : ℕ) → IsMarked marks c → Contains cells c) → AreFound m marks left ends → AreGone left cells place → length cells ≤ place
    → AreDeadEnds m (IsMarked marks) (IsFree m marks) ends
all_found m marks left ends cells place listed k gone past = record {
  each = k.each;
  all = λ c marked. (
      let at = listed c marked in
      let same : slice_index cells at.0 ≡ c = get_or_default cells at.0 0 c at.1 ∙ at.2 in
      k.found c marked (subst (λ (x : ℕ). has left x ≡ false) same (gone at.0 (omega (arith, at.1, past)))));
  apart = k.apart;
}

-- ---- by the cells that are not roomy

module _ (m : Floor) (In In' Out Out' : ℕ → Type 0) (in_is : (c : ℕ) → In c ↔ In' c) (out_is : (c : ℕ) → Out c ↔ Out' c) where
  walks_same : (a b : ℕ) (xs : List ℕ) → Walks (HangsBy m In) a xs b → Walks (HangsBy m In') a xs b
  walks_same a b [] w = w
  walks_same a b (x ∷ xs) w = ((w.0.0, (in_is a).0 w.0.1, (in_is x).0 w.0.2), walks_same x b xs w.1)

  walks_back : (a b : ℕ) (xs : List ℕ) → Walks (HangsBy m In') a xs b → Walks (HangsBy m In) a xs b
  walks_back a b [] w = w
  walks_back a b (x ∷ xs) w = ((w.0.0, (in_is a).1 w.0.1, (in_is x).1 w.0.2), walks_back x b xs w.1)

  mouth_same : (cells : List ℕ) (mouth : Option ℕ) → IsMouth m Out cells mouth → IsMouth m Out' cells mouth
  mouth_same cells None none = λ c d there near out. none c d there near ((out_is d).1 out)
  mouth_same cells (Some x) is = ((out_is x).0 is.0, is.1)

  end_same : (e : DeadEnd) → IsDeadEnd m In Out e → IsDeadEnd m In' Out' e
  end_same e is = record {
    some = is.some;
    cells = λ c. (
      λ there. (let it = (is.cells c).0 there in ((in_is c).0 it.0, record { steps = it.1.steps; walk = walks_same (slice_index e.cells.items 0) c it.1.steps it.1.walk })),
      λ it. (is.cells c).1 ((in_is c).1 it.0, record { steps = it.1.steps; walk = walks_back (slice_index e.cells.items 0) c it.1.steps it.1.walk }),
    );
    once = is.once;
    mouth = mouth_same e.cells.items e.mouth is.mouth;
  }

  pub ends_same : (ends : List DeadEnd) → AreDeadEnds m In Out ends → AreDeadEnds m In' Out' ends
  ends_same ends are = record { each = λ i d inside. end_same (get_or ends i d) (are.each i d inside); all = λ c is. are.all c ((in_is c).1 is); apart = are.apart }

pub ends_are : (m : Floor) (n : ℕ) (marks : List Bool) (ends : List DeadEnd) → AreUnroomy m n marks → AreDeadEnds m (IsMarked marks) (IsFree m marks) ends → AreDeadEnds m (IsUnroomyCell m n) (IsRoomyCell m n) ends
ends_are m n marks ends known are = ends_same m (IsMarked marks) (IsUnroomyCell m n) (IsFree m marks) (IsRoomyCell m n) known.exact free_is ends are
  where
    free_is : (c : ℕ) → IsFree m marks c ↔ IsRoomyCell m n c
    free_is c = (
      λ free. (free.0, known.others c free.0 free.1),
      λ roomy. (roomy.0, false_from_ne_true (has marks c) (λ is. ((known.exact c).0 is).1 roomy.1)),
    )

pub all_listed : (m : Floor) (marks : List Bool) (cells : List ℕ) (In : ℕ → Type 0) → AreCells In cells → ((c : ℕ) → IsMarked marks c → In c) → (c : ℕ) → IsMarked marks c → Contains cells c
all_listed m marks cells In are there c is = (are.each c).1 (there c is)
