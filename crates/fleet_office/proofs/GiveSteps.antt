-- A notice more goes to an outlet.
use Rattle.std.proofs.Common.{◌≡◌, ℕ, zero, suc, ◌+◌, ◌<◌, ◌++◌, ◌∷◌, [], List, length, set, get_or, Some, refl, ap, sym, ◌∙◌, arith, append_assoc, length-append, drop}
use Rattle.std.specs.Prelude.{slice_get}
use Rattle.std.proofs.lemmas.List.{get_or-set_same, append-nil}
use Rattle.fleet_book.specs.declared.notice.Notice.{Notice}
use Rattle.fleet_lanes.specs.Ends.{EndView}
use Rattle.fleet_core.specs.Pending.{Pending, no_pending}
use Rattle.fleet_core.specs.Core.{World, pending, without_first}
use Rattle.fleet_office.specs.Hall.{Gives, handed}

set_again : {A : Type 0} (xs : List A) (i : ℕ) (a b : A) → set (set xs i a) i b ≡ set xs i b
set_again [] i a b = refl
set_again (x ∷ xs) zero a b = refl
set_again (x ∷ xs) (suc i) a b = ap (λ ys. x ∷ ys) (set_again xs i a b)

pub head_split : {X : Type 0} (xs : List X) (x : X) → slice_get xs 0 ≡ Some x → x ∷ drop 1 xs ≡ xs
head_split [] x e = cc
head_split (y ∷ xs) x e = let s : y ≡ x = cc in rw s refl

pub set_own : (xs : List Pending) (i : ℕ) (d : Pending) → i < length xs → set xs i (get_or xs i d) ≡ xs
set_own [] i d l = absurd (omega arith)
set_own (x ∷ xs) zero d l = refl
set_own (x ∷ xs) (suc i) d l = ap (λ ys. x ∷ ys) (set_own xs i d (omega arith))

module _ {A : Type 0} where
  abbrev pub with_boxes : World A → List Pending → World A
  with_boxes w boxes = record { floor = w.floor; limits = w.limits; ties = w.ties; turns = w.turns; number = w.number; history = w.history; mailboxes = boxes }

  pub box_handed : (w : World A) (c : ℕ) (left : List Notice) → c < length w.mailboxes → pending (handed w c left) c ≡ record { notices = left; limit = (pending w c).limit }
  box_handed w c left inside = get_or-set_same w.mailboxes c (record { notices = left; limit = (pending w c).limit }) no_pending inside

  pub handed_again : (w : World A) (c : ℕ) (a b : List Notice) → c < length w.mailboxes → handed (handed w c a) c b ≡ handed w c b
  handed_again w c a b inside =
      rw (box_handed w c a inside)
      (ap (with_boxes w) (set_again w.mailboxes c (record { notices = a; limit = (pending w c).limit }) (record { notices = b; limit = (pending w c).limit })))

  -- none was given yet
  pub gives_none : (w : World A) (e : EndView A) (c : ℕ) → c < length w.mailboxes → Gives w w e e c 0
  gives_none w e c inside = record {
    moved = [];
    count = refl;
    box = refl;
    world = ap (with_boxes w) (sym (set_own w.mailboxes c no_pending inside));
    end = rw (append-nil e.given) refl;
  }

  -- one more was given
  pub gives_more : (w v u : World A) (e d f : EndView A) (c k : ℕ) (n : Notice) → c < length w.mailboxes → length v.mailboxes ≡ length w.mailboxes → Gives w v e d c k →
      slice_get (pending v c).notices 0 ≡ Some n → u ≡ without_first v c →
      f ≡ record { lane = d.lane; taken = d.taken; given = d.given ++ n ∷ []; free = f.free; known = d.known } → Gives w u e f c (k + 1)
  gives_more w v u e d f c k n inside same g next world end =
      let left : (pending u c).notices ≡ drop 1 (pending v c).notices = ap (λ x. (pending x c).notices) world ∙ ap (λ (b : Pending). b.notices) (box_handed v c (drop 1 (pending v c).notices) (omega (arith, same))) in
      record {
        moved = g.moved ++ n ∷ [];
        count = omega (arith, g.count, length-append g.moved (n ∷ []));
        box = g.box ∙ ap (λ x. g.moved ++ x) (sym (head_split (pending v c).notices n next)) ∙ sym (append_assoc g.moved (n ∷ []) (drop 1 (pending v c).notices)) ∙ ap (λ x. (g.moved ++ n ∷ []) ++ x) (sym left);
        world = world ∙ ap (λ x. handed x c (drop 1 (pending v c).notices)) g.world ∙ handed_again w c (pending v c).notices (drop 1 (pending v c).notices) inside ∙ ap (handed w c) (sym left);
        end = end ∙ rw (g.end) (rw (append_assoc e.given g.moved (n ∷ [])) refl);
      }

abbrev pub popped : Pending → Pending
popped b = record { notices = drop 1 b.notices; limit = b.limit }
