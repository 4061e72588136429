-- One client's notices after another's.
use Rattle.std.proofs.Common.{◌≡◌, ◌≢◌, ℕ, zero, suc, ◌+◌, ◌<◌, ◌≤◌, ◌++◌, ◌∷◌, [], List, length, set, get_or, Some, refl, ap, sym, ◌∙◌, subst, arith, ⊎_elim, ◌⊎◌}
use Rattle.std.specs.Prelude.{slice_get, vec_capacity, Vec}
use Rattle.std.proofs.lemmas.List.{get_or-set_other}
use Rattle.std.proofs.lemmas.Bool.{cases_lt}
use Rattle.std.proofs.lemmas.Option.{slice_get_within, slice_get-get_or}
use Rattle.std.proofs.Math.ListN.{length-set}
use Rattle.fleet_book.specs.declared.notice.Notice.{Notice}
use Rattle.fleet_core.specs.Pending.{Pending, no_pending}
use Rattle.fleet_core.specs.Core.{World, pending}
use Rattle.fleet_lanes.specs.Names.{LaneName}
use Rattle.fleet_lanes.specs.Ends.{ClientView}
use Rattle.fleet_office.specs.Hall.{handed}
use Rattle.fleet_office.specs.Views.{core, cores, AreDistinct, AreOn}
use Rattle.fleet_office.specs.inside.Leftovers.{HasRoomFor, HasAtMost, AreRooms, LeftoversAre, SameBut}
use Rattle.fleet_office.proofs.Places.{map_at, within}

set_at : {X : Type 0} (xs : List X) (i : ℕ) (a b : X) → slice_get xs i ≡ Some b → slice_get (set xs i a) i ≡ Some a
set_at [] i a b e = cc
set_at (x ∷ xs) zero a b e = refl
set_at (x ∷ xs) (suc i) a b e = set_at xs i a b e

set_off : {X : Type 0} (xs : List X) (i j : ℕ) (a : X) → j ≢ i → slice_get (set xs i a) j ≡ slice_get xs j
set_off [] i j a n = refl
set_off (x ∷ xs) zero zero a n = absurd (n refl)
set_off (x ∷ xs) zero (suc j) a n = refl
set_off (x ∷ xs) (suc i) zero a n = refl
set_off (x ∷ xs) (suc i) (suc j) a n = set_off xs i j a (λ e. n (ap suc e))

push_at : {X : Type 0} (xs : List X) (k : ℕ) (x y : X) → slice_get xs k ≡ Some x → slice_get (xs ++ y ∷ []) k ≡ Some x
push_at [] k x y e = cc
push_at (z ∷ xs) zero x y e = e
push_at (z ∷ xs) (suc k) x y e = push_at xs k x y e

push_last : {X : Type 0} (xs : List X) (y : X) → slice_get (xs ++ y ∷ []) (length xs) ≡ Some y
push_last [] y = refl
push_last (z ∷ xs) y = push_last xs y

split : (a b : ℕ) → a < b + 1 → (a < b) ⊎ (a ≡ b)
split a b l = grind arith

module _ {A : Type 0} where
  -- the first k clients' notices were moved, and the others' are as they were
  pub record Rested (k : ℕ) (rooms : List (Vec Notice A)) (w was : World A) (cs now : List (ClientView A)) : Type 0 where
    pub done : (j : ℕ) (x : ClientView A) → j < k → slice_get cs j ≡ Some x → (v : Vec Notice A) × (slice_get rooms x.number ≡ Some v) × (v.items ≡ x.known ++ (pending was x.number).notices)
    pub later : (j : ℕ) (x : ClientView A) → k ≤ j → slice_get cs j ≡ Some x → HasRoomFor rooms was x × (pending w x.number ≡ pending was x.number)
    pub same : (j : ℕ) → k ≤ j → slice_get now j ≡ slice_get cs j
    pub as_many : length w.mailboxes ≡ length was.mailboxes
    pub kept : SameBut was w

  pub rested_none : (rooms : List (Vec Notice A)) (w : World A) (cs : List (ClientView A)) → AreRooms rooms w cs → Rested 0 rooms w w cs cs
  rested_none rooms w cs there = record {
    done = λ j x less at. absurd (omega (arith, less));
    later = λ j x more at. (there j x at, refl);
    same = λ j more. refl;
    as_many = refl;
    kept = record { floor = refl; ties = refl; turns = refl; number = refl; history = refl };
  }

  apart : (cs : List (ClientView A)) (i j : ℕ) (x y : ClientView A) → AreDistinct (cores cs) → slice_get cs i ≡ Some x → slice_get cs j ≡ Some y → i ≢ j → x.number ≢ y.number
  apart cs i j x y distinct at there n same = n (distinct i j (core x) (core y) (map_at core cs i x at) (map_at core cs j y there) same)

  pub rested_more : (k : ℕ) (rooms : List (Vec Notice A)) (w u was : World A) (cs now : List (ClientView A)) (c d : ClientView A) (row : Vec Notice A)
      → slice_get now k ≡ Some c → AreDistinct (cores cs) → row.items ≡ c.known ++ (pending w c.number).notices → u ≡ handed w c.number []
      → Rested k rooms w was cs now → Rested (k + 1) (set rooms c.number row) u was cs (set now k d)
  rested_more k rooms w u was cs now c d row here distinct is world r =
      let at : slice_get cs k ≡ Some c = sym (r.same k (omega arith)) ∙ here in
      let o = r.later k c (omega arith) at in
      let b : Pending = record { notices = []; limit = (pending w c.number).limit } in
      record {
        done = λ j x less there.
            ⊎_elim
            (λ (h : j < k).
            let old = r.done j x h there in
            (old.0, set_off rooms c.number x.number row (apart cs j k x c distinct there at (λ e. omega arith)) ∙ old.1, old.2))
            (λ (h : k ≤ j).
            let jk : j ≡ k = omega arith in
            let xc : c ≡ x = (let both : Some c ≡ Some x = sym at ∙ ap (slice_get cs) (sym jk) ∙ there in cc) in
            subst (λ (y : ClientView A). (v : Vec Notice A) × (slice_get (set rooms c.number row) y.number ≡ Some v) × (v.items ≡ y.known ++ (pending was y.number).notices)) xc
            (row, set_at rooms c.number row o.0.0 o.0.1, is ∙ ap (λ (p : Pending). c.known ++ p.notices) o.1))
            (cases_lt j k);
        later = λ j x more there.
            let n = apart cs j k x c distinct there at (λ e. omega arith) in
            let before = r.later j x (omega arith) there in
            let room = before.0 in
            ((room.0, set_off rooms c.number x.number row n ∙ room.1, room.2, room.3), ap (λ y. pending y x.number) world ∙ get_or-set_other w.mailboxes c.number x.number b no_pending n ∙ before.1);
        same = λ j more. set_off now k j d (λ e. omega arith) ∙ r.same j (omega arith);
        as_many = ap (λ y. length y.mailboxes) world ∙ length-set w.mailboxes c.number b ∙ r.as_many;
        kept = record {
          floor = ap (λ y. y.floor) world ∙ r.kept.floor;
          ties = ap (λ y. y.ties) world ∙ r.kept.ties;
          turns = ap (λ y. y.turns) world ∙ r.kept.turns;
          number = ap (λ y. y.number) world ∙ r.kept.number;
          history = ap (λ y. y.history) world ∙ r.kept.history;
        };
      }

  -- the next client is as it was, and its room is there
  pub rested_next : (k : ℕ) (rooms : List (Vec Notice A)) (w was : World A) (cs now : List (ClientView A)) (c : ClientView A) → slice_get now k ≡ Some c → Rested k rooms w was cs now → HasRoomFor rooms w c × (slice_get cs k ≡ Some c)
  rested_next k rooms w was cs now c here r =
      let at : slice_get cs k ≡ Some c = sym (r.same k (omega arith)) ∙ here in
      let o = r.later k c (omega arith) at in
      ((o.0.0, o.0.1, o.0.2, omega (arith, o.0.3, ap (λ (p : Pending). length p.notices) o.1)), at)

  pub rests_all : (k : ℕ) (rooms : List (Vec Notice A)) (w was : World A) (cs now : List (ClientView A)) → length cs ≤ k → Rested k rooms w was cs now → LeftoversAre rooms was cs
  rests_all k rooms w was cs now all r = λ j x at. r.done j x (let inside = within cs j x at in omega arith) at

  -- ---- rooms by number

  pub at_most_found : (cs : List (ClientView A)) (k number n : ℕ) (w : World A) (r : ClientView A) → AreDistinct (cores cs) → k < length cs → ((x : ClientView A) → slice_get cs k ≡ Some x → x.number ≡ number) →
      length (get_or cs k r).known + length (pending w number).notices ≤ n → HasAtMost n w cs number
  at_most_found cs k number n w r distinct inside is few j x at same =
      let c = get_or cs k r in
      let here : slice_get cs k ≡ Some c = slice_get-get_or cs k r inside in
      let jk : j ≡ k = distinct j k (core x) (core c) (map_at core cs j x at) (map_at core cs k c here) (same ∙ sym (is c here)) in
      let xc : x ≡ c = (let both : Some x ≡ Some c = sym at ∙ ap (slice_get cs) jk ∙ here in cc) in
      omega (arith, few, ap (λ y. length y.known) xc)

  abbrev pub RoomsBelow : ℕ → List (Vec Notice A) → World A → List (ClientView A) → Type 0
  RoomsBelow n rooms w cs = (k : ℕ) (x : ClientView A) → x.number < n → slice_get cs k ≡ Some x → HasRoomFor rooms w x

  pub rooms_more : (n count : ℕ) (rooms : List (Vec Notice A)) (v : Vec Notice A) (w : World A) (cs : List (ClientView A)) → length rooms ≡ n → v.items ≡ [] → count ≤ vec_capacity v → HasAtMost count w cs n →
      RoomsBelow n rooms w cs → RoomsBelow (n + 1) (rooms ++ v ∷ []) w cs
  rooms_more n count rooms v w cs many none room few below k x less at =
      ⊎_elim
      (λ (h : x.number < n). let old = below k x h at in (old.0, push_at rooms x.number old.0 v old.1, old.2, old.3))
      (λ (h : x.number ≡ n).
      let f = few k x at h in
      (v, ap (λ m. slice_get (rooms ++ v ∷ []) m) (h ∙ sym many) ∙ push_last rooms v, none, omega (arith, room, f, ap (λ m. length (pending w m).notices) h)))
      (split x.number n less)

  pub rooms_all : (rings : List (LaneName A)) (n : ℕ) (rooms : List (Vec Notice A)) (w : World A) (cs : List (ClientView A)) → length rings ≤ n → AreOn rings (cores cs) → RoomsBelow n rooms w cs → AreRooms rooms w cs
  rooms_all rings n rooms w cs all on below k x at =
      let ring = on k (core x) (map_at core cs k x at) in
      below k x (omega (arith, slice_get_within rings x.number x.lane ring)) at
