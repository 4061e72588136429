-- The list of the cells of the queues' first errands, as the queues change.
use Rattle.std.proofs.Common.{◌≡◌, ℕ, ◌+◌, ◌<◌, ◌≤◌, List, [], ◌∷◌, ◌++◌, length, cond, eqb, Bool, true, false, Option, Some, None, sym, refl, ap, ◌∙◌, subst, arith, inl, inr, ext_get_or}
use Rattle.std.specs.Prelude.{slice_get, slice_set, slice_index, slice_index_or, Result, Ok, Err, IsOk, OnOk, ◌↔◌, unwrap_or}
use Rattle.std.proofs.lemmas.List.{length-set, get_or-set_same, get_or-set_other, get_or_past, get_or_append_left}
use Rattle.std.proofs.Math.Seq.{get_or-append_seam}
use Rattle.std.proofs.lemmas.Bool.{cases_eq, cases_lt}
use Rattle.fleet_queue.specs.declared.errand.Errand.{Errand}
use Rattle.fleet_queue.specs.Queue.{Queue, is_of, without_behind_front}
use Rattle.fleet_history.specs.Waited.{one_more, wait_taken}
use Rattle.fleet_state.specs.Landed.{landing, wait_on, rest_on, without_landed}
use Rattle.fleet_state.specs.Robots.{Robots, queue_at, no_queue, stepped, joined, without_errand}
use Rattle.fleet_state.specs.inside.Fronts.{AreFronts}

-- ---- the queues change

pub fronts-set : (queues : List Queue) (fronts : List ℕ) (r : ℕ) (q : Queue) (cell : ℕ) → AreFronts queues fronts → r < length queues →
    ((f : Errand) → slice_get q.items 0 ≡ Some f → cell ≡ f.cell) → AreFronts (slice_set queues r q) (slice_set fronts r cell)
fronts-set queues fronts r q cell a l here = record {
  count = length-set fronts r cell ∙ a.count ∙ sym (length-set queues r q);
  cells = λ k f e. elim (cases_eq r k) [
    | inl s ↦ subst (λ k. slice_index (slice_set fronts r cell) k ≡ f.cell) s
        (get_or-set_same fronts r cell 0 (omega (arith, l, a.count))
        ∙ here f (ap (λ (q : Queue). slice_get q.items 0) (sym (get_or-set_same queues r q no_queue l)) ∙ subst (λ k. slice_get (queue_at (slice_set queues r q) k).items 0 ≡ Some f) (sym s) e))
    | inr ne ↦ get_or-set_other fronts r k cell 0 (λ s. ne (sym s))
        ∙ a.cells k f (ap (λ (q : Queue). slice_get q.items 0) (sym (get_or-set_other queues r k q no_queue (λ s. ne (sym s)))) ∙ e)
  ];
}

-- where a queue has room there is a robot
pub has-room : (queues : List Queue) (r : ℕ) → length (queue_at queues r).items < (queue_at queues r).capacity → r < length queues
has-room queues r l = elim (cases_lt r (length queues)) [
  | inl k ↦ k
  | inr k ↦ omega (arith, subst (λ (q : Queue). length q.items < q.capacity) (get_or_past queues r no_queue k) l)
]

-- where a queue has a first errand there is a robot
pub has-front : (queues : List Queue) (r : ℕ) (f : Errand) → slice_get (queue_at queues r).items 0 ≡ Some f → r < length queues
has-front queues r f e = elim (cases_lt r (length queues)) [
  | inl k ↦ k
  | inr k ↦ (let q : None ≡ Some f = subst (λ (q : Queue). slice_get q.items 0 ≡ Some f) (get_or_past queues r no_queue k) e in cc)
]

-- what stood after a front leaves it
withdrawn-front : (p : Errand → Bool) (u : List Errand) (f : Errand) → slice_get (without_behind_front p u) 0 ≡ Some f → slice_get u 0 ≡ Some f
withdrawn-front p [] f q = q
withdrawn-front p (x ∷ u) f q = q

-- the first n queues without the client's errand of this number, where that is no front
pub fronts-withdrawn : (queues others : List Queue) (fronts : List ℕ) (client number n : ℕ) → AreFronts queues fronts → length others ≡ length queues →
    ((r : ℕ) → r < n → queue_at others r ≡ without_errand client number (queue_at queues r)) → ((r : ℕ) → n ≤ r → queue_at others r ≡ queue_at queues r) → AreFronts others fronts
fronts-withdrawn queues others fronts client number n a count before behind = record {
  count = a.count ∙ sym count;
  cells = λ r f e. a.cells r f
      (elim (cases_lt r n) [
        | inl l ↦ withdrawn-front (is_of client number) (queue_at queues r).items f (subst (λ (q : Queue). slice_get q.items 0 ≡ Some f) (before r l) e)
        | inr l ↦ subst (λ (q : Queue). slice_get q.items 0 ≡ Some f) (behind r l) e
      ]);
}

-- one more queue's front at the end of the list
pub fronts-more : (queues : List Queue) (fronts : List ℕ) (r cell k : ℕ) (f : Errand) → length fronts ≡ r →
    (k < r → slice_get (queue_at queues k).items 0 ≡ Some f → slice_index fronts k ≡ f.cell) →
    (slice_get (queue_at queues r).items 0 ≡ Some f → cell ≡ f.cell) →
    k < r + 1 → slice_get (queue_at queues k).items 0 ≡ Some f → slice_index (fronts ++ cell ∷ []) k ≡ f.cell
fronts-more queues fronts r cell k f n before here l e = elim (cases_lt k r) [
  | inl b ↦ get_or_append_left fronts (cell ∷ []) 0 k (omega (arith, n, b)) ∙ before b e
  | inr b ↦ (let s : k ≡ length fronts = omega (arith, n, b, l) in
      ap (slice_index (fronts ++ cell ∷ [])) s ∙ get_or-append_seam fronts cell [] 0 ∙ here (subst (λ i. slice_get (queue_at queues i).items 0 ≡ Some f) (s ∙ n) e))
]

-- ---- who is ruled out

no_landing : (u : List Errand) (g cell : ℕ) → ((f : Errand) → slice_get u 0 ≡ Some f → g ≡ f.cell) → eqb g cell ≡ false → landing cell u ≡ None
no_landing [] g cell here e = refl
no_landing (f ∷ u) g cell here e = let s : g ≡ f.cell = here f refl in let t : eqb f.cell cell ≡ false = subst (λ n. eqb n cell ≡ false) s e in rw t refl

pub ruled-out : (queues : List Queue) (fronts : List ℕ) (r cell : ℕ) → AreFronts queues fronts → eqb (slice_index fronts r) cell ≡ false → landing cell (queue_at queues r).items ≡ None
ruled-out queues fronts r cell a e = no_landing (queue_at queues r).items (slice_index fronts r) cell (a.cells r) e

-- where nobody lands, the queue stays and the wait goes on
rest-none : (cell : ℕ) (u : List Errand) → landing cell u ≡ None → rest_on cell u ≡ u
rest-none cell [] e = refl
rest-none cell (f ∷ u) e = by_case (eqb f.cell cell) e
  where
    by_case : (b : Bool) → cond b (Some f) None ≡ None → cond b u (f ∷ u) ≡ f ∷ u
    by_case true q = cc
    by_case false q = refl

is_false : (f : Errand) (b : Bool) → cond b (Some f) None ≡ None → b ≡ false
is_false f true q = cc
is_false f false q = refl

wait-none : (cell : ℕ) (u : List Errand) (w : Option ℕ) → landing cell u ≡ None → wait_on cell u w ≡ one_more w
wait-none cell [] w e = refl
wait-none cell (f ∷ u) w e = let t : eqb f.cell cell ≡ false = is_false f (eqb f.cell cell) e in rw t refl

same_set : (queues : List Queue) (r : ℕ) (q : Queue) → q ≡ queue_at queues r → r < length queues → slice_set queues r q ≡ queues
same_set queues r q e l = ext_get_or no_queue (slice_set queues r q) queues (length-set queues r q)
    (λ k m. elim (cases_eq r k) [
      | inl s ↦ subst (λ k. queue_at (slice_set queues r q) k ≡ queue_at queues k) s (get_or-set_same queues r q no_queue l ∙ e)
      | inr ne ↦ get_or-set_other queues r k q no_queue (λ s. ne (sym s))
    ])

-- a step that does not land is the cell written and the wait counted on
pub stepped-past : (x : Robots) (r cell : ℕ) → r < length x.queues → landing cell (queue_at x.queues r).items ≡ None →
    ◌≡◌ {A = Robots} (record { cells = slice_set x.cells r cell; queues = x.queues; waits = slice_set x.waits r (one_more (slice_index_or x.waits r None)) }) (stepped x r cell)
stepped-past x r cell l e =
    let items = rest-none cell (queue_at x.queues r).items e in
    let same : without_landed cell (queue_at x.queues r) ≡ queue_at x.queues r = ap (λ u. record (queue_at x.queues r) { items = u }) items in
    rw (same_set x.queues r (without_landed cell (queue_at x.queues r)) same l, wait-none cell (queue_at x.queues r).items (slice_index_or x.waits r None) e) refl

-- ---- an errand joins

taken-wait : (e : Errand) (w : Option ℕ) → Some (unwrap_or w 0) ≡ wait_taken (e ∷ []) w
taken-wait e None = refl
taken-wait e (Some n) = refl

pub pushed : {E : Type 0} (q p : Queue) (e : Errand) (pushing : Result (Unit {0}) E) → length q.items < q.capacity → (IsOk pushing ↔ (length q.items < q.capacity)) →
    OnOk pushing (p ≡ record q { items = q.items ++ e ∷ [] }) → p ≡ record q { items = q.items ++ e ∷ [] }
pushed q p e (Ok x) l room ok = ok
pushed q p e (Err x) l room ok = let refused : false ≡ true = room.1 l in cc

-- where a queue has room and the errand is pushed, and a missing wait begins
pub joined-inside : {E : Type 0} (x y : Robots) (r : ℕ) (e : Errand) (q p : Queue) (pushing : Result (Unit {0}) E) (w : Option ℕ) (n : ℕ) → x ≡ y → q ≡ queue_at x.queues r →
    length (queue_at y.queues r).items < (queue_at y.queues r).capacity → (IsOk pushing ↔ (length q.items < q.capacity)) → OnOk pushing (p ≡ record q { items = q.items ++ e ∷ [] }) →
    w ≡ slice_index_or x.waits r None → n ≡ unwrap_or w 0 →
    ◌≡◌ {A = Robots} (record { cells = x.cells; queues = slice_set x.queues r p; waits = slice_set x.waits r (Some n) }) (joined y r e)
joined-inside x y r e q p pushing w n same read l room ok wait is =
    let read : q ≡ queue_at y.queues r = read ∙ ap (λ (z : Robots). queue_at z.queues r) same in
    let full : p ≡ record q { items = q.items ++ e ∷ [] } = pushed q p e pushing (rw read l) room ok in
    let begun : Some n ≡ wait_taken (e ∷ []) (slice_index_or x.waits r None) = ap Some is ∙ taken-wait e w ∙ ap (wait_taken (e ∷ [])) wait in
    rw (begun, full, read, same) refl

-- ---- a robot steps

-- where the errand that it lands on is taken out of its queue
pub stepped-inside : (x y : Robots) (r cell : ℕ) (q p : Queue) (w v : Option ℕ) → x ≡ y → q ≡ queue_at x.queues r → p ≡ without_landed cell q → w ≡ slice_index_or x.waits r None → v ≡ wait_on cell q.items w →
    ◌≡◌ {A = Robots} (record { cells = slice_set x.cells r cell; queues = slice_set x.queues r p; waits = slice_set x.waits r v }) (stepped y r cell)
stepped-inside x y r cell q p w v same read rest was waited = rw (waited, rest, was, read, same) refl
