-- Texts in pieces, and the lines of an answer.
use Rattle.std.proofs.Common.{◌≡◌, ◌∙◌, ℕ, zero, suc, ◌+◌, ◌-◌, ◌*◌, ◌/◌, ◌%◌, ◌<◌, ◌≤◌, List, [], ◌∷◌, ◌++◌, length, drop, take, get_or, replicate, refl, sym, ap, subst, arith, string_bytes, Option}
use Rattle.std.specs.List.{slice_get}
use Rattle.std.proofs.lemmas.List.{append_assoc, append-nil, length-append, take-append-le, take-append-drop, take_more, drop_more}
use Rattle.std.proofs.Math.Seq.{take-append-add, take-length}
use Rattle.std.proofs.Math.Nat.{mod-add-div', suc-mul}
use Rattle.std.specs.Io.KnownBytes.{Appends}
use Rattle.std.proofs.KnownBytes.{Appends-trans}
use Rattle.fleet_book.specs.declared.event.Event.{Event}
use Rattle.fleet_history.specs.declared.history.Entry.{Entry}
use Rattle.fleet_world.specs.declared.reply.Reply.{Reply}
use Rattle.fleet_text.specs.declared.pieces.Piece.{Piece}
use Rattle.fleet_text.specs.Output.{entries_made, event_text, run_text}
use Rattle.fleet_text.specs.Pieces.{repeated, pieces_text}
use Rattle.fleet_text.specs.Transfer.{AppendsPrefix}

-- ---- texts that repeat

pub repeated-add : (m n : ℕ) (t : List ℕ) → repeated (m + n) t ≡ repeated m t ++ repeated n t
repeated-add zero n t = let none : 0 + n ≡ n = omega arith in ap (λ k. repeated k t) none
repeated-add (suc m) n t =
    let next : suc m + n ≡ suc (m + n) = omega arith in
    ap (λ k. repeated k t) next ∙ (ap (λ l. t ++ l) (repeated-add m n t) ∙ sym (append_assoc t (repeated m t) (repeated n t)))

pub repeated-of : (q k : ℕ) (t : List ℕ) → repeated (q * k) t ≡ repeated q (repeated k t)
repeated-of zero k t = let none : 0 * k ≡ 0 = omega arith in ap (λ n. repeated n t) none
repeated-of (suc q) k t =
    let first : q * k + k ≡ k + q * k = omega arith in
    ap (λ n. repeated n t) (suc-mul q k ∙ first) ∙ (repeated-add k (q * k) t ∙ ap (λ l. repeated k t ++ l) (repeated-of q k t))

-- once more at the end
pub repeated-more : (n : ℕ) (t : List ℕ) → repeated (n + 1) t ≡ repeated n t ++ t
repeated-more n t = repeated-add n 1 t ∙ ap (λ l. repeated n t ++ l) (append-nil t)

pub pieces-append : (xs ys : List Piece) → pieces_text (xs ++ ys) ≡ pieces_text xs ++ pieces_text ys
pieces-append [] ys = refl
pieces-append (x ∷ xs) ys =
    let one = repeated x.times (string_bytes x.text) in
    ap (λ l. one ++ l) (pieces-append xs ys) ∙ sym (append_assoc one (pieces_text xs) (pieces_text ys))

-- one of several times
pub repeated-split : (n k : ℕ) (t : List ℕ) → k < n → repeated n t ≡ repeated k t ++ (t ++ repeated (n - (k + 1)) t)
repeated-split n k t less =
    let parts : n ≡ k + suc (n - (k + 1)) = omega (arith, less) in
    ap (λ m. repeated m t) parts ∙ repeated-add k (suc (n - (k + 1))) t

-- one of several pieces
pub pieces-more : (pieces : List Piece) (k : ℕ) (piece : Piece) → k < length pieces → get_or pieces k piece ≡ piece
    → pieces_text (take (k + 1) pieces) ≡ pieces_text (take k pieces) ++ repeated piece.times (string_bytes piece.text)
pieces-more pieces k piece less read =
    ap pieces_text (take_more pieces k piece less ∙ ap (λ (x : Piece). take k pieces ++ x ∷ []) read)
    ∙ (pieces-append (take k pieces) (piece ∷ []) ∙ ap (λ l. pieces_text (take k pieces) ++ l) (append-nil (repeated piece.times (string_bytes piece.text))))

pub pieces-split : (pieces : List Piece) (k : ℕ) (piece : Piece) → k < length pieces → get_or pieces k piece ≡ piece
    → pieces_text pieces ≡ pieces_text (take k pieces) ++ (repeated piece.times (string_bytes piece.text) ++ pieces_text (drop (k + 1) pieces))
pieces-split pieces k piece less read =
    ap pieces_text (sym (take-append-drop k pieces)) ∙ (pieces-append (take k pieces) (drop k pieces)
    ∙ ap (λ l. pieces_text (take k pieces) ++ pieces_text l) (drop_more pieces k piece less ∙ ap (λ (x : Piece). x ∷ drop (k + 1) pieces) read))

-- ---- what was written

pub all_of : (a b : Option (List ℕ)) (t : List ℕ) → Appends a b t → AppendsPrefix a b t
all_of a b t done = (length t, omega arith, subst (λ l. Appends a b l) (sym (take-length t)) done)

-- after a text, a prefix of what follows
pub prefix_after : (a b c : Option (List ℕ)) (t u v : List ℕ) → Appends a b t → AppendsPrefix b c u → AppendsPrefix a c (t ++ (u ++ v))
prefix_after a b c t u v done (n, within, more) =
    let long = length-append u v in
    let cut : take (length t + n) (t ++ (u ++ v)) ≡ t ++ take n u = take-append-add t (u ++ v) n ∙ ap (λ l. t ++ l) (take-append-le n u v within) in (
      length t + n,
      rw (length-append t (u ++ v), long) (omega (arith, within)),
      subst (λ l. Appends a c l) (sym cut) (Appends-trans a b c t (take n u) done more),
    )

-- ---- the lines of an answer

module _ {A : Type 0} (event : Event) (reply : Reply) (es : List Event) (rs : List Reply) where
  -- the lines of an answer that made no entry are one line's, again and again
  pub run-repeated : (n : ℕ) (entries : List (Entry A)) → entries_made reply ≡ 0
      → run_text (replicate n event ++ es) (replicate n reply ++ rs) entries ≡ repeated n (event_text event reply (slice_get entries 0)) ++ run_text es rs entries
  run-repeated zero entries none = refl
  run-repeated (suc n) entries none =
      let line = event_text event reply (slice_get entries 0) in
      let rest = ap (λ k. run_text (replicate n event ++ es) (replicate n reply ++ rs) (drop k entries)) none in
      ap (λ l. line ++ l) (rest ∙ run-repeated n entries none) ∙ sym (append_assoc line (repeated n line) (run_text es rs entries))

  -- one time more
  pub answer-more : (n k : ℕ) (rest rest2 : List (Entry A)) (e : Option (Entry A)) (old new whole : List ℕ) → k < n
      → old ++ run_text (replicate (n - k) event ++ es) (replicate (n - k) reply ++ rs) rest ≡ whole → new ≡ old ++ event_text event reply e → e ≡ slice_get rest 0
      → rest2 ≡ drop (entries_made reply) rest → new ++ run_text (replicate (n - (k + 1)) event ++ es) (replicate (n - (k + 1)) reply ++ rs) rest2 ≡ whole
  answer-more n k rest rest2 e old new whole less before made first behind =
      let left : n - k ≡ suc (n - (k + 1)) = omega (arith, less) in
      let line = event_text event reply (slice_get rest 0) in
      let split : old ++ (line ++ run_text (replicate (n - (k + 1)) event ++ es) (replicate (n - (k + 1)) reply ++ rs) (drop (entries_made reply) rest)) ≡ whole = rw (left) at before in
      rw (made, first, behind) (append_assoc old line _ ∙ split)

-- what an answer that made no entry adds
pub plain : {A : Type 0} (event : Event) (reply : Reply) (n : ℕ) (entries rest : List (Entry A)) (old new : List ℕ) → entries_made reply ≡ 0
    → ((es : List Event) (rs : List Reply) → new ++ run_text es rs rest ≡ old ++ run_text (replicate n event ++ es) (replicate n reply ++ rs) entries)
    → new ≡ old ++ repeated n (event_text event reply (slice_get entries 0))
plain event reply n entries rest old new none says =
    let line = event_text event reply (slice_get entries 0) in
    sym (append-nil new) ∙ (says [] [] ∙ ap (λ l. old ++ l) (run-repeated event reply [] [] n entries none ∙ append-nil (repeated n line)))

-- its lines in a text and in a piece
pub in-pieces : {A : Type 0} (event : Event) (reply : Reply) (n k : ℕ) (entries : List (Entry A)) (pieces text mid lines new empty : List ℕ) (es : List Event) (rs : List Reply) → entries_made reply ≡ 0
    → mid ≡ text ++ repeated (n % k) (event_text event reply (slice_get entries 0)) → lines ≡ repeated k (event_text event reply (slice_get entries 0)) → empty ≡ []
    → new ≡ pieces ++ mid ++ repeated (n / k) lines
    → (new ++ empty) ++ run_text es rs entries ≡ (pieces ++ text) ++ run_text (replicate n event ++ es) (replicate n reply ++ rs) entries
in-pieces event reply n k entries pieces text mid lines new empty es rs none is_mid is_lines is_empty is_new =
    let line = event_text event reply (slice_get entries 0) in
    let rest = run_text es rs entries in
    let all : repeated (n % k) line ++ repeated (n / k) (repeated k line) ≡ repeated n line =
    ap (λ l. repeated (n % k) line ++ l) (sym (repeated-of (n / k) k line)) ∙ (sym (repeated-add (n % k) (n / k * k) line) ∙ ap (λ m. repeated m line) (mod-add-div' n k)) in
    let told : new ≡ (pieces ++ text) ++ repeated n line =
    is_new ∙ (rw (is_mid, is_lines) (ap (λ l. l ++ repeated (n / k) (repeated k line)) (sym (append_assoc pieces text (repeated (n % k) line)))
    ∙ append_assoc (pieces ++ text) (repeated (n % k) line) (repeated (n / k) (repeated k line)))) ∙ ap (λ l. (pieces ++ text) ++ l) all in
    let bare : new ++ empty ≡ new = ap (λ l. new ++ l) is_empty ∙ append-nil new in
    ap (λ l. l ++ rest) (bare ∙ told) ∙ (append_assoc (pieces ++ text) (repeated n line) rest ∙ ap (λ l. (pieces ++ text) ++ l) (sym (run-repeated event reply es rs n entries none)))

-- pieces, and what comes after them
pub closed : (pieces text more new : List ℕ) → more ≡ text ++ [] → new ≡ pieces ++ more → new ≡ pieces ++ text
closed pieces text more new is made = made ∙ ap (λ l. pieces ++ l) (is ∙ append-nil text)

-- a list from one place on
pub drop_at : {X : Type 0} (xs : List X) (k : ℕ) (x : X) → k < length xs → get_or xs k x ≡ x → drop k xs ≡ x ∷ drop (k + 1) xs
drop_at xs k x less read = drop_more xs k x less ∙ ap (λ y. y ∷ drop (k + 1) xs) read
