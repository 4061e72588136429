-- Notices that are numbered in a row, and the last of them that are kept.
use Rattle.std.proofs.Common.{◌≡◌, ℕ, ◌+◌, ◌-◌, ◌<◌, ◌≤◌, true, cond, List, [], ◌∷◌, ◌++◌, Some, get_or, length, drop, sym, refl, ap, ◌∙◌, subst, arith, inl, inr, length-append, length-drop, get_or-drop}
use Rattle.std.specs.Prelude.{slice_get}
use Rattle.std.proofs.lemmas.Bool.{cases_lt, cond_both, eq-eqb}
use Rattle.std.proofs.lemmas.List.{get_or-append-add, get_or-map, get_or_append_left}
use Rattle.std.proofs.lemmas.List.FromFn.{get_or-range_with_len}
use Rattle.std.proofs.lemmas.Option.{slice_get-get_or}
use Rattle.fleet_grid.specs.Floor.{Floor}
use Rattle.fleet_book.specs.declared.notice.Notice.{Notice}
use Rattle.fleet_history.specs.declared.history.ClientState.{ClientState}
use Rattle.fleet_history.specs.History.{History, client_at}
use Rattle.fleet_history.specs.Legal.{IsLegal}
use Rattle.fleet_history.specs.Notices.{noticed_count, notices, seq_of}
use Rattle.fleet_history.proofs.Numbered.{noticed-length, seqs-legal}
use Rattle.live_parts.specs.Chapters.{AreInARow, told_in, with_chapters}
use Rattle.live_parts.specs.Recalls.{Recall, begun, is_next, is_numbered, last_notice, last_of, leads_to, nothing_told, with_before}
use Rattle.live_parts.proofs.Recalling.{last-all, last-append}

-- notices are numbered from after one number up to another
record IsRow (ns : List Notice) (from to : ℕ) : Type 0 where
  count : from + length ns ≡ to
  seqs : (k : ℕ) (d : Notice) → k < length ns → seq_of (get_or ns k d) ≡ from + 1 + k

row-none : (n : ℕ) → IsRow [] n n
row-none n = record { count = omega arith; seqs = λ k d l. absurd (omega (arith, l)) }

row-append : (xs ys : List Notice) (a m n : ℕ) → IsRow xs a m → IsRow ys m n → IsRow (xs ++ ys) a n
row-append xs ys a m n x y = record {
  count = omega (arith, x.count, y.count, length-append xs ys);
  seqs = λ k d l. elim (cases_lt k (length xs)) [
    | inr behind ↦
        let j = k - length xs in
        let at : length xs + j ≡ k = omega (arith, behind) in
        ap seq_of (ap (λ i. get_or (xs ++ ys) i d) (sym at) ∙ get_or-append-add xs ys j d) ∙ y.seqs j d (omega (arith, l, behind, length-append xs ys)) ∙ omega (arith, x.count, behind)
    | inl before ↦ ap seq_of (get_or_append_left xs ys d k before) ∙ x.seqs k d before
  ];
}

row-drop : (ns : List Notice) (a n k : ℕ) → k ≤ length ns → IsRow ns a n → IsRow (drop k ns) (a + k) n
row-drop ns a n k l row = record {
  count = omega (arith, row.count, length-drop k ns, l);
  seqs = λ j d short. ap seq_of (get_or-drop k ns j d) ∙ row.seqs (k + j) d (omega (arith, short, length-drop k ns)) ∙ omega arith;
}

-- the last has the last number
row-last : (ns : List Notice) (a n : ℕ) → IsRow ns a n → is_numbered n (last_notice ns) ≡ true
row-last [] a n row = refl
row-last (x ∷ xs) a n row =
    let k = length (x ∷ xs) - 1 in
    let l : k < length (x ∷ xs) = omega arith in
    ap (is_numbered n) (slice_get-get_or (x ∷ xs) k x l)
    ∙ eq-eqb (seq_of (get_or (x ∷ xs) k x)) n (row.seqs k x l ∙ omega (arith, row.count))

-- notices in a row lead to those that are numbered on
row-leads : (xs ys : List Notice) (a m n : ℕ) → IsRow xs a m → IsRow ys m n → leads_to xs ys ≡ true
row-leads [] ys a m n x y = refl
row-leads (p ∷ xs) [] a m n x y =
    let k = length (p ∷ xs) - 1 in
    ap (λ o. is_next o (slice_get [] 0)) (slice_get-get_or (p ∷ xs) k p (omega arith))
row-leads (p ∷ xs) (q ∷ ys) a m n x y =
    let k = length (p ∷ xs) - 1 in
    let l : k < length (p ∷ xs) = omega arith in
    ap (λ o. is_next o (Some q)) (slice_get-get_or (p ∷ xs) k p l)
    ∙ eq-eqb (seq_of (get_or (p ∷ xs) k p) + 1) (seq_of q) (omega (arith, x.seqs k p l, x.count, y.seqs 0 q (let some : 0 < length (q ∷ ys) = omega arith in some)))

-- ---- the last of them

-- with notices before the last of others
joined : (most : ℕ) (xs ys : List Notice) (a m n : ℕ) (r : Recall) → IsRow xs a m → IsRow ys m n → r.notices ≡ last_of most ys → (with_before most xs r).notices ≡ last_of most (xs ++ ys)
joined most xs ys a m n r x y is = elim (cases_lt most (length ys)) [
  | inr few ↦
      let all : r.notices ≡ ys = is ∙ last-all most ys few in
      ap (λ ns. cond (leads_to xs ns) (last_of most (xs ++ ns)) ns) all
      ∙ ap (λ b. cond b (last_of most (xs ++ ys)) ys) (row-leads xs ys a m n x y)
  | inl many ↦
      let ks = last_of most ys in
      let full : length ks ≡ most = omega (arith, many, length-drop (length ys - most) ys) in
      let same : last_of most (xs ++ ks) ≡ ks = last-append most xs ks (omega (arith, full)) ∙ last-all most ks (omega (arith, full)) in
      ap (λ ns. cond (leads_to xs ns) (last_of most (xs ++ ns)) ns) is
      ∙ ap (λ ns. cond (leads_to xs ks) ns ks) same
      ∙ cond_both (leads_to xs ks) ks ks (λ ns. ns ≡ ks) (λ e. refl) (λ e. refl)
      ∙ sym (last-append most xs ys (omega (arith, many)))
]

-- ---- chapters

module _ {A : Type 0} (m : Floor) (c : ℕ) where
  row-chapter : (h : History A) → IsLegal m h → IsRow (notices h c) (client_at h c).noticed (noticed_count h c)
  row-chapter h legal =
      let ns = notices h c in
      let a = (client_at h c).noticed in
      record {
        count = sym (noticed-length m h c legal);
        seqs = λ k d l. sym (get_or-map seq_of ns k d (seq_of d) l) ∙ ap (λ s. get_or s k (seq_of d)) (seqs-legal m h c legal) ∙ get_or-range_with_len (a + 1) (length ns) k (seq_of d) l;
      }

  row-chapters : (h : History A) (hs : List (History A)) (n : ℕ) → AreInARow m c (h ∷ hs) n → IsRow (told_in c (h ∷ hs)) (client_at h c).noticed n
  row-chapters h [] n all =
      let own = row-chapter h all.0 in
      row-append (notices h c) [] (client_at h c).noticed n n (subst (IsRow (notices h c) (client_at h c).noticed) all.1 own) (row-none n)
  row-chapters h (g ∷ hs) n all =
      row-append (notices h c) (told_in c (g ∷ hs)) (client_at h c).noticed (client_at g c).noticed n
      (subst (IsRow (notices h c) (client_at h c).noticed) all.1 (row-chapter h all.0)) (row-chapters g hs n all.2)

  kept : (most n : ℕ) (hs : List (History A)) → AreInARow m c hs n → (with_chapters most c hs nothing_told).notices ≡ last_of most (told_in c hs)
  kept most n [] all = sym (last-all most [] (omega arith))
  kept most n (h ∷ []) all =
      joined most (notices h c) [] (client_at h c).noticed n n nothing_told (subst (IsRow (notices h c) (client_at h c).noticed) all.1 (row-chapter h all.0)) (row-none n) (sym (last-all most [] (omega arith)))
  kept most n (h ∷ g ∷ hs) all =
      joined most (notices h c) (told_in c (g ∷ hs)) (client_at h c).noticed (client_at g c).noticed n (with_chapters most c (g ∷ hs) nothing_told)
      (subst (IsRow (notices h c) (client_at h c).noticed) all.1 (row-chapter h all.0)) (row-chapters g hs n all.2) (kept most n (g ∷ hs) all.2)

  -- those that are kept end where the chapters end
  ends : (most n : ℕ) (hs : List (History A)) → AreInARow m c hs n → is_numbered n (last_notice (last_of most (told_in c hs))) ≡ true
  ends most n [] all = ap (λ ns. is_numbered n (last_notice ns)) (last-all most [] (omega arith))
  ends most n (h ∷ hs) all =
      let ns = told_in c (h ∷ hs) in
      let k = length ns - most in
      row-last (drop k ns) ((client_at h c).noticed + k) n (row-drop ns (client_at h c).noticed n k (omega arith) (row-chapters h hs n all))

pub recalled : {A : Type 0} (m : Floor) (c most : ℕ) (hs : List (History A)) (client : ClientState) → AreInARow m c hs client.noticed →
    (begun client (with_chapters most c hs nothing_told)).notices ≡ last_of most (told_in c hs)
recalled m c most hs client all =
    let ks = last_of most (told_in c hs) in
    ap (λ ns. cond (is_numbered client.noticed (last_notice ns)) ns []) (kept m c most client.noticed hs all)
    ∙ ap (λ b. cond b ks []) (ends m c most client.noticed hs all)
