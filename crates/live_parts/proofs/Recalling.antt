-- The last notices of a client, as notices come after them and before them.
use Rattle.std.proofs.Common.{◌≡◌, ℕ, zero, suc, ◌+◌, ◌-◌, ◌<◌, ◌≤◌, Bool, true, false, ◌||◌, List, [], ◌∷◌, ◌++◌, get_or, length, drop, set, sym, refl, ap, ◌∙◌, subst, arith, inl, inr, length-append, length-drop, take, take-append-drop, min, Result, Ok, Err, IfOk, Vec}
use Rattle.std.specs.Prelude.{nat_lt}
use Rattle.std.specs.List.{list_any, range_with_len}
use Rattle.std.proofs.lemmas.Bool.{cases_eq, cases_lt}
use Rattle.std.proofs.lemmas.List.{append_assoc, drop-append-le, drop_more, get_or-set_other, get_or-set_same, get_or_default}
use Rattle.std.proofs.lemmas.List.Sums.{count_by-le-length, length-filter}
use Rattle.fleet_book.specs.declared.notice.Notice.{Notice}
use Rattle.fleet_history.specs.Notices.{seq_of}
use Rattle.live_parts.specs.Recalls.{Recall, last_of, later_than, nothing_told, recall_at, with_before}

module _ {X : Type 0} where
  -- where there is room for all
  pub last-all : (most : ℕ) (xs : List X) → length xs ≤ most → last_of most xs ≡ xs
  last-all most xs few = ap (λ k. drop k xs) (let e : length xs - most ≡ 0 = omega (arith, few) in e)

  pub last-none : (xs : List X) (x : X) → length xs ≤ 0 → last_of 0 (xs ++ x ∷ []) ≡ xs
  last-none [] x few = refl
  last-none (y ∷ xs) x few = absurd (omega (arith, few))

  pub last-room : (most : ℕ) (xs : List X) (x : X) → length xs < most → last_of most (xs ++ x ∷ []) ≡ xs ++ x ∷ []
  last-room most xs x few = last-all most (xs ++ x ∷ []) (omega (arith, few, length-append xs (x ∷ [])))

  -- the first goes
  pub last-full : (most : ℕ) (xs : List X) (x : X) → 0 < most → length xs ≡ most → last_of most (xs ++ x ∷ []) ≡ drop 1 xs ++ x ∷ []
  last-full most xs x some full =
      ap (λ k. drop k (xs ++ x ∷ [])) (let e : length (xs ++ x ∷ []) - most ≡ 1 = omega (arith, full, length-append xs (x ∷ [])) in e)
      ∙ drop-append-le 1 xs (x ∷ []) (omega (arith, some, full))

  -- the last of these, as many as there is room for before the others
  pub last-before : (most : ℕ) (xs ys : List X) → length ys ≤ most → drop (length xs - min (length xs) (most - length ys)) xs ++ ys ≡ last_of most (xs ++ ys)
  last-before most xs ys few =
      let n = length xs - min (length xs) (most - length ys) in
      sym (drop-append-le n xs ys (omega arith))
      ∙ ap (λ k. drop k (xs ++ ys)) (let e : n ≡ length (xs ++ ys) - most = omega (arith, few, length-append xs ys) in e)

  pub length-last : (most : ℕ) (xs : List X) → length (last_of most xs) ≤ most
  length-last most xs = omega (arith, length-drop (length xs - most) xs)

  -- one more of those before the others
  pub before_more : (xs ys zs : List X) (at : ℕ) (x d : X) → at < length xs → zs ≡ drop (length xs - at) xs ++ ys → x ≡ get_or xs (length xs - 1 - at) d →
      x ∷ zs ≡ drop (length xs - (at + 1)) xs ++ ys
  before_more xs ys zs at x d l is e =
      let i = length xs - 1 - at in
      let next : i + 1 ≡ length xs - at = omega (arith, l) in
      let here : length xs - (at + 1) ≡ i = omega (arith, l) in
      ap (λ z. z ∷ zs) e ∙ ap (λ z. get_or xs i d ∷ z) is
      ∙ ap (λ k. get_or xs i d ∷ (drop k xs ++ ys)) (sym next)
      ∙ ap (λ z. z ++ ys) (sym (drop_more xs i d (omega (arith, l))))
      ∙ ap (λ k. drop k xs ++ ys) (sym here)

-- ---- the last of two lists

drop-past : {X : Type 0} (xs ys : List X) (k : ℕ) → drop (length xs + k) (xs ++ ys) ≡ drop k ys
drop-past [] ys k = ap (λ n. drop n ys) (let e : 0 + k ≡ k = omega arith in e)
drop-past (x ∷ xs) ys k = ap (λ n. drop n (x ∷ (xs ++ ys))) (let e : suc (length xs) + k ≡ suc (length xs + k) = omega arith in e) ∙ drop-past xs ys k

pub last-append : {X : Type 0} (most : ℕ) (xs ys : List X) → most ≤ length ys → last_of most (xs ++ ys) ≡ last_of most ys
last-append most xs ys many =
    ap (λ n. drop n (xs ++ ys)) (let e : length (xs ++ ys) - most ≡ length xs + (length ys - most) = omega (arith, many, length-append xs ys) in e)
    ∙ drop-past xs ys (length ys - most)

-- what comes after the last of a list comes after the list
pub last-then : {X : Type 0} (most : ℕ) (xs ys : List X) → last_of most (last_of most xs ++ ys) ≡ last_of most (xs ++ ys)
last-then most xs ys = elim (cases_lt most (length xs)) [
  | inr few ↦ ap (λ zs. last_of most (zs ++ ys)) (last-all most xs few)
  | inl many ↦
      let k = length xs - most in
      let ks = last_of most xs in
      let full : most ≤ length (ks ++ ys) = omega (arith, many, length-drop k xs, length-append ks ys) in
      sym (last-append most (take k xs) (ks ++ ys) full)
      ∙ ap (last_of most) (sym (append_assoc (take k xs) ks ys) ∙ ap (λ zs. zs ++ ys) (take-append-drop k xs))
]

-- ---- the first place that passes

pub any_here : (p : ℕ → Bool) (at n : ℕ) → at < n → p at ≡ true → list_any p (range_with_len at (n - at)) ≡ true
any_here p at n l e =
    let k = n - (at + 1) in
    let s : n - at ≡ suc k = omega (arith, l) in
    ap (λ j. list_any p (range_with_len at j)) s ∙ ap (λ b. b || list_any p (range_with_len (at + 1) k)) e

pub any_later : (p : ℕ → Bool) (at n : ℕ) → at < n → p at ≡ false → list_any p (range_with_len at (n - at)) ≡ list_any p (range_with_len (at + 1) (n - (at + 1)))
any_later p at n l e =
    let k = n - (at + 1) in
    let s : n - at ≡ suc k = omega (arith, l) in
    ap (λ j. list_any p (range_with_len at j)) s ∙ ap (λ b. b || list_any p (range_with_len (at + 1) k)) e

-- ---- what is told again

pub few-later : {Z E : Type 0} (r : Result (Vec Notice Z) E) (seq most : ℕ) (ns : List Notice) → IfOk r (λ v. v.items ≡ later_than seq ns) → length ns ≤ most → IfOk r (λ v. length v.items ≤ most)
few-later (Ok v) seq most ns is few =
    let later = λ (n : Notice). nat_lt seq (seq_of n) in
    omega (arith, ap (λ (l : List Notice). length l) is, length-filter later ns, count_by-le-length later ns, few)
few-later (Err e) seq most ns is few = is

-- ---- by client

-- of a client for whom there was no room nothing was told
pub same-more : (rs : List Recall) (c : ℕ) → recall_at (rs ++ nothing_told ∷ []) c ≡ recall_at rs c
same-more [] zero = refl
same-more [] (suc c) = refl
same-more (r ∷ rs) zero = refl
same-more (r ∷ rs) (suc c) = same-more rs c

module _ (rs olds : List Recall) where
  pub kept-next : (most at : ℕ) (r x : Recall) (own : ℕ → List Notice) (Few : ℕ → Type 0) (mine : List Notice) → at < length rs →
      ((c : ℕ) → c < at → Few c → recall_at rs c ≡ with_before most (own c) (recall_at olds c)) →
      ((c : ℕ) → at ≤ c → recall_at rs c ≡ recall_at olds c) →
      x ≡ get_or rs at x → r ≡ with_before most mine x → (Few at → mine ≡ own at) →
      (c : ℕ) → c < at + 1 → Few c → recall_at (set rs at r) c ≡ with_before most (own c) (recall_at olds c)
  kept-next most at r x own Few mine there kept others is adds made c l few =
      elim (cases_eq c at) [
        | inl e ↦
            let old : x ≡ recall_at olds at = is ∙ get_or_default rs at x nothing_told there ∙ others at (omega arith) in
            let here : Few at = subst Few e few in
            subst (λ k. recall_at (set rs at r) k ≡ with_before most (own k) (recall_at olds k)) (sym e)
            (get_or-set_same rs at r nothing_told there ∙ adds ∙ ap (λ ns. with_before most ns x) (made here) ∙ ap (with_before most (own at)) old)
        | inr ne ↦ get_or-set_other rs at c r nothing_told ne ∙ kept c (omega (arith, l, ne)) few
      ]

  pub others-next : (at : ℕ) (r : Recall) → ((c : ℕ) → at ≤ c → recall_at rs c ≡ recall_at olds c) → (c : ℕ) → at + 1 ≤ c → recall_at (set rs at r) c ≡ recall_at olds c
  others-next at r others c l = get_or-set_other rs at c r nothing_told (λ e. omega (arith, l, e)) ∙ others c (omega (arith, l))
