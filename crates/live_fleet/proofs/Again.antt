-- Notices that are told again, as many as one answer has.
use Rattle.std.proofs.Common.{◌≡◌, ◌∙◌, ℕ, ◌+◌, ◌-◌, ◌≤◌, ◌<◌, zero, suc, List, [], ◌∷◌, ◌++◌, length, drop, refl, sym, ap, arith, append_assoc, append-nil}
use Rattle.std.specs.List.{flat_map}
use Rattle.std.proofs.lemmas.List.{drop_all}
use Rattle.fleet_book.specs.declared.notice.Notice.{Notice}
use Rattle.fleet_text.specs.Output.{notice_line}
use Rattle.live_fleet.specs.Sessions.{told_again}

-- where nothing is left of the answer, or no notice
again_full : (mark client left : ℕ) (ns : List Notice) → left ≡ 0 → told_again mark client left ns ≡ []
again_full mark client left [] none = refl
again_full mark client zero (n ∷ ns) none = refl
again_full mark client (suc left) (n ∷ ns) none = absurd (omega (arith, none))

again_first : (mark client left : ℕ) (n : Notice) (ns : List Notice) → 0 < left → told_again mark client left (n ∷ ns) ≡ n ∷ told_again mark client (left - length (notice_line client n) - mark) ns
again_first mark client zero n ns some = absurd (omega (arith, some))
again_first mark client (suc left) n ns some = refl

-- These notices are told again from this place on, where so much is left of the answer: with the text before them it is the whole, and so is their number with the place
pub record Again (mark client most left at : ℕ) (ns : List Notice) (before text : List ℕ) : Type 0 where
  pub lines : text ++ flat_map (notice_line client) (told_again mark client left (drop at ns)) ≡ before ++ flat_map (notice_line client) (told_again mark client most ns)
  pub count : at + length (told_again mark client left (drop at ns)) ≡ length (told_again mark client most ns)

pub again-begins : (mark client most : ℕ) (ns : List Notice) (before : List ℕ) → Again mark client most most 0 ns before before
again-begins mark client most ns before = record { lines = refl; count = let e : 0 + length (told_again mark client most ns) ≡ length (told_again mark client most ns) = omega arith in e }

-- one more of them was told
pub again-next : (mark client most left less at : ℕ) (ns : List Notice) (n : Notice) (len : ℕ) (before text more : List ℕ) → Again mark client most left at ns before text → 0 < left → drop at ns ≡ n ∷ drop (at + 1) ns → len ≡ length (notice_line client n)
    → less ≡ left - len - mark → more ≡ text ++ notice_line client n → Again mark client most less (at + 1) ns before more
again-next mark client most left less at ns n len before text more so some first is rest grown =
    let less_is : less ≡ left - length (notice_line client n) - mark = rest ∙ ap (λ (l : ℕ). left - l - mark) is in
    let told : told_again mark client left (drop at ns) ≡ n ∷ told_again mark client less (drop (at + 1) ns) =
    ap (told_again mark client left) first ∙ (again_first mark client left n (drop (at + 1) ns) some ∙ ap (λ (m : ℕ). n ∷ told_again mark client m (drop (at + 1) ns)) (sym less_is)) in
    let old = so.count in
    let size : length (told_again mark client left (drop at ns)) ≡ suc (length (told_again mark client less (drop (at + 1) ns))) = ap length told in
    record {
      lines = ap (λ (l : List ℕ). l ++ flat_map (notice_line client) (told_again mark client less (drop (at + 1) ns))) grown
          ∙ (append_assoc text (notice_line client n) (flat_map (notice_line client) (told_again mark client less (drop (at + 1) ns)))
          ∙ (ap (λ (l : List Notice). text ++ flat_map (notice_line client) l) (sym told) ∙ so.lines));
      count = omega (arith, old, size);
    }

-- all of them were told, and these are how many
pub record AllAgain (mark client most count : ℕ) (ns : List Notice) (before text : List ℕ) : Type 0 where
  pub lines : text ≡ before ++ flat_map (notice_line client) (told_again mark client most ns)
  pub many : count ≡ length (told_again mark client most ns)

-- none of them is left
done : (mark client most left at : ℕ) (ns : List Notice) (before text : List ℕ) → Again mark client most left at ns before text → told_again mark client left (drop at ns) ≡ [] → AllAgain mark client most at ns before text
done mark client most left at ns before text so none =
    let old = so.count in
    let size : length (told_again mark client left (drop at ns)) ≡ 0 = ap length none in
    record {
      lines = sym (append-nil text) ∙ (ap (λ (l : List Notice). text ++ flat_map (notice_line client) l) (sym none) ∙ so.lines);
      many = omega (arith, old, size);
    }

pub again-full : (mark client most left at : ℕ) (ns : List Notice) (before text : List ℕ) → Again mark client most left at ns before text → left ≡ 0 → AllAgain mark client most at ns before text
again-full mark client most left at ns before text so none = done mark client most left at ns before text so (again_full mark client left (drop at ns) none)

-- no more of them are told than there are
told_short : (mark client left : ℕ) (ns : List Notice) → length (told_again mark client left ns) ≤ length ns
told_short mark client left [] = omega arith
told_short mark client zero (n ∷ ns) = omega arith
told_short mark client (suc left) (n ∷ ns) = let rest = told_short mark client (suc left - length (notice_line client n) - mark) ns in omega (arith, rest)

pub again-ends : (mark client most left at : ℕ) (ns : List Notice) (before text : List ℕ) → Again mark client most left at ns before text → length ns ≤ at → AllAgain mark client most (length ns) ns before text
again-ends mark client most left at ns before text so past =
    let all = done mark client most left at ns before text so (ap (told_again mark client left) (drop_all at ns past)) in
    let few = told_short mark client most ns in
    let many = all.many in
    record { lines = all.lines; many = omega (arith, many, few, past) }
