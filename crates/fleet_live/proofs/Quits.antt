-- The first line that ends a fleet, line by line.
use Rattle.std.proofs.Common.{◌≡◌, ◌∙◌, ◌≤◌, ◌+◌, ◌-◌, ℕ, zero, suc, Bool, true, false, List, Option, Some, None, length, drop, take, refl, sym, ap, subst, arith}
use Rattle.std.specs.Prelude.{if◌then◌else◌}
use Rattle.std.specs.List.{position}
use Rattle.std.proofs.lemmas.List.{drop-drop, length-drop}
use Rattle.std.proofs.lemmas.List.Quantifiers.{position-Some}
use Rattle.live_parts.specs.declared.demand.Rights.{Rights}
use Rattle.fleet_live.specs.Quit.{at_line, ends_fleet, further, quit_in}
use Rattle.fleet_live.specs.Taken.{is_line_feed}
use Rattle.fleet_live.proofs.Sent.{suffix}

further_more : (a b : ℕ) (found : ℕ × Bool) → further a (further b found) ≡ further (a + b) found
further_more a b found = ap (λ (k : ℕ). (k, found.1)) (omega arith)

-- what is looked at of the bytes
abbrev IsRest : List ℕ → ℕ → List ℕ → Type 0
IsRest bytes looked rest = rest ≡ take (length bytes - looked) (drop looked bytes)

pub line_within : (bytes rest : List ℕ) (looked len : ℕ) → looked ≤ length bytes → IsRest bytes looked rest → position is_line_feed rest ≡ Some len → looked + (len + 1) ≤ length bytes
line_within bytes rest looked len within is found =
    let (inside, feed, before) = position-Some is_line_feed rest len 0 found in
    omega (arith, within, inside, ap length (is ∙ suffix looked bytes), length-drop looked bytes)

-- the first line of what is left
first_line : (rights : Rights) (bytes rest : List ℕ) (looked len lines : ℕ) (ends : Bool) → IsRest bytes looked rest → position is_line_feed rest ≡ Some len → ends_fleet rights (take len rest) ≡ ends
    → quit_in (suc lines) rights (drop looked bytes) ≡ (if ends then (0, true) else further (len + 1) (quit_in lines rights (drop (len + 1) (drop looked bytes))))
first_line rights bytes rest looked len lines ends is found asked =
    let whole : rest ≡ drop looked bytes = is ∙ suffix looked bytes in
    let left : List ℕ = drop looked bytes in
    ap (λ (o : Option ℕ). at_line o (λ k. if ends_fleet rights (take k left) then (0, true) else further (k + 1) (quit_in lines rights (drop (k + 1) left)))) (subst (λ (l : List ℕ). position is_line_feed l ≡ Some len) whole found)
    ∙ ap (λ (b : Bool). if b then (0, true) else further (len + 1) (quit_in lines rights (drop (len + 1) left))) (subst (λ (l : List ℕ). ends_fleet rights (take len l) ≡ ends) whole asked)

pub after_line : (rights : Rights) (bytes rest : List ℕ) (looked len more lines : ℕ) (found : ℕ × Bool) → more ≡ suc lines → IsRest bytes looked rest → position is_line_feed rest ≡ Some len → ends_fleet rights (take len rest) ≡ false
    → further looked (quit_in more rights (drop looked bytes)) ≡ found → further (looked + (len + 1)) (quit_in lines rights (drop (looked + (len + 1)) bytes)) ≡ found
after_line rights bytes rest looked len more lines found one is at asked so_far =
    ap (λ (l : List ℕ). further (looked + (len + 1)) (quit_in lines rights l)) (sym (drop-drop (len + 1) looked bytes))
    ∙ (sym (further_more looked (len + 1) (quit_in lines rights (drop (len + 1) (drop looked bytes))))
    ∙ (ap (further looked) (sym (first_line rights bytes rest looked len lines false is at asked)) ∙ (ap (λ (k : ℕ). further looked (quit_in k rights (drop looked bytes))) (sym one) ∙ so_far)))

pub at_quit : (rights : Rights) (bytes rest : List ℕ) (looked len more lines : ℕ) (found : ℕ × Bool) → more ≡ suc lines → IsRest bytes looked rest → position is_line_feed rest ≡ Some len → ends_fleet rights (take len rest) ≡ true
    → further looked (quit_in more rights (drop looked bytes)) ≡ found → (looked, true) ≡ found
at_quit rights bytes rest looked len more lines found one is at asked so_far =
    let same : looked ≡ looked + 0 = omega arith in
    ap (λ (k : ℕ). (k, true)) same ∙ (ap (further looked) (sym (first_line rights bytes rest looked len lines true is at asked)) ∙ (ap (λ (k : ℕ). further looked (quit_in k rights (drop looked bytes))) (sym one) ∙ so_far))

no_line : (rights : Rights) (left : List ℕ) (lines : ℕ) → position is_line_feed left ≡ None → quit_in lines rights left ≡ (0, false)
no_line rights left zero none = refl
no_line rights left (suc lines) none = ap (λ (o : Option ℕ). at_line o (λ k. if ends_fleet rights (take k left) then (0, true) else further (k + 1) (quit_in lines rights (drop (k + 1) left)))) none

pub at_none : (rights : Rights) (bytes rest : List ℕ) (looked lines : ℕ) (found : ℕ × Bool) → IsRest bytes looked rest → position is_line_feed rest ≡ None → further looked (quit_in lines rights (drop looked bytes)) ≡ found → (looked, false) ≡ found
at_none rights bytes rest looked lines found is none so_far =
    let same : looked ≡ looked + 0 = omega arith in
    let left : position is_line_feed (drop looked bytes) ≡ None = subst (λ (l : List ℕ). position is_line_feed l ≡ None) (is ∙ suffix looked bytes) none in
    ap (λ (k : ℕ). (k, false)) same ∙ (ap (further looked) (sym (no_line rights (drop looked bytes) lines left)) ∙ so_far)
