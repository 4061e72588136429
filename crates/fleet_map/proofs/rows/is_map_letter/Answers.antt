-- The bytes that are a map's letters, and those that are not.
use Rattle.std.proofs.Common.{◌≡◌, ℕ, ◌≤◌, ◌<◌, ◌⊎◌, eqb, true, false, refl, inl, inr, ne_eqb, arith}
use Rattle.fleet_map.specs.Grammar.{is_letter}
use Rattle.fleet_map.proofs.rows.is_map_letter.Goals as goal

is_one : (b : ℕ) → (b ≡ 46) ⊎ (b ≡ 64) ⊎ (b ≡ 71) ⊎ (b ≡ 79) ⊎ (b ≡ 87) → true ≡ is_letter b
is_one b (inl e) = rw e refl
is_one b (inr (inl e)) = rw e refl
is_one b (inr (inr (inl e))) = rw e refl
is_one b (inr (inr (inr (inl e)))) = rw e refl
is_one b (inr (inr (inr (inr e)))) = rw e refl

is_none : (b : ℕ) → ((b ≡ 46) ⊎ (b ≡ 64) ⊎ (b ≡ 71) ⊎ (b ≡ 79) ⊎ (b ≡ 87) → ⊥) → (b < 83) ⊎ (85 ≤ b)
    → false ≡ is_letter b
is_none b ne beside =
    let n46 : eqb b 46 ≡ false = ne_eqb b 46 (λ e. ne (inl e)) in
    let n71 : eqb b 71 ≡ false = ne_eqb b 71 (λ e. ne (inr (inr (inl e)))) in
    let n83 : eqb b 83 ≡ false = ne_eqb b 83 (λ e. omega arith) in
    let n64 : eqb b 64 ≡ false = ne_eqb b 64 (λ e. ne (inr (inl e))) in
    let n79 : eqb b 79 ≡ false = ne_eqb b 79 (λ e. ne (inr (inr (inr (inl e))))) in
    let n84 : eqb b 84 ≡ false = ne_eqb b 84 (λ e. omega arith) in
    let n87 : eqb b 87 ≡ false = ne_eqb b 87 (λ e. ne (inr (inr (inr (inr e))))) in
    rw (n46, n71, n83, n64, n79, n84, n87) refl

pub returns-in-46 : goal.returns-in-46
returns-in-46 c = is_one c.args.byte c.in-46.is

pub returns-in_default : goal.returns-in_default
returns-in_default c = is_none c.args.byte c.in_default.in_default-own.rest.1 (inl c.in_default.if-matches-own.true)

pub returns-in_default-2 : goal.returns-in_default-2
returns-in_default-2 c =
    is_none c.args.byte c.in_default.in_default-own.rest.1 (inr c.in_default.if-matches-2-own.false)
