-- The state of a robot by its six values.
use Rattle.std.proofs.Common.{◌≡◌, ◌≤◌, ◌<◌, List, [], ◌∷◌, length, get_or, map, refl, sym, arith, rules}
use Rattle.serde_json.specs.View.{view}
use Rattle.serde_json.specs.declared.value.Value.{Value}
use Rattle.fleet_trace.proofs.read.opening.robot_with.Goals as goal

six : (xs : List Value) {a b c d e f : Value} → 6 ≤ length xs → length xs < 7
    → a ≡ get_or xs 0 a → b ≡ get_or xs 1 b → c ≡ get_or xs 2 c → d ≡ get_or xs 3 d → e ≡ get_or xs 4 e → f ≡ get_or xs 5 f
    → map view xs ≡ view a ∷ view b ∷ view c ∷ view d ∷ view e ∷ view f ∷ []
six [] low high p q r s t u = absurd (omega (arith, low))
six (a' ∷ []) low high p q r s t u = absurd (omega (arith, low))
six (a' ∷ b' ∷ []) low high p q r s t u = absurd (omega (arith, low))
six (a' ∷ b' ∷ c' ∷ []) low high p q r s t u = absurd (omega (arith, low))
six (a' ∷ b' ∷ c' ∷ d' ∷ []) low high p q r s t u = absurd (omega (arith, low))
six (a' ∷ b' ∷ c' ∷ d' ∷ e' ∷ []) low high p q r s t u = absurd (omega (arith, low))
six (a' ∷ b' ∷ c' ∷ d' ∷ e' ∷ f' ∷ []) low high p q r s t u = rw (p, q, r, s, t, u) refl
six (a' ∷ b' ∷ c' ∷ d' ∷ e' ∷ f' ∷ g' ∷ more) low high p q r s t u = absurd (omega (arith, high))

pub returns-in_default-count_of : goal.returns-in_default-count_of
returns-in_default-count_of c =
    rw (six c.args.values.now c.in-len6.len_at_least c.in-len6.len_below c.cell-item.is c.shut-item.is c.wait-item.is c.errands-item.is c.arrival_law-item.is c.farewell_law-item.is, sym c.count_of.ensures, c.in_default-count_of.is) refl

pub returns-in_default-as_bool : goal.returns-in_default-as_bool
returns-in_default-as_bool c =
    rw (six c.args.values.now c.in-len6.len_at_least c.in-len6.len_below c.cell-item.is c.shut-item.is c.wait-item.is c.errands-item.is c.arrival_law-item.is c.farewell_law-item.is, sym c.count_of.ensures, c.in-Some.is, sym c.as_bool.ensures, c.in_default-as_bool.is) refl

pub returns-in_default-wait_of : goal.returns-in_default-wait_of
returns-in_default-wait_of c =
    rw (six c.args.values.now c.in-len6.len_at_least c.in-len6.len_below c.cell-item.is c.shut-item.is c.wait-item.is c.errands-item.is c.arrival_law-item.is c.farewell_law-item.is, sym c.count_of.ensures, c.in-Some.is, sym c.as_bool.ensures, c.in-Some-as_bool.is, sym c.wait_of.ensures, c.in_default-wait_of.is) refl

pub returns-in_default-law_of : goal.returns-in_default-law_of
returns-in_default-law_of c =
    rw (six c.args.values.now c.in-len6.len_at_least c.in-len6.len_below c.cell-item.is c.shut-item.is c.wait-item.is c.errands-item.is c.arrival_law-item.is c.farewell_law-item.is, sym c.count_of.ensures, c.in-Some.is, sym c.as_bool.ensures, c.in-Some-as_bool.is, sym c.wait_of.ensures, c.in-Some-wait_of.is, sym c.law_of.ensures, c.in_default-law_of.is) refl

pub returns-in_default-law_of-2 : goal.returns-in_default-law_of-2
returns-in_default-law_of-2 c =
    rw (six c.args.values.now c.in-len6.len_at_least c.in-len6.len_below c.cell-item.is c.shut-item.is c.wait-item.is c.errands-item.is c.arrival_law-item.is c.farewell_law-item.is, sym c.count_of.ensures, c.in-Some.is, sym c.as_bool.ensures, c.in-Some-as_bool.is, sym c.wait_of.ensures, c.in-Some-wait_of.is, sym c.law_of.ensures, c.in-Some-law_of.is, sym c.law_of-2.ensures, c.in_default-law_of-2.is) refl

pub returns : goal.returns
returns c =
    rw (six c.args.values.now c.in-len6.len_at_least c.in-len6.len_below c.cell-item.is c.shut-item.is c.wait-item.is c.errands-item.is c.arrival_law-item.is c.farewell_law-item.is, sym c.count_of.ensures, c.in-Some.is, sym c.as_bool.ensures, c.in-Some-as_bool.is, sym c.wait_of.ensures, c.in-Some-wait_of.is, sym c.law_of.ensures, c.in-Some-law_of.is, sym c.law_of-2.ensures, c.in-Some-law_of-2.is) (rw c.in_ok-errands.ensures refl)

pub returns-in_err-errands : goal.returns-in_err-errands
returns-in_err-errands c =
    rw (six c.args.values.now c.in-len6.len_at_least c.in-len6.len_below c.cell-item.is c.shut-item.is c.wait-item.is c.errands-item.is c.arrival_law-item.is c.farewell_law-item.is, sym c.count_of.ensures, c.in-Some.is, sym c.as_bool.ensures, c.in-Some-as_bool.is, sym c.wait_of.ensures, c.in-Some-wait_of.is, sym c.law_of.ensures, c.in-Some-law_of.is, sym c.law_of-2.ensures, c.in-Some-law_of-2.is) (search rules)
