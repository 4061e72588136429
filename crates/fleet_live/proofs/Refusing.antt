-- Why a fleet in real time was not opened.
use Rattle.std.proofs.Common.{◌≡◌, ◌↔◌, ℕ, Bool, List, Result, Ok, Err, ap, subst}
use Rattle.std.specs.Prelude.{IfErr}
use Rattle.fleet_book.specs.declared.limits.Limits.{Limits}
use Rattle.fleet_grid.specs.Floor.{Floor}
use Rattle.fleet_core.specs.Hooks.{HookLaws}
use Rattle.fleet_core.specs.OpeningFaults.{IsNamed, IsRefused}
use Rattle.fleet_core.specs.declared.faults.OpenFault.{OpenFault}
use Rattle.fleet_core.specs.declared.faults.OpenFault.TheVariants as why
use Rattle.fleet_talk.specs.declared.fault.TalkFault.{TalkFault}
use Rattle.fleet_talk.specs.declared.fault.TalkFault.TheVariants.{Opening}
use Rattle.fleet_live.specs.Ended.{IsEnded}

abbrev err : {X E : Type 0} → E → Result X E
err e = Err e

abbrev ok : {X E : Type 0} → X → Result X E
ok x = Ok x

same_err : {X E : Type 0} (f g : E) → err {X = X} f ≡ err g → f ≡ g
same_err f g h = cc

same_why : (f g : OpenFault) → Opening f ≡ Opening g → f ≡ g
same_why f g h = cc

never : {X E : Type 0} (x : X) (e : E) → ok x ≡ err e → ⊥
never x e h = absurd cc

-- the office refused the opening
pub refused-by : {X Y : Type 0} (fault named : OpenFault) (t : TalkFault) (R : Type 0) → ((t ≡ Opening named) ↔ (fault ≡ named)) → ((err {X = X} fault ≡ Err named) ↔ R) → ((err {X = Y} t ≡ Err (Opening named)) ↔ R)
refused-by fault named t R is refused = (
  λ e. refused.0 (ap (λ f. Err f) (is.0 (same_err t (Opening named) e))),
  λ r. ap (λ f. Err f) (is.1 (same_err fault named (refused.1 r))),
)

-- the office was opened
pub opened-by : {X : Type 0} (x : X) (named : OpenFault) (result : Result Bool TalkFault) (R : Type 0) → IfErr result IsEnded → ((ok {E = OpenFault} x ≡ Err named) ↔ R) → ((result ≡ Err (Opening named)) ↔ R)
opened-by x named (Ok b) R ended refused = (λ e. absurd (never b (Opening named) e), λ r. absurd (never x named (refused.1 r)))
opened-by x named (Err f) R ended refused = (λ e. absurd (subst IsEnded (same_err f (Opening named) e) ended), λ r. absurd (never x named (refused.1 r)))

-- what is refused is refused for a reason other than out of memory
pub named-of : (m : Floor) (starts : List ℕ) (clients : ℕ) (limits : Limits) (laws : HookLaws) (named : OpenFault) → IsRefused m starts clients limits laws named → IsNamed named
named-of m starts clients limits laws why.Limits r = tt
named-of m starts clients limits laws why.NoRobots r = tt
named-of m starts clients limits laws (why.Start q) r = tt
named-of m starts clients limits laws (why.Shared q u) r = tt
named-of m starts clients limits laws why.Hooks r = tt
named-of m starts clients limits laws why.NoMemory r = absurd r

-- the same of an equal map, in equal terms
pub in-ground : (P : Floor → List ℕ → ℕ → Limits → HookLaws → Type 0) (m o : Floor) (s t : List ℕ) (c d : ℕ) (l k : Limits) (h i : HookLaws) → m ≡ o → s ≡ t → c ≡ d → l ≡ k → h ≡ i → P m s c l h → P o t d k i
in-ground P m o s t c d l k h i a b e f q p = rw (← a, ← b, ← e, ← f, ← q) p
