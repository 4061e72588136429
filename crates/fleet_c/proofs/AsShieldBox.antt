-- The parts of a box of a `Held`, and what C holds, own what such a box owns.
use mathlib.Core.Path.{refl, subst}
use mathlib.Core.List.{[]}
use lib.Dec.{T}
use Rattle.std.specs.Prelude.{◌≡◌, Option, None, Some, IsSome, Bool, not}
use mir.Syntax.{impl, tnil, dnil}
use denote.Signature.{Slot, plain}
use Rattle.std.proofs.BoxSteps.Form.{Bx}
use Rattle.std_heap.specs.contracts.Global as heap
use Rattle.std_heap.specs.contracts.GlobalAllocator.TheImpl.{ghosts, dict}
use Rattle.std_heap.proofs.Global.TheLaws as heap_laws
use Rattle.fleet_c.specs.OwnsShield.{held_row}
use Rattle.fleet_shield.proofs.shield.Shield.TheLaws as held_laws
use Rattle.fleet_c.specs.contracts.parts.Parts as parts
use Rattle.fleet_c.specs.contracts.owned_shield.OwnedShield as owned

abbrev pub E : Bx
E = record { row = held_row; laws = held_laws.the_row_laws heap.the_row ghosts heap_laws.the_row_laws; al = record { row = heap.the_row; laws = heap_laws.the_row_laws; g = ghosts; d = dict; drops = impl [] tnil dnil } }

abbrev pub FromParts : Slot 0
FromParts = plain (λ _. parts.the_row held_row heap.the_row ghosts)

abbrev pub FromOwned : Slot 0
FromOwned = plain (λ _. owned.the_row)

pub some_of : {X : Type 0} (o : Option X) → IsSome o → (x : X) × (o ≡ Some x)
some_of None e = absurd (subst (λ (b : Bool). T (not b)) e tt)
some_of (Some x) e = (x, refl)
