-- What is refused for one reason by a part is refused for it by the whole.
use Rattle.std.proofs.Common.{◌≡◌, ◌↔◌, Bool, true, false, subst, sym}
use Rattle.std.specs.Prelude.{ℕ, List}
use Rattle.std.proofs.lemmas.Bool.{both_ways}
use Rattle.std.specs.declared.alloc.Global.{Global}
use Rattle.fleet_grid.specs.Floor.{Floor}
use Rattle.fleet_bridge.specs.Roominess.{AreRoomyFor}
use Rattle.fleet_bound.specs.Roomy.{AreOpenRoomy}
use Rattle.fleet_history.specs.History.{robots}
use Rattle.fleet_core.specs.Core.{World}
use Rattle.fleet_trace.specs.Trace.{Trace}
use Rattle.fleet_trace.specs.Reads.{Tells}
use Rattle.fleet_c.specs.declared.refusal.Refusal.{Refusal}
use Rattle.fleet_c.specs.declared.refusal.Refusal.TheVariants as refusal
use Rattle.fleet_c.specs.declared.reopen_refusal.ReopenRefusal.{ReopenRefusal}
use Rattle.fleet_c.specs.declared.reopen_refusal.ReopenRefusal.TheVariants as refused
use Rattle.fleet_c.specs.declared.robot.Robot.{Robot}
use Rattle.fleet_c.specs.declared.setup.Setup.{Setup}
use Rattle.fleet_c.specs.Opening.{IsSized, Reads, IsRefusedOn, IsRefusal}
use Rattle.fleet_c.specs.Roomy.{AreRefused}
use Rattle.fleet_c.specs.Reopened.{IsNotGoingOn, GoesOnFrom, GoesOnRoomily, DoesNotGoOnFrom, DoesNotGoOnRoomily, IsNotReopened, IsNotReopenedRoomily}

pub on-floor : (bytes : List ℕ) (robots : List Robot) (setup : Setup) (m : Floor) → IsSized setup → Reads bytes m → (why : Refusal) → IsRefusedOn m robots setup why → IsRefusal bytes robots setup why
on-floor bytes robots setup m sized reads refusal.NoMemory r = tt
on-floor bytes robots setup m sized reads refusal.Size r = absurd r
on-floor bytes robots setup m sized reads (refusal.Map fault) r = absurd r
on-floor bytes robots setup m sized reads refusal.Setup r = (sized, (m, reads, r))
on-floor bytes robots setup m sized reads refusal.RobotCount r = (sized, (m, reads, r))
on-floor bytes robots setup m sized reads (refusal.Start i) r = (sized, (m, reads, r))
on-floor bytes robots setup m sized reads (refusal.Shared i j) r = (sized, (m, reads, r))

pub from-chapter : (m : Floor) (text : List ℕ) (kept : Trace Global) (robots : List Robot) (setup : Setup) → Tells text kept → (why : ReopenRefusal) → IsNotGoingOn m kept robots setup why → DoesNotGoOnFrom m text robots setup why
from-chapter m text kept robots setup tells refused.NoMemory r = tt
from-chapter m text kept robots setup tells refused.Size r = absurd r
from-chapter m text kept robots setup tells (refused.Map fault) r = absurd r
from-chapter m text kept robots setup tells (refused.Trace fault) r = absurd r
from-chapter m text kept robots setup tells (refused.Chapter fault) r = (kept, tells, r)
from-chapter m text kept robots setup tells refused.NoRoom r = absurd r

pub from-text : (bytes text : List ℕ) (robots : List Robot) (setup : Setup) (m : Floor) → IsSized setup → Reads bytes m → (why : ReopenRefusal) → DoesNotGoOnFrom m text robots setup why → IsNotReopened bytes text robots setup why
from-text bytes text robots setup m sized reads refused.NoMemory r = tt
from-text bytes text robots setup m sized reads refused.Size r = absurd r.2
from-text bytes text robots setup m sized reads (refused.Map fault) r = absurd r.2
from-text bytes text robots setup m sized reads (refused.Trace fault) r = (sized, (m, reads, r))
from-text bytes text robots setup m sized reads (refused.Chapter fault) r = (sized, (m, reads, r))
from-text bytes text robots setup m sized reads refused.NoRoom r = absurd r

-- the same of a fleet that takes no errand to a cell that is not roomy
pub roomily : (m : Floor) (text : List ℕ) (robots : List Robot) (setup : Setup) → (why : ReopenRefusal) → DoesNotGoOnFrom m text robots setup why → DoesNotGoOnRoomily m text robots setup why
roomily m text robots setup refused.NoMemory r = r
roomily m text robots setup refused.Size r = r
roomily m text robots setup (refused.Map fault) r = r
roomily m text robots setup (refused.Trace fault) r = r
roomily m text robots setup (refused.Chapter fault) r = r
roomily m text robots setup refused.NoRoom r = absurd r

pub from-text-roomily : (bytes text : List ℕ) (robots : List Robot) (setup : Setup) (m : Floor) → IsSized setup → Reads bytes m → (why : ReopenRefusal) → DoesNotGoOnRoomily m text robots setup why → IsNotReopenedRoomily bytes text robots setup why
from-text-roomily bytes text robots setup m sized reads refused.NoMemory r = tt
from-text-roomily bytes text robots setup m sized reads refused.Size r = absurd r.2
from-text-roomily bytes text robots setup m sized reads (refused.Map fault) r = absurd r.2
from-text-roomily bytes text robots setup m sized reads (refused.Trace fault) r = (sized, (m, reads, r))
from-text-roomily bytes text robots setup m sized reads (refused.Chapter fault) r = (sized, (m, reads, r))
from-text-roomily bytes text robots setup m sized reads refused.NoRoom r = (sized, (m, reads, r))

-- a world of which it is known that an unfinished errand goes to a cell that is not roomy
pub not-roomy : {A : Type 0} (m : Floor) (w : World A) (most seen : List ℕ) (b : Bool) → w.floor ≡ m → AreRoomyFor m most → seen ≡ most → (AreRoomyFor w.floor seen → (b ≡ true) ↔ AreOpenRoomy w.floor w.history) → b ≡ false → AreOpenRoomy m w.history → ⊥
not-roomy m w most seen b floor known same says off roomy =
    let at : AreRoomyFor w.floor seen = subst (λ (x : Floor). AreRoomyFor x seen) (sym floor) (subst (AreRoomyFor m) (sym same) known) in
    let on : b ≡ true = (says at).1 (subst (λ (x : Floor). AreOpenRoomy x w.history) (sym floor) roomy) in
    both_ways b off on

-- a world of which it is known that each unfinished errand goes to a roomy cell
pub is-roomy : {A : Type 0} (m : Floor) (w : World A) (most seen : List ℕ) (b : Bool) → w.floor ≡ m → AreRoomyFor m most → seen ≡ most → (AreRoomyFor w.floor seen → (b ≡ true) ↔ AreOpenRoomy w.floor w.history) → b ≡ true → AreOpenRoomy m w.history
is-roomy m w most seen b floor known same says on =
    let at : AreRoomyFor w.floor seen = subst (λ (x : Floor). AreRoomyFor x seen) (sym floor) (subst (AreRoomyFor m) (sym same) known) in
    subst (λ (x : Floor). AreOpenRoomy x w.history) floor ((says at).0 on)

-- the world is in a box, next to the cells that are refused for its robots
pub kept-roomily : (m : Floor) (text : List ℕ) (ranked : List Robot) (setup : Setup) (w v : World Global) (n : ℕ) (g : Floor) (cells kept : List Bool) → v ≡ w → kept ≡ cells →
    GoesOnFrom m text ranked setup w → AreOpenRoomy m w.history → g ≡ w.floor → n ≡ robots w.history → AreRefused true g n cells →
    GoesOnRoomily m text ranked setup v × AreRefused true v.floor (robots v.history) kept
kept-roomily m text ranked setup w v n g cells kept same marks goes roomy floor count refused =
    let here : AreRefused true w.floor (robots w.history) cells = subst (λ (k : ℕ). AreRefused true w.floor k cells) count (subst (λ (f : Floor). AreRefused true f n cells) floor refused) in (
      subst (λ (x : World Global). GoesOnRoomily m text ranked setup x) (sym same) (record { goes_on = goes; roomy = roomy }),
      subst (λ (x : World Global). AreRefused true x.floor (robots x.history) kept) (sym same) (subst (λ (ks : List Bool). AreRefused true w.floor (robots w.history) ks) (sym marks) here),
    )
