-- The manner in which the ticks of a conversation's fleet are planned.
use Rattle.std.proofs.Common.{◌≡◌, ◌∙◌, ℕ, List, Bool, length, Option, Some, None, refl, sym, ap, subst}
use Rattle.std.specs.declared.alloc.Global.{Global}
use Rattle.fleet_bridge.specs.Roominess.{AreRoomyFor}
use Rattle.fleet_book.specs.declared.limits.Limits.{Limits}
use Rattle.fleet_grid.specs.Floor.{Floor}
use Rattle.fleet_core.specs.Core.{World, TakesTurns}
use Rattle.fleet_core.specs.Hooks.{HookLaws, AreOrderly}
use Rattle.fleet_core.specs.Opening.{CanOpen}
use Rattle.fleet_core.specs.OpeningFaults.{IsNamed, IsRefused}
use Rattle.fleet_core.specs.declared.faults.OpenFault.{OpenFault}
use Rattle.fleet_core.specs.declared.faults.OpenFault.TheVariants as why
use Rattle.fleet_reopen.specs.declared.fault.ReopenFault.TheVariants as reopen_fault
use Rattle.fleet_script.specs.Script.{Draft}
use Rattle.fleet_text.specs.Kit.{KitLaws}
use Rattle.fleet_turns.specs.declared.planner.NoTurns.{NoTurns}
use Rattle.fleet_turns.specs.declared.planner.NoTurns.TheVariants as no_turns
use Rattle.mover.specs.declared.manner.Manner.{Manner}
use Rattle.mover.specs.declared.manner.Manner.TheVariants as manner
use Rattle.turns_law.specs.Turns.{Turns}
use Rattle.fleet_world.specs.Talk.{Talk, Waiting, opened_talk, quiet_talk, talk_of}
use Rattle.fleet_talk.specs.declared.door.Door.{Door}
use Rattle.fleet_talk.specs.declared.fault.TalkFault.{TalkFault}
use Rattle.fleet_talk.specs.declared.fault.TalkFault.TheVariants as talk_faults
use Rattle.fleet_talk.specs.declared.resuming.ResumeFault.{ResumeFault}
use Rattle.fleet_talk.specs.declared.resuming.ResumeFault.TheVariants as resume_fault
use Rattle.fleet_talk.specs.Chapters.{ChapterView}
use Rattle.fleet_talk.specs.Conversation.{IsUnopened, Terms, clients_in, laws_in, limits_in}
use Rattle.fleet_talk.specs.Door.{AreRefused}
use Rattle.fleet_talk.specs.Manners.{AreTaken, IsFresh, in_turns, taking}
use Rattle.fleet_talk.specs.Refusals.{talk_fault}
use Rattle.fleet_talk.specs.Resumed.{IsUnresumed, MayResume, TakesOn, resumed, resumed_in, world_after}

-- ---- a fleet that was just opened

pub fresh-as : {A : Type 0} (s t : Talk A) → s ≡ t → IsFresh t.world → IsFresh s.world
fresh-as s t same fresh = subst (λ (x : Talk _). IsFresh x.world) (sym same) fresh

pub fresh-opened : {A : Type 0} (s : Talk A) (m : Floor) (starts : List ℕ) (n : ℕ) (limits : Limits) (laws : HookLaws) → s ≡ opened_talk m starts n limits laws → IsFresh s.world
fresh-opened s m starts n limits laws same = fresh-as s (opened_talk m starts n limits laws) same (record { entries = refl; plain = refl })

-- ---- the manner is chosen

abbrev some_turns : Turns → Option Turns
some_turns t = Some t

pub taken-plainly : {A : Type 0} (asked : Manner) (w : World A) → asked ≡ manner.Plain → IsFresh w → AreTaken asked w w.turns
taken-plainly asked w plain fresh = rw plain (record {
  has = λ t is. (let bad : None ≡ some_turns t = sym fresh.plain ∙ is in absurd cc);
  chosen = fresh.plain;
})

pub taken-in-turns : {A : Type 0} (asked : Manner) (w v : World A) → asked ≡ manner.Turns → TakesTurns w v → AreTaken asked w v.turns
taken-in-turns asked w v turns taken = rw turns (record { has = taken.has; chosen = taken.taken })

pub same-in-turns : {A : Type 0} (w v : World A) (l k : List Waiting) → k ≡ l → TakesTurns w v → talk_of v k ≡ in_turns v.turns (talk_of w l)
same-in-turns w v l k same taken = ap (λ (x : World _). talk_of x k) taken.world ∙ ap (λ (x : List Waiting). talk_of (taking v.turns w) x) same

-- ---- the fleet that a head opens

pub takes-as : (asked : Manner) (s t : Talk Global) (turns : Option Turns) → s ≡ t → AreTaken asked s.world turns → AreTaken asked t.world turns
takes-as asked s t turns same taken = subst (λ (x : Talk Global). AreTaken asked x.world turns) same taken

pub in-turns-as : (r s t : Talk Global) (turns : Option Turns) → r ≡ in_turns turns s → s ≡ t → r ≡ in_turns turns t
in-turns-as r s t turns is same = is ∙ ap (in_turns turns) same

-- the door is the same, and so is the map
pub known-as : (r s : Talk Global) (turns : Option Turns) (d e : Door) → r ≡ in_turns turns s → d ≡ e → AreRoomyFor s.world.floor e.roominess.items → AreRoomyFor r.world.floor d.roominess.items
known-as r s turns d e is same known =
    subst (λ (x : Door). AreRoomyFor r.world.floor x.roominess.items) (sym same) (subst (λ (x : Talk Global). AreRoomyFor x.world.floor e.roominess.items) (sym is) known)

pub refused-as : (roomy : Bool) (m : Floor) (n : ℕ) (d e : Door) → d ≡ e → AreRefused roomy m n e.refused.marks.items → AreRefused roomy m n d.refused.marks.items
refused-as roomy m n d e same refused = subst (λ (x : Door). AreRefused roomy m n x.refused.marks.items) (sym same) refused

-- why it is not open
pub unopened-by : (kit : KitLaws) (m : Floor) (asked : Manner) (starts : List ℕ) (d : Draft) (f : OpenFault) (t : TalkFault) → t ≡ talk_fault f
    → (IsNamed f → IsRefused m starts (clients_in d) (limits_in d) (laws_in kit d starts) f) → IsUnopened kit m asked starts d t
unopened-by kit m asked starts d f t is refused = subst (IsUnopened kit m asked starts d) (sym is) (by f refused)
  where
    by : (f : OpenFault) → (IsNamed f → IsRefused m starts (clients_in d) (limits_in d) (laws_in kit d starts) f) → IsUnopened kit m asked starts d (talk_fault f)
    by why.NoMemory r = tt
    by why.Limits r = r tt
    by why.NoRobots r = r tt
    by (why.Start q) r = r tt
    by (why.Shared q u) r = r tt
    by why.Hooks r = r tt

pub unturned-by : (kit : KitLaws) (m : Floor) (asked : Manner) (starts : List ℕ) (d : Draft) (f : NoTurns) (t : TalkFault) → (f ≡ no_turns.NoMemory → t ≡ talk_faults.NoMemory) × (f ≡ no_turns.NoRooms → t ≡ talk_faults.NoRooms)
    → CanOpen m starts (clients_in d) (limits_in d) (laws_in kit d starts) → AreOrderly (laws_in kit d starts) → asked ≡ manner.Turns → IsUnopened kit m asked starts d t
unturned-by kit m asked starts d no_turns.NoMemory t is can orderly turns = subst (IsUnopened kit m asked starts d) (sym (is.0 refl)) tt
unturned-by kit m asked starts d no_turns.NoRooms t is can orderly turns = subst (IsUnopened kit m asked starts d) (sym (is.1 refl)) (can, orderly, turns)

-- ---- the fleet that goes on from a chapter

module _ (on : Terms) (c : ChapterView Global) (s : Talk Global) (w : World Global) (quiet : s ≡ quiet_talk w) (after : w ≡ world_after on.kit on.floor on.head c) where
  resumed-is : s ≡ resumed on.kit on.floor on.head c
  resumed-is = quiet ∙ ap (λ (x : World Global). quiet_talk x) after

  pub fresh-resumed : IsFresh s.world
  fresh-resumed = fresh-as s (resumed on.kit on.floor on.head c) resumed-is (record { entries = refl; plain = refl })

  pub takes-resumed : (turns : Option Turns) → AreTaken on.settings.manner s.world turns → TakesOn on c turns
  takes-resumed turns taken = takes-as on.settings.manner s (resumed on.kit on.floor on.head c) turns resumed-is taken

  pub resumed-turns : (r : Talk Global) (turns : Option Turns) → r ≡ in_turns turns s → r ≡ resumed_in on c turns
  resumed-turns r turns is = in-turns-as r s (resumed on.kit on.floor on.head c) turns is resumed-is

pub unresumed-by : (on : Terms) (c : ChapterView Global) (f : NoTurns) (t : ResumeFault) → (f ≡ no_turns.NoMemory → t ≡ resume_fault.Chapter reopen_fault.NoMemory) × (f ≡ no_turns.NoRooms → t ≡ resume_fault.NoRooms)
    → MayResume on.kit on.floor on.head c → on.settings.manner ≡ manner.Turns → IsUnresumed on c t
unresumed-by on c no_turns.NoMemory t is may asked = subst (IsUnresumed on c) (sym (is.0 refl)) tt
unresumed-by on c no_turns.NoRooms t is may asked = subst (IsUnresumed on c) (sym (is.1 refl)) (record { may = may; asked = asked })
