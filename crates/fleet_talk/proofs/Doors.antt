-- A fleet and its door.
use Rattle.std.proofs.Common.{◌≡◌, ◌∙◌, ℕ, ◌<◌, ◌≤◌, ◌^◌, Bool, List, length, Option, Some, Result, Ok, Err, get_or, refl, sym, ap, subst, arith}
use Rattle.std.proofs.Math.Nat.{min-eq_left}
use Rattle.std.specs.Prelude.{min, Contains, OnOk, IfOk, IfSome, true, false, unwrap_or}
use Rattle.std.specs.List.{position}
use Rattle.std.proofs.lemmas.List.Elements.{Contains-get_or}
use Rattle.std.proofs.lemmas.List.Quantifiers.{position-Some}
use Rattle.std.specs.Option.{option_map}
use Rattle.std.specs.declared.alloc.AllocError.{AllocError}
use Rattle.std.specs.declared.alloc.Global.{Global}
use Rattle.fleet_core.specs.Core.{World}
use Rattle.fleet_core.specs.OpenErrands.{open_errands}
use Rattle.fleet_core.specs.declared.open_errands.OpenErrand.{OpenErrand}
use Rattle.fleet_roomy.specs.Unroomy.{has}
use Rattle.fleet_core.specs.declared.faults.OpenFault.{OpenFault}
use Rattle.fleet_history.specs.History.{robots}
use Rattle.fleet_history.proofs.Legal.{legal-opening}
use Rattle.fleet_reopen.specs.declared.fault.ReopenFault.TheVariants as reopen_fault
use Rattle.fleet_bridge.specs.Roominess.{AreRoomyFor}
use Rattle.fleet_grid.specs.Floor.{Floor}
use Rattle.fleet_talk.specs.declared.door.Door.{Door}
use Rattle.fleet_talk.specs.declared.door.UnroomyErrand.{UnroomyErrand}
use Rattle.fleet_talk.specs.declared.resuming.ResumeFault.{ResumeFault}
use Rattle.fleet_talk.specs.declared.resuming.ResumeFault.TheVariants as resume_fault
use Rattle.fleet_talk.specs.Chapters.{ChapterView}
use Rattle.fleet_script.specs.Script.{Draft}
use Rattle.fleet_text.specs.Kit.{KitLaws}
use Rattle.fleet_talk.specs.Conversation.{Terms}
use Rattle.fleet_talk.specs.Door.{AreRefused}
use Rattle.fleet_talk.specs.Resumed.{IsDoorFault, IsResumeFault, LetsIn, MayResume, NoneWaits, Waits, world_after}

pub ok-of : {X E : Type 0} (r : Result X E) (P : Type 0) → P → OnOk r P
ok-of (Ok x) P p = p
ok-of (Err e) P p = tt

pub ok-by : {X E : Type 0} (r : Result X E) (P Q : X → Type 0) → ((x : X) → P x → Q x) → IfOk r P → IfOk r Q
ok-by (Ok x) P Q f p = f x p
ok-by (Err e) P Q f p = tt

pub ok-by2 : {X E : Type 0} (r : Result X E) (P Q S : X → Type 0) → ((x : X) → P x → Q x → S x) → IfOk r P → IfOk r Q → IfOk r S
ok-by2 (Ok x) P Q S f p q = f x p q
ok-by2 (Err e) P Q S f p q = tt

-- a fault is the same, whatever there would have been without it
abbrev pub failed : {X : Type 0} → OpenFault → Result X OpenFault
failed f = Err f

pub fault-of : {X Y : Type 0} (f g : OpenFault) → failed {X = X} f ≡ failed g → failed {X = Y} f ≡ failed g
fault-of f g h = let same : f ≡ g = cc in ap (λ (e : OpenFault). failed e) same

-- the number of robots that a head names
pub robots-named : (o : Option (List ℕ)) (named : Option ℕ) (n : ℕ) (starts : List ℕ) → n ≡ unwrap_or named 0 → named ≡ option_map (λ cells. length cells) o → o ≡ Some starts → n ≡ length starts
robots-named o named n starts robots is at = robots ∙ (ap (λ (x : Option ℕ). unwrap_or x 0) is ∙ ap (λ (x : Option (List ℕ)). unwrap_or (option_map (λ cells. length cells) x) 0) at)

-- the door that was found for this number of robots
pub door-for : (roomy : Bool) (m : Floor) (n k : ℕ) (found : Result Door AllocError) (door : Door) → found ≡ Ok door → n ≡ min k 4294967295 → k < 2 ^ 32
    → IfOk found (λ d. AreRefused roomy m n d.refused.marks.items) → AreRefused roomy m k door.refused.marks.items
door-for roomy m n k found door is counted few h =
    let same : n ≡ k = counted ∙ min-eq_left (omega (arith, few)) in
    subst (λ (x : ℕ). AreRefused roomy m x door.refused.marks.items) same (subst (λ (r : Result Door AllocError). IfOk r (λ d. AreRefused roomy m n d.refused.marks.items)) is h)

-- what is known of the cells of the map on which it was found
pub known-for : (m n : Floor) (found : Result Door AllocError) (door : Door) → found ≡ Ok door → n ≡ m → IfOk found (λ d. AreRoomyFor m d.roominess.items) → AreRoomyFor n door.roominess.items
known-for m n found door is same h =
    let known = subst (λ (r : Result Door AllocError). IfOk r (λ d. AreRoomyFor m d.roominess.items)) is h in
    subst (λ (x : Floor). AreRoomyFor x door.roominess.items) (sym same) known

-- ---- a fleet that goes on

module _ (on : Terms) (c : ChapterView Global) (w : World Global) (n : ℕ) (found : Result Door AllocError) (same : w ≡ world_after on.kit on.floor on.head c) (may : MayResume on.kit on.floor on.head c)
    (counted : n ≡ min (robots c.history) 4294967295) (refused : IfOk found (λ d. AreRefused on.settings.roomy on.floor n d.refused.marks.items)) where
  few : robots c.history < 2 ^ 32
  few = let most = (legal-opening on.floor c.history may.can.legal).few_robots in omega (arith, most)

  pub lets-in : (door : Door) → found ≡ Ok door → NoneWaits door.refused.marks.items w → LetsIn on c door.refused.marks.items
  lets-in door is none = record {
    refuses = door-for on.settings.roomy on.floor n (robots c.history) found door is counted few refused;
    waiting = subst (NoneWaits door.refused.marks.items) same none;
  }

  pub door-fault : (fault : ResumeFault) → IsDoorFault w found fault → IsResumeFault on.settings.roomy on.kit on.floor on.head c fault
  door-fault (resume_fault.Errand x) (door, is, waits, has_it) =
      let exact = (door-for on.settings.roomy on.floor n (robots c.history) found door is counted few refused).exact x.cell in
      let it = exact.0 has_it in
      (it.0, may, record { waits = subst (λ (v : World Global). Waits v x) same waits; floor = it.1; unroomy = it.2 })
  door-fault (resume_fault.Chapter reopen_fault.NoMemory) h = tt
  door-fault (resume_fault.Chapter reopen_fault.Limits) h = absurd h
  door-fault (resume_fault.Chapter (reopen_fault.Illegal at rule)) h = absurd h
  door-fault (resume_fault.Chapter reopen_fault.Laws) h = absurd h
  door-fault (resume_fault.Chapter reopen_fault.Differs) h = absurd h
  door-fault (resume_fault.Chapter reopen_fault.Spent) h = absurd h
  door-fault (resume_fault.Chapter reopen_fault.Waits) h = absurd h
  door-fault resume_fault.Robots h = absurd h
  door-fault resume_fault.Clients h = absurd h
  door-fault resume_fault.NoRooms h = absurd h
  door-fault (resume_fault.Talk why) h = absurd h

-- without the word no errand is refused, so each other fault is one with it
pub without-word : {A : Type 0} (roomy : Bool) (kit : KitLaws) (m : Floor) (d : Draft) (c : ChapterView A) (fault : ResumeFault) → IsResumeFault false kit m d c fault → IsResumeFault roomy kit m d c fault
without-word roomy kit m d c resume_fault.Robots h = h
without-word roomy kit m d c resume_fault.Clients h = h
without-word roomy kit m d c (resume_fault.Chapter reopen_fault.NoMemory) h = tt
without-word roomy kit m d c (resume_fault.Chapter reopen_fault.Limits) h = h
without-word roomy kit m d c (resume_fault.Chapter (reopen_fault.Illegal at rule)) h = h
without-word roomy kit m d c (resume_fault.Chapter reopen_fault.Laws) h = h
without-word roomy kit m d c (resume_fault.Chapter reopen_fault.Differs) h = h
without-word roomy kit m d c (resume_fault.Chapter reopen_fault.Spent) h = h
without-word roomy kit m d c (resume_fault.Chapter reopen_fault.Waits) h = h
without-word roomy kit m d c (resume_fault.Errand x) h = let bad : false ≡ true = h.0 in absurd cc
without-word roomy kit m d c resume_fault.NoRooms h = absurd h
without-word roomy kit m d c (resume_fault.Talk why) h = absurd h

-- ---- errands in queues

-- an errand that was found at this place
pub found-at : {A : Type 0} (w : World A) (cells : List Bool) (client : ℕ) (errands : List OpenErrand) (place : ℕ) (x : OpenErrand) → errands ≡ open_errands w.history client → position (λ e. has cells e.cell) errands ≡ Some place
    → x ≡ get_or errands place x → Waits w (record { client = client; robot = x.robot; cell = x.cell }) × (has cells x.cell ≡ true)
found-at w cells client errands place x are at read =
    let found = position-Some (λ (e : OpenErrand). has cells e.cell) errands place x at in (
      record {
        errand = x;
        is_open = subst (λ (l : List OpenErrand). Contains l x) are (subst (λ (e : OpenErrand). Contains errands e) (sym read) (Contains-get_or errands place x found.0));
        robot = refl;
        cell = refl;
      },
      ap (λ (e : OpenErrand). has cells e.cell) read ∙ found.1,
    )

-- the errand that stands in the door's way
pub errand-fault : {A : Type 0} (w : World A) (given : Result Door AllocError) (door : Door) (found : Option UnroomyErrand) (x : UnroomyErrand) → given ≡ Ok door → IfSome found (λ e. Waits w e × (has door.refused.marks.items e.cell ≡ true)) → found ≡ Some x
    → IsDoorFault w given (resume_fault.Errand x)
errand-fault w given door found x is all at =
    let (waits, it) = subst (λ (o : Option UnroomyErrand). IfSome o (λ e. Waits w e × (has door.refused.marks.items e.cell ≡ true))) at all in
    (door, is, waits, it)
