-- What is known of the cells of a fleet's map is known after each event, since the map stays.
use Rattle.std.proofs.Common.{◌≡◌, ℕ, List, [], ◌∷◌, Result, Ok, Err, sym, ap, subst}
use Rattle.std.specs.Prelude.{OnOk}
use Rattle.std.specs.declared.alloc.Global.{Global}
use Rattle.fleet_bridge.specs.Roominess.{AreRoomyFor}
use Rattle.fleet_grid.specs.Floor.{Floor}
use Rattle.fleet_talk.specs.Chapters.{AreTurned, Beginning, ChapterView, beginning, next_beginning}
use Rattle.live_fleet.specs.Act.{Act}
use Rattle.live_fleet.specs.Does.{Does, Plays, hears, takes, then}
use Rattle.live_fleet.specs.Out.{chapters_of}
use Rattle.live_fleet.specs.Party.{DoorView, Heard, IsDoorOf, Stage}
use Rattle.live_fleet.proofs.Keeps.{does-keeps}
use Rattle.live_fleet.proofs.Laws.{runs-turned}

turned-floor : (b e : Beginning Global) (chapters : List (ChapterView Global)) → AreTurned b chapters e → e.floor ≡ b.floor
turned-floor b e [] same = ap (λ (x : Beginning Global). x.floor) same
turned-floor b e (x ∷ chapters) (from, turned) = turned-floor (next_beginning b x.history) e chapters turned

pub door-kept : (s t : Stage) (event : Heard) (acts : List Act) → IsDoorOf s → Does s event acts t → IsDoorOf t
door-kept s t event acts known does =
    let keeps = does-keeps s event acts t does in
    let same : t.at.fleet.talk.world.floor ≡ s.at.fleet.talk.world.floor = turned-floor (beginning s.at.fleet.talk.world) (beginning t.at.fleet.talk.world) (chapters_of acts) (runs-turned s.at.fleet.talk acts t.at.fleet.talk keeps.went.runs) in
    subst (λ (d : DoorView). AreRoomyFor t.at.fleet.talk.world.floor d.roominess) (sym keeps.door) (subst (λ (m : Floor). AreRoomyFor m s.door.roominess) (sym same) known)

pub stays-door : {T E : Type 0} (r : Result T E) (s t : Stage) (event : Heard) → IsDoorOf s → OnOk r ((acts : List Act) × Does s event acts t) → OnOk r (IsDoorOf t)
stays-door (Ok v) s t event known (acts, does) = door-kept s t event acts known does
stays-door (Err e) s t event known does = tt

-- whatever it heard
pub plays-door : {s : Stage} {events : List Heard} {acts : List Act} {t : Stage} → IsDoorOf s → Plays s events acts t → IsDoorOf t
plays-door known (hears s event acts t does) = door-kept s t event acts known does
plays-door known (takes s out) = known
plays-door known (then s m t first second before after one two) = plays-door (plays-door known one) two
