-- How a fleet, and what it says, goes on.
use Rattle.std.specs.Prelude.{◌≡◌, ℕ, Bool, ◌||◌, List, [], ◌∷◌, ◌++◌, length}
use Rattle.std.specs.declared.alloc.Global.{Global}
use Rattle.fleet_world.specs.Keeps.{talk}
use Rattle.fleet_world.specs.Talk.{Talk}
use Rattle.live_parts.specs.Recalls.{Recalls}
use Rattle.live_fleet.specs.declared.open_fleet.OpenFleet.{OpenFleet}
use Rattle.live_fleet.specs.declared.outboxes.Outboxes.{Outboxes}
use Rattle.live_fleet.specs.Act.{Act, Runs, met_by}
use Rattle.live_fleet.specs.Out.{Out, IsWithin, chapters_of, out_of, text_at, told_to}
use Rattle.live_fleet.specs.Recalling.{noted_by}

-- an open fleet without where its lists lie in memory: its core and lists, whether a limit was met, and what can be told again
pub record FleetView : Type 0 where
  pub talk : Talk Global
  pub met : Bool
  pub recalls : Recalls

-- a fleet, and what was said and handed out
pub record At : Type 0 where
  pub fleet : FleetView
  pub out : Out

-- an open fleet of the program with its outboxes, without where their lists lie in memory
abbrev pub at_of : {f g h : Type 0} {F : f → Type 0} {G : g → Type 0} {H : h → Type 0} {k l m : _} → OpenFleet f g h F G H k l m → Outboxes → At
at_of f o = record { fleet = record { talk = talk f.session; met = f.limited; recalls = f.recalls }; out = out_of o }

-- these acts were done: a run of the core, its chapters, what each conversation was told, and what of that is kept to be told again
pub record Went (a : At) (acts : List Act) (b : At) : Type 0 where
  pub runs : Runs a.fleet.talk acts b.fleet.talk
  pub met : b.fleet.met ≡ (a.fleet.met || met_by acts)
  pub recalls : b.fleet.recalls ≡ noted_by acts a.fleet.recalls
  pub count : length b.out.texts ≡ length a.out.texts
  pub tells : (k : ℕ) → text_at b.out k ≡ text_at a.out k ++ told_to k acts
  pub hands : b.out.chapters ≡ a.out.chapters ++ chapters_of acts
  pub within : (k : ℕ) → IsWithin (text_at a.out k) (text_at b.out k)

-- one part, and then another
pub record Both {S : Type 0} (P Q : S → List Act → S → Type 0) (a : S) (acts : List Act) (b : S) : Type 0 where
  pub first : List Act
  pub rest : List Act
  pub parts : acts ≡ first ++ rest
  pub mid : S
  pub before : P a first mid
  pub after : Q mid rest b

-- a part for each of these numbers, one after another
abbrev pub Each : {S : Type 0} → (ℕ → S → List Act → S → Type 0) → List ℕ → S → List Act → S → Type 0
Each P [] a acts b = (acts ≡ []) × (b ≡ a)
Each P (n ∷ numbers) a acts b = Both (P n) (Each P numbers) a acts b
