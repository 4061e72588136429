-- How a fleet is opened from the text of a map, or why it is not.
use Rattle.std.specs.Prelude.{ℕ, ◌≡◌, ◌≢◌, List}
use Rattle.fleet_map.specs.Text.{lines_of}
use Rattle.fleet_map.specs.Grammar.{Map}
use Rattle.fleet_map.specs.Shape.{IsMapText}
use Rattle.fleet_map.specs.FirstFault.{IsFirstFault}
use Rattle.fleet_map.specs.declared.fault.MapFault.TheVariants as map_fault
use Rattle.fleet_grid.specs.Floor.{Floor, floor_of}
use Rattle.fleet_core.specs.Core.{World, opened_world}
use Rattle.fleet_core.specs.Opening.{CanOpen}
use Rattle.fleet_core.specs.OpeningFaults.{IsRefused}
use Rattle.fleet_core.specs.declared.faults.OpenFault.TheVariants as open_fault
use Rattle.fleet_c.specs.declared.codes.TheConstants.{NO_MEMORY, MAP_HEADER, MAP_SIZE, MAP_ROW, MAP_CELL, MAP_TRAILING, BAD_SETUP, ROBOT_COUNT, START_BLOCKED, START_SHARED, WRONG_SIZE}
use Rattle.fleet_c.specs.declared.robot.Robot.{Robot}
use Rattle.fleet_c.specs.declared.setup.Setup.{Setup}
use Rattle.fleet_c.specs.declared.setup.TheConstants.{SETUP_SIZE}
use Rattle.fleet_c.specs.declared.fault.Fault.{Fault}
use Rattle.fleet_c.specs.declared.refusal.Refusal.{Refusal}
use Rattle.fleet_c.specs.declared.refusal.Refusal.TheVariants as refusal
use Rattle.fleet_c.specs.Forms.{limits_of, starts_of, laws_of_robots}

-- the text is a map, and this is its floor
pub record Reads (bytes : List ℕ) (m : Floor) : Type 0 where
  pub read : Map
  pub text : IsMapText bytes read
  pub floor : m ≡ floor_of read.height read.width read.cells

-- the world at its opening: the robots on their starts, with the ranks that they have
pub record IsAtOpening {A : Type 0} (m : Floor) (robots : List Robot) (setup : Setup) (w : World A) : Type 0 where
  pub can : CanOpen m (starts_of robots) setup.clients (limits_of setup) (laws_of_robots robots)
  pub world : w ≡ opened_world m (starts_of robots) setup.clients (limits_of setup) (laws_of_robots robots)

-- the setup has the form that this library reads
abbrev pub IsSized : Setup → Type 0
IsSized setup = setup.size ≡ SETUP_SIZE

-- the text is a map, and on its floor a world was opened with a setup of the right form
pub record IsOpened {A : Type 0} (bytes : List ℕ) (robots : List Robot) (setup : Setup) (w : World A) : Type 0 where
  pub sized : IsSized setup
  pub floor : Floor
  pub reads : Reads bytes floor
  pub opened : IsAtOpening floor robots setup w

-- why no world is opened on a floor, out of memory apart
abbrev pub IsRefusedOn : Floor → List Robot → Setup → Refusal → Type 0
IsRefusedOn m robots setup refusal.NoMemory = Unit {0}
IsRefusedOn m robots setup refusal.Size = ⊥
IsRefusedOn m robots setup (refusal.Map fault) = ⊥
IsRefusedOn m robots setup refusal.Setup = IsRefused m (starts_of robots) setup.clients (limits_of setup) (laws_of_robots robots) open_fault.Limits
IsRefusedOn m robots setup refusal.RobotCount = IsRefused m (starts_of robots) setup.clients (limits_of setup) (laws_of_robots robots) open_fault.NoRobots
IsRefusedOn m robots setup (refusal.Start r) = IsRefused m (starts_of robots) setup.clients (limits_of setup) (laws_of_robots robots) (open_fault.Start r)
IsRefusedOn m robots setup (refusal.Shared i j) = IsRefused m (starts_of robots) setup.clients (limits_of setup) (laws_of_robots robots) (open_fault.Shared i j)

-- why no fleet is opened: the setup's form, the map's first fault, or what the world refuses on its floor
abbrev pub IsRefusal : List ℕ → List Robot → Setup → Refusal → Type 0
IsRefusal bytes robots setup refusal.NoMemory = Unit {0}
IsRefusal bytes robots setup refusal.Size = setup.size ≢ SETUP_SIZE
IsRefusal bytes robots setup (refusal.Map fault) = IsSized setup × IsFirstFault (lines_of bytes) fault
IsRefusal bytes robots setup why = IsSized setup × ((m : Floor) × Reads bytes m × IsRefusedOn m robots setup why)

-- a fault for C: its code, and two numbers
abbrev pub fault : ℕ → ℕ → ℕ → Fault
fault code first second = record { code = code; first = first; second = second }

-- a refusal for C: its code, and the numbers that it names, else 0
abbrev pub fault_of : Refusal → Fault
fault_of refusal.NoMemory = fault NO_MEMORY 0 0
fault_of refusal.Size = fault WRONG_SIZE 0 0
fault_of (refusal.Map map_fault.NoMemory) = fault NO_MEMORY 0 0
fault_of (refusal.Map (map_fault.Header line)) = fault MAP_HEADER line 0
fault_of (refusal.Map map_fault.Size) = fault MAP_SIZE 0 0
fault_of (refusal.Map (map_fault.Row row)) = fault MAP_ROW row 0
fault_of (refusal.Map (map_fault.Cell row column)) = fault MAP_CELL row column
fault_of (refusal.Map (map_fault.Trailing line)) = fault MAP_TRAILING line 0
fault_of refusal.Setup = fault BAD_SETUP 0 0
fault_of refusal.RobotCount = fault ROBOT_COUNT 0 0
fault_of (refusal.Start r) = fault START_BLOCKED r 0
fault_of (refusal.Shared i j) = fault START_SHARED i j

-- C is told why no fleet was opened
pub record IsWhy (bytes : List ℕ) (robots : List Robot) (setup : Setup) (code : ℕ) (told : Fault) : Type 0 where
  pub why : Refusal
  pub is : IsRefusal bytes robots setup why
  pub told_is : told ≡ fault_of why
  pub code_is : code ≡ (fault_of why).code
