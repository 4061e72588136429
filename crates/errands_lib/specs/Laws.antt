-- The laws of the program's own hooks.
use Rattle.fleet_text.specs.Kit.{KitLaws, kit_of}

-- the laws of a kit for 16 robots, as many as a script may have
abbrev pub program_laws : KitLaws
program_laws = kit_of 16
