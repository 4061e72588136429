-- The laws of the closures that a script chooses from.
use Rattle.std.specs.Prelude.{ℕ, [], ◌∷◌, length, replicate, take, if◌then◌else◌}
use Rattle.fleet_core.specs.Hooks.{HookLaws, laws_of}
use Rattle.fleet_hooks.specs.Law.{exact_law, exact_stamp, south_first, stamps_to}
use Rattle.fleet_hooks.specs.declared.law.StampLaw.{StampLaw}
use Rattle.fleet_hooks.specs.declared.law.TieLaw.{TieLaw}
use Rattle.fleet_text.specs.declared.kit.HookKit.{HookKit}
use Rattle.fleet_script.specs.Script.{Plan}

-- the laws of the two sets of closures: the plain ones, and those that rank the south first
pub record KitLaws : Type 0 where
  pub plain : HookLaws
  pub south : HookLaws

-- the laws of the program's two sets of closures
abbrev pub kit_laws : {A f g h : Type 0} {F : f → Type 0} {G : g → Type 0} {H : h → Type 0} {k l m : _} → HookKit A f g h F G H k l m → KitLaws
kit_laws kit = record { plain = laws_of kit.plain; south = laws_of kit.south }

-- the laws of the first robots' closures
abbrev pub cut_laws : ℕ → HookLaws → HookLaws
cut_laws robots laws = record { ties = take robots laws.ties; arrivals = take robots laws.arrivals; farewells = take robots laws.farewells }

-- the laws of the closures that the script chooses, for its robots
abbrev pub chosen_laws : KitLaws → Plan → HookLaws
chosen_laws kit plan = cut_laws (length plan.starts) (if plan.south then kit.south else kit.plain)

-- ---- the hooks of the programs

-- the laws of this many robots, all of which have the same hooks
abbrev pub same_laws : ℕ → TieLaw → StampLaw → StampLaw → HookLaws
same_laws robots tie arrival farewell = record {
  ties = replicate robots tie;
  arrivals = replicate robots arrival;
  farewells = replicate robots farewell;
}

-- every rank is 0
abbrev pub alike : TieLaw
alike = exact_law (0 ∷ 0 ∷ 0 ∷ 0 ∷ [])

-- for n robots: `plain` gives 0 for each rank, stamp and farewell; `south` ranks the south first, stamps below 1,000, and bids any farewell
abbrev pub kit_of : ℕ → KitLaws
kit_of n = record {
  plain = same_laws n alike (exact_stamp 0) (exact_stamp 0);
  south = same_laws n south_first (stamps_to 999) (stamps_to 4294967295);
}
