-- What a session keeps.
use Rattle.fleet_world.specs.declared.session.Session.{Session}
use Rattle.fleet_world.specs.Talk.{Talk, talk_of}

-- a session without where its lists lie in memory
abbrev pub talk : {A f g h : Type 0} {F : f → Type 0} {G : g → Type 0} {H : h → Type 0} {k l m : _} → Session A f g h F G H k l m → Talk A
talk s = talk_of s.world.core s.waiting.items
