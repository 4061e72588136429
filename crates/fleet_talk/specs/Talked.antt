-- What is done at the lines of an open fleet, up to a fault.
use Rattle.std.specs.Prelude.{◌≡◌, ℕ, Bool, List, ◌∷◌, ◌++◌, Option, Some}
use Rattle.fleet_talk.specs.declared.fault.TalkFault.{TalkFault}
use Rattle.fleet_talk.specs.declared.ends.Settings.{Settings}
use Rattle.fleet_talk.specs.Act.{Act, acts_from}
use Rattle.fleet_talk.specs.Acts.{Talks}
use Rattle.fleet_talk.specs.Broken.{SaysUntil}
use Rattle.fleet_talk.specs.Fleet.{Fleet}
use Rattle.fleet_talk.specs.Heard.{heard_lines}
use Rattle.fleet_talk.specs.Says.{Says}

-- the first of these acts were done, and then came this fault
pub record TalksUntil {A : Type 0} (fault : TalkFault) (roll : Option ℕ) (s : Fleet A) (acts : List Act) (before after : Option (List ℕ)) (waited waits : List ℕ) : Type 0 where
  pub done : List Act
  pub left : List Act
  pub parts : acts ≡ done ++ left
  pub text : List ℕ
  pub last : Fleet A
  pub talks : Talks roll s done text last
  pub says : SaysUntil fault before after waited waits text

-- the lines of these bytes before this one, which has this number, were answered, and these bytes are left after it
pub record Goes {A : Type 0} (settings : Settings) (cells : List Bool) (s : Fleet A) (asked : List Act) (left : Option (List ℕ)) (m : Fleet A) (number : ℕ) (line : List ℕ) (before after : Option (List ℕ)) (waited waits : List ℕ) : Type 0 where
  pub rest : List ℕ
  pub at : left ≡ Some rest
  pub done : List Act
  pub parts : asked ≡ done ++ acts_from settings cells number (line ∷ heard_lines rest)
  pub text : List ℕ
  pub talks : Talks settings.roll s done text m
  pub says : Says before after waited waits text
