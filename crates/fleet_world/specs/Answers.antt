-- Events with their replies, each as often as they came one after another.
use Rattle.std.specs.Prelude.{List, [], ◌∷◌, ◌++◌, replicate}
use Rattle.fleet_book.specs.declared.event.Event.{Event}
use Rattle.fleet_world.specs.declared.reply.Reply.{Reply}
use Rattle.fleet_world.specs.declared.answered.Answered.{Answered}

-- the events, one after another
abbrev pub events_in : List Answered → List Event
events_in [] = []
events_in (answer ∷ answers) = replicate answer.times answer.event ++ events_in answers

-- the reply to each of them
abbrev pub replies_in : List Answered → List Reply
replies_in [] = []
replies_in (answer ∷ answers) = replicate answer.times answer.reply ++ replies_in answers
