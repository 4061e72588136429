-- What each part of what a fleet does comes to.
use Rattle.std.proofs.Common.{◌≡◌, ℕ, Bool, true, false, ◌&&◌, List, [], length, Option, Some, None, sym, subst}
use Rattle.std.specs.Prelude.{MatchOption, slice_get}
use Rattle.std.specs.List.{range_with_len}
use Rattle.fleet_book.specs.declared.event.Event.TheVariants.{Tick}
use Rattle.fleet_world.specs.declared.reply.Reply.{Reply}
use Rattle.live_fleet.specs.declared.speaker.Clients.{Clients}
use Rattle.live_fleet.specs.declared.speaker.Speaker.{Speaker}
use Rattle.live_fleet.specs.Act.{Act}
use Rattle.live_fleet.specs.Open.{is_open}
use Rattle.live_fleet.specs.Stepping.{HandsOut, StepsOn}
use Rattle.live_fleet.specs.Taking.{Takes, TakesOne}
use Rattle.live_fleet.specs.Telling.{TellsAll, TellsAt, TellsClients, TellsOne, TellsTo, TellsWhere, TellsWhole, numbers_of}
use Rattle.live_fleet.specs.Turning.{SaysThat, Settles, Shows, ShowsAt, ShowsTo, ShowsWhere, Turns, place_line}
use Rattle.live_fleet.specs.Went.{At, Both, Went}
use Rattle.live_fleet.proofs.Going.{went-none}
use Rattle.live_fleet.proofs.Parts.{both-went, each-went}
use Rattle.live_fleet.proofs.Steps.{steps-went}

pub none-went : (a b : At) (acts : List Act) → acts ≡ [] → b ≡ a → Went a acts b
none-went a b acts none same = subst (λ (l : List Act). Went a l b) (sym none) (subst (λ (x : At). Went a [] x) (sym same) (went-none a))

takes-went : (count : ℕ) (a : At) (acts : List Act) (b : At) → Takes count a acts b → Went a acts b
takes-went count a acts b takes = each-went (TakesOne a.fleet.talk.world.limits.lane) (λ n a acts b one. one.went) (range_with_len 0 count) a acts b takes

pub tells-clients-went : (to : ℕ) (who : Clients) (a : At) (acts : List Act) (b : At) → TellsClients to who a acts b → Went a acts b
tells-clients-went to who a acts b tells = each-went (λ (client : ℕ) (a : At) (acts : List Act) (b : At). (all : Bool) × TellsOne to client all a acts b) (λ n a acts b one. one.1.went) (numbers_of who) a acts b tells

pub tells-whole-went : (to : ℕ) (who : Clients) (a : At) (acts : List Act) (b : At) → TellsWhole to who a acts b → Went a acts b
tells-whole-went to who a acts b tells = each-went (λ (client : ℕ) (a : At) (acts : List Act) (b : At). TellsOne to client true a acts b) (λ n a acts b one. one.went) (numbers_of who) a acts b tells

tells_where : (is : Bool) (to : ℕ) (who : Clients) (a : At) (acts : List Act) (b : At) → TellsWhere is to who a acts b → Went a acts b
tells_where true to who a acts b tells = tells-clients-went to who a acts b tells
tells_where false to who a acts b (none, same) = none-went a b acts none same

tells_found : (o : Option Speaker) (to : ℕ) (a : At) (acts : List Act) (b : At) → MatchOption o ((acts ≡ []) × (b ≡ a)) (λ sp. TellsTo sp to a acts b) → Went a acts b
tells_found None to a acts b (none, same) = none-went a b acts none same
tells_found (Some sp) to a acts b tells = tells_where (is_open sp.rest) to sp.clients a acts b tells

pub tells-at-went : (who : List Speaker) (to : ℕ) (a : At) (acts : List Act) (b : At) → TellsAt who to a acts b → Went a acts b
tells-at-went who to a acts b tells = tells_found (slice_get who to) to a acts b tells

tells-all-went : (who : List Speaker) (a : At) (acts : List Act) (b : At) → TellsAll who a acts b → Went a acts b
tells-all-went who a acts b tells = each-went (TellsAt who) (tells-at-went who) (range_with_len 0 (length who)) a acts b tells

pub settles-went : (who : List Speaker) (count : ℕ) (a : At) (acts : List Act) (b : At) → Settles who count a acts b → Went a acts b
settles-went who count a acts b settles =
    both-went (TellsAll who) (Both (Takes count) (TellsAll who)) (tells-all-went who) (both-went (Takes count) (TellsAll who) (takes-went count) (tells-all-went who)) a acts b settles

pub turns-went : (who : List Speaker) (count : ℕ) (reply : Reply) (a : At) (acts : List Act) (b : At) → Turns who count reply a acts b → Went a acts b
turns-went who count reply a acts b turns =
    both-went (TellsAll who) (Both (Takes count) (Both (StepsOn Tick reply) (TellsAll who))) (tells-all-went who)
    (both-went (Takes count) (Both (StepsOn Tick reply) (TellsAll who)) (takes-went count) (both-went (StepsOn Tick reply) (TellsAll who) (steps-went Tick reply) (tells-all-went who))) a acts b turns

pub says-that-went : (is : Bool) (to : ℕ) (text : List ℕ) (a : At) (acts : List Act) (b : At) → SaysThat is to text a acts b → Went a acts b
says-that-went true to text a acts b (fits, is, went) = went
says-that-went false to text a acts b (full, none, same) = none-went a b acts none same

shows_where : (is : Bool) (to : ℕ) (text : List ℕ) (a : At) (acts : List Act) (b : At) → ShowsWhere is text to a acts b → Went a acts b
shows_where true to text a acts b (is, says) = says-that-went is to text a acts b says
shows_where false to text a acts b (none, same) = none-went a b acts none same

shows_found : (o : Option Speaker) (text : List ℕ) (to : ℕ) (a : At) (acts : List Act) (b : At) → MatchOption o ((acts ≡ []) × (b ≡ a)) (λ sp. ShowsTo text sp to a acts b) → Went a acts b
shows_found None text to a acts b (none, same) = none-went a b acts none same
shows_found (Some sp) text to a acts b shows = shows_where (sp.watching && is_open sp.rest) to text a acts b shows

pub shows-went : (who : List Speaker) (a : At) (acts : List Act) (b : At) → Shows who a acts b → Went a acts b
shows-went who a acts b shows = each-went (ShowsAt (place_line a.fleet.talk) who) (λ n x xs y one. shows_found (slice_get who n) (place_line a.fleet.talk) n x xs y one) (range_with_len 0 (length who)) a acts b shows

pub hands-went : (is : Bool) (a : At) (acts : List Act) (b : At) → HandsOut a is acts b → Went a acts b
hands-went true a acts b (is, went) = went
hands-went false a acts b (last, none, same) = none-went a b acts none same
