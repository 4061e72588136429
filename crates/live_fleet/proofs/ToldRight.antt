-- Acts by which each notice is told to a conversation that speaks for its client.
use Rattle.std.proofs.Common.{◌≡◌, ℕ, ◌+◌, ◌-◌, ◌≤◌, ◌<◌, zero, suc, Bool, true, false, ◌&&◌, List, [], ◌∷◌, ◌++◌, length, Option, Some, None, Result, refl, sym, ap, subst, arith}
use Rattle.std.specs.Prelude.{MatchOption, slice_get}
use Rattle.std.specs.List.{AllByRecursion, range_with_len}
use Rattle.std.specs.declared.alloc.Global.{Global}
use Rattle.fleet_book.specs.declared.event.Event.TheVariants.{Take, Tick, Give, Collect, Shut}
use Rattle.fleet_book.specs.declared.order.Order.{Order}
use Rattle.fleet_lanes.specs.declared.fault.PostFault.{PostFault}
use Rattle.fleet_world.specs.declared.reply.Reply.{Reply}
use Rattle.fleet_world.specs.declared.reply.Reply.TheVariants.{NothingThere, NoClient}
use Rattle.fleet_world.specs.Talk.{Talk}
use Rattle.live_fleet.specs.declared.notes.Note.{Note}
use Rattle.live_fleet.specs.declared.speaker.Clients.{Clients}
use Rattle.live_fleet.specs.declared.speaker.Speaker.{Speaker}
use Rattle.live_fleet.specs.Act.{Act, did, full, handed, grew}
use Rattle.live_fleet.specs.Act as act
use Rattle.live_fleet.specs.Ending.{IsClosing}
use Rattle.live_fleet.specs.Law.{IsToldRight, SpeaksFor, clients_in}
use Rattle.live_fleet.specs.Open.{is_open}
use Rattle.live_fleet.specs.Posting.{IsPosted}
use Rattle.live_fleet.specs.Posting as posting
use Rattle.live_fleet.specs.Stepping.{HandsOut, StepsOn, here, next}
use Rattle.live_fleet.specs.Taking.{IsTaking, Takes, TakesOne}
use Rattle.live_fleet.specs.Telling.{IsTelling, TellsAll, TellsAt, TellsClients, TellsOne, TellsTo, TellsWhere, TellsWhole}
use Rattle.live_fleet.specs.Turning.{SaysThat, Settles, Shows, ShowsAt, ShowsWhere, Turns, place_line}
use Rattle.live_fleet.specs.Went.{At, Both, Each}
use Rattle.live_fleet.proofs.Parts.{all-then}

abbrev pub Right : List Clients → List Act → Type 0
Right whose acts = AllByRecursion (IsToldRight whose) acts

pub right-none : (whose : List Clients) (acts : List Act) → acts ≡ [] → Right whose acts
right-none whose acts none = subst (λ (l : List Act). Right whose l) (sym none) tt

pub right-then : (whose : List Clients) (acts xs ys : List Act) → acts ≡ xs ++ ys → Right whose xs → Right whose ys → Right whose acts
right-then whose acts xs ys is first second = subst (λ (l : List Act). Right whose l) (sym is) (all-then (IsToldRight whose) xs ys first second)

pub right-if : (whose : List Clients) (P : Act → Type 0) → ((x : Act) → P x → IsToldRight whose x) → (acts : List Act) → AllByRecursion P acts → Right whose acts
right-if whose P each [] all = tt
right-if whose P each (x ∷ acts) (first, all) = (each x first, right-if whose P each acts all)

right_both : (whose : List Clients) (P Q : At → List Act → At → Type 0) → ((a : At) (acts : List Act) (b : At) → P a acts b → Right whose acts) → ((a : At) (acts : List Act) (b : At) → Q a acts b → Right whose acts)
    → (a : At) (acts : List Act) (b : At) → Both P Q a acts b → Right whose acts
right_both whose P Q one two a acts b both = right-then whose acts both.first both.rest both.parts (one a both.first both.mid both.before) (two both.mid both.rest b both.after)

-- a part for each of these numbers
pub right-range : (whose : List Clients) (P : ℕ → At → List Act → At → Type 0) (low len : ℕ) → ((n : ℕ) → low ≤ n → n < low + len → (a : At) (acts : List Act) (b : At) → P n a acts b → Right whose acts)
    → (a : At) (acts : List Act) (b : At) → Each P (range_with_len low len) a acts b → Right whose acts
right-range whose P low zero one a acts b (none, same) = right-none whose acts none
right-range whose P low (suc len) one a acts b both =
    right-then whose acts both.first both.rest both.parts (one low (omega arith) (omega arith) a both.first both.mid both.before)
    (right-range whose P (low + 1) len (λ n above below. one n (omega (arith, above)) (omega (arith, below))) both.mid both.rest b both.after)

-- ---- acts of one kind

telling_right : (whose : List Clients) (to client : ℕ) → SpeaksFor whose to client → (x : Act) → IsTelling to client x → IsToldRight whose x
telling_right whose to client speaks (did (Give c) reply) is = tt
telling_right whose to client speaks (did (Collect c) NothingThere) is = tt
telling_right whose to client speaks (did (Collect c) NoClient) is = tt
telling_right whose to client speaks (act.told k c notice) (same_to, same) = subst (λ (n : ℕ). SpeaksFor whose n c) (sym same_to) (subst (λ (n : ℕ). SpeaksFor whose to n) (sym same) speaks)
telling_right whose to client speaks _ is = absurd is

taking_right : (whose : List Clients) (client : ℕ) (x : Act) → IsTaking client x → IsToldRight whose x
taking_right whose client (did (Take c) reply) is = tt
taking_right whose client (full e) is = tt
taking_right whose client (handed c) is = tt
taking_right whose client _ is = absurd is

pub closing-right : (whose : List Clients) (client : ℕ) (x : Act) → IsClosing client x → IsToldRight whose x
closing-right whose client (did (Take c) reply) is = tt
closing-right whose client (full e) is = tt
closing-right whose client (handed c) is = tt
closing-right whose client (grew c extra) is = tt
closing-right whose client _ is = absurd is

tick_right : (whose : List Clients) (reply : Reply) (a : At) (acts : List Act) (b : At) → StepsOn Tick reply a acts b → Right whose acts
tick_right whose reply a acts b (here is last went) = subst (λ (l : List Act). Right whose l) (sym is) (tt, tt)
tick_right whose reply a acts b (next is went) = subst (λ (l : List Act). Right whose l) (sym is) (tt, (tt, (tt, tt)))

pub shut-right : (whose : List Clients) (robot : ℕ) (reply : Reply) (a : At) (acts : List Act) (b : At) → StepsOn (Shut robot) reply a acts b → Right whose acts
shut-right whose robot reply a acts b (here is last went) = subst (λ (l : List Act). Right whose l) (sym is) (tt, tt)
shut-right whose robot reply a acts b (next is went) = subst (λ (l : List Act). Right whose l) (sym is) (tt, (tt, (tt, tt)))

pub hands-right : (whose : List Clients) (is : Bool) (a : At) (acts : List Act) (b : At) → HandsOut a is acts b → Right whose acts
hands-right whose true a acts b (is, went) = subst (λ (l : List Act). Right whose l) (sym is) (tt, tt)
hands-right whose false a acts b (last, none, same) = right-none whose acts none

pub says-right : (whose : List Clients) (is : Bool) (to : ℕ) (text : List ℕ) (a : At) (acts : List Act) (b : At) → SaysThat is to text a acts b → Right whose acts
says-right whose true to text a acts b (fits, is, went) = subst (λ (l : List Act). Right whose l) (sym is) (tt, tt)
says-right whose false to text a acts b (crowded, none, same) = right-none whose acts none

pub posted-right : (whose : List Clients) (client : ℕ) (order : Order) (posted : Result ℕ PostFault) (note new : Note) (s : Talk Global) (acts : List Act) (t : Talk Global) → IsPosted client order posted note new s acts t → Right whose acts
posted-right whose client order posted note new s acts t (posting.closed is fault none same stays) = right-none whose acts none
posted-right whose client order posted note new s acts t (posting.spent is other few fault none same stays) = right-none whose acts none
posted-right whose client order posted note new s acts t (posting.full is many fault one step stays) = subst (λ (l : List Act). Right whose l) (sym one) (tt, tt)
posted-right whose client order posted note new s acts t (posting.ok is many n number one step stays) = subst (λ (l : List Act). Right whose l) (sym one) (tt, tt)

-- ---- notices of a conversation's clients

pub there-in : (who : List Speaker) (to : ℕ) (sp : Speaker) → slice_get who to ≡ Some sp → slice_get (clients_in who) to ≡ Some sp.clients
there-in [] to sp at = none_there sp at
  where
    none_there : {P : Type 0} (x : Speaker) → None ≡ Some x → P
    none_there x bad = cc
there-in (x ∷ who) zero sp at = ap clients_of at
  where
    clients_of : Option Speaker → Option Clients
    clients_of None = None
    clients_of (Some y) = Some y.clients
there-in (x ∷ who) (suc to) sp at = there-in who to sp at

speaks_in : (whose : List Clients) (to n : ℕ) (c : Clients) → slice_get whose to ≡ Some c → c.first ≤ n → n < c.end → SpeaksFor whose to n
speaks_in whose to n c at above below = subst (λ (o : Option Clients). MatchOption o ⊥ (λ x. (x.first ≤ n) × (n < x.end))) (sym at) (above, below)

pub tells-clients-right : (whose : List Clients) (to : ℕ) (c : Clients) → slice_get whose to ≡ Some c → (a : At) (acts : List Act) (b : At) → TellsClients to c a acts b → Right whose acts
tells-clients-right whose to c at a acts b tells =
    right-range whose (λ (client : ℕ) (a : At) (acts : List Act) (b : At). (all : Bool) × TellsOne to client all a acts b) c.first (c.end - c.first)
    (λ n above below a acts b one. right-if whose (IsTelling to n) (telling_right whose to n (speaks_in whose to n c at above (omega (arith, above, below)))) acts one.1.only) a acts b tells

pub tells-whole-right : (whose : List Clients) (to : ℕ) (c : Clients) → slice_get whose to ≡ Some c → (a : At) (acts : List Act) (b : At) → TellsWhole to c a acts b → Right whose acts
tells-whole-right whose to c at a acts b tells =
    right-range whose (λ (client : ℕ) (a : At) (acts : List Act) (b : At). TellsOne to client true a acts b) c.first (c.end - c.first)
    (λ n above below a acts b one. right-if whose (IsTelling to n) (telling_right whose to n (speaks_in whose to n c at above (omega (arith, above, below)))) acts one.only) a acts b tells

tells_where_right : (whose : List Clients) (is : Bool) (to : ℕ) (c : Clients) → slice_get whose to ≡ Some c → (a : At) (acts : List Act) (b : At) → TellsWhere is to c a acts b → Right whose acts
tells_where_right whose true to c at a acts b tells = tells-clients-right whose to c at a acts b tells
tells_where_right whose false to c at a acts b (none, same) = right-none whose acts none

tells_found_right : (who : List Speaker) (to : ℕ) (o : Option Speaker) → slice_get who to ≡ o → (a : At) (acts : List Act) (b : At) → MatchOption o ((acts ≡ []) × (b ≡ a)) (λ sp. TellsTo sp to a acts b) → Right (clients_in who) acts
tells_found_right who to None at a acts b (none, same) = right-none (clients_in who) acts none
tells_found_right who to (Some sp) at a acts b tells = tells_where_right (clients_in who) (is_open sp.rest) to sp.clients (there-in who to sp at) a acts b tells

pub tells-at-right : (who : List Speaker) (to : ℕ) (a : At) (acts : List Act) (b : At) → TellsAt who to a acts b → Right (clients_in who) acts
tells-at-right who to a acts b tells = tells_found_right who to (slice_get who to) refl a acts b tells

tells_all_right : (who : List Speaker) (a : At) (acts : List Act) (b : At) → TellsAll who a acts b → Right (clients_in who) acts
tells_all_right who a acts b tells = right-range (clients_in who) (TellsAt who) 0 (length who) (λ n above below a acts b one. tells-at-right who n a acts b one) a acts b tells

takes_right : (whose : List Clients) (count : ℕ) (a : At) (acts : List Act) (b : At) → Takes count a acts b → Right whose acts
takes_right whose count a acts b takes =
    right-range whose (TakesOne a.fleet.talk.world.limits.lane) 0 count (λ n above below a acts b one. right-if whose (IsTaking n) (taking_right whose n) acts one.only) a acts b takes

pub settles-right : (who : List Speaker) (count : ℕ) (a : At) (acts : List Act) (b : At) → Settles who count a acts b → Right (clients_in who) acts
settles-right who count a acts b settles =
    right_both (clients_in who) (TellsAll who) (Both (Takes count) (TellsAll who)) (tells_all_right who) (right_both (clients_in who) (Takes count) (TellsAll who) (takes_right (clients_in who) count) (tells_all_right who)) a acts b settles

pub turns-right : (who : List Speaker) (count : ℕ) (reply : Reply) (a : At) (acts : List Act) (b : At) → Turns who count reply a acts b → Right (clients_in who) acts
turns-right who count reply a acts b turns =
    right_both (clients_in who) (TellsAll who) (Both (Takes count) (Both (StepsOn Tick reply) (TellsAll who))) (tells_all_right who)
    (right_both (clients_in who) (Takes count) (Both (StepsOn Tick reply) (TellsAll who)) (takes_right (clients_in who) count)
    (right_both (clients_in who) (StepsOn Tick reply) (TellsAll who) (tick_right (clients_in who) reply) (tells_all_right who))) a acts b turns

shows_where_right : (whose : List Clients) (is : Bool) (text : List ℕ) (to : ℕ) (a : At) (acts : List Act) (b : At) → ShowsWhere is text to a acts b → Right whose acts
shows_where_right whose true text to a acts b (is, says) = says-right whose is to text a acts b says
shows_where_right whose false text to a acts b (none, same) = right-none whose acts none

shows_found_right : (whose : List Clients) (o : Option Speaker) (text : List ℕ) (to : ℕ) (a : At) (acts : List Act) (b : At)
    → MatchOption o ((acts ≡ []) × (b ≡ a)) (λ sp. ShowsWhere (sp.watching && is_open sp.rest) text to a acts b) → Right whose acts
shows_found_right whose None text to a acts b (none, same) = right-none whose acts none
shows_found_right whose (Some sp) text to a acts b shows = shows_where_right whose (sp.watching && is_open sp.rest) text to a acts b shows

pub shows-right : (whose : List Clients) (who : List Speaker) (a : At) (acts : List Act) (b : At) → Shows who a acts b → Right whose acts
shows-right whose who a acts b shows =
    right-range whose (ShowsAt (place_line a.fleet.talk) who) 0 (length who) (λ n above below x xs y one. shows_found_right whose (slice_get who n) (place_line a.fleet.talk) n x xs y one) a acts b shows
