-- The texts of openings and entries have ASCII bytes and no line feed.
use Rattle.std.proofs.Common.{◌≡◌, ℕ, ◌^◌, ◌<◌, Bool, true, false, List, [], ◌∷◌, ◌++◌, map, refl, Option, Some, None, arith}
use Rattle.std.specs.Prelude.{⊤}
use Rattle.std.specs.List.{AllByRecursion}
use Rattle.json.specs.Print.{escape_byte, quoted}
use Rattle.serde_json.specs.Data.{Data, unsigned, negative, float, null, boolean, number, string, array, object, Items, no_items, item, Members, no_members, member}
use Rattle.serde_json.specs.View.{items_of}
use Rattle.serde_json.specs.Written.{comma_if, compact_text, items_text, members_text}
use Rattle.fleet_queue.specs.declared.errand.Errand.{Errand}
use Rattle.fleet_book.specs.declared.order.Order.{Order}
use Rattle.fleet_book.specs.declared.order.Order.TheVariants.{Go, Close, Withdraw}
use Rattle.fleet_book.specs.declared.verdict.Verdict.{Verdict}
use Rattle.fleet_book.specs.declared.verdict.Verdict.TheVariants as verdict
use Rattle.fleet_hooks.specs.declared.law.StampLaw.{StampLaw}
use Rattle.fleet_history.specs.declared.history.Arrival.{Arrival}
use Rattle.fleet_history.specs.declared.history.Bye.{Bye}
use Rattle.fleet_history.specs.declared.history.ClientState.{ClientState}
use Rattle.fleet_history.specs.declared.history.RobotState.{RobotState}
use Rattle.fleet_history.specs.declared.history.Opening.{Opening}
use Rattle.fleet_history.specs.declared.history.Entry.{Entry}
use Rattle.fleet_history.specs.declared.history.Entry.TheVariants.{Take, Tick, Shut}
use Rattle.fleet_trace.specs.Fits.{Fits32, ClientFits, ErrandFits, LawFits, WaitFits, RobotFits, OpeningFits, OrderFits, VerdictFits, ArrivalFits, ByeFits, EntryFits}
use Rattle.fleet_trace.specs.Text.{counted, listed, client_data, errand_data, law_data, wait_data, robot_data, opening_data, order_data, verdict_data, arrival_data, bye_data, entry_data}
use Rattle.fleet_journal.specs.Text.{head_data}
use Rattle.fleet_journal.proofs.LineBytes.{are_line_bytes, byte-then, text-then, decimal-line}

abbrev mutual
  -- each number is a count, and each word and key is quoted by such bytes
  IsLine : Data → Type 0
  IsLine null = ⊤
  IsLine (boolean b) = ⊤
  IsLine (number (unsigned n)) = n < 2 ^ 64
  IsLine (number (negative z)) = ⊥
  IsLine (number (float x)) = ⊥
  IsLine (string s) = are_line_bytes (quoted s) ≡ true
  IsLine (array ds) = ItemsAreLine ds
  IsLine (object ms) = MembersAreLine ms

  ItemsAreLine : Items → Type 0
  ItemsAreLine no_items = ⊤
  ItemsAreLine (item d ds) = IsLine d × ItemsAreLine ds

  MembersAreLine : Members → Type 0
  MembersAreLine no_members = ⊤
  MembersAreLine (member k d ms) = (are_line_bytes (quoted k) ≡ true) × IsLine d × MembersAreLine ms

comma-line : (later : Bool) → are_line_bytes (comma_if later) ≡ true
comma-line true = refl
comma-line false = refl

mutual
  text-line : (d : Data) → IsLine d → are_line_bytes (compact_text d) ≡ true
  text-line null h = refl
  text-line (boolean true) h = refl
  text-line (boolean false) h = refl
  text-line (number (unsigned n)) h = decimal-line n h
  text-line (number (negative z)) h = absurd h
  text-line (number (float x)) h = absurd h
  text-line (string s) h = h
  text-line (array ds) h = byte-then 91 (items_text false ds) refl (items-line false ds h)
  text-line (object ms) h = byte-then 123 (members_text false ms) refl (members-line false ms h)

  items-line : (later : Bool) (ds : Items) → ItemsAreLine ds → are_line_bytes (items_text later ds) ≡ true
  items-line later no_items h = refl
  items-line later (item d ds) h =
      text-then (comma_if later) (compact_text d ++ items_text true ds) (comma-line later) (text-then (compact_text d) (items_text true ds) (text-line d h.0) (items-line true ds h.1))

  members-line : (later : Bool) (ms : Members) → MembersAreLine ms → are_line_bytes (members_text later ms) ≡ true
  members-line later no_members h = refl
  members-line later (member k d ms) h =
      text-then (comma_if later) (quoted k ++ 58 ∷ (compact_text d ++ members_text true ms)) (comma-line later)
      (text-then (quoted k) (58 ∷ (compact_text d ++ members_text true ms)) h.0
      (byte-then 58 (compact_text d ++ members_text true ms) refl (text-then (compact_text d) (members_text true ms) (text-line d h.1) (members-line true ms h.2))))

list : {X : Type 0} (data_of : X → Data) (Fits : X → Type 0) → ((x : X) → Fits x → IsLine (data_of x)) → (xs : List X) → AllByRecursion Fits xs → ItemsAreLine (items_of (map data_of xs))
list data_of Fits each [] h = tt
list data_of Fits each (x ∷ xs) h = (each x h.0, list data_of Fits each xs h.1)

short : (n : ℕ) → Fits32 n → n < 2 ^ 64
short n h = omega (arith, h)

-- ---- the opening

client : (s : ClientState) → ClientFits s → IsLine (client_data s)
client s h = (h.taken, (h.accepted, (h.noticed, (tt, tt))))

errand : (e : Errand) → ErrandFits e → IsLine (errand_data e)
errand e h = (short e.client h.client, (h.number, (short e.cell h.cell, tt)))

law : (law : StampLaw) → LawFits law → IsLine (law_data law)
law x h = (short x.low h.low, (short x.high h.high, tt))

waiting : (w : Option ℕ) → WaitFits w → IsLine (wait_data w)
waiting None h = tt
waiting (Some w) h = h

robot : {A : Type 0} (x : RobotState A) → RobotFits x → IsLine (robot_data x)
robot x h = (
  short x.cell h.cell,
  (
    tt,
    (
      waiting x.wait h.wait,
      (
        list errand_data ErrandFits errand x.errands h.errands,
        (law x.arrival_law h.arrival_law, (law x.farewell_law h.farewell_law, tt)),
      ),
    ),
  ),
)

opening : {A : Type 0} (o : Opening A) → OpeningFits o → IsLine (opening_data o)
unfolding escape_byte
opening o h = (
  refl,
  list client_data ClientFits client o.clients h.clients,
  (
    refl,
    h.life,
    (refl, short o.queue h.queue, (refl, list robot_data RobotFits robot o.robots h.robots, (refl, h.tick, tt))),
  ),
)

pub head-line : {A : Type 0} (n : ℕ) (o : Opening A) → Fits32 n → OpeningFits o → are_line_bytes (compact_text (head_data n o)) ≡ true
unfolding escape_byte
head-line n o small h = text-line (head_data n o) (refl, short n small, (refl, opening o h, (refl, omega arith, tt)))

-- ---- entries

order : (x : Order) → OrderFits x → IsLine (order_data x)
unfolding escape_byte
order (Go robot cell) h = (refl, (short robot h.0, (short cell h.1, tt)))
order Close h = (refl, tt)
order (Withdraw errand) h = (refl, (h, tt))

answer : (v : Verdict) → VerdictFits v → IsLine (verdict_data v)
unfolding escape_byte
answer (verdict.Accepted errand) h = (refl, (h, tt))
answer verdict.Closed h = (refl, tt)
answer verdict.Withdrawn h = (refl, tt)
answer _ h = (refl, (omega arith, tt))

arrival : (a : Arrival) → ArrivalFits a → IsLine (arrival_data a)
arrival a h = (short a.robot h.robot, (short a.client h.client, (h.number, (short a.stamp h.stamp, tt))))

bye : (b : Bye) → ByeFits b → IsLine (bye_data b)
bye b h = (short b.robot h.robot, (short b.stamp h.stamp, tt))

entry : {A : Type 0} (e : Entry A) → EntryFits e → IsLine (entry_data e)
unfolding escape_byte
entry (Take client o v) h = (refl, (short client h.0, (order o h.1, (answer v h.2, tt))))
entry (Tick to arrived farewells) h =
    (refl, (list counted Fits32 short to h.0, (list arrival_data ArrivalFits arrival arrived h.1, (list bye_data ByeFits bye farewells h.2, tt))))
entry (Shut robot None) h = (refl, (short robot h.0, tt))
entry (Shut robot (Some stamp)) h = (refl, (short robot h.0, (short stamp h.1, tt)))

pub entry-line : {A : Type 0} (e : Entry A) → EntryFits e → are_line_bytes (compact_text (entry_data e)) ≡ true
entry-line e h = text-line (entry_data e) (entry e h)
