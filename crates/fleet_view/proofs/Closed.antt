-- What a page carries of its input has no `<`.
use Rattle.std.proofs.Common.{◌≡◌, ℕ, zero, suc, ◌/◌, ◌%◌, Bool, true, false, ◌&&◌, ◌==◌, List, [], ◌∷◌, ◌++◌, map, flat_map, take, drop, refl, sym, subst, inl, inr, Option, Some, None, codes, decimal, pos, negsuc, if◌then◌else◌, arith}
use Rattle.std.proofs.lemmas.Bool.{cases_Bool, eqb-true}
use Rattle.std.proofs.lemmas.Bool.Decides.{nat_tests}
use Rattle.std.specs.Fmt.{digits, digits_onto, digit_glyph}
use Rattle.std.specs.List.{list_all, AllByRecursion}
use Rattle.json.specs.Print.{escape_byte, quoted}
use Rattle.serde_json.specs.Data.{Data, null, boolean, number, string, array, object, Items, no_items, item, Members, no_members, member, unsigned, negative, float}
use Rattle.serde_json.specs.View.{items_of}
use Rattle.serde_json.specs.Written.{comma_if, compact_text, items_text, members_text}
use Rattle.fleet_book.specs.declared.order.Order.{Order}
use Rattle.fleet_book.specs.declared.order.Order.TheVariants.{Go, Close, Withdraw}
use Rattle.fleet_book.specs.declared.verdict.Verdict.{Verdict}
use Rattle.fleet_book.specs.declared.verdict.Verdict.TheVariants as verdict
use Rattle.fleet_history.specs.declared.history.RobotState.{RobotState}
use Rattle.fleet_history.specs.declared.history.Opening.{Opening}
use Rattle.fleet_history.specs.declared.history.Entry.{Entry}
use Rattle.fleet_history.specs.declared.history.Entry.TheVariants.{Take, Tick, Shut}
use Rattle.fleet_map.specs.Text.{trimmed}
use Rattle.fleet_map.specs.Grammar.{Map, is_letter}
use Rattle.fleet_map.specs.Shape.{IsMapText, IsRow}
use Rattle.fleet_trace.specs.Trace.{Trace}
use Rattle.fleet_trace.specs.Text.{counted, client_data, errand_data, wait_data, robot_data, opening_data, order_data, verdict_data, arrival_data, bye_data, entry_data, trace_data, trace_text}
use Rattle.fleet_view.specs.declared.verdict.ChapterVerdict.{ChapterVerdict}
use Rattle.fleet_view.specs.declared.verdict.ChapterVerdict.TheVariants.{Legal, Illegal}
use Rattle.fleet_view.specs.Verdicts.{verdict_text, verdicts_text}
use Rattle.fleet_view.specs.Page.{rows_text, map_text, chapters_text}
use Rattle.fleet_view.specs.Closed.{is_other, HasNoTag}

pub and-intro : (a b : Bool) → a ≡ true → b ≡ true → (a && b) ≡ true
and-intro true b e f = f
and-intro false b e f = e

pub and-left : (a b : Bool) → (a && b) ≡ true → a ≡ true
and-left true b e = refl
and-left false b e = e

pub and-right : (a b : Bool) → (a && b) ≡ true → b ≡ true
and-right true b e = e
and-right false b e = absurd cc

-- two texts, one after the other
pub both : (xs ys : List ℕ) → HasNoTag xs → HasNoTag ys → HasNoTag (xs ++ ys)
both [] ys e f = f
both (x ∷ xs) ys e f = and-intro (is_other x) (list_all is_other (xs ++ ys)) (and-left (is_other x) (list_all is_other xs) e) (both xs ys (and-right (is_other x) (list_all is_other xs) e) f)

by_if : (b : Bool) (xs ys : List ℕ) → HasNoTag xs → HasNoTag ys → HasNoTag (if b then xs else ys)
by_if true xs ys e f = e
by_if false xs ys e f = f

-- ---- numbers

glyph : (d : ℕ) → is_other (digit_glyph false d) ≡ true
glyph d = grind (arith, nat_tests)

digits-onto : (k n : ℕ) (after : List ℕ) → HasNoTag after → HasNoTag (digits_onto k 10 false n after)
digits-onto zero n after e = e
digits-onto (suc k) n after e =
    let more : HasNoTag (digit_glyph false (n % 10) ∷ after) = and-intro (is_other (digit_glyph false (n % 10))) (list_all is_other after) (glyph (n % 10)) e in
    by_if (n / 10 == 0) (digit_glyph false (n % 10) ∷ after) (digits_onto k 10 false (n / 10) (digit_glyph false (n % 10) ∷ after)) more (digits-onto k (n / 10) (digit_glyph false (n % 10) ∷ after) more)

pub decimal-closed : (n : ℕ) → HasNoTag (decimal n)
unfolding digits
decimal-closed n = digits-onto 64 n [] refl

-- ---- values

-- no string and no key of a value has the byte
abbrev mutual
  is_plain : Data → Bool
  is_plain null = true
  is_plain (boolean b) = true
  is_plain (number n) = true
  is_plain (string s) = list_all is_other (quoted s)
  is_plain (array ds) = are_plain ds
  is_plain (object ms) = have_plain ms

  are_plain : Items → Bool
  are_plain no_items = true
  are_plain (item d ds) = is_plain d && are_plain ds

  have_plain : Members → Bool
  have_plain no_members = true
  have_plain (member k d ms) = list_all is_other (quoted k) && (is_plain d && have_plain ms)

comma : (later : Bool) → HasNoTag (comma_if later)
comma true = refl
comma false = refl

mutual
  closed : (d : Data) → is_plain d ≡ true → HasNoTag (compact_text d)
  closed null e = refl
  closed (boolean true) e = refl
  closed (boolean false) e = refl
  closed (number (unsigned n)) e = decimal-closed n
  closed (number (negative (pos n))) e = decimal-closed n
  closed (number (negative (negsuc n))) e = decimal-closed (suc n)
  closed (number (float x)) e = refl
  closed (string s) e = e
  closed (array ds) e = closed-items false ds e
  closed (object ms) e = closed-members false ms e

  closed-items : (later : Bool) (ds : Items) → are_plain ds ≡ true → HasNoTag (items_text later ds)
  closed-items later no_items e = refl
  closed-items later (item d ds) e =
      both (comma_if later) (compact_text d ++ items_text true ds) (comma later)
      (both (compact_text d) (items_text true ds) (closed d (and-left (is_plain d) (are_plain ds) e)) (closed-items true ds (and-right (is_plain d) (are_plain ds) e)))

  closed-members : (later : Bool) (ms : Members) → have_plain ms ≡ true → HasNoTag (members_text later ms)
  closed-members later no_members e = refl
  closed-members later (member k d ms) e =
      let rest = and-right (list_all is_other (quoted k)) (is_plain d && have_plain ms) e in
      both (comma_if later) (quoted k ++ 58 ∷ (compact_text d ++ members_text true ms)) (comma later)
      (both (quoted k) (58 ∷ (compact_text d ++ members_text true ms)) (and-left (list_all is_other (quoted k)) (is_plain d && have_plain ms) e)
      (both (compact_text d) (members_text true ms) (closed d (and-left (is_plain d) (have_plain ms) rest)) (closed-members true ms (and-right (is_plain d) (have_plain ms) rest))))

-- ---- traces

list : {X : Type 0} (data_of : X → Data) → ((x : X) → is_plain (data_of x) ≡ true) → (xs : List X) → are_plain (items_of (map data_of xs)) ≡ true
list data_of all [] = refl
list data_of all (x ∷ xs) = rw (all x) (list data_of all xs)

wait : (w : Option ℕ) → is_plain (wait_data w) ≡ true
wait None = refl
wait (Some w) = refl

robot : {A : Type 0} (x : RobotState A) → is_plain (robot_data x) ≡ true
robot x = rw (wait x.wait, list errand_data (λ e. refl) x.errands) refl

opening : {A : Type 0} (o : Opening A) → is_plain (opening_data o) ≡ true
unfolding escape_byte
opening o = rw (list client_data (λ s. refl) o.clients, list robot_data robot o.robots) refl

order : (x : Order) → is_plain (order_data x) ≡ true
unfolding escape_byte
order (Go robot cell) = refl
order Close = refl
order (Withdraw n) = refl

answer : (v : Verdict) → is_plain (verdict_data v) ≡ true
unfolding escape_byte
answer (verdict.Accepted n) = refl
answer verdict.Closed = refl
answer verdict.Withdrawn = refl
answer _ = refl

entry : {A : Type 0} (e : Entry A) → is_plain (entry_data e) ≡ true
unfolding escape_byte
entry (Take client o v) = rw (order o, answer v) refl
entry (Tick to arrived farewells) = rw (list counted (λ n. refl) to, list arrival_data (λ a. refl) arrived, list bye_data (λ b. refl) farewells) refl
entry (Shut robot None) = refl
entry (Shut robot (Some stamp)) = refl

plain-trace : {A : Type 0} (t : Trace A) → is_plain (trace_data t) ≡ true
unfolding escape_byte
plain-trace t = rw (list entry_data entry t.history.entries, opening t.history.opening) refl

pub closed-trace : {A : Type 0} (t : Trace A) → HasNoTag (trace_text t)
closed-trace t = closed (trace_data t) (plain-trace t)

pub closed-chapters : {A : Type 0} (ts : List (Trace A)) → HasNoTag (chapters_text ts)
closed-chapters [] = refl
closed-chapters (t ∷ ts) = both (trace_text t ++ codes "\n") (chapters_text ts) (both (trace_text t) (codes "\n") (closed-trace t) refl) (closed-chapters ts)

-- ---- verdicts

pub closed-verdict : (v : ChapterVerdict) → HasNoTag (verdict_text v)
closed-verdict Legal = refl
closed-verdict (Illegal at rule) =
    let begun = both (codes "illegal ") (decimal at) refl (decimal-closed at) in
    let named = both (codes "illegal " ++ decimal at ++ codes " ") (decimal rule) (both (codes "illegal " ++ decimal at) (codes " ") begun refl) (decimal-closed rule) in
    both (codes "illegal " ++ decimal at ++ codes " " ++ decimal rule) (codes "\n") named refl

pub closed-verdicts : (vs : List ChapterVerdict) → HasNoTag (verdicts_text vs)
closed-verdicts [] = refl
closed-verdicts (v ∷ vs) = both (verdict_text v) (verdicts_text vs) (closed-verdict v) (closed-verdicts vs)

-- ---- maps

letter-is : (b : ℕ) → is_letter b ≡ true → is_other b ≡ true
letter-is b e = elim (cases_Bool (b == 60)) [
  | inl same ↦ let is : b ≡ 60 = eqb-true b 60 same in let bad : is_letter 60 ≡ true = rw is at e in absurd cc
  | inr other ↦ rw other refl
]

letters-closed : (cells : List ℕ) → AllByRecursion (λ b. is_letter b ≡ true) cells → HasNoTag cells
letters-closed [] all = refl
letters-closed (b ∷ bs) all = and-intro (is_other b) (list_all is_other bs) (letter-is b all.0) (letters-closed bs all.1)

rows-closed : (width : ℕ) (rows : List (List ℕ)) → AllByRecursion (IsRow width) rows → HasNoTag (flat_map trimmed rows)
rows-closed width [] all = refl
rows-closed width (row ∷ rows) all = both (trimmed row) (flat_map trimmed rows) (letters-closed (trimmed row) (all.0).letters) (rows-closed width rows all.1)

take-closed : (n : ℕ) (xs : List ℕ) → HasNoTag xs → HasNoTag (take n xs)
take-closed zero xs e = refl
take-closed (suc n) [] e = refl
take-closed (suc n) (x ∷ xs) e = and-intro (is_other x) (list_all is_other (take n xs)) (and-left (is_other x) (list_all is_other xs) e) (take-closed n xs (and-right (is_other x) (list_all is_other xs) e))

drop-closed : (n : ℕ) (xs : List ℕ) → HasNoTag xs → HasNoTag (drop n xs)
drop-closed zero xs e = e
drop-closed (suc n) [] e = refl
drop-closed (suc n) (x ∷ xs) e = drop-closed n xs (and-right (is_other x) (list_all is_other xs) e)

cut-closed : (rows width : ℕ) (cells : List ℕ) → HasNoTag cells → HasNoTag (rows_text rows width cells)
cut-closed zero width cells e = refl
cut-closed (suc rows) width cells e = both (take width cells ++ codes "\n") (rows_text rows width (drop width cells)) (both (take width cells) (codes "\n") (take-closed width cells e) refl) (cut-closed rows width (drop width cells) (drop-closed width cells e))

pub closed-map : (bytes : List ℕ) (m : Map) → IsMapText bytes m → HasNoTag (map_text m)
closed-map bytes m is = cut-closed m.height m.width m.cells (subst (λ (cells : List ℕ). HasNoTag cells) (sym is.cells) (rows-closed m.width is.rows is.each_row))
