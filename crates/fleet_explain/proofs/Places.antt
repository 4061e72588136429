-- What can be read back from a sentence.
use Rattle.std.proofs.Common.{◌≡◌, ◌∙◌, ℕ, ◌<◌, ◌^◌, ◌==◌, Bool, true, false, List, [], ◌∷◌, ◌++◌, drop, take, refl, sym, ap, codes, decimal}
use Rattle.std.specs.Prelude.{nat_lt, slice_index, if◌then◌else◌}
use Rattle.std.specs.Str.{bytes_eq}
use Rattle.std.specs.Char.{digit_value}
use Rattle.std.specs.Str.Parse.{AllDigits, digits_value}
use Rattle.std.proofs.lemmas.Bool.{lt-ltb}
use Rattle.std.proofs.lemmas.Fmt.{decimal_is_IsNumeral}
use Rattle.std.proofs.lemmas.List.{append_assoc}
use Rattle.fleet_map.specs.declared.fault.MapFault.{MapFault}
use Rattle.fleet_map.specs.declared.fault.MapFault.TheVariants as map
use Rattle.fleet_trace.specs.declared.part.FormPart.{FormPart}
use Rattle.fleet_trace.specs.declared.part.FormPart.TheVariants as form
use Rattle.fleet_explain.specs.declared.limits.LimitKind.{LimitKind}
use Rattle.fleet_explain.specs.declared.limits.LimitKind.TheVariants as kind
use Rattle.fleet_book.specs.declared.limit.Limit.TheVariants as limit
use Rattle.fleet_explain.specs.declared.opening.StartFault.{StartFault}
use Rattle.fleet_explain.specs.declared.opening.StartFault.TheVariants as start
use Rattle.fleet_explain.specs.declared.explanation.Explanation.{Explanation}
use Rattle.fleet_explain.specs.declared.explanation.Explanation.TheVariants as explanation
use Rattle.fleet_explain.specs.Sentences.{line_text, kind_text, rule_text, more_text, letter_text, sentence}
use Rattle.fleet_explain.specs.Limits.{least_of, most_of, name_of}
use Rattle.fleet_explain.specs.Places.{File, no_file, map_file, script_file, trace_file, Place, whole, line, row, letter, entry, file_of, form_place, place_of, IsInRange}

-- ---- a number at the front of a text

abbrev is_digit : ℕ → Bool
is_digit c = nat_lt (digit_value c) 10

abbrev digits_in : List ℕ → List ℕ
digits_in [] = []
digits_in (c ∷ cs) = if is_digit c then c ∷ digits_in cs else []

abbrev after_digits : List ℕ → List ℕ
after_digits [] = []
after_digits (c ∷ cs) = if is_digit c then after_digits cs else c ∷ cs

abbrev number_in : List ℕ → ℕ
number_in text = digits_value 10 (digits_in text)

digits_front : (ds : List ℕ) (c : ℕ) (rest : List ℕ) → AllDigits 10 ds → is_digit c ≡ false → digits_in (ds ++ c ∷ rest) ≡ ds
digits_front [] c rest all stops = ap (λ (b : Bool). if b then c ∷ digits_in rest else []) stops
digits_front (d ∷ ds) c rest all stops =
    ap (λ (b : Bool). if b then d ∷ digits_in (ds ++ c ∷ rest) else []) (lt-ltb (digit_value d) 10 all.0)
    ∙ ap (λ (xs : List ℕ). d ∷ xs) (digits_front ds c rest all.1 stops)

after_front : (ds : List ℕ) (c : ℕ) (rest : List ℕ) → AllDigits 10 ds → is_digit c ≡ false → after_digits (ds ++ c ∷ rest) ≡ c ∷ rest
after_front [] c rest all stops = ap (λ (b : Bool). if b then after_digits rest else c ∷ rest) stops
after_front (d ∷ ds) c rest all stops =
    ap (λ (b : Bool). if b then after_digits (ds ++ c ∷ rest) else d ∷ (ds ++ c ∷ rest)) (lt-ltb (digit_value d) 10 all.0) ∙ after_front ds c rest all.1 stops

number_read : (n c : ℕ) (rest : List ℕ) → n < 2 ^ 64 → is_digit c ≡ false → number_in (decimal n ++ c ∷ rest) ≡ n
number_read n c rest small stops = ap (digits_value 10) (digits_front (decimal n) c rest (decimal_is_IsNumeral n small).0.1 stops) ∙ (decimal_is_IsNumeral n small).1

rest_read : (n c : ℕ) (rest : List ℕ) → n < 2 ^ 64 → is_digit c ≡ false → after_digits (decimal n ++ c ∷ rest) ≡ c ∷ rest
rest_read n c rest small stops = after_front (decimal n) c rest (decimal_is_IsNumeral n small).0.1 stops

-- ---- the file

abbrev file_by : ℕ → File
file_by c = if c == 109 then map_file else if c == 115 then script_file else if c == 116 then trace_file else no_file

abbrev file_in : List ℕ → File
file_in text = file_by (slice_index text 4)

pub file_read : (e : Explanation) → file_in (sentence e) ≡ file_of e
file_read explanation.Fine = refl
file_read (explanation.Map f) = refl
file_read (explanation.Letter r column l) = refl
file_read (explanation.Script n f) = refl
file_read (explanation.Unserved n clients) = refl
file_read (explanation.Start f width) = refl
file_read (explanation.NotJson position) = refl
file_read explanation.Version = refl
file_read (explanation.Form part) = refl
file_read (explanation.Illegal at rule kind detail) = refl

pub one_file : (e f : Explanation) → sentence e ≡ sentence f → file_of e ≡ file_of f
one_file e f same = sym (file_read e) ∙ ap file_in same ∙ file_read f

-- ---- the place

abbrev row_in : ℕ → List ℕ → Place
row_in r rest = if slice_index rest 0 == 44 then letter r (number_in (drop 9 rest)) else row r

abbrev map_by : ℕ → List ℕ → Place
map_by c text =
    if c == 108 then line (number_in (drop 14 text))
    else if c == 114 then row_in (number_in (drop 13 text)) (after_digits (drop 13 text))
    else whole

abbrev script_by : Bool → List ℕ → Place
script_by true text = line (number_in (drop 17 text))
script_by false text = whole

abbrev trace_by : ℕ → List ℕ → Place
trace_by c text = if c == 101 then entry (number_in (drop 17 text)) else whole

abbrev order_by : ℕ → List ℕ → Place
order_by c text = if c == 32 then line (number_in (drop 51 text)) else whole

abbrev place_by : File → List ℕ → Place
place_by no_file text = order_by (slice_index text 12) text
place_by map_file text = map_by (slice_index text 9) text
place_by script_file text = script_by (bytes_eq (take 5 (drop 12 text)) (codes "line ")) text
place_by trace_file text = trace_by (slice_index text 11) text

-- parts, one after the other
four : (a b c d : List ℕ) → a ++ b ++ c ++ d ≡ a ++ (b ++ (c ++ d))
four a b c d = simp append_assoc

seven : (a b c d e f g : List ℕ) → a ++ b ++ c ++ d ++ e ++ f ++ g ≡ a ++ (b ++ (c ++ (d ++ (e ++ (f ++ g)))))
seven a b c d e f g = simp append_assoc

in_map : (a b c d : List ℕ) → a ++ (b ++ c ++ d) ≡ a ++ (b ++ (c ++ d))
in_map a b c d = simp append_assoc

-- a row, where no column comes after it
row_told : (r c : ℕ) (rest : List ℕ) → r < 2 ^ 64 → is_digit c ≡ false → (c == 44) ≡ false → row_in (number_in (decimal r ++ c ∷ rest)) (after_digits (decimal r ++ c ∷ rest)) ≡ row r
row_told r c rest small stops other =
    ap (λ (n : ℕ). row_in n (after_digits (decimal r ++ c ∷ rest))) (number_read r c rest small stops)
    ∙ ap (row_in r) (rest_read r c rest small stops)
    ∙ ap (λ (b : Bool). if b then letter r (number_in (drop 9 (c ∷ rest))) else row r) other

-- a row and a column
letter_told : (r column c : ℕ) (rest : List ℕ) → r < 2 ^ 64 → column < 2 ^ 64 → is_digit c ≡ false
    → row_in (number_in (decimal r ++ (codes ", column " ++ (decimal column ++ c ∷ rest)))) (after_digits (decimal r ++ (codes ", column " ++ (decimal column ++ c ∷ rest)))) ≡ letter r column
letter_told r column c rest small narrow stops =
    let more = codes " column " ++ (decimal column ++ c ∷ rest) in
    ap (λ (n : ℕ). row_in n (after_digits (decimal r ++ 44 ∷ more))) (number_read r 44 more small refl)
    ∙ ap (row_in r) (rest_read r 44 more small refl)
    ∙ ap (letter r) (number_read column c rest narrow stops)

map_read : (f : MapFault) → IsInRange (place_of (explanation.Map f)) → place_by map_file (sentence (explanation.Map f)) ≡ place_of (explanation.Map f)
map_read (map.Header n) small =
    ap (place_by map_file) (in_map (codes "the map: ") (codes "line ") (decimal n) (codes " is missing or not in its form: the head is `type WORD`, `height N` and `width N`, and `map`"))
    ∙ ap line (number_read n 32 (codes "is missing or not in its form: the head is `type WORD`, `height N` and `width N`, and `map`") small refl)
map_read map.Size small = refl
map_read (map.Row r) small =
    let rest = codes "is missing or not as long as the width" in
    ap (place_by map_file) (in_map (codes "the map: ") (codes "row ") (decimal r) (codes " is missing or not as long as the width"))
    ∙ row_told r 32 rest small refl refl
map_read (map.Cell r column) small =
    let rest = codes "has a byte that is no letter of a map" in
    ap (place_by map_file) (in_map (codes "the map: ") (codes "row ") (decimal r) (codes " has a byte that is no letter of a map"))
    ∙ row_told r 32 rest small refl refl
map_read (map.Trailing n) small =
    ap (place_by map_file) (in_map (codes "the map: ") (codes "line ") (decimal n) (codes " comes after the last row and is not blank"))
    ∙ ap line (number_read n 32 (codes "comes after the last row and is not blank") small refl)
map_read map.NoMemory small = refl

-- no limit's name begins as a line does
kind_read : (k : LimitKind) (rest : List ℕ) → place_by script_file (codes "the script: " ++ (name_of k ++ (codes " is " ++ rest))) ≡ whole
kind_read (kind.Fleet limit.Lane) rest = refl
kind_read (kind.Fleet limit.Outlet) rest = refl
kind_read (kind.Fleet limit.Queue) rest = refl
kind_read (kind.Fleet limit.Mailbox) rest = refl
kind_read (kind.Fleet limit.Life) rest = refl
kind_read (kind.Fleet limit.Orders) rest = refl
kind_read (kind.Fleet limit.Clock) rest = refl
kind_read (kind.Fleet limit.Chapter) rest = refl
kind_read (kind.Fleet limit.Chapters) rest = refl
kind_read kind.Clients rest = refl

limit_parts : (a b c d e f g h : List ℕ) → a ++ (b ++ c ++ d ++ e ++ f ++ g ++ h) ≡ a ++ (b ++ (c ++ (d ++ (e ++ (f ++ (g ++ h))))))
limit_parts a b c d e f g h = simp append_assoc

start_read : (f : StartFault) (width : ℕ) → place_by script_file (sentence (explanation.Start f width)) ≡ whole
start_read (start.Limit f) width =
    let rest = decimal f.value ++ (codes ", which is not from " ++ (decimal (least_of f.kind) ++ (codes " to " ++ decimal (most_of f.kind)))) in
    ap (place_by script_file) (limit_parts (codes "the script: ") (name_of f.kind) (codes " is ") (decimal f.value) (codes ", which is not from ") (decimal (least_of f.kind)) (codes " to ") (decimal (most_of f.kind)))
    ∙ kind_read f.kind rest
start_read start.Robots width = refl
start_read (start.OffFloor robot cell) width = refl
start_read (start.Outside robot cell cells) width = refl
start_read (start.Shared first second cell) width = refl

abbrev shapes : List ℕ
shapes = codes "is not in the form of a take, a tick or a shut: `[\"take\",CLIENT,ORDER,VERDICT]`, `[\"tick\",CELLS,ARRIVALS,FAREWELLS]`, `[\"shut\",ROBOT]` or `[\"shut\",ROBOT,STAMP]`"

form_read : (part : FormPart) → IsInRange (form_place part) → place_by trace_file (sentence (explanation.Form part)) ≡ form_place part
form_read form.Value small = refl
form_read form.Members small = refl
form_read form.Chapter small = refl
form_read form.Opening small = refl
form_read form.Entries small = refl
form_read (form.Entry n) small = ap entry (number_read n 32 shapes small refl)

pub place_read : (e : Explanation) → IsInRange (place_of e) → place_by (file_of e) (sentence e) ≡ place_of e
place_read explanation.Fine small = refl
place_read (explanation.Map f) small = map_read f small
place_read (explanation.Letter r column l) small =
    ap (place_by map_file) (seven (codes "the map: row ") (decimal r) (codes ", column ") (decimal column) (codes " has ") (letter_text l) (codes ", which is no letter of a map"))
    ∙ letter_told r column 32 (codes "has " ++ (letter_text l ++ codes ", which is no letter of a map")) small.0 small.1 refl
place_read (explanation.Script n f) small =
    ap (place_by script_file) (four (codes "the script: line ") (decimal n) (codes ": ") (line_text f))
    ∙ ap line (number_read n 58 (codes " " ++ line_text f) small refl)
place_read (explanation.Unserved n clients) small =
    ap (place_by no_file)
    (four (codes "all in order for `run`; `serve` does not take line ") (decimal n) (codes ", which is no post or collect of a client below ") (decimal clients))
    ∙ ap line (number_read n 44 (codes " which is no post or collect of a client below " ++ decimal clients) small refl)
place_read (explanation.Start f width) small = start_read f width
place_read (explanation.NotJson position) small = refl
place_read explanation.Version small = refl
place_read (explanation.Form part) small = form_read part small
place_read (explanation.Illegal at rule kind detail) small =
    ap (place_by trace_file) (seven (codes "the trace: entry ") (decimal at) (codes ", ") (kind_text kind) (codes ": ") (rule_text rule) (more_text rule detail))
    ∙ ap entry (number_read at 44 (codes " " ++ (kind_text kind ++ (codes ": " ++ (rule_text rule ++ more_text rule detail)))) small refl)

pub one_place : (e f : Explanation) → IsInRange (place_of e) → IsInRange (place_of f) → sentence e ≡ sentence f → place_of e ≡ place_of f
one_place e f small narrow same =
    sym (place_read e small) ∙ ap (λ (file : File). place_by file (sentence e)) (one_file e f same) ∙ ap (place_by (file_of f)) same ∙ place_read f narrow
