-- The first part of a JSON text that is not in the form of a trace.
use Rattle.std.proofs.Common.{◌≡◌, ◌∙◌, ℕ, ◌+◌, ◌<◌, ◌≤◌, List, [], ◌∷◌, ◌++◌, length, get_or, map, take, drop, Option, Some, None, true, false, refl, sym, ap, subst, arith}
use Rattle.std.specs.Prelude.{◌≢◌, ℤ, codes, is_some, if◌then◌else◌}
use Rattle.std.specs.Option.{option_map, option_and_then}
use Rattle.std.specs.declared.alloc.Global.{Global}
use Rattle.std.proofs.lemmas.List.{take_more, drop_more, take_all, take-append-drop, map-append, length-map, length-take-le}
use Rattle.serde_json.specs.Data.{Data}
use Rattle.serde_json.specs.Find.{get}
use Rattle.fleet_history.specs.declared.history.Entry.{Entry}
use Rattle.fleet_history.specs.declared.history.Opening.{Opening}
use Rattle.fleet_trace.specs.declared.fault.TraceFault.TheVariants.{Shape}
use Rattle.fleet_trace.specs.declared.part.FormPart.{FormPart}
use Rattle.fleet_trace.specs.declared.part.FormPart.TheVariants as part
use Rattle.fleet_trace.specs.declared.version.Version.{Version}
use Rattle.fleet_trace.specs.Trace.{Trace}
use Rattle.fleet_trace.specs.Version.{version_number, version_of}
use Rattle.fleet_trace.specs.Told.{all_in, entry_in, has_members, items_in, list_in, told_in, trace_in}
use Rattle.fleet_trace.specs.Reads.{IsTraceFault, IsVersionKnown}
use Rattle.fleet_trace.specs.Misformed.{HasKeys, IsFirstUntold, IsFormFault, IsMisformedIn, Names, chapter_under, opening_under, entries_under}
use Rattle.fleet_trace.proofs.ErrandNames.{impossible}

pub is_there : {X : Type 0} (o : Option X) → is_some o ≡ true → o ≢ None
is_there None there e = impossible there
is_there (Some x) there e = cc

-- ---- values that tell something, one after the other

module _ {Y : Type 0} (told : Data → Option Y) where
  one_more : (o : Option Y) (rest : Option (List Y)) → o ≢ None → rest ≢ None → option_and_then (λ y. option_map (λ ys. y ∷ ys) rest) o ≢ None
  one_more None rest here more e = here refl
  one_more (Some y) None here more e = more refl
  one_more (Some y) (Some ys) here more e = cc

  head_told : (o : Option Y) (rest : Option (List Y)) → option_and_then (λ y. option_map (λ ys. y ∷ ys) rest) o ≢ None → o ≢ None
  head_told None rest all e = all refl
  head_told (Some y) rest all e = cc

  rest_told : (o : Option Y) (rest : Option (List Y)) → option_and_then (λ y. option_map (λ ys. y ∷ ys) rest) o ≢ None → rest ≢ None
  rest_told None rest all e = all refl
  rest_told (Some y) None all e = all refl
  rest_told (Some y) (Some ys) all e = cc

  told_push : (ds : List Data) (d : Data) → all_in told ds ≢ None → told d ≢ None → all_in told (ds ++ d ∷ []) ≢ None
  told_push [] d all here = one_more (told d) (Some []) here (λ e. cc)
  told_push (x ∷ ds) d all here = one_more (told x) (all_in told (ds ++ d ∷ [])) (head_told (told x) (all_in told ds) all) (told_push ds d (rest_told (told x) (all_in told ds) all) here)

  module _ {X : Type 0} (see : X → Data) (xs : List X) (i : ℕ) where
    pub told_all : length xs ≤ i → all_in told (map see (take i xs)) ≢ None → all_in told (map see xs) ≢ None
    told_all past all = subst (λ (l : List X). all_in told (map see l) ≢ None) (take_all i xs past) all

    module _ (x : X) (less : i < length xs) (is : x ≡ get_or xs i x) where
      pub told_more : told (see x) ≢ None → all_in told (map see (take i xs)) ≢ None → all_in told (map see (take (i + 1) xs)) ≢ None
      told_more here all =
          let grown : map see (take (i + 1) xs) ≡ map see (take i xs) ++ see x ∷ [] =
          ap (map see) (take_more xs i x less ∙ ap (λ y. take i xs ++ y ∷ []) (sym is)) ∙ map-append see (take i xs) (x ∷ []) in
          subst (λ (l : List Data). all_in told l ≢ None) (sym grown) (told_push (map see (take i xs)) (see x) all here)

pub first_here : {X : Type 0} (v : Version) (see : X → Data) (xs : List X) (i : ℕ) (x : X) → i < length xs → x ≡ get_or xs i x → entry_in {A = Global} v (see x) ≡ None
    → all_in (entry_in {A = Global} v) (map see (take i xs)) ≢ None → IsFirstUntold v (map see xs) (i + 1)
first_here v see xs i x less is untold told =
    let split : xs ≡ take i xs ++ x ∷ drop (i + 1) xs = sym (take-append-drop i xs) ∙ ap (λ l. take i xs ++ l) (drop_more xs i x less ∙ ap (λ y. y ∷ drop (i + 1) xs) (sym is)) in
    record {
      before = map see (take i xs);
      value = see x;
      behind = map see (drop (i + 1) xs);
      splits = ap (map see) split ∙ map-append see (take i xs) (x ∷ drop (i + 1) xs);
      place = ap (λ (n : ℕ). n + 1) (sym (length-map (take i xs) see ∙ length-take-le i xs (omega (arith, less))));
      told = told;
      untold = untold;
    }

-- ---- a value with such a part tells no trace

-- a trace from what is told under its keys
abbrev joined : Option ℕ → Option (Opening Global) → Option (List (Entry Global)) → Option (Trace Global)
joined number opening entries = option_and_then (λ n. option_and_then (λ o. option_map (λ es. record { number = n; history = record { opening = o; entries = es } }) entries) opening) number

no_opening : (n : Option ℕ) (o : Option (Opening Global)) (es : Option (List (Entry Global))) → o ≡ None → joined n o es ≡ None
no_opening None o es none = refl
no_opening (Some n) o es none = rw none refl

no_entries : (n : Option ℕ) (o : Option (Opening Global)) (es : Option (List (Entry Global))) → es ≡ None → joined n o es ≡ None
no_entries None o es none = refl
no_entries (Some n) None es none = refl
no_entries (Some n) (Some o) es none = rw none refl

first_none : (v : Version) (before behind : List Data) (value : Data) → entry_in {A = Global} v value ≡ None → all_in (entry_in {A = Global} v) (before ++ value ∷ behind) ≡ None
first_none v [] behind value none = rw none refl
first_none v (d ∷ before) behind value none = rw (first_none v before behind value none) (elim (entry_in {A = Global} v d) as (λ o. option_and_then (λ y. option_map (λ ys. y ∷ ys) None) o ≡ None) [ None ↦ refl | Some y ↦ refl ])

module _ (v : Version) (d : Data) where
  abbrev entries_told : Option (List (Entry Global))
  entries_told = option_and_then (list_in (entry_in v)) (get (codes "entries") d)

  by_values : (g : Option Data) (r : Option (List Data)) → option_and_then items_in g ≡ r → option_and_then (list_in (entry_in {A = Global} v)) g ≡ option_and_then (all_in (entry_in v)) r
  by_values None r e = ap (option_and_then (all_in (entry_in {A = Global} v))) e
  by_values (Some x) r e = ap (option_and_then (all_in (entry_in {A = Global} v))) e

  of_four : has_members 4 d ≡ true → told_in v d ≡ joined (chapter_under d) (opening_under d) entries_told
  of_four four = rw four refl

  keys : (t : Trace Global) → told_in v d ≡ Some t → HasKeys d
  keys t told = record {
    four = four;
    chapter = λ none. some_not (sym (of_four four ∙ rw none refl) ∙ told);
    opening = λ none. some_not (sym (of_four four ∙ no_opening (chapter_under d) (opening_under d) entries_told (rw none refl)) ∙ told);
    entries = λ none. some_not (sym (of_four four ∙ no_entries (chapter_under d) (opening_under d) entries_told (rw none refl)) ∙ told);
  } where
    some_not : None ≡ Some t → ⊥
    some_not e = cc

    four : has_members 4 d ≡ true
    four = elim (has_members 4 d) as (λ b. (if b then joined (chapter_under d) (opening_under d) entries_told else None) ≡ Some t → b ≡ true) [ true ↦ λ _. refl | false ↦ λ e. absurd (some_not e) ] told

  pub untold : (p : FormPart) → IsMisformedIn v d p → told_in {A = Global} v d ≡ None
  untold part.Value bad = absurd bad
  untold part.Members bad = by (told_in v d) refl where
    by : (r : Option (Trace Global)) → told_in v d ≡ r → r ≡ None
    by None told = refl
    by (Some t) told = absurd (bad (keys t told))
  untold part.Chapter bad = of_four bad.0.four ∙ rw (bad.1) refl
  untold part.Opening bad = of_four bad.0.four ∙ no_opening (chapter_under d) (opening_under d) entries_told bad.2
  untold part.Entries bad = of_four bad.0.four ∙ no_entries (chapter_under d) (opening_under d) entries_told (by_values (get (codes "entries") d) None bad.3)
  untold (part.Entry n) bad = by bad.3 bad.4.0 bad.4.1 where
    by : (ds : List Data) → entries_under d ≡ Some ds → IsFirstUntold v ds n → told_in {A = Global} v d ≡ None
    by ds are first = of_four bad.0.four ∙ no_entries (chapter_under d) (opening_under d) entries_told
        (by_values (get (codes "entries") d) (Some ds) are ∙ ap (all_in (entry_in v)) first.splits ∙ first_none v first.before first.behind first.value first.untold)

known : (n : Option ℤ) (v : Version) → option_and_then version_of n ≡ Some v → IsVersionKnown n
known None v e = tt
known (Some n) v e = λ none. cc

in_version : (d : Data) (p : FormPart) (v : Version) → Names d v → IsMisformedIn v d p → IsVersionKnown (version_number d) × (trace_in {A = Global} d ≡ None)
in_version d p v names bad = (known (version_number d) v names, ap (option_and_then (λ w. told_in w d)) names ∙ untold v d p bad)

-- bytes with such a part have not the form of a trace
pub is_shape : (bytes : List ℕ) (p : FormPart) → IsFormFault bytes p → IsTraceFault bytes Shape
is_shape bytes part.Value f = (f.0, (f.1.0, (subst IsVersionKnown (sym f.1.1) tt, ap (λ (n : Option ℤ). option_and_then (λ w. told_in w f.0) (option_and_then version_of n)) f.1.1)))
is_shape bytes part.Members f = (f.0, (f.1.0, in_version f.0 part.Members f.1.1.0 f.1.1.1.0 f.1.1.1.1))
is_shape bytes part.Chapter f = (f.0, (f.1.0, in_version f.0 part.Chapter f.1.1.0 f.1.1.1.0 f.1.1.1.1))
is_shape bytes part.Opening f = (f.0, (f.1.0, in_version f.0 part.Opening f.1.1.0 f.1.1.1.0 f.1.1.1.1))
is_shape bytes part.Entries f = (f.0, (f.1.0, in_version f.0 part.Entries f.1.1.0 f.1.1.1.0 f.1.1.1.1))
is_shape bytes (part.Entry n) f = (f.0, (f.1.0, in_version f.0 (part.Entry n) f.1.1.0 f.1.1.1.0 f.1.1.1.1))
