-- Lines in form: the reading takes them, and no others.
use Rattle.std.proofs.Common.{◌≡◌, ℕ, zero, suc, ◌+◌, ◌≤◌, true, false, cond, leb, List, [], ◌∷◌, ◌++◌, replicate, Option, Some, None, is_some, refl, sym, ap, subst, ◌∙◌, inl, inr, arith, codes, bytes_eq, option_map, option_and_then, true≢false}
use Rattle.std.specs.List.{AllByRecursion, IsDistinct}
use Rattle.std.proofs.lemmas.Bool.{cases_Bool, leb-true, or_parts, or_from}
use Rattle.std.proofs.lemmas.Option.{same_Some}
use Rattle.fleet_book.specs.declared.event.Event.{Event}
use Rattle.fleet_book.specs.declared.event.Event.TheVariants as event
use Rattle.fleet_script.specs.Numbers.{most32, one_in}
use Rattle.fleet_script.specs.Script.{Draft, Repeated, once_only, post_in, ticks_in, no_events, blank_draft, with_header, with_events, with_other, with_line_of, with_words, events_of}
use Rattle.fleet_script.specs.Grammar.{Line, is_header, IsHeadLine, IsBodyLine, first_words, AreInForm}
use Rattle.fleet_script.proofs.Heads.{at_word, given, told, header_is, none_given}

-- ---- event lines

pub record IsEvent (d : Draft) (key : List ℕ) (words : List (List ℕ)) (r : Repeated) : Type 0 where
  pub keeps : told d (key ∷ words) ≡ d
  pub header : is_header key words ≡ false
  pub some : 1 ≤ r.times

one_time : {A : Type 0} (o : Option A) (f : A → Event) (r : Repeated) → option_map (λ x. once_only (f x)) o ≡ Some r → 1 ≤ r.times
one_time None f r h = absurd cc
one_time (Some x) f r h = subst (λ (s : Repeated). 1 ≤ s.times) (same_Some (once_only (f x)) r h) (omega arith)

from_one : (n m : ℕ) → cond (leb 1 n) (Some n) None ≡ Some m → 1 ≤ m
from_one n m h = elim (cases_Bool (leb 1 n)) [
  | inl e ↦ let s : Some n ≡ Some m = rw e at h in subst (λ (k : ℕ). 1 ≤ k) (same_Some n m s) (leb-true 1 n e)
  | inr e ↦ let s : None ≡ Some m = rw e at h in absurd cc
]

some_ticks : (words : List (List ℕ)) (n : ℕ) → ticks_in words ≡ Some n → 1 ≤ n
some_ticks [] n h = subst (λ (k : ℕ). 1 ≤ k) (same_Some 1 n h) (omega arith)
some_ticks (word ∷ words) n h = go (one_in 1000000 (word ∷ words)) h
  where
    go : (o : Option ℕ) → option_and_then (λ m. cond (leb 1 m) (Some m) None) o ≡ Some n → 1 ≤ n
    go None h = absurd cc
    go (Some m) h = from_one m n h

ticks : (o : Option ℕ) (r : Repeated) → ((n : ℕ) → o ≡ Some n → 1 ≤ n) → option_map (λ n. record { event = event.Tick; times = n }) o ≡ Some r → 1 ≤ r.times
ticks None r low h = absurd cc
ticks (Some n) r low h = subst (λ (s : Repeated). 1 ≤ s.times) (same_Some (record { event = event.Tick; times = n }) r h) (low n refl)

abbrev pub IfEvent : Draft → List (List ℕ) → Repeated → List ℕ → Type 0
IfEvent d words r key = events_of key words ≡ Some r → IsEvent d key words r

abbrev repeated : Repeated → Option Repeated
repeated r = Some r

pub event_is : (d : Draft) (key : List ℕ) (words : List (List ℕ)) (r : Repeated) → IfEvent d words r key
event_is d key words r =
    at_word (IfEvent d words r) key (codes "post") (λ h. record { keeps = refl; header = refl; some = one_time (post_in words) (λ x. x) r h })
    (λ e1. at_word (IfEvent d words r) key (codes "take") (λ h. record { keeps = refl; header = refl; some = one_time (one_in most32 words) (λ c. event.Take c) r h })
    (λ e2. at_word (IfEvent d words r) key (codes "tick") (λ h. record { keeps = refl; header = refl; some = ticks (ticks_in words) r (some_ticks words) h })
    (λ e3. at_word (IfEvent d words r) key (codes "give") (λ h. record { keeps = refl; header = refl; some = one_time (one_in most32 words) (λ c. event.Give c) r h })
    (λ e4. at_word (IfEvent d words r) key (codes "collect") (λ h. record { keeps = refl; header = refl; some = one_time (one_in most32 words) (λ c. event.Collect c) r h })
    (λ e5. at_word (IfEvent d words r) key (codes "shut") (λ h. record { keeps = refl; header = refl; some = one_time (one_in most32 words) (λ c. event.Shut c) r h })
    (λ e6 h. let bad : None ≡ repeated r = rw (e1, e2, e3, e4, e5, e6) at h in absurd cc))))))

-- ---- the reading, line by line

unfoldable pub fold_lines : Draft → ℕ → List Line → Option Draft
fold_lines d n [] = Some d
fold_lines d n (line ∷ lines) = option_and_then (λ more. fold_lines more (n + 1) lines) (with_words d n line)

pub and_then_some : {A B : Type 0} (f : A → Option B) (o : Option A) (y : B) → option_and_then f o ≡ Some y → (x : A) × (o ≡ Some x) × (f x ≡ Some y)
and_then_some f None y h = absurd cc
and_then_some f (Some x) y h = (x, refl, h)

-- ---- what is read is in form

record FormFrom (d : Draft) (lines : List Line) : Type 0 where
  form : AreInForm lines
  fresh : AllByRecursion (λ key. given d key ≡ false) (first_words form.head)
  begun : no_events d.events ≡ false → first_words form.head ≡ []

all_more : {A : Type 0} (P Q : A → Type 0) (xs : List A) → ((x : A) → P x → Q x) → AllByRecursion P xs → AllByRecursion Q xs
all_more P Q [] f p = tt
all_more P Q (x ∷ xs) f p = (f x p.0, all_more P Q xs f p.1)

all_both : {A : Type 0} (P Q R : A → Type 0) (xs : List A) → ((x : A) → P x → Q x → R x) → AllByRecursion P xs → AllByRecursion Q xs → AllByRecursion R xs
all_both P Q R [] f p q = tt
all_both P Q R (x ∷ xs) f p q = (f x p.0 q.0, all_both P Q R xs f p.1 q.1)

apart : (a b : List ℕ) → bytes_eq a b ≡ false → bytes_eq b a ≡ false
apart a b h = at_word (λ x. bytes_eq a x ≡ false → bytes_eq x a ≡ false) b a (λ e. e) (λ e f. e) h

all_body : (head body : List Line) → AllByRecursion IsHeadLine head → first_words head ≡ [] → AllByRecursion IsBodyLine body → AllByRecursion IsBodyLine (head ++ body)
all_body [] body h none b = b
all_body ([] ∷ head) body h none b = (tt, all_body head body h.1 none b)
all_body ((key ∷ words) ∷ head) body h none b = absurd cc

has_events : (events : List Event) (n : ℕ) (e : Event) → 1 ≤ n → no_events (events ++ replicate n e) ≡ false
has_events (x ∷ events) n e h = refl
has_events [] zero e h = absurd (omega (arith, h))
has_events [] (suc n) e h = refl

pub other_is : (d : Draft) (key : List ℕ) (words : List (List ℕ)) (m : Draft) → with_other d key words ≡ Some m → (no_events d.events ≡ true) × (with_header d key words ≡ Some m)
other_is d key words m h = elim (cases_Bool (no_events d.events)) [
  | inl e ↦ let s : with_header d key words ≡ Some m = rw e at h in (e, s)
  | inr e ↦ let s : None ≡ Some m = rw e at h in absurd cc
]

form_before : (d : Draft) (n : ℕ) (line : Line) (lines : List Line) (m : Draft) → with_words d n line ≡ Some m → FormFrom m lines → FormFrom d (line ∷ lines)
unfolding IsDistinct
form_before d n [] lines m h f =
    let g = subst (λ (x : Draft). FormFrom x lines) (sym (same_Some d m h)) f in
    record {
      form = record { head = [] ∷ g.form.head; body = g.form.body; parts = ap (λ (l : List Line). [] ∷ l) g.form.parts; headers = (tt, g.form.headers); once = g.form.once; events = g.form.events };
      fresh = g.fresh;
      begun = g.begun;
    }
form_before d n (key ∷ words) lines m h f = go (events_of key words) refl h
  where
    go : (o : Option Repeated) → events_of key words ≡ o → with_line_of d n key words o ≡ Some m → FormFrom d ((key ∷ words) ∷ lines)
    go (Some r) is h =
        let e = same_Some (with_events d n r) m h in
        let some : no_events m.events ≡ false = subst (λ (x : Draft). no_events x.events ≡ false) e (has_events d.events r.times r.event (event_is d key words r is).some) in
        record {
          form = record {
            head = [];
            body = (key ∷ words) ∷ lines;
            parts = refl;
            headers = tt;
            once = tt;
            events = (rw is refl, subst (λ (l : List Line). AllByRecursion IsBodyLine l) (sym f.form.parts) (all_body f.form.head f.form.body f.form.headers (f.begun some) f.form.events));
          };
          fresh = tt;
          begun = λ b. refl;
        }
    go None is h =
        let t = other_is d key words m h in
        let took = (header_is d key words).took m t.1 in
        let parts = λ (k : List ℕ) (e : given m k ≡ false). or_parts (bytes_eq k key) (given d k) (sym (took.more k) ∙ e) in
        record {
          form = record {
            head = (key ∷ words) ∷ f.form.head;
            body = f.form.body;
            parts = ap (λ (l : List Line). (key ∷ words) ∷ l) f.form.parts;
            headers = (took.form, f.form.headers);
            once = (all_more (λ k. given m k ≡ false) (λ k. bytes_eq key k ≡ false) (first_words f.form.head) (λ k e. apart k key (parts k e).0) f.fresh, f.form.once);
            events = f.form.events;
          };
          fresh = (took.fresh, all_more (λ k. given m k ≡ false) (λ k. given d k ≡ false) (first_words f.form.head) (λ k e. (parts k e).1) f.fresh);
          begun = λ b. absurd (true≢false (sym t.0 ∙ b));
        }

form_from : (d : Draft) (n : ℕ) (lines : List Line) (e : Draft) → fold_lines d n lines ≡ Some e → FormFrom d lines
unfolding fold_lines IsDistinct
form_from d n [] e h = record { form = record { head = []; body = []; parts = refl; headers = tt; once = tt; events = tt }; fresh = tt; begun = λ b. refl }
form_from d n (line ∷ lines) e h =
    let t = and_then_some (λ more. fold_lines more (n + 1) lines) (with_words d n line) e h in
    form_before d n line lines t.0 t.1 (form_from t.0 (n + 1) lines e t.2)

pub in_form : (lines : List Line) (e : Draft) → fold_lines blank_draft 1 lines ≡ Some e → AreInForm lines
in_form lines e h = (form_from blank_draft 1 lines e h).form

-- ---- what is in form is read

some_value : {A : Type 0} (o : Option A) → is_some o ≡ true → (x : A) × (o ≡ Some x)
some_value None h = absurd (true≢false (sym h))
some_value (Some x) h = (x, refl)

pub one_more : (d m e : Draft) (n : ℕ) (line : Line) (lines : List Line) → with_words d n line ≡ Some m → fold_lines m (n + 1) lines ≡ Some e → fold_lines d n (line ∷ lines) ≡ Some e
unfolding fold_lines
one_more d m e n line lines first rest = rw first rest

body_read : (d : Draft) (n : ℕ) (body : List Line) → AllByRecursion IsBodyLine body → (e : Draft) × (fold_lines d n body ≡ Some e)
unfolding fold_lines
body_read d n [] b = (d, refl)
body_read d n ([] ∷ body) b = body_read d (n + 1) body b.1
body_read d n ((key ∷ words) ∷ body) b =
    let r = some_value (events_of key words) b.0 in
    let rest = body_read (with_events d n r.0) (n + 1) body b.1 in
    (rest.0, one_more d (with_events d n r.0) rest.0 n (key ∷ words) body (ap (λ (o : Option Repeated). with_line_of d n key words o) r.1) rest.1)

no_event : (d : Draft) (key : List ℕ) (words : List (List ℕ)) → is_header key words ≡ true → events_of key words ≡ None
no_event d key words h = go (events_of key words) refl
  where
    go : (o : Option Repeated) → events_of key words ≡ o → events_of key words ≡ None
    go None is = is
    go (Some r) is = absurd (true≢false (sym h ∙ (event_is d key words r is).header))

head_read : (d : Draft) (n : ℕ) (head body : List Line) → no_events d.events ≡ true → AllByRecursion IsHeadLine head → IsDistinct bytes_eq (first_words head) → AllByRecursion (λ key. given d key ≡ false) (first_words head) → AllByRecursion IsBodyLine body
    → (e : Draft) × (fold_lines d n (head ++ body) ≡ Some e)
unfolding fold_lines IsDistinct
head_read d n [] body begun h once fresh b = body_read d n body b
head_read d n ([] ∷ head) body begun h once fresh b = head_read d (n + 1) head body begun h.1 once fresh b
head_read d n ((key ∷ words) ∷ head) body begun h once fresh b =
    let takes = header_is d key words in
    let m = takes.takes h.0 fresh.0 in
    let took = takes.took m.0 m.1 in
    let still : no_events m.0.events ≡ true = subst (λ (x : Draft). no_events x.events ≡ true) (sym took.value) begun in
    let free = all_both (λ k. bytes_eq key k ≡ false) (λ k. given d k ≡ false) (λ k. given m.0 k ≡ false) (first_words head) (λ k e f. took.more k ∙ or_from (bytes_eq k key) (given d k) (apart key k e) f) once.0 fresh.1 in
    let rest = head_read m.0 (n + 1) head body still h.1 once.1 free b in
    (rest.0, rw (no_event d key words h.0, begun, m.1) (rest.1))

all_free : (keys : List (List ℕ)) → AllByRecursion (λ key. given blank_draft key ≡ false) keys
all_free [] = tt
all_free (key ∷ keys) = (none_given key, all_free keys)

pub form_read : (lines : List Line) → AreInForm lines → (e : Draft) × (fold_lines blank_draft 1 lines ≡ Some e)
form_read lines f = rw f.parts (head_read blank_draft 1 f.head f.body refl f.headers f.once (all_free (first_words f.head)) f.events)
