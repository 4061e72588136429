-- Acts one after another, and what they come to.
use Rattle.std.proofs.Common.{◌≡◌, ◌≢◌, ◌∙◌, ℕ, ◌+◌, ◌≤◌, ◌<◌, ◌==◌, Bool, true, false, ◌||◌, ◌⊎◌, inl, inr, List, [], ◌∷◌, ◌++◌, length, refl, sym, ap, subst, arith, append_assoc, append-nil, cond}
use borrow.Author.Tests.{eqb-true}
use Rattle.std.proofs.lemmas.Bool.{eq-eqb}
use Rattle.std.specs.Prelude.{slice_index_or, slice_set, if◌then◌else◌}
use Rattle.std.specs.List.{flat_map, list_any}
use Rattle.std.specs.declared.alloc.Global.{Global}
use Rattle.std.proofs.lemmas.Grind.{flat_map-append}
use Rattle.std.proofs.lemmas.List.{get_or-set_same, get_or-set_other, length-set, length-append}
use Rattle.std.proofs.lemmas.List.Folds.{list_any-append}
use Rattle.fleet_book.specs.declared.event.Event.{Event}
use Rattle.fleet_book.specs.declared.event.Event.TheVariants.{Collect}
use Rattle.fleet_book.specs.declared.notice.Notice.{Notice}
use Rattle.fleet_core.specs.Core.{widened}
use Rattle.fleet_text.specs.Output.{is_limit_met, notice_line}
use Rattle.fleet_world.specs.declared.reply.Reply.{Reply}
use Rattle.fleet_world.specs.declared.reply.Reply.TheVariants.{Collected}
use Rattle.fleet_world.specs.Talk.{Talk, TalkStep, next_talk, talk_of}
use Rattle.fleet_talk.specs.Acts.{NeedsRoom}
use Rattle.fleet_talk.specs.Chapters.{ChapterView, IsSound, chapter_in}
use Rattle.live_parts.specs.Recalls.{Recalls, noted}
use Rattle.live_fleet.specs.Act.{Act, Acts, Runs, did, full, handed, told, said, grew, meets_limit, met_by}
use Rattle.live_fleet.specs.Out.{Out, Fits, IsWithin, chapters_of, handed_by, text_at, told_by, told_to}
use Rattle.live_fleet.specs.Recalling.{noted_at, noted_by}
use Rattle.live_fleet.specs.Went.{At, FleetView, Went}

-- ---- truth values

or_none : (b : Bool) → b ≡ (b || false)
or_none true = refl
or_none false = refl

or_then : (a b c : Bool) → ((a || b) || c) ≡ (a || (b || c))
or_then true b c = refl
or_then false b c = refl

pub met-then : (met : Bool) (xs ys : List Act) → ((met || met_by xs) || met_by ys) ≡ (met || met_by (xs ++ ys))
met-then met xs ys = or_then met (met_by xs) (met_by ys) ∙ ap (λ m. met || m) (sym (list_any-append meets_limit xs ys))

-- ---- runs

pub runs-then : (s m t : Talk Global) (xs ys : List Act) → Runs s xs m → Runs m ys t → Runs s (xs ++ ys) t
runs-then s m t [] ys same more = subst (λ (x : Talk Global). Runs x ys t) same more
runs-then s m t (x ∷ xs) ys (mid, act, rest) more = (mid, act, runs-then mid m t xs ys rest more)

-- ---- what is kept of notices that were told

pub noted-then : (r : Recalls) (xs ys : List Act) → noted_by ys (noted_by xs r) ≡ noted_by (xs ++ ys) r
noted-then r [] ys = refl
noted-then r (x ∷ xs) ys = noted-then (noted_at x r) xs ys

-- ---- texts

pub within-same : (x : List ℕ) → IsWithin x x
within-same x = inr (inr refl)

-- a text that is empty after others were added to it was empty
no_more : (x y more : List ℕ) → y ≡ x ++ more → length y ≡ 0 → length x ≡ 0
no_more x y more grown none = let e : length x + length more ≡ 0 = sym (length-append x more) ∙ (ap length (sym grown) ∙ none) in omega (arith, e)

pub within-then : (x y z more : List ℕ) → y ≡ x ++ more → IsWithin x y → IsWithin y z → IsWithin x z
within-then x y z more grown first (inl few) = inl few
within-then x y z more grown first (inr (inl none)) = inr (inl (no_more x y more grown none))
within-then x y z more grown first (inr (inr same)) = subst (λ (l : List ℕ). IsWithin x l) (sym same) first

-- a text that fits
pub within-fits : (x more : List ℕ) → Fits x (length more) → IsWithin x (x ++ more)
within-fits x more (inl few) = let e : length (x ++ more) ≤ 65536 = subst (λ n. n ≤ 65536) (sym (length-append x more)) few in inl e
within-fits x more (inr none) = inr (inl none)

-- ---- what is said and handed out

pub went-none : (a : At) → Went a [] a
went-none a = record {
  runs = refl;
  met = or_none a.fleet.met;
  recalls = refl;
  count = refl;
  tells = λ k. sym (append-nil (text_at a.out k));
  hands = sym (append-nil a.out.chapters);
  within = λ k. within-same (text_at a.out k);
}

pub went-then : (a b c : At) (xs ys : List Act) → Went a xs b → Went b ys c → Went a (xs ++ ys) c
went-then a b c xs ys x y = record {
  runs = runs-then a.fleet.talk b.fleet.talk c.fleet.talk xs ys x.runs y.runs;
  met = y.met ∙ (ap (λ m. m || met_by ys) x.met ∙ met-then a.fleet.met xs ys);
  recalls = y.recalls ∙ (ap (noted_by ys) x.recalls ∙ noted-then a.fleet.recalls xs ys);
  count = y.count ∙ x.count;
  tells = λ k. y.tells k ∙ (ap (λ (l : List ℕ). l ++ told_to k ys) (x.tells k) ∙ (append_assoc (text_at a.out k) (told_to k xs) (told_to k ys) ∙ ap (λ (l : List ℕ). text_at a.out k ++ l) (sym (flat_map-append (told_by k) xs ys))));
  hands = y.hands ∙ (ap (λ (l : List (ChapterView Global)). l ++ chapters_of ys) x.hands ∙ (append_assoc a.out.chapters (chapters_of xs) (chapters_of ys) ∙ ap (λ (l : List (ChapterView Global)). a.out.chapters ++ l) (sym (flat_map-append handed_by xs ys))));
  within = λ k. within-then (text_at a.out k) (text_at b.out k) (text_at c.out k) (told_to k xs) (x.tells k) (x.within k) (y.within k);
}

-- where nothing is said and no chapter handed out
quiet : (a b : At) (act : Act) → Acts a.fleet.talk act b.fleet.talk → b.fleet.met ≡ (a.fleet.met || met_by (act ∷ [])) → b.fleet.recalls ≡ noted_at act a.fleet.recalls → b.out ≡ a.out → ((k : ℕ) → told_by k act ≡ []) → handed_by act ≡ []
    → Went a (act ∷ []) b
quiet a b act acts met recalls same silent none = record {
  runs = (b.fleet.talk, acts, refl);
  met = met;
  recalls = recalls;
  count = ap (λ (o : Out). length o.texts) same;
  tells = λ k. ap (λ (o : Out). text_at o k) same ∙ (sym (append-nil (text_at a.out k)) ∙ ap (λ (l : List ℕ). text_at a.out k ++ (l ++ [])) (sym (silent k)));
  hands = ap (λ (o : Out). o.chapters) same ∙ (sym (append-nil a.out.chapters) ∙ ap (λ (l : List (ChapterView Global)). a.out.chapters ++ (l ++ [])) (sym none));
  within = λ k. inr (inr (ap (λ (o : Out). text_at o k) same));
}

or_false : (m b : Bool) → (m || (b || false)) ≡ (m || b)
or_false true b = refl
or_false false true = refl
or_false false false = refl

pub went-did : (a b : At) (e : Event) (reply : Reply) → TalkStep a.fleet.talk e reply b.fleet.talk → b.fleet.met ≡ (a.fleet.met || is_limit_met reply) → b.fleet.recalls ≡ a.fleet.recalls → b.out ≡ a.out → Went a (did e reply ∷ []) b
went-did a b e reply step met recalls same = quiet a b (did e reply) step (met ∙ sym (or_false a.fleet.met (is_limit_met reply))) recalls same (λ k. refl) refl

pub went-grew : (a b : At) (c extra : ℕ) → b.fleet.talk ≡ talk_of (widened a.fleet.talk.world c extra) a.fleet.talk.clients → b.fleet.met ≡ a.fleet.met → b.fleet.recalls ≡ a.fleet.recalls → b.out ≡ a.out → Went a (grew c extra ∷ []) b
went-grew a b c extra grown met recalls same = quiet a b (grew c extra) grown (met ∙ or_none a.fleet.met) recalls same (λ k. refl) refl

pub went-full : (a : At) (e : Event) → NeedsRoom a.fleet.talk e → Went a (full e ∷ []) a
went-full a e needs = quiet a a (full e) (needs, refl) (or_none a.fleet.met) refl refl (λ k. refl) refl

pub went-handed : (a b : At) → IsSound a.fleet.talk.world.turns a.fleet.talk.world.floor a.fleet.talk.world.history → b.fleet.talk ≡ next_talk a.fleet.talk → b.fleet.met ≡ a.fleet.met → b.fleet.recalls ≡ a.fleet.recalls → b.out.texts ≡ a.out.texts
    → b.out.chapters ≡ a.out.chapters ++ chapter_in a.fleet.talk.world ∷ [] → Went a (handed (chapter_in a.fleet.talk.world) ∷ []) b
went-handed a b sound next met recalls texts chapters = record {
  runs = (b.fleet.talk, (refl, sound, next), refl);
  met = met ∙ or_none a.fleet.met;
  recalls = recalls;
  count = ap length texts;
  tells = λ k. ap (λ (t : List (List ℕ)). slice_index_or t k []) texts ∙ sym (append-nil (text_at a.out k));
  hands = chapters;
  within = λ k. inr (inr (ap (λ (t : List (List ℕ)). slice_index_or t k []) texts));
}

-- ---- one text that is said

-- one of the texts grew
tells_one : (old new : List (List ℕ)) (to : ℕ) (text : List ℕ) → to < length old → new ≡ slice_set old to (slice_index_or old to [] ++ text) → (k : ℕ) (b : Bool) → (to == k) ≡ b
    → slice_index_or new k [] ≡ slice_index_or old k [] ++ ((if b then text else []) ++ [])
tells_one old new to text inside is k true at =
    let e : k ≡ to = sym (eqb-true to k at) in
    subst (λ n. slice_index_or new n [] ≡ slice_index_or old n [] ++ (text ++ [])) (sym e)
    (ap (λ (t : List (List ℕ)). slice_index_or t to []) is ∙ (get_or-set_same old to (slice_index_or old to [] ++ text) [] inside ∙ ap (λ (l : List ℕ). slice_index_or old to [] ++ l) (sym (append-nil text))))
tells_one old new to text inside is k false at =
    ap (λ (t : List (List ℕ)). slice_index_or t k []) is
    ∙ (get_or-set_other old to k (slice_index_or old to [] ++ text) [] (λ e. let good : (to == k) ≡ true = eq-eqb to k (sym e) in cc) ∙ sym (append-nil (slice_index_or old k [])))

-- what a text does that is said to one conversation
record Adds_one (a b : Out) (to : ℕ) (text : List ℕ) : Type 0 where
  pub count : length b.texts ≡ length a.texts
  pub tells : (k : ℕ) → text_at b k ≡ text_at a k ++ ((if to == k then text else []) ++ [])
  pub hands : b.chapters ≡ a.chapters ++ []
  pub within : (k : ℕ) → IsWithin (text_at a k) (text_at b k)

one_within : (a b : List ℕ) (text : List ℕ) (fits : Fits a (length text)) (x : Bool) → b ≡ a ++ ((if x then text else []) ++ []) → IsWithin a b
one_within a b text fits true grown = subst (λ l. IsWithin a l) (sym (grown ∙ ap (λ (l : List ℕ). a ++ l) (append-nil text))) (within-fits a text fits)
one_within a b text fits false grown = inr (inr (grown ∙ append-nil a))

-- whatever conversation k is, the text fits where it is said
fits_at : (o : Out) (to k : ℕ) (text : List ℕ) → Fits (text_at o to) (length text) → (x : Bool) → (to == k) ≡ x → (b : List ℕ) → b ≡ text_at o k ++ ((if x then text else []) ++ []) → IsWithin (text_at o k) b
fits_at o to k text fits true at b grown = one_within (text_at o k) b text (subst (λ n. Fits (text_at o n) (length text)) (eqb-true to k at) fits) true grown
fits_at o to k text fits false at b grown = inr (inr (grown ∙ append-nil (text_at o k)))

adds-one : (a b : Out) (to : ℕ) (text : List ℕ) → to < length a.texts → Fits (text_at a to) (length text) → b.texts ≡ slice_set a.texts to (text_at a to ++ text) → b.chapters ≡ a.chapters → Adds_one a b to text
adds-one a b to text inside fits texts chapters =
    let tells : (k : ℕ) → text_at b k ≡ text_at a k ++ ((if to == k then text else []) ++ []) = λ k. tells_one a.texts b.texts to text inside texts k (to == k) refl in
    record {
      count = ap length texts ∙ length-set a.texts to (text_at a to ++ text);
      tells = tells;
      hands = chapters ∙ sym (append-nil a.chapters);
      within = λ k. fits_at a to k text fits (to == k) refl (text_at b k) (tells k);
    }

pub went-said : (a b : At) (to : ℕ) (text : List ℕ) → to < length a.out.texts → Fits (text_at a.out to) (length text) → b.fleet ≡ a.fleet
    → b.out.texts ≡ slice_set a.out.texts to (text_at a.out to ++ text) → b.out.chapters ≡ a.out.chapters → Went a (said to text ∷ []) b
went-said a b to text inside fits same texts chapters =
    let adds = adds-one a.out b.out to text inside fits texts chapters in
    record {
      runs = (b.fleet.talk, ap (λ (f : FleetView). f.talk) same, refl);
      met = ap (λ (f : FleetView). f.met) same ∙ or_none a.fleet.met;
      recalls = ap (λ (f : FleetView). f.recalls) same;
      count = adds.count;
      tells = adds.tells;
      hands = adds.hands;
      within = adds.within;
    }

pub went-told : (a b : At) (to client : ℕ) (notice : Notice) → to < length a.out.texts → Fits (text_at a.out to) (length (notice_line client notice)) → TalkStep a.fleet.talk (Collect client) (Collected notice) b.fleet.talk
    → b.fleet.met ≡ a.fleet.met → b.fleet.recalls ≡ noted client notice a.fleet.recalls → b.out.texts ≡ slice_set a.out.texts to (text_at a.out to ++ notice_line client notice) → b.out.chapters ≡ a.out.chapters → Went a (told to client notice ∷ []) b
went-told a b to client notice inside fits step met recalls texts chapters =
    let adds = adds-one a.out b.out to (notice_line client notice) inside fits texts chapters in
    record {
      runs = (b.fleet.talk, step, refl);
      met = met ∙ or_none a.fleet.met;
      recalls = recalls;
      count = adds.count;
      tells = adds.tells;
      hands = adds.hands;
      within = adds.within;
    }
