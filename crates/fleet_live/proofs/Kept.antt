-- What a loop keeps, one step after another.
use Rattle.std.proofs.Common.{◌≡◌, ◌∙◌, ◌≤◌, ◌+◌, ℕ, Bool, true, false, List, [], ◌∷◌, ◌++◌, length, drop, Result, Ok, Err, refl, sym, ap, subst, arith, append_assoc, append-nil}
use Rattle.std.specs.Prelude.{◌||◌, OnOk}
use Rattle.std.specs.declared.alloc.Global.{Global}
use Rattle.std.proofs.lemmas.Grind.{flat_map-append}
use Rattle.std.proofs.lemmas.List.{drop-append-le, length-append}
use Rattle.std.proofs.lemmas.List.Folds.{list_any-append}
use Rattle.fleet_talk.specs.Chapters.{ChapterView}
use Rattle.live_fleet.specs.Act.{Act, Runs, meets_limit, met_by}
use Rattle.live_fleet.specs.Does.{Does, Plays, hears, takes, then}
use Rattle.live_fleet.specs.Out.{Out, chapters_of, handed_by, text_at, told_by, told_to}
use Rattle.live_fleet.specs.Party.{Heard, Stage, with_out}
use Rattle.live_fleet.specs.Went.{At, Went}
use Rattle.live_fleet.proofs.Going.{runs-then, went-none}
use Rattle.fleet_live.specs.declared.ends.Asked.{Asked}
use Rattle.fleet_live.specs.declared.ends.Next.{Next}
use Rattle.fleet_live.specs.declared.ends.Next.TheVariants.{Hand, Hear}
use Rattle.fleet_live.specs.Loop.{HandsOn, Keeps, heard_by, next_heard, told_in_all}

-- nothing was done
pub keeps-none : (s : Stage) (told : ℕ → List ℕ) (ahead : ℕ → ℕ) (kept : List (ChapterView Global)) → ((k : ℕ) → ahead k ≤ length (text_at s.at.out k)) → Keeps s s [] told told ahead ahead kept kept
keeps-none s told ahead kept within =
    let none = went-none s.at in
    record {
      acts = [];
      plays = takes s s.at.out;
      runs = none.runs;
      met = none.met;
      tells = λ k. sym (append-nil (told_in_all (told k) (ahead k) (text_at s.at.out k)));
      within = within;
      hands = sym (append-nil (kept ++ s.at.out.chapters));
    }

more_told : (told : List ℕ) (ahead : ℕ) (old new more : List ℕ) → ahead ≤ length old → new ≡ old ++ more → told_in_all told ahead new ≡ told_in_all told ahead old ++ more
more_told told ahead old new more within grown =
    ap (λ (l : List ℕ). told ++ drop ahead l) grown ∙ (ap (λ (l : List ℕ). told ++ l) (drop-append-le ahead old more within) ∙ sym (append_assoc told (drop ahead old) more))

still_within : (ahead : ℕ) (old new more : List ℕ) → ahead ≤ length old → new ≡ old ++ more → ahead ≤ length new
still_within ahead old new more within grown = let longer = ap length grown ∙ length-append old more in omega (arith, within, longer)

-- an event was heard
pub keeps-heard : (s t : Stage) (event : Heard) (acts : List Act) (told : ℕ → List ℕ) (ahead : ℕ → ℕ) (kept : List (ChapterView Global)) → ((k : ℕ) → ahead k ≤ length (text_at s.at.out k)) → Does s event acts t → Went s.at acts t.at
    → Keeps s t (event ∷ []) told told ahead ahead kept kept
keeps-heard s t event acts told ahead kept within does went = record {
  acts = acts;
  plays = hears s event acts t does;
  runs = went.runs;
  met = went.met;
  tells = λ k. more_told (told k) (ahead k) (text_at s.at.out k) (text_at t.at.out k) (told_to k acts) (within k) (went.tells k);
  within = λ k. still_within (ahead k) (text_at s.at.out k) (text_at t.at.out k) (told_to k acts) (within k) (went.tells k);
  hands = ap (λ (l : List (ChapterView Global)). kept ++ l) went.hands ∙ sym (append_assoc kept s.at.out.chapters (chapters_of acts));
}

-- what was said was handed on
pub keeps-handed : (s t : Stage) (told new_told : ℕ → List ℕ) (ahead new_ahead : ℕ → ℕ) (kept new_kept : List (ChapterView Global)) → HandsOn told new_told ahead new_ahead kept new_kept s.at.out t.at.out → t ≡ with_out s t.at.out
    → Keeps s t [] told new_told ahead new_ahead kept new_kept
keeps-handed s t told new_told ahead new_ahead kept new_kept hands same =
    let none = went-none s.at in
    let fleet = ap (λ (x : Stage). x.at.fleet) same in
    record {
      acts = [];
      plays = subst (λ (x : Stage). Plays s [] [] x) (sym same) (takes s t.at.out);
      runs = ap (λ f. f.talk) fleet ∙ none.runs;
      met = ap (λ f. f.met) fleet ∙ none.met;
      tells = λ k. hands.texts k ∙ sym (append-nil (told_in_all (told k) (ahead k) (text_at s.at.out k)));
      within = hands.within;
      hands = hands.chapters ∙ sym (append-nil (kept ++ s.at.out.chapters));
    }

or_then : (a b c : Bool) → ((a || b) || c) ≡ (a || (b || c))
or_then true b c = refl
or_then false b c = refl

met_then : (met : Bool) (xs ys : List Act) → ((met || met_by xs) || met_by ys) ≡ (met || met_by (xs ++ ys))
met_then met xs ys = or_then met (met_by xs) (met_by ys) ∙ ap (λ m. met || m) (sym (list_any-append meets_limit xs ys))

-- one step, and then another
pub keeps-then : (s m t : Stage) (before after : List Heard) (a b c : ℕ → List ℕ) (i j k : ℕ → ℕ) (x y z : List (ChapterView Global)) → Keeps s m before a b i j x y → Keeps m t after b c j k y z → Keeps s t (before ++ after) a c i k x z
keeps-then s m t before after a b c i j k x y z one two =
    let acts = one.acts ++ two.acts in
    record {
      acts = one.acts ++ two.acts;
      plays = then s m t before after one.acts two.acts one.plays two.plays;
      runs = runs-then s.at.fleet.talk m.at.fleet.talk t.at.fleet.talk one.acts two.acts one.runs two.runs;
      met = two.met ∙ (ap (λ (b : Bool). b || met_by two.acts) one.met ∙ met_then s.at.fleet.met one.acts two.acts);
      tells = λ n. two.tells n ∙ (ap (λ (l : List ℕ). l ++ told_to n two.acts) (one.tells n) ∙ (append_assoc (told_in_all (a n) (i n) (text_at s.at.out n)) (told_to n one.acts) (told_to n two.acts)
          ∙ ap (λ (l : List ℕ). told_in_all (a n) (i n) (text_at s.at.out n) ++ l) (sym (flat_map-append (told_by n) one.acts two.acts))));
      within = two.within;
      hands = two.hands ∙ (ap (λ (l : List (ChapterView Global)). l ++ chapters_of two.acts) one.hands ∙ (append_assoc (x ++ s.at.out.chapters) (chapters_of one.acts) (chapters_of two.acts)
          ∙ ap (λ (l : List (ChapterView Global)). (x ++ s.at.out.chapters) ++ l) (sym (flat_map-append handed_by one.acts two.acts))));
    }

-- the same stage
pub keeps-same : (s t : Stage) (n : Next) (bytes : List ℕ) (told : ℕ → List ℕ) (ahead : ℕ → ℕ) (kept : List (ChapterView Global)) → next_heard n bytes ≡ [] → t ≡ s → ((k : ℕ) → ahead k ≤ length (text_at s.at.out k)) → Keeps s t (next_heard n bytes) told told ahead ahead kept kept
keeps-same s t n bytes told ahead kept none same within =
    subst (λ (l : List Heard). Keeps s t l told told ahead ahead kept kept) (sym none) (subst (λ (x : Stage). Keeps s x [] told told ahead ahead kept kept) (sym same) (keeps-none s told ahead kept within))

pub keeps-hear : {T E : Type 0} (r : Result T E) (s t : Stage) (n : Next) (event : Asked) (bytes : List ℕ) (cue : Heard) (told : ℕ → List ℕ) (ahead : ℕ → ℕ) (kept : List (ChapterView Global)) → n ≡ Hear event → cue ≡ heard_by event bytes
    → ((k : ℕ) → ahead k ≤ length (text_at s.at.out k)) → OnOk r ((acts : List Act) × Does s cue acts t × Went s.at acts t.at) → OnOk r (Keeps s t (next_heard n bytes) told told ahead ahead kept kept)
keeps-hear (Ok v) s t n event bytes cue told ahead kept is same within (acts, does, went) =
    subst (λ (x : Next). Keeps s t (next_heard x bytes) told told ahead ahead kept kept) (sym is) (subst (λ (h : Heard). Keeps s t (h ∷ []) told told ahead ahead kept kept) same (keeps-heard s t cue acts told ahead kept within does went))
keeps-hear (Err e) s t n event bytes cue told ahead kept is same within does = tt

pub keeps-hand : {T E : Type 0} (r : Result T E) (s t : Stage) (n : Next) (bytes : List ℕ) (told new_told : ℕ → List ℕ) (ahead new_ahead : ℕ → ℕ) (kept new_kept : List (ChapterView Global)) → n ≡ Hand → t ≡ with_out s t.at.out
    → OnOk r (HandsOn told new_told ahead new_ahead kept new_kept s.at.out t.at.out) → OnOk r (Keeps s t (next_heard n bytes) told new_told ahead new_ahead kept new_kept)
keeps-hand (Ok v) s t n bytes told new_told ahead new_ahead kept new_kept is same hands =
    subst (λ (x : Next). Keeps s t (next_heard x bytes) told new_told ahead new_ahead kept new_kept) (sym is) (keeps-handed s t told new_told ahead new_ahead kept new_kept hands same)
keeps-hand (Err e) s t n bytes told new_told ahead new_ahead kept new_kept is same hands = tt
