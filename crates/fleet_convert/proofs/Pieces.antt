-- Lists that are written item by item.
use Rattle.std.proofs.Common.{◌≡◌, ℕ, ◌+◌, ◌-◌, ◌<◌, ◌≤◌, ◌/◌, ◌%◌, List, [], ◌∷◌, ◌++◌, length, drop, map, slice_index, slice_index_or, codes, sym, ap, ◌∙◌, arith}
use Rattle.std.proofs.lemmas.List.{append_assoc, append-nil, drop_more, drop_all}
use Rattle.fleet_plans.specs.Valid.{place_at}
use Rattle.fleet_convert.specs.Cells.{place_line, places_text}
use Rattle.fleet_convert.specs.declared.step.Step.{Step}
use Rattle.fleet_convert.specs.Moves.{step_between, letter, steps_of, track_of, tracks_text}
use Rattle.fleet_convert.specs.Runners.{capital, comma_before, path_from, paths_from}
use Rattle.fleet_convert.specs.declared.listing.Listing.{Listing}
use Rattle.fleet_convert.specs.Listing.{stand_text, stands_from, path_text, paths_text}
use Rattle.fleet_convert.proofs.Steps.{steps_more, steps_over}

-- one more item is written
one_more : (old new item rest whole : List ℕ) → new ≡ old ++ item → old ++ (item ++ rest) ≡ whole → new ++ rest ≡ whole
one_more old new item rest whole is all = ap (λ (l : List ℕ). l ++ rest) is ∙ (append_assoc old item rest ∙ all)

pub next_place : (w t : ℕ) (places : List (List ℕ)) (old new whole : List ℕ) → t < length places → new ≡ old ++ place_line w t (place_at places t) → old ++ places_text w t (drop t places) ≡ whole
    → new ++ places_text w (t + 1) (drop (t + 1) places) ≡ whole
next_place w t places old new whole less is all =
    one_more old new (place_line w t (place_at places t)) (places_text w (t + 1) (drop (t + 1) places)) whole is
    (ap (λ (ps : List (List ℕ)). old ++ places_text w t ps) (sym (drop_more places t [] less)) ∙ all)

pub next_track : (w r : ℕ) (places : List (List ℕ)) (starts old new whole : List ℕ) → r < length starts → new ≡ old ++ (track_of w r places ++ 10 ∷ []) → old ++ tracks_text w places r (drop r starts) ≡ whole
    → new ++ tracks_text w places (r + 1) (drop (r + 1) starts) ≡ whole
next_track w r places starts old new whole less is all =
    one_more old new (track_of w r places ++ 10 ∷ []) (tracks_text w places (r + 1) (drop (r + 1) starts)) whole is
    (ap (λ (ss : List ℕ). old ++ tracks_text w places r ss) (sym (drop_more starts r 0 less)) ∙ all)

pub next_letter : (w r t : ℕ) (places : List (List ℕ)) (s : Step) (old new whole : List ℕ) → t < length places - 1 → s ≡ step_between w (slice_index (place_at places t) r) (slice_index (place_at places (t + 1)) r)
    → new ≡ old ++ letter s ∷ [] → old ++ track_of w r (drop t places) ≡ whole → new ++ track_of w r (drop (t + 1) places) ≡ whole
next_letter w r t places s old new whole less step is all =
    one_more old new (letter s ∷ []) (track_of w r (drop (t + 1) places)) whole is
    (ap (λ (x : Step). old ++ letter x ∷ track_of w r (drop (t + 1) places)) step ∙ (ap (λ (ss : List Step). old ++ map letter ss) (sym (steps_more w r t places (omega (arith, less)))) ∙ all))

pub letters_end : (w r t : ℕ) (places : List (List ℕ)) (old whole : List ℕ) → length places - 1 ≤ t → old ++ track_of w r (drop t places) ≡ whole → old ≡ whole
letters_end w r t places old whole past all =
    sym (append-nil old) ∙ (ap (λ (ss : List Step). old ++ map letter ss) (sym (steps_over w r t places (omega (arith, past)))) ∙ all)

pub next_capital : (w r t : ℕ) (places : List (List ℕ)) (s : Step) (old new whole : List ℕ) → t < length places - 1 → s ≡ step_between w (slice_index (place_at places t) r) (slice_index (place_at places (t + 1)) r)
    → new ≡ old ++ (comma_before t ++ capital s) → old ++ path_from t (steps_of w r (drop t places)) ≡ whole → new ++ path_from (t + 1) (steps_of w r (drop (t + 1) places)) ≡ whole
next_capital w r t places s old new whole less step is all =
    one_more old new (comma_before t ++ capital s) (path_from (t + 1) (steps_of w r (drop (t + 1) places))) whole is
    (ap (λ (x : Step). old ++ ((comma_before t ++ capital x) ++ path_from (t + 1) (steps_of w r (drop (t + 1) places)))) step ∙ (ap (λ (ss : List Step). old ++ path_from t ss) (sym (steps_more w r t places (omega (arith, less)))) ∙ all))

pub capitals_end : (w r t : ℕ) (places : List (List ℕ)) (old whole : List ℕ) → length places - 1 ≤ t → old ++ path_from t (steps_of w r (drop t places)) ≡ whole → old ≡ whole
capitals_end w r t places old whole past all =
    sym (append-nil old) ∙ (ap (λ (ss : List Step). old ++ path_from t ss) (sym (steps_over w r t places (omega (arith, past)))) ∙ all)

pub next_path : (w r : ℕ) (places : List (List ℕ)) (starts old new whole item : List ℕ) → r < length starts → item ≡ comma_before r ++ codes "\"" ++ path_from 0 (steps_of w r places) ++ codes "\"" → new ≡ old ++ item → old ++ paths_from w places r (drop r starts) ≡ whole
    → new ++ paths_from w places (r + 1) (drop (r + 1) starts) ≡ whole
next_path w r places starts old new whole item less same is all =
    one_more old new item (paths_from w places (r + 1) (drop (r + 1) starts)) whole is
    (ap (λ (l : List ℕ). old ++ (l ++ paths_from w places (r + 1) (drop (r + 1) starts))) same ∙ (ap (λ (ss : List ℕ). old ++ paths_from w places r ss) (sym (drop_more starts r 0 less)) ∙ all))

pub next_stand : (listing : Listing) (w r t : ℕ) (places : List (List ℕ)) (cell : ℕ) (old new whole : List ℕ) → t < length places → cell ≡ slice_index (place_at places t) r
    → new ≡ old ++ stand_text listing r t (cell / w) (cell % w) → old ++ stands_from listing w r t (drop t places) ≡ whole → new ++ stands_from listing w r (t + 1) (drop (t + 1) places) ≡ whole
next_stand listing w r t places cell old new whole less same is all =
    one_more old new (stand_text listing r t (cell / w) (cell % w)) (stands_from listing w r (t + 1) (drop (t + 1) places)) whole is
    (ap (λ (n : ℕ). old ++ (stand_text listing r t (n / w) (n % w) ++ stands_from listing w r (t + 1) (drop (t + 1) places))) same
    ∙ (ap (λ (ps : List (List ℕ)). old ++ stands_from listing w r t ps) (sym (drop_more places t [] less)) ∙ all))

pub next_listed : (listing : Listing) (w r : ℕ) (places : List (List ℕ)) (starts old new whole : List ℕ) → r < length starts → new ≡ old ++ path_text listing w r places → old ++ paths_text listing w places r (drop r starts) ≡ whole
    → new ++ paths_text listing w places (r + 1) (drop (r + 1) starts) ≡ whole
next_listed listing w r places starts old new whole less is all =
    one_more old new (path_text listing w r places) (paths_text listing w places (r + 1) (drop (r + 1) starts)) whole is
    (ap (λ (ss : List ℕ). old ++ paths_text listing w places r ss) (sym (drop_more starts r 0 less)) ∙ all)
