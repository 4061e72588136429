-- What is handed on for all conversations, by place.
use Rattle.std.proofs.Common.{◌≡◌, ◌∙◌, ℕ, zero, suc, ◌≤◌, List, [], ◌∷◌, ◌++◌, length, map, take, drop, refl, sym, ap, subst, append-nil, arith}
use Rattle.std.specs.Prelude.{slice_get, slice_index_or}
use Rattle.std.specs.declared.alloc.Global.{Global}
use Rattle.std.proofs.lemmas.List.{drop_all, length-map, map-append, take_all}
use Rattle.fleet_talk.specs.Chapters.{ChapterView}
use Rattle.live_fleet.specs.Out.{Out, text_at}
use Rattle.fleet_live.specs.declared.text_out.TextOut.{TextOut}
use Rattle.fleet_live.specs.Loop.{HandsOn, told_in_all}
use Rattle.fleet_live.specs.Told.{AreHanded, AreWithin, HandsText, ahead_at, handed_at}

pub within-from : (xs : List TextOut) (ts : List (List ℕ)) → ((k : ℕ) → ahead_at xs k ≤ length (slice_index_or ts k [])) → AreWithin xs ts
within-from [] ts within = tt
within-from (x ∷ xs) [] within = tt
within-from (x ∷ xs) (t ∷ ts) within = (within 0, within-from xs ts (λ k. within (suc k)))

pub same-count : (xs ys : List TextOut) (ts us : List (List ℕ)) → AreHanded xs ys ts us → length us ≡ length ts
same-count [] ys ts us (none, same) = ap length same
same-count (x ∷ xs) ys [] us (as_before, none) = ap length none
same-count (x ∷ xs) (y ∷ ys) (t ∷ ts) (u ∷ us) (hands, more) = ap suc (same-count xs ys ts us more)
same-count (x ∷ xs) [] (t ∷ ts) us never = absurd never
same-count (x ∷ xs) (y ∷ ys) (t ∷ ts) [] never = absurd never

-- all that a conversation was told, by place
abbrev all_at : List TextOut → List (List ℕ) → ℕ → List ℕ
all_at xs ts k = told_in_all (handed_at xs k) (ahead_at xs k) (slice_index_or ts k [])

pub same-told : (xs ys : List TextOut) (ts us : List (List ℕ)) → AreHanded xs ys ts us → (k : ℕ) → told_in_all (handed_at ys k) (ahead_at ys k) (slice_index_or us k []) ≡ told_in_all (handed_at xs k) (ahead_at xs k) (slice_index_or ts k [])
same-told [] ys ts us (none, same) k = ap (λ (l : List TextOut). all_at l us k) none ∙ ap (λ (l : List (List ℕ)). all_at [] l k) same
same-told (x ∷ xs) ys [] us (as_before, none) k = ap (λ (l : List TextOut). all_at l us k) as_before ∙ ap (λ (l : List (List ℕ)). all_at (x ∷ xs) l k) none
same-told (x ∷ xs) (y ∷ ys) (t ∷ ts) (u ∷ us) (hands, more) zero = hands.told
same-told (x ∷ xs) (y ∷ ys) (t ∷ ts) (u ∷ us) (hands, more) (suc k) = same-told xs ys ts us more k
same-told (x ∷ xs) [] (t ∷ ts) us never k = absurd never
same-told (x ∷ xs) (y ∷ ys) (t ∷ ts) [] never k = absurd never

pub still-within : (xs ys : List TextOut) (ts us : List (List ℕ)) → AreHanded xs ys ts us → ((k : ℕ) → ahead_at xs k ≤ length (slice_index_or ts k [])) → (k : ℕ) → ahead_at ys k ≤ length (slice_index_or us k [])
still-within [] ys ts us (none, same) within k = subst (λ (l : List TextOut). ahead_at l k ≤ length (slice_index_or us k [])) (sym none) (subst (λ (l : List (List ℕ)). ahead_at [] k ≤ length (slice_index_or l k [])) (sym same) (within k))
still-within (x ∷ xs) ys [] us (as_before, none) within k =
    subst (λ (l : List TextOut). ahead_at l k ≤ length (slice_index_or us k [])) (sym as_before) (subst (λ (l : List (List ℕ)). ahead_at (x ∷ xs) k ≤ length (slice_index_or l k [])) (sym none) (within k))
still-within (x ∷ xs) (y ∷ ys) (t ∷ ts) (u ∷ us) (hands, more) within zero = hands.within
still-within (x ∷ xs) (y ∷ ys) (t ∷ ts) (u ∷ us) (hands, more) within (suc k) = still-within xs ys ts us more (λ n. within (suc n)) k
still-within (x ∷ xs) [] (t ∷ ts) us never within k = absurd never
still-within (x ∷ xs) (y ∷ ys) (t ∷ ts) [] never within k = absurd never

-- a list that was lent, and filled again with as many
filled : {X : Type 0} (n : ℕ) (old new : List X) → n ≡ length old → length new ≡ length old → take n (new ++ drop (length new) old) ≡ new
filled n old new long same =
    let none : drop (length new) old ≡ [] = drop_all (length new) old (omega (arith, same)) in
    ap (λ l. take n (new ++ l)) none ∙ (ap (take n) (append-nil new) ∙ take_all n new (omega (arith, long, same)))

same-places : (xs ys : List TextOut) (ts us : List (List ℕ)) → AreHanded xs ys ts us → length ys ≡ length xs
same-places [] ys ts us (none, same) = ap length none
same-places (x ∷ xs) ys [] us (as_before, none) = ap length as_before
same-places (x ∷ xs) (y ∷ ys) (t ∷ ts) (u ∷ us) (hands, more) = ap suc (same-places xs ys ts us more)
same-places (x ∷ xs) [] (t ∷ ts) us never = absurd never
same-places (x ∷ xs) (y ∷ ys) (t ∷ ts) [] never = absurd never

-- the same of lists that were lent
pub lent-within : {V : Type 0} (f : V → List ℕ) (xs lent : List TextOut) (vs texts : List V) → lent ≡ xs → texts ≡ vs → ((k : ℕ) → ahead_at xs k ≤ length (slice_index_or (map f vs) k [])) → AreWithin lent (map f texts)
lent-within f xs lent vs texts same same_texts within =
    subst (λ (l : List TextOut). AreWithin l (map f texts)) (sym same) (subst (λ l. AreWithin xs (map f l)) (sym same_texts) (within-from xs (map f vs) within))

pub lent-handed : {V : Type 0} (f : V → List ℕ) (xs lent new ys : List TextOut) (vs texts new_texts ws : List V) (n m : ℕ) → lent ≡ xs → texts ≡ vs → n ≡ length xs → m ≡ length vs
    → ys ≡ take n (new ++ drop (length new) xs) → ws ≡ take m (new_texts ++ drop (length new_texts) vs) → AreHanded lent new (map f texts) (map f new_texts) → AreHanded xs ys (map f vs) (map f ws)
lent-handed f xs lent new ys vs texts new_texts ws n m same same_texts long long_texts back back_texts hands =
    let places : length new ≡ length xs = same-places lent new (map f texts) (map f new_texts) hands ∙ ap length same in
    let count : length new_texts ≡ length vs = sym (length-map new_texts f) ∙ (same-count lent new (map f texts) (map f new_texts) hands ∙ (length-map texts f ∙ ap length same_texts)) in
    let as_new : ys ≡ new = back ∙ filled n xs new long places in
    let as_texts : ws ≡ new_texts = back_texts ∙ filled m vs new_texts long_texts count in
    subst (λ (l : List TextOut). AreHanded l ys (map f vs) (map f ws)) same (subst (λ (l : List TextOut). AreHanded lent l (map f vs) (map f ws)) (sym as_new)
    (subst (λ l. AreHanded lent new (map f l) (map f ws)) same_texts (subst (λ l. AreHanded lent new (map f texts) (map f l)) (sym as_texts) hands)))

-- all is handed on: each text as far as there is room, and all chapters
pub all-handed : {X : Type 0} (shown : X → ChapterView Global) (xs ys : List TextOut) (sent more was left : List X) (old new : Out) → AreHanded xs ys old.texts new.texts → ((k : ℕ) → ahead_at xs k ≤ length (text_at old k))
    → more ≡ sent ++ was → left ≡ [] → old.chapters ≡ map shown was → new.chapters ≡ map shown left → HandsOn (handed_at xs) (handed_at ys) (ahead_at xs) (ahead_at ys) (map shown sent) (map shown more) old new
all-handed shown xs ys sent more was left old new hands within given none before after = record {
  count = same-count xs ys old.texts new.texts hands;
  texts = same-told xs ys old.texts new.texts hands;
  within = still-within xs ys old.texts new.texts hands within;
  chapters = ap (λ l. map shown more ++ l) (after ∙ ap (map shown) none) ∙ (append-nil (map shown more) ∙ (ap (map shown) given ∙ (map-append shown sent was ∙ ap (λ l. map shown sent ++ l) (sym before))));
}
