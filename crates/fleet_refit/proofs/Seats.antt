-- Lists of robots, one robot longer.
use Rattle.std.proofs.Common.{◌≡◌, ◌∙◌, ◌+◌, ◌*◌, ◌<◌, ◌≤◌, ℕ, List, [], ◌∷◌, ◌++◌, Bool, true, false, ap, arith, refl, subst, sym, take, drop, length, get_or}
use Rattle.std.specs.Prelude.{if◌then◌else◌, map, filter, slice_set}
use Rattle.std.proofs.lemmas.List.{take_more, take_more_set, drop_more, append-nil, length-set, length-take-le}
use Rattle.fleet_history.specs.declared.history.RobotState.{RobotState}
use Rattle.fleet_refit.specs.declared.change.Dropped.{Dropped}
use Rattle.fleet_refit.specs.declared.seat.Seat.{Seat}
use Rattle.fleet_refit.specs.Map.{walled}
use Rattle.fleet_refit.specs.Opening.{numbers_from, moving_numbers}
use Rattle.fleet_refit.specs.Site.{is_held, is_moving}

pub grown : {X : Type 0} (xs : List X) (i : ℕ) (x : X) → i < length xs → x ≡ get_or xs i x → take (i + 1) xs ≡ take i xs ++ x ∷ []
grown xs i x inside is = take_more xs i x inside ∙ ap (λ y. take i xs ++ y ∷ []) (sym is)

-- ---- walls

pub walled-more : {A : Type 0} (letters : List ℕ) (xs : List (Seat A)) (x : Seat A) → walled letters (xs ++ x ∷ []) ≡ (if is_held x.standing then slice_set (walled letters xs) x.robot.cell 64 else walled letters xs)
walled-more letters [] x = refl
walled-more letters (y ∷ ys) x = walled-more (if is_held y.standing then slice_set letters y.robot.cell 64 else letters) ys x

one-longer : {A : Type 0} (letters : List ℕ) (xs : List (Seat A)) (x : Seat A) (b : Bool) → is_held x.standing ≡ b →
    walled letters (xs ++ x ∷ []) ≡ (if b then slice_set (walled letters xs) x.robot.cell 64 else walled letters xs)
one-longer letters xs x b is = walled-more letters xs x ∙ ap (λ h. if h then slice_set (walled letters xs) x.robot.cell 64 else walled letters xs) is

pub walled-held : {A : Type 0} (letters copy : List ℕ) (xs : List (Seat A)) (i : ℕ) (x : Seat A) → copy ≡ walled letters (take i xs) → i < length xs → x ≡ get_or xs i x →
    is_held x.standing ≡ true → slice_set copy x.robot.cell 64 ≡ walled letters (take (i + 1) xs)
walled-held letters copy xs i x is inside at held =
    ap (λ l. slice_set l x.robot.cell 64) is ∙ sym (one-longer letters (take i xs) x true held) ∙ ap (walled letters) (sym (grown xs i x inside at))

pub walled-other : {A : Type 0} (letters copy : List ℕ) (xs : List (Seat A)) (i : ℕ) (x : Seat A) → copy ≡ walled letters (take i xs) → i < length xs → x ≡ get_or xs i x →
    is_held x.standing ≡ false → copy ≡ walled letters (take (i + 1) xs)
walled-other letters copy xs i x is inside at other = is ∙ sym (one-longer letters (take i xs) x false other) ∙ ap (walled letters) (sym (grown xs i x inside at))

one-set : (b : Bool) (letters : List ℕ) (cell : ℕ) → length (if b then slice_set letters cell 64 else letters) ≡ length letters
one-set true letters cell = length-set letters cell 64
one-set false letters cell = refl

pub length-walled : {A : Type 0} (letters : List ℕ) (xs : List (Seat A)) → length (walled letters xs) ≡ length letters
length-walled letters [] = refl
length-walled letters (x ∷ xs) = length-walled (if is_held x.standing then slice_set letters x.robot.cell 64 else letters) xs ∙ one-set (is_held x.standing) letters x.robot.cell

-- ---- numbers

one-number : (b : Bool) (n m : ℕ) → n ≡ m → (if b then n ∷ [] else []) ≡ (if b then m ∷ [] else [])
one-number b n m is = ap (λ k. if b then k ∷ [] else []) is

front-number : (b : Bool) (n : ℕ) (more one : List ℕ) → (if b then n ∷ (more ++ one) else (more ++ one)) ≡ (if b then n ∷ more else more) ++ one
front-number true n more one = refl
front-number false n more one = refl

pub numbers-more : {A : Type 0} (first : ℕ) (xs : List (Seat A)) (x : Seat A) → numbers_from first (xs ++ x ∷ []) ≡ numbers_from first xs ++ (if is_moving x.standing then (first + length xs) ∷ [] else [])
numbers-more first [] x = one-number (is_moving x.standing) first (first + 0) (omega arith)
numbers-more first (y ∷ ys) x =
    ap (λ l. if is_moving y.standing then first ∷ l else l) (numbers-more (first + 1) ys x ∙ ap (λ l. numbers_from (first + 1) ys ++ l) (one-number (is_moving x.standing) ((first + 1) + length ys) (first + length (y ∷ ys)) (omega arith)))
    ∙ front-number (is_moving y.standing) first (numbers_from (first + 1) ys) (if is_moving x.standing then (first + length (y ∷ ys)) ∷ [] else [])

one-seat : {A : Type 0} (xs : List (Seat A)) (x : Seat A) (b : Bool) → is_moving x.standing ≡ b → moving_numbers (xs ++ x ∷ []) ≡ moving_numbers xs ++ (if b then length xs ∷ [] else [])
one-seat xs x b is = numbers-more 0 xs x ∙ ap (λ n. moving_numbers xs ++ (if is_moving x.standing then n ∷ [] else [])) (omega arith) ∙ ap (λ m. moving_numbers xs ++ (if m then length xs ∷ [] else [])) is

pub numbers-moving : {A : Type 0} (numbers : List ℕ) (xs : List (Seat A)) (i : ℕ) (x : Seat A) → numbers ≡ moving_numbers (take i xs) → i < length xs → x ≡ get_or xs i x →
    is_moving x.standing ≡ true → numbers ++ i ∷ [] ≡ moving_numbers (take (i + 1) xs)
numbers-moving numbers xs i x is inside at moves =
    ap (λ l. l ++ i ∷ []) is ∙ ap (λ n. moving_numbers (take i xs) ++ n ∷ []) (sym (length-take-le i xs (omega arith))) ∙ sym (one-seat (take i xs) x true moves) ∙ ap moving_numbers (sym (grown xs i x inside at))

pub numbers-other : {A : Type 0} (numbers : List ℕ) (xs : List (Seat A)) (i : ℕ) (x : Seat A) → numbers ≡ moving_numbers (take i xs) → i < length xs → x ≡ get_or xs i x →
    is_moving x.standing ≡ false → numbers ≡ moving_numbers (take (i + 1) xs)
numbers-other numbers xs i x is inside at stays =
    is ∙ sym (append-nil (moving_numbers (take i xs))) ∙ sym (one-seat (take i xs) x false stays) ∙ ap moving_numbers (sym (grown xs i x inside at))
