-- The names of the chapters in a folder, and their numbers.
use Rattle.std.proofs.Common.{◌≡◌, ◌≢◌, ◌∙◌, ◌+◌, ◌*◌, ◌-◌, ◌<◌, ◌≤◌, ◌^◌, fold, ◌⊎◌, inl, inr, ℕ, Bool, true, false, List, [], ◌∷◌, ◌++◌, length, take, Option, Some, None, option_map, refl, sym, ap, subst, arith}
use Rattle.std.specs.Prelude.{codes, decimal, map, min, nat_lt, slice_index_or}
use Rattle.std.specs.List.{All, Any, Contains, list_any}
use Rattle.std.proofs.lemmas.Bool.{cases_lt}
use Rattle.std.proofs.lemmas.List.{append_cancel_left, append_cancel_right, get_or_default, take_more}
use Rattle.std.proofs.lemmas.List.Elements.{All-contains, All-more, All-weaker, Contains-append_left, Contains-get_or, Contains-push, Contains-push_cases}
use Rattle.std.proofs.lemmas.List.Folds.{list_any_at, Any-from_list_any}
use Rattle.std.proofs.lemmas.List.Sorted.{Contains-permutation, IsPermutation-sym}
use Rattle.std.proofs.lemmas.Option.{same_Some}
use Rattle.std.specs.Char.{is_ascii_digit, digit_value}
use Rattle.std.specs.List.{list_all}
use Rattle.std.specs.List.Sorted.{IsPermutation}
use Rattle.std.specs.Str.Parse.{AllDigits, digits_value_after}
use Rattle.std.proofs.lemmas.Fmt.{decimal_is_IsNumeral}
use Rattle.std.proofs.lemmas.Str.{digit_value_digit}
use Rattle.std.proofs.lemmas.Str.Parse.{digit_from_value}
use Rattle.fleet_map.specs.Text.{number_of}
use Rattle.fleet_lib.specs.Names.{AreNumbers, AreReadable, IsLast, IsLikeName, IsMissing, IsNoName, IsRun, chapter_name}

-- ---- numerals

abbrev added : ℕ → ℕ → ℕ
added n d = 10 * n + (d - 48)

digits_fold : (n : ℕ) (ds : List ℕ) → AllDigits 10 ds → fold added n ds ≡ digits_value_after 10 n ds
digits_fold n [] d = refl
digits_fold n (c ∷ cs) d =
    let k = digit_value_digit c (digit_from_value c d.0) in
    let same : added n c ≡ n * 10 + digit_value c = omega (arith, k) in
    ap (λ (m : ℕ). fold added m cs) same ∙ digits_fold (n * 10 + digit_value c) cs d.1

digits_pass : (ds : List ℕ) → AllDigits 10 ds → list_all is_ascii_digit ds ≡ true
digits_pass [] d = refl
digits_pass (c ∷ cs) d =
    let k = digit_from_value c d.0 in
    let here : is_ascii_digit c ≡ true = grind arith in
    rw here (digits_pass cs d.1)

digits_number : (ds : List ℕ) (n : ℕ) → 0 < length ds → AllDigits 10 ds → digits_value_after 10 0 ds ≡ n → number_of ds ≡ Some n
digits_number [] n some d is = absurd (omega arith)
digits_number (c ∷ cs) n some d is = rw (digits_pass (c ∷ cs) d) (ap (λ (m : ℕ). Some m) (digits_fold 0 (c ∷ cs) d ∙ is))

-- a number reads as itself
number_reads : (n : ℕ) → n < 2 ^ 64 → number_of (decimal n) ≡ Some n
number_reads n small = let is = decimal_is_IsNumeral n small in digits_number (decimal n) n is.0.0 is.0.1 is.1

-- a number up to the greatest that is looked for
abbrev pub up_to : ℕ → Option ℕ → Option ℕ
up_to most o = option_map (λ n. min n most) o

reads : (word : List ℕ) (most n : ℕ) → n < 2 ^ 32 → word ≡ decimal n → up_to most (number_of word) ≡ Some (min n most)
reads word most n small is = ap (λ (w : List ℕ). up_to most (number_of w)) is ∙ ap (up_to most) (number_reads n (omega (arith, small)))

pub none-read : (word : List ℕ) (most : ℕ) → None ≡ up_to most (number_of word) → (n : ℕ) → n < 2 ^ 32 → word ≢ decimal n
none-read word most none n small is = let bad : None ≡ Some (min n most) = none ∙ reads word most n small is in absurd cc

read_is : (word : List ℕ) (number n : ℕ) → Some number ≡ up_to 4294967296 (number_of word) → n < 2 ^ 32 → word ≡ decimal n → number ≡ n
read_is word number n read small is =
    let same : number ≡ min n 4294967296 = same_Some number (min n 4294967296) (read ∙ reads word 4294967296 n small is) in
    grind (arith, same, small)

pub great-read : (word : List ℕ) (number : ℕ) → Some number ≡ up_to 4294967296 (number_of word) → 4294967296 ≤ number → (n : ℕ) → n < 2 ^ 32 → word ≢ decimal n
great-read word number read great n small is = let same = read_is word number n read small is in absurd (omega (arith, same, small, great))

pub other-read : (word text : List ℕ) (number : ℕ) → Some number ≡ up_to 4294967296 (number_of word) → text ≡ decimal number → (text ≡ word → ⊥) → (n : ℕ) → n < 2 ^ 32 → word ≢ decimal n
other-read word text number read told none-of n small is = absurd (none-of (told ∙ (ap decimal (read_is word number n read small is) ∙ sym is)))

-- ---- names

module _ (name rest : List ℕ) (begins : name ≡ codes "chapter-" ++ rest) where
  pub unlike-end : ((front : List ℕ) → rest ≢ front ++ codes ".json") → IsLikeName name → ⊥
  unlike-end none-of (middle, is) = none-of middle (append_cancel_left (codes "chapter-") rest (middle ++ codes ".json") (sym begins ∙ is))

  module _ (middle : List ℕ) (ends : rest ≡ middle ++ codes ".json") where
    pub like : IsLikeName name
    like = (middle, begins ∙ ap (λ (l : List ℕ). codes "chapter-" ++ l) ends)

    pub is-name : (n : ℕ) → middle ≡ decimal n → name ≡ chapter_name n
    is-name n is = begins ∙ ap (λ (l : List ℕ). codes "chapter-" ++ l) (ends ∙ ap (λ (l : List ℕ). l ++ codes ".json") is)

    pub no-name : ((n : ℕ) → n < 2 ^ 32 → middle ≢ decimal n) → IsNoName name
    no-name none-of n small is =
        none-of n small (append_cancel_right middle (decimal n) (codes ".json") (sym ends ∙ append_cancel_left (codes "chapter-") rest (decimal n ++ codes ".json") (sym begins ∙ is)))

pub unlike-begin : (name : List ℕ) → ((rest : List ℕ) → name ≢ codes "chapter-" ++ rest) → IsLikeName name → ⊥
unlike-begin name none-of (middle, is) = none-of (middle ++ codes ".json") is

-- a name is that of one chapter
same_number : (n k : ℕ) → n < 2 ^ 32 → k < 2 ^ 32 → chapter_name n ≡ chapter_name k → n ≡ k
same_number n k small small' is =
    let digits : decimal n ≡ decimal k = append_cancel_right (decimal n) (decimal k) (codes ".json") (append_cancel_left (codes "chapter-") (decimal n ++ codes ".json") (decimal k ++ codes ".json") is) in
    same_Some n k (sym (number_reads n (omega (arith, small))) ∙ (ap number_of digits ∙ number_reads k (omega (arith, small'))))

-- ---- names that are read

pub readable-none : AreReadable []
readable-none name c like none = absurd (omega (arith, c.1))

pub readable-more : (names : List (List ℕ)) (name : List ℕ) → AreReadable names → (IsLikeName name → IsNoName name → ⊥) → AreReadable (names ++ name ∷ [])
readable-more names name are one other c like none = by (Contains-push_cases names name other c)
  where
    by : Contains names other ⊎ (name ≡ other) → ⊥
    by (inl before) = are other before like none
    by (inr same) = one (subst (λ (n : List ℕ). IsLikeName n) (sym same) like) (subst (λ (n : List ℕ). IsNoName n) (sym same) none)

-- ---- numbers

pub numbers-none : AreNumbers [] []
numbers-none = record { each = λ n c. absurd (omega (arith, c.1)); all = λ n small c. absurd (omega (arith, c.1)) }

module _ (names : List (List ℕ)) (numbers : List ℕ) (name : List ℕ) (are : AreNumbers names numbers) where
  pub numbers-other : (IsLikeName name → ⊥) → AreNumbers (names ++ name ∷ []) numbers
  numbers-other none-of = record {
    each = λ n c. ((are.each n c).0, Contains-append_left names (name ∷ []) (chapter_name n) (are.each n c).1);
    all = λ n small c. by n small (Contains-push_cases names name (chapter_name n) c);
  }
    where
      by : (n : ℕ) → n < 2 ^ 32 → Contains names (chapter_name n) ⊎ (name ≡ chapter_name n) → Contains numbers n
      by n small (inl c) = are.all n small c
      by n small (inr is) = absurd (none-of (decimal n, is))

  pub numbers-more : (k : ℕ) → k < 2 ^ 32 → name ≡ chapter_name k → AreNumbers (names ++ name ∷ []) (numbers ++ k ∷ [])
  numbers-more k small is = record {
    each = λ n c. each n (Contains-push_cases numbers k n c);
    all = λ n less c. all n less (Contains-push_cases names name (chapter_name n) c);
  }
    where
      each : (n : ℕ) → Contains numbers n ⊎ (k ≡ n) → (n < 2 ^ 32) × Contains (names ++ name ∷ []) (chapter_name n)
      each n (inl c) = ((are.each n c).0, Contains-append_left names (name ∷ []) (chapter_name n) (are.each n c).1)
      each n (inr same) = (subst (λ (x : ℕ). x < 2 ^ 32) same small, subst (λ (x : List ℕ). Contains (names ++ name ∷ []) x) (is ∙ ap chapter_name same) (Contains-push names name))

      all : (n : ℕ) → n < 2 ^ 32 → Contains names (chapter_name n) ⊎ (name ≡ chapter_name n) → Contains (numbers ++ k ∷ []) n
      all n less (inl c) = Contains-append_left numbers (k ∷ []) n (are.all n less c)
      all n less (inr same) = subst (λ (x : ℕ). Contains (numbers ++ k ∷ []) x) (same_number k n small less (sym is ∙ same)) (Contains-push numbers k)

-- the same numbers in another order
pub numbers-sorted : (names : List (List ℕ)) (numbers sorted : List ℕ) → AreNumbers names numbers → IsPermutation numbers sorted → AreNumbers names sorted
numbers-sorted names numbers sorted are same = record {
  each = λ n c. are.each n (Contains-permutation sorted numbers n (IsPermutation-sym numbers sorted same) c);
  all = λ n small c. Contains-permutation numbers sorted n same (are.all n small c);
}

-- ---- the last

module _ (numbers : List ℕ) (begin last : ℕ) where
  -- what is there while the run is followed down
  pub record IsPartRun : Type 0 where
    pub within : begin ≤ last
    pub there : (n : ℕ) → begin ≤ n → n ≤ last → Contains numbers n

  pub run-of : IsPartRun → ((n : ℕ) → n + 1 ≡ begin → Contains numbers n → ⊥) → IsRun numbers begin last
  run-of part before = record { within = part.within; there = part.there; before = before }

pub run-begin : (numbers : List ℕ) (last : ℕ) → Contains numbers last → IsPartRun numbers last last
run-begin numbers last c = record { within = omega arith; there = λ n above below. subst (λ (x : ℕ). Contains numbers x) (omega (arith, above, below)) c }

pub run-more : (numbers : List ℕ) (begin last : ℕ) → IsPartRun numbers begin last → 0 < begin → Contains numbers (begin - 1) → IsPartRun numbers (begin - 1) last
run-more numbers begin last part some c = record {
  within = omega (arith, part.within);
  there = λ n above below. by n above below (cases_lt n begin);
}
  where
    by : (n : ℕ) → begin - 1 ≤ n → n ≤ last → (n < begin) ⊎ (begin ≤ n) → Contains numbers n
    by n above below (inr more) = part.there n more below
    by n above below (inl less) = subst (λ (x : ℕ). Contains numbers x) (omega (arith, above, less, some)) c

-- ---- from the last number down

-- each number is no less than those before it
abbrev Rises : List ℕ → Type 0
Rises numbers = (i j d : ℕ) → i ≤ j → j < length numbers → slice_index_or numbers i d ≤ slice_index_or numbers j d

-- the run is followed to its begin, over this many of the last numbers
pub record IsBegun (numbers : List ℕ) (last begin at : ℕ) : Type 0 where
  pub part : IsPartRun numbers begin last
  pub above : (j : ℕ) → length numbers ≤ j + at → j < length numbers → begin ≤ slice_index_or numbers j 0

pub begun : (numbers : List ℕ) (last : ℕ) → Contains numbers last → IsBegun numbers last last 0
begun numbers last c = record { part = run-begin numbers last c; above = λ j past within. absurd (omega (arith, past, within)) }

-- one number more is no less than the begin
above-one : (numbers : List ℕ) (begin at : ℕ) → Rises numbers → at < length numbers → begin ≤ slice_index_or numbers (length numbers - 1 - at) 0
    → (j : ℕ) → length numbers ≤ j + (at + 1) → j < length numbers → begin ≤ slice_index_or numbers j 0
above-one numbers begin at rises less no-less j past within =
    let order = rises (length numbers - 1 - at) j 0 (omega (arith, past, within, less)) within in
    omega (arith, order, no-less)

pub begun-same : (numbers : List ℕ) (last begin at : ℕ) → Rises numbers → IsBegun numbers last begin at → at < length numbers
    → begin ≤ slice_index_or numbers (length numbers - 1 - at) 0 → IsBegun numbers last begin (at + 1)
begun-same numbers last begin at rises h less no-less = record { part = h.part; above = above-one numbers begin at rises less no-less }

pub begun-more : (numbers : List ℕ) (last begin at : ℕ) → Rises numbers → IsBegun numbers last begin at → at < length numbers
    → slice_index_or numbers (length numbers - 1 - at) 0 < begin → begin - slice_index_or numbers (length numbers - 1 - at) 0 ≤ 1
    → IsBegun numbers last (slice_index_or numbers (length numbers - 1 - at) 0) (at + 1)
begun-more numbers last begin at rises h less under next =
    let x = slice_index_or numbers (length numbers - 1 - at) 0 in
    let is : x ≡ begin - 1 = omega (arith, under, next) in
    let there : Contains numbers x = Contains-get_or numbers (length numbers - 1 - at) 0 (omega (arith, less)) in
    record {
      part = subst (λ (b : ℕ). IsPartRun numbers b last) (sym is) (run-more numbers begin last h.part (omega (arith, under)) (subst (λ (n : ℕ). Contains numbers n) is there));
      above = above-one numbers x at rises less (omega arith);
    }

-- the one before the begin is missing
pub begun-gap : (numbers : List ℕ) (last begin at : ℕ) → Rises numbers → IsBegun numbers last begin at → at < length numbers
    → slice_index_or numbers (length numbers - 1 - at) 0 < begin → 1 < begin - slice_index_or numbers (length numbers - 1 - at) 0 → IsRun numbers begin last
begun-gap numbers last begin at rises h less under gap = run-of numbers begin last h.part before
  where
    before : (n : ℕ) → n + 1 ≡ begin → Contains numbers n → ⊥
    before n next (k, within, is) = by (cases_lt (length numbers - 1 - at) k)
      where
        read : slice_index_or numbers k 0 ≡ n
        read = get_or_default numbers k 0 n within ∙ is

        by : (length numbers - 1 - at < k) ⊎ (k ≤ length numbers - 1 - at) → ⊥
        by (inl after) = let most = h.above k (omega (arith, after, less)) within in absurd (omega (arith, most, read, next))
        by (inr upto) = let order = rises k (length numbers - 1 - at) 0 upto (omega (arith, less)) in absurd (omega (arith, order, read, next, under, gap))

-- no number is less than the begin
pub begun-end : (numbers : List ℕ) (last begin at : ℕ) → IsBegun numbers last begin at → length numbers ≤ at → IsRun numbers begin last
begun-end numbers last begin at h all = run-of numbers begin last h.part before
  where
    before : (n : ℕ) → n + 1 ≡ begin → Contains numbers n → ⊥
    before n next (k, within, is) =
        let most = h.above k (omega (arith, all)) within in
        absurd (omega (arith, most, get_or_default numbers k 0 n within ∙ is, next))

-- ---- loops

-- the greatest so far is at least the next number, or the next number is greater
pub most-same : (numbers : List ℕ) (i most : ℕ) → i < length numbers → slice_index_or numbers i 0 ≤ most → All (λ n. n ≤ most) (take i numbers) → All (λ n. n ≤ most) (take (i + 1) numbers)
most-same numbers i most within less all = All-more (λ n. n ≤ most) numbers i 0 within all less

pub most-more : (numbers : List ℕ) (i most : ℕ) → i < length numbers → most < slice_index_or numbers i 0 → All (λ n. n ≤ most) (take i numbers) → All (λ n. n ≤ slice_index_or numbers i 0) (take (i + 1) numbers)
most-more numbers i most within more all =
    let x = slice_index_or numbers i 0 in
    most-same numbers i x within (omega arith) (All-weaker (λ n. n ≤ most) (λ n. n ≤ x) (λ n h. omega (arith, h, more)) (take i numbers) all)

-- some number is less, so this one is not 0
pub below-some : (numbers : List ℕ) (bound : ℕ) → list_any (λ n. nat_lt n bound) numbers ≡ true → 1 ≤ bound
below-some numbers bound some = let (k, n, within, at, under) = Any-from_list_any (λ n. nat_lt n bound) numbers some in grind (arith, under)

module _ (names : List (List ℕ)) (numbers : List ℕ) (are : AreNumbers names numbers) where
  pub none-named : numbers ≡ [] → (n : ℕ) → n < 2 ^ 32 → Contains names (chapter_name n) → ⊥
  none-named none n small c = let k = subst (λ (l : List ℕ). Contains l n) none (are.all n small c) in absurd (omega (arith, k.1))

  module _ (begin last : ℕ) (there : Contains numbers last) (most : All (λ n. n ≤ last) numbers) (run : IsRun numbers begin last) where
    pub is-last : list_any (λ n. nat_lt n begin) numbers ≡ false → IsLast names last
    is-last none = record {
      there = (are.each last there).1;
      most = λ n less c. All-contains (λ k. k ≤ last) numbers n most (are.all n less c);
      whole = λ n m less c above below. (are.each m (run.there m (from n m (are.all n less c) above) below)).1;
    }
      where
        from : (n m : ℕ) → Contains numbers n → n ≤ m → begin ≤ m
        from n m (k, within, is) above = grind (arith, list_any_at (λ n. nat_lt n begin) numbers k n within, is, none, above)

    pub is-missing : list_any (λ n. nat_lt n begin) numbers ≡ true → IsMissing names (begin - 1)
    is-missing some =
        let (k, n, within, at, under) = Any-from_list_any (λ n. nat_lt n begin) numbers some in
        let less : n < begin = grind (arith, under) in
        let there' : Contains numbers n = (k, within, at) in
        record {
          absent = λ c. run.before (begin - 1) (omega (arith, less)) (are.all (begin - 1) (omega (arith, less, run.within, (are.each last there).0)) c);
          earlier = (n, before n less there', (are.each n there').1);
          later = (last, omega (arith, less, run.within), (are.each last there).1);
        }
      where
        before : (n : ℕ) → n < begin → Contains numbers n → n < begin - 1
        before n less c = by (cases_lt n (begin - 1))
          where
            by : (n < begin - 1) ⊎ (begin - 1 ≤ n) → n < begin - 1
            by (inl h) = h
            by (inr h) = absurd (run.before n (omega (arith, h, less)) c)
