-- The robots and the clients in the midst of a tick, robot by robot.
use Rattle.std.proofs.Common.{◌≡◌, ℕ, ◌+◌, ◌-◌, ◌<◌, ◌≤◌, List, length, Option, Some, None, sym, refl, ap, ◌∙◌, subst, arith, inl, inr, add-zero, get_or, ext_get_or}
use Rattle.std.specs.Prelude.{slice_set, slice_index, slice_index_or}
use Rattle.std.proofs.lemmas.List.{length-set, get_or-set_same, get_or-set_other}
use Rattle.std.proofs.lemmas.Bool.{cases_eq, eq-eqb, ne_eqb}
use Rattle.fleet_queue.specs.declared.errand.Errand.{Errand}
use Rattle.fleet_queue.specs.Queue.{Queue}
use Rattle.fleet_book.specs.declared.account.Account.{Account}
use Rattle.fleet_book.specs.Counts.{Counts, account_of, with_account, blank}
use Rattle.fleet_state.specs.declared.clients.Tally.{Tally}
use Rattle.fleet_state.specs.Clients.{Clients, tally_at, no_tally, settled, told, with_arrival}
use Rattle.fleet_state.specs.inside.Due.{dues_of}
use Rattle.fleet_state.specs.Landed.{landing, wait_on, without_landed}
use Rattle.fleet_state.specs.Robots.{Robots, queue_at, no_queue, stepped}
use Rattle.fleet_state.proofs.Dues.{dues_of-more, none-more, owed-here}

-- ---- the robots

-- of the first robots, the first n have stepped to their cells
pub record AreStepped (to : List ℕ) (n : ℕ) (x y : Robots) : Type 0 where
  pub cell_count : length y.cells ≡ length x.cells
  pub queue_count : length y.queues ≡ length x.queues
  pub wait_count : length y.waits ≡ length x.waits
  pub moved : (k : ℕ) → k < n → slice_index y.cells k ≡ slice_index to k
  pub before : (k : ℕ) → k < n → queue_at y.queues k ≡ without_landed (slice_index to k) (queue_at x.queues k)
  pub behind : (k : ℕ) → n ≤ k → queue_at y.queues k ≡ queue_at x.queues k
  pub waited : (k : ℕ) → k < n → slice_index_or y.waits k None ≡ wait_on (slice_index to k) (queue_at x.queues k).items (slice_index_or x.waits k None)
  pub waiting : (k : ℕ) → n ≤ k → slice_index_or y.waits k None ≡ slice_index_or x.waits k None

pub stepped-none : (to : List ℕ) (x : Robots) → AreStepped to 0 x x
stepped-none to x = record {
  cell_count = refl;
  queue_count = refl;
  wait_count = refl;
  moved = λ k l. absurd (omega arith);
  before = λ k l. absurd (omega arith);
  behind = λ k l. refl;
  waited = λ k l. absurd (omega arith);
  waiting = λ k l. refl;
}

pub set-before : {X : Type 0} (d : X) (xs : List X) (n k : ℕ) (v : X) (g : ℕ → X) → n < length xs → v ≡ g n → (k < n → get_or xs k d ≡ g k) → k < n + 1 → get_or (slice_set xs n v) k d ≡ g k
set-before d xs n k v g l here earlier m =
    elim (cases_eq n k) [
      | inl e ↦ subst (λ k. get_or (slice_set xs n v) k d ≡ g k) e (get_or-set_same xs n v d l ∙ here)
      | inr ne ↦ get_or-set_other xs n k v d (λ e. ne (sym e)) ∙ earlier (omega (arith, ne))
    ]

pub set-behind : {X : Type 0} (d : X) (xs : List X) (n k : ℕ) (v : X) → n + 1 ≤ k → get_or (slice_set xs n v) k d ≡ get_or xs k d
set-behind d xs n k v l = get_or-set_other xs n k v d (λ e. omega arith)

pub stepped-more : (to : List ℕ) (n : ℕ) (x y : Robots) → AreStepped to n x y → n < length x.cells → n < length x.queues → n < length x.waits → AreStepped to (n + 1) x (stepped y n (slice_index to n))
stepped-more to n x y a lc lq lw =
    let q : Queue = without_landed (slice_index to n) (queue_at y.queues n) in
    let w : Option ℕ = wait_on (slice_index to n) (queue_at y.queues n).items (slice_index_or y.waits n None) in
    let same_queue = a.behind n (omega arith) in
    let same_wait = a.waiting n (omega arith) in
    record {
      cell_count = length-set y.cells n (slice_index to n) ∙ a.cell_count;
      queue_count = length-set y.queues n q ∙ a.queue_count;
      wait_count = length-set y.waits n w ∙ a.wait_count;
      moved = λ k l. set-before 0 y.cells n k (slice_index to n) (slice_index to) (omega (arith, a.cell_count)) refl (a.moved k) l;
      before = λ k l. set-before no_queue y.queues n k q (λ k. without_landed (slice_index to k) (queue_at x.queues k)) (omega (arith, a.queue_count)) (ap (without_landed (slice_index to n)) same_queue) (a.before k) l;
      behind = λ k l. set-behind no_queue y.queues n k q l ∙ a.behind k (omega arith);
      waited = λ k l. set-before None y.waits n k w (λ k. wait_on (slice_index to k) (queue_at x.queues k).items (slice_index_or x.waits k None)) (omega (arith, a.wait_count))
          (ap (λ (q : Queue). wait_on (slice_index to n) q.items (slice_index_or y.waits n None)) same_queue ∙ ap (wait_on (slice_index to n) (queue_at x.queues n).items) same_wait) (a.waited k) l;
      waiting = λ k l. set-behind None y.waits n k w l ∙ a.waiting k (omega arith);
    }

-- who has not stepped yet lands where it would have landed at first
pub lands-still : (to : List ℕ) (n : ℕ) (x y : Robots) (landed : Option Errand) → AreStepped to n x y → landed ≡ landing (slice_index to n) (queue_at y.queues n).items → landed ≡ landing (slice_index to n) (queue_at x.queues n).items
lands-still to n x y landed a e = e ∙ ap (λ (q : Queue). landing (slice_index to n) q.items) (a.behind n (omega arith))

-- all of them stand where the step brought them
pub stepped-cells : (to : List ℕ) (x y : Robots) → AreStepped to (length to) x y → length x.cells ≡ length to → y.cells ≡ to
stepped-cells to x y a n = ext_get_or 0 y.cells to (a.cell_count ∙ n) (λ k l. a.moved k (omega (arith, a.cell_count)))

-- ---- the clients

abbrev one_settled : Account → Account
one_settled a = record a { owed = a.owed - 1 }

pub accounts-more : (queues : List Queue) (to : List ℕ) (r n : ℕ) (f : Errand) (b b₀ : Counts) → Some f ≡ landing (slice_index to r) (queue_at queues r).items → f.client < length b.accounts → f.client < n →
    ((c : ℕ) → c < n → account_of b c ≡ settled (account_of b₀ c) (dues_of queues to r c)) →
    (c : ℕ) → c < n → account_of (with_account b f.client (one_settled (account_of b f.client))) c ≡ settled (account_of b₀ c) (dues_of queues to (r + 1) c)
accounts-more queues to r n f b b₀ e inside within inv c l =
    let i = f.client in
    elim (cases_eq i c) [
      | inl s ↦
          (let more : dues_of queues to (r + 1) i ≡ dues_of queues to r i + 1 = dues_of-more queues to r i ∙ rw (← e, eq-eqb i i refl) refl in
          let less : (account_of b₀ i).owed - dues_of queues to r i - 1 ≡ (account_of b₀ i).owed - dues_of queues to (r + 1) i = omega (arith, more) in
          subst (λ k. account_of (with_account b i (one_settled (account_of b i))) k ≡ settled (account_of b₀ k) (dues_of queues to (r + 1) k)) s
          (get_or-set_same b.accounts i (one_settled (account_of b i)) blank inside ∙ ap one_settled (inv i within)
          ∙ ap (λ k. record { accepted = (account_of b₀ i).accepted; owed = k; closed = (account_of b₀ i).closed }) less))
      | inr ne ↦
          (let same : dues_of queues to (r + 1) c ≡ dues_of queues to r c = dues_of-more queues to r c ∙ rw (← e, ne_eqb i c ne) (add-zero (dues_of queues to r c)) in
          get_or-set_other b.accounts i c (one_settled (account_of b i)) blank (λ s. ne (sym s)) ∙ inv c l ∙ ap (settled (account_of b₀ c)) (sym same))
    ]

pub tallies-more : (queues : List Queue) (to : List ℕ) (r n : ℕ) (f : Errand) (ts ts₀ : List Tally) (t : Tally) → Some f ≡ landing (slice_index to r) (queue_at queues r).items → f.client < length ts → f.client < n →
    ((c : ℕ) → c < n → tally_at ts c ≡ told (tally_at ts₀ c) (dues_of queues to r c)) → t ≡ tally_at ts f.client →
    (c : ℕ) → c < n → tally_at (slice_set ts f.client (told t 1)) c ≡ told (tally_at ts₀ c) (dues_of queues to (r + 1) c)
tallies-more queues to r n f ts ts₀ t e inside within inv is c l =
    let i = f.client in
    elim (cases_eq i c) [
      | inl s ↦
          (let more : dues_of queues to (r + 1) i ≡ dues_of queues to r i + 1 = dues_of-more queues to r i ∙ rw (← e, eq-eqb i i refl) refl in
          let sum : (tally_at ts₀ i).noticed + dues_of queues to r i + 1 ≡ (tally_at ts₀ i).noticed + dues_of queues to (r + 1) i = omega (arith, more) in
          subst (λ k. tally_at (slice_set ts i (told t 1)) k ≡ told (tally_at ts₀ k) (dues_of queues to (r + 1) k)) s
          (get_or-set_same ts i (told t 1) no_tally inside ∙ ap (λ t. told t 1) (is ∙ inv i within)
          ∙ ap (λ k. record { taken = (tally_at ts₀ i).taken; noticed = k }) sum))
      | inr ne ↦
          (let same : dues_of queues to (r + 1) c ≡ dues_of queues to r c = dues_of-more queues to r c ∙ rw (← e, ne_eqb i c ne) (add-zero (dues_of queues to r c)) in
          get_or-set_other ts i c (told t 1) no_tally (λ s. ne (sym s)) ∙ inv c l ∙ ap (told (tally_at ts₀ c)) (sym same))
    ]

-- the arrivals of the first n robots are entered
pub record AreArrived (queues : List Queue) (to : List ℕ) (n : ℕ) (x y : Clients) : Type 0 where
  pub count : length y.counts.accounts ≡ length x.counts.accounts
  pub accounts : (c : ℕ) → c < length x.counts.accounts → account_of y.counts c ≡ settled (account_of x.counts c) (dues_of queues to n c)
  pub life : y.counts.life ≡ x.counts.life
  pub shut : y.counts.shut ≡ x.counts.shut
  pub tally_count : length y.tallies ≡ length x.tallies
  pub tallies : (c : ℕ) → c < length x.counts.accounts → tally_at y.tallies c ≡ told (tally_at x.tallies c) (dues_of queues to n c)

settled-none : (a : Account) → a ≡ settled a 0
settled-none a = ap (λ n. record { accepted = a.accepted; owed = n; closed = a.closed }) (let z : a.owed ≡ a.owed - 0 = omega arith in z)

told-none : (t : Tally) → t ≡ told t 0
told-none t = ap (λ n. record { taken = t.taken; noticed = n }) (sym (add-zero t.noticed))

pub arrived-none : (queues : List Queue) (to : List ℕ) (x : Clients) → AreArrived queues to 0 x x
arrived-none queues to x = record {
  count = refl;
  accounts = λ c l. settled-none (account_of x.counts c);
  life = refl;
  shut = refl;
  tally_count = refl;
  tallies = λ c l. told-none (tally_at x.tallies c);
}

module _ (queues : List Queue) (to : List ℕ) (n : ℕ) (x y : Clients) (a : AreArrived queues to n x y) where
  -- where nobody lands
  pub arrived-same : None ≡ landing (slice_index to n) (queue_at queues n).items → AreArrived queues to (n + 1) x y
  arrived-same e = record {
    count = a.count;
    accounts = λ c l. a.accounts c l ∙ ap (settled (account_of x.counts c)) (sym (none-more queues to n c e));
    life = a.life;
    shut = a.shut;
    tally_count = a.tally_count;
    tallies = λ c l. a.tallies c l ∙ ap (told (tally_at x.tallies c)) (sym (none-more queues to n c e));
  }

  -- where one lands
  pub arrived-more : (f : Errand) → Some f ≡ landing (slice_index to n) (queue_at queues n).items → f.client < length x.counts.accounts → f.client < length x.tallies →
      AreArrived queues to (n + 1) x (with_arrival y f.client)
  arrived-more f e l t = record {
    count = length-set y.counts.accounts f.client (settled (account_of y.counts f.client) 1) ∙ a.count;
    accounts = accounts-more queues to n (length x.counts.accounts) f y.counts x.counts e (omega (arith, a.count)) l a.accounts;
    life = a.life;
    shut = a.shut;
    tally_count = length-set y.tallies f.client (told (tally_at y.tallies f.client) 1) ∙ a.tally_count;
    tallies = tallies-more queues to n (length x.counts.accounts) f y.tallies x.tallies (tally_at y.tallies f.client) e (omega (arith, a.tally_count)) l a.tallies refl;
  }

  -- the client of one that lands is still owed an errand, and may be told one more
  pub arrival-owed : (total : ℕ) (f : Errand) → Some f ≡ landing (slice_index to n) (queue_at queues n).items → n < total → f.client < length x.counts.accounts →
      dues_of queues to total f.client ≤ (account_of x.counts f.client).owed → 0 < (account_of y.counts f.client).owed
  arrival-owed total f e l known within = omega (arith, owed-here queues to n total f l e, ap (λ (a : Account). a.owed) (a.accounts f.client known))

  pub arrival-small : (total bound : ℕ) (f : Errand) → Some f ≡ landing (slice_index to n) (queue_at queues n).items → n < total → f.client < length x.counts.accounts →
      dues_of queues to total f.client ≤ (account_of x.counts f.client).owed → (tally_at x.tallies f.client).noticed + (account_of x.counts f.client).owed < bound →
      (tally_at y.tallies f.client).noticed + 1 < bound
  arrival-small total bound f e l known within small = omega (arith, owed-here queues to n total f l e, ap (λ (t : Tally). t.noticed) (a.tallies f.client known))
