-- The line of a notice is short: its words have a fixed number of letters, and each of its numbers at most twenty digits.
use Rattle.std.proofs.Common.{◌≡◌, ℕ, ◌+◌, ◌^◌, ◌≤◌, ◌<◌, List, ◌++◌, length, codes, decimal, refl, arith, length-append}
use Rattle.std.proofs.lemmas.Fmt.{length-decimal-le}
use Rattle.fleet_book.specs.Refusals.{verdict_name}
use Rattle.fleet_book.specs.declared.notice.Notice.{Notice}
use Rattle.fleet_book.specs.declared.notice.Notice.TheVariants as notice
use Rattle.fleet_book.specs.declared.verdict.Verdict.{Verdict}
use Rattle.fleet_book.specs.declared.verdict.Verdict.TheVariants as verdict
use Rattle.fleet_text.specs.Output.{notice_line, notice_text, verdict_text}
use Rattle.live_fleet.specs.Length.{number_in}

both : (a b : List ℕ) (m n : ℕ) → length a ≤ m → length b ≤ n → length (a ++ b) ≤ m + n
both a b m n first second = let sum = length-append a b in omega (arith, first, second, sum)

word : (a b : List ℕ) (m n : ℕ) → length a ≤ m → length b ≡ n → length (a ++ b) ≤ m + n
word a b m n first second = let sum = length-append a b in omega (arith, first, second, sum)

letters : (a : List ℕ) (n : ℕ) → length a ≡ n → length a ≤ n
letters a n is = omega (arith, is)

digits_of : (n : ℕ) → n < 2 ^ 64 → length (decimal n) ≤ 20
digits_of n small = length-decimal-le 20 n (omega arith) (omega (arith, small)) small

small_zero : {P : Type 0} (n : ℕ) → ((m : ℕ) → verdict.Accepted n ≡ verdict.Accepted m → ⊥) → P
small_zero n other = absurd (other n refl)

pub number-other : (v : Verdict) → ((n : ℕ) → v ≡ verdict.Accepted n → ⊥) → number_in v < 2 ^ 64
number-other (verdict.Accepted n) other = small_zero n other
number-other verdict.Closed other = omega arith
number-other verdict.Withdrawn other = omega arith
number-other verdict.ClientClosed other = omega arith
number-other verdict.NoRobot other = omega arith
number-other verdict.RobotShut other = omega arith
number-other verdict.NoCell other = omega arith
number-other verdict.Blocked other = omega arith
number-other verdict.Unreachable other = omega arith
number-other verdict.QueueFull other = omega arith
number-other verdict.LifeSpent other = omega arith
number-other verdict.NoErrand other = omega arith
number-other verdict.TooLate other = omega arith

refused_text : (code letter : ℕ) (name : List ℕ) → code < 2 ^ 64 → length name ≡ letter → letter ≤ 20 → length (codes "refused " ++ decimal code ++ codes " " ++ name) ≤ 49
refused_text code letter name small size few =
    let all = word (codes "refused " ++ decimal code ++ codes " ") name 29 letter (word (codes "refused " ++ decimal code) (codes " ") 28 1 (both (codes "refused ") (decimal code) 8 20 (letters (codes "refused ") 8 refl) (digits_of code small)) refl) size in
    omega (arith, all, few)

verdict_short : (v : Verdict) → number_in v < 2 ^ 64 → length (verdict_text v) ≤ 49
verdict_short (verdict.Accepted number) small = let all = both (codes "accepted ") (decimal number) 9 20 (letters (codes "accepted ") 9 refl) (digits_of number small) in omega (arith, all)
verdict_short verdict.Closed small = let all = letters (codes "closed") 6 refl in omega (arith, all)
verdict_short verdict.Withdrawn small = let all = letters (codes "withdrawn") 9 refl in omega (arith, all)
verdict_short verdict.ClientClosed small = refused_text 1 13 (codes "client-closed") (omega arith) refl (omega arith)
verdict_short verdict.NoRobot small = refused_text 2 8 (codes "no-robot") (omega arith) refl (omega arith)
verdict_short verdict.RobotShut small = refused_text 3 10 (codes "robot-shut") (omega arith) refl (omega arith)
verdict_short verdict.NoCell small = refused_text 4 7 (codes "no-cell") (omega arith) refl (omega arith)
verdict_short verdict.Blocked small = refused_text 5 7 (codes "blocked") (omega arith) refl (omega arith)
verdict_short verdict.Unreachable small = refused_text 6 11 (codes "unreachable") (omega arith) refl (omega arith)
verdict_short verdict.QueueFull small = refused_text 7 10 (codes "queue-full") (omega arith) refl (omega arith)
verdict_short verdict.LifeSpent small = refused_text 8 10 (codes "life-spent") (omega arith) refl (omega arith)
verdict_short verdict.NoErrand small = refused_text 9 9 (codes "no-errand") (omega arith) refl (omega arith)
verdict_short verdict.TooLate small = refused_text 10 8 (codes "too-late") (omega arith) refl (omega arith)

line_short : (client : ℕ) (n : Notice) → client < 2 ^ 64 → length (notice_text n) ≤ 200 → length (notice_line client n) ≤ 256
line_short client n small few =
    let head = word (codes "collected " ++ decimal client) (codes " ") 30 1 (both (codes "collected ") (decimal client) 10 20 (letters (codes "collected ") 10 refl) (digits_of client small)) refl in
    let all = word (codes "collected " ++ decimal client ++ codes " " ++ notice_text n) (codes "\n") 231 1 (both (codes "collected " ++ decimal client ++ codes " ") (notice_text n) 31 200 head few) refl in
    omega (arith, all)

pub verdict-short : (client seq order_no : ℕ) (v : Verdict) → client < 2 ^ 64 → seq < 2 ^ 64 → order_no < 2 ^ 64 → number_in v < 2 ^ 64 → length (notice_line client (notice.Verdict seq order_no v)) ≤ 256
verdict-short client seq order_no v small_client small_seq small_order small =
    let one = word (decimal seq) (codes " verdict ") 20 9 (digits_of seq small_seq) refl in
    let two = both (decimal seq ++ codes " verdict ") (decimal order_no) 29 20 one (digits_of order_no small_order) in
    let three = word (decimal seq ++ codes " verdict " ++ decimal order_no) (codes " ") 49 1 two refl in
    let all = both (decimal seq ++ codes " verdict " ++ decimal order_no ++ codes " ") (verdict_text v) 50 49 three (verdict_short v small) in
    line_short client (notice.Verdict seq order_no v) small_client (omega (arith, all))

pub arrived-short : (client seq number robot cell tick stamp : ℕ) → client < 2 ^ 64 → seq < 2 ^ 64 → number < 2 ^ 64 → robot < 2 ^ 64 → cell < 2 ^ 64 → tick < 2 ^ 64 → stamp < 2 ^ 64
    → length (notice_line client (notice.Arrived seq number robot cell tick stamp)) ≤ 256
arrived-short client seq number robot cell tick stamp small_client small_seq small_number small_robot small_cell small_tick small_stamp =
    let a = word (decimal seq) (codes " arrived ") 20 9 (digits_of seq small_seq) refl in
    let b = both (decimal seq ++ codes " arrived ") (decimal number) 29 20 a (digits_of number small_number) in
    let c = word (decimal seq ++ codes " arrived " ++ decimal number) (codes " robot ") 49 7 b refl in
    let d = both (decimal seq ++ codes " arrived " ++ decimal number ++ codes " robot ") (decimal robot) 56 20 c (digits_of robot small_robot) in
    let e = word (decimal seq ++ codes " arrived " ++ decimal number ++ codes " robot " ++ decimal robot) (codes " cell ") 76 6 d refl in
    let f = both (decimal seq ++ codes " arrived " ++ decimal number ++ codes " robot " ++ decimal robot ++ codes " cell ") (decimal cell) 82 20 e (digits_of cell small_cell) in
    let g = word (decimal seq ++ codes " arrived " ++ decimal number ++ codes " robot " ++ decimal robot ++ codes " cell " ++ decimal cell) (codes " tick ") 102 6 f refl in
    let h = both (decimal seq ++ codes " arrived " ++ decimal number ++ codes " robot " ++ decimal robot ++ codes " cell " ++ decimal cell ++ codes " tick ") (decimal tick) 108 20 g (digits_of tick small_tick) in
    let i = word (decimal seq ++ codes " arrived " ++ decimal number ++ codes " robot " ++ decimal robot ++ codes " cell " ++ decimal cell ++ codes " tick " ++ decimal tick) (codes " stamp ") 128 7 h refl in
    let j = both (decimal seq ++ codes " arrived " ++ decimal number ++ codes " robot " ++ decimal robot ++ codes " cell " ++ decimal cell ++ codes " tick " ++ decimal tick ++ codes " stamp ") (decimal stamp) 135 20 i (digits_of stamp small_stamp) in
    line_short client (notice.Arrived seq number robot cell tick stamp) small_client (omega (arith, j))
