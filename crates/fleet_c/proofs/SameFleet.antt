-- No call changes the map or the number of robots.
use Rattle.std.proofs.Common.{◌≡◌, ◌∙◌, inl, inr, ℕ, zero, suc, ◌<◌, ◌≤◌, List, Bool, true, false, Ok, Err, Some, None, length, get_or, refl, sym, subst, arith}
use Rattle.std.specs.Prelude.{Result, Option, MatchOption, IfOk, OnErr, is_some, slice_get}
use Rattle.std.proofs.lemmas.Bool.{cases_Bool, cases_eq, cases_lt}
use Rattle.fleet_book.specs.declared.notice.Notice.{Notice}
use Rattle.fleet_book.specs.declared.order.Order.{Order}
use Rattle.fleet_book.specs.declared.verdict.Verdict.{Verdict}
use Rattle.fleet_history.specs.History.{clients, robots}
use Rattle.fleet_history.proofs.Next.{next-robots}
use Rattle.fleet_core.specs.Core.{World, Shuts, Takes, Ticks, next_world, pending, without_first}
use Rattle.fleet_core.specs.declared.faults.ShutFault.{ShutFault}
use Rattle.fleet_core.specs.declared.faults.TakeFault.{TakeFault}
use Rattle.fleet_core.specs.declared.faults.TickFault.{TickFault}
use Rattle.fleet_core.specs.declared.faults.TickReport.{TickReport}
use Rattle.fleet_c.specs.Answers.{Gives, IsShut, IsTaken, IsTicked, IsTurned, IsWidened, Orders, Widens}
use Rattle.fleet_c.specs.Batches.{AreTaken, AreGiven, Requested, TookMany, without_many}
use Rattle.fleet_c.specs.Forms.{judgement_of, note_of, order_of, report_of}
use Rattle.fleet_c.specs.Roomy.{IsSameFleet, LetsIn, goes_to}
use Rattle.fleet_c.specs.declared.codes.TheConstants.{BAD_ORDER, DONE, NO_NOTICE}
use Rattle.fleet_c.specs.declared.judgement.Judgement.{Judgement}
use Rattle.fleet_c.specs.declared.note.Note.{Note}
use Rattle.fleet_c.specs.declared.report.Report.{Report}
use Rattle.fleet_c.specs.declared.request.Request.{Request}
use Rattle.fleet_c.proofs.InTurn.{item-at}

module _ {A : Type 0} where
  same_world : (w n : World A) → n ≡ w → IsSameFleet w n
  same_world w n e = subst (IsSameFleet w) (sym e) (record { floor = refl; robots = refl; turns = refl })

  same_on : (w m n : World A) → IsSameFleet w m → IsSameFleet m n → IsSameFleet w n
  same_on w m n p q = record { floor = q.floor ∙ p.floor; robots = q.robots ∙ p.robots; turns = q.turns ∙ p.turns }

  taken_same : (w n : World A) (client : ℕ) (order : Order) (told : Judgement) (answer : Result Verdict TakeFault) → IfOk answer (λ v. Takes w client order v n × (told ≡ judgement_of v)) → OnErr answer (n ≡ w) → IsSameFleet w n
  taken_same w n client order told (Ok v) takes same = subst (IsSameFleet w) (sym takes.0.world) (record { floor = refl; robots = refl; turns = refl })
  taken_same w n client order told (Err e) takes same = same_world w n same

  pub goes_same : (cells : List Bool) (w n : World A) (client code : ℕ) (order : Order) (told : Judgement) → LetsIn cells w client order code told n → IsSameFleet w n
  goes_same cells w n client code order told says = elim (cases_lt client (clients w.history)) [
    | inl known ↦ elim (cases_Bool (goes_to cells order)) [
      | inl there ↦ same_world w n ((says.1 known).0 there).1
      | inr else_where ↦ (let is = (says.1 known).1 else_where in taken_same w n client order told is.answer is.takes is.same)
    ]
    | inr unknown ↦ same_world w n (says.0 unknown).1
  ]

  requested_same : (cells : List Bool) (w n : World A) (r : Request) (code : ℕ) (told : Judgement) (asked : Option Order) → MatchOption asked ((code ≡ BAD_ORDER) × (n ≡ w)) (λ order. LetsIn cells w r.client order code told n) → IsSameFleet w n
  requested_same cells w n r code told None says = same_world w n says.1
  requested_same cells w n r code told (Some order) says = goes_same cells w n r.client code order told says

  took_same : (cells : List Bool) (w n : World A) (requests : List Request) (told : List Judgement) (some : Request) (none : Judgement) (k : ℕ) → k ≤ length requests → TookMany cells w requests told k n → IsSameFleet w n
  took_same cells w n requests told some none zero fit took = same_world w n took
  took_same cells w n requests told some none (suc k) fit (mid, before, each) =
      let r = get_or requests k some in
      same_on w mid n (took_same cells w mid requests told some none k (omega (arith, fit)) before)
      (requested_same cells mid n r DONE _ (order_of r) (each r none (item-at requests k some (omega (arith, fit)))))

  pub batch_same : (cells : List Bool) (w n : World A) (requests : List Request) (before after : List Judgement) (code count : ℕ) → AreTaken cells w requests before after code count n → IsSameFleet w n
  batch_same cells w n requests before after code count taken = took_same cells w n requests after (record { number = 0; kind = 0; client = 0; robot = 0; cell = 0 }) (record { number = 0; verdict = 0 }) count taken.fit taken.taken

  given_same : (w : World A) (client k : ℕ) → IsSameFleet w (without_many w client k)
  given_same w client zero = record { floor = refl; robots = refl; turns = refl }
  given_same w client (suc k) = let p = given_same w client k in record { floor = p.floor; robots = p.robots; turns = p.turns }

  pub gives_same : (w n : World A) (client count : ℕ) (before after : List Note) → AreGiven w client before after count n → IsSameFleet w n
  gives_same w n client count before after given = subst (IsSameFleet w) (sym given.world) (given_same w client count)

  pub turns_same : (w n : World A) (code : ℕ) → IsTurned w code n → IsSameFleet w n
  turns_same w n code turned = elim (cases_eq code DONE) [
    | inl done ↦ subst (IsSameFleet w) (sym (turned.turns done)) (record { floor = refl; robots = next-robots w.history; turns = refl })
    | inr other ↦ same_world w n (turned.same other)
  ]

  pub orders_same : (w n : World A) (client code : ℕ) (order : Order) (told : Judgement) → Orders w client order code told n → IsSameFleet w n
  orders_same w n client code order told says = elim (cases_lt client (clients w.history)) [
    | inl known ↦ (let is = says.1 known in taken_same w n client order told is.answer is.takes is.same)
    | inr unknown ↦ same_world w n (says.0 unknown).1
  ]

  ticked_same : (w n : World A) (report : Report) (answer : Result TickReport TickFault) → IfOk answer (λ did. Ticks w did n × (report ≡ report_of did)) → OnErr answer (n ≡ w) → IsSameFleet w n
  ticked_same w n report (Ok did) ticks same = subst (IsSameFleet w) (sym ticks.0.world) (record { floor = refl; robots = refl; turns = refl })
  ticked_same w n report (Err e) ticks same = same_world w n same

  pub ticks_same : (w n : World A) (code : ℕ) (report : Report) → IsTicked w code report n → IsSameFleet w n
  ticks_same w n code report is = ticked_same w n report is.answer is.ticks is.same

  shut_same : (w n : World A) (robot : ℕ) (left : Bool) (answer : Result (Option ℕ) ShutFault) → IfOk answer (λ farewell. Shuts w robot farewell n × (left ≡ is_some farewell)) → OnErr answer (n ≡ w) → IsSameFleet w n
  shut_same w n robot left (Ok farewell) shuts same = subst (IsSameFleet w) (sym shuts.0.world) (record { floor = refl; robots = refl; turns = refl })
  shut_same w n robot left (Err e) shuts same = same_world w n same

  pub shuts_same : (w n : World A) (robot code : ℕ) (left : Bool) → IsShut w robot code left n → IsSameFleet w n
  shuts_same w n robot code left is = shut_same w n robot left is.answer is.shuts is.same

  first_same : (w n : World A) (client code : ℕ) (note : Note) (first : Option Notice)
      → MatchOption first ((code ≡ NO_NOTICE) × (n ≡ w)) (λ notice. (code ≡ DONE) × (note ≡ note_of notice) × (n ≡ without_first w client)) → IsSameFleet w n
  first_same w n client code note None says = same_world w n says.1
  first_same w n client code note (Some notice) says = subst (IsSameFleet w) (sym says.2) (record { floor = refl; robots = refl; turns = refl })

  pub one_given_same : (w n : World A) (client code : ℕ) (note : Note) → Gives w client code note n → IsSameFleet w n
  one_given_same w n client code note says = elim (cases_lt client (clients w.history)) [
    | inl known ↦ first_same w n client code note (slice_get (pending w client).notices 0) (says.1 known)
    | inr unknown ↦ same_world w n (says.0 unknown).1
  ]

  widened_same : (w n : World A) (client extra code : ℕ) → IsWidened w client extra code n → IsSameFleet w n
  widened_same w n client extra code is = elim (cases_eq code DONE) [
    | inl done ↦ subst (IsSameFleet w) (sym (is.widens done)) (record { floor = refl; robots = refl; turns = refl })
    | inr other ↦ same_world w n (is.same other)
  ]

  pub widens_same : (w n : World A) (client extra code : ℕ) → Widens w client extra code n → IsSameFleet w n
  widens_same w n client extra code says = elim (cases_lt client (clients w.history)) [
    | inl known ↦ widened_same w n client extra code (says.1 known)
    | inr unknown ↦ same_world w n (says.0 unknown).1
  ]
