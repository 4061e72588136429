-- What is said where the page or the picture was made, and where it was not.
use Rattle.std.proofs.Common.{◌≡◌, ℕ, List, [], refl, string_bytes}
use Rattle.std.proofs.lemmas.Result.{IfOk-weaker}
use Rattle.fleet_lib.specs.Said.{Outcome}
use Rattle.fleet_lib.specs.View.{good, refused}
use Rattle.fleet_lib.proofs.view.answer_view.Goals as goal

told : (text complaint : List ℕ) → complaint ≡ [] → ◌≡◌ {A = Outcome} (record { output = text; status = 0; complaint = complaint }) (record { output = text; status = 0; complaint = [] })
told text complaint none = rw none refl

pub returns-in-Ok : goal.returns-in-Ok
returns-in-Ok c = good c.in-Ok.output.items c.in-Ok.ensures.text (told c.in-Ok.output.items (string_bytes c.new.result) c.new.ensures.bytes)

pub returns-in-Err : goal.returns-in-Err
returns-in-Err c = IfOk-weaker c.faulty.result _ _ (λ s e. refused c.in-Err.fault c.in-Err.ensures.fault e) c.faulty.ensures
