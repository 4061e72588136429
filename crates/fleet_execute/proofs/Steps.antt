-- An execution goes on.
use Rattle.std.proofs.Common.{◌≡◌, ℕ, inl, inr, List, [], ◌∷◌, ◌++◌, refl, sym, ◌∙◌, ap, append_assoc, append-nil}
use Rattle.fleet_execution.specs.declared.motion.Move.{Move}
use Rattle.fleet_execution.specs.Course.{Course}
use Rattle.fleet_execution.specs.Desk.{Desk}
use Rattle.fleet_execution.specs.Executes.{Executes}
use Rattle.fleet_execution.specs.Given.{Gives}
use Rattle.fleet_execute.specs.declared.plan.Plan.{Plan}
use Rattle.fleet_execute.specs.Text.{move_line}
use Rattle.fleet_execute.specs.Goes.{Goes, HasGone, moves_text}
use Rattle.fleet_execute.specs.Goes.Goes.{stays, plans, returns}

pub gone_none : (plan : Plan) (o : Course) (d : Desk) → Executes d o → HasGone plan o [] d
gone_none plan o d x = record { course = o; goes = stays; executes = x }

pub gone_move : (plan : Plan) (o : Course) (ms : List Move) (d e : Desk) (m : Move) (gone : HasGone plan o ms d) → Gives gone.course m e → HasGone plan o (ms ++ m ∷ []) e
gone_move plan o ms d e m gone gives = elim gives.2 [
  | inl begins ↦ record { course = _; goes = returns ms m gone.course _ gone.goes (gives.0, gives.1, inl (begins.0, begins.1, begins.2, refl)); executes = begins.3 }
  | inr passes ↦ record { course = _; goes = returns ms m gone.course _ gone.goes (gives.0, gives.1, inr (passes.0, refl)); executes = passes.1 }
]

pub text_more : (ms : List Move) (m : Move) → moves_text (ms ++ m ∷ []) ≡ moves_text ms ++ move_line m
text_more [] m = append-nil (move_line m)
text_more (n ∷ ms) m = ap (λ (x : List ℕ). move_line n ++ x) (text_more ms m) ∙ sym (append_assoc (move_line n) (moves_text ms) (move_line m))

-- what goes on from a course to which another one has gone without a move
pub goes_after : (plan : Plan) (o q : Course) (ms : List Move) (p : Course) → Goes plan o [] q → Goes plan q ms p → Goes plan o ms p
goes_after plan o q ms p first stays = first
goes_after plan o q ms p first (plans ns r more less) = plans ns r (goes_after plan o q ns r first more) less
goes_after plan o q ms p first (returns ns m r t more is) = returns ns m r t (goes_after plan o q ns r first more) is

pub text_after : (before now : List ℕ) (ms : List Move) (m : Move) → now ≡ before ++ moves_text ms → now ++ move_line m ≡ before ++ moves_text (ms ++ m ∷ [])
text_after before now ms m is = rw (is, text_more ms m, append_assoc) refl
