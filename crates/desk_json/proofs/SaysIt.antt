-- What the JSON of a body asks for is said of the body.
use Rattle.std.proofs.Common.{◌≡◌, ℕ, List, sym, subst}
use Rattle.std.specs.Prelude.{Option, Some, Result}
use Rattle.serde_json.specs.Data.{Data}
use Rattle.serde_json.specs.Read.{read}
use Rattle.sweep_refs.specs.declared.submission.Submission.{Submission}
use Rattle.desk_json.specs.declared.sweep_fault.SweepFault.{SweepFault}
use Rattle.desk_json.specs.Sweep.{Says, sweep_in}

pub says : (names : List (List ℕ)) (text : List ℕ) (body : Data) (answer : Result Submission SweepFault)
    → read text ≡ Some body → answer ≡ sweep_in names body → Says names (read text) answer
says names text body answer is said = subst (λ (o : Option Data). Says names o answer) (sym is) (sym said)
