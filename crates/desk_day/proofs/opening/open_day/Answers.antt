use Rattle.std.proofs.Common.{◌≡◌, ◌∙◌, Ok, Err, inl, inr, Bool, true, false, List, [], ◌∷◌, length, sym, subst}
use Rattle.std.specs.Prelude.{◌==◌, ◌||◌, not, Result, IfErr, IsErrAnd}
use Rattle.desk_venues.specs.declared.day_fault.DayFault.{DayFault}
use Rattle.desk_venues.specs.Faults.{IsNoMismatch}
use Rattle.desk_day.proofs.opening.open_day.Goals as goal

-- a refusal that is handed on
same_refusal : {A : Type 0} (result : Result A DayFault) (fault : DayFault) → IsErrAnd result (λ given. given ≡ fault)
    → IsNoMismatch fault → IfErr result IsNoMismatch
same_refusal (Ok day) fault e none = absurd e
same_refusal (Err given) fault e none = subst IsNoMismatch (sym e) none

-- where no server is there and no line is taken, nobody comes
none_come : {A C : Type 0} (listens : Bool) (servers : List A) (come : Bool)
    → come ≡ (listens || not (length servers == 0)) → servers ≡ [] → listens ≡ false → come ≡ true → C
none_come true servers come is none silent has = absurd (cc)
none_come false [] come is none silent has = let nobody : come ≡ false = is in absurd (cc)
none_come false (server ∷ servers) come is none silent has = absurd (cc)

pub returns-in_err-add_taker-clause-only : goal.returns-in_err-add_taker-clause-only
returns-in_err-add_taker-clause-only g c =
    same_refusal c.from_residual-in_err-add_taker.result _ c.from_residual-in_err-add_taker.ensures.1 c.in_err-add_taker.ensures

pub returns-in_err-lock_again-clause-only : goal.returns-in_err-lock_again-clause-only
returns-in_err-lock_again-clause-only g c = same_refusal c.from_residual-in_err-lock_again.result _ c.from_residual-in_err-lock_again.ensures.1 tt

pub returns-clause-page : goal.returns-clause-page
returns-clause-page g c =
    λ none silent. elim c.shared_seat-shared.ensures.page [
      | inl is ↦ is
      | inr has ↦
          none_come c.args.means.listens _ c.has_clients.result c.has_clients.ensures (c.as_slice.ensures.value ∙ none)
          silent has
    ]
