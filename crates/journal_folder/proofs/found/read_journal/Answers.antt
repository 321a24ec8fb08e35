use Rattle.std.proofs.Common.{rules, ◌≡◌, ℕ, ◌+◌, ◌∷◌, Err, sym, subst, arith}
use Rattle.std.specs.Prelude.{MatchResult, Result}
use Rattle.journal_folder.specs.Found.{FoundParts, IsFoundOf, IsRefused, IsTaken, MayRefuse}
use Rattle.journal_folder.specs.declared.fault.FolderFault.{FolderFault}
use Rattle.journal_folder.proofs.Founds.{breaks}
use Rattle.journal_folder.proofs.found.read_journal.Goals as goal

pub loop-before-preserved : goal.loop-before-preserved
loop-before-preserved g c =
    let so_far = c.loop-before.invariant in
    let found = c.loop-before.found in
    let bytes = c.as_slice.result.now in
    let count = so_far.2 in (
      bytes ∷ so_far.0,
      (
        found,
        so_far.1,
        subst (λ (n : ℕ). IsTaken found (n + 1) bytes c.take_file.new.self) (sym count) c.in_ok-take_file.ensures,
      ),
      omega (arith, count),
    )

pub returns-in_err-take_file : goal.returns-in_err-take_file
returns-in_err-take_file g c =
    let so_far = c.loop-before.invariant in
    let found = c.loop-before.found in
    let bytes = c.as_slice.result.now in
    let fault = c.in_err-take_file.field-0.0 in
    let same : Err fault ≡ c.from_residual-in_err-take_file.result = search rules in
    subst
    (λ (r : Result FoundParts FolderFault). MatchResult r (IsFoundOf c.args.files) IsRefused)
    same
    (breaks so_far.0 found bytes fault so_far.1
    (subst (λ (n : ℕ). MayRefuse found (n + 1) bytes fault) (sym so_far.2) c.in_err-take_file.ensures))
