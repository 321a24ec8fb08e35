use Rattle.std.proofs.Common.{rules, ◌≡◌, ◌∙◌, ℕ, List, Err, ap, subst}
use Rattle.std.specs.Prelude.{Result}
use Rattle.journal_folder.specs.Found.{FoundParts}
use Rattle.journal_folder.specs.Reads.{Reads, with_read}
use Rattle.journal_folder.specs.declared.fault.FolderFault.{FolderFault}
use Rattle.journal_folder.proofs.Reading.{not_listed, not_read}
use Rattle.journal_folder.proofs.folder.DayFolder.read.Goals as goal

pub returns-in_err-journals : goal.returns-in_err-journals
returns-in_err-journals g c =
    let reads = c.args.self.now.reads.journals in
    let fault = c.in_err-journals.field-0.0 in
    let same : Err fault ≡ c.from_residual.result = search rules in
    subst (λ (r : Result FoundParts FolderFault). Reads c.args.name.now c.args.words.now r reads reads) same
    (not_listed c.args.name.now c.args.words.now reads fault c.in_err-journals.ensures)

pub returns-in_err-found : goal.returns-in_err-found
returns-in_err-found g c =
    let reads = c.args.self.now.reads.journals in
    let fault = c.in_err-found.field-0.0 in
    let same : Err fault ≡ c.from_residual-in_err-found.result = search rules in
    subst (λ (r : Result FoundParts FolderFault). Reads c.args.name.now c.args.words.now r reads reads) same
    (not_read c.args.name.now c.args.words.now reads _ fault c.in_err-found.ensures)

pub returns : goal.returns
returns g c = (
  (_, c.in_ok-found.ensures),
  c.with-self.ensures
      ∙ ap (λ (n : List ℕ). with_read n c.in_ok-found.found c.args.self.now.reads.journals) c.as_bytes.ensures.value,
)
