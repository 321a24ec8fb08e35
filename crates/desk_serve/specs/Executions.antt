-- The executions of a day, as they are told over HTTP.
use Rattle.std.specs.Prelude.{◌≡◌, ℕ, List, filter_map}
use Rattle.day_executions.specs.declared.lent.LentNotes.{LentNotes}
use Rattle.day_executions.specs.Executions.{IsHeard, IsLent, IsNow}
use Rattle.day_executions.specs.Named.{execution_of}
use Rattle.desk_json.specs.declared.standing.ExecutionsPage.{ExecutionsPage}

-- what was lent, each with the name of its venue, and the number of the last one of all
pub record IsPageOf (names : List (List ℕ)) (lent : LentNotes) (page : ExecutionsPage) : Type 0 where
  pub executions : page.executions.items ≡ filter_map (execution_of names) lent.notes.items
  pub last : page.last ≡ lent.last

-- the executions behind a number, at most so many, as the book has them: each was heard in any case
pub record IsExecutions (names : List (List ℕ)) (after most : ℕ) (page : ExecutionsPage) : Type 0 where
  pub lent : LentNotes
  pub now : IsNow IsHeard (IsLent after most) lent
  pub told : IsPageOf names lent page
