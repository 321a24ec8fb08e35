use Rattle.std.proofs.Common.{◌≡◌, ℕ, List, [], ◌++◌, Some, Result, Ok, Err, sym, ap, ◌∙◌, append_assoc}
use Rattle.std.specs.Prelude.{MatchResult}
use Rattle.journal_tape.specs.Told.{LinesTold, all_kept}
use Rattle.kept_link.specs.Telling.{IsAllKept, KeepsAll}
use Rattle.day_restart.specs.DayJournal.{told_after}
use Rattle.day_restart.proofs.day_journal.DayJournal.keep_there.Goals as goal

kept_behind : (earlier : List (List ℕ)) (was : LinesTold) → told_after earlier (all_kept was)
    ≡ all_kept (told_after earlier was)
kept_behind earlier was =
    ap (λ (l : List (List ℕ)). let told : LinesTold = record { kept = l; unkept = [] } in told)
    (sym (append_assoc earlier was.kept was.unkept))

kept_after : {A E : Type 0} (result : Result A E) (earlier : List (List ℕ)) (was now self : LinesTold)
    → told_after earlier was ≡ self
    → MatchResult result (λ _. KeepsAll (Some was) (Some now) × IsAllKept (Some now)) (λ _. Some now ≡ Some was)
    → MatchResult result (λ _. told_after earlier now ≡ all_kept self) (λ _. told_after earlier now ≡ self)
kept_after (Ok done) earlier was now self is it =
    ap (told_after earlier) it.0 ∙ (kept_behind earlier was ∙ ap all_kept is)
kept_after (Err fault) earlier was now self is it =
    let same : now ≡ was = (let both = it in cc) in
    ap (told_after earlier) same ∙ is

pub returns-in-Ok-true : goal.returns-in-Ok-true
returns-in-Ok-true g c =
    let before = c.self.inside.teller.journal.told.lines in
    let after = c.keep.new.self.journal.told.lines in
    let was : LinesTold = record { kept = before.kept; unkept = before.unkept } in
    let now : LinesTold = record { kept = after.kept; unkept = after.unkept } in
    kept_after c.keep.result c.self.inside.earlier.lines was now c.args.self.now c.self.view_is c.keep.ensures
