use Rattle.std.proofs.Common.{rules, tests, ◌≡◌, ◌&&◌, ◌==◌, ℕ, Bool, List, sym, ap, ◌∙◌}
use Rattle.std.specs.List.{list_all}
use Rattle.std.proofs.lemmas.Iterator.{YieldsList-from_slice}
use Rattle.std.proofs.lemmas.Iterator.Search.{all_from_yields_List}
use Rattle.journal_folder.specs.Found.{FoundParts}
use Rattle.day_restart.proofs.day_files.DayFiles.are_none.Goals as goal

pub returns-then-files-eq0 : goal.returns-then-files-eq0
returns-then-files-eq0 g c =
    let found : List FoundParts = c.args.self.now.venues.items in
    let has_none : FoundParts → Bool = λ (f : FoundParts). f.files == 0 in
    let all : c.all.result ≡ list_all has_none found =
    all_from_yields_List has_none _ _ _ c.all.ensures.ran (YieldsList-from_slice found cc) (λ x b q k. search (rules, tests)) in
    let none : c.args.self.now.desk.files ≡ 0 = sym c.files.ensures ∙ c.if-files-eq0.true in
    all ∙ ap (λ (n : ℕ). (n == 0) && list_all has_none found) (sym none)
