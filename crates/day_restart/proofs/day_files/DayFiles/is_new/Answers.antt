use Rattle.std.proofs.Common.{rules, tests, ◌≡◌, ◌&&◌, ◌==◌, Bool, List, length, sym, ap, ◌∙◌}
use Rattle.std.specs.List.{list_all}
use Rattle.std.proofs.lemmas.Iterator.{YieldsList-from_slice}
use Rattle.std.proofs.lemmas.Iterator.Search.{all_from_yields_List}
use Rattle.journal_folder.specs.Found.{FoundParts}
use Rattle.day_restart.proofs.day_files.DayFiles.is_new.Goals as goal

pub returns-then-count-eq0 : goal.returns-then-count-eq0
returns-then-count-eq0 g c =
    let found : List FoundParts = c.args.self.now.venues.items in
    let is_empty : FoundParts → Bool = λ (f : FoundParts). length f.lines == 0 in
    let all : c.all.result ≡ list_all is_empty found =
    all_from_yields_List is_empty _ _ _ c.all.ensures.ran (YieldsList-from_slice found cc) (λ x b q k. search (rules, tests)) in
    let none : length c.args.self.now.desk.lines ≡ 0 = sym c.count.ensures ∙ c.if-count-eq0.true in
    all ∙ ap (λ n. (n == 0) && list_all is_empty found) (sym none)
