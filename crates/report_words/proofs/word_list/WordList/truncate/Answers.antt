use Rattle.std.proofs.Common.{take, sym, ◌∙◌, ap}
use Rattle.std.proofs.lemmas.List.{take-map}
use Rattle.report_words.specs.Placing.{words_at, all_at}
use Rattle.report_words.proofs.word_list.WordList.truncate.Goals as goal

pub returns : goal.returns
returns c =
    ap (all_at c.self.inside.bytes.items) c.truncate.ensures.items
    ∙ (sym (take-map (words_at c.self.inside.bytes.items) c.args.count c.self.inside.places.items)
    ∙ ap (take c.args.count) c.self.view_is)
