use Rattle.std.proofs.Common.{ℕ, List, get_or, ap, subst, ◌∙◌}
use Rattle.std.specs.Option.{option_map}
use Rattle.std.proofs.lemmas.Option.{slice_get-get_or, slice_get-map}
use Rattle.session_worker.specs.Restoring.{RedoesLine}
use Rattle.day_restart.proofs.restored.redo_at.Goals as goal

pub returns-in-Ok-clause-redoes : goal.returns-in-Ok-clause-redoes
returns-in-Ok-clause-redoes g c =
    let lines = c.args.past.now.lines.now in
    let line = get_or lines c.args.place c.index-past-place.result in
    record {
      line = line.items;
      there = slice_get-map (λ l. l.items) lines c.args.place
          ∙ ap (option_map (λ l. l.items))
          (slice_get-get_or lines c.args.place c.index-past-place.result c.requires);
      redoes = subst (λ (said : List ℕ).
          RedoesLine (g.D.Dialect.wording c.args.past.now.dialect).decoding c.args.start.now said c.redo.new.self)
          c.as_slice.ensures.value c.in-Ok.ensures;
    }
