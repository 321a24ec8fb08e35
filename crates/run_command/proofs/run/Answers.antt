use Rattle.std.proofs.Common.{◌≡◌, ◌∙◌, List, ℕ, inl, subst}
use Rattle.std.specs.Io.KnownBytes.{Appends}
use Rattle.run_command.proofs.Ends.{ends_as}
use Rattle.run_command.proofs.Journals.{some_journal}
use Rattle.run_command.proofs.run.Goals as goal

pub returns-then-options : goal.returns-then-options
returns-then-options g c =
    let before = g.W.Write.contents c.args.out.now in
    let after = g.W.Write.contents c.print.new.out in
    record {
      bytes = c.in_ok-config.ensures.says.0;
      config = c.in_ok-config.config;
      says = c.in_ok-config.ensures.says.1;
      prints = inl (subst (λ (bytes : List ℕ). Appends before after bytes) c.in_ok-check_text.ensures
          (subst (λ (bytes : List ℕ). Appends before after bytes) c.deref.ensures.value c.in_ok-print.ensures.ok));
    }

pub returns : goal.returns
returns g c =
    ends_as (g.W.Write.contents c.args.out.now) (g.W.Write.contents c.run_config.new.out)
    c.in_ok-config.ensures.says.0 c.in_ok-config.config c.run_config.result c.in_ok-config.ensures.says.1
    c.run_config.ensures.ok c.run_config.ensures.err c.run_config.ensures.left

pub run_config-requires-clause-kept : goal.run_config-requires-clause-kept
run_config-requires-clause-kept g c κs within some =
    some_journal _ c.journal_at.result c.in_ok-config.config.journal _ _ c.in_ok-journal.journal _
    c.as_deref-2.result _ c.journal_at.ensures c.in_ok-journal.ensures
    (λ has. c.as_deref-2.ensures.variant ∙ has) some
