use Rattle.std.proofs.Common.{rules, List, Option, ℕ, ap, ◌∙◌, subst}
use Rattle.std.specs.Prelude.{is_some}
use Rattle.check_command.specs.Request.{IsForm}
use Rattle.check_command.proofs.command.read_words.Goals as goal

pub returns-clause-asked : goal.returns-clause-asked
returns-clause-asked g c = (
  c.in_ok-matches.matches,
  record {
    paths = c.in_ok-paths.ensures;
    form = subst (λ (o : Option (List ℕ)). IsForm o c.in_ok-form.form) c.get_str.ensures c.in_ok-form.ensures.form;
    words = search rules;
    is_json = (c.get_flag-is_json.ensures.value, c.get_flag-is_json.ensures.other);
    tells_legs = (c.get_flag-tells_legs.ensures.value, c.get_flag-tells_legs.ensures.other);
    tells_executions = (c.get_flag-tells_executions.ensures.value, c.get_flag-tells_executions.ensures.other);
    exact = c.dialect_of-exact.ensures ∙ ap is_some c.get_str-2.ensures;
  },
)
