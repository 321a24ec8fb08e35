use Rattle.std.proofs.Common.{rules}
use Rattle.desk_http.proofs.answer.metrics_reply.Goals as goal

pub returns : goal.returns
returns g c = record {
  venues = c.in_ok-rows.rows.items;
  meanwhile = c.venues.new.self;
  venues_by_the_day = c.in_ok-rows.ensures;
  sums = c.in_ok-sums.sums;
  sums_by_the_day = c.in_ok-sums.ensures;
  refusals = c.refusals-refusals.result;
  refusals_by_the_day = c.refusals-refusals.ensures;
  wrong_tokens = c.wrong_tokens-wrong_tokens.result;
  guesses_by_the_day = c.wrong_tokens-wrong_tokens.ensures;
  used = c.process_use-used.result;
  uses_by_the_day = c.process_use-used.ensures;
  answer = search rules;
}
