use Rattle.std.proofs.Common.{refl}
use Rattle.fix_tags.specs.Number.{number_of}
use Rattle.dialect.specs.JoinedSymbol.{joined_symbol_of}
use Rattle.schedule.proofs.rows.bad_lines_are_named.Goals as goal

pub returns-clause-few_numbers : goal.returns-clause-few_numbers
unfolding number_of joined_symbol_of
returns-clause-few_numbers c = refl

pub returns-clause-venues_again : goal.returns-clause-venues_again
unfolding number_of joined_symbol_of
returns-clause-venues_again c = refl

pub returns-clause-no_such_venue : goal.returns-clause-no_such_venue
unfolding number_of joined_symbol_of
returns-clause-no_such_venue c = refl

pub returns-clause-space_at_the_end : goal.returns-clause-space_at_the_end
unfolding number_of joined_symbol_of
returns-clause-space_at_the_end c = refl

pub returns-clause-two_spaces : goal.returns-clause-two_spaces
unfolding number_of joined_symbol_of
returns-clause-two_spaces c = refl

pub returns-clause-a_space : goal.returns-clause-a_space
unfolding number_of joined_symbol_of
returns-clause-a_space c = refl

pub returns-clause-no_frame : goal.returns-clause-no_frame
unfolding number_of joined_symbol_of
returns-clause-no_frame c = refl

pub returns-clause-no_shares : goal.returns-clause-no_shares
unfolding number_of joined_symbol_of
returns-clause-no_shares c = refl

pub returns-clause-bad_symbol : goal.returns-clause-bad_symbol
unfolding number_of joined_symbol_of
returns-clause-bad_symbol c = refl

pub returns-clause-bad_side : goal.returns-clause-bad_side
unfolding number_of joined_symbol_of
returns-clause-bad_side c = refl

pub returns-clause-no_plus : goal.returns-clause-no_plus
unfolding number_of joined_symbol_of
returns-clause-no_plus c = refl

pub returns-clause-venue_16 : goal.returns-clause-venue_16
unfolding number_of joined_symbol_of
returns-clause-venue_16 c = refl

pub returns-clause-trade_of_none : goal.returns-clause-trade_of_none
unfolding number_of joined_symbol_of
returns-clause-trade_of_none c = refl
