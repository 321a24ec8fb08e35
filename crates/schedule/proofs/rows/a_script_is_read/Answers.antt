use Rattle.std.proofs.Common.{refl}
use Rattle.fix_tags.specs.Number.{number_of}
use Rattle.dialect.specs.JoinedSymbol.{joined_symbol_of}
use Rattle.schedule.proofs.rows.a_script_is_read.Goals as goal

pub returns-clause-one_leg : goal.returns-clause-one_leg
unfolding number_of joined_symbol_of
returns-clause-one_leg c = refl

pub returns-clause-two_legs : goal.returns-clause-two_legs
unfolding number_of joined_symbol_of
returns-clause-two_legs c = refl

pub returns-clause-no_line_end : goal.returns-clause-no_line_end
unfolding number_of joined_symbol_of
returns-clause-no_line_end c = refl

pub returns-clause-each_event : goal.returns-clause-each_event
unfolding number_of joined_symbol_of
returns-clause-each_event c = refl
