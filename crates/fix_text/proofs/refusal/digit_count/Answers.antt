use Rattle.std.proofs.Common.{sym, arith}
use Rattle.fix_text.proofs.DigitCounts.{length-decimal_one, length-decimal_two, length-decimal_three, length-decimal_four, length-decimal_five, length-decimal_six}
use Rattle.fix_text.proofs.refusal.digit_count.Goals as goal

pub returns-in-0-to-9-clause-value : goal.returns-in-0-to-9-clause-value
returns-in-0-to-9-clause-value c = sym (length-decimal_one c.args.number (omega arith))

pub returns-in-10-to-99-clause-value : goal.returns-in-10-to-99-clause-value
returns-in-10-to-99-clause-value c = sym (length-decimal_two c.args.number (omega arith) (omega arith))

pub returns-in-100-to-999-clause-value : goal.returns-in-100-to-999-clause-value
returns-in-100-to-999-clause-value c = sym (length-decimal_three c.args.number (omega arith) (omega arith))

pub returns-in-1000-to-9999-clause-value : goal.returns-in-1000-to-9999-clause-value
returns-in-1000-to-9999-clause-value c = sym (length-decimal_four c.args.number (omega arith) (omega arith))

pub returns-in-10000-to-99999-clause-value : goal.returns-in-10000-to-99999-clause-value
returns-in-10000-to-99999-clause-value c = sym (length-decimal_five c.args.number (omega arith) (omega arith))

pub returns-in_default-clause-value : goal.returns-in_default-clause-value
returns-in_default-clause-value c = sym (length-decimal_six c.args.number (omega arith) (omega arith))
