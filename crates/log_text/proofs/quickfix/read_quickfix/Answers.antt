use Rattle.std.proofs.Common.{rules, arith, ◌≡◌, ◌≤◌, length, None, Err, Result, sym, ap, ◌∙◌, subst}
use Rattle.std.specs.Option.{option_map}
use Rattle.log_text.specs.Quickfix.{ReadsQuickfix, past_digits, past_mark, quickfix_said}
use Rattle.log_text.specs.declared.fault.LineFault.{LineFault}
use Rattle.log_text.specs.declared.fault.LineFault.TheVariants.{Mark}
use Rattle.log_text.specs.declared.quickfix.QuickfixLine.{QuickfixLine}
use Rattle.log_text.proofs.LineParts.{rest_at}
use Rattle.log_text.proofs.QuickfixParts.{lacks_mark, said_of_parts}
use Rattle.log_text.proofs.quickfix.read_quickfix.Goals as goal

pub returns-in_err-message : goal.returns-in_err-message
returns-in_err-message c =
    let line = c.args.line.now in
    let long : 24 ≤ length line = omega arith in
    let none : c.past_mark.result ≡ None = search rules in
    let same : Err Mark ≡ c.from_residual-in_err-message.result = search rules in
    subst (λ (r : Result QuickfixLine LineFault). ReadsQuickfix (quickfix_said line) r) same
    (lacks_mark line c.in_ok-stamp.stamp long (sym c.read_stamp.ensures ∙ c.in_ok-stamp.ensures.ok_part)
    (ap (λ t. past_mark (past_digits t)) (sym (rest_at 21 line)) ∙ ap past_mark (sym c.past_digits.ensures)
    ∙ sym c.past_mark.ensures ∙ ap (option_map (λ rest. rest.now)) none))

pub returns : goal.returns
returns c =
    let line = c.args.line.now in
    let long : 24 ≤ length line = omega arith in
    said_of_parts line c.in_ok-message.message.now c.in_ok-stamp.stamp long
    (sym c.read_stamp.ensures ∙ c.in_ok-stamp.ensures.ok_part)
    (ap (λ t. past_mark (past_digits t)) (sym (rest_at 21 line)) ∙ ap past_mark (sym c.past_digits.ensures)
    ∙ sym c.past_mark.ensures ∙ ap (option_map (λ rest. rest.now)) c.in_ok-message.ensures.ok_part)
