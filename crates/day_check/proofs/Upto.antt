-- One more of what is told in order.
use Rattle.std.proofs.Common.{◌≡◌, ℕ, zero, suc, ◌+◌, ◌<◌, List, [], ◌∷◌, ◌++◌, length, get_or, set, refl, ap, sym, ◌∙◌, add-one, arith}
use Rattle.std.specs.Prelude.{slice_get}
use Rattle.leg.specs.declared.sweep.Routed.{Routed}
use Rattle.log_rules.specs.Verdict.{tallied}
use Rattle.log_rules.specs.declared.tally.Tally.{Tally}
use Rattle.log_rules.specs.declared.verdict.Verdict.{Verdict}
use Rattle.day_rules.specs.Sweeps.{sweep_sums}
use Rattle.day_rules.specs.VenueDay.{VenueParts, breaks}
use Rattle.day_check.specs.DayText.{line_of_sums, sweeps_upto}
use Rattle.day_check.specs.Finding.{finding_if, findings_upto, summary_upto, tally_if}
use Rattle.day_check.specs.Tallies.{tallied_upto}
use Rattle.day_check.specs.declared.form.Form.{Form}
use Rattle.day_check.specs.declared.rule_words.RuleWords.{RuleWords}

pub one_finding_more : (words : List RuleWords) (form : Form) (number : ℕ) (line : List ℕ) (said : List Verdict) (n : ℕ)
    → findings_upto words form number line said (n + 1)
    ≡ findings_upto words form number line said n ++ finding_if form number line (slice_get words n) (breaks said n)
one_finding_more words form number line said n = ap (findings_upto words form number line said) (add-one n)

pub one_tally_more : (words : List RuleWords) (tallies : List Tally) (n : ℕ)
    → summary_upto words tallies (n + 1)
    ≡ summary_upto words tallies n ++ tally_if (slice_get words n) (slice_get tallies n)
one_tally_more words tallies n = ap (summary_upto words tallies) (add-one n)

pub one_sweep_more : (venues : List VenueParts) (sweeps : List (List Routed)) (n : ℕ)
    → sweeps_upto venues sweeps (n + 1)
    ≡ sweeps_upto venues sweeps n ++ line_of_sums n (sweep_sums venues sweeps n)
one_sweep_more venues sweeps n = ap (sweeps_upto venues sweeps) (add-one n)

-- the tally of the next rule is counted
counted : (n : ℕ) (said : List Verdict) (tallies : List Tally) (d : Verdict) (e : Tally) → n < length said
    → set (tallied_upto n said tallies) n (tallied (get_or said n d) (get_or (tallied_upto n said tallies) n e))
    ≡ tallied_upto (suc n) said tallies
counted n [] tallies d e here = absurd (omega (arith, here))
counted zero (w ∷ said) [] d e here = refl
counted (suc n) (w ∷ said) [] d e here = refl
counted zero (w ∷ said) (u ∷ tallies) d e here = refl
counted (suc n) (w ∷ said) (u ∷ tallies) d e here =
    ap (λ (rest : List Tally). tallied w u ∷ rest) (counted n said tallies d e (omega (arith, here)))

pub one_count_more : (n : ℕ) (said : List Verdict) (tallies now : List Tally) (d : Verdict) (e r : Tally)
    → now ≡ tallied_upto n said tallies → r ≡ tallied (get_or said n d) (get_or now n e) → n < length said
    → set now n r ≡ tallied_upto (n + 1) said tallies
one_count_more n said tallies now d e r now_is r_is here =
    ap (set now n) r_is
    ∙ (ap (λ (ts : List Tally). set ts n (tallied (get_or said n d) (get_or ts n e))) now_is
    ∙ (counted n said tallies d e here ∙ ap (λ (k : ℕ). tallied_upto k said tallies) (sym (add-one n))))
