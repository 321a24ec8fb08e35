-- What a message says of a rule, and the count of it.
use Rattle.std.specs.Prelude.{ℕ, ◌+◌, ◌-◌, ◌^◌, Bool, true, false, min, if◌then◌else◌}
use Rattle.log_rules.specs.declared.tally.Tally.{Tally}
use Rattle.log_rules.specs.declared.verdict.Verdict.{Verdict}
use Rattle.log_rules.specs.declared.verdict.Verdict.TheVariants.{Unasked, Held, Broken, Again}

-- the rule is held where its test is passed
abbrev pub held_if : Bool → Verdict
held_if is_held = if is_held then Held else Broken

-- broken again, where it was named before why
abbrev pub again_if : Bool → Verdict → Verdict
again_if is_named Broken = if is_named then Again else Broken
again_if is_named verdict = verdict

-- a rule stays broken until it is held
abbrev pub left_broken : Bool → Verdict → Bool
left_broken was_broken Unasked = was_broken
left_broken was_broken Held = false
left_broken was_broken Broken = true
left_broken was_broken Again = true

-- one more, up to the greatest count of 64 bits
abbrev pub one_more : ℕ → ℕ
one_more count = min (count + 1) (2 ^ 64 - 1)

-- the counts with one more verdict
abbrev pub tallied : Verdict → Tally → Tally
tallied Unasked tally = tally
tallied Held tally = record tally { held = one_more tally.held }
tallied Broken tally = record tally { broken = one_more tally.broken }
tallied Again tally = record tally { again = one_more tally.again }
