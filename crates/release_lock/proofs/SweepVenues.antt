-- The venues of a sweep are marked leg by leg, and pumped one after the other.
use Rattle.std.proofs.Common.{◌≡◌, ℕ, ◌+◌, ◌<◌, Bool, true, false, ◌||◌, List, [], length, take, set, replicate, get_or, slice_get, Some, refl, ap, sym, ◌∙◌, subst, arith, add-one}
use Rattle.std.specs.Prelude.{◌==◌}
use Rattle.std.proofs.lemmas.Bool.{eqb-true, eqb-false}
use Rattle.std.proofs.lemmas.List.{get_or-replicate, get_or-set_other, length-set, length-replicate}
use Rattle.std.proofs.lemmas.List.Folds.{list_any_more}
use Rattle.std.proofs.lemmas.Grind.{get_or-set_at}
use Rattle.std.proofs.lemmas.Option.{slice_get-get_or}
use Rattle.leg.specs.declared.sweep.Routed.{Routed}
use Rattle.sweep_release.specs.History.{KeptDesk}
use Rattle.release_lock.specs.Queues.{is_for, AreMarks, PumpsIf, PumpsEach}

-- before the first leg none is marked
pub none_marked : AreMarks (replicate 16 false) (λ venue. is_for venue [])
none_marked venue within =
    slice_get-get_or (replicate 16 false) venue false (let n = length-replicate 16 false in omega (arith, n, within))
    ∙ ap (λ b. Some b) (get_or-replicate 16 venue false false within)

or_true : (b : Bool) → (b || true) ≡ true
or_true true = refl
or_true false = refl

or_false : (b : Bool) → (b || false) ≡ b
or_false true = refl
or_false false = refl

-- one mark more
marked : (marks : List Bool) (at venue : ℕ) (was now : Bool) → (at == venue) ≡ now → at < length marks
    → venue < length marks → slice_get marks venue ≡ Some was → slice_get (set marks at true) venue ≡ Some (was || now)
marked marks at venue was true e there within is =
    let same : at ≡ venue = eqb-true at venue e in
    let many = length-set marks at true in
    slice_get-get_or (set marks at true) venue false (omega (arith, many, within))
    ∙ ap (λ b. Some b) (get_or-set_at marks at venue true false (sym same) there ∙ sym (or_true was))
marked marks at venue was false e there within is =
    let many = length-set marks at true in
    slice_get-get_or (set marks at true) venue false (omega (arith, many, within))
    ∙ (ap (λ b. Some b) (get_or-set_other marks at venue true false (λ h. eqb-false at venue e (sym h)))
    ∙ (sym (slice_get-get_or marks venue false within) ∙ (is ∙ ap (λ b. Some b) (sym (or_false was)))))

-- the venue of one leg more is marked
pub marks_more : (marks : List Bool) (legs : List Routed) (i : ℕ) (routed : Routed) → length marks ≡ 16
    → routed.venue < 16 → i < length legs → get_or legs i routed ≡ routed
    → AreMarks marks (λ venue. is_for venue (take i legs))
    → AreMarks (set marks routed.venue true) (λ venue. is_for venue (take (i + 1) legs))
marks_more marks legs i routed many there within here so_far venue low =
    let before = is_for venue (take i legs) in
    marked marks routed.venue venue before (routed.venue == venue) refl (omega (arith, many, there))
    (omega (arith, many, low)) (so_far venue low)
    ∙ ap (λ b. Some b)
    (ap (λ (r : Routed). before || (r.venue == venue)) (sym here)
    ∙ sym (list_any_more (λ (r : Routed). r.venue == venue) legs i routed within))

-- the next venue is pumped, if it is marked
pub pumps_next : (named : ℕ → Bool) (venue : ℕ) (here : Bool) (before between after : KeptDesk)
    → Some (named venue) ≡ Some here → PumpsEach named venue before between → PumpsIf here venue between after
    → PumpsEach named (venue + 1) before after
pumps_next named venue here before between after is so_far step =
    let same : named venue ≡ here = cc in
    subst (λ n. PumpsEach named n before after) (sym (add-one venue))
    (between, so_far, subst (λ b. PumpsIf b venue between after) (sym same) step)
