-- The terms of a leg stand in the line of its sweep behind `sweep V `, and are read there.
use Rattle.std.proofs.Common.{◌≡◌, ◌≢◌, ℕ, ◌<◌, ◌≤◌, List, [], ◌∷◌, ◌++◌, length, drop, codes, get_or, refl, sym, ap, ◌∙◌, subst, arith, append_assoc, length-append}
use Rattle.std.specs.Prelude.{None, Ok}
use Rattle.std.specs.List.{All, AllPairs}
use Rattle.std.proofs.lemmas.List.{append-nil}
use Rattle.leg.specs.Terms.{TermsParts, IsTerms}
use Rattle.leg.specs.declared.sweep.Routed.{Routed}
use Rattle.desk_words.specs.VenueName.{IsVenueName, IsNameByte}
use Rattle.sweep_text.specs.Line.{line_says, sweep_of}
use Rattle.sweep_text.specs.Written.{AreNames, IsNamed, sweep_line, terms_text}
use Rattle.sweep_text.proofs.SweepBack.{sweep_back}
use Rattle.journal_words.specs.Reading.{terms_asked, terms_in}
use Rattle.journal_words.specs.declared.fault.WordsFault.TheVariants as fault
use Rattle.std.specs.Prelude.{ok_or}

-- a leg of these terms, at the only venue
abbrev pub at_one : TermsParts → Routed
at_one terms = record { venue = 0; terms = terms }

pub sweep_of_one : (terms : TermsParts)
    → drop 8 (sweep_line (codes "V" ∷ []) None (at_one terms ∷ [])) ≡ terms_text terms
sweep_of_one terms = append-nil (terms_text terms)

pub long_enough : (terms : TermsParts) → 8 ≤ length (sweep_line (codes "V" ∷ []) None (at_one terms ∷ []))
long_enough terms = omega arith

-- what holds of the only one
only : {X : Type 0} (P : X → Type 0) (x : X) → P x → All P (x ∷ [])
only P x holds k d within =
    let first : k ≡ 0 = omega arith in subst (λ (j : ℕ). P (get_or (x ∷ []) j d)) (sym first) holds

name_byte : IsNameByte 86
name_byte = record { allowed = refl; from = omega arith; to = omega arith }

a_name : IsVenueName (codes "V")
a_name = record { some = omega arith; short = omega arith; bytes = only IsNameByte 86 name_byte }

one_name : AreNames (codes "V" ∷ [])
one_name = record { each = only IsVenueName (codes "V") a_name; apart = λ i j d before within. absurd (omega arith) }

named : (terms : TermsParts) → IsTerms terms → IsNamed (codes "V" ∷ []) (at_one terms)
named terms is = record { in_range = record { venue = omega arith; terms = is }; venue = omega arith }

as_sweep : (terms : TermsParts) → sweep_line (codes "V" ∷ []) None (at_one terms ∷ []) ≡ codes "sweep V " ++ terms_text terms
as_sweep terms = ap (λ (l : List ℕ). codes "sweep V " ++ l) (append-nil (terms_text terms))

asked : (terms : TermsParts) → IsTerms terms
    → line_says (codes "V" ∷ []) (codes "sweep V " ++ terms_text terms) ≡ Ok (sweep_of None (at_one terms ∷ []))
asked terms is =
    ap (line_says (codes "V" ∷ [])) (sym (as_sweep terms))
    ∙ sweep_back (codes "V" ∷ []) None (at_one terms ∷ []) one_name tt (only (IsNamed (codes "V" ∷ [])) (at_one terms) (named terms is))
    (omega arith)

pub terms_back : (terms : TermsParts) → IsTerms terms → terms_in (terms_text terms) ≡ Ok terms
terms_back terms is = ap (λ r. ok_or (terms_asked r) fault.Leg) (asked terms is)
