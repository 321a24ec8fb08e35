-- A sweep as the line that asks for it.
use Rattle.std.specs.Prelude.{◌≡◌, ◌≢◌, ℕ, ◌<◌, ◌≤◌, List, [], ◌∷◌, ◌++◌, Option, Some, None, IfSome, Ok, length, codes, decimal}
use Rattle.std.specs.List.{All, AllPairs, slice_get}
use Rattle.fix_tags.specs.Price.{price_short}
use Rattle.leg.specs.Side.{side_text}
use Rattle.leg.specs.Sweep.{IsRouted}
use Rattle.leg.specs.Symbol.{symbol_text}
use Rattle.leg.specs.Terms.{TermsParts}
use Rattle.leg.specs.declared.sweep.Routed.{Routed}
use Rattle.desk_words.specs.VenueName.{IsVenueName}
use Rattle.sweep_refs.specs.Ref.{IsRef}
use Rattle.sweep_text.specs.Line.{line_says, sweep_of}

-- a name, and `?` where there is none
abbrev pub name_text : Option (List ℕ) → List ℕ
name_text None = codes "?"
name_text (Some name) = name

-- what a venue is called, by its place
abbrev pub name_of : List (List ℕ) → ℕ → List ℕ
name_of names venue = name_text (slice_get names venue)

-- terms with the price in dollars, as `BRK.B buy 100 10.25`
abbrev pub terms_text : TermsParts → List ℕ
terms_text terms =
    symbol_text terms.symbol ++ codes " " ++ side_text terms.side ++ codes " " ++ decimal terms.shares ++ codes " "
    ++ price_short terms.price

-- a leg, as `NYSE BRK.B buy 100 10.25`
abbrev pub leg_text : List (List ℕ) → Routed → List ℕ
leg_text names leg = name_of names leg.venue ++ codes " " ++ terms_text leg.terms

-- legs, each behind a mark: this one before the first, and ` + ` before each other
abbrev pub legs_text : List ℕ → List (List ℕ) → List Routed → List ℕ
legs_text mark names [] = []
legs_text mark names (leg ∷ legs) = mark ++ leg_text names leg ++ legs_text (codes " + ") names legs

-- a reference, where there is one, as ` ref=P7-3`
abbrev pub ref_text : Option (List ℕ) → List ℕ
ref_text None = []
ref_text (Some reference) = codes " ref=" ++ reference

-- the line, as `sweep ref=P7-3 NYSE BRK.B buy 100 10.25 + ARCA IBM sell 50 100`
abbrev pub sweep_line : List (List ℕ) → Option (List ℕ) → List Routed → List ℕ
sweep_line names reference legs = codes "sweep" ++ ref_text reference ++ legs_text (codes " ") names legs

-- each is a name, and no two venues have the same
pub record AreNames (names : List (List ℕ)) : Type 0 where
  pub each : All IsVenueName names
  pub apart : AllPairs (λ one other. one ≢ other) names

-- an order in range, for a venue that has a name
pub record IsNamed (names : List (List ℕ)) (leg : Routed) : Type 0 where
  pub in_range : IsRouted leg
  pub venue : leg.venue < length names

-- where a sweep has a reference, it is one
abbrev pub IsUnder : Option (List ℕ) → Type 0
IsUnder reference = IfSome reference IsRef

-- a written line asks for the very legs that it was written of, of which there may be a thousand, under their reference
abbrev pub ReadsBack : List (List ℕ) → Option (List ℕ) → List Routed → Type 0
ReadsBack names reference legs =
    AreNames names → IsUnder reference → All (IsNamed names) legs → length legs ≤ 1_000
    → line_says names (sweep_line names reference legs) ≡ Ok (sweep_of reference legs)
