-- A leg, which is one order of a sweep.
use Rattle.std.specs.Prelude.{List, ℕ, ◌++◌, codes, decimal}
use Rattle.leg.specs.declared.leg.Leg.{Leg}
use Rattle.leg.specs.LegId.{IsLegId, leg_id_text}
use Rattle.leg.specs.Side.{side_text}
use Rattle.leg.specs.Symbol.{symbol_text}
use Rattle.leg.specs.Terms.{IsTerms, TermsParts}

-- each part of a leg is in range
pub record IsLeg (leg : Leg) : Type 0 where
  pub id : IsLegId leg.id
  pub terms : IsTerms leg.terms

-- terms as they are printed, as `BRK.B buy 100 102500`
abbrev pub terms_text : TermsParts → List ℕ
terms_text terms =
    symbol_text terms.symbol
    ++ codes " "
    ++ side_text terms.side
    ++ codes " "
    ++ decimal terms.shares
    ++ codes " "
    ++ decimal terms.price

-- a leg as it is printed, as `S12L3 BRK.B buy 100 102500`
abbrev pub leg_text : Leg → List ℕ
leg_text leg = leg_id_text leg.id ++ codes " " ++ terms_text leg.terms
