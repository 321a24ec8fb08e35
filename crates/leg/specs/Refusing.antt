-- Refusals that are tried in order.
use Rattle.std.specs.Prelude.{Bool, Option, Some, None, if◌then◌else◌}

-- a refusal, or else the next one that is tried
infixr 5 ◌or_then◌
abbrev pub ◌or_then◌ : {F : Type 0} → Option F → Option F → Option F
(Some fault) or_then next = Some fault
None or_then next = next

-- this refusal, where the test holds
abbrev pub refused_if : {F : Type 0} → Bool → F → Option F
refused_if test fault = if test then Some fault else None
