-- Two facts in a row, as the `ensures` of a function.
use seplogic.Ra.Ura.{Ura}
use base.Logic.{ent, sep, emp, via, emp∗, mono∗}
use contract.Monad.{fact, fact_i}

module _ {M : Type 1} (𝓤 : Ura M) where
  pub tells_two : (φ ψ : Type 0) → φ → ψ → ent 𝓤 (emp 𝓤) (sep 𝓤 (fact 𝓤 φ) (fact 𝓤 ψ))
  tells_two φ ψ x y = via 𝓤 (sep 𝓤 (emp 𝓤) (emp 𝓤)) (emp∗ 𝓤 (emp 𝓤)) (mono∗ 𝓤 (fact_i 𝓤 φ (emp 𝓤) x) (fact_i 𝓤 ψ (emp 𝓤) y))
