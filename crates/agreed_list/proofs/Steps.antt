-- The ghost steps of a list: both halves of its ghost variable are made, and both are set. Assumes `Logic`.
use Rattle.std.proofs.Common.{◌≡◌, ℕ, List, [], ◌∷◌, sym, subst}
use seplogic.Ra.Ura.{Ura}
use base.Logic.{SProp, ent, sep, ex, emp, guard}
use base.Stored.{Coded, code_l, coded_list}
use base.Fml.{Fml, ftrue, fsep}
use types.Logic.{Logic, sem}
use types.Kit.{‵, ◌$◌, ◌∵◌, !, qed, move, keep, done, check, show, updating, now}
use types.Tokens.{name_new, name_agree, name_set}
use Rattle.agreed_list.specs.Sides.{book_owns, seat_owns}

module _ {M : Type 1} {𝓤 : Ura M} (𝓛 : Logic 𝓤) {T : Type 0} (c : Coded T) where
  open 𝓛 use {H}

  abbrev ⟦◌⟧ : Fml → SProp 𝓤
  ⟦ P ⟧ = sem 𝓛 P

  abbrev pub book : ℕ → List T → Fml
  book = book_owns c.code

  abbrev pub seat : ℕ → List T → Fml
  seat = seat_owns c.code

  pub begins : ent 𝓤 (emp 𝓤) (H.⇛ (ex 𝓤 (λ (γ : ℕ). ⟦ fsep (book γ []) (seat γ []) ⟧)))
  unfolding book_owns seat_owns
  begins = qed 𝓛 (‵ ftrue ∷ []) ∵ updating ! $ name_new ! tt (code_l c.code []) (λ γ. now ! $ show ! (λ (g : ℕ). ⟦ fsep (book g []) (seat g []) ⟧) γ $ keep ! (1 ∷ 0 ∷ []) $ done !)

  sets_one : (γ : ℕ) (xs ys zs : List T) → ent 𝓤 (sep 𝓤 ⟦ book γ xs ⟧ ⟦ seat γ ys ⟧) (H.⇛ (guard 𝓤 (xs ≡ ys) (sep 𝓤 ⟦ book γ zs ⟧ ⟦ seat γ zs ⟧)))
  unfolding book_owns seat_owns
  sets_one γ xs ys zs = qed 𝓛 (‵ (book γ xs) ∷ ‵ (seat γ ys) ∷ []) ∵ updating ! $ move ! (1 ∷ []) $ name_agree ! (coded_list c) (λ e.
      name_set ! tt (code_l c.code zs) $ now ! $ check ! (sym e) $ move ! (1 ∷ 0 ∷ []) $ done !)

  -- both sides of one list agree, and both become zs
  pub sets_both : (γ δ : ℕ) (xs ys zs : List T) → γ ≡ δ → ent 𝓤 (sep 𝓤 ⟦ book γ xs ⟧ ⟦ seat δ ys ⟧) (H.⇛ (guard 𝓤 (xs ≡ ys) (sep 𝓤 ⟦ book γ zs ⟧ ⟦ seat δ zs ⟧)))
  sets_both γ δ xs ys zs same = subst (λ (d : ℕ). ent 𝓤 (sep 𝓤 ⟦ book γ xs ⟧ ⟦ seat d ys ⟧) (H.⇛ (guard 𝓤 (xs ≡ ys) (sep 𝓤 ⟦ book γ zs ⟧ ⟦ seat d zs ⟧)))) same (sets_one γ xs ys zs)
