-- A slip is found along the chain, read and marked, and one is added at the chain's end. Assumes `Logic`.
use Rattle.std.proofs.Common.{◌≡◌, ℕ, zero, suc, List, [], ◌∷◌, ◌++◌, length, refl, sym, subst}
use seplogic.Ra.Ura.{Ura}
use base.Logic.{SProp, ent, sep, guard}
use base.Stored.{Gv, gnil, gnum, gcons, Coded, coded×, coded_ℕ}
use base.Fml.{Fml, fsep, fex, fobs, fauth, fres}
use types.Logic.{Logic, sem}
use types.Kit.{‵, raw, ◌⊛◌, given, later, ◌$◌, ◌∵◌, !, qed, by, move, keep, split, fsplit, fsplit3, fjoin, fjoin3, fpick, fpack, learn, done, use1, use2, frame, check, rewrite, await, updating, now}
use types.Tokens.{name_set, res_dup}
use Rattle.slips.specs.Slips.{link, entry, cell, chain, past, half}
use Rattle.slips.proofs.Places.{IsAt, put}

link_inj : (x y : ℕ × ℕ) → link x ≡ link y → x ≡ y
unfolding link
link_inj = (coded× coded_ℕ coded_ℕ).inj

abbrev IsCell : Gv → Type 0
IsCell gnil = ⊥
IsCell (gnum n) = ⊥
IsCell (gcons a b) = Unit {0}

link_not_nil : (x : ℕ × ℕ) → link x ≡ gnil → ⊥
unfolding link
link_not_nil x e = subst IsCell e tt

module _ {M : Type 1} {𝓤 : Ura M} (𝓛 : Logic 𝓤) {T : Type 0} (c : Coded T) where
  open 𝓛 use {H, A}

  abbrev ⟦◌⟧ : Fml → SProp 𝓤
  ⟦ P ⟧ = sem 𝓛 P

  abbrev ◌∗◌ : SProp 𝓤 → SProp 𝓤 → SProp 𝓤
  P ∗ Q = sep 𝓤 P Q

  abbrev ◌⊢◌ : SProp 𝓤 → SProp 𝓤 → Type 1
  P ⊢ Q = ent 𝓤 P Q

  infix 26 ◌⊢◌
  infixr 35 ◌∗◌
  abbrev says : T × ℕ → Gv
  says = entry c.code

  entry_inj : (x y : T × ℕ) → says x ≡ says y → x ≡ y
  unfolding entry
  entry_inj = (coded× c coded_ℕ).inj

  abbrev from : List (T × ℕ) → ℕ → Fml
  from = chain c.code

  abbrev at : ℕ → T × ℕ → ℕ → Fml
  at = half c.code

  -- nothing is known past the last cell
  past_end : (γ : ℕ) (F : ℕ × ℕ → Fml) (Z : SProp 𝓤) → ⟦ from [] γ ⟧ ∗ ⟦ fex (ℕ × ℕ) (past c.code γ F) ⟧ ⊢ Z
  past_end γ F Z = qed 𝓛 (‵ (from [] γ) ∷ ‵ (fex (ℕ × ℕ) (past c.code γ F)) ∷ []) ∵ fsplit ! $ move ! (2 ∷ []) $ fpick ! (λ d. fsplit ! $ move ! (0 ∷ 3 ∷ []) $
      use2 𝓛 (given (link d ≡ gnil) (‵ (fres γ (link d)) ⊛ ‵ (fauth γ gnil))) (𝓛.names.res_agree γ (link d) gnil) $ learn ! (λ e. absurd (link_not_nil d e)))

  -- what is known past a cell is known of what the cell names
  past_cell : (γ : ℕ) (x : T × ℕ) (rest : ℕ → Fml) (F : ℕ × ℕ → Fml) (Z : SProp 𝓤)
      → ((d : ℕ × ℕ) → A.auth γ (link d) ∗ A.res γ (link d) ∗ A.auth d.0 (says x) ∗ ⟦ rest d.1 ⟧ ∗ A.res γ (link d) ∗ ⟦ F d ⟧ ⊢ Z)
      → ⟦ fex (ℕ × ℕ) (cell c.code γ x rest) ⟧ ∗ ⟦ fex (ℕ × ℕ) (past c.code γ F) ⟧ ⊢ Z
  past_cell γ x rest F Z k = qed 𝓛 (‵ (fex (ℕ × ℕ) (cell c.code γ x rest)) ∷ ‵ (fex (ℕ × ℕ) (past c.code γ F)) ∷ []) ∵ fpick ! (λ d. fsplit3 ! $ move ! (2 ∷ []) $ fsplit ! $ move ! (4 ∷ []) $ fpick ! (λ e. fsplit ! $ move ! (0 ∷ 4 ∷ []) $
      use2 𝓛 (given (link e ≡ link d) (‵ (fres γ (link e)) ⊛ ‵ (fauth γ (link d)))) (𝓛.names.res_agree γ (link e) (link d)) $ learn ! (λ same. split ! $
      rewrite ! 0 (λ (u : ℕ × ℕ). ‵ (fres γ (link u))) (link_inj e d same) refl $ rewrite ! 2 (λ (u : ℕ × ℕ). ‵ (F u)) (link_inj e d same) refl $ move ! (1 ∷ 5 ∷ 3 ∷ 4 ∷ 0 ∷ 2 ∷ []) $ by ! (k d))))

  abbrev Put : List (T × ℕ) → ℕ → T × ℕ → T × ℕ → ℕ → SProp 𝓤
  Put xs i x y γ = guard 𝓤 (IsAt xs i x) (⟦ from (put xs i y) γ ⟧ ∗ ⟦ at i y γ ⟧)

  -- the holder's slip is in the chain, and both halves go to y
  pub puts : (xs : List (T × ℕ)) (i : ℕ) (x y : T × ℕ) (γ : ℕ) → ⟦ from xs γ ⟧ ∗ ⟦ at i x γ ⟧ ⊢ H.⇛ (Put xs i x y γ)
  puts [] zero x y γ = past_end γ (λ d. fobs d.0 (says x)) _
  puts [] (suc i) x y γ = past_end γ (λ d. at i x d.1) _
  puts (z ∷ xs) zero x y γ = past_cell γ z (from xs) (λ d. fobs d.0 (says x)) (H.⇛ (Put (z ∷ xs) zero x y γ)) (λ d.
      qed 𝓛 (‵ (fauth γ (link d)) ∷ ‵ (fres γ (link d)) ∷ ‵ (fauth d.0 (says z)) ∷ ‵ (from xs d.1) ∷ ‵ (fres γ (link d)) ∷ ‵ (fobs d.0 (says x)) ∷ []) ∵ updating ! $ move ! (5 ∷ 2 ∷ []) $
      use2 𝓛 (given (says x ≡ says z) (‵ (fobs d.0 (says x)) ⊛ ‵ (fauth d.0 (says z)))) (𝓛.names.name_agree d.0 (says x) (says z)) $ learn ! (λ e. split ! $
      name_set ! tt (says y) $ now ! $ check ! (sym (entry_inj x z e)) $ move ! (1 ∷ 4 ∷ []) $ fjoin ! $ move ! (2 ∷ 3 ∷ 0 ∷ []) $ fjoin3 ! $ fpack ! (ℕ × ℕ) (cell c.code γ y (from xs)) d $ frame ! $
      move ! (1 ∷ 0 ∷ []) $ fjoin ! $ fpack ! (ℕ × ℕ) (past c.code γ (λ e. fobs e.0 (says y))) d $ done !))
  puts (z ∷ xs) (suc i) x y γ = past_cell γ z (from xs) (λ d. at i x d.1) (H.⇛ (Put (z ∷ xs) (suc i) x y γ)) (λ d.
      qed 𝓛 (‵ (fauth γ (link d)) ∷ ‵ (fres γ (link d)) ∷ ‵ (fauth d.0 (says z)) ∷ ‵ (from xs d.1) ∷ ‵ (fres γ (link d)) ∷ ‵ (at i x d.1) ∷ []) ∵ updating ! $ move ! (3 ∷ 5 ∷ []) $
      use2 𝓛 (later (given (IsAt xs i x) (‵ (from (put xs i y) d.1) ⊛ ‵ (at i y d.1)))) (puts xs i x y d.1) $ await ! tt $ learn ! (λ is. split ! $
      now ! $ check ! is $ move ! (4 ∷ 0 ∷ []) $ fjoin ! $ move ! (2 ∷ 3 ∷ 0 ∷ []) $ fjoin3 ! $ fpack ! (ℕ × ℕ) (cell c.code γ z (from (put xs i y))) d $ frame ! $
      move ! (1 ∷ 0 ∷ []) $ fjoin ! $ fpack ! (ℕ × ℕ) (past c.code γ (λ e. at i y e.1)) d $ done !))

  -- a new slip, and a new last cell
  abbrev pub Fresh : T × ℕ → ℕ × ℕ → Fml
  Fresh y d = fsep (fobs d.0 (says y)) (fsep (fauth d.0 (says y)) (from [] d.1))

  -- the last cell names the new slip and the new cell
  pub adds : (xs : List (T × ℕ)) (y : T × ℕ) (d : ℕ × ℕ) (γ : ℕ) → ⟦ from xs γ ⟧ ∗ ⟦ Fresh y d ⟧ ⊢ H.⇛ (⟦ from (xs ++ y ∷ []) γ ⟧ ∗ ⟦ at (length xs) y γ ⟧)
  adds [] y d γ =
      qed 𝓛 (‵ (from [] γ) ∷ ‵ (Fresh y d) ∷ []) ∵ updating ! $ fsplit ! $ name_set ! tt (link d) $
      use1 𝓛 (‵ (fres γ (link d))) (𝓛.names.obs-res γ (link d)) $ res_dup ! $ move ! (3 ∷ []) $ fsplit ! $ now ! $
      move ! (4 ∷ 2 ∷ 1 ∷ []) $ fjoin3 ! $ fpack ! (ℕ × ℕ) (cell c.code γ y (from [])) d $ frame ! $ move ! (1 ∷ 0 ∷ []) $ fjoin ! $ fpack ! (ℕ × ℕ) (past c.code γ (λ e. fobs e.0 (says y))) d $ done !
  adds (z ∷ xs) y d γ =
      qed 𝓛 (‵ (from (z ∷ xs) γ) ∷ ‵ (Fresh y d) ∷ []) ∵ updating ! $ fpick ! (λ e. fsplit3 ! $ move ! (2 ∷ []) $ fsplit ! $ move ! (1 ∷ 4 ∷ []) $
      use2 𝓛 (later (‵ (from (xs ++ y ∷ []) e.1) ⊛ ‵ (at (length xs) y e.1))) (adds xs y d e.1) $ await ! tt $ split ! $ now ! $
      move ! (4 ∷ []) $ res_dup ! $ move ! (4 ∷ 2 ∷ []) $ fjoin ! $ move ! (4 ∷ 1 ∷ 0 ∷ []) $ fjoin3 ! $ fpack ! (ℕ × ℕ) (cell c.code γ z (from (xs ++ y ∷ []))) e $ frame ! $
      fjoin ! $ fpack ! (ℕ × ℕ) (past c.code γ (λ f. at (length xs) y f.1)) e $ done !)
