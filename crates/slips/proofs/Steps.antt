-- The ghost steps of a book and its slips. Assumes `Logic`.
use Rattle.std.proofs.Common.{◌≡◌, ℕ, zero, suc, List, [], ◌∷◌, ◌++◌, length, refl, sym, subst}
use seplogic.Ra.Ura.{Ura}
use base.Logic.{SProp, ent, sep, ex, emp, guard}
use base.Stored.{gnil, Coded}
use base.Fml.{Fml, ftrue, fsep, fex}
use types.Logic.{Logic, sem}
use types.Kit.{‵, raw, ◌⊛◌, given, later, ◌$◌, ◌∵◌, !, qed, by, move, keep, drop, split, join, fsplit, fjoin, fjoin3, fpick, fpack, learn, done, use1, use2, frame, check, show, rewrite, await, updating, now}
use types.Tokens.{name_new}
use denote.Steps.{nothing}
use Rattle.slips.specs.Slips.{AreOf, entry, chain, half, all_out, one_slip, each_slip, book_owns, slips_own}
use Rattle.slips.proofs.Places.{IsAt, put, put_back, out, out_of_all, all_push, one_back, none_of, one_more_of}
use Rattle.slips.proofs.Chain.{puts, Fresh, adds}

module _ {M : Type 1} {𝓤 : Ura M} (𝓛 : Logic 𝓤) {T : Type 0} (c : Coded T) where
  open 𝓛 use {H}

  abbrev ⟦◌⟧ : Fml → SProp 𝓤
  ⟦ P ⟧ = sem 𝓛 P

  abbrev pub book : ℕ → List T → Fml
  book = book_owns c.code

  abbrev pub slips : ℕ → List T → Fml
  slips = slips_own c.code

  abbrev each : ℕ → List T → Fml
  each = each_slip c.code

  pub begins : ent 𝓤 (emp 𝓤) (H.⇛ (ex 𝓤 (λ (γ : ℕ). ⟦ book γ [] ⟧)))
  unfolding book_owns
  begins = qed 𝓛 (‵ ftrue ∷ []) ∵ updating ! $ name_new ! tt gnil (λ γ. fjoin ! $ now ! $ show ! (λ (g : ℕ). ⟦ book g [] ⟧) γ $ keep ! (0 ∷ []) $ done !)

  pub holds_none : (γ : ℕ) → ent 𝓤 (emp 𝓤) ⟦ slips γ [] ⟧
  unfolding slips_own
  holds_none γ = qed 𝓛 (‵ ftrue ∷ []) ∵ done !

  behind : (γ : ℕ) (xs ys : List T) → ent 𝓤 (sep 𝓤 ⟦ each γ xs ⟧ ⟦ each γ ys ⟧) ⟦ each γ (xs ++ ys) ⟧
  behind γ [] ys = qed 𝓛 (‵ ftrue ∷ ‵ (each γ ys) ∷ []) ∵ drop ! $ done !
  behind γ (x ∷ xs) ys = qed 𝓛 (‵ (each γ (x ∷ xs)) ∷ ‵ (each γ ys) ∷ []) ∵ fsplit ! $ move ! (1 ∷ 2 ∷ []) $ use2 𝓛 (‵ (each γ (xs ++ ys))) (behind γ xs ys) $ move ! (1 ∷ 0 ∷ []) $ fjoin ! $ done !

  joins_one : (γ : ℕ) (xs ys : List T) → ent 𝓤 (sep 𝓤 ⟦ slips γ xs ⟧ ⟦ slips γ ys ⟧) (sep 𝓤 ⟦ slips γ (xs ++ ys) ⟧ ⟦ slips γ [] ⟧)
  unfolding slips_own
  joins_one γ xs ys = qed 𝓛 (‵ (each γ xs) ∷ ‵ (each γ ys) ∷ []) ∵ use2 𝓛 (‵ (each γ (xs ++ ys))) (behind γ xs ys) $ frame ! $ nothing ! $ done !

  -- one holder has the slips of both, and the other has none
  pub joins : (γ δ : ℕ) (xs ys : List T) → γ ≡ δ → ent 𝓤 (sep 𝓤 ⟦ slips γ xs ⟧ ⟦ slips δ ys ⟧) (sep 𝓤 ⟦ slips γ (xs ++ ys) ⟧ ⟦ slips δ [] ⟧)
  joins γ δ xs ys same = subst (λ (d : ℕ). ent 𝓤 (sep 𝓤 ⟦ slips γ xs ⟧ ⟦ slips d ys ⟧) (sep 𝓤 ⟦ slips γ (xs ++ ys) ⟧ ⟦ slips d [] ⟧)) same (joins_one γ xs ys)

  gives_one : (γ : ℕ) (xs ys : List T) (z : T) → ent 𝓤 (sep 𝓤 ⟦ book γ xs ⟧ ⟦ slips γ ys ⟧) (H.⇛ (sep 𝓤 ⟦ book γ (xs ++ z ∷ []) ⟧ ⟦ slips γ (ys ++ z ∷ []) ⟧))
  unfolding book_owns slips_own
  gives_one γ xs ys z = let all : List (T × ℕ) = all_out xs in qed 𝓛 (‵ (chain c.code all γ) ∷ ‵ (each γ ys) ∷ []) ∵ updating ! $ name_new ! tt gnil (λ δ. fjoin ! $ name_new ! tt (entry c.code (z, 0)) (λ n. fjoin3 ! $ move ! (1 ∷ 0 ∷ []) $
      use2 𝓛 (later (‵ (chain c.code (all ++ (z, 0) ∷ []) γ) ⊛ ‵ (half c.code (length all) (z, 0) γ))) (adds 𝓛 c all (z, 0) (n, δ) γ) $ await ! tt $ split ! $
      rewrite ! 0 (λ (ws : List (T × ℕ)). ‵ (chain c.code ws γ)) (sym (all_push xs z)) refl $ now ! $ frame ! $
      fpack ! ℕ (λ i. half c.code i (z, 0) γ) (length all) $ nothing ! $ move ! (1 ∷ 0 ∷ []) $ fjoin ! $ move ! (1 ∷ 0 ∷ []) $ by ! (behind γ ys (z ∷ []))))

  -- the book has one item more, and the holder its slip
  pub gives : (γ δ : ℕ) (xs ys : List T) (z : T) → γ ≡ δ → ent 𝓤 (sep 𝓤 ⟦ book γ xs ⟧ ⟦ slips δ ys ⟧) (H.⇛ (sep 𝓤 ⟦ book γ (xs ++ z ∷ []) ⟧ ⟦ slips δ (ys ++ z ∷ []) ⟧))
  gives γ δ xs ys z same = subst (λ (d : ℕ). ent 𝓤 (sep 𝓤 ⟦ book γ xs ⟧ ⟦ slips d ys ⟧) (H.⇛ (sep 𝓤 ⟦ book γ (xs ++ z ∷ []) ⟧ ⟦ slips d (ys ++ z ∷ []) ⟧))) same (gives_one γ xs ys z)

  -- each slip is marked while the others are sought, so that no two of them are at one place
  sought : (γ : ℕ) (xs : List (T × ℕ)) (ys : List T) → ent 𝓤 (sep 𝓤 ⟦ chain c.code xs γ ⟧ ⟦ each γ ys ⟧) (H.⇛ (guard 𝓤 (AreOf ys (out xs)) (sep 𝓤 ⟦ chain c.code xs γ ⟧ ⟦ each γ ys ⟧)))
  sought γ xs [] = qed 𝓛 (‵ (chain c.code xs γ) ∷ ‵ ftrue ∷ []) ∵ updating ! $ now ! $ check ! (none_of (out xs)) $ frame ! $ done !
  sought γ xs (y ∷ ys) = qed 𝓛 (‵ (chain c.code xs γ) ∷ ‵ (each γ (y ∷ ys)) ∷ []) ∵ updating ! $ move ! (1 ∷ []) $ fsplit ! $ fpick ! (λ i.
      let less : List (T × ℕ) = put xs i (y, 1) in move ! (2 ∷ 0 ∷ []) $
      use2 𝓛 (later (given (IsAt xs i (y, 0)) (‵ (chain c.code less γ) ⊛ ‵ (half c.code i (y, 1) γ)))) (puts 𝓛 c xs i (y, 0) (y, 1) γ) $ await ! tt $ learn ! (λ is. split ! $ move ! (0 ∷ 2 ∷ []) $
      use2 𝓛 (later (given (AreOf ys (out less)) (‵ (chain c.code less γ) ⊛ ‵ (each γ ys)))) (sought γ less ys) $ await ! tt $ learn ! (λ are. split ! $ move ! (0 ∷ 2 ∷ []) $
      use2 𝓛 (later (given (IsAt less i (y, 1)) (‵ (chain c.code (put less i (y, 0)) γ) ⊛ ‵ (half c.code i (y, 0) γ)))) (puts 𝓛 c less i (y, 1) (y, 0) γ) $ await ! tt $ learn ! (λ marked. split ! $
      rewrite ! 0 (λ (ws : List (T × ℕ)). ‵ (chain c.code ws γ)) (put_back xs i (y, 0) (y, 1) is) refl $ now ! $ check ! (one_more_of y ys (out xs) (out less) (one_back xs i y is) are) $ frame ! $
      fpack ! ℕ (λ j. half c.code j (y, 0) γ) i $ fjoin ! $ done !))))

  compares_one : (γ : ℕ) (xs ys : List T) → ent 𝓤 (sep 𝓤 ⟦ book γ xs ⟧ ⟦ slips γ ys ⟧) (H.⇛ (guard 𝓤 (AreOf ys xs) (sep 𝓤 ⟦ book γ xs ⟧ ⟦ slips γ ys ⟧)))
  unfolding book_owns slips_own
  compares_one γ xs ys = subst (λ (ws : List T). ent 𝓤 (sep 𝓤 ⟦ book γ xs ⟧ ⟦ slips γ ys ⟧) (H.⇛ (guard 𝓤 (AreOf ys ws) (sep 𝓤 ⟦ book γ xs ⟧ ⟦ slips γ ys ⟧)))) (out_of_all xs) (sought γ (all_out xs) ys)

  -- the slips are of the book's
  pub compares : (γ δ : ℕ) (xs ys : List T) → γ ≡ δ → ent 𝓤 (sep 𝓤 ⟦ book γ xs ⟧ ⟦ slips δ ys ⟧) (H.⇛ (guard 𝓤 (AreOf ys xs) (sep 𝓤 ⟦ book γ xs ⟧ ⟦ slips δ ys ⟧)))
  compares γ δ xs ys same = subst (λ (d : ℕ). ent 𝓤 (sep 𝓤 ⟦ book γ xs ⟧ ⟦ slips d ys ⟧) (H.⇛ (guard 𝓤 (AreOf ys xs) (sep 𝓤 ⟦ book γ xs ⟧ ⟦ slips d ys ⟧)))) same (compares_one γ xs ys)
