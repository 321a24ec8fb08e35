-- Texts on a tape of zeros, and what a crash leaves of them, at any moment.
use Rattle.std.specs.Prelude.{◌≡◌, ◌⊎◌, ◌≤◌, ℕ, zero, suc, ◌+◌, ◌-◌, ◌==◌, Bool, true, not, ◌&&◌, List, [], ◌∷◌, ◌++◌, length, take, drop, if◌then◌else◌}

-- the bytes before the first zero
abbrev pub text : List ℕ → List ℕ
text [] = []
text (x ∷ xs) = if x == 0 then [] else x ∷ text xs

-- so many zeros
abbrev pub zeros : ℕ → List ℕ
zeros zero = []
zeros (suc n) = 0 ∷ zeros n

abbrev pub has_no_nul : List ℕ → Bool
has_no_nul [] = true
has_no_nul (x ∷ xs) = not (x == 0) && has_no_nul xs

-- each byte is the old one or the one that is written, and what is behind them is as it was
abbrev pub Mixes : List ℕ → List ℕ → List ℕ → Type 0
Mixes [] old new = new ≡ old
Mixes (b ∷ bs) (o ∷ os) (n ∷ ns) = ((n ≡ o) ⊎ (n ≡ b)) × Mixes bs os ns
Mixes (b ∷ bs) old new = ⊥

-- the same behind the first bytes, which are as they were
abbrev pub MixesAt : ℕ → List ℕ → List ℕ → List ℕ → Type 0
MixesAt at bytes old new = (take at new ≡ take at old) × Mixes bytes (drop at old) (drop at new)

-- each new outcome of a crash is an old one, or an old one after a step
abbrev pub Follows : (List ℕ → List ℕ → Type 0) → (List ℕ → Type 0) → (List ℕ → Type 0) → Type 0
Follows step old new = (c : List ℕ) → new c → old c ⊎ ((d : List ℕ) × old d × step d c)

-- a crash leaves this and nothing else
abbrev pub Only : List ℕ → (List ℕ → Type 0) → Type 0
Only file outcomes = (c : List ℕ) → outcomes c → c ≡ file

-- time goes on: a crash since t might have left what it might have left before, or what it may leave now
pub record Elapses (before now : ℕ) (past since : ℕ → List ℕ → Type 0) (may_leave : List ℕ → Type 0) : Type 0 where
  pub later : before ≤ now
  pub nothing_else : (t : ℕ) (c : List ℕ) → t ≤ before → since t c → past t c ⊎ may_leave c
  pub keeps : (t : ℕ) (c : List ℕ) → t ≤ before → past t c → since t c

-- a crash at any moment since old leaves what has P
pub record LeavesOnly {D : Type 0} (moment : D → ℕ) (left_since : D → ℕ → List ℕ → Type 0) (old new : D)
    (P : List ℕ → Type 0) : Type 0 where
  pub later : moment old ≤ moment new
  pub each : (c : List ℕ) → left_since new (moment old) c → P c
  -- for a run that began earlier
  pub before : (t : ℕ) (c : List ℕ) → t ≤ moment old → left_since new t c → left_since old t c ⊎ P c

-- the old text, and a beginning of the new one behind it
abbrev pub IsBetween : List ℕ → List ℕ → List ℕ → Type 0
IsBetween old more found = found ≡ old ++ take (length found - length old) more

-- a tape of this length is a text that ends there, and zeros, all of it on the disk
pub record IsSettled (seen : List ℕ) (may_leave : List ℕ → Type 0) (end room : ℕ) : Type 0 where
  pub file : seen ≡ text seen ++ zeros (room - end)
  pub clean : has_no_nul (text seen) ≡ true
  pub ends : end ≡ length (text seen)
  pub within : end ≤ room
  pub durable : Only seen may_leave
