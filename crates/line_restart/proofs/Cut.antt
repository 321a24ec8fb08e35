-- A line of which only the first legs are released: what happened on a line happens on it too, if no other leg had left
-- the desk.
use Rattle.std.proofs.Common.{◌≡◌, ◌≤◌, ◌<◌, ◌+◌, ◌-◌, ℕ, zero, suc, List, [], ◌∷◌, ◌++◌, length, take, Some, refl, sym, ap, subst, ◌∙◌, inl, inr, arith}
use Rattle.std.specs.Prelude.{slice_get}
use Rattle.std.proofs.lemmas.Bool.{cases_lt}
use Rattle.std.proofs.lemmas.List.{take-append-le}
use Rattle.std.proofs.Math.Seq.{take-append_seam, take-append-add, take-nil}
use Rattle.fix_tags.specs.Config.{ConfigParts}
use Rattle.leg.specs.Numbered.{numbered}
use Rattle.leg.specs.declared.leg.Leg.{Leg}
use Rattle.session_core.specs.Receiving.{receive, confirm}
use Rattle.session_core.specs.Calling.{broken, abandon}
use Rattle.venue_line.specs.Line.{Line, new_line, LineStep, AreSteps}
use Rattle.venue_line.specs.Line as line
use Rattle.venue_line.specs.Leading.{last_line}
use Rattle.venue_line.proofs.Leading.{leads-refl, leads-trans, leads_by, past_last}
use Rattle.line_restart.specs.RestartTheorem.{IsReached}

module _ (config : ConfigParts) where
  pub reached_new : IsReached config (new_line config)
  reached_new = leads-refl (new_line config)

  pub reached_step : (a b : Line) → LineStep a b → IsReached config a → IsReached config b
  reached_step a b step r = leads-trans (new_line config) a b r (leads_by a b step)

-- the first legs of a list
slice_get-take : {A : Type 0} (n k : ℕ) (xs : List A) → k < n → slice_get (take n xs) k ≡ slice_get xs k
slice_get-take zero k xs low = absurd (omega arith)
slice_get-take (suc n) k [] low = refl
slice_get-take (suc n) zero (x ∷ xs) low = refl
slice_get-take (suc n) (suc k) (x ∷ xs) low = slice_get-take n k xs (omega arith)

pub numbered-take : {A : Type 0} (n number : ℕ) (xs : List A) → number ≤ n → numbered number (take n xs) ≡ numbered number xs
numbered-take n zero xs low = refl
numbered-take n (suc k) xs low = slice_get-take n k xs (omega arith)

-- a leg among those that are kept
pub kept_leg : (legs kept forgotten : List Leg) → legs ≡ kept ++ forgotten → (ordinal : ℕ) (leg : Leg)
    → ordinal ≤ length kept → numbered ordinal legs ≡ Some leg
    → numbered ordinal kept ≡ Some leg
kept_leg legs kept forgotten is ordinal leg low there =
    sym (ap (numbered ordinal) (ap (take (length kept)) is ∙ take-append_seam kept forgotten))
    ∙ (numbered-take (length kept) ordinal legs low ∙ there)

within_take : {A : Type 0} (n k : ℕ) (xs : List A) → k ≤ n → k ≤ length xs → k ≤ length (take n xs)
within_take n zero xs low within = omega arith
within_take zero (suc k) xs low within = absurd (omega arith)
within_take (suc n) (suc k) [] low within = absurd (omega arith)
within_take (suc n) (suc k) (x ∷ xs) low within = (let h = within_take n k xs (omega arith) (omega arith) in omega arith)

-- what is behind a list is cut, or the list itself is
pub data TakesMore {A : Type 0} (n : ℕ) (xs more : List A) : Type 0 where
  same : take n (xs ++ more) ≡ take n xs → TakesMore n xs more
  some : (k : ℕ) → take n (xs ++ more) ≡ take n xs ++ take k more → TakesMore n xs more

all_taken : {A : Type 0} (n : ℕ) (xs : List A) → length xs ≤ n → take n xs ≡ xs
all_taken n [] low = take-nil n
all_taken zero (x ∷ xs) low = absurd (omega arith)
all_taken (suc n) (x ∷ xs) low = ap (λ l. x ∷ l) (all_taken n xs (omega arith))

pub takes_more : {A : Type 0} (n : ℕ) (xs more : List A) → TakesMore n xs more
takes_more n xs more =
    elim (cases_lt n (length xs)) [
      | inl low ↦ same (take-append-le n xs more (omega arith))
      | inr high ↦
          (let sum : n ≡ length xs + (n - length xs) = omega arith in
          some (n - length xs)
          (ap (λ m. take m (xs ++ more)) sum
          ∙ (take-append-add xs more (n - length xs)
          ∙ ap (λ l. l ++ take (n - length xs) more) (sym (all_taken n xs high)))))
    ]

-- the line with these legs alone
abbrev pub cut : ℕ → Line → Line
cut n a = record a { released = take n a.released }

module _ (config : ConfigParts) (n : ℕ) where
  abbrev Cut : Line → Type 0
  Cut w = IsReached config (cut n w)

  cut_releases : (a : Line) (more : List Leg) → TakesMore n a.released more → Cut a
      → Cut (record a { released = a.released ++ more })
  cut_releases a more (same is) r = subst (λ l. IsReached config (record a { released = l })) (sym is) r
  cut_releases a more (some k is) r =
      reached_step config (cut n a) (cut n (record a { released = a.released ++ more }))
      (line.releases (take k more) (ap (λ l. record a { released = l }) is)) r

  cut_step : (a b : Line) → LineStep a b → b.left ≤ n → Cut a → Cut b
  cut_step a b (line.releases more is) low r =
      subst Cut (sym is) (cut_releases a more (takes_more n a.released more) r)
  cut_step a b (line.drops below is) low r =
      let left = ap (λ (w : Line). w.left) is in
      subst Cut (sym is)
      (reached_step config (cut n a) (cut n (record a { left = suc a.left }))
      (line.drops (within_take n (suc a.left) a.released (omega arith) below) refl) r)
  cut_step a b (line.sends leg message session there sent is) low r =
      let left = ap (λ (w : Line). w.left) is in
      subst Cut (sym is)
      (reached_step config (cut n a) (cut n (record (line.after_message a message session) { left = suc a.left }))
      (line.sends leg message session (numbered-take n (suc a.left) a.released (omega arith) ∙ there) sent refl) r)
  cut_step a b (line.connects message session made is) low r =
      subst Cut (sym is)
      (reached_step config (cut n a) (cut n (line.after_message a message session))
      (line.connects message session made refl) r)
  cut_step a b (line.receives m there on is) low r =
      subst Cut (sym is)
      (reached_step config (cut n a)
      (cut n (record (line.after_turn a (receive a.session m)) { session = confirm (receive a.session m).session }))
      (line.receives m there on refl) r)
  cut_step a b (line.hears m there is) low r =
      subst Cut (sym is)
      (reached_step config (cut n a) (cut n (line.after_hearing a (receive a.session m))) (line.hears m there refl) r)
  cut_step a b (line.confirms is) low r =
      subst Cut (sym is) (reached_step config (cut n a) (cut n (line.after_booking a)) (line.confirms refl) r)
  cut_step a b (line.calls turn call is) low r =
      subst Cut (sym is) (reached_step config (cut n a) (cut n (line.after_call a turn)) (line.calls turn call refl) r)
  cut_step a b (line.breaks is) low r =
      subst Cut (sym is)
      (reached_step config (cut n a) (cut n (record a { session = broken a.session })) (line.breaks refl) r)
  cut_step a b (line.abandons is) low r =
      subst Cut (sym is)
      (reached_step config (cut n a) (cut n (record a { session = abandon a.session })) (line.abandons refl) r)
  cut_step a b (line.exchanges coming t written there may is) low r =
      subst Cut (sym is)
      (reached_step config (cut n a)
      (cut n (record a { exchange = t; from_exchange = a.from_exchange ++ written }))
      (line.exchanges coming t written there may refl) r)

  cut_steps : (a : Line) (lines : List Line) → AreSteps a lines → (last_line a lines).left ≤ n → Cut a
      → Cut (last_line a lines)
  cut_steps a [] steps low r = r
  cut_steps a (b ∷ lines) steps low r =
      let more = (past_last b lines steps.1).left in
      cut_steps b lines steps.1 low (cut_step a b steps.0 (omega arith) r)

  -- a line is reached where fewer legs were released, if none of the others had left the desk
  pub reached_cut : (w : Line) → IsReached config w → w.left ≤ n → IsReached config (cut n w)
  reached_cut w r low =
      subst Cut r.last
      (cut_steps (new_line config) r.lines r.steps (subst (λ (v : Line). v.left ≤ n) (sym r.last) low)
      (subst (λ l. IsReached config (record (new_line config) { released = l })) (sym (take-nil n))
      (reached_new config)))
