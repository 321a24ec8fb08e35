-- The line of a dispatcher that is started again is one that ordinary steps lead to: what the session did since the
-- durable line is left out, and the exchange went on as it did.
use Rattle.std.proofs.Common.{◌≡◌, ◌≤◌, ◌+◌, ◌-◌, ℕ, zero, suc, List, [], ◌∷◌, ◌++◌, length, take, refl, sym, ap, subst, ◌∙◌, arith}
use Rattle.std.proofs.Math.Seq.{take-append_seam}
use Rattle.fix_tags.specs.Config.{ConfigParts}
use Rattle.leg.specs.declared.leg.Leg.{Leg}
use Rattle.session_core.specs.Calling.{broken}
use Rattle.venue_line.specs.Line.{Line, LineStep, AreSteps}
use Rattle.venue_line.specs.Line as line
use Rattle.venue_line.specs.Leading.{last_line}
use Rattle.line_restart.specs.Lives.{IsBroughtFrom, AreBroughtFrom, Life, durable_line, killed_line, IsLife, restarted, Restarts}
use Rattle.line_restart.specs.RestartTheorem.{IsReached}
use Rattle.line_restart.proofs.Cut.{TakesMore, takes_more, reached_step, reached_cut}
use Rattle.line_restart.proofs.Cut as more

module _ (config : ConfigParts) (n : ℕ) (d : Line) where
  -- the durable line, with the exchange and the first released legs of another one
  abbrev pub aside : Line → Line
  aside a = record d { released = take n a.released; exchange = a.exchange; from_exchange = a.from_exchange }

  abbrev Aside : Line → Type 0
  Aside a = IsReached config (aside a)

  pub aside_releases : (a : Line) (legs : List Leg) → TakesMore n a.released legs → Aside a
      → Aside (record a { released = a.released ++ legs })
  aside_releases a legs (more.same is) r =
      subst (λ l. IsReached config (record (aside a) { released = l })) (sym is) r
  aside_releases a legs (more.some k is) r =
      reached_step config (aside a) (aside (record a { released = a.released ++ legs }))
      (line.releases (take k legs) (ap (λ l. record (aside a) { released = l }) is)) r

  aside_step : (a b : Line) (step : LineStep a b) → IsBroughtFrom d.to_exchange a b step → Aside a → Aside b
  aside_step a b (line.releases legs is) brought r =
      subst Aside (sym is) (aside_releases a legs (takes_more n a.released legs) r)
  aside_step a b (line.drops below is) brought r = subst Aside (sym is) r
  aside_step a b (line.sends leg message session there sent is) brought r = subst Aside (sym is) r
  aside_step a b (line.connects message session made is) brought r = subst Aside (sym is) r
  aside_step a b (line.receives m there on is) brought r = subst Aside (sym is) r
  aside_step a b (line.hears m there is) brought r = subst Aside (sym is) r
  aside_step a b (line.confirms is) brought r = subst Aside (sym is) r
  aside_step a b (line.calls turn call is) brought r = subst Aside (sym is) r
  aside_step a b (line.breaks is) brought r = subst Aside (sym is) r
  aside_step a b (line.abandons is) brought r = subst Aside (sym is) r
  aside_step a b (line.exchanges coming t written there may is) brought r =
      subst Aside (sym is)
      (reached_step config (aside a) (aside (record a { exchange = t; from_exchange = a.from_exchange ++ written }))
      (line.exchanges coming t written brought may refl) r)

  aside_steps : (a : Line) (lines : List Line) (steps : AreSteps a lines)
      → AreBroughtFrom d.to_exchange a lines steps → Aside a → Aside (last_line a lines)
  aside_steps a [] steps brought r = r
  aside_steps a (b ∷ lines) steps brought r =
      aside_steps b lines steps.1 brought.1 (aside_step a b steps.0 brought.0 r)

-- legs that weren't sent are dropped
drop_more : (config : ConfigParts) (k : ℕ) (a : Line) → a.left + k ≤ length a.released → IsReached config a
    → IsReached config (record a { left = a.left + k })
drop_more config zero a low r =
    let same : a.left ≡ a.left + 0 = omega arith in
    subst (λ left. IsReached config (record a { left = left })) same r
drop_more config (suc k) a low r =
    let same : suc (a.left + k) ≡ a.left + suc k = omega arith in
    let before = record a { left = a.left + k } in
    subst (λ left. IsReached config (record a { left = left })) same
    (reached_step config before (record a { left = suc (a.left + k) }) (line.drops (omega arith) refl)
    (drop_more config k a (omega arith) r))

pub drop_to : (config : ConfigParts) (left : ℕ) (a : Line) → a.left ≤ left → left ≤ length a.released
    → IsReached config a → IsReached config (record a { left = left })
drop_to config left a from to r =
    let same : a.left + (left - a.left) ≡ left = omega arith in
    subst (λ l. IsReached config (record a { left = l })) same (drop_more config (left - a.left) a (omega arith) r)

-- where what happened on the exchange's side happens on the durable line too
pub restarts_reached : (config : ConfigParts) (d k : Line) (kept forgotten : List Leg) (left : ℕ)
    → k.released ≡ kept ++ forgotten → d.left ≤ left → left ≤ length kept
    → IsReached config (aside config (length kept) d k) → IsReached config (restarted d k kept left)
restarts_reached config d k kept forgotten left released from whole gone_on =
    let on = aside config (length kept) d k in
    let stopped = record on { session = broken d.session } in
    let legs = ap (take (length kept)) released ∙ take-append_seam kept forgotten in
    drop_to config left (record stopped { released = kept }) from whole
    (subst (λ l. IsReached config (record stopped { released = l })) legs
    (reached_step config on stopped (line.breaks refl) gone_on))

pub restart_reached : (config : ConfigParts) (life : Life) → IsLife life → (next : Line) → Restarts life next
    → IsReached config (durable_line life)
    → IsReached config next
restart_reached config life is next restart reached =
    let d = durable_line life in
    let n = length restart.kept in
    let from = restart.from in
    let whole = restart.whole in
    subst (IsReached config) (sym restart.is)
    (restarts_reached config d (killed_line life) restart.kept restart.forgotten restart.left restart.released from whole
    (aside_steps config n d d life.lost is.more is.wire (reached_cut config n d reached (omega arith))))

-- and so it does where the connection stays
pub open_reached : (config : ConfigParts) (life : Life) → IsLife life → (next : Line) → Restarts life next
    → IsReached config (durable_line life)
    → IsReached config (record next { session = (durable_line life).session })
open_reached config life is next restart reached =
    let d = durable_line life in
    let n = length restart.kept in
    let from = restart.from in
    let whole = restart.whole in
    let on = aside config n d (killed_line life) in
    let gone_on = aside_steps config n d d life.lost is.more is.wire (reached_cut config n d reached (omega arith)) in
    let legs = ap (take n) restart.released ∙ take-append_seam restart.kept restart.forgotten in
    subst (λ (w : Line). IsReached config (record w { session = d.session })) (sym restart.is)
    (drop_to config restart.left (record on { released = restart.kept }) from whole
    (subst (λ l. IsReached config (record on { released = l })) legs gone_on))
