-- Before a session is up, each leg in its log has a number below that of the connection's Logon.
use Rattle.std.proofs.Common.{◌<◌, ◌||◌, ℕ, Bool, sym, subst, arith}
use Rattle.fix_tags.specs.Config.{ConfigParts}
use Rattle.resend.specs.Log.{SentLeg}
use Rattle.resend.specs.Log.Entry.{Sent}
use Rattle.session_core.specs.declared.phase.Phase.{Phase}
use Rattle.session_core.specs.declared.phase.Phase.TheVariants as phase
use Rattle.session_core.specs.Session.{SessionParts, is_logged_out}
use Rattle.session_core.specs.Turn.{phase_after}
use Rattle.session_core.proofs.Adding.{chosen}
use Rattle.venue_line.specs.Line.{Line, new_line, LineStep}
use Rattle.venue_line.specs.Copies.{IsLegAt, IsBeforeUp}
use Rattle.venue_line.proofs.Logs.{numbered_within, goes_push, goes-take_below, give_up_back}
use Rattle.venue_line.proofs.Parts.{Parts}
use Rattle.venue_line.proofs.Stepping.{step_keeps}
use Rattle.venue_line.proofs.Leading.{leads_keep}
use Rattle.line_restart.specs.RestartTheorem.{IsReached}

abbrev pub IsEarly : SessionParts → Type 0
IsEarly s = IsBeforeUp s.phase → (number : ℕ) (leg : SentLeg) → IsLegAt s.log number leg
    → number < s.current.logon_number

abbrev Early : Line → Type 0
Early w = IsEarly w.session

not_after : (is_over : Bool) (now : Phase) → IsBeforeUp (phase_after is_over now) → ⊥
not_after is_over now =
    chosen (λ p. IsBeforeUp p → ⊥) (is_over || is_logged_out now) phase.Closed phase.Down (λ on e. e) (λ off e. e)

early_parts : Parts Early
early_parts = record {
  calls = record {
    marks = λ b expected requested pending silent close_asked given j i. i;
    waits = λ b waiting j i. i;
    admin = λ b content plain may j i e number now at. i e number now (goes_push b.session.log number now at);
    fence = λ b may j i e number now at. i e number now (goes_push b.session.log number now at);
    fill_settled = λ b first new_number from forward below j i. i;
    fill_sure = λ b first new_number sure forward below j i. i;
    settles = λ b content told early heard says j i e number now at.
        (let x = give_up_back told b.session.log number now at in i e number x.0 x.1);
    settling = λ b on j i e number now at. i (subst IsBeforeUp (sym on) tt) number now at;
    passes = λ b fence is j i e number now at.
        (let x = (goes-take_below fence b.session.log).back number now at in i e number x.0 x.1);
    passes_up = λ b fence is settling j i e number now at. absurd e;
    passes_out = λ b fence is last j i e number now at. absurd e;
    passes_out_written = λ b fence is last may j i e number now at. absurd e;
    answers_logout = λ b heard on going may j i e number now at. absurd e;
    ends = λ b is_over on j i e number now at. absurd (not_after is_over b.session.phase e);
    abandons = λ b j i e number now at. absurd e;
    connects = λ b down may j i e number now at.
        (let old = goes_push b.session.log number now at in
        let within = numbered_within number b.session.log (Sent now) old in
        omega arith);
    closes = λ b up j i e number now at. absurd e;
    sends = λ b leg there up may j i e number now at. absurd (subst IsBeforeUp up e);
    releases = λ b more j i. i;
    drops = λ b below j i. i;
  };
  exchanges = λ b coming t written there step i. i;
}

pub early_step : (a b : Line) → LineStep a b → IsEarly a.session → IsEarly b.session
early_step a b step i = step_keeps Early early_parts a b step i

early_new : (config : ConfigParts) → Early (new_line config)
early_new config = λ e number leg at. absurd e

pub early_reached : (config : ConfigParts) (w : Line) → IsReached config w → IsEarly w.session
early_reached config w r =
    leads_keep Early early_step (new_line config) w r (early_new config)
