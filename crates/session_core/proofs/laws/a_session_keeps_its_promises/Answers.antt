use Rattle.session_core.proofs.Sound.{sound-new}
use Rattle.session_core.proofs.Kept.{kept-receive}
use Rattle.session_core.proofs.Promised.{connect_sound, send_leg_sound, confirm_sound, quiet_sound, silent_sound, close_sound, malformed_sound, broken_sound, abandon_sound}
use Rattle.session_core.proofs.laws.a_session_keeps_its_promises.Goals as goal

pub returns-clause-begins : goal.returns-clause-begins
returns-clause-begins c = sound-new

pub returns-clause-receive : goal.returns-clause-receive
returns-clause-receive c = λ s m is read. (kept-receive s m is read).sound

pub returns-clause-connect : goal.returns-clause-connect
returns-clause-connect c = connect_sound

pub returns-clause-send_leg : goal.returns-clause-send_leg
returns-clause-send_leg c = send_leg_sound

pub returns-clause-confirm : goal.returns-clause-confirm
returns-clause-confirm c = confirm_sound

pub returns-clause-quiet : goal.returns-clause-quiet
returns-clause-quiet c = quiet_sound

pub returns-clause-silent : goal.returns-clause-silent
returns-clause-silent c = silent_sound

pub returns-clause-close : goal.returns-clause-close
returns-clause-close c = close_sound

pub returns-clause-malformed : goal.returns-clause-malformed
returns-clause-malformed c = malformed_sound

pub returns-clause-broken : goal.returns-clause-broken
returns-clause-broken c = broken_sound

pub returns-clause-abandon : goal.returns-clause-abandon
returns-clause-abandon c = abandon_sound
