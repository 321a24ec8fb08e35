-- One frame after another is read.
use Rattle.std.proofs.Common.{◌≡◌, ℕ, suc, Bool, false, List, [], Option, Some, None, option_map, refl, ap, ◌∙◌}
use Rattle.std.proofs.lemmas.Option.{same_Some}
use Rattle.fix_text.specs.Reading.{Stream, next_read}
use Rattle.fix_text.specs.Tagged.{Tagged}
use Rattle.exchange_core.specs.Exchange.{ExchangeParts, drop_connection}
use Rattle.exchange_sim.specs.Hearing.{Hearing, Manner, Hears, Stops, one_more, takes_or_loses, next_heard, heard_times}

pub frame_heard : (how : Manner) (h : Hearing) (fields : List Tagged) (stream : Stream) (messages : ℕ) (x : ExchangeParts)
    → (next_read h.stream).frame ≡ Some fields → stream ≡ (next_read h.stream).stream → messages ≡ one_more h.messages
    → x ≡ takes_or_loses how messages fields h.exchange
    → ◌≡◌ {A = Hearing} (record { stream = stream; messages = messages; exchange = x }) (next_heard how h)
frame_heard how h fields stream messages x there stream_is messages_is x_is =
    let taken = rw messages_is at x_is in
    rw there (rw (stream_is, messages_is, taken) refl)

pub nothing_heard : (how : Manner) (h : Hearing) (stream : Stream) → (next_read h.stream).frame ≡ None
    → stream ≡ (next_read h.stream).stream
    → ◌≡◌ {A = Hearing} (record { stream = stream; messages = h.messages; exchange = h.exchange }) (next_heard how h)
nothing_heard how h stream there stream_is = rw there (rw stream_is refl)

-- a frame more
pub heard_more : (how : Manner) (count : ℕ) (start h next : Hearing) → h ≡ heard_times how count start → next ≡ next_heard how h
    → next ≡ heard_times how (suc count) start
heard_more how count start h next before is = is ∙ ap (λ (k : Hearing). next_heard how k) before

-- the number of a frame that was read
pub number_is : {A : Type 0} (number messages : ℕ) (frame : Option A) → Some number ≡ option_map (λ _. messages) frame → number ≡ messages
number_is number messages (Some fields) is = same_Some _ _ is
number_is number messages None is = absurd cc

-- the connection is cut behind so many frames
pub cut_behind : (how : Manner) (cut_after count : ℕ) (start h : Hearing) (connected : Bool) (stream : Stream) (messages : ℕ)
    (x : ExchangeParts) → h ≡ heard_times how count start → h.messages ≡ cut_after → connected ≡ false
    → stream ≡ record { rest = []; skipped = 0; garbled = 0 } → messages ≡ h.messages → x ≡ drop_connection h.exchange
    → Hears how cut_after start connected (record { stream = stream; messages = messages; exchange = x })
cut_behind how cut_after count start h connected stream messages x h_is last off stream_is messages_is x_is =
    let stops : Stops how cut_after h false (record { stream = stream; messages = messages; exchange = x }) =
    (last, rw (stream_is, messages_is, x_is) refl) in
    rw off (record { count = count; stops = rw h_is at stops })
