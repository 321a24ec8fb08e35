use Rattle.std.proofs.Common.{◌≡◌, ◌≤◌, ◌-◌, List, ℕ, [], length, refl, sym, ◌∙◌, ap, arith, length-append}
use Rattle.journal_tape.specs.Tape.{text, zeros, IsBetween}
use Rattle.journal_tape.proofs.Texts.{left_between, length_zeros, nothing_between, settled_more}
use Rattle.journal_tape.proofs.Moments.{started, goes_on}
use Rattle.journal_tape.proofs.commit.commit.Goals as goal

pub write_at-requires : goal.write_at-requires
write_at-requires g c =
    let s = c.requires.settled in
    omega (arith, c.if-more-room.false, ap length s.file, length-append (text (g.T.Tape.seen c.args.tape.now)) (zeros (c.args.room - c.args.end)), length_zeros (c.args.room - c.args.end), s.ends, s.within)

pub returns-then-more-room-clause-crash : goal.returns-then-more-room-clause-crash
returns-then-more-room-clause-crash g c =
    λ f now. nothing_between (text (g.T.Tape.seen c.args.tape.now)) c.args.more.now (text f) (ap text (c.requires.settled.durable f now))

pub returns-then-more-room-clause-any_moment : goal.returns-then-more-room-clause-any_moment
returns-then-more-room-clause-any_moment g c =
    let P = λ (f : List ℕ). IsBetween (text (g.T.Tape.seen c.args.tape.now)) c.args.more.now (text f) in
    started g.T.Tape.moment g.T.Tape.left_since c.args.tape.now P
    (λ f left. nothing_between (text (g.T.Tape.seen c.args.tape.now)) c.args.more.now (text f) (ap text (c.requires.settled.durable f (g.met.T.Tape.only_now c.args.tape.now f left))))

pub returns-in_err-write_at-clause-crash : goal.returns-in_err-write_at-clause-crash
returns-in_err-write_at-clause-crash g c =
    let s = c.requires.settled in
    left_between _ _ _ c.args.more.now _ (c.args.room - c.args.end) s.file s.ends s.clean c.requires.clean s.durable c.write_at.ensures.crash

pub returns-in_err-write_at-clause-any_moment : goal.returns-in_err-write_at-clause-any_moment
returns-in_err-write_at-clause-any_moment g c =
    let s = c.requires.settled in
    let P = λ (f : List ℕ). IsBetween (text (g.T.Tape.seen c.args.tape.now)) c.args.more.now (text f) in
    let at_start = started g.T.Tape.moment g.T.Tape.left_since c.args.tape.now P
    (λ f left. nothing_between (text (g.T.Tape.seen c.args.tape.now)) c.args.more.now (text f) (ap text (s.durable f (g.met.T.Tape.only_now c.args.tape.now f left)))) in
    goes_on g.T.Tape.moment g.T.Tape.left_since c.args.tape.now c.args.tape.now c.write_at.new.self P _ at_start c.write_at.ensures.time
    (left_between _ _ _ c.args.more.now _ (c.args.room - c.args.end) s.file s.ends s.clean c.requires.clean s.durable c.write_at.ensures.crash)

pub returns-in_err-sync-clause-crash : goal.returns-in_err-sync-clause-crash
returns-in_err-sync-clause-crash g c =
    let s = c.requires.settled in
    λ f now. left_between _ _ _ c.args.more.now _ (c.args.room - c.args.end) s.file s.ends s.clean c.requires.clean s.durable c.write_at.ensures.crash f (c.sync.ensures.crash f now)

pub returns-in_err-sync-clause-any_moment : goal.returns-in_err-sync-clause-any_moment
returns-in_err-sync-clause-any_moment g c =
    let s = c.requires.settled in
    let P = λ (f : List ℕ). IsBetween (text (g.T.Tape.seen c.args.tape.now)) c.args.more.now (text f) in
    let at_start = started g.T.Tape.moment g.T.Tape.left_since c.args.tape.now P
    (λ f left. nothing_between (text (g.T.Tape.seen c.args.tape.now)) c.args.more.now (text f) (ap text (s.durable f (g.met.T.Tape.only_now c.args.tape.now f left)))) in
    let is_written = goes_on g.T.Tape.moment g.T.Tape.left_since c.args.tape.now c.args.tape.now c.write_at.new.self P _ at_start c.write_at.ensures.time
    (left_between _ _ _ c.args.more.now _ (c.args.room - c.args.end) s.file s.ends s.clean c.requires.clean s.durable c.write_at.ensures.crash) in
    goes_on g.T.Tape.moment g.T.Tape.left_since c.args.tape.now c.write_at.new.self c.sync.new.self P _ is_written c.sync.ensures.time
    (λ f now. left_between _ _ _ c.args.more.now _ (c.args.room - c.args.end) s.file s.ends s.clean c.requires.clean s.durable c.write_at.ensures.crash f (c.sync.ensures.crash f now))

pub returns-clause-crash : goal.returns-clause-crash
returns-clause-crash g c =
    let s = c.requires.settled in
    λ f now. left_between _ _ _ c.args.more.now _ (c.args.room - c.args.end) s.file s.ends s.clean c.requires.clean s.durable c.write_at.ensures.crash f (c.sync.ensures.crash f now)

pub returns-clause-any_moment : goal.returns-clause-any_moment
returns-clause-any_moment g c =
    let s = c.requires.settled in
    let P = λ (f : List ℕ). IsBetween (text (g.T.Tape.seen c.args.tape.now)) c.args.more.now (text f) in
    let at_start = started g.T.Tape.moment g.T.Tape.left_since c.args.tape.now P
    (λ f left. nothing_between (text (g.T.Tape.seen c.args.tape.now)) c.args.more.now (text f) (ap text (s.durable f (g.met.T.Tape.only_now c.args.tape.now f left)))) in
    let is_written = goes_on g.T.Tape.moment g.T.Tape.left_since c.args.tape.now c.args.tape.now c.write_at.new.self P _ at_start c.write_at.ensures.time
    (left_between _ _ _ c.args.more.now _ (c.args.room - c.args.end) s.file s.ends s.clean c.requires.clean s.durable c.write_at.ensures.crash) in
    goes_on g.T.Tape.moment g.T.Tape.left_since c.args.tape.now c.write_at.new.self c.sync.new.self P _ is_written c.sync.ensures.time
    (λ f now. left_between _ _ _ c.args.more.now _ (c.args.room - c.args.end) s.file s.ends s.clean c.requires.clean s.durable c.write_at.ensures.crash f (c.sync.ensures.crash f now))

pub returns-clause-settled : goal.returns-clause-settled
returns-clause-settled g c =
    (settled_more (g.T.Tape.seen c.args.tape.now) (g.T.Tape.seen c.sync.new.self) c.args.more.now c.args.end c.args.room
    (g.T.Tape.may_leave c.args.tape.now) (g.T.Tape.may_leave c.sync.new.self) c.requires.settled c.requires.clean
    c.if-more-room.false (c.sync.ensures.seen ∙ c.in_ok-write_at.ensures.written)
    (λ f now. c.in_ok-sync.ensures.durable f now ∙ sym c.sync.ensures.seen)).0

pub returns-clause-kept : goal.returns-clause-kept
returns-clause-kept g c =
    (settled_more (g.T.Tape.seen c.args.tape.now) (g.T.Tape.seen c.sync.new.self) c.args.more.now c.args.end c.args.room
    (g.T.Tape.may_leave c.args.tape.now) (g.T.Tape.may_leave c.sync.new.self) c.requires.settled c.requires.clean
    c.if-more-room.false (c.sync.ensures.seen ∙ c.in_ok-write_at.ensures.written)
    (λ f now. c.in_ok-sync.ensures.durable f now ∙ sym c.sync.ensures.seen)).1
