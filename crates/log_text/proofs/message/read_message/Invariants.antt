use Rattle.std.proofs.Common.{◌≡◌, ◌≤◌, drop, vec_len, vec_capacity}
use Rattle.log_text.specs.Message.{IsEscape, behind, message_said, read_on}
use Rattle.log_text.proofs.message.read_message.Given as goal

abbrev pub invariant-loop-byte : goal.invariant-loop-byte
invariant-loop-byte l = record {
  said : message_said l.text ≡ behind l.message.items (read_on (drop l.byte-index l.text) l.escape);
  digit : IsEscape l.escape;
  short : vec_len l.message ≤ l.byte-index;
  room : vec_capacity l.fn.message ≤ vec_capacity l.message;
}
