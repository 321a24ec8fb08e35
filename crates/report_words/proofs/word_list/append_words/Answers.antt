use Rattle.std.proofs.Common.{append_assoc}
use Rattle.report_words.proofs.word_list.append_words.Goals as goal

pub returns : goal.returns
returns c =
    rw (
      c.append-10.ensures.items,
      c.as_bytes-10.ensures.value,
      c.append-9.ensures.items,
      c.as_bytes-9.ensures.value,
      c.append-8.ensures.items,
      c.as_bytes-8.ensures.value,
      c.append-7.ensures.items,
      c.as_bytes-7.ensures.value,
      c.append-6.ensures.items,
      c.as_bytes-6.ensures.value,
      c.append-5.ensures.items,
      c.as_bytes-5.ensures.value,
      c.append-4.ensures.items,
      c.as_bytes-4.ensures.value,
      c.append-3.ensures.items,
      c.as_bytes-3.ensures.value,
      c.append-2.ensures.items,
      c.as_bytes-2.ensures.value,
      c.append.ensures.items,
      c.as_bytes.ensures.value,
    ) (simp append_assoc)
