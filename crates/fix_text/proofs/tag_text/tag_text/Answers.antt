use Rattle.std.proofs.Common.{refl}
use Rattle.std.specs.Fmt.{digits}
use Rattle.fix_text.proofs.tag_text.tag_text.Goals as goal

pub returns-in-6 : goal.returns-in-6
unfolding digits
returns-in-6 c = rw c.in-6.is refl

pub returns-in-11 : goal.returns-in-11
unfolding digits
returns-in-11 c = rw c.in-11.is refl

pub returns-in-14 : goal.returns-in-14
unfolding digits
returns-in-14 c = rw c.in-14.is refl

pub returns-in-17 : goal.returns-in-17
unfolding digits
returns-in-17 c = rw c.in-17.is refl

pub returns-in-18 : goal.returns-in-18
unfolding digits
returns-in-18 c = rw c.in-18.is refl

pub returns-in-31 : goal.returns-in-31
unfolding digits
returns-in-31 c = rw c.in-31.is refl

pub returns-in-32 : goal.returns-in-32
unfolding digits
returns-in-32 c = rw c.in-32.is refl

pub returns-in-34 : goal.returns-in-34
unfolding digits
returns-in-34 c = rw c.in-34.is refl

pub returns-in-35 : goal.returns-in-35
unfolding digits
returns-in-35 c = rw c.in-35.is refl

pub returns-in-37 : goal.returns-in-37
unfolding digits
returns-in-37 c = rw c.in-37.is refl

pub returns-in-38 : goal.returns-in-38
unfolding digits
returns-in-38 c = rw c.in-38.is refl

pub returns-in-39 : goal.returns-in-39
unfolding digits
returns-in-39 c = rw c.in-39.is refl

pub returns-in-40 : goal.returns-in-40
unfolding digits
returns-in-40 c = rw c.in-40.is refl

pub returns-in-43 : goal.returns-in-43
unfolding digits
returns-in-43 c = rw c.in-43.is refl

pub returns-in-44 : goal.returns-in-44
unfolding digits
returns-in-44 c = rw c.in-44.is refl

pub returns-in-49 : goal.returns-in-49
unfolding digits
returns-in-49 c = rw c.in-49.is refl

pub returns-in-52 : goal.returns-in-52
unfolding digits
returns-in-52 c = rw c.in-52.is refl

pub returns-in-54 : goal.returns-in-54
unfolding digits
returns-in-54 c = rw c.in-54.is refl

pub returns-in-55 : goal.returns-in-55
unfolding digits
returns-in-55 c = rw c.in-55.is refl

pub returns-in-56 : goal.returns-in-56
unfolding digits
returns-in-56 c = rw c.in-56.is refl

pub returns-in-59 : goal.returns-in-59
unfolding digits
returns-in-59 c = rw c.in-59.is refl

pub returns-in-60 : goal.returns-in-60
unfolding digits
returns-in-60 c = rw c.in-60.is refl

pub returns-in-97 : goal.returns-in-97
unfolding digits
returns-in-97 c = rw c.in-97.is refl

pub returns-in-122 : goal.returns-in-122
unfolding digits
returns-in-122 c = rw c.in-122.is refl

pub returns-in-150 : goal.returns-in-150
unfolding digits
returns-in-150 c = rw c.in-150.is refl

pub returns-in-151 : goal.returns-in-151
unfolding digits
returns-in-151 c = rw c.in-151.is refl
