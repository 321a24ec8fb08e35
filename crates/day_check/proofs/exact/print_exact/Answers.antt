use Rattle.std.proofs.Common.{refl, ◌≡◌, Option, Some, None, is_some, option_map, subst, ◌∙◌}
use Rattle.std.specs.Io.KnownBytes.{Appends}
use Rattle.day_check.proofs.exact.print_exact.Goals as goal

some_mapped : {A B : Type 0} (f : A → B) (o : Option A) → is_some o ≡ is_some (option_map f o)
some_mapped f None = refl
some_mapped f (Some x) = refl

pub returns : goal.returns
returns g c = record {
  held = c.in_ok-said.said.held;
  broken = option_map (λ broken. (broken.0, broken.1.items)) c.in_ok-said.said.broken;
  is_so = c.is_some.ensures ∙ some_mapped (λ broken. (broken.0, broken.1.items)) c.in_ok-said.said.broken;
  printed = λ off. subst (Appends (g.W.Write.contents c.args.out.now) (g.W.Write.contents c.print.new.out))
      (c.deref.ensures.value ∙ c.in_ok-text.ensures off) c.in_ok-print.ensures.ok;
}
