use Rattle.std.proofs.Common.{◌≡◌, suc, drop}
use Rattle.toml.specs.View.{items_view}
use Rattle.desk_config.specs.Dress.{fields_from}
use Rattle.desk_config.proofs.dress_keys.each_field.Given as goal

abbrev pub invariant-loop-value : goal.invariant-loop-value
invariant-loop-value l = record {
  said : fields_from l.part l.words l.fn.earlier 1 (items_view l.fields.items)
      ≡ fields_from l.part l.words l.dress (suc l.number) (items_view (drop l.value-index l.fields.items));
  count : l.number ≡ l.value-index;
}
