use Rattle.std.proofs.Common.{ap, sym, subst, ◌∙◌}
use Rattle.std.specs.Prelude.{option_copied}
use Rattle.rule_table.specs.declared.kind.Kind.TheVariants as kind
use Rattle.sorted_rows.specs.ByKey.{Sorts}
use Rattle.sorted_rows.specs.Rows.{holder_cmp, holder_of, of_kind}
use Rattle.sorted_rows.proofs.Parts.{first_key_is}
use Rattle.sorted_rows.proofs.kind_rows.KindRows.first_key.Goals as goal

pub returns : goal.returns
returns c rs s = ap option_copied (c.first.ensures (of_kind kind.Vehicle (λ r. holder_of r.key r.vehicle) rs) (subst (Sorts holder_cmp (of_kind kind.Vehicle (λ r. holder_of r.key r.vehicle) rs)) (sym c.as_slice.ensures.value) s.keys)) ∙ first_key_is rs c.args.vehicle c.args.feed
