use Rattle.std.proofs.Common.{sym, ap, ◌∙◌}
use Rattle.finding_names.specs.Paths.{first_given, plain_path}
use Rattle.finding_names.proofs.PathLemmas.{cut_path}
use Rattle.finding_names.proofs.paths.path_named.Goals as goal

pub returns-in-Some : goal.returns-in-Some
returns-in-Some c =
    sym (cut_path c.args.text.now _ _ _ _ c.cut_at_opening.ensures.before c.cut_at_opening.ensures.after c.cut_at_closing.ensures.before c.cut_at_closing.ensures.after
    ∙ ap (λ o. first_given o (plain_path c.args.text.now)) (sym c.in-Some.ensures))

pub returns-in-None : goal.returns-in-None
returns-in-None c =
    c.plain_path.ensures
    ∙ sym (cut_path c.args.text.now _ _ _ _ c.cut_at_opening.ensures.before c.cut_at_opening.ensures.after c.cut_at_closing.ensures.before c.cut_at_closing.ensures.after
    ∙ ap (λ o. first_given o (plain_path c.args.text.now)) (sym c.in-None.ensures))
