use Rattle.sx_term.specs.Term.{tree}
use Rattle.sx_notation.specs.Language.{language_data}
use Rattle.sx_verify.proofs.MainTerms.{output_fits}
use Rattle.sx_verify.proofs.signatures.shown.Goals as goal

pub show-requires-clause-fits : goal.show-requires-clause-fits
show-requires-clause-fits c =
    output_fits (language_data c.args.language.now) c.requires.language.main
    (tree c.args.output.now) c.requires.output
