use Rattle.tests_uses.proofs.FirstExtension.{is_before}
use Rattle.tests_uses.proofs.extensions.read_first.Goals as goal

pub read_extension-read-requires-clause-before : goal.read_extension-read-requires-clause-before
read_extension-read-requires-clause-before c =
    let l = c.args.language.now in
    let s = c.requires.stated in
    is_before l _ _ c.plain_of-plain.ensures.base c.plain_of-plain.ensures.none
    (c.languages_begin.ensures.before s.0 s.1 l s.2 c.requires.fit s.3)
