use Rattle.std.proofs.Common.{subst, refl, Contains}
use Rattle.std.specs.Prelude.{MatchOption, slice_get, Some, ◌≡◌, position}
use Rattle.std.specs.Str.{bytes_eq}
use Rattle.sx_term.proofs.NameLaws.{number_is, number_first}
use Rattle.sx_term.proofs.names.Names.number.Goals as goal

pub returns-clause-exact : goal.returns-clause-exact
returns-clause-exact c =
    let f = c.get_index_of.ensures in
    subst (λ names. MatchOption c.get_index_of.result (¬ (Contains names c.args.name.now)) (λ n. slice_get names n ≡ Some c.args.name.now)) c.self.view_is
    (number_is c.self.inside.texts.keys c.args.name.now c.args.name.now c.get_index_of.result refl f.index f.found)

pub returns-clause-first : goal.returns-clause-first
returns-clause-first c =
    subst (λ names. c.get_index_of.result ≡ position (λ other. bytes_eq other c.args.name.now) names) c.self.view_is
    (number_first c.self.inside.texts.keys c.args.name.now c.get_index_of.result c.get_index_of.ensures.index)
