use Rattle.std.proofs.Common.{◌≡◌, ◌∙◌, IfOk, subst, sym}
use Rattle.sx_token.proofs.FrontLemmas.{no_tilde}
use Rattle.sx_token.proofs.token.Token.name.Goals as goal

pub returns-in-None : goal.returns-in-None
unfolding lib.Utf8.encode
returns-in-None c =
    let same = no_tilde c.args.self.now.text (λ rest e. c.in-None.ensures.cases rest (c.as_str.ensures ∙ e)) in
    subst (λ x. IfOk c.copy.result (λ t. t ≡ x)) (sym same) c.copy.ensures
