use Rattle.std.proofs.Common.{subst, ap, ◌∙◌, ◌++◌, ◌∷◌, [], Contains}
use Rattle.sx_term.proofs.NameLaws.{pushed_is}
use Rattle.sx_term.proofs.names.Names.push.Goals as goal

pub returns : goal.returns
returns c =
    pushed_is c.self.inside.texts.keys c.insert.new.self.keys c.in_ok-from_slice.field-0 c.args.name.now c.in_ok-from_slice.ensures.items (λ h. c.requires (subst (λ names. Contains names c.args.name.now) c.self.view_is h)) c.in_ok-insert.ensures.keys
    ∙ ap (λ names. names ++ c.args.name.now ∷ []) c.self.view_is
