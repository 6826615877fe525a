use Rattle.std.proofs.Common.{◌≡◌, ◌∙◌}
use Rattle.std.proofs.lemmas.List.Elements.{same_from_all_zip}
use Rattle.sx_term.proofs.NameLaws.{copied_are}
use Rattle.sx_term.proofs.names.Names.copy.Goals as goal

pub returns : goal.returns
returns c =
    copied_are _ c.self.inside.texts.keys c.in_ok-clone.field-0.keys (λ v w same. same_from_all_zip (λ x y. y ≡ x) v.items w.items same.0 (λ x y e. e)) c.in_ok-clone.ensures.cases
    ∙ c.self.view_is
