use Rattle.std.proofs.Common.{◌≡◌, ◌+◌, ◌++◌, List, length, sym, subst}
use Rattle.sx_rules.specs.Sets.{shapes_in, forms_in, bare_rules_in}
use Rattle.sx_rules.specs.Views.{subjects_in}
use Rattle.sx_plain.specs.Views.{table_of}
use Rattle.sx_rewrite.specs.declared.flat.Flat.{Flat}
use Rattle.sx_rewrite.specs.declared.certificate_size.CertificateSize.{CertificateSize}
use Rattle.sx_rewrite.specs.Sizes.{AreSizesOf}
use Rattle.std.specs.List.{AllByRecursion}
use Rattle.sx_rewrite.specs.Shallow.{IsShallowFlat}
use Rattle.sx_rewrite.specs.Extensions.{HasGrownSoundly}
use Rattle.sx_rewrite.specs.Stored.{accepted_from, IsSetHeld}
use Rattle.sx_rewrite.proofs.accepted.Accepted.joined.Goals as goal

pub invariant_of-result : goal.invariant_of-result
invariant_of-result c =
    let a = c.args.self in
    let new = c.args.grown.rules in
    let same = sym c.in-Ok.ensures.flats in
    let same_sizes = sym c.in-Ok.ensures.sizes in
    let set : List Flat → _ = (λ fs. accepted_from (bare_rules_in a.base) (bare_rules_in new) (table_of c.args.plain) fs) in
    record {
      held = subst (λ (fs : List Flat). ∥ IsSetHeld (shapes_in a.base) (shapes_in new) (forms_in a.base) (forms_in new) (bare_rules_in new) (set fs) ∥₁) same c.requires.held;
      sound = subst (λ (fs : List Flat). HasGrownSoundly (subjects_in (forms_in a.base)) (length (shapes_in a.base)) (set fs)) same c.requires.sound;
      plain_are = c.requires.plain_are;
      shallow = subst (λ (fs : List Flat). ∥ AllByRecursion IsShallowFlat fs ∥₁) same c.requires.shallow;
      sized = subst (λ (ss : List CertificateSize). ∥ AreSizesOf (set c.in-Ok.field-0.flats.items).more ss ∥₁) same_sizes (subst (λ (fs : List Flat). ∥ AreSizesOf (set fs).more (a.sizes.items ++ c.args.more.sizes.items) ∥₁) same c.requires.sized);
      labels = c.requires.labels;
      counted = a.counted;
      many = subst (λ (fs : List Flat). length (bare_rules_in new) ≡ a.first + length fs) same c.requires.many;
    }

pub invariant_of-result-in-Err : goal.invariant_of-result-in-Err
invariant_of-result-in-Err c =
    let a = c.args.self in
    let same = sym c.in-Err.ensures.flats in
    let same_sizes = sym c.in-Err.ensures.sizes in
    let set : List Flat → _ = (λ fs. accepted_from (bare_rules_in a.base) (bare_rules_in a.rules) (table_of a.plain) fs) in
    record {
      held = subst (λ (fs : List Flat). ∥ IsSetHeld (shapes_in a.base) (shapes_in a.rules) (forms_in a.base) (forms_in a.rules) (bare_rules_in a.rules) (set fs) ∥₁) same a.held;
      sound = subst (λ (fs : List Flat). HasGrownSoundly (subjects_in (forms_in a.base)) (length (shapes_in a.base)) (set fs)) same a.sound;
      plain_are = a.plain_are;
      shallow = subst (λ (fs : List Flat). ∥ AllByRecursion IsShallowFlat fs ∥₁) same a.shallow;
      sized = subst (λ (ss : List CertificateSize). ∥ AreSizesOf (set c.in-Err.field-0.flats.items).more ss ∥₁) same_sizes (subst (λ (fs : List Flat). ∥ AreSizesOf (set fs).more a.sizes.items ∥₁) same a.sized);
      labels = a.labels;
      counted = a.counted;
      many = subst (λ (fs : List Flat). length (bare_rules_in a.rules) ≡ a.first + length fs) same a.many;
    }
