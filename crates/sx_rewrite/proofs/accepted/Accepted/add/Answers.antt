use Rattle.std.proofs.Common.{◌++◌, ap, List, map, refl, subst, sym, ◌∙◌}
use Rattle.sx_term.specs.Shapes.{shapes}
use Rattle.sx_rules.specs.Sets.{shapes_in, forms_in, bare_rules_in}
use Rattle.sx_rules.specs.Views.{rule}
use Rattle.sx_plain.specs.Views.{table_of}
use Rattle.sx_rewrite.specs.Stored.{IsSetHeld}
use Rattle.sx_rewrite.specs.AcceptedView.{accepted}
use Rattle.sx_rewrite.specs.ExtensionView.{ext_rule}
use Rattle.std.proofs.Math.Logic.{∥∥₁_map}
use Rattle.sx_rewrite.specs.Accepted.{Accepted}
use Rattle.sx_rewrite.specs.Stored.{checked_of}
use Rattle.sx_rewrite.specs.Sizes.{AreSizesOf}
use Rattle.sx_rewrite.proofs.SizedSets.{sizes-both, sizes-of}
use Rattle.sx_rewrite.proofs.ShallowFlats.{shallow-both}
use Rattle.sx_rewrite.proofs.Joined.{added-by}
use Rattle.sx_rewrite.proofs.Added.{added-as, added-many, added-held, added-sound}
use Rattle.sx_rules.specs.Sets.{rules_in}
use Rattle.sx_rules.specs.Views.{NamedRule}
use Rattle.sx_rewrite.specs.PlainRules.{plain_named}
use Rattle.sx_rewrite.proofs.PlainAdded.{plain-added, plain-added-good}
use Rattle.sx_rewrite.proofs.ExtRules.{grown-bare, rule-count}
use Rattle.sx_rewrite.proofs.accepted.Accepted.add.Goals as goal

pub grown-requires-clause-plain_good : goal.grown-requires-clause-plain_good
grown-requires-clause-plain_good c =
    let a = c.args.self in
    let ext = c.args.ext in
    plain-added-good (shapes_in a.base) (shapes_in a.rules) (shapes c.args.all.now) (forms_in a.base) (forms_in a.rules) (forms_in a.plain_rules) (accepted a) (table_of ext.plain) (map ext_rule ext.rules.items)
    a.rules.rules.items ext.rules.items (rules_in a.plain_rules) c.facts.ensures.accepted c.requires.fits c.facts.ensures.rules c.facts.ensures.plain.rules_are
    c.facts.ensures.forms c.facts.ensures.plain.forms_are c.requires.good

pub joined-requires : goal.joined-requires
joined-requires c =
    let grown = grown-bare c.in-Ok-grown.grown.rules.rules.items c.args.self.rules.rules.items c.args.ext.rules.items c.in-Ok-grown.ensures.rules.2 in
    let lengths = rule-count c.args.ext.rules.items ∙ sym c.requires.many in
    let a = c.args.self in
    let ext = c.args.ext in
    let base = bare_rules_in a.base in
    let old = bare_rules_in a.rules in
    let new = bare_rules_in c.in-Ok-grown.grown.rules in
    let rules = map (λ e. rule e.rule) ext.rules.items in
    let exts = map ext_rule ext.rules.items in
    let more = c.args.flats.items in
    let all = a.flats.items ++ more in
    let held : IsSetHeld (shapes_in a.base) (shapes_in a.rules) (forms_in a.base) (forms_in a.rules) old (accepted a) = record { accepted = c.facts.ensures.accepted; rules_are = c.facts.ensures.rules; same_forms = c.facts.ensures.forms } in
    record {
      held = ∣ added-held base old new (table_of a.plain) a.flats.items a.first a.counted a.many exts rules (table_of ext.plain) more all grown refl
          (shapes_in a.base) (shapes_in a.rules) (shapes c.args.all.now) (shapes_in c.in-Ok-grown.grown.rules) (forms_in a.base) (forms_in a.rules) (forms_in c.in-Ok-grown.grown.rules) held c.in-Ok-grown.ensures.rules.0 c.in-Ok-grown.ensures.rules.1 lengths c.requires.fits c.requires.sound ∣₁;
      sound = added-sound base old new (table_of a.plain) a.flats.items a.first a.counted a.many exts rules (table_of ext.plain) more all grown refl
          (shapes_in a.base) (shapes_in a.rules) (shapes c.args.all.now) (shapes_in c.in-Ok-grown.grown.rules) (forms_in a.base) (forms_in a.rules) (forms_in c.in-Ok-grown.grown.rules) held c.in-Ok-grown.ensures.rules.0 c.in-Ok-grown.ensures.rules.1 lengths c.requires.fits c.requires.sound c.facts.ensures.sound;
      plain_are = ∣ record {
        shapes_are = c.in-Ok-grown.ensures.plain.0 ∙ sym c.in-Ok-grown.ensures.rules.0;
        forms_are = c.in-Ok-grown.ensures.plain.1 ∙ c.facts.ensures.plain.forms_are;
        rules_are = c.in-Ok-grown.ensures.plain.2
            ∙ plain-added (shapes_in a.base) (shapes_in a.rules) (shapes c.args.all.now) (forms_in a.base) (forms_in a.rules) (forms_in a.plain_rules) (accepted a) (table_of ext.plain) exts
            a.rules.rules.items ext.rules.items (rules_in a.plain_rules) c.facts.ensures.accepted c.requires.fits c.facts.ensures.rules c.facts.ensures.plain.rules_are
            ∙ ap (λ (x : List NamedRule). map (plain_named (table_of ext.plain)) x) (sym c.in-Ok-grown.ensures.rules.2);
      } ∣₁;
      shallow = ∥∥₁_map a.shallow (λ h. shallow-both a.flats.items more h c.requires.stored);
      sized = ∥∥₁_map a.sized (λ h. subst (λ (x : Accepted). AreSizesOf x.more (a.sizes.items ++ c.in-Ok.sizes.items))
          (sym (added-as base old new (table_of a.plain) a.flats.items a.first a.counted a.many exts rules (table_of ext.plain) more all grown refl))
          (sizes-both (accepted a).more (checked_of rules more) a.sizes.items c.in-Ok.sizes.items h
          (sizes-of c.deref.result.now ext.rules.items c.deref-2.result.now more c.in-Ok.sizes.items c.deref.ensures.value c.deref-2.ensures.value c.in-Ok.ensures)));
      labels = c.requires.labels ∙ a.labels;
      many = added-many base old new (table_of a.plain) a.flats.items a.first a.counted a.many exts rules (table_of ext.plain) more all grown refl lengths;
    }

pub returns-in-Ok-grown : goal.returns-in-Ok-grown
returns-in-Ok-grown c =
    let a = c.args.self in
    let ext = c.args.ext in
    let grown = grown-bare c.in-Ok-grown.grown.rules.rules.items a.rules.rules.items ext.rules.items c.in-Ok-grown.ensures.rules.2 in
    let added = added-as (bare_rules_in a.base) (bare_rules_in a.rules) (bare_rules_in c.in-Ok-grown.grown.rules) (table_of a.plain) a.flats.items a.first a.counted a.many (map ext_rule ext.rules.items)
    (map (λ e. rule e.rule) ext.rules.items) (table_of ext.plain) c.args.flats.items (a.flats.items ++ c.args.flats.items) grown refl in
    added-by a c.in-Ok-grown.grown ext (shapes c.args.all.now) c.args.flats.items c.joined.result c.joined.ensures c.in-Ok-grown.ensures.rules.0 c.in-Ok-grown.ensures.rules.2 added
