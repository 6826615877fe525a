use Rattle.std.proofs.Common.{◌++◌, ◌≤◌, ◌+◌, ◌∙◌, ap, List, ℕ, length, map, arith}
use Rattle.std.specs.Prelude.{Ok, Err}
use Rattle.sx_term.specs.Shapes.{shapes}
use Rattle.sx_rules.specs.Views.{forms, named}
use Rattle.sx_rules.specs.Sets.{shapes_in, forms_in, rules_in}
use Rattle.sx_rules.specs.Good.{names_of}
use Rattle.sx_rules.proofs.AdmitLaws.{few_all, admitted_as}
use Rattle.sx_rules.proofs.Facts.{kept_good}
use Rattle.sx_rules.proofs.extend.grown_names.Goals as goal

pub returns-in-Ok-clause-good : goal.returns-in-Ok-clause-good
returns-in-Ok-clause-good c =
    let base = c.args.base.now in
    let few : length base.rules.items + length c.args.more.now ≤ 4096 = omega arith in
    admitted_as (shapes_in base) c.requires.begins.0 (forms_in base) base.rules.items (map named c.args.more.now)
    (kept_good (shapes_in base) (forms_in base) (rules_in base) base.good) (few_all base.rules.items c.args.more.now few)
    (shapes c.args.all.now) (forms c.deref.result.now) (c.new-none.result ++ c.in_ok-names.names) c.requires.begins.1 (ap forms c.deref.ensures.value)
    (ap (λ (names : List (List ℕ)). names ++ c.in_ok-names.names) c.new-none.ensures ∙ c.in_ok-names.ensures ∙ base.named)
    (Ok tt) c.in-Ok.ensures.checked

pub returns-in-Ok-clause-names : goal.returns-in-Ok-clause-names
returns-in-Ok-clause-names c = c.in-Ok.ensures.names ∙ ap (λ (names : List (List ℕ)). names ++ names_of c.args.more.now) (c.in_ok-names.ensures ∙ c.args.base.now.named)

pub returns-in-Err-clause-refused : goal.returns-in-Err-clause-refused
returns-in-Err-clause-refused c =
    let base = c.args.base.now in
    let few : length base.rules.items + length c.args.more.now ≤ 4096 = omega arith in
    admitted_as (shapes_in base) c.requires.begins.0 (forms_in base) base.rules.items (map named c.args.more.now)
    (kept_good (shapes_in base) (forms_in base) (rules_in base) base.good) (few_all base.rules.items c.args.more.now few)
    (shapes c.args.all.now) (forms c.deref.result.now) (c.new-none.result ++ c.in_ok-names.names) c.requires.begins.1 (ap forms c.deref.ensures.value)
    (ap (λ (names : List (List ℕ)). names ++ c.in_ok-names.names) c.new-none.ensures ∙ c.in_ok-names.ensures ∙ base.named)
    (Err c.in-Err.e) c.in-Err.ensures.checked
