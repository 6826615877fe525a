-- When an accepted set can be joined with more.
use Rattle.std.specs.Prelude.{◌≡◌, ◌+◌, ◌++◌, List, length}
use Rattle.std.specs.List.{AllByRecursion}
use Rattle.sx_rules.specs.Sets.{shapes_in, forms_in, rules_in, bare_rules_in}
use Rattle.sx_plain.specs.declared.table.PlainTable.{PlainTable}
use Rattle.sx_plain.specs.Views.{table_of}
use Rattle.sx_rewrite.specs.declared.accepted.Accepted.{Accepted as Stored}
use Rattle.sx_rewrite.specs.declared.certificates.Certificates.{Certificates}
use Rattle.sx_rewrite.specs.declared.flat.Flat.{Flat}
use Rattle.sx_rewrite.specs.declared.grown.Grown.{Grown}
use Rattle.sx_rewrite.specs.Accepted.{Accepted}
use Rattle.sx_rewrite.specs.AcceptedView.{signature}
use Rattle.sx_rewrite.specs.Extensions.{HasGrownSoundly}
use Rattle.sx_rewrite.specs.Shallow.{IsShallowFlat}
use Rattle.sx_rewrite.specs.Sizes.{AreSizesOf}
use Rattle.sx_rewrite.specs.Stored.{accepted_from, IsSetHeld, ArePlain}

-- what is stored of the rules so far, and then of more
abbrev pub flats_with : Stored → Certificates → List Flat
flats_with set more = set.flats.items ++ more.flats.items

-- the set with these rules and this table, and with more stored
abbrev pub joined_set : Stored → Grown → PlainTable → Certificates → Accepted
joined_set set grown plain more = accepted_from (bare_rules_in set.base) (bare_rules_in grown.rules)
    (table_of plain) (flats_with set more)

-- with these rules, this table and what is stored of more rules, all that an accepted set promises
-- holds again
pub record CanJoin (set : Stored) (grown : Grown) (plain : PlainTable) (more : Certificates) :
    Type 0 where
  pub held : ∥ IsSetHeld (shapes_in set.base) (shapes_in grown.rules) (forms_in set.base)
      (forms_in grown.rules) (bare_rules_in grown.rules) (joined_set set grown plain more) ∥₁
  pub sound : HasGrownSoundly (signature set).subjects (length (shapes_in set.base))
      (joined_set set grown plain more)
  pub plain_are : ∥ ArePlain (shapes_in grown.rules) (shapes_in grown.plain_rules)
      (forms_in set.base) (forms_in grown.plain_rules) (table_of plain) (rules_in grown.rules)
      (rules_in grown.plain_rules) ∥₁
  pub shallow : ∥ AllByRecursion IsShallowFlat (flats_with set more) ∥₁
  pub sized : ∥ AreSizesOf (joined_set set grown plain more).more
      (set.sizes.items ++ more.sizes.items) ∥₁
  pub labels : plain.base ≡ length (shapes_in set.base)
  pub many : length (bare_rules_in grown.rules) ≡ set.first + length (flats_with set more)
