-- Plain rules: extension rules with plain images in all their places.
use Rattle.std.specs.Prelude.{◌≤◌, map}
use Rattle.std.specs.List.{AllByRecursion}
use Rattle.sx_term.specs.Tree.{Tree, depth_of, size_of}
use Rattle.sx_rules.specs.Views.{NamedRule}
use Rattle.sx_plain.specs.Tables.{FitsTable}
use Rattle.sx_rules.specs.Rules.{Judgement, Premise, holds, apart, Rule}
use Rattle.sx_plain.specs.Plain.{Table, image}
use Rattle.sx_rewrite.specs.Accepted.{Checked, Accepted}
use Rattle.sx_term.specs.Limits.{most_depth, most_size}

-- the judgement with plain images at all its places
abbrev pub image_judgement : Table → Judgement → Judgement
image_judgement table j = record { form = j.form; places = map (image table) j.places }

-- the premise with plain images
abbrev pub image_premise : Table → Premise → Premise
image_premise table (holds j) = holds (image_judgement table j)
image_premise table (apart t u) = apart (image table t) (image table u)

-- The plain rule: each term gives way to its plain image. A typed constructor has no entry, so it
-- stays as it is, and so does the bare variable that is a premise's subject.
abbrev pub plain_rule : Table → Rule → Rule
plain_rule table rule = record {
  sorts = rule.sorts;
  premises = map (image_premise table) rule.premises;
  conclusion = image_judgement table rule.conclusion;
}

-- the plain rule, with what is stored of the rule
abbrev pub plain_checked : Table → Checked → Checked
plain_checked table c = record { rule = plain_rule table c.rule; body = c.body; proof = c.proof }

-- the base rules, and the plain rules in place of the extension rules
abbrev pub plain_of : Accepted → Accepted
plain_of a = record { base = a.base; more = map (plain_checked a.table) a.more; table = a.table }

-- the plain rule, with the name of the rule
abbrev pub plain_named : Table → NamedRule → NamedRule
plain_named table r = record { name = r.name; rule = plain_rule table r.rule }

-- the term is no deeper than 1,000, each of its nodes has as many parts as the table asks for,
-- and its plain image is within the limits of terms
pub record HasImage (table : Table) (t : Tree) : Type 0 where
  pub shallow : depth_of t ≤ most_depth
  pub fits : FitsTable table t
  pub image_shallow : depth_of (image table t) ≤ most_depth
  pub image_small : size_of (image table t) ≤ most_size

-- so it is of the terms of the premise
abbrev pub PremiseHasImage : Table → Premise → Type 0
PremiseHasImage table (holds j) = AllByRecursion (HasImage table) j.places
PremiseHasImage table (apart t u) = HasImage table t × HasImage table u

-- so it is of the terms of the rule
abbrev pub RuleHasImage : Table → Rule → Type 0
RuleHasImage table rule =
    AllByRecursion (HasImage table) rule.conclusion.places
    × AllByRecursion (PremiseHasImage table) rule.premises
