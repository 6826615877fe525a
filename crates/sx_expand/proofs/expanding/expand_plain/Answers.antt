use Rattle.std.proofs.Common.{refl, sym}
use Rattle.sx_rules.specs.Views.{goal as goal_of}
use Rattle.sx_rewrite.proofs.Sources.{plain-set}
use Rattle.sx_expand.specs.Listed.{signature_in, entries_in}
use Rattle.sx_expand.proofs.Expansion.{listed-as, expanding-as}
use Rattle.sx_expand.proofs.OwnRules.{plain-rules}
use Rattle.sx_expand.proofs.expanding.expand_plain.Goals as goal

pub expand_reading-requires-clause-reading : goal.expand_reading-requires-clause-reading
expand_reading-requires-clause-reading c =
    let l = c.args.listing.now in
    let facts = c.facts.ensures in
    let rules = c.plain_rules.result in
    let same = plain-set (record { set = l.set; rules = rules; given = c.args.given })
    c.plain_rules.ensures facts.plain in
    record {
      ends = c.requires.ends;
      rules =
          plain-rules l.set.now rules.now c.plain_rules.ensures same facts.accepted
          facts.plain_rules facts.plain.forms_are;
      given = c.requires.given;
    }

pub expand_reading-requires-clause-listed : goal.expand_reading-requires-clause-listed
expand_reading-requires-clause-listed c =
    let l = c.args.listing.now in
    let same = plain-set (record { set = l.set; rules = c.plain_rules.result; given = c.args.given })
    c.plain_rules.ensures c.facts.ensures.plain in
    let r = c.requires.listed in
    (r.0, listed-as (sym same) refl (goal_of c.args.goal.now) (entries_in l) r.0 r.1)

pub returns : goal.returns
returns c = λ answer is.
    let l = c.args.listing.now in
    let same = plain-set (record { set = l.set; rules = c.plain_rules.result; given = c.args.given })
    c.plain_rules.ensures c.facts.ensures.plain in
    let own = listed-as (sym same) refl (goal_of c.args.goal.now) (entries_in l) answer is in
    expanding-as same refl (signature_in l).subjects answer.0 c.args.budget c.expand_reading.result
    (c.expand_reading.ensures answer own)
