use Rattle.std.proofs.Common.{sym, subst, ℕ, Option}
use Rattle.std.specs.Prelude.{MatchOption}
use Rattle.sx_term.specs.Term.{tree}
use Rattle.sx_plain.specs.Plain.{Body}
use Rattle.sx_plain.specs.Tables.{IsFlat}
use Rattle.sx_plain.specs.Adds.{UsesAll, IsFirstDropped}
use Rattle.sx_plain.specs.Views.{table_of}
use Rattle.sx_plain.proofs.AddLaws.{flat-image}
use Rattle.sx_plain.proofs.Kept.{kept_flat, unrefuted}
use Rattle.sx_plain.proofs.table.PlainTable.add.Goals as goal

pub new-requires-clause-parts : goal.new-requires-clause-parts
new-requires-clause-parts c =
    let flat = flat-image c.args.self.now.base (table_of c.args.self.now) c.args.arity (tree c.args.term) (tree c.in-Ok.flat) c.in-Ok.ensures.0 (sym c.in_default.ensures) c.requires.fits c.requires.parts
    (subst (λ (o : Option ℕ). MatchOption o (UsesAll c.args.arity (tree c.args.term)) (λ v. IsFirstDropped c.args.arity (tree c.args.term) v)) c.in_default-2.is c.in_ok-part.ensures) c.args.self.now.is_table in
    (kept_flat c.args.self.now.base _ (unrefuted flat)).parts

pub put-requires-clause-flat : goal.put-requires-clause-flat
put-requires-clause-flat c =
    subst (λ (b : Body). ∥ IsFlat c.args.self.now.base b ∥₁) (sym c.in_ok-entry-in-Ok.ensures)
    (flat-image c.args.self.now.base (table_of c.args.self.now) c.args.arity (tree c.args.term) (tree c.in-Ok.flat) c.in-Ok.ensures.0 (sym c.in_default.ensures) c.requires.fits c.requires.parts
    (subst (λ (o : Option ℕ). MatchOption o (UsesAll c.args.arity (tree c.args.term)) (λ v. IsFirstDropped c.args.arity (tree c.args.term) v)) c.in_default-2.is c.in_ok-part.ensures) c.args.self.now.is_table)
