-- What is typed in a dialect is good.
use Rattle.std.proofs.Common.{sym, ◌∙◌, subst}
use Rattle.sx_term.specs.declared.role.Role.TheVariants.{Out}
use Rattle.sx_grammar.specs.Tables.{literals_of}
use Rattle.sx_grammar.specs.Told.{shapes_of}
use Rattle.sx_rules.specs.Modes.{Goal}
use Rattle.sx_rewrite.specs.Stored.{signature_of}
use Rattle.sx_lexemes.specs.Lexemes.{IsToken, AllLexemesAre}
use Rattle.sx_lexemes.proofs.Lowered.{lowered_keep_lexemes}
use Rattle.sx_typing.specs.GoodTypings.{TypingsAreGood}
use Rattle.sx_typing.specs.Goals.{goal_with}
use Rattle.sx_rules.specs.Rules.{no_hypotheses}
use Rattle.sx_typing.specs.BodySource.{IsTermFor}
use Rattle.sx_typing.proofs.Lexemes.{all_to_tokens, all_from_tokens}
use Rattle.sx_typing.proofs.ReadSorted.{body_is_term}
use Rattle.sx_typing.proofs.TypedBodies.{found_good, head_same, source_goal}

pub typings_are_good : TypingsAreGood
typings_are_good s is he tries t =
    let d = s.dialect in
    let b = t.body in
    let hs = body_is_term s is b.tokens b.reading b.subject b.read in
    let asked = source_goal s is b.subject he hs in
    let good = found_good s is b.subject he hs tries t.answer t.typed.finds in
    let literals = literals_of d.language.parts in
    record {
      subject = hs;
      output = subst (IsTermFor d Out)
          (head_same good.output t.output (sym good.one ∙ t.typed.gives)) good.good;
      sorted = asked.sorted;
      derives = good.derives;
      rewritable = good.rewritable;
      lowered = λ q k low.
          let j = good.derives.0 in
          let ins =
          subst (λ (g : Goal). AllLexemesAre (IsToken literals) g.terms) (sym good.derives.1)
          (all_to_tokens literals (goal_with s b.subject).terms asked.lexemes) in
          all_from_tokens literals k.places
          (lowered_keep_lexemes literals (signature_of d.language.forms)
          (shapes_of d.language.parts) (shapes_of d.parts) d.set is.accepted is.lexemes
          no_hypotheses tt t.answer.0 q j k good.derives.3 ins low);
    }
