-- An extension file that is prepared, or why it is not.
use Rattle.std.proofs.Common.{◌≡◌, ◌-◌, ◌<◌, ◌^◌, List, length, map, refl, ap, ◌∙◌, sym, subst}
use Rattle.std.specs.List.{AllByRecursion}
use Rattle.sx_grammar.specs.Grammar.{Text}
use Rattle.sx_grammar.specs.Parts.{Line, Parts}
use Rattle.sx_grammar.specs.Tables.{GrammarData}
use Rattle.sx_grammar.specs.Made.{IsGrammar}
use Rattle.sx_directives.specs.declared.rows.VarLine.{VarLine}
use Rattle.sx_outline.specs.declared.extension_outline.ExtensionOutline.{ExtensionOutline}
use Rattle.sx_outline.specs.declared.rule_lines.RuleLines.{RuleLines}
use Rattle.sx_outline.specs.Stages.{PlainData, plain_data, rule_data}
use Rattle.sx_outline.specs.ExtensionOutlined.{extension_outline}
use Rattle.sx_outline.specs.Sized.{HasShortLines}
use Rattle.sx_notation.specs.declared.notation_error.NotationError.{NotationError}
use Rattle.sx_notation.specs.declared.notation_error.NotationError.TheVariants.{Memory, NotUtf8}
use Rattle.sx_notation.specs.declared.notation_error.NotationError.TheVariants.{Notation, Token}
use Rattle.sx_notation.specs.declared.notation_error.NotationError.TheVariants.{Grammar, Read}
use Rattle.sx_notation.specs.declared.notation_error.NotationError.TheVariants.{Rules}
use Rattle.sx_notation.specs.RuleParts.{rule_parts}
use Rattle.sx_language.specs.States.{IsNameOfSort, AreStems}
use Rattle.sx_extension.specs.declared.prepared.Prepared.{Prepared}
use Rattle.sx_extension.specs.Grounds.{Ground, IsGroundBefore}
use Rattle.sx_extension.specs.Readings.{HasOutline, with_own, AreGrammars, tables}
use Rattle.sx_extension.specs.Stages.{IsUsableExtension, IsUnoutlined, IsUngrammatical}
use Rattle.sx_extension.specs.Stages.{IsUnprepared, IsPreparedExtension, CanReadPlain, reader_of}
use Rattle.sx_extension.proofs.Grounding.{names_kept, same_sorts, reads}
use Rattle.sx_extension.proofs.Outlining.{pairs_read}

-- the sorts of stems are those of the language
pub stems_known : (g : Ground) (before : IsGroundBefore g) (own : List Line) (p : Parts) (vs : List VarLine) → p ≡ with_own g own → AllByRecursion (λ v. IsNameOfSort g.language v.sort) vs →
    AllByRecursion (λ v. IsNameOfSort p v.sort) vs
stems_known g before own p vs is h =
    subst (λ (q : Parts). AllByRecursion (λ v. IsNameOfSort q v.sort) vs) (sym is) (names_kept g.language (with_own g own) (sym (same_sorts g before own)) vs h)

module _ (g : Ground) (bytes : Text) where
  -- a text without an outline is not prepared
  pub no_outline : (e : NotationError) → IsUnoutlined g bytes e → IsUnprepared g bytes e
  no_outline Memory h = tt
  no_outline (NotUtf8 place) h = h
  no_outline (Notation line kind) h = h
  no_outline (Token line e) h = h
  no_outline (Grammar e) h = absurd h
  no_outline (Read line e) h = h
  no_outline (Rules e v) h = h

  outlined : (o : ExtensionOutline) → IsUsableExtension g bytes o → HasOutline g bytes (extension_outline o)
  outlined o h = record { before = h.before; stems = h.stems; outlined = h.outlined }

  -- a text without grammars is not prepared
  pub no_grammars : (o : ExtensionOutline) → IsUsableExtension g bytes o → (e : NotationError) → IsUngrammatical g (extension_outline o).productions e → IsUnprepared g bytes e
  no_grammars o h Memory k = tt
  no_grammars o h (NotUtf8 place) k = absurd k
  no_grammars o h (Notation line kind) k = absurd k
  no_grammars o h (Token line e) k = absurd k
  no_grammars o h (Grammar e) k = (extension_outline o, outlined o h, k)
  no_grammars o h (Read line e) k = absurd k
  no_grammars o h (Rules e v) k = absurd k

  module _ (before : IsGroundBefore g) (o : ExtensionOutline) (h : IsUsableExtension g bytes o) (grammar rule : GrammarData) (made : AreGrammars g (extension_outline o).productions grammar rule) where
    pub prepared : (x : Prepared) → x.grammar ≡ grammar → x.rule_grammar ≡ rule → AreStems grammar.parts o.vars.items x.metas.stems.items → x.name ≡ o.header.name → x.plains.items ≡ o.plains.items →
        x.rules.items ≡ o.rules.items → IsPreparedExtension g bytes x
    prepared x base by stems name plains rules =
        let out = extension_outline o in
        let own = out.productions in
        let p = with_own g own in
        let r = reader_of g x in
        let parts : x.grammar.parts ≡ p = ap (λ (y : GrammarData). y.parts) base ∙ made.parts in
        let rule_is : x.rule_grammar.parts ≡ rule_parts p made.lines = ap (λ (y : GrammarData). y.parts) by ∙ made.read_by in
        let are : AreStems p out.vars x.metas.stems.items = subst (λ (y : Parts). AreStems y out.vars x.metas.stems.items) made.parts stems in
        record {
          from = out;
          readable = record {
            outlined = outlined o h;
            grammars = subst (λ (y : GrammarData). AreGrammars g own y x.rule_grammar) (sym base) (subst (λ (y : GrammarData). AreGrammars g own grammar y) (sym by) made);
            read_by = refl;
            stems = subst (λ (y : GrammarData). AreStems y.parts out.vars x.metas.stems.items) (sym base) stems;
            forms = refl;
          };
          name = name;
          plains = ap (map plain_data) plains;
          rules = ap (map rule_data) rules;
          named = h.fit.plains;
          few = h.few;
          can = record {
            few = subst (λ (y : Parts). length y.productions < 2 ^ 32 - 1) (sym parts) h.room.few;
            can = reads g before own made.lines made.has_forms made.is_grammar out.vars r are rule_is refl;
            pairs = subst (λ (ls : List PlainData). AllByRecursion (CanReadPlain x.grammar.parts (tables r)) ls) (sym (ap (map plain_data) plains))
                (pairs_read g made.lines out x.grammar.parts (tables r) parts (subst (λ (y : Parts). IsGrammar y) (sym parts) made.is_grammar)
                (rule_is ∙ ap (λ (y : Parts). rule_parts y made.lines) (sym parts)) out.plains h.fit.plains h.plains);
            short = subst (λ (ls : List RuleLines). AllByRecursion (λ l. HasShortLines 262144 (rule_data l)) ls) (sym rules) h.lines;
          };
        }
