-- The lines of an extension file with an outline.
use Rattle.std.proofs.Common.{◌≡◌, ℕ, List, [], ◌∷◌, ◌++◌, Ok, Err, refl, sym, ap, subst, ◌∙◌}
use Rattle.std.specs.Str.{IsUtf8}
use Rattle.sx_lines.specs.Lines.{Lines, lines_from}
use Rattle.sx_grammar.specs.declared.sort_line.SortLine.{SortLine}
use Rattle.sx_directives.specs.declared.file_kind.FileKind.TheVariants as files
use Rattle.sx_directives.specs.declared.rows.VarLine.{VarLine}
use Rattle.sx_directives.specs.declared.row.Row.{Row}
use Rattle.sx_directives.specs.declared.row.Row.TheVariants.{Sort, Prod, Var, Form, Main, Plain, Rule}
use Rattle.sx_outline.specs.declared.outline_error.OutlineError.TheVariants.{Notation}
use Rattle.sx_outline.specs.Declarations.{Declared, declared_before}
use Rattle.sx_outline.specs.Headers.{HeaderData, IsHeaderIn, IsUseLine}
use Rattle.sx_outline.specs.Known.{kept_lines}
use Rattle.sx_outline.specs.Stages.{Numbered, PlainData, RuleData, start_after}
use Rattle.sx_outline.specs.Structure.{numbered_lines, IsDeclaring, AreDeclarations, ArePlainPairs, AreRuleRows, AreHeaderLines, AreExtensionLines}
use Rattle.sx_outline.specs.ExtensionOutlined.{ExtensionOutlineData, extension_declares, AreReadAfter, IsExtensionEnd, IsExtensionOutlineOf, IsExtensionReadAs}
use Rattle.sx_outline.specs.BadExtensions.{BeginOther, HaveHeader}
use Rattle.sx_outline.proofs.OutcomeSteps.{reaches_outcome}
use Rattle.sx_outline.proofs.LeftLines.{Whole, IsRestOfFile}
use Rattle.sx_outline.proofs.LinesLaws.{left_of}
use Rattle.sx_outline.proofs.LinesLead.{HasAll, all_of}
use Rattle.sx_outline.proofs.LinesDeclared.{declares_of, head_same}
use Rattle.sx_outline.proofs.UseLines.{HeaderTo, header_lines, IsOther, no_use, header_back, named_of}
use Rattle.sx_outline.proofs.ExtensionFits.{IsLastOf, last_of_extension, header_is, no_error}

-- what the lines are that come after a header
pub record LinesAfter (sorts : List SortLine) (vars : List VarLine) (h : HeaderData) (lines : List Numbered) (o : ExtensionOutlineData) : Type 0 where
  pub declarations : List Numbered
  pub pairs : List Numbered
  pub rules : List Numbered
  pub lines_are : lines ≡ declarations ++ (pairs ++ rules)
  pub header : o.header ≡ h
  pub declared : AreDeclarations files.Extension (extension_declares sorts o) (declared_before sorts vars h.uses) declarations (extension_declares sorts o)
  pub pairs_are : ArePlainPairs files.Extension (extension_declares sorts o) pairs o.plains
  pub rules_are : AreRuleRows files.Extension rules o.rules

after_lines : (sorts : List SortLine) (vars : List VarLine) (h : HeaderData) (lines : Lines) (o : ExtensionOutlineData) → AreReadAfter sorts vars h lines (Ok o)
    → LinesAfter sorts vars h (numbered_lines lines) o
after_lines sorts vars h lines o r =
    let base : Declared = declared_before sorts vars h.uses in
    let last : IsLastOf sorts vars h lines o r = last_of_extension sorts vars h lines o r in
    let whole : Whole = record { plains = o.plains; rules = o.rules } in
    let left : IsRestOfFile files.Extension r.known base [] [] whole (numbered_lines lines) =
    left_of files.Extension r.known h.name (start_after base) lines last.state last.number whole r.declares last.reaches last.whole last.is.plains last.is.rules in
    let rest = left.rest in
    record {
      declarations = left.declarations;
      pairs = rest.pairs;
      rules = rest.rule_lines;
      lines_are = left.lines_are ∙ ap (λ (x : List Numbered). left.declarations ++ x) rest.lines_are;
      header = last.is.header;
      declared = subst (λ k. AreDeclarations files.Extension k base left.declarations k) last.known_is left.declared;
      pairs_are = subst (ArePlainPairs files.Extension (extension_declares sorts o) rest.pairs) (sym rest.plains_are) (subst (λ k. ArePlainPairs files.Extension k rest.pairs rest.more_plains) last.known_is rest.pairs_are);
      rules_are = subst (AreRuleRows files.Extension rest.rule_lines) (sym rest.rules_are) rest.are;
    }

pub extension_lines : (sorts : List SortLine) (vars : List VarLine) (bytes : List ℕ) (o : ExtensionOutlineData) → IsExtensionReadAs sorts vars bytes (Ok o)
    → AreExtensionLines sorts vars (numbered_lines (kept_lines (lines_from 1 bytes))) o
extension_lines sorts vars bytes o r =
    let head : HeaderTo (kept_lines (lines_from 1 bytes)) (λ h lines. AreReadAfter sorts vars h lines (Ok o)) =
    header_lines (λ h lines. AreReadAfter sorts vars h lines (Ok o)) (λ number bad. Ok o ≡ Err (Notation number bad)) (λ n bad e. no_error o n bad (Ok o) refl e) (kept_lines (lines_from 1 bytes)) r.1 in
    let rest : LinesAfter sorts vars head.last (numbered_lines head.left) o = after_lines sorts vars head.last head.left o head.holds in
    record {
      header = head.front;
      declarations = rest.declarations;
      pairs = rest.pairs;
      rules = rest.rules;
      lines_are = head.lines_are ∙ ap (λ (x : List Numbered). head.front ++ x) rest.lines_are;
      header_is = subst (AreHeaderLines head.front) (sym rest.header) head.is;
      declared = subst (λ (x : HeaderData). AreDeclarations files.Extension (extension_declares sorts o) (declared_before sorts vars x.uses) rest.declarations (extension_declares sorts o)) (sym rest.header) rest.declared;
      pairs_are = rest.pairs_are;
      rules_are = rest.rules_are;
    }

-- ---- the other way

rules_other : (lines : List Numbered) (rules : List RuleData) → AreRuleRows files.Extension lines rules → BeginOther lines
rules_other [] rules h = tt
rules_other (l ∷ lines) [] h = absurd (no_lines l lines h)
  where
    no_lines : (l : Numbered) (lines : List Numbered) → l ∷ lines ≡ [] → ⊥
    no_lines l lines e = cc
rules_other (l ∷ lines) (r ∷ rules) (front, back, parts, rule, others) =
    let whole : l ∷ lines ≡ rule.first ∷ (r.premises ++ rule.bar ∷ r.conclusion ∷ rule.bodies ++ rule.last ∷ []) ++ back = parts ∙ ap (λ (x : List Numbered). x ++ back) rule.lines_are in
    subst (λ (x : Numbered). IsUseLine x.text → ⊥) (sym (head_same l rule.first lines ((r.premises ++ rule.bar ∷ r.conclusion ∷ rule.bodies ++ rule.last ∷ []) ++ back) whole))
    (no_use rule.first.text (Rule r.name) rule.begins tt)

pairs_other : (known : Declared) (pairs rules : List Numbered) (plains : List PlainData) → ArePlainPairs files.Extension known pairs plains → BeginOther rules → BeginOther (pairs ++ rules)
pairs_other known [] rules plains h k = k
pairs_other known (first ∷ []) rules plains h k = absurd h
pairs_other known (first ∷ body ∷ pairs) rules [] h k = absurd h
pairs_other known (first ∷ body ∷ pairs) rules (p ∷ plains) h k = no_use first.text (Plain h.0.row) h.0.spelled tt

declaring_other : (row : Row) → IsDeclaring row → IsOther row
declaring_other (Sort s) h = tt
declaring_other (Prod p) h = tt
declaring_other (Var v) h = tt
declaring_other (Form f) h = tt
declaring_other (Main m) h = tt
declaring_other _ h = absurd h

declarations_other : (known d all : Declared) (declarations rest : List Numbered) → AreDeclarations files.Extension known d declarations all → BeginOther rest → BeginOther (declarations ++ rest)
declarations_other known d all [] rest h k = k
declarations_other known d all (l ∷ declarations) rest (row, spelled, declaring, fits, h) k = no_use l.text row spelled (declaring_other row declaring)

after_of : (sorts : List SortLine) (vars : List VarLine) (o : ExtensionOutlineData) (left : Lines) (declarations pairs rules : List Numbered) → numbered_lines left ≡ declarations ++ (pairs ++ rules)
    → AreDeclarations files.Extension (extension_declares sorts o) (declared_before sorts vars o.header.uses) declarations (extension_declares sorts o)
    → ArePlainPairs files.Extension (extension_declares sorts o) pairs o.plains → AreRuleRows files.Extension rules o.rules → AreReadAfter sorts vars o.header left (Ok o)
after_of sorts vars o left declarations pairs rules e declared pairs_are rules_are =
    let known : Declared = extension_declares sorts o in
    let base : Declared = declared_before sorts vars o.header.uses in
    let whole : Whole = record { plains = o.plains; rules = o.rules } in
    let rest : IsRestOfFile files.Extension known base [] [] whole (numbered_lines left) = record {
      declarations = declarations;
      others = pairs ++ rules;
      lines_are = e;
      declared = declared;
      rest = record {
        pairs = pairs;
        rule_lines = rules;
        lines_are = refl;
        declared = refl;
        more_plains = o.plains;
        plains_are = refl;
        pairs_are = pairs_are;
        more = o.rules;
        rules_are = refl;
        are = rules_are;
      };
    } in
    let last : HasAll files.Extension known o.header.name (start_after base) left whole = all_of files.Extension known o.header.name (start_after base) left whole tt rest in
    let is : IsExtensionOutlineOf sorts o.header last.state o = record { header = refl; declared = last.all.declared; plains = last.all.plains_are; rules = last.all.rules_are } in
    record {
      known = known;
      declares = declares_of files.Extension known base left declarations pairs rules o.plains o.rules e declared pairs_are rules_are;
      outcome = reaches_outcome files.Extension known o.header.name (λ s end. IsExtensionEnd sorts o.header s (Ok o)) (λ number bad. Ok o ≡ Err (Notation number bad)) (start_after base) left
          last.state last.number last.reaches (last.all.whole, is);
    }

pub lines_extended : (sorts : List SortLine) (vars : List VarLine) (bytes : List ℕ) (o : ExtensionOutlineData) → IsUtf8 bytes
    → AreExtensionLines sorts vars (numbered_lines (kept_lines (lines_from 1 bytes))) o → IsExtensionReadAs sorts vars bytes (Ok o)
lines_extended sorts vars bytes o utf8 h =
    let known : Declared = extension_declares sorts o in
    let base : Declared = declared_before sorts vars o.header.uses in
    let rest : List Numbered = h.declarations ++ (h.pairs ++ h.rules) in
    let other : BeginOther rest =
    declarations_other known base known h.declarations (h.pairs ++ h.rules) h.declared (pairs_other known h.pairs h.rules o.plains h.pairs_are (rules_other h.rules o.rules h.rules_are)) in (
      utf8,
      header_back (λ x lines. AreReadAfter sorts vars x lines (Ok o)) (λ number bad. Ok o ≡ Err (Notation number bad)) (kept_lines (lines_from 1 bytes)) h.header rest o.header h.lines_are h.header_is other
          (λ left e. after_of sorts vars o left h.declarations h.pairs h.rules e h.declared h.pairs_are h.rules_are),
    )

-- ---- the header

pub header_of_outline : (sorts : List SortLine) (vars : List VarLine) (bytes : List ℕ) (o : ExtensionOutlineData) → IsExtensionReadAs sorts vars bytes (Ok o) → IsHeaderIn o.header.name bytes (Ok o.header)
header_of_outline sorts vars bytes o r = (
  r.0,
  named_of (λ h lines. AreReadAfter sorts vars h lines (Ok o)) (λ number bad. Ok o ≡ Err (Notation number bad)) (λ n bad e. no_error o n bad (Ok o) refl e) o.header
      (λ h lines k. header_is sorts vars h lines o k) (kept_lines (lines_from 1 bytes)) r.1,
)

pub lines_have_header : (sorts : List SortLine) (vars : List VarLine) (lines : List Numbered) (o : ExtensionOutlineData) → AreExtensionLines sorts vars lines o
    → HaveHeader (λ x. x ≡ o.header.name) lines
lines_have_header sorts vars lines o h =
    let known : Declared = extension_declares sorts o in
    record {
      header = o.header;
      front = h.header;
      rest = h.declarations ++ (h.pairs ++ h.rules);
      lines_are = h.lines_are;
      such = refl;
      are = h.header_is;
      other = declarations_other known (declared_before sorts vars o.header.uses) known h.declarations (h.pairs ++ h.rules) h.declared
          (pairs_other known h.pairs h.rules o.plains h.pairs_are (rules_other h.rules o.rules h.rules_are));
    }
