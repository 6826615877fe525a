-- The lines of a language file with an outline.
use Rattle.std.proofs.Common.{◌≡◌, ℕ, List, [], ◌∷◌, ◌++◌, Ok, Err, refl, sym, ap, subst, ◌∙◌, inl, false}
use Rattle.std.specs.Str.{IsUtf8}
use Rattle.std.proofs.lemmas.Bool.{false≢true}
use Rattle.sx_lines.specs.Lines.{Lines, over, line, lines_from}
use Rattle.sx_directives.specs.declared.file_kind.FileKind.TheVariants as files
use Rattle.sx_directives.specs.Rows.{IsRow}
use Rattle.sx_directives.specs.declared.row.Row.TheVariants.{Language}
use Rattle.sx_outline.specs.declared.outline_error.OutlineError.TheVariants.{Notation}
use Rattle.sx_outline.specs.Declarations.{Declared, nothing}
use Rattle.sx_outline.specs.Fitting.{IsMainOf}
use Rattle.sx_outline.specs.Known.{Declares, kept_lines}
use Rattle.sx_outline.specs.Stages.{Numbered, PlainData, RuleData, start}
use Rattle.sx_outline.specs.Outlined.{OutlineData, declared_by, IsEnd, IsOutlineOf, IsReadAs}
use Rattle.sx_outline.specs.Structure.{numbered_lines, AreDeclarations, ArePlainPairs, AreRuleRows, AreOutlineLines}
use Rattle.sx_outline.proofs.OutcomeSteps.{IsReached, reached, reaches_outcome}
use Rattle.sx_outline.proofs.FitLaws.{known_by, no_error}
use Rattle.sx_outline.proofs.LeftLines.{Whole, IsFile}
use Rattle.sx_outline.proofs.LinesLaws.{left_of}
use Rattle.sx_outline.proofs.LinesLead.{HasAll, all_of}
use Rattle.sx_outline.proofs.LinesDeclared.{none_first, head_same, tail_same, declares_of}

-- a language file has no plain pairs
pub no_pairs : (known : Declared) (lines : List Numbered) (plains : List PlainData) → ArePlainPairs files.Language known lines plains → lines ≡ []
no_pairs known [] [] h = refl
no_pairs known [] (p ∷ plains) h = absurd h
no_pairs known (l ∷ []) plains h = absurd h
no_pairs known (l ∷ body ∷ lines) [] h = absurd h
no_pairs known (l ∷ body ∷ lines) (p ∷ plains) h = absurd (false≢true h.0.spelled.word)

pub outline_lines : (name bytes : List ℕ) (o : OutlineData) → IsReadAs name bytes (Ok o) → AreOutlineLines name (numbered_lines (kept_lines (lines_from 1 bytes))) o
outline_lines name bytes o h =
    let lines : Lines = kept_lines (lines_from 1 bytes) in
    let last : IsReached files.Language h.known name start lines (λ s end. IsEnd s end (Ok o)) =
    reached files.Language h.known name (λ s end. IsEnd s end (Ok o)) (λ n kind. Ok o ≡ Err (Notation n kind)) (λ n kind e. no_error o n kind (Ok o) refl e) start lines h.outcome in
    let whole : Whole = record { plains = last.state.plains; rules = o.rules } in
    let left : IsFile files.Language h.known name nothing [] [] whole (numbered_lines lines) =
    left_of files.Language h.known name start lines last.state last.number whole h.declares last.reaches last.holds.0 refl last.holds.1.rules in
    let by = known_by name bytes o h in
    let rest = left.rest.rest in
    let none : rest.pairs ≡ [] = no_pairs h.known rest.pairs rest.more_plains rest.pairs_are in
    let others : left.rest.others ≡ rest.rule_lines = rest.lines_are ∙ ap (λ (x : List Numbered). x ++ rest.rule_lines) none in
    record {
      first = left.first;
      declarations = left.rest.declarations;
      rules = rest.rule_lines;
      lines_are = left.lines_are ∙ ap (λ (x : List Numbered). left.first ∷ x) (left.rest.lines_are ∙ ap (λ (x : List Numbered). left.rest.declarations ++ x) others);
      named = left.named;
      main_line = by.0;
      declared = subst (λ k. AreDeclarations files.Language k nothing left.rest.declarations k) by.1 left.rest.declared;
      main = by.2;
      rules_are = subst (AreRuleRows files.Language rest.rule_lines) (sym rest.rules_are) rest.are;
    }

-- ---- the other way

declares_file : (known : Declared) (name : List ℕ) (left : Lines) (first : Numbered) (declarations rule_lines : List Numbered) (rules : List RuleData)
    → numbered_lines left ≡ first ∷ declarations ++ rule_lines → IsRow files.Language first.text (Language name) → AreDeclarations files.Language known nothing declarations known
    → AreRuleRows files.Language rule_lines rules → Declares files.Language false nothing left known
declares_file known name (over n) first declarations rule_lines rules e named h rest = absurd (none_first first (declarations ++ rule_lines) e)
declares_file known name (line n text after more) first declarations rule_lines rules e named h rest =
    let here : Numbered = record { number = n; text = text } in
    let same : here ≡ first = head_same here first (numbered_lines more) (declarations ++ rule_lines) e in
    inl (
      Language name,
      subst (λ (x : Numbered). IsRow files.Language x.text (Language name)) (sym same) named,
      declares_of files.Language known nothing more declarations [] rule_lines [] rules (tail_same here first (numbered_lines more) (declarations ++ rule_lines) e) h tt rest,
    )

pub lines_outlined : (name bytes : List ℕ) (o : OutlineData) → IsUtf8 bytes → AreOutlineLines name (numbered_lines (kept_lines (lines_from 1 bytes))) o → IsReadAs name bytes (Ok o)
lines_outlined name bytes o utf8 h =
    let known : Declared = declared_by o h.main_line in
    let lines : Lines = kept_lines (lines_from 1 bytes) in
    let whole : Whole = record { plains = []; rules = o.rules } in
    let left : IsFile files.Language known name nothing [] [] whole (numbered_lines lines) = record {
      first = h.first;
      others = h.declarations ++ h.rules;
      lines_are = h.lines_are;
      named = h.named;
      rest = record {
        declarations = h.declarations;
        others = h.rules;
        lines_are = refl;
        declared = h.declared;
        rest = record {
          pairs = [];
          rule_lines = h.rules;
          lines_are = refl;
          declared = refl;
          more_plains = [];
          plains_are = refl;
          pairs_are = tt;
          more = o.rules;
          rules_are = refl;
          are = h.rules_are;
        };
      };
    } in
    let last : HasAll files.Language known name start lines whole = all_of files.Language known name start lines whole (o.main, h.main) left in
    let is : IsOutlineOf last.state o = record {
      line = h.main_line;
      declared = last.all.declared;
      main = subst (λ x. IsMainOf x h.main_line o.main) (sym last.all.declared) h.main;
      rules = last.all.rules_are;
    } in
    record {
      utf8 = utf8;
      known = known;
      declares = declares_file known name lines h.first h.declarations h.rules o.rules h.lines_are h.named h.declared h.rules_are;
      outcome = reaches_outcome files.Language known name (λ s end. IsEnd s end (Ok o)) (λ number kind. Ok o ≡ Err (Notation number kind)) start lines last.state last.number last.reaches (last.all.whole, is);
    }
