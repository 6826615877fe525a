-- The outline of an extension file fits what comes before it.
use Rattle.std.proofs.Common.{◌≡◌, ℕ, ◌+◌, ◌≤◌, ◌^◌, Bool, true, false, if◌then◌else◌, List, [], ◌∷◌, ◌++◌, length, length-append, map, Option, Some, None, Ok, Err, Contains, refl, ap, ◌∙◌, sym, subst, arith}
use Rattle.std.specs.Prelude.{IfSome}
use Rattle.std.specs.List.{AllByRecursion, find}
use Rattle.std.specs.Str.{bytes_eq}
use Rattle.std.proofs.lemmas.Slice.Eq.{bytes_eq-Decides}
use Rattle.std.proofs.lemmas.List.{map-append}
use Rattle.std.proofs.lemmas.Option.{none-some}
use Rattle.std.proofs.lemmas.List.Elements.{Contains-append_right}
use Rattle.sx_grammar.specs.Grammar.{Text}
use Rattle.sx_grammar.specs.Parts.{Line, Parts, labels, literals}
use Rattle.sx_grammar.specs.Made.{IsGrammar}
use Rattle.sx_grammar.specs.Tables.{IsWithinLimits, HasGoodLevels}
use Rattle.sx_grammar.proofs.Finding.{is_head, past_head}
use Rattle.sx_earley.specs.Completed.{IsSort}
use Rattle.sx_directives.specs.declared.rows.FormLine.{FormLine}
use Rattle.sx_directives.specs.declared.rows.VarLine.{VarLine}
use Rattle.sx_outline.specs.declared.extension_outline.ExtensionOutline.{ExtensionOutline}
use Rattle.sx_outline.specs.declared.outline_error.OutlineError.{OutlineError}
use Rattle.sx_outline.specs.declared.outline_error.OutlineError.TheVariants as outline
use Rattle.sx_outline.specs.declared.rule_lines.RuleLines.{RuleLines}
use Rattle.sx_outline.specs.Fitting.{ArePartNames}
use Rattle.sx_outline.specs.Sized.{HasShortLines}
use Rattle.sx_outline.specs.Stages.{Numbered, PlainData, rule_data}
use Rattle.sx_outline.specs.ExtensionOutlined.{ExtensionOutlineData, extension_outline}
use Rattle.sx_outline.specs.ExtensionOutlined.{extension_declares, IsExtensionOutlined}
use Rattle.sx_outline.specs.ExtensionSized.{IsExtensionSized, IsExtensionFit}
use Rattle.sx_notation.specs.declared.notation_error.NotationError.{NotationError}
use Rattle.sx_notation.specs.ReadText.{ReaderData}
use Rattle.sx_notation.specs.RuleParts.{rule_parts}
use Rattle.sx_language.specs.States.{IsNameOfSort, AreStems}
use Rattle.sx_extension.specs.Grounds.{Ground, IsGroundBefore}
use Rattle.sx_extension.specs.Readings.{with_own}
use Rattle.sx_extension.specs.Stages.{HasRoom, HasFewProductions, IsUsableExtension}
use Rattle.sx_extension.specs.Stages.{IsOutlineRefusal, IsUnoutlined, CanReadPlain}
use Rattle.sx_extension.proofs.Rooms.{has_fewer, room, rule_room}
use Rattle.sx_extension.proofs.Grounding.{stems_named, all_append, sort_read}

-- ---- lines that are not too long

short_line : (size : ℕ) (l : List Numbered) → size ≤ 262144 → AllByRecursion (λ x. length x.text ≤ size) l → AllByRecursion (λ x. length x.text ≤ 262144) l
short_line size [] low h = tt
short_line size (x ∷ xs) low h = (omega (arith, low, h.0), short_line size xs low h.1)

short_body : (size : ℕ) (body : Option Numbered) → size ≤ 262144 → IfSome body (λ l. length l.text ≤ size) → IfSome body (λ l. length l.text ≤ 262144)
short_body size None low h = tt
short_body size (Some l) low h = omega (arith, low, h)

short_rules : (size : ℕ) (ls : List RuleLines) → size ≤ 262144 → AllByRecursion (HasShortLines size) (map rule_data ls) → AllByRecursion (λ l. HasShortLines 262144 (rule_data l)) ls
short_rules size [] low h = tt
short_rules size (l ∷ ls) low h = ((omega (arith, low, h.0.0), short_line size (rule_data l).premises low h.0.1, omega (arith, low, h.0.2), short_body size (rule_data l).body low h.0.3), short_rules size ls low h.1)

short_plains : (size : ℕ) (ls : List PlainData) → size ≤ 262144 → AllByRecursion (λ p. length p.body.text ≤ size) ls → AllByRecursion (λ p. length p.body.text ≤ 262144) ls
short_plains size [] low h = tt
short_plains size (l ∷ ls) low h = (omega (arith, low, h.0), short_plains size ls low h.1)

-- ---- an outline that fits

module _ (g : Ground) (before : IsGroundBefore g) (within : IsWithinLimits g.grammar.parts) (rules_within : IsWithinLimits g.by_rules) where
  has_room : (own : List Line) → length own + length (literals (record { sorts = []; productions = own })) ≤ 262144 → HasGoodLevels (record { sorts = []; productions = own }) → HasRoom g own
  has_room own few levels =
      let p = g.grammar.parts in
      let productions = subst (λ (y : Parts). length y.productions + 262144 ≤ 2 ^ 31) before.forms.read_by before.room.productions in
      let texts = subst (λ (y : Parts). length (literals y) + 262144 ≤ 2 ^ 31) before.forms.read_by before.room.literals in
      record {
        few = omega (arith, productions, few, has_fewer p before.lines own few levels, length-append p.productions own);
        limits = room p before.lines own few levels within productions texts;
        rule_limits = λ lines has.
            rule_room p lines own few levels (subst (λ (y : Parts). IsWithinLimits y) has.read_by rules_within)
            (subst (λ (y : Parts). length y.productions + 262144 ≤ 2 ^ 31) has.read_by before.room.productions)
            (subst (λ (y : Parts). length (literals y) + 262144 ≤ 2 ^ 31) has.read_by before.room.literals);
      }

  pub usable : (bytes : Text) (vars : List VarLine) (o : ExtensionOutline) → length bytes ≤ 262144 → AreStems g.language vars g.stems → IsExtensionOutlined g.language.sorts vars bytes (Ok o) →
      IsExtensionSized (length bytes) (length vars) (extension_outline o) → IsExtensionFit g.language.sorts vars (extension_outline o) → IsUsableExtension g bytes o
  usable bytes vars o low stems outlined sized fit = record {
    before = vars;
    stems = stems;
    outlined = outlined;
    fit = fit;
    few = few;
    room = has_room (extension_outline o).productions (omega (arith, few)) sized.levels;
    sorts = subst (AllByRecursion (λ v. IsNameOfSort g.language v.sort)) (sym fit.vars_are)
        (all_append (λ v. IsNameOfSort g.language v.sort) vars fit.own (stems_named g.language vars g.stems stems) fit.sorts_known);
    plains = short_plains (length bytes) (extension_outline o).plains low sized.plains;
    lines = short_rules (length bytes) o.rules.items low sized.lines;
  }
    where
      many : length o.vars.items ≡ length vars + length fit.own
      many = ap length fit.vars_are ∙ length-append vars fit.own

      few : HasFewProductions (extension_outline o)
      few = omega (arith, sized.many, low, many)

-- ---- no outline

pub unoutlined : (g : Ground) (bytes : Text) (vars : List VarLine) (e : OutlineError) (x : NotationError) → AreStems g.language vars g.stems → IsExtensionOutlined g.language.sorts vars bytes (Err e) → IsOutlineRefusal e x →
    IsUnoutlined g bytes x
unoutlined g bytes vars outline.Memory x stems h is = subst (IsUnoutlined g bytes) (sym is) tt
unoutlined g bytes vars (outline.NotUtf8 place) x stems h is = subst (IsUnoutlined g bytes) (sym is) (record { before = vars; stems = stems; refused = h })
unoutlined g bytes vars (outline.Notation line kind) x stems h is = subst (IsUnoutlined g bytes) (sym is) (record { before = vars; stems = stems; refused = h })

-- ---- plain pairs

-- a production that is found by its label has it
found_label : (label : Text) (ls : List Line) (line : Line) → find (λ p. bytes_eq p.label label) ls ≡ Some line → Contains (map (λ p. p.label) ls) label
found_label label [] line e = absurd (none-some line e)
found_label label (l ∷ ls) line e = by (bytes_eq l.label label) refl (found_label label ls line) e
  where
    by : (b : Bool) → bytes_eq l.label label ≡ b → (find (λ p. bytes_eq p.label label) ls ≡ Some line → Contains (map (λ p. p.label) ls) label) →
        (if b then Some l else find (λ p. bytes_eq p.label label) ls) ≡ Some line → Contains (map (λ p. p.label) (l ∷ ls)) label
    by true t rest k =
        let q : l.label ≡ label = (bytes_eq-Decides l.label label).0 t in
        subst (λ (n : Text). Contains (n ∷ map (λ p. p.label) ls) label) (sym q) (is_head label (map (λ p. p.label) ls))
    by false t rest k = past_head l.label (map (λ p. p.label) ls) label (rest k)

module _ (g : Ground) (lines : List FormLine) (o : ExtensionOutlineData) (p : Parts) (r : ReaderData) (is : p ≡ with_own g o.productions) (made : IsGrammar p) (by : r.parts ≡ rule_parts p lines) where
  label_there : (label : Text) → Contains (map (λ q. q.label) o.productions) label → Contains (labels p) label
  label_there label h =
      let both : labels p ≡ map (λ q. q.label) g.grammar.parts.productions ++ map (λ q. q.label) o.productions =
      ap labels is ∙ map-append (λ q. q.label) g.grammar.parts.productions o.productions in
      subst (λ (ns : List Text). Contains ns label) (sym both) (Contains-append_right (map (λ q. q.label) g.grammar.parts.productions) (map (λ q. q.label) o.productions) label h)

  pub pairs_read : (ls : List PlainData) → AllByRecursion (λ l. ArePartNames (extension_declares g.language.sorts o) l.label l.names) ls → AllByRecursion (λ l. length l.body.text ≤ 262144) ls →
      AllByRecursion (CanReadPlain p r) ls
  pairs_read [] fit short = tt
  pairs_read (l ∷ ls) fit short = (
    record {
      there = label_there l.label (found_label l.label o.productions fit.0.line fit.0.line_is);
      sort = λ number s h. subst (λ (y : Parts). IsSort y s) (sym by) (sort_read p lines made number s h);
      once = fit.0.once;
      short = short.0;
    },
    pairs_read ls fit.1 short.1,
  )
