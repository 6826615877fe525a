-- An extension file has one answer.
use Rattle.std.proofs.Common.{◌≡◌, ◌≢◌, ℕ, false, List, Result, Ok, Err, refl, sym, ap, subst, ◌∙◌}
use Rattle.sx_lines.specs.Lines.{Lines, lines_from}
use Rattle.sx_lines.specs.declared.kind.Kind.TheVariants.{Head, Directive, Shape, Order, Unfinished, Main, Variable}
use Rattle.sx_grammar.specs.declared.sort_line.SortLine.{SortLine}
use Rattle.sx_directives.specs.declared.file_kind.FileKind.TheVariants as files
use Rattle.sx_directives.specs.declared.rows.VarLine.{VarLine}
use Rattle.sx_outline.specs.declared.outline_error.OutlineError.{OutlineError}
use Rattle.sx_outline.specs.declared.outline_error.OutlineError.TheVariants.{Memory, NotUtf8, Notation}
use Rattle.sx_outline.specs.Declarations.{Declared, declared_before}
use Rattle.sx_outline.specs.Headers.{HeaderData}
use Rattle.sx_outline.specs.Known.{kept_lines}
use Rattle.sx_outline.specs.Stages.{State, start_after, IsInside}
use Rattle.sx_outline.specs.Outcomes.{IsReadingOutcome}
use Rattle.sx_outline.specs.ExtensionOutlined.{ExtensionOutlineData, extension_declares, IsExtensionOutlineOf, IsExtensionEnd, AreReadAfter, IsExtensionReadAs, IsExtensionAnswer}
use Rattle.sx_outline.proofs.OneOutline.{one_known, both_outcomes, inside_or_whole, one_inside}
use Rattle.sx_outline.proofs.OneHeader.{both_headers}

one_outline : (sorts : List SortLine) (h : HeaderData) (s : State) (o p : ExtensionOutlineData) → IsExtensionOutlineOf sorts h s o → IsExtensionOutlineOf sorts h s p → o ≡ p
one_outline sorts h s o p x y =
    let header : o.header ≡ p.header = x.header ∙ sym y.header in
    let declared : extension_declares sorts o ≡ extension_declares sorts p = sym x.declared ∙ y.declared in
    λ i. record {
      header = header i;
      productions = ap (λ (d : Declared). d.productions) declared i;
      vars = ap (λ (d : Declared). d.vars) declared i;
      plains = (sym x.plains ∙ y.plains) i;
      rules = (sym x.rules ∙ y.rules) i;
    }

-- a plain pair or a rule is not ended
record IsOpen (sorts : List SortLine) (h : HeaderData) (s : State) (e : OutlineError) : Type 0 where
  number : ℕ
  is : e ≡ Notation number Unfinished
  inside : IsInside s.stage number

open_of : (sorts : List SortLine) (h : HeaderData) (s : State) (e : OutlineError) → IsExtensionEnd sorts h s (Err e) → IsOpen sorts h s e
open_of sorts h s (Notation n Unfinished) x = record { number = n; is = refl; inside = x }
open_of sorts h s (Notation n Head) x = absurd x
open_of sorts h s (Notation n Directive) x = absurd x
open_of sorts h s (Notation n Shape) x = absurd x
open_of sorts h s (Notation n Order) x = absurd x
open_of sorts h s (Notation n Main) x = absurd x
open_of sorts h s (Notation n Variable) x = absurd x
open_of sorts h s Memory x = absurd x
open_of sorts h s (NotUtf8 place) x = absurd x

one_end : (sorts : List SortLine) (h : HeaderData) (s : State) (a b : Result ExtensionOutlineData OutlineError) → IsExtensionEnd sorts h s a → IsExtensionEnd sorts h s b → a ≡ b
one_end sorts h s (Ok o) (Ok p) x y = ap Ok (one_outline sorts h s o p x.1 y.1)
one_end sorts h s (Ok o) (Err e) x y =
    let left = open_of sorts h s e y in
    absurd (inside_or_whole s.stage left.number left.inside x.0)
one_end sorts h s (Err e) (Ok p) x y =
    let left = open_of sorts h s e x in
    absurd (inside_or_whole s.stage left.number left.inside y.0)
one_end sorts h s (Err e) (Err f) x y =
    let one = open_of sorts h s e x in
    let two = open_of sorts h s f y in
    ap Err (one.is ∙ ap (λ n. Notation n Unfinished) (one_inside s.stage one.number two.number one.inside two.inside) ∙ sym two.is)

one_after : (sorts : List SortLine) (vars : List VarLine) (h : HeaderData) (lines : Lines) (a b : Result ExtensionOutlineData OutlineError) → AreReadAfter sorts vars h lines a → AreReadAfter sorts vars h lines b → a ≡ b
one_after sorts vars h lines a b x y =
    let base : Declared = declared_before sorts vars h.uses in
    let e : x.known ≡ y.known = one_known files.Extension false base lines x.known y.known x.declares y.declares in
    both_outcomes (a ≡ b) (λ s end. IsExtensionEnd sorts h s a) (λ s end. IsExtensionEnd sorts h s b) (λ n bad. a ≡ Err (Notation n bad)) (λ n bad. b ≡ Err (Notation n bad))
    (λ s end p q. one_end sorts h s a b p q) (λ n bad p q. p ∙ sym q) files.Extension y.known h.name (start_after base) lines
    (subst (λ d. IsReadingOutcome files.Extension d h.name (start_after base) lines (λ s end. IsExtensionEnd sorts h s a) (λ n bad. a ≡ Err (Notation n bad))) e x.outcome) y.outcome

one_reading : (sorts : List SortLine) (vars : List VarLine) (bytes : List ℕ) (a b : Result ExtensionOutlineData OutlineError) → IsExtensionReadAs sorts vars bytes a → IsExtensionReadAs sorts vars bytes b → a ≡ b
one_reading sorts vars bytes a b x y =
    both_headers (a ≡ b) (λ h lines. AreReadAfter sorts vars h lines a) (λ h lines. AreReadAfter sorts vars h lines b) (λ n bad. a ≡ Err (Notation n bad)) (λ n bad. b ≡ Err (Notation n bad))
    (λ h lines p q. one_after sorts vars h lines a b p q) (λ n bad p q. p ∙ sym q) (kept_lines (lines_from 1 bytes)) x.1 y.1

pub one_extension : (sorts : List SortLine) (vars : List VarLine) (bytes : List ℕ) (a b : Result ExtensionOutlineData OutlineError) → IsExtensionAnswer sorts vars bytes a → IsExtensionAnswer sorts vars bytes b
    → (a ≢ Err Memory) → (b ≢ Err Memory) → a ≡ b
one_extension sorts vars bytes (Err Memory) b h k n m = absurd (n refl)
one_extension sorts vars bytes a (Err Memory) h k n m = absurd (m refl)
one_extension sorts vars bytes (Ok o) (Ok p) h k n m = one_reading sorts vars bytes (Ok o) (Ok p) h k
one_extension sorts vars bytes (Ok o) (Err (NotUtf8 place)) h k n m = absurd (k.0 h.0)
one_extension sorts vars bytes (Ok o) (Err (Notation l kind)) h k n m = one_reading sorts vars bytes (Ok o) (Err (Notation l kind)) h k
one_extension sorts vars bytes (Err (NotUtf8 place)) (Ok p) h k n m = absurd (h.0 k.0)
one_extension sorts vars bytes (Err (NotUtf8 place)) (Err (NotUtf8 other)) h k n m = ap (λ x. Err (NotUtf8 x)) (h.1 ∙ sym k.1)
one_extension sorts vars bytes (Err (NotUtf8 place)) (Err (Notation l kind)) h k n m = absurd (h.0 k.0)
one_extension sorts vars bytes (Err (Notation l kind)) (Ok p) h k n m = one_reading sorts vars bytes (Err (Notation l kind)) (Ok p) h k
one_extension sorts vars bytes (Err (Notation l kind)) (Err (NotUtf8 place)) h k n m = absurd (k.0 h.0)
one_extension sorts vars bytes (Err (Notation l kind)) (Err (Notation i other)) h k n m = one_reading sorts vars bytes (Err (Notation l kind)) (Err (Notation i other)) h k
