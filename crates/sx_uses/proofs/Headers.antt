-- The header of an extension file has the name under which it is read.
use Rattle.std.proofs.Common.{◌≡◌, ◌≤◌, ℕ, List, length, Result, Ok, Err, inl, inr, sym, ap, subst}
use Rattle.sx_lines.specs.Lines.{Lines, over, line, lines_from}
use Rattle.sx_lines.specs.declared.kind.Kind.{Kind}
use Rattle.sx_lines.specs.declared.kind.Kind.TheVariants.{Head, Shape}
use Rattle.sx_outline.specs.declared.outline_error.OutlineError.{OutlineError}
use Rattle.sx_outline.specs.declared.outline_error.OutlineError.TheVariants.{Notation}
use Rattle.sx_outline.specs.Known.{kept_lines}
use Rattle.sx_outline.specs.Headers.{HeaderData, header_begun, with_use, AreUses, IsLanguageNext}
use Rattle.sx_outline.specs.Headers.{IsHeaderOf, IsHeaderAnswer}
use Rattle.sx_term.specs.Limits.{most_bytes}
use Rattle.sx_steps.proofs.Ones.{ok_same, ok_no_err}
use Rattle.sx_uses.specs.ExtensionFile.{Extension, IsHeaderStated}

module _ (x : HeaderData) where
  abbrev answer : Result HeaderData OutlineError
  answer = Ok x

  -- this header is stated
  abbrev Next : HeaderData → Lines → Type 0
  Next h left = answer ≡ Ok h

  -- no bad line is
  abbrev Bad : ℕ → Kind → Type 0
  Bad number bad = answer ≡ Err (Notation number bad)

  uses_named : (h : HeaderData) (lines : Lines) → AreUses h lines Next Bad → x.name ≡ h.name
  uses_named h (over end) e = ap (λ (d : HeaderData). d.name) (ok_same x h e)
  uses_named h (line number text after more) (inl u) = uses_named (with_use h u.0) more u.2
  uses_named h (line number text after more) (inr (inl u)) = absurd (ok_no_err x (Notation number Shape) u.2)
  uses_named h (line number text after more) (inr (inr u)) = ap (λ (d : HeaderData). d.name) (ok_same x h u.1)

  language_named : (name : List ℕ) (lines : Lines) → IsLanguageNext name lines Next Bad → x.name ≡ name
  language_named name (over end) e = absurd (ok_no_err x (Notation end Head) e)
  language_named name (line number text after more) (inl u) = uses_named (header_begun name u.0) more u.2
  language_named name (line number text after more) (inr u) = absurd (ok_no_err x (Notation number Head) u.1)

  lines_named : (name : List ℕ) (lines : Lines) → IsHeaderOf name lines Next Bad → x.name ≡ name
  lines_named name (over end) e = absurd (ok_no_err x (Notation end Head) e)
  lines_named name (line number text after more) (inl u) = language_named name more u.1
  lines_named name (line number text after more) (inr u) = absurd (ok_no_err x (Notation number Head) u.1)

pub header_named : (name bytes : List ℕ) (x : HeaderData) → IsHeaderAnswer name bytes (Ok x) → x.name ≡ name
header_named name bytes x h = lines_named x name (kept_lines (lines_from 1 bytes)) h.1

pub stated : (name bytes given : List ℕ) (h : HeaderData) → given ≡ bytes → length bytes ≤ most_bytes → IsHeaderAnswer name given (Ok h) → IsHeaderStated (let x : Extension = record { bytes = bytes; header = h } in x)
stated name bytes given h same short answer = record {
  short = short;
  states = subst (λ (n : List ℕ). IsHeaderAnswer n bytes (Ok h)) (sym (header_named name given h answer)) (subst (λ (b : List ℕ). IsHeaderAnswer name b (Ok h)) same answer);
}
