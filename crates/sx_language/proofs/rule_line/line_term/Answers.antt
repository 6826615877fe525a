use Rattle.std.proofs.Common.{◌≡◌, List, ℕ, sym, subst}
use Rattle.std.specs.Prelude.{IfOk, IfErr}
use Rattle.sx_term.specs.Term.{tree}
use Rattle.sx_grammar.specs.Parts.{Parts}
use Rattle.sx_earley.specs.Tokens.{Stems}
use Rattle.sx_earley.specs.Completed.{IsSort}
use Rattle.sx_notation.specs.ReadText.{IsReadLine, IsTextRefused}
use Rattle.sx_language.proofs.rule_line.line_term.Goals as goal

-- a fact of the tables is one of what they are made of, and of the text that is named
carried : (P : Parts → Stems → List ℕ → Type 0) {p q : Parts} {s t : Stems} {u v : List ℕ} → p ≡ q → s ≡ t → u ≡ v → P p s u → P q t v
carried P {p = p} {q = q} {s = s} {t = t} {u = u} {v = v} parts stems text h = subst (λ x. P x t v) parts (subst (λ x. P p x v) stems (subst (λ x. P p s x) text h))

pub read_line-requires-clause-sort : goal.read_line-requires-clause-sort
read_line-requires-clause-sort c = subst (λ (p : Parts). IsSort p c.args.sort) (sym c.requires.tables.0) c.requires.sort

pub returns-clause-read : goal.returns-clause-read
returns-clause-read c =
    carried (λ p s u. IfOk c.read_line.result (λ t. IsReadLine p s c.args.sort u c.args.vars.now c.read_line.new.vars (tree t))) c.requires.tables.0 c.requires.tables.1 c.bytes.ensures.value c.read_line.ensures.read

pub returns-clause-refused : goal.returns-clause-refused
returns-clause-refused c =
    carried (λ p s u. IfErr c.read_line.result (IsTextRefused p s c.args.sort u c.args.line.now.number)) c.requires.tables.0 c.requires.tables.1 c.bytes.ensures.value c.read_line.ensures.refused
