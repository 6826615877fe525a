-- A text is read by one outline and one reader of rules.
use Rattle.std.proofs.Common.{◌≡◌, ℕ, List, [], ◌∷◌, ◌++◌, inl, inr, map, codes, refl, ap, ◌∙◌, sym, subst, arith}
use Rattle.std.specs.Prelude.{Result, Ok, Err, flat_map}
use Rattle.sx_term.specs.declared.lex_kind.LexKind.{LexKind}
use Rattle.sx_term.specs.declared.lex_kind.LexKind.TheVariants.{Id, Num, Str}
use Rattle.sx_term.specs.declared.sort.Sort.{Sort}
use Rattle.sx_term.specs.declared.sort.Sort.TheVariants.{Lex}
use Rattle.sx_grammar.specs.Grammar.{Text}
use Rattle.sx_grammar.specs.Parts.{Line, Parts, parts}
use Rattle.sx_earley.specs.Tokens.{Stems}
use Rattle.sx_rules.specs.Views as view
use Rattle.sx_directives.specs.Spelling.{lex_text}
use Rattle.sx_directives.specs.declared.rows.FormLine.{FormLine}
use Rattle.sx_directives.specs.declared.rows.VarLine.{VarLine}
use Rattle.sx_outline.specs.declared.outline.Outline.{Outline}
use Rattle.sx_outline.specs.declared.outline_error.OutlineError.{OutlineError}
use Rattle.sx_outline.specs.declared.outline_error.OutlineError.TheVariants as outlines
use Rattle.sx_outline.specs.Declarations.{DeclaredForm, declared_form}
use Rattle.sx_outline.specs.Outlined.{OutlineData, outline, IsOutlined}
use Rattle.sx_outline.proofs.OneOutline.{one_answer}
use Rattle.sx_notation.specs.RuleParts.{judgement_sort, symbol_for, form_line, apart_lines}
use Rattle.sx_notation.specs.RuleParts.{rule_parts}
use Rattle.sx_notation.specs.RuleLaws.{places_of, form_of}
use Rattle.sx_language.specs.RuleLine.{Reader}
use Rattle.sx_language.specs.States.{IsSortNamed, AreStems, IsReadable, forms_of}

-- ---- outlines

ok_same : (o q : OutlineData) → ◌≡◌ {A = Result OutlineData OutlineError} (Ok o) (Ok q) → o ≡ q
ok_same o q e = cc

err_same : (x y : OutlineError) → ◌≡◌ {A = Result OutlineData OutlineError} (Err x) (Err y) → x ≡ y
err_same x y e = cc

ok_err : (o : OutlineData) (x : OutlineError) → ◌≡◌ {A = Result OutlineData OutlineError} (Ok o) (Err x) → ⊥
ok_err o x e = cc

module _ (name bytes : Text) where
  pub outline_one : (o q : Outline) → IsOutlined name bytes (Ok o) → IsOutlined name bytes (Ok q) → outline o ≡ outline q
  outline_one o q h k =
      ok_same (outline o) (outline q) (one_answer name bytes (Ok (outline o)) (Ok (outline q)) h k (ok_err (outline o) outlines.Memory) (ok_err (outline q) outlines.Memory))

  pub defect_one : (x y : OutlineError) → (x ≡ outlines.Memory → ⊥) → (y ≡ outlines.Memory → ⊥) → IsOutlined name bytes (Err x) → IsOutlined name bytes (Err y) → x ≡ y
  defect_one x y n m h k =
      err_same x y (one_answer name bytes (Err x) (Err y) h k (λ e. n (err_same x outlines.Memory e)) (λ e. m (err_same y outlines.Memory e)))

  pub outline_or_defect : (o : Outline) (x : OutlineError) → (x ≡ outlines.Memory → ⊥) → IsOutlined name bytes (Ok o) → IsOutlined name bytes (Err x) → ⊥
  outline_or_defect o x n h k =
      ok_err (outline o) x (one_answer name bytes (Ok (outline o)) (Err x) h k (ok_err (outline o) outlines.Memory) (λ e. n (err_same x outlines.Memory e)))

-- ---- forms

-- the production that a form is, and the form, of its name and its symbols
abbrev line_of : DeclaredForm → Line
line_of f = record { label = codes "form " ++ f.name; sort = codes "a judgement"; level = 0; symbols = map symbol_for f.symbols }

abbrev spelled_by : Parts → DeclaredForm → view.FormData
spelled_by p f = record { name = f.name; places = flat_map (places_of p) f.symbols }

lines_are : (fs : List FormLine) → map form_line fs ≡ map line_of (map declared_form fs)
lines_are [] = refl
lines_are (f ∷ fs) = ap (λ (l : List Line). form_line f ∷ l) (lines_are fs)

forms_are : (p : Parts) (fs : List FormLine) → map (form_of p) fs ≡ map (spelled_by p) (map declared_form fs)
forms_are p [] = refl
forms_are p (f ∷ fs) = ap (λ (l : List view.FormData). form_of p f ∷ l) (forms_are p fs)

abbrev parts_by : OutlineData → Parts
parts_by o = record { sorts = o.parts.sorts ++ judgement_sort ∷ []; productions = o.parts.productions ++ (map line_of o.forms ++ apart_lines) }

parts_are : (o : Outline) → rule_parts (parts o.parts) o.forms.items ≡ parts_by (outline o)
parts_are o =
    ap (λ (l : List Line). let all : Parts = record { sorts = (parts o.parts).sorts ++ judgement_sort ∷ []; productions = (parts o.parts).productions ++ (l ++ apart_lines) } in all) (lines_are o.forms.items)

module _ (o q : Outline) (same : outline o ≡ outline q) where
  pub parts_same : parts o.parts ≡ parts q.parts
  parts_same = ap (λ (d : OutlineData). d.parts) same

  pub rule_parts_same : rule_parts (parts o.parts) o.forms.items ≡ rule_parts (parts q.parts) q.forms.items
  rule_parts_same = parts_are o ∙ ap parts_by same ∙ sym (parts_are q)

  pub forms_same : forms_of o ≡ forms_of q
  forms_same = forms_are (parts o.parts) o.forms.items ∙ ap (λ (d : OutlineData). map (spelled_by d.parts) d.forms) same ∙ sym (forms_are (parts q.parts) q.forms.items)

-- ---- stems

abbrev first : Text → ℕ
first [] = 0
first (b ∷ bytes) = b

kind_told : (a b : LexKind) → first (lex_text a) ≡ first (lex_text b) → a ≡ b
kind_told Id Id e = refl
kind_told Num Num e = refl
kind_told Str Str e = refl
kind_told Id Num e = absurd (omega (arith, e))
kind_told Id Str e = absurd (omega (arith, e))
kind_told Num Id e = absurd (omega (arith, e))
kind_told Num Str e = absurd (omega (arith, e))
kind_told Str Id e = absurd (omega (arith, e))
kind_told Str Num e = absurd (omega (arith, e))

module _ (p : Parts) where
  sort_one : (name : Text) (a b : Sort) → IsSortNamed p name a → IsSortNamed p name b → a ≡ b
  sort_one name a b (inl h) (inl k) = h.2 ∙ ap Lex (kind_told h.0 k.0 (ap first (sym h.1 ∙ k.1))) ∙ sym k.2
  sort_one name a b (inl h) (inr k) = absurd (k.0 h.0 h.1)
  sort_one name a b (inr h) (inl k) = absurd (h.0 k.0 k.1)
  sort_one name a b (inr h) (inr k) = h.2 ∙ sym k.2

  pub stems_one : (vs : List VarLine) (ss us : Stems) → AreStems p vs ss → AreStems p vs us → ss ≡ us
  stems_one [] [] [] h k = refl
  stems_one [] [] (u ∷ us) h k = absurd k
  stems_one [] (s ∷ ss) us h k = absurd h
  stems_one (v ∷ vs) [] us h k = absurd h
  stems_one (v ∷ vs) (s ∷ ss) [] h k = absurd k
  stems_one (v ∷ vs) (s ∷ ss) (u ∷ us) h k =
      let stem = h.0 ∙ sym k.0 in
      let sort = sort_one v.sort s.1 u.1 h.1 k.1 in
      let rest = stems_one vs ss us h.2 k.2 in
      λ i. (stem i, sort i) ∷ rest i

-- ---- readers

pub reader_one : (name bytes : Text) (o q : Outline) (r s : Reader) → IsReadable name bytes o r → IsReadable name bytes q s → r ≡ s
reader_one name bytes o q r s h k =
    let same = outline_one name bytes o q h.outlined k.outlined in
    let there = subst (λ (d : OutlineData). AreStems d.parts d.vars r.stems) same h.stems in
    let whole = h.read_by ∙ rule_parts_same o q same ∙ sym k.read_by in
    let stems = stems_one (parts q.parts) q.vars.items r.stems s.stems there k.stems in
    let forms = h.forms ∙ forms_same o q same ∙ sym k.forms in
    λ i. record { parts = whole i; stems = stems i; forms = forms i }
