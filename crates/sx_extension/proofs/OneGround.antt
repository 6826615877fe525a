-- The text of an extension has one outline, and this has one pair of grammars.
use Rattle.std.proofs.Common.{◌≡◌, ℕ, Bool, true, false, cond, List, [], ◌∷◌, ◌++◌, inl, inr}
use Rattle.std.proofs.Common.{length, map, Some, refl, ap, ◌∙◌, sym, subst}
use Rattle.std.specs.Prelude.{Result, Ok, Err, slice_get}
use Rattle.std.proofs.lemmas.List.{append_cancel_left}
use Rattle.sx_term.specs.declared.lex_kind.LexKind.{LexKind}
use Rattle.sx_term.specs.declared.sort.Sort.{Sort}
use Rattle.sx_term.specs.declared.sort.Sort.TheVariants as TheSort
use Rattle.sx_grammar.specs.declared.grammar_error.GrammarError.{GrammarError}
use Rattle.sx_grammar.specs.Grammar.{Text}
use Rattle.sx_grammar.specs.Parts.{Line, Parts, names, number_of}
use Rattle.sx_grammar.specs.Tables.{GrammarData}
use Rattle.sx_grammar.specs.Told.{is_typed}
use Rattle.sx_grammar.proofs.Finding.{named_at}
use Rattle.sx_earley.specs.Completed.{sort_number}
use Rattle.sx_earley.specs.Tokens.{Stems}
use Rattle.sx_directives.specs.Spelling.{lex_text}
use Rattle.sx_directives.specs.declared.rows.FormLine.{FormLine}
use Rattle.sx_directives.specs.declared.rows.VarLine.{VarLine}
use Rattle.sx_outline.specs.declared.outline_error.OutlineError.{OutlineError}
use Rattle.sx_outline.specs.declared.outline_error.OutlineError.TheVariants as outlines
use Rattle.sx_outline.specs.ExtensionOutlined.{ExtensionOutlineData, IsExtensionAnswer}
use Rattle.sx_outline.proofs.OneExtension.{one_extension}
use Rattle.sx_notation.specs.RuleParts.{judgement_sort, form_line, apart_lines, rule_parts}
use Rattle.sx_language.specs.States.{IsSortNamed, AreStems, IsNoGrammar}
use Rattle.sx_language.proofs.OneGrammar.{no_grammar_one, grammar_or_not}
use Rattle.sx_extension.specs.Grounds.{Ground, GroundHasForms}
use Rattle.sx_extension.specs.Readings.{HasOutline, HasNoOutline, with_own, AreGrammars}
use Rattle.sx_extension.specs.Readings.{AreNoGrammars}

-- ---- the lines of stems

with_number : (n : ℕ) (b : Bool) → sort_number (cond b (TheSort.Typed n) (TheSort.Plain n)) ≡ n
with_number n true = refl
with_number n false = refl

not_lexical : (n : ℕ) (b : Bool) (kind : LexKind) →
    cond b (TheSort.Typed n) (TheSort.Plain n) ≡ TheSort.Lex kind → ⊥
not_lexical n true kind e = cc
not_lexical n false kind e = cc

same_kind : (a b : LexKind) → TheSort.Lex a ≡ TheSort.Lex b → a ≡ b
same_kind a b e = cc

same_some : (x y : Text) → Some x ≡ Some y → x ≡ y
same_some x y e = cc

module _ (p : Parts) where
  -- a sort has one name
  name_one : (a b : Text) (s : Sort) → IsSortNamed p a s → IsSortNamed p b s → a ≡ b
  name_one a b s (inl h) (inl k) = h.1 ∙ ap lex_text (same_kind h.0 k.0 (sym h.2 ∙ k.2)) ∙ sym k.1
  name_one a b s (inl h) (inr k) =
      let n = number_of (names p) b in absurd
      (not_lexical n (is_typed (slice_get p.sorts n)) h.0 (sym k.2 ∙ h.2))
  name_one a b s (inr h) (inl k) =
      let n = number_of (names p) a in absurd
      (not_lexical n (is_typed (slice_get p.sorts n)) k.0 (sym h.2 ∙ k.2))
  name_one a b s (inr h) (inr k) =
      let n = number_of (names p) a in
      let m = number_of (names p) b in
      let numbers : n ≡ m = sym (with_number n (is_typed (slice_get p.sorts n))) ∙ ap sort_number
      (sym h.2 ∙ k.2) ∙ with_number m (is_typed (slice_get p.sorts m)) in
      same_some a b (sym (named_at (names p) a (λ missing. missing h.1)) ∙ ap (slice_get (names p))
      numbers ∙ named_at (names p) b (λ missing. missing k.1))

  -- stems are those of one list of lines
  lines_one : (vs ws : List VarLine) (ss : Stems) → AreStems p vs ss → AreStems p ws ss → vs ≡ ws
  lines_one [] [] [] h k = refl
  lines_one [] [] (s ∷ ss) h k = absurd h
  lines_one [] (w ∷ ws) [] h k = absurd k
  lines_one [] (w ∷ ws) (s ∷ ss) h k = absurd h
  lines_one (v ∷ vs) ws [] h k = absurd h
  lines_one (v ∷ vs) [] (s ∷ ss) h k = absurd k
  lines_one (v ∷ vs) (w ∷ ws) (s ∷ ss) h k =
      let stem = sym h.0 ∙ k.0 in
      let sort = name_one v.sort w.sort s.1 h.1 k.1 in
      let rest = lines_one vs ws ss h.2 k.2 in
      λ i. record { stem = stem i; sort = sort i } ∷ rest i

-- ---- outlines

abbrev Answer : Type 0
Answer = Result ExtensionOutlineData OutlineError

ok_same : (o q : ExtensionOutlineData) → ◌≡◌ {A = Answer} (Ok o) (Ok q) → o ≡ q
ok_same o q e = cc

err_same : (x y : OutlineError) → ◌≡◌ {A = Answer} (Err x) (Err y) → x ≡ y
err_same x y e = cc

ok_err : (o : ExtensionOutlineData) (x : OutlineError) → ◌≡◌ {A = Answer} (Ok o) (Err x) → ⊥
ok_err o x e = cc

module _ (g : Ground) (bytes : Text) where
  answers_one : (vs ws : List VarLine) (a b : Answer) → AreStems g.language vs g.stems →
      AreStems g.language ws g.stems → IsExtensionAnswer g.language.sorts vs bytes a →
      IsExtensionAnswer g.language.sorts ws bytes b →
      (◌≡◌ {A = Answer} a (Err outlines.Memory) → ⊥) →
      (◌≡◌ {A = Answer} b (Err outlines.Memory) → ⊥) → a ≡ b
  answers_one vs ws a b h k x y n m =
      one_extension g.language.sorts ws bytes a b
      (subst (λ (l : List VarLine). IsExtensionAnswer g.language.sorts l bytes a)
      (lines_one g.language vs ws g.stems h k) x) y n m

  pub outline_one : (o q : ExtensionOutlineData) → HasOutline g bytes o → HasOutline g bytes q →
      o ≡ q
  outline_one o q h k =
      ok_same o q (answers_one h.before k.before (Ok o) (Ok q) h.stems k.stems h.outlined
      k.outlined (ok_err o outlines.Memory) (ok_err q outlines.Memory))

  pub defect_one : (x y : OutlineError) → (x ≡ outlines.Memory → ⊥) → (y ≡ outlines.Memory → ⊥) →
      HasNoOutline g bytes x → HasNoOutline g bytes y → x ≡ y
  defect_one x y n m h k =
      err_same x y
      (answers_one h.before k.before (Err x) (Err y) h.stems k.stems h.refused k.refused
      (λ e. n (err_same x outlines.Memory e)) (λ e. m (err_same y outlines.Memory e)))

  pub outline_or_defect : (o : ExtensionOutlineData) (x : OutlineError) →
      (x ≡ outlines.Memory → ⊥) → HasOutline g bytes o → HasNoOutline g bytes x → ⊥
  outline_or_defect o x n h k =
      ok_err o x (answers_one h.before k.before (Ok o) (Err x) h.stems k.stems h.outlined k.refused
      (ok_err o outlines.Memory) (λ e. n (err_same x outlines.Memory e)))

-- ---- grammars

module _ (g : Ground) (own : List Line) where
  -- the grammar of rules is one, whatever form lines it is told by
  rule_parts_one : (ls ms : List FormLine) → GroundHasForms g ls → GroundHasForms g ms →
      rule_parts (with_own g own) ls ≡ rule_parts (with_own g own) ms
  rule_parts_one ls ms h k =
      let before = g.grammar.parts.productions in
      let whole : before ++ (map form_line ls ++ apart_lines) ≡ before ++
      (map form_line ms ++ apart_lines) = ap (λ (p : Parts). p.productions)
      (sym h.read_by ∙ k.read_by) in
      let rest = append_cancel_left before (map form_line ls ++ apart_lines)
      (map form_line ms ++ apart_lines) whole in
      λ i. record {
        sorts = (with_own g own).sorts ++ judgement_sort ∷ [];
        productions =
            (with_own g own).productions ++ rest i;
      }

  pub grammar_one : (a b c d : GrammarData) → AreGrammars g own a b → AreGrammars g own c d → a ≡ c
  grammar_one a b c d h k = λ i. record {
    parts = (h.parts ∙ sym k.parts) i;
    base =
        (h.base ∙ sym k.base) i;
  }

  pub rule_grammar_one : (a b c d : GrammarData) → AreGrammars g own a b → AreGrammars g own c d →
      b ≡ d
  rule_grammar_one a b c d h k =
      let parts = h.read_by ∙ rule_parts_one h.lines k.lines h.has_forms k.has_forms ∙ sym
      k.read_by in
      let base = h.rule_base ∙ ap (λ (p : Parts). length p.productions) parts ∙ sym k.rule_base in
      λ i. record { parts = parts i; base = base i }

  -- the grammar of rules is refused by one list of form lines as by another
  there : (ls ms : List FormLine) (e : GrammarError) → GroundHasForms g ls → GroundHasForms g ms →
      IsNoGrammar (rule_parts (with_own g own) ls) e →
      IsNoGrammar (rule_parts (with_own g own) ms) e
  there ls ms e h k refused = subst (λ (p : Parts). IsNoGrammar p e) (rule_parts_one ls ms h k)
      refused

  pub no_grammars_one : (e d : GrammarError) → AreNoGrammars g own e → AreNoGrammars g own d →
      e ≡ d
  no_grammars_one e d (inl h) (inl k) = no_grammar_one (with_own g own) e d h k
  no_grammars_one e d (inl h) (inr k) = absurd (grammar_or_not (with_own g own) k.0 e h)
  no_grammars_one e d (inr h) (inl k) = absurd (grammar_or_not (with_own g own) h.0 d k)
  no_grammars_one e d (inr h) (inr k) =
      let a = h.1 in
      let b = k.1 in
      no_grammar_one (rule_parts (with_own g own) b.0) e d (there a.0 b.0 e a.1 b.1 a.2) b.2

  pub grammars_or_not : (a b : GrammarData) (e : GrammarError) → AreGrammars g own a b →
      AreNoGrammars g own e → ⊥
  grammars_or_not a b e h (inl k) = grammar_or_not (with_own g own) h.is_grammar e k
  grammars_or_not a b e h (inr k) =
      let c = k.1 in grammar_or_not (rule_parts (with_own g own) h.lines) h.is_rule_grammar e
      (there c.0 h.lines e c.1 h.has_forms c.2)
