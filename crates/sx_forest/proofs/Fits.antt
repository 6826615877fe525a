-- What reads the tokens, by induction on how it reads them.
use Rattle.std.proofs.Common.{◌≡◌, ℕ, suc, ◌+◌, ◌≤◌, List, Option, Some, None, option_map, length, map, length-append, refl, ap, ◌∙◌, sym, subst, arith}
use Rattle.std.specs.List.{slice_get}
use Rattle.std.proofs.lemmas.List.{length-map}
use Rattle.std.proofs.lemmas.Option.{slice_get_within, slice_get-map}
use Rattle.sx_term.specs.declared.lex_kind.LexKind.{LexKind}
use Rattle.sx_term.specs.declared.mark.Mark.{Mark}
use Rattle.sx_term.specs.declared.mark.Mark.TheVariants as marks
use Rattle.sx_token.specs.declared.token.Token.{Token}
use Rattle.sx_grammar.specs.Grammar as plain
use Rattle.sx_grammar.specs.Grammar.{Text, Symbol, Grammar, Stem, is_lexeme, is_variable}
use Rattle.sx_grammar.specs.Parts.{numbered, numbered_line, names}
use Rattle.sx_grammar.specs.Reading.{Reading, Readings, Marked, Reads, by_production, by_brackets}
use Rattle.sx_grammar.specs.Reading.{by_variable, ReadsAll, all_read, by_literal, by_lexeme}
use Rattle.sx_grammar.specs.Reading.{by_lexical_variable, by_part}
use Rattle.sx_earley.specs.Tokens.{Stems, read_token, plain_tokens}
use Rattle.sx_forest.specs.Text.{IsWithin, AreWithin}
use Rattle.sx_forest.specs.Names.{IsLexeme, IsMetavariable, IsMarked, AreMarked, reading_names, names_of_kids}
use Rattle.sx_forest.specs.Fitting.{ReadingsAreWithin, ReadingsAreMarked, ReadingsHaveFewNames}

module _ (g : Grammar) (tokens : List plain.Token) where
  mutual
    within : {sort least from to : ℕ} {r : Reading} → Reads g tokens sort least from to r → IsWithin (length g.productions) (length tokens) r
    within (by_production {label = label} {p = p} e high all) = (slice_get_within g.productions label p e, all_within all)
    within (by_brackets e a inner b) = within inner
    within (by_variable {from = from} m) = slice_get_within tokens from _ m.1

    all_within : {symbols : List Symbol} {from to : ℕ} {kids : Readings} → ReadsAll g tokens symbols from to kids → AreWithin (length g.productions) (length tokens) kids
    all_within all_read = tt
    all_within (by_literal h more) = all_within more
    all_within (by_lexeme {from = from} m more) = (slice_get_within tokens from _ m.1, all_within more)
    all_within (by_lexical_variable {from = from} m more) = (slice_get_within tokens from _ m.1, all_within more)
    all_within (by_part kid more) = (within kid, all_within more)

  mutual
    few : (all : List Token) {sort least from to : ℕ} {r : Reading} → Reads g tokens sort least from to r → from + length (reading_names all r) ≤ to
    few all (by_production e high kids) = all_few all kids
    few all (by_brackets {from = from} {to = to} {inner = inner} e a read b) = let h : suc from + length (reading_names all inner) ≤ to = few all read in omega arith
    few all (by_variable m) = omega arith

    all_few : (all : List Token) {symbols : List Symbol} {from to : ℕ} {kids : Readings} → ReadsAll g tokens symbols from to kids → from + length (names_of_kids all kids) ≤ to
    all_few all all_read = omega arith
    all_few all (by_literal {from = from} {to = to} {kids = kids} h more) = let k : suc from + length (names_of_kids all kids) ≤ to = all_few all more in omega arith
    all_few all (by_lexeme {from = from} {to = to} {kids = kids} h more) = let k : suc from + length (names_of_kids all kids) ≤ to = all_few all more in omega arith
    all_few all (by_lexical_variable {from = from} {to = to} {kids = kids} h more) = let k : suc from + length (names_of_kids all kids) ≤ to = all_few all more in omega arith
    all_few all (by_part {from = from} {middle = middle} {to = to} {kid = kid} {kids = kids} read more) =
        let h : from + length (reading_names all kid) ≤ middle = few all read in
        let k : middle + length (names_of_kids all kids) ≤ to = all_few all more in
        omega (arith, length-append (reading_names all kid) (names_of_kids all kids))

mark_kind : (stems : Stems) (mark : Mark) (text : Text) (kind : LexKind) → (read_token stems mark text).mark ≡ is_lexeme kind → (k : LexKind) × (mark ≡ marks.Lex k)
mark_kind stems (marks.Lit n) text kind e = cc
mark_kind stems (marks.Lex k) text kind e = (k, refl)
mark_kind stems marks.Meta text kind e = cc

mark_meta : (stems : Stems) (mark : Mark) (text : Text) (stem : Stem) → (read_token stems mark text).mark ≡ is_variable stem → mark ≡ marks.Meta
mark_meta stems (marks.Lit n) text stem e = cc
mark_meta stems (marks.Lex k) text stem e = cc
mark_meta stems marks.Meta text stem e = refl

lexeme_shown : (stems : Stems) (o : Option Token) (kind : LexKind) (text : Text) → option_map (λ t. read_token stems t.mark t.text) o ≡ Some (record { mark = is_lexeme kind; text = text }) → IsLexeme o
lexeme_shown stems None kind text e = cc
lexeme_shown stems (Some t) kind text e =
    let q : read_token stems t.mark t.text ≡ record { mark = is_lexeme kind; text = text } = cc in
    mark_kind stems t.mark t.text kind (ap (λ (s : plain.Token). s.mark) q)

variable_shown : (stems : Stems) (o : Option Token) (stem : Stem) (text : Text) → option_map (λ t. read_token stems t.mark t.text) o ≡ Some (record { mark = is_variable stem; text = text }) → IsMetavariable o
variable_shown stems None stem text e = cc
variable_shown stems (Some t) stem text e =
    let q : read_token stems t.mark t.text ≡ record { mark = is_variable stem; text = text } = cc in
    mark_meta stems t.mark t.text stem (ap (λ (s : plain.Token). s.mark) q)

module _ (g : Grammar) (stems : Stems) (tokens : List Token) where
  lexeme_at : (i : ℕ) (kind : LexKind) → Marked (plain_tokens stems tokens) i (is_lexeme kind) → IsLexeme (slice_get tokens i)
  lexeme_at i kind m = lexeme_shown stems (slice_get tokens i) kind m.0 (sym (slice_get-map (λ t. read_token stems t.mark t.text) tokens i) ∙ m.1)

  variable_at : (i : ℕ) (stem : Stem) → Marked (plain_tokens stems tokens) i (is_variable stem) → IsMetavariable (slice_get tokens i)
  variable_at i stem m = variable_shown stems (slice_get tokens i) stem m.0 (sym (slice_get-map (λ t. read_token stems t.mark t.text) tokens i) ∙ m.1)

  mutual
    marked : {sort least from to : ℕ} {r : Reading} → Reads g (plain_tokens stems tokens) sort least from to r → IsMarked tokens r
    marked (by_production e high all) = all_marked all
    marked (by_brackets e a inner b) = marked inner
    marked (by_variable {from = from} m) = variable_at from _ m

    all_marked : {symbols : List Symbol} {from to : ℕ} {kids : Readings} → ReadsAll g (plain_tokens stems tokens) symbols from to kids → AreMarked tokens kids
    all_marked all_read = tt
    all_marked (by_literal h more) = all_marked more
    all_marked (by_lexeme {from = from} m more) = (lexeme_at from _ m, all_marked more)
    all_marked (by_lexical_variable {from = from} m more) = (variable_at from _ m, all_marked more)
    all_marked (by_part kid more) = (marked kid, all_marked more)

pub readings_within : ReadingsAreWithin
readings_within p tokens sort least from to r reads =
    subst (λ n. IsWithin n (length tokens) r) (let e : length (map (numbered_line (names p)) p.productions) ≡ length p.productions = simp length-map in e) (within (numbered p) tokens reads)

pub readings_marked : ReadingsAreMarked
readings_marked g stems tokens sort least from to r reads = marked g stems tokens reads

pub readings_few : ReadingsHaveFewNames
readings_few g tokens all sort least from to r reads = few g tokens all reads
