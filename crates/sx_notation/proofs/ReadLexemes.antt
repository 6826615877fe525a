-- What the term of a reading of cut tokens has: tokens of their kinds as lexemes, and no more depth than the reading.
use Rattle.std.proofs.Common.{◌≡◌, ℕ, zero, suc, ◌≤◌, max, Bool, false, List, [], ◌∷◌, ◌++◌, Option, Some, None, slice_get, refl, ap, ◌∙◌, sym, subst, arith}
use Rattle.std.specs.List.{AllByRecursion}
use Rattle.std.proofs.Math.Nat.{le-max_left, le-max_right, max-le}
use Rattle.std.proofs.lemmas.List.{append_assoc}
use Rattle.sx_term.specs.declared.lex_kind.LexKind.{LexKind}
use Rattle.sx_term.specs.declared.lex_kind.LexKind.TheVariants.{Id, Num, Str}
use Rattle.sx_term.specs.declared.mark.Mark.{Mark}
use Rattle.sx_term.specs.declared.mark.Mark.TheVariants.{Lit, Lex, Meta}
use Rattle.sx_term.specs.Tree.{depth_of, greatest_depth}
use Rattle.sx_term.specs.Cutting.{is_in_string, IsMaximalRun, Piece, Stands, Cuts, done, skip}
use Rattle.sx_term.specs.Cutting.{piece}
use Rattle.sx_term.specs.Spaced.{IsTokenText}
use Rattle.sx_token.specs.declared.token.Token.{Token}
use Rattle.sx_token.specs.Tokens.{pieces}
use Rattle.sx_grammar.specs.Grammar as plain
use Rattle.sx_grammar.specs.Grammar.{Text}
use Rattle.sx_grammar.specs.Tables.{literals_of}
use Rattle.sx_grammar.specs.Reading.{Reading, Readings, reading_depth, readings_depth, branch}
use Rattle.sx_grammar.specs.Reading.{bracket, leaf, variable, done as no_readings, ◌▸◌}
use Rattle.sx_grammar.specs.Print.{leaf_term, mark_term, variable_term, term_of, terms_of}
use Rattle.sx_earley.specs.Tokens.{Stems, read_token, plain_tokens}
use Rattle.sx_print.specs.Cut.{HasLexemes, HaveLexemes}
use Rattle.sx_notation.specs.ReadLaws.{ReadsHaveLexemes, ReadsAreShallow}

-- a run that is maximal before a text is maximal before a front of it
front_run : (p : ℕ → Bool) (run front rest : List ℕ) → IsMaximalRun p run (front ++ rest) → IsMaximalRun p run front
front_run p run front rest h = record {
  characters = h.characters;
  maximal = λ b. h.maximal (b.0, b.1 ++ rest, b.2, ap (λ x. x ++ rest) b.3 ∙ append_assoc _ b.1 rest);
}

-- a lexeme that stands somewhere is a token of its kind by itself
lexeme_text : (literals : List Text) (metas : Bool) (kind : LexKind) (text rest : Text) → Stands literals metas (Lex kind) text rest → IsTokenText literals false (Lex kind) text
lexeme_text literals metas Id text rest h = (
  h.0,
  record {
    first = h.1.first;
    others = h.1.others;
    begins = h.1.begins;
    split = h.1.split;
    goes_on = front_run _ h.1.others [] rest h.1.goes_on;
  },
)
lexeme_text literals metas Num text rest h = (h.0, h.1.characters)
lexeme_text literals metas Str text rest h = (h.0, h.1, front_run is_in_string h.0 (34 ∷ []) rest h.2)

-- the mark, if it is a lexeme's, has a token of its kind
abbrev pub IsLexed : List Text → Mark → Text → Type 0
IsLexed literals mark text = (kind : LexKind) → mark ≡ Lex kind → IsTokenText literals false (Lex kind) text

mark_lexed : (literals : List Text) (metas : Bool) (m : Mark) (text rest : Text) → Stands literals metas m text rest → IsLexed literals m text
mark_lexed literals metas (Lit n) text rest h kind e = cc
mark_lexed literals metas (Lex k) text rest h kind e =
    subst (λ m. IsTokenText literals false m text) e (lexeme_text literals metas k text rest h)
mark_lexed literals metas Meta text rest h kind e = cc

pieces_lexed : {literals : List Text} {metas : Bool} {size : ℕ} {text rest : Text} {ps : List Piece} → Cuts literals metas size text ps rest → AllByRecursion (λ p. IsLexed literals p.mark p.text) ps
pieces_lexed done = tt
pieces_lexed (skip blank more) = pieces_lexed more
pieces_lexed {literals = literals} {metas = metas} (piece {more = more} {t = t} at rest) = (mark_lexed literals metas t.mark t.text more at.stands, pieces_lexed rest)

abbrev pub AreLexed : List Text → List Token → Type 0
AreLexed literals ts = AllByRecursion (λ t. IsLexed literals t.mark t.text) ts

tokens_lexed : (literals : List Text) (ts : List Token) → AllByRecursion (λ p. IsLexed literals p.mark p.text) (pieces ts) → AreLexed literals ts
tokens_lexed literals [] h = tt
tokens_lexed literals (t ∷ ts) h = (h.0, tokens_lexed literals ts h.1)

-- the lexemes among the tokens of a text
pub cut_lexed : (literals : List Text) (metas : Bool) (size : ℕ) (text : Text) (ts : List Token) → Cuts literals metas size text (pieces ts) [] → AreLexed literals ts
cut_lexed literals metas size text ts cuts = tokens_lexed literals ts (pieces_lexed cuts)

marked_lexemes : (literals : List Text) (stems : Stems) (m : Mark) (text : Text) → IsLexed literals m text → HasLexemes literals (mark_term (read_token stems m text).mark (read_token stems m text).text)
marked_lexemes literals stems (Lit n) text h = tt
marked_lexemes literals stems (Lex kind) text h = h kind refl
marked_lexemes literals stems Meta text h = tt

leaf_lexemes : (literals : List Text) (stems : Stems) (ts : List Token) (n : ℕ) → AreLexed literals ts → HasLexemes literals (leaf_term (slice_get (plain_tokens stems ts) n))
leaf_lexemes literals stems [] n all = tt
leaf_lexemes literals stems (t ∷ ts) zero all = marked_lexemes literals stems t.mark t.text all.0
leaf_lexemes literals stems (t ∷ ts) (suc n) all = leaf_lexemes literals stems ts n all.1

variable_lexemes : (literals names : List Text) (o : Option plain.Token) → HasLexemes literals (variable_term names o)
variable_lexemes literals names None = tt
variable_lexemes literals names (Some t) = tt

module _ (literals : List Text) (stems : Stems) (ts : List Token) (all : AreLexed literals ts) (names : List Text) where
  mutual
    -- the term of a reading of the tokens
    pub term_lexemes : (r : Reading) → HasLexemes literals (term_of (plain_tokens stems ts) names r)
    term_lexemes (branch label kids from to) = terms_lexemes kids
    term_lexemes (bracket inner from to) = term_lexemes inner
    term_lexemes (leaf token) = leaf_lexemes literals stems ts token all
    term_lexemes (variable token) = variable_lexemes literals names (slice_get (plain_tokens stems ts) token)

    terms_lexemes : (ks : Readings) → HaveLexemes literals (terms_of (plain_tokens stems ts) names ks)
    terms_lexemes no_readings = tt
    terms_lexemes (kid ▸ kids) = (term_lexemes kid, terms_lexemes kids)

mark_depth : (m : plain.Mark) (text : Text) → depth_of (mark_term m text) ≤ 1
mark_depth plain.is_literal text = omega arith
mark_depth (plain.is_lexeme kind) text = omega arith
mark_depth (plain.is_variable stem) text = omega arith

leaf_depth : (o : Option plain.Token) → depth_of (leaf_term o) ≤ 1
leaf_depth None = omega arith
leaf_depth (Some t) = mark_depth t.mark t.text

variable_depth : (names : List Text) (o : Option plain.Token) → depth_of (variable_term names o) ≤ 1
variable_depth names None = omega arith
variable_depth names (Some t) = omega arith

module _ (tokens : List plain.Token) (names : List Text) where
  mutual
    -- a term is at most as deep as its reading
    pub term_depth : (r : Reading) → depth_of (term_of tokens names r) ≤ reading_depth r
    term_depth (branch label kids from to) = omega (arith, terms_depth kids)
    term_depth (bracket inner from to) = omega (arith, term_depth inner)
    term_depth (leaf token) = leaf_depth (slice_get tokens token)
    term_depth (variable token) = variable_depth names (slice_get tokens token)

    terms_depth : (ks : Readings) → greatest_depth (terms_of tokens names ks) ≤ readings_depth ks
    terms_depth no_readings = omega arith
    terms_depth (kid ▸ kids) =
        let left : reading_depth kid ≤ max (reading_depth kid) (readings_depth kids) = le-max_left (reading_depth kid) (readings_depth kids) in
        let right : readings_depth kids ≤ max (reading_depth kid) (readings_depth kids) = le-max_right (reading_depth kid) (readings_depth kids) in
        max-le (omega (arith, term_depth kid, left)) (omega (arith, terms_depth kids, right))

pub reads_have_lexemes : ReadsHaveLexemes
reads_have_lexemes p stems sort line old new t read =
    subst (HasLexemes (literals_of p)) (sym read.term)
    (term_lexemes (literals_of p) stems read.tokens (cut_lexed (literals_of p) _ _ line read.tokens read.known.0.2) new read.reading)

pub reads_are_shallow : ReadsAreShallow
reads_are_shallow p stems sort line old new t read =
    let d : depth_of (term_of (plain_tokens stems read.tokens) new read.reading) ≤ reading_depth read.reading = term_depth (plain_tokens stems read.tokens) new read.reading in
    let e : depth_of t ≡ depth_of (term_of (plain_tokens stems read.tokens) new read.reading) = ap depth_of read.term in
    omega (arith, d, e, read.answer.2)
