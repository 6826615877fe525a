-- Tokens that are written with one blank between them are cut into just these.
use Rattle.std.proofs.Common.{◌≡◌, ℕ, ◌+◌, ◌<◌, List, [], ◌∷◌, ◌++◌, length, map, Bool, refl, ap, subst, arith, get_or, zero, suc, lit<}
use Rattle.std.specs.List.{AllByRecursion, join_with_byte}
use Rattle.std.specs.Str.{IsUtf8}
use Rattle.std.proofs.lemmas.Str.{IsUtf8-from_ascii, IsUtf8-nil, IsUtf8-append}
use Rattle.sx_term.specs.declared.lex_kind.LexKind.{LexKind}
use Rattle.sx_term.specs.declared.lex_kind.LexKind.TheVariants.{Id, Num, Str}
use Rattle.sx_term.specs.declared.mark.Mark as cut
use Rattle.sx_term.specs.declared.mark.Mark.TheVariants.{Lit, Lex}
use Rattle.sx_term.specs.Cutting.{Cuts, IsOutcome, tokens}
use Rattle.sx_term.specs.Spaced.{IsTokenText, spaced, placed}
use Rattle.sx_term.proofs.SpacedLaws.{spaced_cut, spaced_outcome}
use Rattle.sx_grammar.specs.Grammar.{Text, Stem, Mark, is_literal, is_lexeme, is_variable, Token}
use Rattle.sx_grammar.specs.Parts.{Parts}
use Rattle.sx_grammar.specs.Tables.{literals_of}
use Rattle.sx_print.specs.Tokens.{shown_mark, shown_piece}
use Rattle.sx_print.specs.Printed.{text_of, HaveUtf8}
use Rattle.sx_print.specs.Cut.{IsCutInto}
use Rattle.sx_print.proofs.Shapes.{good_shape}
use Rattle.sx_print.proofs.Good.{IsGood, AreGood}

blank_low : (i : ℕ) → get_or (32 ∷ []) i 0 < 128
blank_low zero = lit< tt
blank_low (suc i) = lit< tt

-- the text of UTF-8 tokens is UTF-8
pub text_utf8 : (ts : List Token) → HaveUtf8 ts → IsUtf8 (text_of ts)
text_utf8 [] all = IsUtf8-nil
text_utf8 (t ∷ []) all = all.0
text_utf8 (t ∷ u ∷ ts) all =
    IsUtf8-append t.text (32 ∷ text_of (u ∷ ts)) all.0 (IsUtf8-append (32 ∷ []) (text_of (u ∷ ts)) (IsUtf8-from_ascii (32 ∷ []) blank_low) (text_utf8 (u ∷ ts) all.1))

-- with this mark a piece with the text shows as the token
record Marks (p : Parts) (mark : Mark) (text : Text) (of : cut.Mark) : Type 0 where
  stands : (metas : Bool) → IsTokenText (literals_of p) metas of text
  shows : (stem_of : Text → Stem) → shown_mark stem_of of text ≡ mark

lexeme_marks : (p : Parts) (kind : LexKind) (text : Text) → IsGood p (is_lexeme kind) text → Marks p (is_lexeme kind) text (Lex kind)
lexeme_marks p Id text good = record { stands = λ metas. good; shows = λ stem_of. refl }
lexeme_marks p Num text good = record { stands = λ metas. good; shows = λ stem_of. refl }
lexeme_marks p Str text good = record { stands = λ metas. good; shows = λ stem_of. refl }

mark_for : (p : Parts) (mark : Mark) (text : Text) → IsGood p mark text → IsUtf8 text → (of : cut.Mark) × Marks p mark text of
mark_for p is_literal text good utf8 = (Lit good.0, record { stands = λ metas. (good.1, good_shape text utf8 good.2); shows = λ stem_of. refl })
mark_for p (is_lexeme kind) text good utf8 = (Lex kind, lexeme_marks p kind text good)
mark_for p (is_variable stem) text good utf8 = absurd good

-- the tokens with such marks
record Marked (p : Parts) (ts : List Token) (ms : List (cut.Mark × Text)) : Type 0 where
  stand : (metas : Bool) → AllByRecursion (λ m. IsTokenText (literals_of p) metas m.0 m.1) ms
  show : (stem_of : Text → Stem) (from : ℕ) → map (shown_piece stem_of) (placed from ms) ≡ ts
  texts : map (λ m. m.1) ms ≡ map (λ token. token.text) ts
  utf8 : AllByRecursion (λ m. IsUtf8 m.1) ms
  many : length ms ≡ length ts

marked : (p : Parts) (ts : List Token) → AreGood p ts → HaveUtf8 ts → (ms : List (cut.Mark × Text)) × Marked p ts ms
marked p [] good utf8 = ([], record { stand = λ metas. tt; show = λ stem_of from. refl; texts = refl; utf8 = tt; many = refl })
marked p (t ∷ ts) good utf8 =
    let one = mark_for p t.mark t.text good.0 utf8.0 in
    let rest = marked p ts good.1 utf8.1 in (
      (one.0, t.text) ∷ rest.0,
      record {
        stand = λ metas. (one.1.stands metas, rest.1.stand metas);
        show = λ stem_of from i. record { mark = one.1.shows stem_of i; text = t.text } ∷ rest.1.show stem_of (from + length t.text + 1) i;
        texts = ap (λ x. t.text ∷ x) rest.1.texts;
        utf8 = (utf8.0, rest.1.utf8);
        many = ap suc rest.1.many;
      },
    )

-- good tokens are what their text is cut into
pub cut_into : (p : Parts) (ts : List Token) → AreGood p ts → HaveUtf8 ts → IsCutInto (literals_of p) ts (text_of ts)
cut_into p ts good utf8 =
    let found = marked p ts good utf8 in
    let ms = found.0 in
    let same : spaced ms ≡ text_of ts = ap (join_with_byte 32) found.1.texts in
    record {
      pieces = placed 0 ms;
      show = λ stem_of. found.1.show stem_of 0;
      cut = λ metas blanks are. subst (λ x. Cuts (literals_of p) metas (length (x ++ blanks)) (x ++ blanks) (placed 0 ms) []) same
          (spaced_cut (literals_of p) metas (length (spaced ms ++ blanks)) 0 ms blanks (found.1.stand metas) are (omega arith));
      outcome = λ metas blanks are few. subst (λ x. IsOutcome (literals_of p) metas (x ++ blanks) (tokens (placed 0 ms))) same
          (spaced_outcome (literals_of p) metas ms blanks (found.1.stand metas) found.1.utf8 are (omega (arith, few, found.1.many)));
    }
