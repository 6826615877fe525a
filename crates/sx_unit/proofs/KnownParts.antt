-- Printed parts whose only reading is known.
use Rattle.std.proofs.Common.{◌≡◌, ℕ, List, [], ◌∷◌, length, refl, sym, ap, ◌∙◌, subst}
use Rattle.std.specs.Prelude.{Result, Ok, Err, IfErr}
use Rattle.std.specs.Str.{IsUtf8}
use Rattle.std.proofs.lemmas.List.{append-nil}
use Rattle.sx_term.specs.Spaced.{AreBlanks}
use Rattle.sx_term.specs.Tree.{Tree}
use Rattle.sx_token.specs.declared.token.Token.{Token}
use Rattle.sx_grammar.specs.Grammar as plain
use Rattle.sx_grammar.specs.Grammar.{of_sort}
use Rattle.sx_grammar.specs.Made.{IsGrammar}
use Rattle.sx_grammar.specs.Parts.{Parts, numbered}
use Rattle.sx_grammar.specs.Print.{Fits, BracketsWhereAsked}
use Rattle.sx_grammar.specs.Reading.{Reading}
use Rattle.sx_grammar.specs.ReadOne.{IsAnswer, only}
use Rattle.sx_grammar.specs.Tables.{literals_of}
use Rattle.sx_grammar.specs.Told.{shapes_of}
use Rattle.sx_earley.specs.Completed.{sort_number}
use Rattle.sx_words.specs.declared.print_defect.PrintedPart.TheVariants.{Body, Signature, Stated}
use Rattle.sx_typing.specs.Body.{ReadsAs, ReadsOnly}
use Rattle.sx_typing.specs.BodySource.{IsGoodTerm}
use Rattle.sx_typing.specs.Dialects.{DialectData, IsDialect}
use Rattle.sx_unit.specs.Known.{token_line}
use Rattle.sx_unit.specs.PrintedParts.{PrintedData, part_sort_of}
use Rattle.sx_unit.specs.Texts.{printed, print_text, print_line}
use Rattle.sx_unit.specs.Written.{ArePrintable}
use Rattle.sx_unit.proofs.KnownTexts.{IsSpelled, spelled, line_is, plain_many, tokens_printed}
use Rattle.sx_unit.proofs.KnownTexts.{known_read}
use Rattle.sx_unit.proofs.PartSorts.{part_fits, stated_fits}

pub err_so : {X E : Type 0} (r : Result X E) (P Q : E → Type 0) → IfErr r P → ((e : E) → P e → Q e)
    → IfErr r Q
err_so (Ok x) P Q h f = tt
err_so (Err e) P Q h f = f e h

pub feed_blank : AreBlanks (10 ∷ [])
feed_blank = (refl, tt)

module _ (d : DialectData) (is : IsDialect d) (same : d.parts ≡ d.language.parts)
    (grammar : IsGrammar d.language.parts)
    (asked : BracketsWhereAsked (numbered d.language.parts)) where
  abbrev p : Parts
  p = d.language.parts

  -- a body that is printed as the line of the tokens that were read
  module _ (source : plain.Text) (ts : List Token) (r : Reading) (u : Tree)
      (body : ReadsAs d.parts (part_sort_of d Body) source ts r u) (t : Tree)
      (good : IsGoodTerm (literals_of p) (shapes_of p) (part_sort_of d Body) t) (line : List ℕ)
      (text : line ≡ print_line p t) (spells : line ≡ token_line ts) (utf8 : IsUtf8 line) where
    read : ReadsAs p (part_sort_of d Body) source ts r u
    read = subst (λ (q : Parts). ReadsAs q (part_sort_of d Body) source ts r u) same body

    found : IsSpelled p line ts
    found = spelled p grammar source ts read.cut line (10 ∷ []) feed_blank (spells ∙ line_is ts)
        utf8

    body_fits : Fits (numbered p) [] (of_sort (sort_number (part_sort_of d Body))) t
    body_fits = part_fits d is Body t good

    -- has as many tokens
    pub body_tokens : length ts ≡ length (printed p t)
    body_tokens = sym (plain_many ts) ∙ ap length (sym found.same ∙ tokens_printed p
        (part_sort_of d Body) t line (10 ∷ []) grammar asked body_fits good.lexemes feed_blank text utf8
        found.tokens found.cut)

    -- and their reading
    pub body_read : ReadsOnly p (part_sort_of d Body) line t
    body_read = known_read p (part_sort_of d Body) t line (10 ∷ []) grammar asked body_fits good.lexemes
        feed_blank text utf8 found.tokens found.cut r
        (subst (λ (q : List plain.Token). IsAnswer (numbered p) q (sort_number (part_sort_of d Body))
        (only r)) (sym found.same) read.answer)

  -- a stated signature that is printed as the signature has its reading
  pub stated_read : (t : PrintedData) → ArePrintable d t → (shown : List ℕ) → IsUtf8 shown →
      ReadsOnly p (part_sort_of d Signature) shown t.signature → shown ≡ print_text d.parts t.stated →
      ReadsOnly d.parts (part_sort_of d Stated) shown t.stated
  stated_read t terms shown utf8 only_one text =
      let fits = subst (λ (q : Parts). Fits (numbered q) [] (of_sort (sort_number (part_sort_of d Stated)))
      t.stated) same (stated_fits d is t terms) in
      let here : shown ≡ print_text p t.stated = text
      ∙ ap (λ (q : Parts). print_text q t.stated) same in
      subst (λ (q : Parts). ReadsOnly q (part_sort_of d Stated) shown t.stated) (sym same)
      (known_read p (part_sort_of d Stated) t.stated shown [] grammar asked fits terms.stated.lexemes tt
      (here ∙ sym (append-nil (print_text p t.stated))) utf8 only_one.0 only_one.2.cut only_one.1
      only_one.2.answer)
