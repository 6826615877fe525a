-- Two readings that are the answer can be written, and their tree texts are UTF-8.
use Rattle.std.proofs.Common.{◌≡◌, ℕ, zero, suc, ◌<◌, List, [], ◌∷◌, ◌++◌, length, map, subst, arith, lit<}
use Rattle.std.specs.Prelude.{slice_index_or, get_or}
use Rattle.std.specs.List.{AllByRecursion}
use Rattle.std.specs.Str.{IsUtf8}
use Rattle.std.proofs.lemmas.List.{length-map}
use Rattle.std.proofs.lemmas.Str.{IsUtf8-from_ascii, IsUtf8-nil, IsUtf8-append}
use Rattle.sx_term.specs.declared.sort.Sort.{Sort}
use Rattle.sx_token.specs.declared.token.Token.{Token}
use Rattle.sx_grammar.specs.Grammar.{Text}
use Rattle.sx_grammar.specs.Parts.{Parts, numbered, labels, line, parts}
use Rattle.sx_grammar.specs.declared.production.Production.{Production}
use Rattle.sx_grammar.specs.declared.grammar_parts.GrammarParts.{GrammarParts}
use Rattle.sx_grammar.specs.Reading.{Reading, Readings, ReadsWhole, branch, bracket, leaf, variable}
use Rattle.sx_grammar.specs.Reading.{done, ◌▸◌}
use Rattle.sx_earley.specs.Tokens.{Stems, read_token, plain_tokens}
use Rattle.sx_earley.specs.Completed.{sort_number}
use Rattle.sx_forest.specs.Text.{tree_text, kids_text, others_text, IsWithin}
use Rattle.sx_forest.specs.Readings.{plain_reading}
use Rattle.sx_forest.specs.declared.read_error.ReadError.{ReadError}
use Rattle.sx_forest.specs.declared.read_error.ReadError.TheVariants.{Ambiguous}
use Rattle.sx_forest.specs.declared.reading.Reading.{Reading as ReadingOf}
use Rattle.sx_forest.proofs.Fits.{readings_within}
use Rattle.sx_notation.specs.WhyUnread.{IsReadError}

at_utf8 : (xs : List Text) (n : ℕ) → AllByRecursion IsUtf8 xs → IsUtf8 (slice_index_or xs n [])
at_utf8 [] n all = IsUtf8-nil
at_utf8 (x ∷ xs) zero all = all.0
at_utf8 (x ∷ xs) (suc n) all = at_utf8 xs n all.1

low_one : (byte i : ℕ) → byte < 128 → get_or (byte ∷ []) i 0 < 128
low_one byte zero low = low
low_one byte (suc i) low = lit< tt

-- an ASCII byte before a text, and one after it
before_utf8 : (byte : ℕ) (text : Text) → byte < 128 → IsUtf8 text → IsUtf8 (byte ∷ text)
before_utf8 byte text low utf8 = IsUtf8-append (byte ∷ []) text (IsUtf8-from_ascii (byte ∷ []) (λ i. low_one byte i low)) utf8

after_utf8 : (byte : ℕ) (text : Text) → byte < 128 → IsUtf8 text → IsUtf8 (text ++ byte ∷ [])
after_utf8 byte text low utf8 = IsUtf8-append text (byte ∷ []) utf8 (IsUtf8-from_ascii (byte ∷ []) (λ i. low_one byte i low))

module _ (labels texts : List Text) (names : AllByRecursion IsUtf8 labels) (tokens : AllByRecursion IsUtf8 texts) where
  mutual
    pub tree_utf8 : (r : Reading) → IsUtf8 (tree_text labels texts r)
    tree_utf8 (branch label kids from to) = IsUtf8-append (slice_index_or labels label []) (kids_text labels texts kids) (at_utf8 labels label names) (kids_utf8 kids)
    tree_utf8 (bracket inner from to) =
        before_utf8 91 (tree_text labels texts inner ++ 93 ∷ []) (omega arith) (after_utf8 93 (tree_text labels texts inner) (omega arith) (tree_utf8 inner))
    tree_utf8 (leaf token) = at_utf8 texts token tokens
    tree_utf8 (variable token) = at_utf8 texts token tokens

    kids_utf8 : (ks : Readings) → IsUtf8 (kids_text labels texts ks)
    kids_utf8 done = IsUtf8-nil
    kids_utf8 (kid ▸ others) = before_utf8 40 (tree_text labels texts kid ++ (others_text labels texts others ++ 41 ∷ [])) (omega arith)
        (IsUtf8-append (tree_text labels texts kid) (others_text labels texts others ++ 41 ∷ []) (tree_utf8 kid) (after_utf8 41 (others_text labels texts others) (omega arith) (others_utf8 others)))

    others_utf8 : (ks : Readings) → IsUtf8 (others_text labels texts ks)
    others_utf8 done = IsUtf8-nil
    others_utf8 (kid ▸ others) =
        before_utf8 44 (tree_text labels texts kid ++ others_text labels texts others) (omega arith)
        (IsUtf8-append (tree_text labels texts kid) (others_text labels texts others) (tree_utf8 kid) (others_utf8 others))

-- what reads all tokens has labels and tokens that are there
pub whole_within : (p : Parts) (stems : Stems) (sort : Sort) (ts : List Token) (r : Reading) → ReadsWhole (numbered p) (plain_tokens stems ts) (sort_number sort) r → IsWithin (length p.productions) (length ts) r
whole_within p stems sort ts r reads =
    subst (λ n. IsWithin (length p.productions) n r) (length-map ts (λ t. read_token stems t.mark t.text))
    (readings_within p (plain_tokens stems ts) (sort_number sort) 0 0 (length (plain_tokens stems ts)) r reads)

label_lines : (ps : List Production) → AllByRecursion IsUtf8 (map (λ r. r.label) ps) → AllByRecursion IsUtf8 (map (λ r. r.label) (map line ps))
label_lines [] all = tt
label_lines (r ∷ rs) all = (all.0, label_lines rs all.1)

-- the labels of a grammar are those of its productions
pub labels_utf8 : (p : Parts) (g : GrammarParts) (ps : List Production) → parts g ≡ p → ps ≡ g.productions.items → AllByRecursion IsUtf8 (map (λ r. r.label) ps) → AllByRecursion IsUtf8 (labels p)
labels_utf8 p g ps same are all = subst (λ x. AllByRecursion IsUtf8 (labels x)) same (label_lines g.productions.items (subst (λ x. AllByRecursion IsUtf8 (map (λ r. r.label) x)) are all))

-- the two readings that an error shows
pub two_within : (p : Parts) (ts : List Token) (e : ReadError) (one other : ReadingOf) → e ≡ Ambiguous one other → (stems : Stems) (sort : Sort) → IsReadError p stems sort ts e
    → IsWithin (length p.productions) (length ts) (plain_reading one) × IsWithin (length p.productions) (length ts) (plain_reading other)
two_within p ts e one other same stems sort refused =
    let h : IsReadError p stems sort ts (Ambiguous one other) = subst (IsReadError p stems sort ts) same refused in
    (whole_within p stems sort ts (plain_reading one) h.0.2, whole_within p stems sort ts (plain_reading other) h.0.3)
