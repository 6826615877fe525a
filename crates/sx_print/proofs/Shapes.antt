-- A literal that is UTF-8 and not bad is a word or symbol characters.
use Rattle.std.proofs.Common.{◌≡◌, ℕ, ◌+◌, ◌<◌, List, [], ◌∷◌, ◌++◌, length, length-append, Bool, true, false, IsTrue, ◌⊎◌, inl, inr, sym, refl, ap, ◌∙◌, subst, arith}
use Rattle.std.specs.Char.{encode_utf8}
use Rattle.std.specs.Str.{IsUtf8, encode_utf8_all}
use Rattle.std.specs.List.{AllByRecursion}
use Rattle.std.proofs.lemmas.Str.{encode_same, encodes_same, length-encode, len_utf8_bounds}
use Rattle.std.proofs.lemmas.Bool.{false≢true, cases_Bool}
use Rattle.unicode_ident.specs.Ident.{is_xid_continue}
use Rattle.sx_term.specs.Cutting.{is_symbol, begins_word, BeginsWhere}
use Rattle.sx_term.specs.Spaced.{IsWordLiteral, IsSymbolLiteral}
use Rattle.sx_grammar.specs.Grammar.{Text}
use Rattle.sx_grammar.specs.Made.{IsBadLiteral}

all_or_not : (p : ℕ → Bool) (cs : List ℕ) → AllByRecursion (λ c. IsTrue (p c)) cs ⊎ ¬ (AllByRecursion (λ c. IsTrue (p c)) cs)
all_or_not p [] = inl tt
all_or_not p (c ∷ cs) = both (cases_Bool (p c)) (all_or_not p cs)
  where
    both : ((p c ≡ true) ⊎ (p c ≡ false)) → (AllByRecursion (λ c. IsTrue (p c)) cs ⊎ ¬ (AllByRecursion (λ c. IsTrue (p c)) cs))
        → AllByRecursion (λ c. IsTrue (p c)) (c ∷ cs) ⊎ ¬ (AllByRecursion (λ c. IsTrue (p c)) (c ∷ cs))
    both (inl h) (inl k) = inl (h, k)
    both (inl h) (inr k) = inr (λ all. k all.1)
    both (inr h) k = inr (λ all. false≢true (sym h ∙ all.0))

no_character : (c : ℕ) (rest : List ℕ) → [] ≡ encode_utf8 c ++ rest → ⊥
no_character c rest e = absurd (omega (arith, ap length e, length-append (encode_utf8 c) rest, length-encode c, (len_utf8_bounds c).0))

no_front : (p : ℕ → Bool) → ¬ (BeginsWhere p [])
no_front p (c, rest, pass, e) = no_character c rest e

word_or_not : (cs : List ℕ) → IsWordLiteral (encode_utf8_all cs) ⊎ ¬ (IsWordLiteral (encode_utf8_all cs))
word_or_not [] = inr (λ w. no_character w.first w.others w.split)
word_or_not (c ∷ cs) = both (cases_Bool (begins_word c)) (all_or_not is_xid_continue cs)
  where
    both : ((begins_word c ≡ true) ⊎ (begins_word c ≡ false)) → (AllByRecursion (λ c. IsTrue (is_xid_continue c)) cs ⊎ ¬ (AllByRecursion (λ c. IsTrue (is_xid_continue c)) cs))
        → IsWordLiteral (encode_utf8_all (c ∷ cs)) ⊎ ¬ (IsWordLiteral (encode_utf8_all (c ∷ cs)))
    both (inl h) (inl k) = inl (record {
      first = c;
      others = encode_utf8_all cs;
      begins = h;
      split = refl;
      goes_on = record { characters = (cs, k, refl); maximal = no_front is_xid_continue };
    })
    both (inl h) (inr k) = inr (λ w.
        let heads = encode_same c w.first (encode_utf8_all cs) w.others w.split in
        let same : cs ≡ w.goes_on.characters.0 = encodes_same cs w.goes_on.characters.0 (heads.1 ∙ w.goes_on.characters.2) in
        k (subst (AllByRecursion (λ c. IsTrue (is_xid_continue c))) (sym same) w.goes_on.characters.1))
    both (inr h) k = inr (λ w.
        let heads = encode_same c w.first (encode_utf8_all cs) w.others w.split in
        false≢true (sym h ∙ ap begins_word heads.0 ∙ w.begins))

symbols_if_not_not : (text : Text) → ¬ (¬ (IsSymbolLiteral text)) → IsSymbolLiteral text
symbols_if_not_not text maybe = ((some text maybe, all (all_or_not is_symbol text)), λ front more e. absurd (maybe (λ s. s.1 front more e)))
  where
    some : (text : Text) → ¬ (¬ (IsSymbolLiteral text)) → 0 < length text
    some [] maybe = absurd (maybe (λ s. omega (arith, s.0.0)))
    some (x ∷ xs) maybe = omega arith

    all : (AllByRecursion (λ b. IsTrue (is_symbol b)) text ⊎ ¬ (AllByRecursion (λ b. IsTrue (is_symbol b)) text)) → AllByRecursion (λ b. IsTrue (is_symbol b)) text
    all (inl h) = h
    all (inr k) = absurd (maybe (λ s. k s.0.1))

good_encoded : (cs : List ℕ) → ¬ (IsBadLiteral (encode_utf8_all cs)) → IsWordLiteral (encode_utf8_all cs) ⊎ IsSymbolLiteral (encode_utf8_all cs)
good_encoded cs good = by_word (word_or_not cs)
  where
    by_word : (IsWordLiteral (encode_utf8_all cs) ⊎ ¬ (IsWordLiteral (encode_utf8_all cs))) → IsWordLiteral (encode_utf8_all cs) ⊎ IsSymbolLiteral (encode_utf8_all cs)
    by_word (inl w) = inl w
    by_word (inr k) = inr (symbols_if_not_not (encode_utf8_all cs) (λ n. good (k, n)))

pub good_shape : (text : Text) → IsUtf8 text → ¬ (IsBadLiteral text) → IsWordLiteral text ⊎ IsSymbolLiteral text
good_shape text utf8 good = subst (λ t. IsWordLiteral t ⊎ IsSymbolLiteral t) utf8.1.1 (good_encoded utf8.0 (subst (λ t. ¬ (IsBadLiteral t)) (sym utf8.1.1) good))
