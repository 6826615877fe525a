-- Lines whose metavariables are among some names.
use Rattle.std.proofs.Common.{◌≡◌, ℕ, zero, suc, ◌+◌, ◌⊎◌, inl, inr, List, [], ◌∷◌, ◌++◌, length, Some, None, slice_get, Contains, refl, ap, ◌∙◌, sym, subst}
use Rattle.std.specs.Prelude.{slice_index_or}
use Rattle.std.specs.List.{AllByRecursion}
use Rattle.std.proofs.lemmas.List.{append-nil}
use Rattle.std.proofs.lemmas.Option.{slice_get_within, none-some}
use Rattle.sx_term.specs.declared.sort.Sort.{Sort}
use Rattle.sx_term.specs.Tree.{Tree}
use Rattle.sx_term.specs.Vars.{IsAdded, without_tilde}
use Rattle.sx_token.specs.declared.token.Token.{Token}
use Rattle.sx_grammar.specs.Grammar.{Text}
use Rattle.sx_grammar.specs.Parts.{Parts, numbered}
use Rattle.sx_grammar.specs.Print.{term_of}
use Rattle.sx_grammar.specs.Reading.{Reading, Readings, branch, bracket, leaf, variable, done, ◌▸◌}
use Rattle.sx_grammar.specs.ReadOne.{IsAnswer, only}
use Rattle.sx_grammar.proofs.Finding.{at_contains, contains_place}
use Rattle.sx_earley.specs.Tokens.{Stems, plain_tokens}
use Rattle.sx_earley.specs.Completed.{sort_number}
use Rattle.sx_forest.specs.Text.{token_texts}
use Rattle.sx_forest.specs.Names.{IsMetavariable, IsMarked, AreMarked, reading_names, names_of_kids, AddsEach}
use Rattle.sx_notation.specs.declared.notation_error.NotationError.{NotationError}
use Rattle.sx_notation.specs.declared.notation_error.NotationError.TheVariants.{Memory, NotUtf8}
use Rattle.sx_notation.specs.declared.notation_error.NotationError.TheVariants.{Notation}
use Rattle.sx_notation.specs.declared.notation_error.NotationError.TheVariants.{Token as BadTokens}
use Rattle.sx_notation.specs.declared.notation_error.NotationError.TheVariants.{Grammar, Read}
use Rattle.sx_notation.specs.declared.notation_error.NotationError.TheVariants.{Rules}
use Rattle.sx_notation.specs.ReadText.{IsUncut, IsUnreadLine}
use Rattle.sx_notation.specs.ReadAmong.{IsNamed, IsNamedCut, IsReadAmong, IsRefusedAmong}
use Rattle.sx_notation.specs.ReadLaws.{AmongIsRead}
use Rattle.sx_notation.proofs.Growing.{got_before}
use Rattle.sx_notation.proofs.TextReading.{is_marked}

-- ---- a name is among the names exactly where it gets one of their numbers

same_some : (x y : Text) → Some x ≡ Some y → x ≡ y
same_some x y e = cc

module _ (names new : List Text) (name : Text) (n : ℕ) (added : IsAdded names new name n) where
  pub is_there : (x : Text) → slice_get names n ≡ Some x → Contains names name × (new ≡ names)
  is_there x at = by added.list
    where
      by : (Contains names name × (new ≡ names)) ⊎ (¬ (Contains names name) × (new ≡ names ++ name ∷ [])) → Contains names name × (new ≡ names)
      by (inl h) = h
      by (inr h) =
          let front : slice_get (names ++ name ∷ []) n ≡ Some x = got_before names (name ∷ []) n (slice_get_within names n x at) ∙ at in
          let same : x ≡ name = same_some x name (sym front ∙ ap (λ l. slice_get l n) (sym h.1) ∙ added.numbered) in
          absurd (h.0 (at_contains names n name (at ∙ ap Some same)))

  pub not_there : slice_get names n ≡ None → ¬ (Contains names name)
  not_there past has = by added.list
    where
      by : (Contains names name × (new ≡ names)) ⊎ (¬ (Contains names name) × (new ≡ names ++ name ∷ [])) → ⊥
      by (inl h) = none-some name (sym past ∙ ap (λ l. slice_get l n) (sym h.1) ∙ added.numbered)
      by (inr h) = h.0 has

-- ---- the names in a reading

variable_named : (names : List Text) (ts : List Token) (n : ℕ) → IsMetavariable (slice_get ts n) → AllByRecursion (IsNamed names) ts → Contains names (without_tilde (slice_index_or (token_texts ts) n []))
variable_named names [] n h all = absurd h
variable_named names (t ∷ ts) zero h all = all.0 h
variable_named names (t ∷ ts) (suc n) h all = variable_named names ts n h all.1

all_append : (names xs ys : List Text) → AllByRecursion (Contains names) xs → AllByRecursion (Contains names) ys → AllByRecursion (Contains names) (xs ++ ys)
all_append names [] ys h k = k
all_append names (x ∷ xs) ys h k = (h.0, all_append names xs ys h.1 k)

module _ (names : List Text) (ts : List Token) (all : AllByRecursion (IsNamed names) ts) where
  mutual
    reading_named : (r : Reading) → IsMarked ts r → AllByRecursion (Contains names) (reading_names ts r)
    reading_named (branch label kids from to) h = readings_named kids h
    reading_named (bracket inner from to) h = reading_named inner h
    reading_named (leaf token) h = tt
    reading_named (variable token) h = (variable_named names ts token h all, tt)

    readings_named : (ks : Readings) → AreMarked ts ks → AllByRecursion (Contains names) (names_of_kids ts ks)
    readings_named done h = tt
    readings_named (kid ▸ kids) h = all_append names (reading_names ts kid) (names_of_kids ts kids) (reading_named kid h.0) (readings_named kids h.1)

-- names that are there add none
one_there : (names new : List Text) (n : Text) (number : ℕ) → Contains names n → IsAdded names new n number → new ≡ names
one_there names new n number has added = by added.list
  where
    by : (Contains names n × (new ≡ names)) ⊎ (¬ (Contains names n) × (new ≡ names ++ n ∷ [])) → new ≡ names
    by (inl k) = k.1
    by (inr k) = absurd (k.0 has)

adds_none : (names ns new : List Text) → AllByRecursion (Contains names) ns → AddsEach names ns new → new ≡ names
adds_none names [] new all h = h
adds_none names (n ∷ ns) new all h = adds_none names ns new all.1 (subst (λ l. AddsEach l ns new) (one_there names h.0 n h.1 all.0 h.2) h.3)

none_added : (names ns : List Text) → AllByRecursion (Contains names) ns → AddsEach names ns names
none_added names [] all = refl
none_added names (n ∷ ns) all =
    let at = contains_place names n all.0 in
    (names, at.0, record { numbered = at.1; list = inl (all.0, refl) }, none_added names ns all.1)

-- ---- lines

module _ (p : Parts) (stems : Stems) (line : Text) (names : List Text) (ts : List Token) (cut : IsNamedCut p stems names line ts) (sort : Sort) (r : Reading)
    (answer : IsAnswer (numbered p) (plain_tokens stems ts) (sort_number sort) (only r)) where
  all_there : AllByRecursion (Contains names) (reading_names ts r)
  all_there = reading_named names ts cut.1 r (is_marked p stems line ts cut.0 sort r answer)

  -- the term of the reading is that of the line
  pub is_read_among : (old new : List Text) → old ≡ names → AddsEach old (reading_names ts r) new → (t : Tree) → t ≡ term_of (plain_tokens stems ts) (new ++ []) r → IsReadAmong p stems sort line names t
  is_read_among old new was added t is =
      let same : new ≡ names = adds_none names (reading_names ts r) new all_there (subst (λ l. AddsEach l (reading_names ts r) new) was added) in
      record { tokens = ts; cut = cut; reading = r; answer = answer; term = is ∙ ap (λ l. term_of (plain_tokens stems ts) l r) (append-nil new ∙ same) }

-- what is read among names is read without a further name
pub among_is_read : AmongIsRead
among_is_read p stems sort line names t h = record {
  tokens = h.tokens;
  known = h.cut.0;
  reading = h.reading;
  answer = h.answer;
  names = none_added names (reading_names h.tokens h.reading) (all_there p stems line names h.tokens h.cut sort h.reading h.answer);
  term = h.term;
}

-- ---- refusals

module _ (p : Parts) (stems : Stems) (sort : Sort) (line : Text) (names : List Text) (number : ℕ) where
  pub uncut_among : (e : NotationError) → IsUncut p stems line number e → IsRefusedAmong p stems sort line names number e
  uncut_among Memory h = tt
  uncut_among (NotUtf8 place) h = absurd h
  uncut_among (Notation at kind) h = (h.0, h.1, (h.2.0, h.2.3.1.0, h.2.2, at_contains h.2.0 h.2.1 h.2.3.1.0 h.2.3.1.1, inl h.2.3.1.2))
  uncut_among (BadTokens at e) h = h
  uncut_among (Grammar e) h = absurd h
  uncut_among (Read at e) h = absurd h
  uncut_among (Rules e v) h = absurd h

  pub unread_among : (ts : List Token) → IsNamedCut p stems names line ts → (e : NotationError) → IsUnreadLine p stems sort ts (length line) number e → IsRefusedAmong p stems sort line names number e
  unread_among ts cut Memory h = tt
  unread_among ts cut (NotUtf8 place) h = absurd h
  unread_among ts cut (Notation at kind) h = absurd h
  unread_among ts cut (BadTokens at e) h = absurd h
  unread_among ts cut (Grammar e) h = absurd h
  unread_among ts cut (Read at e) h = (h.0, (ts, cut, h.1))
  unread_among ts cut (Rules e v) h = absurd h
