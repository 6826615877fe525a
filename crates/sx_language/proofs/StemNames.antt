-- The names of the variables of lines that are read have stems with sorts.
use Rattle.std.proofs.Common.{◌≡◌, ℕ, zero, suc, ◌⊎◌, inl, inr, true, List, [], ◌∷◌, ◌++◌, Contains, Option, Some, None, sym, subst}
use Rattle.std.specs.Prelude.{is_some, slice_get, slice_index_or}
use Rattle.std.specs.List.{AllByRecursion}
use Rattle.sx_term.specs.declared.sort.Sort.{Sort}
use Rattle.sx_term.specs.Tree.{Tree}
use Rattle.sx_term.specs.Vars.{IsAdded, without_tilde}
use Rattle.sx_token.specs.declared.token.Token.{Token}
use Rattle.sx_grammar.specs.Grammar.{Text}
use Rattle.sx_grammar.specs.Parts.{Parts}
use Rattle.sx_grammar.specs.Reading.{Reading, Readings, branch, bracket, leaf, variable, done, ◌▸◌}
use Rattle.sx_grammar.specs.Stems.{without_digits}
use Rattle.sx_earley.specs.Tokens.{Stems, stem_sort}
use Rattle.sx_earley.specs.Unknown.{HasKnownStem}
use Rattle.sx_forest.specs.Text.{token_texts}
use Rattle.sx_forest.specs.Names.{IsMetavariable, IsMarked, AreMarked, reading_names, names_of_kids, AddsEach}
use Rattle.sx_rules.specs.Rules.{Judgement, Premise, holds}
use Rattle.sx_outline.specs.Stages.{Numbered, RuleData}
use Rattle.sx_notation.specs.ReadText.{IsReadLine}
use Rattle.sx_notation.proofs.TextReading.{is_marked}
use Rattle.sx_language.specs.RuleLine.{Reader, judgements, subject_sort, IsLine}
use Rattle.sx_language.specs.RuleTexts.{NamesHaveStems, ArePremises, IsRuleBody, AreStated}

stems_append : (stems : Stems) (xs ys : List Text) → NamesHaveStems stems xs → NamesHaveStems stems ys → NamesHaveStems stems (xs ++ ys)
stems_append stems [] ys h k = k
stems_append stems (x ∷ xs) ys h k = (h.0, stems_append stems xs ys h.1 k)

variable_stem : (stems : Stems) (ts : List Token) (n : ℕ) → IsMetavariable (slice_get ts n) → AllByRecursion (HasKnownStem stems) ts
    → is_some (stem_sort stems (without_digits (without_tilde (slice_index_or (token_texts ts) n [])))) ≡ true
variable_stem stems [] n h all = absurd h
variable_stem stems (t ∷ ts) zero h all = all.0 h
variable_stem stems (t ∷ ts) (suc n) h all = variable_stem stems ts n h all.1

module _ (stems : Stems) (ts : List Token) (all : AllByRecursion (HasKnownStem stems) ts) where
  mutual
    reading_stems : (r : Reading) → IsMarked ts r → NamesHaveStems stems (reading_names ts r)
    reading_stems (branch label kids from to) h = readings_stems kids h
    reading_stems (bracket inner from to) h = reading_stems inner h
    reading_stems (leaf token) h = tt
    reading_stems (variable token) h = (variable_stem stems ts token h all, tt)

    readings_stems : (ks : Readings) → AreMarked ts ks → NamesHaveStems stems (names_of_kids ts ks)
    readings_stems done h = tt
    readings_stems (kid ▸ kids) h = stems_append stems (reading_names ts kid) (names_of_kids ts kids) (reading_stems kid h.0) (readings_stems kids h.1)

added_stems : (stems : Stems) (old new : List Text) (name : Text) (number : ℕ) → NamesHaveStems stems old → is_some (stem_sort stems (without_digits name)) ≡ true → IsAdded old new name number → NamesHaveStems stems new
added_stems stems old new name number h k added = by added.list
  where
    by : (Contains old name × (new ≡ old)) ⊎ (¬ (Contains old name) × (new ≡ old ++ name ∷ [])) → NamesHaveStems stems new
    by (inl e) = subst (NamesHaveStems stems) (sym e.1) h
    by (inr e) = subst (NamesHaveStems stems) (sym e.1) (stems_append stems old (name ∷ []) h (k, tt))

each_stems : (stems : Stems) (old names new : List Text) → NamesHaveStems stems old → NamesHaveStems stems names → AddsEach old names new → NamesHaveStems stems new
each_stems stems old [] new h k e = subst (NamesHaveStems stems) (sym e) h
each_stems stems old (name ∷ names) new h k e = each_stems stems e.0 names new (added_stems stems old e.0 name e.1 h k.0 e.2) k.1 e.3

-- the names after a text that is read
read_stems : (p : Parts) (stems : Stems) (sort : Sort) (text : Text) (old new : List Text) (t : Tree) →
    IsReadLine p stems sort text old new t → NamesHaveStems stems old → NamesHaveStems stems new
read_stems p stems sort text old new t read h =
    each_stems stems old (reading_names read.tokens read.reading) new h
    (reading_stems stems read.tokens read.known.1 read.reading
    (is_marked p stems text read.tokens read.known sort read.reading read.answer)) read.names

module _ (r : Reader) where
  -- the names after a line, after the premises, and after a body
  line_stems : (text : Text) (old new : List Text) (q : Premise) → IsLine r text old new q →
      NamesHaveStems r.stems old → NamesHaveStems r.stems new
  line_stems text old new q line h =
      read_stems r.parts r.stems (judgements r.parts) text old new line.term line.read h

  premise_stems : (ls : List Numbered) (old new : List Text) (qs : List Premise) →
      ArePremises r ls old new qs → NamesHaveStems r.stems old → NamesHaveStems r.stems new
  premise_stems [] old new [] h k = subst (NamesHaveStems r.stems) (sym h) k
  premise_stems [] old new (q ∷ qs) h k = absurd h
  premise_stems (l ∷ ls) old new [] h k = absurd h
  premise_stems (l ∷ ls) old new (q ∷ qs) h k =
      premise_stems ls h.0 new qs h.2 (line_stems l.text old h.0 q h.1 k)

  body_stems : (line : Option Numbered) (subject : Option Sort) (old new : List Text)
      (body : Option Tree) → IsRuleBody r line subject old new body → NamesHaveStems r.stems old →
      NamesHaveStems r.stems new
  body_stems None subject old new body h k = subst (NamesHaveStems r.stems) (sym h.0) k
  body_stems (Some l) None old new body h k = subst (NamesHaveStems r.stems) (sym h.0) k
  body_stems (Some l) (Some sort) old new None h k = absurd h
  body_stems (Some l) (Some sort) old new (Some t) h k =
      read_stems r.parts r.stems sort l.text old new t h k

  -- the names of a rule
  pub stated_stems : (lines : RuleData) (names : List Text) (qs : List Premise) (j : Judgement)
      (body : Option Tree) → AreStated r lines names qs j body → NamesHaveStems r.stems names
  stated_stems lines names qs j body h =
      let before = premise_stems lines.premises [] h.middle qs h.premises tt in
      let after = line_stems lines.conclusion.text h.middle h.last (holds j) h.conclusion before in
      body_stems lines.body (subject_sort r.forms j.form) h.last names body h.bodied after
