-- What is read as a judgement by the grammar of rules is a form, or says that two lexemes are to be apart.
use Rattle.std.proofs.Common.{◌≡◌, ℕ, zero, suc, ◌+◌, ◌-◌, ◌<◌, ◌≤◌, ◌⊎◌, inl, inr, Bool, true, false, cond, if◌then◌else◌, codes, get_or, List, [], ◌∷◌, ◌++◌, Some, None, length, length-append, map, slice_get, Contains, refl, ap, ◌∙◌, sym, subst, arith}
use Rattle.std.specs.Prelude.{option_map, flat_map}
use Rattle.std.specs.Str.{bytes_eq}
use Rattle.std.proofs.lemmas.Option.{slice_get_within, slice_get-map, slice_get-get_or, none-some}
use Rattle.std.proofs.lemmas.List.{length-map}
use Rattle.std.proofs.lemmas.Bool.{cases_lt}
use Rattle.sx_term.specs.declared.lex_kind.LexKind.{LexKind}
use Rattle.sx_term.specs.declared.lex_kind.LexKind.TheVariants.{Id, Num, Str}
use Rattle.sx_term.specs.declared.mark.Mark.{Mark}
use Rattle.sx_term.specs.declared.mark.Mark.TheVariants as marks
use Rattle.sx_term.specs.declared.sort.Sort.{Sort}
use Rattle.sx_term.specs.declared.sort.Sort.TheVariants as TheSort
use Rattle.sx_term.specs.Tree.{Tree, node, listed}
use Rattle.sx_term.proofs.Kids.{forest-listed}
use Rattle.sx_token.specs.declared.token.Token.{Token}
use Rattle.sx_grammar.specs.Grammar as plain
use Rattle.sx_grammar.specs.Grammar.{Text, Symbol, literal, lexical, Production, Grammar, of_sort}
use Rattle.sx_grammar.specs.Grammar.{pair_of, is_variable}
use Rattle.sx_grammar.specs.Parts.{Line, Parts, names, number_of, numbered, numbered_line}
use Rattle.sx_grammar.specs.Parts.{numbered_sort, symbol_sorts, sorts_named}
use Rattle.sx_grammar.specs.Made.{IsGrammar}
use Rattle.sx_grammar.specs.Told.{sort_with, is_typed}
use Rattle.sx_grammar.specs.Reading.{Reading, Readings, leaf, variable, done, ◌▸◌, Marked, Reads}
use Rattle.sx_grammar.specs.Reading.{by_production, by_brackets, by_variable, ReadsAll, all_read}
use Rattle.sx_grammar.specs.Reading.{by_literal, by_lexeme, by_lexical_variable, by_part}
use Rattle.sx_grammar.specs.Print.{term_of, terms_of}
use Rattle.sx_grammar.proofs.Finding.{at_contains, is_head, in_flat_map, mapped_at, named_at}
use Rattle.sx_earley.specs.Completed.{IsSort}
use Rattle.sx_earley.specs.Tokens.{Stems, stem_sort, found_stem, read_token, plain_tokens}
use Rattle.sx_earley.specs.Tokens.{meta_stem}
use Rattle.sx_rules.specs.Rules.{Premise, holds, apart}
use Rattle.sx_rules.specs.Views.{FormData}
use Rattle.sx_directives.specs.declared.rows.FormLine.{FormLine}
use Rattle.sx_directives.specs.declared.rows.VarLine.{VarLine}
use Rattle.sx_notation.specs.ReadText.{IsReadLine}
use Rattle.sx_notation.specs.RuleParts.{judgement_sort, form_line, apart_line, apart_lines}
use Rattle.sx_notation.specs.RuleParts.{rule_parts}
use Rattle.sx_notation.proofs.Growing.{got_behind-at}
use Rattle.sx_notation.proofs.RuleGrammars.{productions_stay}
use Rattle.sx_language.specs.RuleLine.{Reader, judgements, subject_sort, label_of, Says}
use Rattle.sx_language.specs.RuleLine.{CanReadRules}
use Rattle.sx_language.specs.States.{IsSortNamed, AreStems}

-- a production of a grammar has one of its sorts
sort_below : (p : Parts) (label : ℕ) (r : Production) → IsGrammar p → slice_get (numbered p).productions label ≡ Some r → r.sort < length p.sorts
sort_below p label r is at =
    let l = mapped_at (numbered_line (names p)) p.productions label r at in
    let has = at_contains p.productions label l.0 l.1 in
    let named : Contains (sorts_named p) l.0.sort = in_flat_map (λ x. x.sort ∷ flat_map symbol_sorts x.symbols) p.productions l.0 l.0.sort has (is_head l.0.sort (flat_map symbol_sorts l.0.symbols)) in
    let known : ¬ (¬ (Contains (names p) l.0.sort)) = λ missing. is.0.0.0.0.1 l.0.sort named (inl missing) in
    let within : number_of (names p) l.0.sort < length (names p) = slice_get_within (names p) (number_of (names p) l.0.sort) l.0.sort (named_at (names p) l.0.sort known) in
    let e : number_of (names p) l.0.sort ≡ r.sort = ap (λ x. x.sort) l.2 in
    omega (arith, within, e, length-map p.sorts (λ s. s.name))

-- two parts with a literal between them
abbrev IsPair : List Symbol → Type 0
IsPair ss = (k : LexKind) × (text : Text) × (ss ≡ lexical k ∷ literal text ∷ lexical k ∷ [])

abbrev HasTwo : Readings → Type 0
HasTwo ks = (a : Reading) × (b : Reading) × (ks ≡ a ▸ b ▸ done)

module _ (g : Grammar) (tokens : List plain.Token) where
  no_part : {ss : List Symbol} {from to : ℕ} {ks : Readings} → ReadsAll g tokens ss from to ks → ss ≡ [] → ks ≡ done
  no_part all_read e = refl
  no_part (by_literal h more) e = cc
  no_part (by_lexeme h more) e = cc
  no_part (by_lexical_variable h more) e = cc
  no_part (by_part kid more) e = cc

  one_part : {ss : List Symbol} {from to : ℕ} {ks : Readings} → ReadsAll g tokens ss from to ks → (k : LexKind) → ss ≡ lexical k ∷ [] → (a : Reading) × (ks ≡ a ▸ done)
  one_part all_read k e = cc
  one_part (by_literal h more) k e = cc
  one_part (by_lexeme {rest = rest} {from = from} h more) k e = let q : rest ≡ [] = cc in (leaf from, ap (λ x. leaf from ▸ x) (no_part more q))
  one_part (by_lexical_variable {rest = rest} {from = from} h more) k e = let q : rest ≡ [] = cc in (variable from, ap (λ x. variable from ▸ x) (no_part more q))
  one_part (by_part kid more) k e = cc

  past_text : {ss : List Symbol} {from to : ℕ} {ks : Readings} → ReadsAll g tokens ss from to ks → (k : LexKind) (text : Text) → ss ≡ literal text ∷ lexical k ∷ [] → (a : Reading) × (ks ≡ a ▸ done)
  past_text all_read k text e = cc
  past_text (by_literal {rest = rest} h more) k text e = let q : rest ≡ lexical k ∷ [] = cc in one_part more k q
  past_text (by_lexeme h more) k text e = cc
  past_text (by_lexical_variable h more) k text e = cc
  past_text (by_part kid more) k text e = cc

  two_parts : {ss : List Symbol} {from to : ℕ} {ks : Readings} → ReadsAll g tokens ss from to ks → IsPair ss → HasTwo ks
  two_parts all_read h = let e = h.2 in cc
  two_parts (by_literal x more) h = let e = h.2 in cc
  two_parts (by_lexeme {rest = rest} {from = from} x more) (k, text, e) =
      let q : rest ≡ literal text ∷ lexical k ∷ [] = cc in
      let last = past_text more k text q in (leaf from, last.0, ap (λ x. leaf from ▸ x) last.1)
  two_parts (by_lexical_variable {rest = rest} {from = from} x more) (k, text, e) =
      let q : rest ≡ literal text ∷ lexical k ∷ [] = cc in
      let last = past_text more k text q in (variable from, last.0, ap (λ x. variable from ▸ x) last.1)
  two_parts (by_part kid more) h = let e = h.2 in cc

-- no stem is of a sort past those of the language
sort_with_below : (p : Parts) (n m : ℕ) → n < m → (found_stem (Some (sort_with p.sorts n)) ≡ of_sort m → ⊥)
sort_with_below p n m lt e = by (is_typed (slice_get p.sorts n)) e
  where
    by : (b : Bool) → found_stem (Some (cond b (TheSort.Typed n) (TheSort.Plain n))) ≡ of_sort m → ⊥
    by true e = let q : n ≡ m = cc in absurd (omega (arith, lt, q))
    by false e = let q : n ≡ m = cc in absurd (omega (arith, lt, q))

named_below : (p : Parts) (name : Text) (sort : Sort) → IsSortNamed p name sort → found_stem (Some sort) ≡ of_sort (length p.sorts) → ⊥
named_below p name sort (inl h) e = let q : found_stem (Some (TheSort.Lex h.0)) ≡ of_sort (length p.sorts) = ap (λ s. found_stem (Some s)) (sym h.2) ∙ e in cc
named_below p name sort (inr h) e =
    let within : number_of (names p) name < length (names p) = slice_get_within (names p) (number_of (names p) name) name (named_at (names p) name (λ missing. missing h.1)) in
    sort_with_below p (number_of (names p) name) (length p.sorts) (omega (arith, within, length-map p.sorts (λ s. s.name))) (ap (λ s. found_stem (Some s)) (sym h.2) ∙ e)

stem_below : (p : Parts) (vs : List VarLine) (stems : Stems) (stem : Text) → AreStems p vs stems → found_stem (stem_sort stems stem) ≡ of_sort (length p.sorts) → ⊥
stem_below p [] [] stem are e = cc
stem_below p [] (s ∷ ss) stem are e = absurd are
stem_below p (v ∷ vs) [] stem are e = absurd are
stem_below p (v ∷ vs) (s ∷ ss) stem are e = by (bytes_eq s.0 stem) (stem_below p vs ss stem are.2) e
  where
    by : (b : Bool) → (found_stem (stem_sort ss stem) ≡ of_sort (length p.sorts) → ⊥) → found_stem (if b then Some s.1 else stem_sort ss stem) ≡ of_sort (length p.sorts) → ⊥
    by true rest e = named_below p v.sort s.1 are.1 e
    by false rest e = rest e

mark_below : (p : Parts) (vs : List VarLine) (stems : Stems) (m : Mark) (text : Text) → AreStems p vs stems → (read_token stems m text).mark ≡ is_variable (of_sort (length p.sorts)) → ⊥
mark_below p vs stems (marks.Lit n) text are e = cc
mark_below p vs stems (marks.Lex k) text are e = cc
mark_below p vs stems marks.Meta text are e = stem_below p vs stems (meta_stem text) are (let q : found_stem (stem_sort stems (meta_stem text)) ≡ of_sort (length p.sorts) = cc in q)

token_below : (p : Parts) (vs : List VarLine) (stems : Stems) (ts : List Token) (n : ℕ) → AreStems p vs stems → Marked (plain_tokens stems ts) n (is_variable (of_sort (length p.sorts))) → ⊥
token_below p vs stems [] n are h = absurd (none-some _ h.1)
token_below p vs stems (t ∷ ts) zero are h = mark_below p vs stems t.mark t.text are (let q = h.1 in cc)
token_below p vs stems (t ∷ ts) (suc n) are h = token_below p vs stems ts n are h

-- a production for `!=` is a pair
apart_pairs : (ns : List Text) (m : ℕ) (l : Line) → slice_get apart_lines m ≡ Some l → IsPair (numbered_line ns l).symbols
apart_pairs ns zero l e = let q : apart_line Id ≡ l = cc in subst (λ x. IsPair (numbered_line ns x).symbols) q (Id, codes "!=", refl)
apart_pairs ns (suc zero) l e = let q : apart_line Num ≡ l = cc in subst (λ x. IsPair (numbered_line ns x).symbols) q (Num, codes "!=", refl)
apart_pairs ns (suc (suc zero)) l e = let q : apart_line Str ≡ l = cc in subst (λ x. IsPair (numbered_line ns x).symbols) q (Str, codes "!=", refl)
apart_pairs ns (suc (suc (suc m))) l e = absurd (none-some l e)

module _ (p : Parts) (fs : List FormLine) (is : IsGrammar p) where
  many : length (rule_parts p fs).productions ≡ length p.productions + (length fs + 3)
  many = omega (arith, length-append p.productions (map form_line fs ++ apart_lines), length-append (map form_line fs) apart_lines, length-map fs form_line)

  -- a production of judgements stands behind those of the language
  late : (label : ℕ) (r : Production) → slice_get (numbered (rule_parts p fs)).productions label ≡ Some r → r.sort ≡ length p.sorts → length p.productions ≤ label
  late label r at sort = by (cases_lt label (length p.productions))
    where
      by : (label < length p.productions) ⊎ (length p.productions ≤ label) → length p.productions ≤ label
      by (inr le) = le
      by (inl lt) =
          let d : Line = apart_line Id in
          let l = get_or p.productions label d in
          let q = numbered_line (names p) l in
          let here : slice_get (numbered p).productions label ≡ Some q =
          slice_get-map (numbered_line (names p)) p.productions label ∙ ap (option_map (numbered_line (names p))) (slice_get-get_or p.productions label d lt) in
          let same : Some q ≡ Some r = sym (productions_stay p fs label q is here) ∙ at in
          let e : q ≡ r = cc in
          absurd (omega (arith, sort_below p label q is here, ap (λ x. x.sort) e, sort))

  -- the last three are pairs
  last_pair : (label : ℕ) (r : Production) → slice_get (numbered (rule_parts p fs)).productions label ≡ Some r → length p.productions + length fs ≤ label → IsPair r.symbols
  last_pair label r at past =
      let l = mapped_at (numbered_line (names (rule_parts p fs))) (rule_parts p fs).productions label r at in
      let m = label - (length p.productions + length fs) in
      let one : label ≡ length p.productions + (length fs + m) = omega (arith, past) in
      let two : length fs + m ≡ length (map form_line fs) + m = omega (arith, length-map fs form_line) in
      let here : slice_get apart_lines m ≡ Some l.0 =
      sym (got_behind-at (map form_line fs) apart_lines (length fs + m) m two) ∙ sym (got_behind-at p.productions (map form_line fs ++ apart_lines) label (length fs + m) one) ∙ l.1 in
      subst (λ x. IsPair x.symbols) l.2 (apart_pairs (names (rule_parts p fs)) m l.0 here)

  no_brackets : (pair : plain.Brackets) → pair_of (numbered (rule_parts p fs)) (length p.sorts) ≡ Some pair → ⊥
  no_brackets pair e =
      let here : slice_get (numbered (rule_parts p fs)).sorts (length p.sorts) ≡ Some (numbered_sort judgement_sort) =
      slice_get-map numbered_sort (p.sorts ++ judgement_sort ∷ []) (length p.sorts) ∙ ap (option_map numbered_sort) (got_behind-at p.sorts (judgement_sort ∷ []) (length p.sorts) 0 (omega arith)) in
      let none : pair_of (numbered (rule_parts p fs)) (length p.sorts) ≡ None = ap plain.brackets_of here in
      absurd (none-some pair (sym none ∙ e))

  module _ (vs : List VarLine) (stems : Stems) (forms : List FormData) (are : AreStems p vs stems) (as_many : length forms ≡ length fs) (ts : List Token) (ns : List Text) where
    abbrev by_rules : Reader
    by_rules = record { parts = rule_parts p fs; stems = stems; forms = forms }

    labelled : (label : ℕ) → length p.productions ≤ label → label_of by_rules (label - length p.productions) ≡ label
    labelled label le = omega (arith, many, as_many, le)

    says_node : (label : ℕ) (r : Production) (from to : ℕ) (kids : Readings) → slice_get (numbered (rule_parts p fs)).productions label ≡ Some r → r.sort ≡ length p.sorts
        → ReadsAll (numbered (rule_parts p fs)) (plain_tokens stems ts) r.symbols from to kids → (q : Premise) × Says by_rules (node label (terms_of (plain_tokens stems ts) ns kids)) q
    says_node label r from to kids at sort all = by (cases_lt (label - length p.productions) (length fs))
      where
        Goal : Type 0
        Goal = (q : Premise) × Says by_rules (node label (terms_of (plain_tokens stems ts) ns kids)) q

        by : (label - length p.productions < length fs) ⊎ (length fs ≤ label - length p.productions) → Goal
        by (inl lt) =
            let here = labelled label (late label r at sort) in (
              holds (record { form = label - length p.productions; places = listed (terms_of (plain_tokens stems ts) ns kids) }),
              (
                omega (arith, lt, as_many),
                ap (λ l. node l (terms_of (plain_tokens stems ts) ns kids)) (sym here)
                    ∙ ap (node (label_of by_rules (label - length p.productions))) (sym (forest-listed (terms_of (plain_tokens stems ts) ns kids))),
              ),
            )
        by (inr past) =
            let le = late label r at sort in
            let within : label < length (numbered (rule_parts p fs)).productions = slice_get_within (numbered (rule_parts p fs)).productions label r at in
            let total : length (numbered (rule_parts p fs)).productions ≡ length (rule_parts p fs).productions = length-map (rule_parts p fs).productions (numbered_line (names (rule_parts p fs))) in
            let two = two_parts (numbered (rule_parts p fs)) (plain_tokens stems ts) all (last_pair label r at (omega (arith, past, le))) in
            let kind = label - length p.productions - length fs in
            let number : length forms + kind ≡ label - length p.productions = omega (arith, past, as_many) in
            let here : label_of by_rules (length forms + kind) ≡ label = ap (label_of by_rules) number ∙ labelled label le in (
              apart (term_of (plain_tokens stems ts) ns two.0) (term_of (plain_tokens stems ts) ns two.1),
              (
                kind,
                omega (arith, within, total, many, past, le),
                ap (λ l. node l (terms_of (plain_tokens stems ts) ns kids)) (sym here)
                    ∙ ap (λ k. node (label_of by_rules (length forms + kind)) (terms_of (plain_tokens stems ts) ns k)) two.2,
              ),
            )

    says : {sort least from to : ℕ} {r : Reading} → Reads (numbered (rule_parts p fs)) (plain_tokens stems ts) sort least from to r → sort ≡ length p.sorts
        → (q : Premise) × Says by_rules (term_of (plain_tokens stems ts) ns r) q
    says (by_production {from = from} {to = to} {label = label} {p = r} {kids = kids} at high all) e = says_node label r from to kids at e all
    says (by_brackets {pair = pair} at a inner b) e = absurd (no_brackets pair (subst (λ s. pair_of (numbered (rule_parts p fs)) s ≡ Some pair) e at))
    says (by_variable {from = from} m) e = absurd (token_below p vs stems ts from are (subst (λ s. Marked (plain_tokens stems ts) from (is_variable (of_sort s))) e m))

  last_sort : length (rule_parts p fs).sorts ≡ length p.sorts + 1
  last_sort = omega (arith, length-append p.sorts (judgement_sort ∷ []))

  is_judgements : IsSort (rule_parts p fs) (judgements (rule_parts p fs))
  is_judgements =
      let here : length (rule_parts p fs).sorts - 1 ≡ length p.sorts + 0 = omega (arith, last_sort) in
      (omega (arith, last_sort), ap is_typed (got_behind-at p.sorts (judgement_sort ∷ []) (length (rule_parts p fs).sorts - 1) 0 here))

  module _ (vs : List VarLine) (r : Reader) (are : AreStems p vs r.stems) (parts : r.parts ≡ rule_parts p fs) (as_many : length r.forms ≡ length fs) where
    -- the reader, whose parts are those of the grammar of rules
    same : r ≡ record { parts = rule_parts p fs; stems = r.stems; forms = r.forms }
    same = λ i. record { parts = parts i; stems = r.stems; forms = r.forms }

    pub reads_say : (text : Text) (old new : List Text) (t : Tree) → IsReadLine (rule_parts p fs) r.stems (judgements (rule_parts p fs)) text old new t →
        (q : Premise) × Says (record { parts = rule_parts p fs; stems = r.stems; forms = r.forms }) t q
    reads_say text old new t read =
        let here : length (rule_parts p fs).sorts - 1 ≡ length p.sorts = omega (arith, last_sort) in
        let q = says vs r.stems r.forms are as_many read.tokens new read.answer.1.0 here in
        (q.0, subst (λ x. Says (record { parts = rule_parts p fs; stems = r.stems; forms = r.forms }) x q.0) (sym read.term) q.1)

    room : length r.forms + 3 ≤ length (rule_parts p fs).productions
    room = omega (arith, many, as_many)

    -- the lines of rules can be read
    pub can_read : ((form : ℕ) (sort : Sort) → subject_sort r.forms form ≡ Some sort → IsSort (rule_parts p fs) sort) → CanReadRules r
    can_read subjects =
        let reads : CanReadRules (record { parts = rule_parts p fs; stems = r.stems; forms = r.forms }) = record { room = room; sort = is_judgements; says = reads_say; subjects = subjects } in
        subst CanReadRules (sym same) reads
