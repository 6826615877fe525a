use Rattle.std.proofs.Common.{◌≡◌, List, sym, subst, ap, length, ⊎_elim, arith}
use Rattle.std.proofs.lemmas.List.{length-map}
use Rattle.sx_grammar.specs.Parts.{labels}
use Rattle.sx_grammar.specs.Tables.{GrammarData}
use Rattle.sx_grammar.specs.ReadOne.{IsAnswer, only, ambiguous}
use Rattle.sx_earley.specs.Shown as grammars
use Rattle.sx_earley.specs.Shown.{plain, tokens_of}
use Rattle.sx_earley.specs.Tokens.{Stems, plain_tokens, read_token}
use Rattle.sx_earley.specs.Showing.{AllShow}
use Rattle.sx_earley.specs.declared.shown.Shown.{Shown}
use Rattle.sx_token.specs.declared.token.Token.{Token}
use Rattle.sx_grammar.specs.Made.{IsGrammar}
use Rattle.sx_earley.specs.Completed.{sort_number}
use Rattle.sx_earley.proofs.Sameness.{AllSame, shown_same, shown_below, shown_long}
use Rattle.std.specs.Prelude.{Result, Ok, Err, IfErr}
use Rattle.std.specs.Result.{IsErrAnd}
use Rattle.sx_forest.specs.declared.reading.Reading.{Reading}
use Rattle.sx_forest.specs.Readings.{plain_reading}
use Rattle.sx_forest.specs.Text.{token_texts, tree_text, IsWithin}
use Rattle.sx_forest.specs.Verdict.{IsFound, IsNotAfter, IsReadRefusal}
use Rattle.sx_forest.proofs.Fits.{readings_within}
use Rattle.sx_forest.proofs.Retelling.{answer_same, refusal_same}
use Rattle.sx_forest.proofs.ranked.read_ranked.Goals as goal
use Rattle.sx_forest.proofs.ranked.read_ranked.Goals.{After-deref, In_ok-reading, In-Two}

all_shown : (d e : GrammarData) (stems : Stems) (ts : List Token) (made ss : List Shown) → e ≡ d → ss ≡ made → AllShow (grammars.literal_texts e) stems ts made → AllShow (grammars.literal_texts d) stems ts ss
all_shown d e stems ts made ss same items all =
    subst (λ (x : GrammarData). AllShow (grammars.literal_texts x) stems ts ss) same (subst (AllShow (grammars.literal_texts e) stems ts) (sym items) all)

tokens_same : (d e : GrammarData) (stems : Stems) (ts : List Token) (made ss : List Shown) → e ≡ d → ss ≡ made → IsGrammar e.parts → AllShow (grammars.literal_texts e) stems ts made → AllSame (plain d) (tokens_of d ss) (plain_tokens stems ts)
tokens_same d e stems ts made ss same items is all =
    shown_same d (subst (λ (x : GrammarData). IsGrammar x.parts) same is) stems ts ss (all_shown d e stems ts made ss same items all)

-- what is shown is read as the tokens are
texts_same : (c : After-deref) → AllSame (plain c.args.by.now) (tokens_of c.args.by.now c.deref.result.now) (plain_tokens c.args.stems.now c.args.tokens.now)
texts_same c = tokens_same c.args.by.now c.grammar-grammar.result.now c.args.stems.now c.args.tokens.now c.in_ok-shown.shown.items c.deref.result.now c.grammar-grammar.ensures c.deref.ensures.value c.facts.ensures.grammar c.in_ok-shown.ensures

-- what is found of what is shown
reading_told : (c : In_ok-reading) → IsFound (plain c.args.by.now) (tokens_of c.args.by.now c.deref.result.now) (sort_number c.args.start) c.in_ok-reading.field-0
reading_told c = subst (λ m. IsFound (plain c.args.by.now) (tokens_of c.args.by.now c.deref.result.now) m c.in_ok-reading.field-0) c.number_of.ensures c.in_ok-reading.ensures.found

-- two readings of what is shown are two of the tokens
two_told : (c : In-Two) → AllSame (plain c.args.by.now) (tokens_of c.args.by.now c.deref.result.now) (plain_tokens c.args.stems.now c.args.tokens.now) → IsAnswer (plain c.args.by.now) (plain_tokens c.args.stems.now c.args.tokens.now) (sort_number c.args.start) (ambiguous (plain_reading c.in-Two.one) (plain_reading c.in-Two.other))
two_told c same =
    let g = plain c.args.by.now in let us = tokens_of c.args.by.now c.deref.result.now in let ts = plain_tokens c.args.stems.now c.args.tokens.now in
    let n = sort_number c.args.start in
    let found : IsFound g us n c.in_ok-reading.field-0 = subst (λ m. IsFound g us m c.in_ok-reading.field-0) c.number_of.ensures c.in_ok-reading.ensures.found in
    let here : IsAnswer g us n (ambiguous (plain_reading c.in-Two.one) (plain_reading c.in-Two.other)) = subst (IsFound g us n) c.in-Two.is found in
    answer_same g us ts same n (ambiguous (plain_reading c.in-Two.one) (plain_reading c.in-Two.other)) here

pub read_shown-requires-clause-short : goal.read_shown-requires-clause-short
read_shown-requires-clause-short c =
    let long = shown_long (grammars.literal_texts c.grammar-grammar.result.now) c.args.stems.now c.args.tokens.now c.in_ok-shown.shown.items c.in_ok-shown.ensures in
    omega (arith, long, ap length c.deref.ensures.value, c.requires.short)

pub read_shown-requires-clause-below : goal.read_shown-requires-clause-below
read_shown-requires-clause-below c =
    let d = c.args.by.now in
    shown_below (grammars.literal_texts d) c.args.stems.now c.args.tokens.now c.deref.result.now
    (all_shown d c.grammar-grammar.result.now c.args.stems.now c.args.tokens.now c.in_ok-shown.shown.items c.deref.result.now c.grammar-grammar.ensures c.deref.ensures.value c.in_ok-shown.ensures)

pub returns-in-Only-clause-only : goal.returns-in-Only-clause-only
returns-in-Only-clause-only c =
    let d = c.args.by.now in let stems = c.args.stems.now in let pieces = c.args.tokens.now in let g = plain d in
    let us = tokens_of d c.deref.result.now in let ts = plain_tokens stems pieces in
    let same = texts_same (goal.at.returns-in-Only-clause-only c).After-deref in
    let n = sort_number c.args.start in
    let found = reading_told (goal.at.returns-in-Only-clause-only c).In_ok-reading in
    let here : IsAnswer g us n (only (plain_reading c.in-Only.reading)) = subst (IsFound g us n) c.in-Only.is found in
    let answer = answer_same g us ts same n (only (plain_reading c.in-Only.reading)) here in
    answer

pub in_text_order-requires-clause-one_within : goal.in_text_order-requires-clause-one_within
in_text_order-requires-clause-one_within c =
    let g = plain c.args.by.now in let ts = plain_tokens c.args.stems.now c.args.tokens.now in let n = sort_number c.args.start in
    let answer = two_told (goal.at.in_text_order-requires-clause-one_within c).In-Two (texts_same (goal.at.in_text_order-requires-clause-one_within c).After-deref) in
    let long : length ts ≡ length c.args.tokens.now = length-map c.args.tokens.now (λ t. read_token c.args.stems.now t.mark t.text) in
    subst (λ (d : GrammarData). IsWithin (length d.parts.productions) (length c.args.tokens.now) (plain_reading c.in-Two.one)) (sym c.grammar-grammar.ensures)
    (subst (λ k. IsWithin (length c.args.by.now.parts.productions) k (plain_reading c.in-Two.one)) long
    (readings_within c.args.by.now.parts ts n 0 0 (length ts) (plain_reading c.in-Two.one) answer.2))

pub in_text_order-requires-clause-other_within : goal.in_text_order-requires-clause-other_within
in_text_order-requires-clause-other_within c =
    let g = plain c.args.by.now in let ts = plain_tokens c.args.stems.now c.args.tokens.now in let n = sort_number c.args.start in
    let answer = two_told (goal.at.in_text_order-requires-clause-other_within c).In-Two (texts_same (goal.at.in_text_order-requires-clause-other_within c).After-deref) in
    let long : length ts ≡ length c.args.tokens.now = length-map c.args.tokens.now (λ t. read_token c.args.stems.now t.mark t.text) in
    subst (λ (d : GrammarData). IsWithin (length d.parts.productions) (length c.args.tokens.now) (plain_reading c.in-Two.other)) (sym c.grammar-grammar.ensures)
    (subst (λ k. IsWithin (length c.args.by.now.parts.productions) k (plain_reading c.in-Two.other)) long
    (readings_within c.args.by.now.parts ts n 0 0 (length ts) (plain_reading c.in-Two.other) answer.3))

err_if : {T E : Type 0} (r : Result T E) (P Q : E → Type 0) → IsErrAnd r P → ((e : E) → P e → Q e) → IfErr r Q
err_if (Ok x) P Q h f = tt
err_if (Err e) P Q h f = f e h

pub returns-in_err-reading-clause-refused : goal.returns-in_err-reading-clause-refused
returns-in_err-reading-clause-refused c =
    let d = c.args.by.now in let stems = c.args.stems.now in let pieces = c.args.tokens.now in let g = plain d in
    let us = tokens_of d c.deref.result.now in let ts = plain_tokens stems pieces in
    let same = texts_same (goal.at.returns-in_err-reading-clause-refused c).After-deref in
    let n = sort_number c.args.start in
    let l = labels c.args.by.now.parts in let m = token_texts c.args.tokens.now in let x = c.in_err-reading.field-0.0 in
    let there : IsReadRefusal l m g us n x = subst (λ k. IsReadRefusal l m g us k x) c.number_of.ensures (c.in_err-reading.ensures.refused l m) in
    let here : IsReadRefusal l m g ts n x = refusal_same g us ts same n l m x there in
    err_if c.from_residual-in_err-reading.result _ (IsReadRefusal l m g ts n) c.from_residual-in_err-reading.ensures.1 (λ e is. subst (IsReadRefusal l m g ts n) (sym is) here)

pub returns-clause-refused : goal.returns-clause-refused
returns-clause-refused c =
    let g = plain c.args.by.now in let ts = plain_tokens c.args.stems.now c.args.tokens.now in let n = sort_number c.args.start in
    let answer = two_told (goal.at.returns-clause-refused c).In-Two (texts_same (goal.at.returns-clause-refused c).After-deref) in
    let P : Reading → Reading → Type 0 = λ x y. IsAnswer g ts n (ambiguous (plain_reading x) (plain_reading y)) in
    let a = c.in_ok-one-in-Two.one in let b = c.in_ok-one-in-Two.other in
    let flipped : P c.in-Two.other c.in-Two.one = (answer.0, answer.1, answer.3, answer.2, λ e. answer.4 (sym e)) in
    let both : P a b = ⊎_elim
    (λ p. subst (λ x. P x b) (sym p.0) (subst (λ y. P c.in-Two.one y) (sym p.1) answer))
    (λ p. subst (λ x. P x b) (sym p.0) (subst (λ y. P c.in-Two.other y) (sym p.1) flipped))
    c.in_ok-one-in-Two.ensures.pair in
    (both, subst (λ (d : GrammarData). IsNotAfter (tree_text (labels d.parts) (token_texts c.args.tokens.now) (plain_reading a)) (tree_text (labels d.parts) (token_texts c.args.tokens.now) (plain_reading b))) c.grammar-grammar.ensures c.in_ok-one-in-Two.ensures.order)
